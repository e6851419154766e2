-- What contracts see of a context: its layout, its column of values, its groups, and what is pending; and its cells.
use Rattle.std.specs.Prelude.{◌≡◌, ℕ, zero, suc, Bool, true, false, List, [], Some, None, length, map, refl}
use Rattle.std.specs.Coded.{Coded, code_by, coded×, coded_ℕ, coded_bool, coded_list}
use Rattle.std.specs.List.{list_all}
use Rattle.std.proofs.Props.{props}
use Rattle.px_column.specs.Prelude.{Datum, boolean, integer, text, bytes, list, items, Slot, Kind, lists, is_list_kind, Series, slot_at}
use Rattle.px_column.specs.Series.{coded_series}
use Rattle.px_frame.specs.Cell.{Cell, unit, rows}
use Rattle.px_frame.specs.Frame.{slots_at}
use Rattle.px_frame.specs.Groups.{Group, Groups}
use Rattle.px_context.specs.declared.agg_state.Layout.{Layout}
use Rattle.px_context.specs.declared.agg_state.Layout.TheVariants.{Lists, Scalars, Flat, Rows, Unit as Single}
use Rattle.px_context.specs.declared.agg_state.UpdateGroups.{UpdateGroups}
use Rattle.px_context.specs.declared.agg_state.UpdateGroups.TheVariants.{No, WithGroupsLen, WithSeriesLen}

-- a context: how it is laid out, its column of values, its groups, what becomes of these, and whether its layout is
-- the frame's own and untouched
pub record Context : Type 0 where
  pub layout : Layout
  pub values : Series
  pub groups : Groups
  pub update : UpdateGroups
  pub untouched : Bool

-- the items of a list, none of what is no list
abbrev pub items_of : Datum → List Slot
items_of (boolean b) = []
items_of (integer z) = []
items_of (text s) = []
items_of (bytes s) = []
items_of (list ds) = items ds

-- the items of a place, none of a null
abbrev pub items_at : Slot → List Slot
items_at None = []
items_at (Some d) = items_of d

-- the cells of values that are laid out so
abbrev pub cells_in : Layout → Series → Groups → List Cell
cells_in Lists s g = map (λ x. rows (items_at x)) s.slots
cells_in Scalars s g = map unit s.slots
cells_in Flat s g = map (λ p. rows (slots_at s.slots p.rows)) g.groups
cells_in Rows s g = map (λ _. rows s.slots) g.groups
cells_in Single s g = map (λ _. unit (slot_at s.slots 0)) g.groups

-- the cells of a context: one for each group
abbrev pub cells_of : Context → List Cell
cells_of c = cells_in c.layout c.values c.groups

-- the type of the items of lists
abbrev pub item_kind : Kind → Kind
item_kind (lists k) = k
item_kind k = k

-- the type of the cells' values, where they are laid out so
abbrev pub kind_in : Layout → Kind → Kind
kind_in Lists k = item_kind k
kind_in _ k = k

-- the type of the cells' values
abbrev pub cell_kind : Context → Kind
cell_kind c = kind_in c.layout c.values.kind

-- whether cells that are laid out so are units
abbrev pub has_units : Layout → Bool
has_units Scalars = true
has_units Single = true
has_units _ = false

-- a list stands at a place
abbrev pub is_list_slot : Slot → Bool
is_list_slot (Some (list ds)) = true
is_list_slot _ = false

-- a list of a type of lists for each group
pub record AreLists (s : Series) (g : Groups) : Type 0 where
  pub each : length s.slots ≡ length g.groups
  pub kind : is_list_kind s.kind ≡ true
  pub present : list_all is_list_slot s.slots ≡ true

-- the column has the rows that its layout wants
abbrev pub HasShape : Layout → Series → Groups → Type 0
HasShape Lists s g = AreLists s g
HasShape Scalars s g = length s.slots ≡ length g.groups
HasShape Flat s g = length s.slots ≡ g.height
HasShape Rows s g = Unit {0}
HasShape Single s g = length s.slots ≡ 1

-- that holds in one way
pub HasShape-prop : (l : Layout) (s : Series) (g : Groups) → IsProp (HasShape l s g)
HasShape-prop Lists s g = hlevel props
HasShape-prop Scalars s g = hlevel props
HasShape-prop Flat s g = hlevel props
HasShape-prop Rows s g = hlevel props
HasShape-prop Single s g = hlevel props

-- only lists have an update pending
abbrev pub MayUpdate : Layout → UpdateGroups → Type 0
MayUpdate Lists u = Unit {0}
MayUpdate Scalars u = u ≡ No
MayUpdate Flat u = u ≡ No
MayUpdate Rows u = u ≡ No
MayUpdate Single u = u ≡ No

-- what holds of each context
pub record IsContext (c : Context) : Type 0 where
  pub shape : HasShape c.layout c.values c.groups
  pub pending : MayUpdate c.layout c.update
  pub mark : c.untouched ≡ true → c.layout ≡ Flat

abbrev layout_number : Layout → ℕ
layout_number Lists = 0
layout_number Scalars = 1
layout_number Flat = 2
layout_number Rows = 3
layout_number Single = 4

abbrev layout_back : ℕ → Layout
layout_back zero = Lists
layout_back (suc zero) = Scalars
layout_back (suc (suc zero)) = Flat
layout_back (suc (suc (suc zero))) = Rows
layout_back (suc (suc (suc (suc n)))) = Single

pub layout_round : (l : Layout) → layout_back (layout_number l) ≡ l
layout_round Lists = refl
layout_round Scalars = refl
layout_round Flat = refl
layout_round Rows = refl
layout_round Single = refl

abbrev update_number : UpdateGroups → ℕ
update_number No = 0
update_number WithGroupsLen = 1
update_number WithSeriesLen = 2

abbrev update_back : ℕ → UpdateGroups
update_back zero = No
update_back (suc zero) = WithGroupsLen
update_back (suc (suc n)) = WithSeriesLen

pub update_round : (u : UpdateGroups) → update_back (update_number u) ≡ u
update_round No = refl
update_round WithGroupsLen = refl
update_round WithSeriesLen = refl

abbrev coded_layout : Coded Layout
coded_layout = code_by ℕ coded_ℕ layout_number layout_back layout_round

abbrev coded_update : Coded UpdateGroups
coded_update = code_by ℕ coded_ℕ update_number update_back update_round

abbrev coded_group : Coded Group
coded_group = code_by (ℕ × List ℕ) (coded× coded_ℕ (coded_list coded_ℕ)) (λ p. (p.first, p.rows)) (λ p. record { first = p.0; rows = p.1 }) (λ _. refl)

abbrev coded_groups : Coded Groups
coded_groups =
    code_by (ℕ × List Group) (coded× coded_ℕ (coded_list coded_group)) (λ g. (g.height, g.groups)) (λ p. record { height = p.0; groups = p.1 }) (λ _. refl)

-- contexts are told apart by their parts
abbrev pub coded_context : Coded Context
coded_context =
    code_by (Layout × (Series × (Groups × (UpdateGroups × Bool)))) (coded× coded_layout (coded× coded_series (coded× coded_groups (coded× coded_update coded_bool))))
    (λ c. (c.layout, (c.values, (c.groups, (c.update, c.untouched)))))
    (λ p. record { layout = p.0; values = p.1.0; groups = p.1.1.0; update = p.1.1.1.0; untouched = p.1.1.1.1 }) (λ _. refl)

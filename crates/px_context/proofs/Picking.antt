-- The cell of one group.
use Rattle.std.proofs.Common.{◌≡◌, ℕ, ◌<◌, true, List, [], Some, get_or, length, map, slice_get, ◌∙◌, ap, sym, subst}
use Rattle.std.specs.Option.{option_map}
use Rattle.std.proofs.lemmas.Option.{slice_get-get_or, slice_get-map}
use Rattle.px_column.specs.Prelude.{Series, is_list_kind, slot_at}
use Rattle.px_frame.specs.Cell.{Cell, rows, unit}
use Rattle.px_frame.specs.Frame.{slots_at}
use Rattle.px_frame.specs.Groups.{Group, Groups}
use Rattle.px_context.specs.Context.{Context, HasShape, IsContext, cells_in, is_list_slot, items_at, kind_in}
use Rattle.px_context.specs.Part.{Part, part, parts_in}
use Rattle.px_context.specs.declared.agg_state.Layout.{Layout}
use Rattle.px_context.specs.declared.agg_state.Layout.TheVariants.{Lists, Scalars, Flat, Rows, Unit as Single}
use Rattle.px_context.proofs.Reading.{all_read, slot_get}

abbrev no_group : Group
no_group = record { first = 0; rows = [] }

-- the cell of a group by its number
abbrev pub cell_at : Layout → Series → Groups → ℕ → Cell
cell_at Lists s g i = rows (items_at (slot_at s.slots i))
cell_at Scalars s g i = unit (slot_at s.slots i)
cell_at Flat s g i = rows (slots_at s.slots (get_or g.groups i no_group).rows)
cell_at Rows s g i = rows s.slots
cell_at Single s g i = unit (slot_at s.slots 0)

mapped : {X Y : Type 0} (f : X → Y) (xs : List X) (i : ℕ) (x : X) → slice_get xs i ≡ Some x → slice_get (map f xs) i ≡ Some (f x)
mapped f xs i x e = slice_get-map f xs i ∙ ap (option_map f) e

group_at : (gs : List Group) (i : ℕ) → i < length gs → slice_get gs i ≡ Some (get_or gs i no_group)
group_at gs i lt = slice_get-get_or gs i no_group lt

cell_got : (l : Layout) (s : Series) (g : Groups) (i : ℕ) → HasShape l s g → i < length g.groups → slice_get (cells_in l s g) i ≡ Some (cell_at l s g i)
cell_got Lists s g i h lt = mapped (λ x. rows (items_at x)) s.slots i (slot_at s.slots i) (slot_get s.slots i (subst (λ n. i < n) (sym h.each) lt))
cell_got Scalars s g i h lt = mapped unit s.slots i (slot_at s.slots i) (slot_get s.slots i (subst (λ n. i < n) (sym h) lt))
cell_got Flat s g i h lt = mapped (λ (p : Group). rows (slots_at s.slots p.rows)) g.groups i (get_or g.groups i no_group) (group_at g.groups i lt)
cell_got Rows s g i h lt = mapped (λ (p : Group). rows s.slots) g.groups i (get_or g.groups i no_group) (group_at g.groups i lt)
cell_got Single s g i h lt = mapped (λ (p : Group). unit (slot_at s.slots 0)) g.groups i (get_or g.groups i no_group) (group_at g.groups i lt)

-- a context that is laid out so has that cell
pub part_got : (c : Context) (l : Layout) (i : ℕ) → IsContext c → c.layout ≡ l → i < length c.groups.groups → slice_get (parts_in c.layout c.values c.groups) i ≡ Some (part (kind_in l c.values.kind) (cell_at l c.values c.groups i))
part_got c l i ok is lt =
    mapped (part (kind_in c.layout c.values.kind)) (cells_in c.layout c.values c.groups) i (cell_at c.layout c.values c.groups i) (cell_got c.layout c.values c.groups i ok.shape lt)
    ∙ ap (λ (m : Layout). Some (part (kind_in m c.values.kind) (cell_at m c.values c.groups i))) is

-- a list stands for each group of lists
pub list_there : (c : Context) (i : ℕ) → IsContext c → c.layout ≡ Lists → i < length c.groups.groups → is_list_slot (slot_at c.values.slots i) ≡ true
list_there c i ok is lt =
    let h = subst (λ (m : Layout). HasShape m c.values c.groups) is ok.shape in
    all_read is_list_slot c.values.slots i h.present (subst (λ n. i < n) (sym h.each) lt)

-- the group of a number
pub group_got : (gs : List Group) (i : ℕ) (p : Group) → slice_get gs i ≡ Some p → i < length gs → get_or gs i no_group ≡ p
group_got gs i p e lt = cc (group_at gs i lt, e)

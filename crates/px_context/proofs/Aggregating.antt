-- Cells stay what they are where a list or a value is laid out for each group.
use Rattle.std.proofs.Common.{◌≡◌, ℕ, zero, suc, ◌+◌, ◌^◌, Bool, true, false, List, [], ◌∷◌, Some, None, Ok, Err, cond, length, map, nat_lt, refl, replicate, sum, sym, ◌∙◌, ap, subst, arith}
use Rattle.std.specs.List.{list_all, range_with_len}
use Rattle.std.proofs.lemmas.List.{length-map, length-replicate}
use Rattle.px_column.specs.Datum.{boolean, integer, text, bytes, list, Slot, Slots, no_slots, absent, present, slots, items, items-slots}
use Rattle.px_value.proofs.FitLaws.{both}
use Rattle.px_column.specs.Kind.{Kind, is_list_kind, lists}
use Rattle.px_column.specs.Series.{Series, slot_at}
use Rattle.px_value.specs.declared.error.PxError.TheVariants.{ComputeError}
use Rattle.px_value.specs.declared.error.ComputeWhy.TheVariants.{TooLong}
use Rattle.px_frame.specs.Cell.{unit, rows, value_of_cell}
use Rattle.px_frame.specs.Frame.{slots_at}
use Rattle.px_frame.specs.Groups.{Groups, Group, lengths_of}
use Rattle.px_frame.specs.Reduced.{listed_by, reduced_at}
use Rattle.px_value.specs.declared.method.GroupByMethod.TheVariants.{Implode}
use Rattle.px_context.specs.Context.{AreLists, cells_in, is_list_slot, item_kind, items_at}
use Rattle.px_context.specs.Changes.{all_rows, first_repeated}
use Rattle.px_context.specs.declared.agg_state.Layout.TheVariants.{Lists, Scalars, Flat, Rows, Unit as Single}

-- what is made where it is not too long
pub unless_made : {X : Type 0} (b : Bool) (made x : X) → cond b (Ok made) (Err (ComputeError TooLong)) ≡ Ok x → x ≡ made
unless_made true made x e = cc
unless_made false made x e = cc

list_cells : (s : Series) (gs : List Group) → map (λ x. rows (items_at x)) (map (reduced_at Implode s) gs) ≡ map (λ p. rows (slots_at s.slots p.rows)) gs
list_cells s [] = refl
list_cells s (g ∷ gs) = λ i. rows (items-slots (slots_at s.slots g.rows) i) ∷ list_cells s gs i

are_lists_at : (s : Series) (gs : List Group) → list_all is_list_slot (map (reduced_at Implode s) gs) ≡ true
are_lists_at s [] = refl
are_lists_at s (g ∷ gs) = are_lists_at s gs

-- the lists of groups, where they are made
abbrev listed : Series → Groups → Series
listed s g = record { name = s.name; kind = lists s.kind; slots = map (reduced_at Implode s) g.groups }

listed_made : (s r : Series) (g : Groups) → listed_by s g ≡ Ok r → r ≡ listed s g
listed_made s r g e = unless_made (nat_lt (sum (lengths_of g)) (2 ^ 32)) (listed s g) r e

-- they are of a type of lists
pub kind_listed : (s r : Series) (g : Groups) → listed_by s g ≡ Ok r → r.kind ≡ lists s.kind
kind_listed s r g e = ap (λ (q : Series). q.kind) (listed_made s r g e)

-- under the column's name
pub name_listed : (s r : Series) (g : Groups) → listed_by s g ≡ Ok r → r.name ≡ s.name
name_listed s r g e = ap (λ (q : Series). q.name) (listed_made s r g e)

-- they are a list for each group
pub AreLists-listed : (s r : Series) (g : Groups) → listed_by s g ≡ Ok r → AreLists r g
AreLists-listed s r g e =
    subst (λ (q : Series). AreLists q g) (sym (listed_made s r g e)) (record { each = length-map g.groups (reduced_at Implode s); kind = refl; present = are_lists_at s g.groups })

-- and make the same cells
pub cells_listed : (s r : Series) (g : Groups) → listed_by s g ≡ Ok r → cells_in Lists r g ≡ cells_in Flat s g
cells_listed s r g e = ap (λ (q : Series). cells_in Lists q g) (listed_made s r g e) ∙ list_cells s g.groups

replicate_cells : {X Y : Type 0} (f : Slot → Y) (x : Slot) (gs : List X) → map f (replicate (length gs) x) ≡ map (λ _. f x) gs
replicate_cells f x [] = refl
replicate_cells f x (g ∷ gs) = ap (λ ys. f x ∷ ys) (replicate_cells f x gs)

pub cells_first : (s : Series) (g : Groups) → cells_in Scalars (first_repeated s (length g.groups)) g ≡ cells_in Single s g
cells_first s g = replicate_cells unit (slot_at s.slots 0) g.groups

-- a list is made of its items
slots-items : (ds : Slots) → slots (items ds) ≡ ds
slots-items no_slots = refl
slots-items (absent ds) = ap absent (slots-items ds)
slots-items (present d ds) = ap (present d) (slots-items ds)

slot_value : (x : Slot) → is_list_slot x ≡ true → value_of_cell (rows (items_at x)) ≡ x
slot_value None h = cc
slot_value (Some (boolean b)) h = cc
slot_value (Some (integer z)) h = cc
slot_value (Some (text s)) h = cc
slot_value (Some (bytes s)) h = cc
slot_value (Some (list ds)) h = ap (λ es. Some (list es)) (slots-items ds)

list_values : (xs : List Slot) → list_all is_list_slot xs ≡ true → map value_of_cell (map (λ x. rows (items_at x)) xs) ≡ xs
list_values [] h = refl
list_values (x ∷ xs) h = let p = both (is_list_slot x) (list_all is_list_slot xs) h in λ i. slot_value x p.0 i ∷ list_values xs p.1 i

unit_values : (xs : List Slot) → map value_of_cell (map unit xs) ≡ xs
unit_values [] = refl
unit_values (x ∷ xs) = ap (λ ys. x ∷ ys) (unit_values xs)

-- a column of a list for each group holds the cells' values
pub values_listed : (s : Series) (g : Groups) → AreLists s g → s.slots ≡ map value_of_cell (cells_in Lists s g)
values_listed s g h = sym (list_values s.slots h.present)

pub values_scalar : (s : Series) (g : Groups) → s.slots ≡ map value_of_cell (cells_in Scalars s g)
values_scalar s g = sym (unit_values s.slots)

-- the group of all rows of a height
abbrev pub whole_group : ℕ → Group
whole_group n = record { first = 0; rows = range_with_len 0 n }

-- all rows of a list, read one after another
pub shift : (x : Slot) (xs : List Slot) (a n : ℕ) → map (slot_at (x ∷ xs)) (range_with_len (suc a) n) ≡ map (slot_at xs) (range_with_len a n)
shift x xs a zero = refl
shift x xs a (suc n) =
    let e : suc a + 1 ≡ suc (a + 1) = omega arith in
    ap (λ ys. slot_at xs a ∷ ys) (ap (λ m. map (slot_at (x ∷ xs)) (range_with_len m n)) e ∙ shift x xs (a + 1) n)

pub slots_all : (xs : List Slot) → slots_at xs (range_with_len 0 (length xs)) ≡ xs
slots_all [] = refl
slots_all (x ∷ xs) = ap (λ ys. x ∷ ys) (let e : 0 + 1 ≡ suc 0 = omega arith in ap (λ m. map (slot_at (x ∷ xs)) (range_with_len m (length xs))) e ∙ shift x xs 0 (length xs) ∙ slots_all xs)

-- the lists of a literal are a list for each group
pub AreLists-whole : (s r : Series) (g : Groups) → listed_by s (all_rows (length g.groups) (length s.slots)) ≡ Ok r → AreLists r g
AreLists-whole s r g e =
    let lists = AreLists-listed s r (all_rows (length g.groups) (length s.slots)) e in
    record { each = lists.each ∙ length-replicate (length g.groups) (whole_group (length s.slots)); kind = lists.kind; present = lists.present }

whole_cells : {X : Type 0} (s : Series) (gs : List X) → map (λ p. rows (slots_at s.slots p.rows)) (replicate (length gs) (whole_group (length s.slots))) ≡ map (λ _. rows s.slots) gs
whole_cells s [] = refl
whole_cells s (g ∷ gs) = λ i. rows (slots_all s.slots i) ∷ whole_cells s gs i

-- and make the same cells
pub cells_whole : (s r : Series) (g : Groups) → listed_by s (all_rows (length g.groups) (length s.slots)) ≡ Ok r → cells_in Lists r g ≡ cells_in Rows s g
cells_whole s r g e = cells_listed s r (all_rows (length g.groups) (length s.slots)) e ∙ whole_cells s g.groups

-- a type of lists is one of lists of its items' type
pub kind_lists : (k : Kind) → is_list_kind k ≡ true → k ≡ lists (item_kind k)
kind_lists (lists k) h = refl
kind_lists _ h = cc

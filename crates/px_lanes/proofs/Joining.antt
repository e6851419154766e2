-- The contexts of cells of one name, type and shape.
use Rattle.std.proofs.Common.{◌≡◌, ◌⊎◌, inl, inr, ℕ, Bool, suc, ◌+◌, ◌^◌, ◌<◌, ◌≤◌, true, false, List, [], ◌∷◌, ◌++◌, Result, Ok, Err, cond, fold, length, map, nat_lt, refl, replicate, sum, sym, ap, ◌∙◌, arith, append_assoc, length-append}
use Rattle.std.specs.List.{range_with_len}
use Rattle.std.proofs.lemmas.Bool.Decides.{nat_tests}
use Rattle.std.proofs.lemmas.List.{length-map}
use Rattle.std.proofs.lemmas.List.Concat.{length-flat_map}
use Rattle.px_column.specs.Prelude.{Kind, Refuses, Series, Slot, slot_at}
use Rattle.px_value.specs.declared.error.ComputeWhy.TheVariants.{TooLong}
use Rattle.px_value.specs.declared.error.PxError.{PxError}
use Rattle.px_value.specs.declared.error.PxError.TheVariants.{ComputeError, OutOfMemory}
use Rattle.px_frame.specs.Cell.{Cell, unit, rows, count_of, is_unit_cell, list_of}
use Rattle.px_frame.specs.Consecutive.{consecutive, slices_from}
use Rattle.px_frame.specs.Frame.{slots_at}
use Rattle.px_frame.specs.Groups.{Group, Groups}
use Rattle.px_frame.specs.Spread.{NamedCell}
use Rattle.px_context.proofs.Aggregating.{shift, unless_made}
use Rattle.px_context.specs.Built.{with_column}
use Rattle.px_context.specs.Context.{Context}
use Rattle.px_lanes.specs.Alike.{AreLike, AreOf, flat_over, lengths_in, values_in}
use Rattle.px_lanes.specs.Made.{named_cells}
use Rattle.px_value.proofs.Refusing.{refuses_or}

-- a cell under a name and with a type
abbrev pub named : List ℕ → Kind → Cell → NamedCell
named name k c = record { name = name; kind = k; cell = c }

abbrev okay : Groups → Result Groups PxError
okay g = Ok g

-- cells of one kind have one type
pub of_like : (name : List ℕ) (k : Kind) (one : Bool) (cs : List NamedCell) → AreLike name k one cs → AreOf k cs
of_like name k one [] h = tt
of_like name k one (c ∷ cs) h = (h.0.kind_is, of_like name k one cs h.1)

sum_map : {X : Type 0} (f : X → ℕ) (xs : List X) (a : ℕ) → fold (λ b x. b + x) a (map f xs) ≡ fold (λ b x. b + f x) a xs
sum_map f [] a = refl
sum_map f (x ∷ xs) a = sum_map f xs (a + f x)

-- the number of all values
pub length_values : (cs : List NamedCell) → length (values_in cs) ≡ sum (lengths_in cs)
length_values cs = length-flat_map (λ (c : NamedCell). list_of c.cell) cs ∙ sym (sum_map (λ (c : NamedCell). count_of c.cell) cs 0)

unit_list : (c : Cell) → is_unit_cell c ≡ true → list_of c ≡ slot_at (list_of c) 0 ∷ []
unit_list (unit s) h = refl
unit_list (rows xs) h = cc

-- units have a value each
pub length_units : (name : List ℕ) (k : Kind) (cs : List NamedCell) → AreLike name k true cs → length (values_in cs) ≡ length cs
length_units name k [] h = refl
length_units name k (c ∷ cs) h =
    ap (λ ys. length (ys ++ values_in cs)) (unit_list c.cell h.0.shape) ∙ ap suc (length_units name k cs h.1)

unit_again : (name : List ℕ) (k : Kind) (n : List ℕ) (t : Kind) (c : Cell) (ys : List Slot) → n ≡ name → t ≡ k → is_unit_cell c ≡ true
    → map (λ (x : Slot). named name k (unit x)) (list_of c ++ ys) ≡ named n t c ∷ map (λ (x : Slot). named name k (unit x)) ys
unit_again name k n t (unit s) ys p q h = λ i. named (sym p i) (sym q i) (unit s) ∷ map (λ (x : Slot). named name k (unit x)) ys
unit_again name k n t (rows xs) ys p q h = cc

-- the cells of a column of their values
units_read : (name : List ℕ) (k : Kind) (cs : List NamedCell) → AreLike name k true cs → map (λ (x : Slot). named name k (unit x)) (values_in cs) ≡ cs
units_read name k [] h = refl
units_read name k (c ∷ cs) h =
    unit_again name k c.name c.kind c.cell (values_in cs) h.0.name_is h.0.kind_is h.0.shape ∙ ap (λ ds. c ∷ ds) (units_read name k cs h.1)

front : (ys zs : List Slot) → slots_at (ys ++ zs) (range_with_len 0 (length ys)) ≡ ys
front [] zs = refl
front (y ∷ ys) zs =
    ap (λ us. y ∷ us) (let e : 0 + 1 ≡ suc 0 = omega arith in ap (λ m. map (slot_at (y ∷ (ys ++ zs))) (range_with_len m (length ys))) e ∙ shift y (ys ++ zs) 0 (length ys) ∙ front ys zs)

middle : (xs ys zs : List Slot) → slots_at (xs ++ (ys ++ zs)) (range_with_len (length xs) (length ys)) ≡ ys
middle [] ys zs = front ys zs
middle (x ∷ xs) ys zs = shift x (xs ++ (ys ++ zs)) (length xs) (length ys) ∙ middle xs ys zs

list_cell : (c : Cell) → is_unit_cell c ≡ false → rows (list_of c) ≡ c
list_cell (rows xs) h = refl
list_cell (unit s) h = cc

lists_read : (name : List ℕ) (k : Kind) (first : List Slot) (cs : List NamedCell) → AreLike name k false cs
    → map (λ (p : Group). named name k (rows (slots_at (first ++ values_in cs) p.rows))) (slices_from (length first) (lengths_in cs)) ≡ cs
lists_read name k first [] h = refl
lists_read name k first (c ∷ cs) h =
    let xs = list_of c.cell in
    let apart : first ++ (xs ++ values_in cs) ≡ (first ++ xs) ++ values_in cs = sym (append_assoc first xs (values_in cs)) in
    let after : length first + length xs ≡ length (first ++ xs) = sym (length-append first xs) in
    let next = lists_read name k (first ++ xs) cs h.1 in
    λ i. (ap (λ ys. named name k (rows ys)) (middle first xs (values_in cs)) ∙ (λ j. named (sym h.0.name_is j) (sym h.0.kind_is j) (list_cell c.cell h.0.shape j))) i
    ∷ ((λ j. map (λ (p : Group). named name k (rows (slots_at (apart j) p.rows))) (slices_from (after j) (lengths_in cs))) ∙ next) i

length_slices : (n : ℕ) (ls : List ℕ) → length (slices_from n ls) ≡ length ls
length_slices n [] = refl
length_slices n (l ∷ ls) = ap suc (length_slices (n + l) ls)

over : {A B C : Type 0} (f : B → C) (g : A → B) (xs : List A) → map f (map g xs) ≡ map (λ x. f (g x)) xs
over f g [] = refl
over f g (x ∷ xs) = ap (λ ys. f (g x) ∷ ys) (over f g xs)

sliced : (ls : List ℕ) (g : Groups) → consecutive ls ≡ Ok g → record { height = sum ls; groups = slices_from 0 ls } ≡ g
sliced ls g h = sym (unless_made (nat_lt (sum ls) (2 ^ 32)) _ g h)

module _ (name : List ℕ) (k : Kind) (cs : List NamedCell) where
  -- the context of units
  pub units_made : (c : Context) → AreLike name k true cs → named_cells (with_column true c (record { name = name; kind = k; slots = values_in cs })) ≡ cs
  units_made c h = over (named name k) unit (values_in cs) ∙ units_read name k cs h

  -- the context of lists
  pub lists_made : (s : Series) (g : Groups) → AreLike name k false cs → s ≡ record { name = name; kind = k; slots = values_in cs } → consecutive (lengths_in cs) ≡ Ok g → named_cells (flat_over s g) ≡ cs
  lists_made s g h e f =
      (λ i. named_cells (flat_over (e i) (sym (sliced (lengths_in cs) g f) i)))
      ∙ over (named name k) (λ (p : Group). rows (slots_at (values_in cs) p.rows)) (slices_from 0 (lengths_in cs)) ∙ lists_read name k [] cs h

  -- for each of them a group
  pub lists_count : (g : Groups) → consecutive (lengths_in cs) ≡ Ok g → length g.groups ≡ length cs
  lists_count g f = ap (λ (q : Groups). length q.groups) (sym (sliced (lengths_in cs) g f)) ∙ length_slices 0 (lengths_in cs) ∙ length-map cs (λ (c : NamedCell). count_of c.cell)

-- the rows of a column, each a list of its own
abbrev pub apart : Series → List NamedCell
apart s = map (named s.name s.kind) (map (λ x. rows (x ∷ [])) s.slots)

like_apart : (name : List ℕ) (k : Kind) (xs : List Slot) → AreLike name k false (map (named name k) (map (λ x. rows (x ∷ [])) xs))
like_apart name k [] = tt
like_apart name k (x ∷ xs) = (record { name_is = refl; kind_is = refl; shape = refl }, like_apart name k xs)

values_apart : (name : List ℕ) (k : Kind) (xs : List Slot) → values_in (map (named name k) (map (λ x. rows (x ∷ [])) xs)) ≡ xs
values_apart name k [] = refl
values_apart name k (x ∷ xs) = ap (λ ys. x ∷ ys) (values_apart name k xs)

lengths_apart : (name : List ℕ) (k : Kind) (xs : List Slot) → lengths_in (map (named name k) (map (λ x. rows (x ∷ [])) xs)) ≡ replicate (length xs) 1
lengths_apart name k [] = refl
lengths_apart name k (x ∷ xs) = ap (λ ns. 1 ∷ ns) (lengths_apart name k xs)

-- there are as many as rows
pub sum_ones : (s : Series) → sum (replicate (length s.slots) 1) ≡ length s.slots
sum_ones s = ap sum (sym (lengths_apart s.name s.kind s.slots)) ∙ sym (length_values (apart s)) ∙ ap length (values_apart s.name s.kind s.slots)

module _ (s : Series) (g : Groups) (e : consecutive (replicate (length s.slots) 1) ≡ Ok g) where
  slices_apart : consecutive (lengths_in (apart s)) ≡ Ok g
  slices_apart = ap consecutive (lengths_apart s.name s.kind s.slots) ∙ e

  -- the context of these
  pub apart_made : named_cells (flat_over s g) ≡ apart s
  apart_made = lists_made s.name s.kind (apart s) s g (like_apart s.name s.kind s.slots) (λ i. record { name = s.name; kind = s.kind; slots = sym (values_apart s.name s.kind s.slots) i }) slices_apart

  pub apart_count : length g.groups ≡ length s.slots
  apart_count = lists_count s.name s.kind (apart s) g slices_apart ∙ length-map (map (λ x. rows (x ∷ [])) s.slots) (named s.name s.kind) ∙ length-map s.slots (λ x. rows (x ∷ []))

long_by : (n : ℕ) (made g : Groups) (b : Bool) → nat_lt n (2 ^ 32) ≡ b → cond b (Ok made) (Err (ComputeError TooLong)) ≡ okay g → n < 2 ^ 32
long_by n made g true h e = grind (arith, nat_tests, h)
long_by n made g false h e = cc

-- slices that are made are of fewer than 2^32 rows together, which are their height
pub consecutive_short : (ls : List ℕ) (g : Groups) → consecutive ls ≡ Ok g → sum ls < 2 ^ 32
consecutive_short ls g e = long_by (sum ls) (record { height = sum ls; groups = slices_from 0 ls }) g (nat_lt (sum ls) (2 ^ 32)) refl e

pub consecutive_height : (ls : List ℕ) (g : Groups) → consecutive ls ≡ Ok g → sum ls ≡ g.height
consecutive_height ls g e = ap (λ (q : Groups). q.height) (sliced ls g e)

refused_by : (n : ℕ) (made : Groups) (e : PxError) (b : Bool) → nat_lt n (2 ^ 32) ≡ b → cond b (okay made) (Err (ComputeError TooLong)) ≡ Err e → (e ≡ ComputeError TooLong) × (2 ^ 32 ≤ n)
refused_by n made e true h f = cc
refused_by n made e false h f = (cc, grind (arith, nat_tests, h))

-- and slices are refused where there are as many
pub consecutive_long : (ls : List ℕ) (e : PxError) → Refuses e (consecutive ls) → (e ≡ OutOfMemory) ⊎ ((e ≡ ComputeError TooLong) × (2 ^ 32 ≤ sum ls))
consecutive_long ls e h = by (refuses_or e (consecutive ls) h)
  where
    by : (e ≡ OutOfMemory) ⊎ (consecutive ls ≡ Err e) → (e ≡ OutOfMemory) ⊎ ((e ≡ ComputeError TooLong) × (2 ^ 32 ≤ sum ls))
    by (inl m) = inl m
    by (inr f) = inr (refused_by (sum ls) (record { height = sum ls; groups = slices_from 0 ls }) e (nat_lt (sum ls) (2 ^ 32)) refl f)

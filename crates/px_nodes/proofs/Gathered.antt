-- The rows that indices name, as a column takes them.
use Rattle.std.proofs.Common.{◌≡◌, ℕ, suc, ◌+◌, ◌-◌, pos, negsuc, Bool, true, false, ◌&&◌, not, if◌then◌else◌, List, [], ◌∷◌, Some, None, Ok, Err, is_some, length, map, nat_lt, refl, sym, ◌∙◌, ap, arith, add-one}
use Rattle.std.specs.List.{list_all}
use Rattle.std.proofs.lemmas.Bool.Decides.{nat_tests}
use Rattle.px_column.specs.Column.{all_within, is_within, taken, taken_at}
use Rattle.px_column.specs.Operator.{is_integer_kind}
use Rattle.px_column.specs.Prelude.{boolean, integer, text, bytes, list, Slot, Kind, booleans, int8s, int16s, int32s, int64s, uint8s, uint16s, uint32s, uint64s, strings, binaries, nulls, lists, Series, slot_fits, slots_fit, slot_at}
use Rattle.px_column.specs.Result.{◌>>=◌}
use Rattle.px_column.specs.Rows.{with_rows}
use Rattle.px_value.specs.declared.error.ComputeWhy.TheVariants.{NullIndex, SingleIndex}
use Rattle.px_value.specs.declared.error.InvalidWhy.TheVariants.{Types}
use Rattle.px_value.specs.declared.error.PxError.TheVariants.{ComputeError, InvalidOperation, OutOfBounds}
use Rattle.px_value.proofs.FitLaws.{both}
use Rattle.px_frame.specs.Cell.{list_of, is_unit_cell, cell_of}
use Rattle.px_frame.specs.Spread.{NamedCell, column_of_cell}
use Rattle.px_frame.specs.Unsigned.{names_place, place_at, places_of}
use Rattle.px_tree.specs.Node.{indexed, is_index, is_null_unit}
use Rattle.px_tree.specs.Typing.{is_integer_or_null}
use Rattle.px_nodes.specs.Named.{as_cell, gather_named, gathered_column, under}
use Rattle.px_nodes.proofs.Numbers.{only_numbers}

pub and_false : (a b : Bool) → b ≡ false → (a && b) ≡ false
and_false true b h = h
and_false false b h = refl

-- a type of integers is one of integers or nulls
integer_or_null : (k : Kind) → is_integer_kind k ≡ true → is_integer_or_null k ≡ true
integer_or_null booleans h = h
integer_or_null int8s h = h
integer_or_null int16s h = h
integer_or_null int32s h = h
integer_or_null int64s h = h
integer_or_null uint8s h = h
integer_or_null uint16s h = h
integer_or_null uint32s h = h
integer_or_null uint64s h = h
integer_or_null strings h = h
integer_or_null binaries h = h
integer_or_null nulls h = refl
integer_or_null (lists k) h = h

some_where : (b : Bool) (i : ℕ) → is_some (if b then Some i else None) ≡ b
some_where true i = refl
some_where false i = refl

-- an index names a place where it is one
names_index : (k : Kind) (n : ℕ) (s : Slot) → is_integer_kind k ≡ true → slot_fits k s ≡ true → names_place n s ≡ is_index n s
names_index k n None h e = refl
names_index k n (Some (integer (pos i))) h e = some_where (nat_lt i n) i
names_index k n (Some (integer (negsuc i))) h e = some_where (nat_lt i n) (n - suc i)
names_index k n (Some (boolean b)) h e = absurd (cc (only_numbers k (boolean b) (integer_or_null k h) e))
names_index k n (Some (text t)) h e = absurd (cc (only_numbers k (text t) (integer_or_null k h) e))
names_index k n (Some (bytes t)) h e = absurd (cc (only_numbers k (bytes t) (integer_or_null k h) e))
names_index k n (Some (list ds)) h e = absurd (cc (only_numbers k (list ds) (integer_or_null k h) e))

name_indices : (k : Kind) (n : ℕ) (xs : List Slot) → is_integer_kind k ≡ true → slots_fit k xs ≡ true → list_all (names_place n) xs ≡ list_all (is_index n) xs
name_indices k n [] h e = refl
name_indices k n (x ∷ xs) h e =
    let p = both (slot_fits k x) (slots_fit k xs) e in
    λ i. names_index k n x h p.0 i && name_indices k n xs h p.1 i

less_suc : (n i : ℕ) → nat_lt i n ≡ true → nat_lt (n - suc i) n ≡ true
less_suc n i h = grind (arith, nat_tests)

-- the place that an index names is there
place_within : (n : ℕ) (s : Slot) → names_place n s ≡ true → is_within n (place_at n s) ≡ true
place_within n None h = refl
place_within n (Some (boolean b)) h = refl
place_within n (Some (text t)) h = refl
place_within n (Some (bytes t)) h = refl
place_within n (Some (list ds)) h = refl
place_within n (Some (integer (pos i))) h = by (nat_lt i n) refl h
  where
    by : (b : Bool) → nat_lt i n ≡ b → is_some (if b then Some i else None) ≡ true → is_within n (if b then Some i else None) ≡ true
    by true e g = e
    by false e g = refl
place_within n (Some (integer (negsuc i))) h = by (nat_lt i n) refl h
  where
    by : (b : Bool) → nat_lt i n ≡ b → is_some (if b then Some (n - suc i) else None) ≡ true → is_within n (if b then Some (n - suc i) else None) ≡ true
    by true e g = less_suc n i e
    by false e g = refl

all_places_within : (n : ℕ) (xs : List Slot) → list_all (names_place n) xs ≡ true → all_within n (map (place_at n) xs) ≡ true
all_places_within n [] h = refl
all_places_within n (x ∷ xs) h =
    let p = both (names_place n x) (list_all (names_place n) xs) h in
    λ i. place_within n x p.0 i && all_places_within n xs p.1 i

-- what stands there is what the index names
taken_index : (ys : List Slot) (s : Slot) → names_place (length ys) s ≡ true → taken_at ys (place_at (length ys) s) ≡ indexed ys s
taken_index ys None h = refl
taken_index ys (Some (boolean b)) h = refl
taken_index ys (Some (text t)) h = refl
taken_index ys (Some (bytes t)) h = refl
taken_index ys (Some (list ds)) h = refl
taken_index ys (Some (integer (pos i))) h = by (nat_lt i (length ys)) h
  where
    by : (b : Bool) → is_some (if b then Some i else None) ≡ true → taken_at ys (if b then Some i else None) ≡ slot_at ys i
    by true g = refl
    by false g = absurd (cc)
taken_index ys (Some (integer (negsuc i))) h = by (nat_lt i (length ys)) h
  where
    by : (b : Bool) → is_some (if b then Some (length ys - suc i) else None) ≡ true → taken_at ys (if b then Some (length ys - suc i) else None) ≡ slot_at ys (length ys - (i + 1))
    by true g = ap (λ j. slot_at ys (length ys - j)) (sym (add-one i))
    by false g = absurd (cc)

taken_indices : (ys xs : List Slot) → list_all (names_place (length ys)) xs ≡ true → map (taken_at ys) (map (place_at (length ys)) xs) ≡ map (indexed ys) xs
taken_indices ys [] h = refl
taken_indices ys (x ∷ xs) h =
    let p = both (names_place (length ys) x) (list_all (names_place (length ys)) xs) h in
    λ i. taken_index ys x p.0 i ∷ taken_indices ys xs p.1 i

-- the rows at the places that indices name
pub gathered_places : (s idx : Series) → is_integer_kind idx.kind ≡ true → slots_fit idx.kind idx.slots ≡ true → (places_of (length s.slots) idx >>= taken s) ≡ gathered_column s idx
gathered_places s idx h e =
    ap (λ (b : Bool). (if b then (if list_all (names_place (length s.slots)) idx.slots then Ok (map (place_at (length s.slots)) idx.slots) else Err OutOfBounds) else Err (InvalidOperation Types)) >>= taken s) h
    ∙ by (list_all (names_place (length s.slots)) idx.slots) refl
    ∙ ap (λ (b : Bool). if b then Ok (with_rows s (map (indexed s.slots) idx.slots)) else Err OutOfBounds) (name_indices idx.kind (length s.slots) idx.slots h e)
  where
    by : (b : Bool) → list_all (names_place (length s.slots)) idx.slots ≡ b
        → ((if b then Ok (map (place_at (length s.slots)) idx.slots) else Err OutOfBounds) >>= taken s) ≡ (if b then Ok (with_rows s (map (indexed s.slots) idx.slots)) else Err OutOfBounds)
    by true g =
        ap (λ (b : Bool). if b then Ok (with_rows s (map (taken_at s.slots) (map (place_at (length s.slots)) idx.slots))) else Err OutOfBounds) (all_places_within (length s.slots) idx.slots g)
        ∙ ap (λ ys. Ok (with_rows s ys)) (taken_indices s.slots idx.slots g)
    by false g = refl

-- the gathered rows of a cell are those of its column
pub gather_made : (one literal : Bool) (c idx : NamedCell) → is_integer_kind idx.kind ≡ true → (one && not (is_unit_cell idx.cell)) ≡ false → (literal && is_null_unit idx.cell) ≡ false
    → as_cell one (gathered_column (column_of_cell c) (column_of_cell idx)) ≡ gather_named one literal c idx
gather_made one literal c idx h single null =
    by (is_integer_kind idx.kind) h (one && not (is_unit_cell idx.cell)) single (literal && is_null_unit idx.cell) null (list_all (is_index (length (list_of c.cell))) (list_of idx.cell))
  where
    by : (a : Bool) → a ≡ true → (b : Bool) → b ≡ false → (d : Bool) → d ≡ false → (e : Bool)
        → as_cell one (if e then Ok (with_rows (column_of_cell c) (map (indexed (list_of c.cell)) (list_of idx.cell))) else Err OutOfBounds)
        ≡ (if a then (if b then Err (ComputeError SingleIndex) else under c.name c.kind (if d then Err (ComputeError NullIndex) else if e then Ok (cell_of one (map (indexed (list_of c.cell)) (list_of idx.cell))) else Err OutOfBounds)) else Err (InvalidOperation Types))
    by false i b j d k e = absurd (cc)
    by true i true j d k e = absurd (cc)
    by true i false j true k e = absurd (cc)
    by true i false j false k true = refl
    by true i false j false k false = refl

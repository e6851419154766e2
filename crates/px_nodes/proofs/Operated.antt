-- Nodes of cells side by side are their kernels on the cells' columns.
use Rattle.std.proofs.Common.{◌≡◌, ℕ, Bool, true, false, ◌&&◌, if◌then◌else◌, List, [], ◌∷◌, Result, Ok, Err, length, refl, sym, ◌∙◌, ap}
use Rattle.px_column.specs.Beside.{common_length, length_of_three, rows_to, zipped, zipped_three}
use Rattle.px_column.specs.Chosen.{chosen, chosen_column}
use Rattle.px_column.specs.Operated.{operated_column}
use Rattle.px_column.specs.Operator.{is_boolean_kind, kind_where, operated, operator_kind}
use Rattle.px_column.specs.Prelude.{Slot, Kind, Series, kind_eq}
use Rattle.px_column.specs.Result.{◌>>=◌}
use Rattle.px_value.specs.declared.error.PxError.{PxError}
use Rattle.px_value.specs.declared.error.PxError.TheVariants.{SchemaMismatch}
use Rattle.px_value.specs.declared.operator.Operator.{Operator}
use Rattle.px_frame.specs.Cell.{Cell, unit, rows, list_of, count_of, is_unit_cell}
use Rattle.px_frame.specs.Spread.{NamedCell, column_of_cell}
use Rattle.px_tree.specs.Node.{binary_cell, ternary_cell}
use Rattle.px_nodes.specs.Named.{as_cell, binary_named, ternary_named, under, unequal}
use Rattle.px_nodes.specs.Together.{are_two_beside, are_two_units, are_three_beside, are_three_units}
use Rattle.px_nodes.proofs.Alongside.{two_beside, two_apart, three_beside, common_two, common_three}

-- two columns at their common length, as a node of this name
abbrev two_columns : List ℕ → Result Kind PxError → (Slot → Slot → Slot) → Cell → Cell → Result Series PxError
two_columns name kind f a b =
    kind >>= λ k. common_length (count_of a) (count_of b) >>= λ n. Ok (record { name = name; kind = k; slots = zipped f (rows_to n (list_of a)) (rows_to n (list_of b)) })

-- three columns at their common length, as a node of this name
abbrev three_columns : List ℕ → Result Kind PxError → (Slot → Slot → Slot → Slot) → Cell → Cell → Cell → Result Series PxError
three_columns name kind f a b c =
    kind >>= λ k. length_of_three (count_of a) (count_of b) (count_of c) >>= λ n.
    Ok (record { name = name; kind = k; slots = zipped_three f (rows_to n (list_of a)) (rows_to n (list_of b)) (rows_to n (list_of c)) })

-- one row of units alone
pub one_of_two : (name : List ℕ) (kind : Result Kind PxError) (f : Slot → Slot → Slot) (a b : Cell) (s : Series) → two_columns name kind f a b ≡ Ok s → are_two_units a b ≡ true → length s.slots ≡ 1
one_of_two name (Err e) f a b s h u = absurd (cc)
one_of_two name (Ok k) f (rows xs) b s h u = absurd (cc)
one_of_two name (Ok k) f (unit x) (rows ys) s h u = absurd (cc)
one_of_two name (Ok k) f (unit x) (unit y) s h u =
    let same : record { name = name; kind = k; slots = f x y ∷ [] } ≡ s = cc in
    sym (ap (λ (t : Series). length t.slots) same)

pub one_of_three : (name : List ℕ) (kind : Result Kind PxError) (f : Slot → Slot → Slot → Slot) (a b c : Cell) (s : Series) → three_columns name kind f a b c ≡ Ok s
    → are_three_units a b c ≡ true → length s.slots ≡ 1
one_of_three name (Err e) f a b c s h u = absurd (cc)
one_of_three name (Ok k) f (rows xs) b c s h u = absurd (cc)
one_of_three name (Ok k) f (unit x) (rows ys) c s h u = absurd (cc)
one_of_three name (Ok k) f (unit x) (unit y) (rows zs) s h u = absurd (cc)
one_of_three name (Ok k) f (unit x) (unit y) (unit z) s h u =
    let same : record { name = name; kind = k; slots = f x y z ∷ [] } ≡ s = cc in
    sym (ap (λ (t : Series). length t.slots) same)

-- an operator on cells side by side
pub binary_made : (op : Operator) (a b : NamedCell) → are_two_beside a.cell b.cell ≡ true
    → as_cell (are_two_units a.cell b.cell) (operated_column op (column_of_cell a) (column_of_cell b)) ≡ binary_named op a b
binary_made op a b h = by (operator_kind op a.kind b.kind)
  where
    by : (o : Result Kind PxError) → as_cell (are_two_units a.cell b.cell) (two_columns a.name o (operated a.kind op) a.cell b.cell) ≡ (o >>= λ k. under a.name k (binary_cell a.kind op a.cell b.cell))
    by (Err e) = refl
    by (Ok k) =
        ap (λ (r : Result ℕ PxError). as_cell (are_two_units a.cell b.cell) (r >>= λ n. Ok (record { name = a.name; kind = k; slots = zipped (operated a.kind op) (rows_to n (list_of a.cell)) (rows_to n (list_of b.cell)) }))) (common_two a.cell b.cell h)
        ∙ sym (ap (under a.name k) (two_beside (operated a.kind op) a.cell b.cell h))

-- and on others
pub binary_unequal : (op : Operator) (a b : NamedCell) → are_two_beside a.cell b.cell ≡ false → unequal (operator_kind op a.kind b.kind) ≡ binary_named op a b
binary_unequal op a b h = by (operator_kind op a.kind b.kind)
  where
    by : (o : Result Kind PxError) → unequal o ≡ (o >>= λ k. under a.name k (binary_cell a.kind op a.cell b.cell))
    by (Err e) = refl
    by (Ok k) = sym (ap (under a.name k) (two_apart (operated a.kind op) a.cell b.cell h))

pub binary_one : (op : Operator) (a b : NamedCell) (s : Series) → operated_column op (column_of_cell a) (column_of_cell b) ≡ Ok s → are_two_units a.cell b.cell ≡ true → length s.slots ≡ 1
binary_one op a b s h u = one_of_two a.name (operator_kind op a.kind b.kind) (operated a.kind op) a.cell b.cell s h u

-- a ternary of a predicate and of branches of one type
pub ternary_made : (p a b : NamedCell) → is_boolean_kind p.kind ≡ true → kind_eq a.kind b.kind ≡ true → are_three_beside p.cell a.cell b.cell ≡ true
    → as_cell (is_unit_cell p.cell && (are_two_units a.cell b.cell)) (chosen_column (column_of_cell p) (column_of_cell a) (column_of_cell b)) ≡ ternary_named p a b
ternary_made p a b truths same h = by (is_boolean_kind p.kind) truths (kind_eq a.kind b.kind) same
  where
    by : (x : Bool) → x ≡ true → (y : Bool) → y ≡ true
        → as_cell (are_three_units p.cell a.cell b.cell) (if x then (kind_where y a.kind >>= λ k. length_of_three (count_of p.cell) (count_of a.cell) (count_of b.cell) >>= λ n. Ok (record { name = a.name; kind = a.kind; slots = zipped_three chosen (rows_to n (list_of p.cell)) (rows_to n (list_of a.cell)) (rows_to n (list_of b.cell)) })) else Err SchemaMismatch)
        ≡ (if x then (kind_where y a.kind >>= λ k. under a.name k (ternary_cell p.cell a.cell b.cell)) else Err SchemaMismatch)
    by false g y i = cc
    by true g false i = cc
    by true g true i =
        ap (λ (r : Result ℕ PxError). as_cell (are_three_units p.cell a.cell b.cell) (r >>= λ n. Ok (record { name = a.name; kind = a.kind; slots = zipped_three chosen (rows_to n (list_of p.cell)) (rows_to n (list_of a.cell)) (rows_to n (list_of b.cell)) }))) (common_three p.cell a.cell b.cell h)
        ∙ sym (ap (under a.name a.kind) (three_beside chosen p.cell a.cell b.cell h))

-- which is one row of units alone
pub ternary_one : (p a b : NamedCell) (s : Series) → chosen_column (column_of_cell p) (column_of_cell a) (column_of_cell b) ≡ Ok s → are_three_units p.cell a.cell b.cell ≡ true → length s.slots ≡ 1
ternary_one p a b s h u = by (is_boolean_kind p.kind) (kind_eq a.kind b.kind) h
  where
    by : (x y : Bool) → (if x then (kind_where y a.kind >>= λ k. length_of_three (count_of p.cell) (count_of a.cell) (count_of b.cell) >>= λ n. Ok (record { name = a.name; kind = a.kind; slots = zipped_three chosen (rows_to n (list_of p.cell)) (rows_to n (list_of a.cell)) (rows_to n (list_of b.cell)) })) else Err SchemaMismatch) ≡ Ok s
        → length s.slots ≡ 1
    by false y g = absurd (cc)
    by true false g = absurd (cc)
    by true true g = one_of_three a.name (Ok a.kind) chosen p.cell a.cell b.cell s g u

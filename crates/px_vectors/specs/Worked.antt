-- Small frames of integers and what is done with them, of which the worked examples speak.
use Rattle.std.specs.Prelude.{ℕ, pos, List, [], ◌∷◌, Some, None, codes}
use Rattle.px_column.specs.Prelude.{integer, Slot, int64s, uint32s, Series}
use Rattle.px_value.specs.declared.method.GroupByMethod.TheVariants.{Sum}
use Rattle.px_tree.specs.Tree.{Tree, column, agg, len}
use Rattle.px_tree.specs.Step.{PlainStep, group}

-- a number at a place
abbrev pub num : ℕ → Slot
num n = Some (integer (pos n))

-- a column of Int64
abbrev pub int64_column : List ℕ → List Slot → Series
int64_column name places = record { name = name; kind = int64s; slots = places }

-- a column of UInt32
abbrev pub uint32_column : List ℕ → List Slot → Series
uint32_column name places = record { name = name; kind = uint32s; slots = places }

-- the keys and the values of a frame of two columns
abbrev pub keyed : List Slot → List Slot → List Series
keyed keys values = int64_column (codes "k") keys ∷ int64_column (codes "x") values ∷ []

-- four rows, of which three have one key
abbrev pub four_rows : List Series
four_rows = keyed (num 7 ∷ num 9 ∷ num 7 ∷ num 7 ∷ []) (num 0 ∷ num 1 ∷ num 2 ∷ num 3 ∷ [])

-- three rows, of which two have a null as their key
abbrev pub null_keys : List Series
null_keys = keyed (None ∷ num 1 ∷ None ∷ []) (num 10 ∷ num 20 ∷ num 30 ∷ [])

-- what a group step of four rows makes
abbrev pub four_grouped : List Series
four_grouped =
    int64_column (codes "k") (num 7 ∷ num 9 ∷ []) ∷ int64_column (codes "x") (num 5 ∷ num 1 ∷ [])
    ∷ uint32_column (codes "len") (num 3 ∷ num 1 ∷ []) ∷ []

-- the sum of a column
abbrev pub sum_column : List ℕ → Tree
sum_column name = agg Sum (column name)

-- a step by the column k with these aggregations
abbrev pub by_k : List Tree → PlainStep
by_k aggs = group (column (codes "k") ∷ []) aggs None

-- for each value of k, the sum of x and the number of rows
abbrev pub sum_and_len : PlainStep
sum_and_len = by_k (sum_column (codes "x") ∷ len ∷ [])

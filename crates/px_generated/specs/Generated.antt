-- The document that is generated from a number.
use Rattle.std.specs.Prelude.{ℕ, pos, ◌-◌, ◌/◌, ◌%◌, List, [], ◌∷◌, Some, map, codes}
use Rattle.std.specs.List.{range_with_len}
use Rattle.px_column.specs.Prelude.{integer, int64s, Series}
use Rattle.px_document.specs.Document.{Doc}
use Rattle.px_tree.specs.Step.{PlainStep, select, filter, group}
use Rattle.px_tree.specs.Tree.{Tree, no_trees, one_tree, no_order, column, alias, binary, agg, len, window}
use Rattle.px_tree.specs.declared.window.WindowMapping.TheVariants.{GroupsToRows}
use Rattle.px_value.specs.declared.method.GroupByMethod.TheVariants.{First, Sum}
use Rattle.px_value.specs.declared.operator.Operator.TheVariants.{EqValidity}

-- a column of Int64 with f i at each row i below n
abbrev pub column_of : List ℕ → (ℕ → ℕ) → ℕ → Series
column_of name f n = record { name = name; kind = int64s; slots = map (λ i. Some (integer (pos (f i)))) (range_with_len 0 n) }

-- k with i mod 8 at row i, and x with i
abbrev pub generated_columns : ℕ → List Series
generated_columns n = column_of (codes "k") (λ i. i % 8) n ∷ column_of (codes "x") (λ i. i) n ∷ []

abbrev pub k : Tree
k = column (codes "k")

abbrev pub x : Tree
x = column (codes "x")

abbrev pub s : Tree
s = column (codes "s")

-- the sum of x beside each row of its k; sums, first sums and lengths by k, in two chunks with an empty one between them; the rows whose
-- two sums are the same
abbrev pub generated_steps : ℕ → List PlainStep
generated_steps n =
    select (k ∷ x ∷ alias (window (agg Sum x) (one_tree k no_trees) no_order GroupsToRows) (codes "s") ∷ [])
    ∷ group (k ∷ []) (agg Sum x ∷ agg First s ∷ len ∷ []) (Some ((n / 2) ∷ 0 ∷ (n - n / 2) ∷ []))
    ∷ filter (binary x EqValidity s) ∷ []

-- the document of a number
abbrev pub generated : ℕ → Doc
generated n = record { columns = generated_columns n; steps = generated_steps n }

-- Frames, expressions and steps of every kind, of which the examples speak.
use Rattle.std.specs.Prelude.{ℕ, zero, suc, negsuc, Bool, true, false, List, [], ◌∷◌, Option, Some, None, codes, map}
use Rattle.px_column.specs.Prelude.{boolean, integer, text, list, Slot, slots, Kind, int32s, int64s, strings, nulls, Series}
use Rattle.px_value.specs.declared.cast_options.CastOptions.TheVariants.{Strict}
use Rattle.px_value.specs.declared.error.PxError.{PxError}
use Rattle.px_value.specs.declared.error.PxError.TheVariants.{InvalidOperation, ComputeError}
use Rattle.px_value.specs.declared.error.InvalidWhy.{InvalidWhy}
use Rattle.px_value.specs.declared.error.ComputeWhy.{ComputeWhy}
use Rattle.px_value.specs.declared.method.GroupByMethod.TheVariants as method
use Rattle.px_value.specs.declared.operator.Operator.TheVariants.{Multiply, Gt}
use Rattle.px_value.specs.declared.sort_options.SortOptions.{SortOptions}
use Rattle.px_frame.specs.External.{Frame, alone}
use Rattle.px_tree.specs.Tree.{Tree, by_name, as_explode, single, no_trees, one_tree, no_order, column, literal, alias, binary, cast, function, agg, len, window}
use Rattle.px_tree.specs.declared.function.FunctionExpr.TheVariants.{IsNotNull, Reverse}
use Rattle.px_tree.specs.declared.window.WindowMapping.{WindowMapping}
use Rattle.px_tree.specs.declared.window.WindowMapping.TheVariants.{GroupsToRows}
use Rattle.px_tree.specs.Step as step
use Rattle.px_tree.specs.Step.{PlainStep, select, group}
use Rattle.px_vectors.specs.Worked.{num, four_rows}

-- some numbers, as places
abbrev pub nums : List ℕ → List Slot
nums ns = map num ns

-- a text at a place
abbrev pub word : List ℕ → Slot
word s = Some (text s)

-- a list of numbers at a place
abbrev pub numbers : List ℕ → Slot
numbers ns = Some (list (slots (nums ns)))

-- a truth at a place
abbrev pub truth : Bool → Slot
truth b = Some (boolean b)

-- a column of a type
abbrev pub column_of : List ℕ → Kind → List Slot → Series
column_of name kind places = record { name = name; kind = kind; slots = places }

-- the four rows, with nothing beside them
abbrev pub four : Frame
four = alone four_rows

-- the column k
abbrev pub k : Tree
k = column (codes "k")

-- the column x
abbrev pub x : Tree
x = column (codes "x")

-- the column y
abbrev pub y : Tree
y = column (codes "y")

-- a literal number
abbrev pub int : ℕ → Tree
int n = literal (single int64s (num n))

-- a literal null
abbrev pub no_value : Tree
no_value = literal (single nulls None)

-- a null of numbers
abbrev pub null_int : Tree
null_int = cast no_value int64s Strict

-- the number below zero with this absolute value
abbrev pub negative : ℕ → Tree
negative zero = int 0
negative (suc n) = literal (single int64s (Some (integer (negsuc n))))

-- some truths, as places
abbrev pub truths : List Bool → List Slot
truths bs = map truth bs

-- three rows, of which the second is a null
abbrev pub some_nulls : Frame
some_nulls = alone (column_of (codes "x") int64s (num 1 ∷ None ∷ num 3 ∷ []) ∷ [])

-- whether an expression's values are greater than a number
abbrev pub greater : Tree → ℕ → Tree
greater e n = binary e Gt (int n)

-- the sum of an expression
abbrev pub sum_of : Tree → Tree
sum_of e = agg method.Sum e

-- the greatest value of an expression
abbrev pub max_of : Tree → Tree
max_of e = agg method.Max e

-- the first value of an expression
abbrev pub first_of : Tree → Tree
first_of e = agg method.First e

-- the values of an expression's lists one after another
abbrev pub explode : Tree → Tree
explode e = function (one_tree e no_trees) as_explode

-- the rows of an expression from last to first
abbrev pub reversed : Tree → Tree
reversed e = function (one_tree e no_trees) (by_name Reverse)

-- rising, nulls first
abbrev pub rising : SortOptions
rising = record { descending = false; nulls_last = false }

-- falling, nulls first
abbrev pub falling : SortOptions
falling = record { descending = true; nulls_last = false }

-- a function of the parts by k
abbrev pub over_k : Tree → WindowMapping → Tree
over_k f mapping = window f (one_tree k no_trees) no_order mapping

-- a group step by k, and by the column of another name
abbrev pub by_key : Tree → List Tree → PlainStep
by_key key aggs = group (key ∷ []) aggs None

-- the error of an invalid operation
abbrev pub invalid : InvalidWhy → Option PxError
invalid why = Some (InvalidOperation why)

-- the error of a computation that fails
abbrev pub failed : ComputeWhy → Option PxError
failed why = Some (ComputeError why)

-- sales: the units of which some are missing, and their prices
abbrev pub sales : Frame
sales = alone (column_of (codes "region") strings (word (codes "north") ∷ word (codes "south") ∷ word (codes "north") ∷ word (codes "south") ∷ word (codes "north") ∷ [])
    ∷ column_of (codes "units") int64s (num 3 ∷ None ∷ num 5 ∷ num 2 ∷ num 1 ∷ [])
    ∷ column_of (codes "price") int32s (nums (10 ∷ 20 ∷ 10 ∷ 30 ∷ 40 ∷ [])) ∷ [])

-- what was sold, the best sale of each region beside each sale, and then for each region the sum, the best and the count
abbrev pub sales_report : List PlainStep
sales_report =
    step.filter (function (one_tree (column (codes "units")) no_trees) (by_name IsNotNull))
    ∷ select (column (codes "region") ∷ alias (binary (column (codes "units")) Multiply (cast (column (codes "price")) int64s Strict)) (codes "total") ∷ [])
    ∷ select (column (codes "region") ∷ column (codes "total") ∷ alias (window (max_of (column (codes "total"))) (one_tree (column (codes "region")) no_trees) no_order GroupsToRows) (codes "top") ∷ [])
    ∷ group (column (codes "region") ∷ []) (sum_of (column (codes "total")) ∷ first_of (column (codes "top")) ∷ len ∷ []) None
    ∷ []

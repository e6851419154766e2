-- What each node makes of its inputs' cells with their names and types: a cell under a name and a type, or the first
-- refusal, where that of the types comes before that of the cells.
use Rattle.std.specs.Prelude.{ℕ, ◌^◌, Bool, not, ◌&&◌, List, [], ◌∷◌, Result, Ok, Err, length, map, nat_lt, if◌then◌else◌}
use Rattle.std.specs.List.{list_all, list_any}
use Rattle.px_column.specs.Cast.{cast_kind}
use Rattle.px_column.specs.Operator.{is_boolean_kind, is_integer_kind, kind_where, operator_kind}
use Rattle.px_column.specs.Order.{arg_sorted, sort_keys, sorted_rows}
use Rattle.px_column.specs.Prelude.{Kind, Series, is_list_kind, kind_eq}
use Rattle.px_column.specs.Reduction.{reduced_kind}
use Rattle.px_column.specs.Result.{◌>>=◌}
use Rattle.px_column.specs.Rows.{with_rows}
use Rattle.px_value.specs.declared.cast_options.CastOptions.{CastOptions}
use Rattle.px_value.specs.declared.error.ComputeWhy.TheVariants.{SingleIndex, TooLong}
use Rattle.px_value.specs.declared.error.InvalidWhy.TheVariants.{ListKey, Types}
use Rattle.px_value.specs.declared.error.PxError.{PxError}
use Rattle.px_value.specs.declared.error.PxError.TheVariants.{ComputeError, InvalidOperation, OutOfBounds, SchemaMismatch, ShapeMismatch}
use Rattle.px_value.specs.declared.method.GroupByMethod.{GroupByMethod}
use Rattle.px_value.specs.declared.operator.Operator.{Operator}
use Rattle.px_value.specs.declared.sort_options.SortMultipleOptions.{SortMultipleOptions}
use Rattle.px_value.specs.declared.sort_options.SortOptions.{SortOptions}
use Rattle.px_frame.specs.Cell.{Cell, cell_of, count_of, is_unit_cell}
use Rattle.px_frame.specs.Frame.{slots_at}
use Rattle.px_frame.specs.Spread.{NamedCell}
use Rattle.px_tree.specs.Node.{binary_cell, cast_cell, filter_cell, function_cell, gather_cell, indexed, is_index, reduction_cell, slice_cell, sort_by_cell, sort_cell, ternary_cell}
use Rattle.px_tree.specs.Typing.{function_kind, is_integer_or_null}
use Rattle.px_tree.specs.Value.{first_kind}
use Rattle.px_tree.specs.declared.function.FunctionExpr.{FunctionExpr}

-- a cell under a name and a type
abbrev pub under : List ℕ → Kind → Result Cell PxError → Result NamedCell PxError
under name kind made = made >>= λ c. Ok (record { name = name; kind = kind; cell = c })

-- a column's rows as a cell, as one unit where that is asked for
abbrev pub column_cell : Bool → Series → NamedCell
column_cell one s = record { name = s.name; kind = s.kind; cell = cell_of one s.slots }

-- fewer than 2^32 values
abbrev pub short : Cell → Result Cell PxError
short c = if nat_lt (count_of c) (2 ^ 32) then Ok c else Err (ComputeError TooLong)

-- the same of a cell with its name and type
abbrev pub short_named : NamedCell → Result NamedCell PxError
short_named c = if nat_lt (count_of c.cell) (2 ^ 32) then Ok c else Err (ComputeError TooLong)

-- a cell of the column that a kernel makes, or its refusal
abbrev pub as_cell : Bool → Result Series PxError → Result NamedCell PxError
as_cell one made = made >>= λ s. Ok (column_cell one s)

-- the same, refused where there are 2^32 values or more
abbrev pub as_short_cell : Bool → Result Series PxError → Result NamedCell PxError
as_short_cell one made = made >>= λ s. short_named (column_cell one s)

-- no cell where lists differ in length, which is told where no type is refused
abbrev pub unequal : Result Kind PxError → Result NamedCell PxError
unequal typed = typed >>= λ _. Err ShapeMismatch

-- the rows of a column in the order of their values; lists have none
abbrev pub sorted_column : SortOptions → Series → Result Series PxError
sorted_column options s = arg_sorted options s >>= λ rows. Ok (with_rows s (slots_at s.slots rows))

-- the rows of a column in the order of some keys
abbrev pub sorted_column_by : SortMultipleOptions → Series → List Series → Series
sorted_column_by options s keys =
    with_rows s (slots_at s.slots (sorted_rows (sort_keys options (map (λ k. k.slots) keys)) (length s.slots)))

-- the rows of a column that indices name, where each of them names one or is a null
abbrev pub gathered_column : Series → Series → Result Series PxError
gathered_column s idx =
    if list_all (is_index (length s.slots)) idx.slots then Ok (with_rows s (map (indexed s.slots) idx.slots)) else Err OutOfBounds

-- the types of some cells
abbrev pub kinds_of : List NamedCell → List Kind
kinds_of cs = map (λ c. c.kind) cs

-- some cells without their names and types
abbrev pub cells_in : List NamedCell → List Cell
cells_in cs = map (λ c. c.cell) cs

-- the name of the first cell, empty without one
abbrev pub first_name : List NamedCell → List ℕ
first_name [] = []
first_name (c ∷ cs) = c.name

-- an operator on two cells
abbrev pub binary_named : Operator → NamedCell → NamedCell → Result NamedCell PxError
binary_named op a b = operator_kind op a.kind b.kind >>= λ k. under a.name k (binary_cell a.kind op a.cell b.cell)

-- one value or the other, as a predicate says
abbrev pub ternary_named : NamedCell → NamedCell → NamedCell → Result NamedCell PxError
ternary_named p a b =
    if is_boolean_kind p.kind then
    (kind_where (kind_eq a.kind b.kind) a.kind >>= λ k. under a.name k (ternary_cell p.cell a.cell b.cell))
    else Err SchemaMismatch

-- a cast
abbrev pub cast_named : Kind → CastOptions → NamedCell → Result NamedCell PxError
cast_named to options c = cast_kind c.kind to >>= λ k. under c.name k (cast_cell c.kind to options c.cell)

-- a function of some cells
abbrev pub function_named : FunctionExpr → List NamedCell → Result NamedCell PxError
function_named f cs =
    function_kind f (kinds_of cs) >>= λ k. under (first_name cs) k (function_cell f (first_kind (kinds_of cs)) (cells_in cs) >>= short)

-- the rows that a mask keeps
abbrev pub filter_named : NamedCell → NamedCell → Result NamedCell PxError
filter_named c by = if is_boolean_kind by.kind then under c.name c.kind (filter_cell c.cell by.cell) else Err SchemaMismatch

-- the rows from an offset on, so many
abbrev pub slice_named : NamedCell → NamedCell → NamedCell → Result NamedCell PxError
slice_named c offset length =
    if is_integer_or_null offset.kind && is_integer_or_null length.kind then
    under c.name c.kind (slice_cell c.cell offset.cell length.cell)
    else Err (InvalidOperation Types)

-- the rows that indices name
abbrev pub gather_named : Bool → Bool → NamedCell → NamedCell → Result NamedCell PxError
gather_named one idx_is_literal c idx =
    if is_integer_kind idx.kind then
    (if one && not (is_unit_cell idx.cell) then Err (ComputeError SingleIndex) else under c.name c.kind (gather_cell one idx_is_literal c.cell idx.cell))
    else Err (InvalidOperation Types)

-- the rows in their order
abbrev pub sort_named : SortOptions → NamedCell → Result NamedCell PxError
sort_named options c = if is_list_kind c.kind then Err (InvalidOperation ListKey) else under c.name c.kind (sort_cell options c.cell)

-- the rows in the order of some keys
abbrev pub sort_by_named : SortMultipleOptions → NamedCell → List NamedCell → Result NamedCell PxError
sort_by_named options c by =
    if list_any is_list_kind (kinds_of by) then Err (InvalidOperation ListKey)
    else under c.name c.kind (sort_by_cell options c.cell (cells_in by))

-- a reduction
abbrev pub aggregation_named : GroupByMethod → NamedCell → Result NamedCell PxError
aggregation_named m c = reduced_kind m c.kind >>= λ k. Ok (record { name = c.name; kind = k; cell = reduction_cell m c.kind c.cell })

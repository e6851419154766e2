-- What typing finds of an expression, node by node: its type and three truths of its shape, or the first refusal.
use Rattle.std.specs.Prelude.{ℕ, ◌==◌, Bool, true, false, ◌&&◌, ◌||◌, not, List, [], ◌∷◌, ◌++◌, Option, Some, None, Result, Ok, Err, length, map, if◌then◌else◌}
use Rattle.std.specs.List.{list_all, list_any}
use Rattle.px_column.specs.Cast.{is_cast}
use Rattle.px_column.specs.Prelude.{Kind, uint32s, kind_eq, is_list_kind}
use Rattle.px_column.specs.Operator.{operator_kind, is_integer_kind, is_boolean_kind}
use Rattle.px_column.specs.Reduction.{reduced_kind}
use Rattle.px_column.specs.Result.{◌>>=◌}
use Rattle.px_value.specs.declared.error.PxError.{PxError}
use Rattle.px_value.specs.declared.error.PxError.TheVariants.{ColumnNotFound, InvalidOperation, ComputeError, SchemaMismatch}
use Rattle.px_value.specs.declared.error.InvalidWhy.TheVariants.{WindowOnGroups, AggAboveImplode, ScalarOnGroups, ListKey, RangeType, Types}
use Rattle.px_value.specs.declared.error.ComputeWhy.TheVariants.{AggLiteral, AggScalar, SingleIndex, NoKey}
use Rattle.px_value.specs.declared.method.GroupByMethod.{GroupByMethod}
use Rattle.px_value.specs.declared.operator.Operator.{Operator}
use Rattle.px_tree.specs.Shape.{is_single, is_implode}
use Rattle.px_tree.specs.Tree.{Tree, called, Trees, Order, Literal, range, no_trees, one_tree, no_order, ordered, column, literal, alias, binary, ternary, cast, function, filter, slice, gather, sort, sort_by, agg, len, window}
use Rattle.px_tree.specs.Typing.{Scope, kind_of_name, literal_kind, is_range_kind, is_integer_or_null, function_kind, window_kind, is_on_groups}
use Rattle.px_column.specs.Interval.{compared_kind}
use Rattle.px_tree.specs.declared.context.Context.{Context}
use Rattle.px_tree.specs.declared.context.Context.TheVariants.{Default, Aggregation}
use Rattle.px_tree.specs.declared.function.FunctionExpr.{FunctionExpr}
use Rattle.px_tree.specs.declared.function.FunctionExpr.TheVariants.{IsNull, IsNotNull, Not, IsBetween, IsIn, Reverse, Shift, DropNulls, NullCount, Explode}
use Rattle.px_tree.specs.declared.window.WindowMapping.{WindowMapping}

-- the type, whether it is a unit, whether each leaf is a literal, and whether an Implode stands in it
pub record Facts : Type 0 where
  pub kind : Kind
  pub unit : Bool
  pub literal : Bool
  pub implode : Bool

-- the types of the inputs
abbrev pub kinds_of : List Facts → List Kind
kinds_of inputs = map (λ a. a.kind) inputs

-- one of the inputs has a List type
abbrev pub have_list : List Facts → Bool
have_list inputs = list_any is_list_kind (kinds_of inputs)

-- each input is a unit
abbrev pub all_units : List Facts → Bool
all_units inputs = list_all (λ a. a.unit) inputs

-- each leaf of the inputs is a literal
abbrev pub all_literals : List Facts → Bool
all_literals inputs = list_all (λ a. a.literal) inputs

-- an Implode stands in one of the inputs
abbrev pub any_implode : List Facts → Bool
any_implode inputs = list_any (λ a. a.implode) inputs

-- one value in each group, which is not made of literals
abbrev pub is_scalar : Context → Facts → Bool
is_scalar place a = is_on_groups place && (a.unit && not a.literal)

-- what is found of a column: the type of its name, or that there is no such name
abbrev pub column_facts : List ℕ → Option Kind → Result Facts PxError
column_facts n (Some k) = Ok (record { kind = k; unit = false; literal = false; implode = false })
column_facts n None = Err (ColumnNotFound n)

-- a literal whose type it may have: a range is of one of three types
abbrev pub is_typed_literal : Literal → Bool
is_typed_literal (range low high k) = is_range_kind k
is_typed_literal _ = true

-- what is found of a literal
abbrev pub literal_facts : Literal → Result Facts PxError
literal_facts v =
    if is_typed_literal v then Ok (record { kind = literal_kind v; unit = is_single v; literal = true; implode = false })
    else Err (InvalidOperation RangeType)

-- what is found of an operator on two inputs
abbrev pub binary_facts : Operator → Facts → Facts → Result Facts PxError
binary_facts op a b = operator_kind op a.kind b.kind >>= λ k.
    Ok (record { kind = k; unit = a.unit && b.unit; literal = a.literal && b.literal; implode = a.implode || b.implode })

-- what is found of a choice: its predicate is Boolean, and both inputs have one type
abbrev pub ternary_facts : Facts → Facts → Facts → Result Facts PxError
ternary_facts p a b =
    if is_boolean_kind p.kind then
    (if kind_eq a.kind b.kind then
    Ok (record { kind = a.kind; unit = p.unit && (a.unit && b.unit); literal = p.literal && (a.literal && b.literal); implode = p.implode || (a.implode || b.implode) })
    else Err (InvalidOperation Types))
    else Err SchemaMismatch

-- what is found of a cast to a type
abbrev pub cast_facts : Facts → Kind → Result Facts PxError
cast_facts a to =
    if is_cast a.kind to then Ok (record { kind = to; unit = a.unit; literal = a.literal; implode = a.implode })
    else Err (InvalidOperation Types)

-- a function that changes how many rows there are, or their order
abbrev pub takes_rows : FunctionExpr → Bool
takes_rows Reverse = true
takes_rows (Shift periods) = true
takes_rows DropNulls = true
takes_rows NullCount = true
takes_rows Explode = true
takes_rows _ = false

-- the function that counts nulls
abbrev pub is_null_count : FunctionExpr → Bool
is_null_count NullCount = true
is_null_count _ = false

-- whether a function of one input gives a unit
abbrev pub is_unit_of_one : FunctionExpr → Bool → Bool
is_unit_of_one IsNull unit = unit
is_unit_of_one IsNotNull unit = unit
is_unit_of_one Not unit = unit
is_unit_of_one NullCount unit = true
is_unit_of_one _ unit = false

-- what is found of a function of one input
abbrev pub one_input_facts : Context → FunctionExpr → Facts → Result Facts PxError
one_input_facts place f a =
    if is_on_groups place && (is_null_count f && any_implode (a ∷ [])) then Err (InvalidOperation AggAboveImplode)
    else (if takes_rows f && is_scalar place a then Err (InvalidOperation ScalarOnGroups)
    else function_kind f (a.kind ∷ []) >>= λ k.
    Ok (record { kind = k; unit = is_unit_of_one f a.unit; literal = all_literals (a ∷ []); implode = any_implode (a ∷ []) }))

-- inputs that are compared with the first one
abbrev pub compared_all : List Kind → Result Kind PxError
compared_all [] = Err (InvalidOperation Types)
compared_all (k ∷ ks) = compared_kind k ks

-- what is found of a function of n inputs that are compared with the first one
abbrev pub compared_facts : ℕ → Bool → List Facts → Result Facts PxError
compared_facts n unit inputs =
    if length inputs == n then
    (compared_all (kinds_of inputs) >>= λ k.
    Ok (record { kind = k; unit = unit; literal = all_literals inputs; implode = any_implode inputs }))
    else Err (InvalidOperation Types)

-- the first input is a unit
abbrev pub is_first_unit : List Facts → Bool
is_first_unit [] = false
is_first_unit (a ∷ inputs) = a.unit

-- the only one
abbrev pub only_input : List Facts → Result Facts PxError
only_input (a ∷ []) = Ok a
only_input _ = Err (InvalidOperation Types)

-- what is found of a function of some inputs
abbrev pub function_facts : Context → FunctionExpr → List Facts → Result Facts PxError
function_facts place (IsBetween closed) inputs = compared_facts 3 (all_units inputs) inputs
function_facts place IsIn inputs = compared_facts 2 (is_first_unit inputs) inputs
function_facts place f inputs = only_input inputs >>= λ a. one_input_facts place f a

-- what is found of a filter by a mask
abbrev pub filter_facts : Context → Facts → Facts → Result Facts PxError
filter_facts place a by =
    if is_scalar place a then Err (InvalidOperation ScalarOnGroups)
    else (if is_boolean_kind by.kind then
    Ok (record { kind = a.kind; unit = false; literal = a.literal && by.literal; implode = a.implode || by.implode })
    else Err SchemaMismatch)

-- what is found of a slice by an offset and a length
abbrev pub slice_facts : Context → Facts → Facts → Facts → Result Facts PxError
slice_facts place a o l =
    if is_on_groups place && (a.implode || (o.implode || l.implode)) then Err (InvalidOperation AggAboveImplode)
    else (if is_scalar place a then Err (InvalidOperation ScalarOnGroups)
    else (if is_integer_or_null o.kind && is_integer_or_null l.kind then
    Ok (record { kind = a.kind; unit = false; literal = a.literal && (o.literal && l.literal); implode = a.implode || (o.implode || l.implode) })
    else Err (InvalidOperation Types)))

-- what is found of a gather by indices, or by one index
abbrev pub gather_facts : Context → Facts → Facts → Bool → Result Facts PxError
gather_facts place a idx one =
    if is_scalar place a then Err (InvalidOperation ScalarOnGroups)
    else (if is_integer_kind idx.kind then
    (if one && not idx.unit then Err (ComputeError SingleIndex)
    else Ok (record { kind = a.kind; unit = one; literal = a.literal && idx.literal; implode = a.implode || idx.implode }))
    else Err (InvalidOperation Types))

-- what is found of a sort
abbrev pub sort_facts : Context → Facts → Result Facts PxError
sort_facts place a =
    if is_scalar place a then Err (InvalidOperation ScalarOnGroups)
    else (if is_list_kind a.kind then Err (InvalidOperation ListKey)
    else Ok (record { kind = a.kind; unit = false; literal = a.literal; implode = a.implode }))

-- what is found of a sort by keys
abbrev pub sort_by_facts : Context → Facts → List Facts → Result Facts PxError
sort_by_facts place a keys =
    if is_scalar place a then Err (InvalidOperation ScalarOnGroups)
    else (if have_list keys then Err (InvalidOperation ListKey)
    else Ok (record { kind = a.kind; unit = false; literal = a.literal && all_literals keys; implode = a.implode || any_implode keys }))

-- what is found of a reduction
abbrev pub agg_facts : Context → GroupByMethod → Facts → Result Facts PxError
agg_facts place m a =
    if is_on_groups place && a.implode then Err (InvalidOperation AggAboveImplode)
    else (if is_on_groups place && a.literal then Err (ComputeError AggLiteral)
    else (if is_on_groups place && (a.unit && not (is_implode m)) then Err (ComputeError AggScalar)
    else reduced_kind m a.kind >>= λ k.
    Ok (record { kind = k; unit = not (is_implode m); literal = a.literal; implode = is_implode m || a.implode })))

-- what is found of a length: a UInt32, one value
abbrev pub len_facts : Facts
len_facts = record { kind = uint32s; unit = true; literal = false; implode = false }

-- an order by values of a List type
abbrev pub is_list_order : Option Facts → Bool
is_list_order None = false
is_list_order (Some a) = is_list_kind a.kind

-- each leaf of what an order is by is a literal, or there is no order
abbrev pub is_literal_key : Option Facts → Bool
is_literal_key None = true
is_literal_key (Some a) = a.literal

-- an Implode stands in what an order is by
abbrev pub is_implode_key : Option Facts → Bool
is_implode_key None = false
is_implode_key (Some a) = a.implode

-- what is found of a window of a function by keys in an order
abbrev pub window_facts : Context → WindowMapping → Facts → List Facts → Option Facts → Result Facts PxError
window_facts place mapping f keys order =
    if is_on_groups place then Err (InvalidOperation WindowOnGroups)
    else (if length keys == 0 then Err (ComputeError NoKey)
    else (if have_list keys || is_list_order order then Err (InvalidOperation ListKey)
    else Ok (record {
      kind = window_kind mapping f.unit f.kind;
      unit = false;
      literal = f.literal && (all_literals keys && is_literal_key order);
      implode = f.implode || (any_implode keys || is_implode_key order);
    })))

abbrev mutual
  -- the facts of an expression, or the first refusal: inputs from left to right, and then its own
  pub facts_in : Tree → Scope → Context → Result Facts PxError
  facts_in (column n) scope place = column_facts n (kind_of_name n scope)
  facts_in (literal v) scope place = literal_facts v
  facts_in (alias e n) scope place = facts_in e scope place
  facts_in (binary l op r) scope place = do
    a ← facts_in l scope place
    b ← facts_in r scope place
    binary_facts op a b
  facts_in (ternary p a b) scope place = do
    test ← facts_in p scope place
    truthy ← facts_in a scope place
    falsy ← facts_in b scope place
    ternary_facts test truthy falsy
  facts_in (cast e k options) scope place = do
    a ← facts_in e scope place
    cast_facts a k
  facts_in (function es f) scope place = do
    inputs ← all_facts_in es scope place
    function_facts place (called f) inputs
  facts_in (filter e by) scope place = do
    a ← facts_in e scope place
    mask ← facts_in by scope place
    filter_facts place a mask
  facts_in (slice e offset length) scope place = do
    a ← facts_in e scope place
    o ← facts_in offset scope place
    l ← facts_in length scope place
    slice_facts place a o l
  facts_in (gather e idx one) scope place = do
    a ← facts_in e scope place
    i ← facts_in idx scope place
    gather_facts place a i one
  facts_in (sort e options) scope place = do
    a ← facts_in e scope place
    sort_facts place a
  facts_in (sort_by e by options) scope place = do
    a ← facts_in e scope place
    keys ← all_facts_in by scope place
    sort_by_facts place a keys
  facts_in (agg m e) scope place = do
    a ← facts_in e scope place
    agg_facts place m a
  facts_in len scope place = Ok len_facts
  facts_in (window f keys order mapping) scope place = do
    a ← facts_in f scope Aggregation
    bs ← all_facts_in keys scope Default
    o ← order_facts_in order scope Default
    window_facts place mapping a bs o

  -- the facts of some expressions, or the first refusal
  pub all_facts_in : Trees → Scope → Context → Result (List Facts) PxError
  all_facts_in no_trees scope place = Ok []
  all_facts_in (one_tree t ts) scope place = do
    a ← facts_in t scope place
    inputs ← all_facts_in ts scope place
    Ok (a ∷ inputs)

  -- the facts of what an order is by, if anything, or its first refusal
  pub order_facts_in : Order → Scope → Context → Result (Option Facts) PxError
  order_facts_in no_order scope place = Ok None
  order_facts_in (ordered t options) scope place = do
    a ← facts_in t scope place
    Ok (Some a)

-- some inputs before others, where nothing was refused among those
abbrev pub followed_by : List Facts → Result (List Facts) PxError → Result (List Facts) PxError
followed_by inputs (Ok others) = Ok (inputs ++ others)
followed_by inputs (Err e) = Err e

-- the type that is found, or the refusal
abbrev pub kind_found : Result Facts PxError → Result Kind PxError
kind_found (Ok a) = Ok a.kind
kind_found (Err e) = Err e

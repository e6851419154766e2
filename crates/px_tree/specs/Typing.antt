-- The type of an expression, and why it has none: the refusals of its inputs from left to right, and then its own first
-- one. Inputs stand in the expression's own place, but a window's function stands on groups, its keys and its order on
-- the frame.
use Rattle.std.specs.Prelude.{ℕ, Bool, true, false, ◌&&◌, ◌||◌, not, List, [], ◌∷◌, ◌++◌, Option, Some, None, Result, Ok, Err, find, option_map, is_none, if◌then◌else◌}
use Rattle.std.specs.List.{list_any}
use Rattle.px_column.specs.Cast.{cast_kind}
use Rattle.px_column.specs.Exploded.{element_kind}
use Rattle.px_column.specs.Interval.{compared_kind}
use Rattle.px_column.specs.Option.{◌>>=◌}
use Rattle.px_column.specs.Prelude.{Kind, booleans, int32s, int64s, uint32s, nulls, lists, kind_eq, is_list_kind}
use Rattle.px_column.specs.Operator.{operator_kind, is_integer_kind, is_boolean_kind, kind_where}
use Rattle.px_column.specs.Reduction.{reduced_kind}
use Rattle.px_value.specs.declared.error.PxError.{PxError}
use Rattle.px_value.specs.declared.error.PxError.TheVariants.{ColumnNotFound, InvalidOperation, ComputeError, SchemaMismatch}
use Rattle.px_value.specs.declared.error.InvalidWhy.TheVariants.{WindowOnGroups, AggAboveImplode, ScalarOnGroups, ListKey, RangeType, Types}
use Rattle.px_value.specs.declared.error.ComputeWhy.TheVariants.{AggLiteral, AggScalar, SingleIndex, NoKey}
use Rattle.px_value.specs.declared.method.GroupByMethod.{GroupByMethod}
use Rattle.px_frame.specs.Schema.{FieldKind, has_field_name}
use Rattle.px_tree.specs.Shape.{is_unit, is_literal_tree, has_implode, have_implode, is_implode}
use Rattle.px_tree.specs.Tree.{Tree, called, Trees, Order, Literal, single, range, series, no_trees, one_tree, no_order, ordered, column, literal, alias, binary, ternary, cast, function, filter, slice, gather, sort, sort_by, agg, len, window}
use Rattle.px_tree.specs.declared.context.Context.{Context}
use Rattle.px_tree.specs.declared.context.Context.TheVariants.{Default, Aggregation}
use Rattle.px_tree.specs.declared.function.FunctionExpr.{FunctionExpr}
use Rattle.px_tree.specs.declared.function.FunctionExpr.TheVariants.{IsNull, IsNotNull, Not, IsBetween, IsIn, Reverse, Shift, DropNulls, NullCount, Explode}
use Rattle.px_tree.specs.declared.window.WindowMapping.{WindowMapping}
use Rattle.px_tree.specs.declared.window.WindowMapping.TheVariants.{Join}

-- the names and types that an expression is typed over
abbrev pub Scope : Type 0
Scope = List FieldKind

-- the type of a name
abbrev pub kind_of_name : List ℕ → Scope → Option Kind
kind_of_name n scope = option_map (λ f. f.kind) (find (has_field_name n) scope)

-- the type of a literal; a range is of one of three types
abbrev pub literal_kind : Literal → Kind
literal_kind (single k s) = k
literal_kind (range low high k) = k
literal_kind (series s) = s.kind

-- a type that a range may have
abbrev pub is_range_kind : Kind → Bool
is_range_kind int32s = true
is_range_kind int64s = true
is_range_kind uint32s = true
is_range_kind _ = false

-- a type of integers, or the type of nulls
abbrev pub is_integer_or_null : Kind → Bool
is_integer_or_null nulls = true
is_integer_or_null k = is_integer_kind k

-- the type of a function of inputs of these types: their number is tested first
abbrev pub function_kind : FunctionExpr → List Kind → Result Kind PxError
function_kind IsNull (k ∷ []) = Ok booleans
function_kind IsNotNull (k ∷ []) = Ok booleans
function_kind Not (k ∷ []) = kind_where (is_boolean_kind k) booleans
function_kind (IsBetween closed) (k ∷ low ∷ high ∷ []) = compared_kind k (low ∷ high ∷ [])
function_kind IsIn (k ∷ among ∷ []) = compared_kind k (among ∷ [])
function_kind Reverse (k ∷ []) = Ok k
function_kind (Shift periods) (k ∷ []) = Ok k
function_kind DropNulls (k ∷ []) = Ok k
function_kind NullCount (k ∷ []) = Ok uint32s
function_kind Explode (k ∷ []) = element_kind k
function_kind _ _ = Err (InvalidOperation Types)

-- all values of a part as one list are a list of the function's type; one value for the part has the function's type
abbrev pub window_kind : WindowMapping → Bool → Kind → Kind
window_kind Join false k = lists k
window_kind _ _ k = k

-- the type, where nothing is refused
abbrev pub made_kind : Result Kind PxError → Option Kind
made_kind (Ok k) = Some k
made_kind (Err e) = None

abbrev mutual
  -- the type of an expression's values
  pub kind_in : Tree → Scope → Option Kind
  kind_in (column n) scope = kind_of_name n scope
  kind_in (literal v) scope = Some (literal_kind v)
  kind_in (alias e n) scope = kind_in e scope
  kind_in (binary l op r) scope = do
    a ← kind_in l scope
    b ← kind_in r scope
    made_kind (operator_kind op a b)
  kind_in (ternary p a b) scope = kind_in a scope
  kind_in (cast e k options) scope = Some k
  kind_in (function es f) scope = kinds_in es scope >>= λ ks. made_kind (function_kind (called f) ks)
  kind_in (filter e by) scope = kind_in e scope
  kind_in (slice e offset length) scope = kind_in e scope
  kind_in (gather e idx one) scope = kind_in e scope
  kind_in (sort e options) scope = kind_in e scope
  kind_in (sort_by e by options) scope = kind_in e scope
  kind_in (agg m e) scope = kind_in e scope >>= λ k. made_kind (reduced_kind m k)
  kind_in len scope = Some uint32s
  kind_in (window f keys order mapping) scope = option_map (window_kind mapping (is_unit f)) (kind_in f scope)

  -- the types of some expressions, where each has one
  pub kinds_in : Trees → Scope → Option (List Kind)
  kinds_in no_trees scope = Some []
  kinds_in (one_tree t ts) scope = do
    k ← kind_in t scope
    ks ← kinds_in ts scope
    Some (k ∷ ks)

-- the refusal, where the test says so
abbrev pub refused_where : Bool → PxError → List PxError
refused_where true e = e ∷ []
refused_where false e = []

-- the place is on groups
abbrev pub is_on_groups : Context → Bool
is_on_groups Default = false
is_on_groups Aggregation = true

-- the refusals, on groups alone
abbrev pub on_groups : Context → List PxError → List PxError
on_groups Default es = []
on_groups Aggregation es = es

-- the refusal that there is in place of a type
abbrev pub refusal_of : Result Kind PxError → List PxError
refusal_of (Ok k) = []
refusal_of (Err e) = e ∷ []

-- whether an expression's type, where it has one, fails a test
abbrev pub fails : (Kind → Bool) → Option Kind → Bool
fails test None = false
fails test (Some k) = not (test k)

-- what is refused of the types of two inputs
abbrev pub refusal_of_two : (Kind → Kind → Result Kind PxError) → Option Kind → Option Kind → List PxError
refusal_of_two typed (Some a) (Some b) = refusal_of (typed a b)
refusal_of_two typed _ _ = []

-- what is refused of the type of one input
abbrev pub refusal_of_one : (Kind → Result Kind PxError) → Option Kind → List PxError
refusal_of_one typed (Some a) = refusal_of (typed a)
refusal_of_one typed None = []

-- what is refused of the types of all inputs
abbrev pub refusal_of_all : (List Kind → Result Kind PxError) → Option (List Kind) → List PxError
refusal_of_all typed (Some ks) = refusal_of (typed ks)
refusal_of_all typed None = []

-- one of the types is a List type
abbrev pub has_list_kind : Option (List Kind) → Bool
has_list_kind (Some ks) = list_any is_list_kind ks
has_list_kind None = false

-- one value in each group is no list of rows to choose from, unless it is made of literals
abbrev pub scalar_refusal : Tree → List PxError
scalar_refusal e = refused_where (is_unit e && not (is_literal_tree e)) (InvalidOperation ScalarOnGroups)

-- the refusal of an Implode, where there is one
abbrev pub implode_refusal : Bool → List PxError
implode_refusal implode = refused_where implode (InvalidOperation AggAboveImplode)

-- on groups, a reduction stands above no Implode and no literal, and reduces rows
abbrev pub grouped_reduction_refusals : GroupByMethod → Tree → List PxError
grouped_reduction_refusals m e =
    implode_refusal (has_implode e)
    ++ refused_where (is_literal_tree e) (ComputeError AggLiteral)
    ++ refused_where (is_unit e && not (is_implode m)) (ComputeError AggScalar)

-- the refusal of a first input that is one value in each group
abbrev pub first_scalar_refusal : Trees → List PxError
first_scalar_refusal no_trees = []
first_scalar_refusal (one_tree t ts) = scalar_refusal t

-- on groups, a function that changes how many rows there are, or their order, takes rows
abbrev pub grouped_function_refusals : FunctionExpr → Trees → List PxError
grouped_function_refusals Reverse es = first_scalar_refusal es
grouped_function_refusals (Shift periods) es = first_scalar_refusal es
grouped_function_refusals DropNulls es = first_scalar_refusal es
grouped_function_refusals NullCount es = implode_refusal (have_implode es) ++ first_scalar_refusal es
grouped_function_refusals Explode es = first_scalar_refusal es
grouped_function_refusals _ es = []

-- a function of rows that takes exactly one input has another number of them
abbrev pub is_one_input_missing : FunctionExpr → Trees → Bool
is_one_input_missing (IsBetween closed) es = false
is_one_input_missing IsIn es = false
is_one_input_missing f (one_tree t no_trees) = false
is_one_input_missing f _ = true

-- the refusal of no key
abbrev pub no_key_refusal : Trees → List PxError
no_key_refusal no_trees = ComputeError NoKey ∷ []
no_key_refusal (one_tree t ts) = []

-- the type of what an order is by
abbrev pub order_kind : Order → Scope → Option Kind
order_kind no_order scope = None
order_kind (ordered t options) scope = kind_in t scope

-- a type that is no List type
abbrev pub not_list : Kind → Bool
not_list k = not (is_list_kind k)

-- an expression's own refusals, in their order
abbrev pub own_refusals : Tree → Scope → Context → List PxError
own_refusals (column n) scope place = refused_where (is_none (kind_of_name n scope)) (ColumnNotFound n)
own_refusals (literal (range low high k)) scope place = refused_where (not (is_range_kind k)) (InvalidOperation RangeType)
own_refusals (literal _) scope place = []
own_refusals (alias e n) scope place = []
own_refusals (binary l op r) scope place = refusal_of_two (operator_kind op) (kind_in l scope) (kind_in r scope)
own_refusals (ternary p a b) scope place =
    refused_where (fails is_boolean_kind (kind_in p scope)) SchemaMismatch
    ++ refusal_of_two (λ j k. kind_where (kind_eq j k) j) (kind_in a scope) (kind_in b scope)
own_refusals (cast e to options) scope place = refusal_of_one (λ from. cast_kind from to) (kind_in e scope)
own_refusals (function es f) scope place =
    refused_where (is_one_input_missing (called f) es) (InvalidOperation Types)
    ++ on_groups place (grouped_function_refusals (called f) es)
    ++ refusal_of_all (function_kind (called f)) (kinds_in es scope)
own_refusals (filter e by) scope place =
    on_groups place (scalar_refusal e)
    ++ refused_where (fails is_boolean_kind (kind_in by scope)) SchemaMismatch
own_refusals (slice e offset length) scope place =
    on_groups place (implode_refusal (has_implode (slice e offset length)) ++ scalar_refusal e)
    ++ refused_where (fails is_integer_or_null (kind_in offset scope) || fails is_integer_or_null (kind_in length scope)) (InvalidOperation Types)
own_refusals (gather e idx one) scope place =
    on_groups place (scalar_refusal e)
    ++ refused_where (fails is_integer_kind (kind_in idx scope)) (InvalidOperation Types)
    ++ refused_where (one && not (is_unit idx)) (ComputeError SingleIndex)
own_refusals (sort e options) scope place =
    on_groups place (scalar_refusal e)
    ++ refused_where (fails not_list (kind_in e scope)) (InvalidOperation ListKey)
own_refusals (sort_by e by options) scope place =
    on_groups place (scalar_refusal e)
    ++ refused_where (has_list_kind (kinds_in by scope)) (InvalidOperation ListKey)
own_refusals (agg m e) scope place =
    on_groups place (grouped_reduction_refusals m e)
    ++ refusal_of_one (reduced_kind m) (kind_in e scope)
own_refusals len scope place = []
own_refusals (window f keys order mapping) scope place =
    on_groups place (InvalidOperation WindowOnGroups ∷ [])
    ++ no_key_refusal keys
    ++ refused_where (has_list_kind (kinds_in keys scope) || fails not_list (order_kind order scope)) (InvalidOperation ListKey)

-- the inputs' refusals; where there are none, the first own one
abbrev pub or_first : List PxError → List PxError → List PxError
or_first (e ∷ es) own = e ∷ es
or_first [] [] = []
or_first [] (e ∷ es) = e ∷ []

abbrev mutual
  -- why an expression is refused over these names and types, in this place
  pub refusals_of : Tree → Scope → Context → List PxError
  refusals_of (column n) scope place = own_refusals (column n) scope place
  refusals_of (literal v) scope place = own_refusals (literal v) scope place
  refusals_of (alias e n) scope place = refusals_of e scope place
  refusals_of (binary l op r) scope place =
      or_first (refusals_of l scope place ++ refusals_of r scope place) (own_refusals (binary l op r) scope place)
  refusals_of (ternary p a b) scope place =
      or_first (refusals_of p scope place ++ refusals_of a scope place ++ refusals_of b scope place) (own_refusals (ternary p a b) scope place)
  refusals_of (cast e k options) scope place =
      or_first (refusals_of e scope place) (own_refusals (cast e k options) scope place)
  refusals_of (function es f) scope place =
      or_first (all_refusals_of es scope place) (own_refusals (function es f) scope place)
  refusals_of (filter e by) scope place =
      or_first (refusals_of e scope place ++ refusals_of by scope place) (own_refusals (filter e by) scope place)
  refusals_of (slice e offset length) scope place =
      or_first (refusals_of e scope place ++ refusals_of offset scope place ++ refusals_of length scope place) (own_refusals (slice e offset length) scope place)
  refusals_of (gather e idx one) scope place =
      or_first (refusals_of e scope place ++ refusals_of idx scope place) (own_refusals (gather e idx one) scope place)
  refusals_of (sort e options) scope place =
      or_first (refusals_of e scope place) (own_refusals (sort e options) scope place)
  refusals_of (sort_by e by options) scope place =
      or_first (refusals_of e scope place ++ all_refusals_of by scope place) (own_refusals (sort_by e by options) scope place)
  refusals_of (agg m e) scope place =
      or_first (refusals_of e scope place) (own_refusals (agg m e) scope place)
  refusals_of len scope place = []
  refusals_of (window f keys order mapping) scope place =
      or_first (refusals_of f scope Aggregation ++ all_refusals_of keys scope Default ++ order_refusals_of order scope Default) (own_refusals (window f keys order mapping) scope place)

  -- why some expressions are refused, from left to right
  pub all_refusals_of : Trees → Scope → Context → List PxError
  all_refusals_of no_trees scope place = []
  all_refusals_of (one_tree t ts) scope place = refusals_of t scope place ++ all_refusals_of ts scope place

  -- why what an order is by is refused
  pub order_refusals_of : Order → Scope → Context → List PxError
  order_refusals_of no_order scope place = []
  order_refusals_of (ordered t options) scope place = refusals_of t scope place

-- the first refusal, or the type
abbrev pub first_or_kind : List PxError → Option Kind → Result Kind PxError
first_or_kind (e ∷ es) k = Err e
first_or_kind [] (Some k) = Ok k
first_or_kind [] None = Err (InvalidOperation Types)

-- the type of an expression, or the first refusal
abbrev pub type_of : Tree → Scope → Context → Result Kind PxError
type_of e scope place = first_or_kind (refusals_of e scope place) (kind_in e scope)

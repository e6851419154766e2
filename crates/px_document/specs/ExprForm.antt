-- What JSON data says as an expression. An object has one key, which tells the kind of the expression.
use Rattle.std.specs.Prelude.{ℕ, zero, suc, ℤ, Bool, false, List, [], ◌∷◌, ◌++◌, Option, Some, None, codes, is_some, option_map, unwrap_or, if◌then◌else◌}
use Rattle.std.specs.Option.{option_or}
use Rattle.std.specs.Str.{bytes_eq}
use Rattle.serde_json.specs.Data.{Data}
use Rattle.serde_json.specs.Find.{as_null, as_bool, as_number, as_str, as_i64}
use Rattle.px_column.specs.Prelude.{Slot, Kind, nulls, fits, is_list_kind}
use Rattle.px_column.specs.Option.{◌>>=◌, each}
use Rattle.px_value.specs.declared.cast_options.CastOptions.{CastOptions}
use Rattle.px_value.specs.declared.cast_options.CastOptions.TheVariants.{Strict, NonStrict, Overflowing}
use Rattle.px_value.specs.declared.closed_interval.ClosedInterval.{ClosedInterval}
use Rattle.px_value.specs.declared.closed_interval.ClosedInterval.TheVariants as closed
use Rattle.px_value.specs.declared.method.GroupByMethod.{GroupByMethod}
use Rattle.px_value.specs.declared.method.GroupByMethod.TheVariants.{Min, Max, Sum, First, Last, NUnique, Count, Implode}
use Rattle.px_value.specs.declared.operator.Operator.{Operator}
use Rattle.px_value.specs.declared.operator.Operator.TheVariants.{Eq, EqValidity, NotEq, NotEqValidity, Lt, LtEq, Gt, GtEq, Plus, Minus, Multiply, Divide, FloorDivide, Modulus, And, Or, Xor, LogicalAnd, LogicalOr}
use Rattle.px_value.specs.declared.sort_options.SortMultipleOptions.{SortMultipleOptions}
use Rattle.px_value.specs.declared.sort_options.SortOptions.{SortOptions}
use Rattle.px_tree.specs.Tree.{Tree, by_name, as_explode, Order, Literal, single, range, series, trees_of, no_trees, one_tree, no_order, ordered, column, literal, alias, binary, ternary, cast, function, filter, slice, gather, sort, sort_by, agg, len, window}
use Rattle.px_tree.specs.declared.function.FunctionExpr.{FunctionExpr}
use Rattle.px_tree.specs.declared.function.FunctionExpr.TheVariants.{IsNull, IsNotNull, Not, IsBetween, IsIn, Reverse, Shift, DropNulls, NullCount}
use Rattle.px_tree.specs.declared.window.WindowMapping.{WindowMapping}
use Rattle.px_tree.specs.declared.window.WindowMapping.TheVariants as mapping
use Rattle.px_document.specs.Document.{kind_named, place_of, column_of}
use Rattle.px_document.specs.Form.{items, fields, field}

-- the one of these that has the text as its name
abbrev pub meant_by : {A : Type 0} → List (List ℕ × A) → List ℕ → Option A
meant_by [] s = None
meant_by (n ∷ names) s = if bytes_eq s n.0 then Some n.1 else meant_by names s

-- the names of operators: those of comparisons
abbrev pub comparisons : List (List ℕ × Operator)
comparisons =
    (codes "Eq", Eq) ∷ (codes "EqValidity", EqValidity) ∷ (codes "NotEq", NotEq) ∷ (codes "NotEqValidity", NotEqValidity)
    ∷ (codes "Lt", Lt) ∷ (codes "LtEq", LtEq) ∷ (codes "Gt", Gt) ∷ (codes "GtEq", GtEq) ∷ []

-- those of arithmetic
abbrev pub arithmetic : List (List ℕ × Operator)
arithmetic =
    (codes "Plus", Plus) ∷ (codes "Minus", Minus) ∷ (codes "Multiply", Multiply)
    ∷ (codes "Divide", Divide) ∷ (codes "FloorDivide", FloorDivide) ∷ (codes "Modulus", Modulus) ∷ []

-- and those of logic
abbrev pub logical : List (List ℕ × Operator)
logical = (codes "And", And) ∷ (codes "Or", Or) ∷ (codes "Xor", Xor) ∷ (codes "LogicalAnd", LogicalAnd) ∷ (codes "LogicalOr", LogicalOr) ∷ []

abbrev pub operator_named : List ℕ → Option Operator
operator_named s = meant_by (comparisons ++ (arithmetic ++ logical)) s

abbrev pub cast_named : List ℕ → Option CastOptions
cast_named s = meant_by ((codes "Strict", Strict) ∷ (codes "NonStrict", NonStrict) ∷ (codes "Overflowing", Overflowing) ∷ []) s

abbrev pub closed_named : List ℕ → Option ClosedInterval
closed_named s = meant_by ((codes "Both", closed.Both) ∷ (codes "Left", closed.Left) ∷ (codes "Right", closed.Right) ∷ (codes "None", closed.None) ∷ []) s

-- the reductions that take nothing but their input
abbrev pub reduction_named : List ℕ → Option GroupByMethod
reduction_named s = meant_by
    ((codes "Min", Min) ∷ (codes "Max", Max) ∷ (codes "Sum", Sum) ∷ (codes "First", First) ∷ (codes "Last", Last) ∷ (codes "NUnique", NUnique) ∷ (codes "Implode", Implode) ∷ []) s

-- the functions of one input that take nothing else
abbrev pub function_named : List ℕ → Option FunctionExpr
function_named s = meant_by
    ((codes "IsNull", IsNull) ∷ (codes "IsNotNull", IsNotNull) ∷ (codes "Not", Not) ∷ (codes "Reverse", Reverse) ∷ (codes "DropNulls", DropNulls) ∷ (codes "NullCount", NullCount) ∷ []) s

abbrev pub mapping_named : List ℕ → Option WindowMapping
mapping_named s = meant_by ((codes "GroupsToRows", mapping.GroupsToRows) ∷ (codes "Join", mapping.Join) ∷ (codes "Explode", mapping.Explode) ∷ []) s

-- the text of a name
abbrev pub is_text : List ℕ → Data → Bool
is_text name d = unwrap_or (option_map (λ s. bytes_eq s name) (as_str d)) false

-- a single value of a type, which is no list; a null is of type Null alone
abbrev pub single_of : Kind → Slot → Option Literal
single_of nulls None = Some (single nulls None)
single_of k None = None
single_of k (Some d) = if fits k d then Some (single k (Some d)) else None

abbrev pub literal_parts : List Data → Option Literal
literal_parts (t ∷ v ∷ []) = do
  kind ← as_str t >>= kind_named
  slot ← if is_list_kind kind then None else place_of kind v
  single_of kind slot
literal_parts _ = None

-- a number of 64 bits
abbrev pub int64_of : Data → Option ℤ
int64_of d = as_number d >>= as_i64

abbrev pub range_parts : List Data → Option Literal
range_parts (l ∷ h ∷ t ∷ []) = do
  low ← int64_of l
  high ← int64_of h
  kind ← as_str t >>= kind_named
  Some (range low high kind)
range_parts _ = None

abbrev pub options_parts : List Data → Option SortOptions
options_parts (d ∷ n ∷ []) = do
  descending ← as_bool d
  nulls_last ← as_bool n
  Some (record { descending = descending; nulls_last = nulls_last })
options_parts _ = None

-- {"descending": truth, "nulls_last": truth}
abbrev pub options_of : Data → Option SortOptions
options_of d = fields (codes "descending" ∷ codes "nulls_last" ∷ []) d >>= options_parts

abbrev pub flags_parts : List Data → Option SortMultipleOptions
flags_parts (d ∷ n ∷ []) = do
  descending ← items d >>= each as_bool
  nulls_last ← items n >>= each as_bool
  Some (record { descending = descending; nulls_last = nulls_last })
flags_parts _ = None

-- {"descending": [truth..], "nulls_last": [truth..]}
abbrev pub flags_of : Data → Option SortMultipleOptions
flags_of d = fields (codes "descending" ∷ codes "nulls_last" ∷ []) d >>= flags_parts

-- the kinds of expressions, over how the expressions inside are read
module _ (expr : Data → Option Tree) where
  abbrev pub alias_parts : List Data → Option Tree
  alias_parts (e ∷ n ∷ []) = do
    input ← expr e
    name ← as_str n
    Some (alias input name)
  alias_parts _ = None

  abbrev pub binary_parts : List Data → Option Tree
  binary_parts (o ∷ l ∷ r ∷ []) = do
    operator ← as_str o >>= operator_named
    left ← expr l
    right ← expr r
    Some (binary left operator right)
  binary_parts _ = None

  abbrev pub ternary_parts : List Data → Option Tree
  ternary_parts (p ∷ t ∷ f ∷ []) = do
    predicate ← expr p
    truthy ← expr t
    falsy ← expr f
    Some (ternary predicate truthy falsy)
  ternary_parts _ = None

  abbrev pub cast_parts : List Data → Option Tree
  cast_parts (e ∷ t ∷ o ∷ []) = do
    input ← expr e
    kind ← as_str t >>= kind_named
    options ← as_str o >>= cast_named
    Some (cast input kind options)
  cast_parts _ = None

  -- a function of some inputs
  abbrev pub call_of : FunctionExpr → List Data → Option Tree
  call_of f es = option_map (λ inputs. function (trees_of inputs) (by_name f)) (each expr es)

  -- the function's name, what it takes besides, and its inputs
  abbrev pub function_parts : List Data → Option Tree
  function_parts (f ∷ e ∷ []) = as_str f >>= function_named >>= λ name. call_of name (e ∷ [])
  function_parts (f ∷ a ∷ b ∷ []) =
      if is_text (codes "IsIn") f then call_of IsIn (a ∷ b ∷ [])
      else if is_text (codes "Shift") f then (int64_of a >>= λ periods. call_of (Shift periods) (b ∷ []))
      else None
  function_parts (f ∷ c ∷ a ∷ b ∷ d ∷ []) =
      if is_text (codes "IsBetween") f then (as_str c >>= closed_named >>= λ ends. call_of (IsBetween ends) (a ∷ b ∷ d ∷ []))
      else None
  function_parts _ = None

  abbrev pub filter_parts : List Data → Option Tree
  filter_parts (e ∷ m ∷ []) = do
    input ← expr e
    mask ← expr m
    Some (filter input mask)
  filter_parts _ = None

  abbrev pub slice_parts : List Data → Option Tree
  slice_parts (e ∷ o ∷ l ∷ []) = do
    input ← expr e
    offset ← expr o
    length ← expr l
    Some (slice input offset length)
  slice_parts _ = None

  abbrev pub gather_parts : List Data → Option Tree
  gather_parts (e ∷ i ∷ s ∷ []) = do
    input ← expr e
    index ← expr i
    one ← as_bool s
    Some (gather input index one)
  gather_parts _ = None

  abbrev pub sort_parts : List Data → Option Tree
  sort_parts (e ∷ o ∷ []) = do
    input ← expr e
    options ← options_of o
    Some (sort input options)
  sort_parts _ = None

  abbrev pub sort_by_parts : List Data → Option Tree
  sort_by_parts (e ∷ b ∷ o ∷ []) = do
    input ← expr e
    by ← items b >>= each expr
    options ← flags_of o
    Some (sort_by input (trees_of by) options)
  sort_by_parts _ = None

  abbrev pub count_parts : Data → Data → Option Tree
  count_parts e n = do
    input ← expr e
    with_nulls ← as_bool n
    Some (agg (Count with_nulls) input)

  -- a reduction's name and its input, and for a count whether nulls are counted
  abbrev pub reduction_parts : List Data → Option Tree
  reduction_parts (m ∷ e ∷ []) = do
    method ← as_str m >>= reduction_named
    input ← expr e
    Some (agg method input)
  reduction_parts (m ∷ e ∷ n ∷ []) = if is_text (codes "Count") m then count_parts e n else None
  reduction_parts _ = None

  abbrev pub order_parts : List Data → Option Order
  order_parts (e ∷ o ∷ []) = do
    key ← expr e
    options ← options_of o
    Some (ordered key options)
  order_parts _ = None

  -- null, or an expression and how it is sorted
  abbrev pub order_of : Data → Option Order
  order_of d = if is_some (as_null d) then Some no_order else items d >>= order_parts

  abbrev pub over_parts : List Data → Option Tree
  over_parts (f ∷ k ∷ o ∷ m ∷ []) = do
    function' ← expr f
    keys ← items k >>= each expr
    order ← order_of o
    mapping ← as_str m >>= mapping_named
    Some (window function' (trees_of keys) order mapping)
  over_parts _ = None

  -- what is made of all the rows of others, each form under its key
  unfoldable pub whole_form : Data → Option Tree
  whole_form d =
      option_or (field (codes "filter") d >>= items >>= filter_parts)
      (option_or (field (codes "slice") d >>= items >>= slice_parts)
      (option_or (field (codes "gather") d >>= items >>= gather_parts)
      (option_or (field (codes "sort") d >>= items >>= sort_parts)
      (option_or (field (codes "sort_by") d >>= items >>= sort_by_parts)
      (option_or (field (codes "agg") d >>= items >>= reduction_parts)
      (option_or (option_map (λ _. len) (field (codes "len") d >>= as_null))
      (field (codes "over") d >>= fields (codes "function" ∷ codes "keys" ∷ codes "order" ∷ codes "mapping" ∷ []) >>= over_parts)))))))

  -- what is made of others row by row, or of all their rows
  unfoldable pub row_form : Data → Option Tree
  row_form d =
      option_or (field (codes "alias") d >>= items >>= alias_parts)
      (option_or (field (codes "bin") d >>= items >>= binary_parts)
      (option_or (field (codes "when") d >>= items >>= ternary_parts)
      (option_or (field (codes "cast") d >>= items >>= cast_parts)
      (option_or (field (codes "fn") d >>= items >>= function_parts)
      (option_or (option_map (λ e. function (one_tree e no_trees) as_explode) (field (codes "explode") d >>= expr))
      (whole_form d))))))

  -- all the forms
  unfoldable pub expr_form : Data → Option Tree
  expr_form d =
      option_or (option_map column (field (codes "col") d >>= as_str))
      (option_or (option_map literal (field (codes "lit") d >>= fields (codes "type" ∷ codes "value" ∷ []) >>= literal_parts))
      (option_or (option_map literal (field (codes "range") d >>= fields (codes "low" ∷ codes "high" ∷ codes "type" ∷ []) >>= range_parts))
      (option_or (option_map (λ s. literal (series s)) (field (codes "series") d >>= column_of))
      (row_form d))))

-- an expression with at most n expressions inside one another
abbrev pub expr_within : ℕ → Data → Option Tree
expr_within zero d = None
expr_within (suc n) d = expr_form (expr_within n) d

-- what data say as an expression. JSON that is read nests at most 127 deep, so that 128 levels reach every expression
unfoldable pub expr_of : Data → Option Tree
expr_of d = expr_within 128 d

-- The code by which the logic keeps trees, and tells one from another: a tree's nodes, each after its children, which a
-- stack turns into the tree again.
use Rattle.std.specs.Prelude.{◌≡◌, ◌⊎◌, ℕ, zero, suc, ℤ, Bool, List, [], ◌∷◌, refl, Option, Some, None}
use Rattle.std.proofs.Common.{◌∙◌, ap, inl, inr}
use Rattle.std.specs.Coded.{Coded, code_by, coded×, coded⊎, coded_list, coded_ℕ, coded_ℤ, coded_bool, coded_option}
use Rattle.px_column.specs.Prelude.{Slot, Kind, Series}
use Rattle.px_column.specs.DatumCode.{coded_datum}
use Rattle.px_column.specs.Kind.{coded_kind}
use Rattle.px_column.specs.Series.{coded_series}
use Rattle.px_value.specs.declared.cast_options.CastOptions.{CastOptions}
use Rattle.px_value.specs.declared.method.GroupByMethod.{GroupByMethod}
use Rattle.px_value.specs.declared.operator.Operator.{Operator}
use Rattle.px_value.specs.declared.sort_options.SortMultipleOptions.{SortMultipleOptions}
use Rattle.px_value.specs.declared.sort_options.SortOptions.{SortOptions}
use Rattle.px_value.specs.contracts.cast_options.CastOptions as cast_options
use Rattle.px_value.specs.contracts.method.GroupByMethod as method
use Rattle.px_value.specs.contracts.operator.Operator as operator
use Rattle.px_value.specs.contracts.sort_options.SortMultipleOptions as sort_multiple_options
use Rattle.px_value.specs.contracts.sort_options.SortOptions as sort_options
use Rattle.px_tree.specs.contracts.function.FunctionExpr as function_expr
use Rattle.px_tree.specs.contracts.window.WindowMapping as window_mapping
use Rattle.px_tree.specs.declared.function.FunctionExpr.{FunctionExpr}
use Rattle.px_tree.specs.declared.window.WindowMapping.{WindowMapping}
use Rattle.px_tree.specs.Tree.{Tree, Call, by_name, as_explode, Trees, Order, Literal, single, range, series, no_trees, one_tree, no_order, ordered, column, literal, alias, binary, ternary, cast, function, filter, slice, gather, sort, sort_by, agg, len, window}

-- a literal taken apart: a type and a place, the bounds and the type of a range, or a column
abbrev literal_parts : Literal → (Kind × Slot) ⊎ ((ℤ × (ℤ × Kind)) ⊎ Series)
literal_parts (single k s) = inl (k, s)
literal_parts (range low high k) = inr (inl (low, (high, k)))
literal_parts (series s) = inr (inr s)

-- the literal of these parts
abbrev literal_back : (Kind × Slot) ⊎ ((ℤ × (ℤ × Kind)) ⊎ Series) → Literal
literal_back (inl p) = single p.0 p.1
literal_back (inr (inl p)) = range p.0 p.1.0 p.1.1
literal_back (inr (inr s)) = series s

-- a literal, taken apart and put together, is the same literal
pub literal_round : (v : Literal) → literal_back (literal_parts v) ≡ v
literal_round (single k s) = refl
literal_round (range low high k) = refl
literal_round (series s) = refl

-- literals are told apart by their parts
abbrev pub coded_literal : Coded Literal
coded_literal =
    code_by ((Kind × Slot) ⊎ ((ℤ × (ℤ × Kind)) ⊎ Series))
    (coded⊎ (coded× coded_kind (coded_option coded_datum)) (coded⊎ (coded× coded_ℤ (coded× coded_ℤ coded_kind)) coded_series))
    literal_parts literal_back literal_round

-- the function that is called by its name, if any
abbrev call_name : Call → Option FunctionExpr
call_name (by_name f) = Some f
call_name as_explode = None

-- the call by this name
abbrev call_back : Option FunctionExpr → Call
call_back (Some f) = by_name f
call_back None = as_explode

-- a call by its own name, if any, is that call
pub call_round : (f : Call) → call_back (call_name f) ≡ f
call_round (by_name f) = refl
call_round as_explode = refl

-- calls are told apart by their names
abbrev pub coded_call : Coded Call
coded_call = code_by (Option FunctionExpr) (coded_option function_expr.the_row.coded) call_name call_back call_round

-- a node without its children; the plain ones hold nothing else
pub data Token : Type 0 where
  at_column : List ℕ → Token
  at_literal : Literal → Token
  at_alias : List ℕ → Token
  at_binary : Operator → Token
  at_plain : ℕ → Token
  at_cast : (Kind × CastOptions) → Token
  at_function : Call → Token
  at_gather : Bool → Token
  at_sort : SortOptions → Token
  at_order : SortOptions → Token
  at_sort_by : SortMultipleOptions → Token
  at_agg : GroupByMethod → Token
  at_window : WindowMapping → Token

-- what a token holds, by its kind
abbrev Parts : Type 0
Parts = (List ℕ) ⊎ (Literal ⊎ ((List ℕ) ⊎ (Operator ⊎ (ℕ ⊎ ((Kind × CastOptions) ⊎ (Call ⊎ (Bool ⊎ (SortOptions ⊎ (SortOptions ⊎ (SortMultipleOptions ⊎ (GroupByMethod ⊎ WindowMapping)))))))))))

-- a token taken apart
abbrev token_parts : Token → Parts
token_parts (at_column x) = inl x
token_parts (at_literal x) = inr (inl x)
token_parts (at_alias x) = inr (inr (inl x))
token_parts (at_binary x) = inr (inr (inr (inl x)))
token_parts (at_plain x) = inr (inr (inr (inr (inl x))))
token_parts (at_cast x) = inr (inr (inr (inr (inr (inl x)))))
token_parts (at_function x) = inr (inr (inr (inr (inr (inr (inl x))))))
token_parts (at_gather x) = inr (inr (inr (inr (inr (inr (inr (inl x)))))))
token_parts (at_sort x) = inr (inr (inr (inr (inr (inr (inr (inr (inl x))))))))
token_parts (at_order x) = inr (inr (inr (inr (inr (inr (inr (inr (inr (inl x)))))))))
token_parts (at_sort_by x) = inr (inr (inr (inr (inr (inr (inr (inr (inr (inr (inl x))))))))))
token_parts (at_agg x) = inr (inr (inr (inr (inr (inr (inr (inr (inr (inr (inr (inl x)))))))))))
token_parts (at_window x) = inr (inr (inr (inr (inr (inr (inr (inr (inr (inr (inr (inr x)))))))))))

-- the token of these parts
abbrev token_back : Parts → Token
token_back (inl x) = at_column x
token_back (inr (inl x)) = at_literal x
token_back (inr (inr (inl x))) = at_alias x
token_back (inr (inr (inr (inl x)))) = at_binary x
token_back (inr (inr (inr (inr (inl x))))) = at_plain x
token_back (inr (inr (inr (inr (inr (inl x)))))) = at_cast x
token_back (inr (inr (inr (inr (inr (inr (inl x))))))) = at_function x
token_back (inr (inr (inr (inr (inr (inr (inr (inl x)))))))) = at_gather x
token_back (inr (inr (inr (inr (inr (inr (inr (inr (inl x))))))))) = at_sort x
token_back (inr (inr (inr (inr (inr (inr (inr (inr (inr (inl x)))))))))) = at_order x
token_back (inr (inr (inr (inr (inr (inr (inr (inr (inr (inr (inl x))))))))))) = at_sort_by x
token_back (inr (inr (inr (inr (inr (inr (inr (inr (inr (inr (inr (inl x)))))))))))) = at_agg x
token_back (inr (inr (inr (inr (inr (inr (inr (inr (inr (inr (inr (inr x)))))))))))) = at_window x

-- a token, taken apart and put together, is the same token
pub token_round : (x : Token) → token_back (token_parts x) ≡ x
token_round (at_column x) = refl
token_round (at_literal x) = refl
token_round (at_alias x) = refl
token_round (at_binary x) = refl
token_round (at_plain x) = refl
token_round (at_cast x) = refl
token_round (at_function x) = refl
token_round (at_gather x) = refl
token_round (at_sort x) = refl
token_round (at_order x) = refl
token_round (at_sort_by x) = refl
token_round (at_agg x) = refl
token_round (at_window x) = refl

-- the parts of tokens are told apart, each as what it is
abbrev coded_parts : Coded Parts
coded_parts = coded⊎ (coded_list coded_ℕ) (coded⊎ coded_literal (coded⊎ (coded_list coded_ℕ) (coded⊎ operator.the_row.coded (coded⊎ coded_ℕ (coded⊎ (coded× coded_kind cast_options.the_row.coded) (coded⊎ coded_call (coded⊎ coded_bool (coded⊎ sort_options.the_row.coded (coded⊎ sort_options.the_row.coded (coded⊎ sort_multiple_options.the_row.coded (coded⊎ method.the_row.coded window_mapping.the_row.coded)))))))))))

-- tokens are told apart by their parts
abbrev coded_token : Coded Token
coded_token = code_by Parts coded_parts token_parts token_back token_round

abbrev mutual
  -- a tree's nodes before others
  tokens : Tree → List Token → List Token
  tokens (column n) rest = at_column n ∷ rest
  tokens (literal v) rest = at_literal v ∷ rest
  tokens (alias e n) rest = tokens e (at_alias n ∷ rest)
  tokens (binary l op r) rest = tokens l (tokens r (at_binary op ∷ rest))
  tokens (ternary p a b) rest = tokens p (tokens a (tokens b (at_plain 0 ∷ rest)))
  tokens (cast e k options) rest = tokens e (at_cast (k, options) ∷ rest)
  tokens (function es f) rest = all_tokens es (at_function f ∷ rest)
  tokens (filter e by) rest = tokens e (tokens by (at_plain 1 ∷ rest))
  tokens (slice e offset length) rest = tokens e (tokens offset (tokens length (at_plain 2 ∷ rest)))
  tokens (gather e idx one) rest = tokens e (tokens idx (at_gather one ∷ rest))
  tokens (sort e options) rest = tokens e (at_sort options ∷ rest)
  tokens (sort_by e by options) rest = tokens e (all_tokens by (at_sort_by options ∷ rest))
  tokens (agg m e) rest = tokens e (at_agg m ∷ rest)
  tokens len rest = at_plain 3 ∷ rest
  tokens (window f keys order mapping) rest = tokens f (all_tokens keys (order_tokens order (at_window mapping ∷ rest)))

  -- the nodes of a list of trees before others, with a mark for each tree
  all_tokens : Trees → List Token → List Token
  all_tokens no_trees rest = at_plain 4 ∷ rest
  all_tokens (one_tree t ts) rest = tokens t (all_tokens ts (at_plain 5 ∷ rest))

  -- the nodes of what an order is by before others, or a mark for no order
  order_tokens : Order → List Token → List Token
  order_tokens no_order rest = at_plain 6 ∷ rest
  order_tokens (ordered t options) rest = tokens t (at_order options ∷ rest)

-- what stands on the stack: trees, lists of trees, orders
pub record Stack : Type 0 where
  pub trees : List Tree
  pub lists : List Trees
  pub orders : List Order

-- a stack of these trees, lists and orders
abbrev stack : List Tree → List Trees → List Order → Stack
stack ts us os = record { trees = ts; lists = us; orders = os }

-- what a plain token makes of a stack
abbrev plain_step : ℕ → List Tree → List Trees → List Order → Stack
plain_step zero (c ∷ b ∷ a ∷ ts) us os = stack (ternary a b c ∷ ts) us os
plain_step (suc zero) (b ∷ a ∷ ts) us os = stack (filter a b ∷ ts) us os
plain_step (suc (suc zero)) (c ∷ b ∷ a ∷ ts) us os = stack (slice a b c ∷ ts) us os
plain_step (suc (suc (suc zero))) ts us os = stack (len ∷ ts) us os
plain_step (suc (suc (suc (suc zero)))) ts us os = stack ts (no_trees ∷ us) os
plain_step (suc (suc (suc (suc (suc zero))))) (t ∷ ts) (u ∷ us) os = stack ts (one_tree t u ∷ us) os
plain_step _ ts us os = stack ts us (no_order ∷ os)

-- what a token makes of a stack: it takes its children off, and puts its tree on
abbrev token_step : Token → List Tree → List Trees → List Order → Stack
token_step (at_column n) ts us os = stack (column n ∷ ts) us os
token_step (at_literal v) ts us os = stack (literal v ∷ ts) us os
token_step (at_alias n) (e ∷ ts) us os = stack (alias e n ∷ ts) us os
token_step (at_binary op) (r ∷ l ∷ ts) us os = stack (binary l op r ∷ ts) us os
token_step (at_plain n) ts us os = plain_step n ts us os
token_step (at_cast p) (e ∷ ts) us os = stack (cast e p.0 p.1 ∷ ts) us os
token_step (at_function f) ts (u ∷ us) os = stack (function u f ∷ ts) us os
token_step (at_gather one) (b ∷ a ∷ ts) us os = stack (gather a b one ∷ ts) us os
token_step (at_sort options) (e ∷ ts) us os = stack (sort e options ∷ ts) us os
token_step (at_order options) (t ∷ ts) us os = stack ts us (ordered t options ∷ os)
token_step (at_sort_by options) (e ∷ ts) (u ∷ us) os = stack (sort_by e u options ∷ ts) us os
token_step (at_agg m) (e ∷ ts) us os = stack (agg m e ∷ ts) us os
token_step (at_window mapping) (f ∷ ts) (u ∷ us) (o ∷ os) = stack (window f u o mapping ∷ ts) us os
token_step _ ts us os = stack ts us os

-- what tokens, one after another, make of a stack
abbrev run : List Token → Stack → Stack
run [] s = s
run (x ∷ xs) s = run xs (token_step x s.trees s.lists s.orders)

mutual
  -- the tokens of a tree put that tree on the stack
  run-tokens : (t : Tree) (rest : List Token) (ts : List Tree) (us : List Trees) (os : List Order) → run (tokens t rest) (stack ts us os) ≡ run rest (stack (t ∷ ts) us os)
  run-tokens (column n) rest ts us os = refl
  run-tokens (literal v) rest ts us os = refl
  run-tokens (alias e n) rest ts us os = run-tokens e (at_alias n ∷ rest) ts us os
  run-tokens (binary l op r) rest ts us os =
      run-tokens l (tokens r (at_binary op ∷ rest)) ts us os ∙ run-tokens r (at_binary op ∷ rest) (l ∷ ts) us os
  run-tokens (ternary p a b) rest ts us os =
      run-tokens p (tokens a (tokens b (at_plain 0 ∷ rest))) ts us os
      ∙ run-tokens a (tokens b (at_plain 0 ∷ rest)) (p ∷ ts) us os
      ∙ run-tokens b (at_plain 0 ∷ rest) (a ∷ p ∷ ts) us os
  run-tokens (cast e k options) rest ts us os = run-tokens e (at_cast (k, options) ∷ rest) ts us os
  run-tokens (function es f) rest ts us os = run-all_tokens es (at_function f ∷ rest) ts us os
  run-tokens (filter e by) rest ts us os =
      run-tokens e (tokens by (at_plain 1 ∷ rest)) ts us os ∙ run-tokens by (at_plain 1 ∷ rest) (e ∷ ts) us os
  run-tokens (slice e offset length) rest ts us os =
      run-tokens e (tokens offset (tokens length (at_plain 2 ∷ rest))) ts us os
      ∙ run-tokens offset (tokens length (at_plain 2 ∷ rest)) (e ∷ ts) us os
      ∙ run-tokens length (at_plain 2 ∷ rest) (offset ∷ e ∷ ts) us os
  run-tokens (gather e idx one) rest ts us os =
      run-tokens e (tokens idx (at_gather one ∷ rest)) ts us os ∙ run-tokens idx (at_gather one ∷ rest) (e ∷ ts) us os
  run-tokens (sort e options) rest ts us os = run-tokens e (at_sort options ∷ rest) ts us os
  run-tokens (sort_by e by options) rest ts us os =
      run-tokens e (all_tokens by (at_sort_by options ∷ rest)) ts us os
      ∙ run-all_tokens by (at_sort_by options ∷ rest) (e ∷ ts) us os
  run-tokens (agg m e) rest ts us os = run-tokens e (at_agg m ∷ rest) ts us os
  run-tokens len rest ts us os = refl
  run-tokens (window f keys order mapping) rest ts us os =
      run-tokens f (all_tokens keys (order_tokens order (at_window mapping ∷ rest))) ts us os
      ∙ run-all_tokens keys (order_tokens order (at_window mapping ∷ rest)) (f ∷ ts) us os
      ∙ run-order_tokens order (at_window mapping ∷ rest) (f ∷ ts) (keys ∷ us) os

  -- the tokens of a list of trees put that list on the stack
  run-all_tokens : (es : Trees) (rest : List Token) (ts : List Tree) (us : List Trees) (os : List Order) → run (all_tokens es rest) (stack ts us os) ≡ run rest (stack ts (es ∷ us) os)
  run-all_tokens no_trees rest ts us os = refl
  run-all_tokens (one_tree t es) rest ts us os =
      run-tokens t (all_tokens es (at_plain 5 ∷ rest)) ts us os ∙ run-all_tokens es (at_plain 5 ∷ rest) (t ∷ ts) us os

  -- the tokens of an order put that order on the stack
  run-order_tokens : (o : Order) (rest : List Token) (ts : List Tree) (us : List Trees) (os : List Order) → run (order_tokens o rest) (stack ts us os) ≡ run rest (stack ts us (o ∷ os))
  run-order_tokens no_order rest ts us os = refl
  run-order_tokens (ordered t options) rest ts us os = run-tokens t (at_order options ∷ rest) ts us os

-- the tree on top of a stack, a length where there is none
abbrev top : List Tree → Tree
top [] = len
top (t ∷ ts) = t

-- the tokens of a tree
abbrev tree_tokens : Tree → List Token
tree_tokens t = tokens t []

-- the tree that tokens make
abbrev tree_back : List Token → Tree
tree_back xs = top (run xs (stack [] [] [])).trees

-- the tree that a tree's tokens make is that tree
pub tree_round : (t : Tree) → tree_back (tree_tokens t) ≡ t
tree_round t = ap (λ (s : Stack). top s.trees) (run-tokens t [] [] [] [])

-- trees are told apart by their tokens
abbrev pub coded_tree : Coded Tree
coded_tree = code_by (List Token) (coded_list coded_token) tree_tokens tree_back tree_round

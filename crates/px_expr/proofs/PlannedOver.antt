-- Nodes over nodes that were planned over one schema.
use Rattle.std.proofs.Common.{◌≡◌, ℕ, List, ◌++◌, Option, Some, None, Result, Ok, map, refl, sym, ◌∙◌, ap, subst}
use Rattle.std.proofs.lemmas.List.{map-append}
use Rattle.px_column.specs.Prelude.{Answers, AnswersBy}
use Rattle.px_value.specs.declared.error.PxError.{PxError}
use Rattle.px_value.specs.declared.sort_options.SortMultipleOptions.{SortMultipleOptions}
use Rattle.px_value.specs.declared.sort_options.SortOptions.{SortOptions}
use Rattle.px_tree.specs.Nodes.{leaf_names, all_leaf_names, order_leaf_names}
use Rattle.px_tree.specs.Tree.{Tree, Trees, Order, Call, no_trees, one_tree, no_order, ordered, sort_by, window}
use Rattle.px_tree.specs.Typing.{Scope}
use Rattle.px_tree.specs.declared.window.WindowMapping.{WindowMapping}
use Rattle.px_answers.specs.Parts.{call_in, call_on, order_columns, plan_columns, plan_order, plan_trees}
use Rattle.px_expr.specs.Plan.{planned_over, all_planned_over, order_planned_over}
use Rattle.px_answers.specs.Planned.{Planned, PlannedColumn}

-- a column node of a name
abbrev planned_column : Scope → List ℕ → PlannedColumn
planned_column scope n = record { name = n; schema = scope }

-- the column nodes of some names
abbrev columns_over : Scope → List (List ℕ) → List PlannedColumn
columns_over scope names = map (planned_column scope) names

-- an expression with these column nodes
abbrev with_columns : Tree → List PlannedColumn → Planned
with_columns t cs = record { tree = t; columns = cs }

columns_append : (scope : Scope) (ms ns : List (List ℕ)) → columns_over scope (ms ++ ns) ≡ columns_over scope ms ++ columns_over scope ns
columns_append scope ms ns = map-append (planned_column scope) ms ns

-- the expressions of some nodes
trees_planned : (scope : Scope) (ts : Trees) → plan_trees (all_planned_over scope ts) ≡ ts
trees_planned scope no_trees = refl
trees_planned scope (one_tree t ts) = ap (one_tree t) (trees_planned scope ts)

-- the column nodes of some nodes
columns_planned : (scope : Scope) (ts : Trees) → plan_columns (all_planned_over scope ts) ≡ columns_over scope (all_leaf_names ts)
columns_planned scope no_trees = refl
columns_planned scope (one_tree t ts) = ap (λ (cs : List PlannedColumn). columns_over scope (leaf_names t) ++ cs) (columns_planned scope ts) ∙ sym (columns_append scope (leaf_names t) (all_leaf_names ts))

opened : {X : Type 0} (x y : X) → Answers (Ok x) (Ok y) → y ≡ x
opened x y h = cc

columns_of_one : (scope : Scope) (t : Tree) (p : Planned) → Answers (Ok p) (Ok (planned_over scope t)) → p.columns ≡ columns_over scope (leaf_names t)
columns_of_one scope t p h = ap (λ (q : Planned). q.columns) (sym (opened p (planned_over scope t) h))

columns_of_all : (scope : Scope) (ts : Trees) (ps : List Planned) → Answers (Ok ps) (Ok (all_planned_over scope ts)) → plan_columns ps ≡ columns_over scope (all_leaf_names ts)
columns_of_all scope ts ps h = ap plan_columns (sym (opened ps (all_planned_over scope ts) h)) ∙ columns_planned scope ts

trees_of_all : (scope : Scope) (ts : Trees) (ps : List Planned) → Answers (Ok ps) (Ok (all_planned_over scope ts)) → ts ≡ plan_trees ps
trees_of_all scope ts ps h = sym (trees_planned scope ts) ∙ ap plan_trees (opened ps (all_planned_over scope ts) h)

-- column nodes after column nodes
columns_joined : (scope : Scope) (us vs : List PlannedColumn) (ms ns : List (List ℕ)) → us ≡ columns_over scope ms → vs ≡ columns_over scope ns → us ++ vs ≡ columns_over scope (ms ++ ns)
columns_joined scope us vs ms ns first second = ap (λ (cs : List PlannedColumn). cs ++ vs) first ∙ (ap (λ (cs : List PlannedColumn). columns_over scope ms ++ cs) second ∙ sym (columns_append scope ms ns))

-- a node whose column nodes are those of its expression's names
answer_over : {X : Type 0} (view : X → Planned) (r : Result X PxError) (scope : Scope) (t : Tree) (names : List (List ℕ)) (cs : List PlannedColumn) → leaf_names t ≡ names → cs ≡ columns_over scope names → AnswersBy view r (Ok (with_columns t cs)) → AnswersBy view r (Ok (planned_over scope t))
answer_over view r scope t names cs named same answer = subst (λ (p : Planned). AnswersBy view r (Ok p)) (ap (with_columns t) (same ∙ ap (columns_over scope) (sym named))) answer

-- a node of two others
pub two_over : {X : Type 0} (view : X → Planned) (r : Result X PxError) (scope : Scope) (t a b : Tree) (p q : Planned) → leaf_names t ≡ leaf_names a ++ leaf_names b
    → Answers (Ok p) (Ok (planned_over scope a)) → Answers (Ok q) (Ok (planned_over scope b)) → AnswersBy view r (Ok (with_columns t (p.columns ++ q.columns))) → AnswersBy view r (Ok (planned_over scope t))
two_over view r scope t a b p q named left right answer =
    answer_over view r scope t (leaf_names a ++ leaf_names b) (p.columns ++ q.columns) named
    (columns_joined scope p.columns q.columns (leaf_names a) (leaf_names b) (columns_of_one scope a p left) (columns_of_one scope b q right)) answer

-- a node of three others
pub three_over : {X : Type 0} (view : X → Planned) (r : Result X PxError) (scope : Scope) (t a b d : Tree) (p q s : Planned) → leaf_names t ≡ leaf_names a ++ (leaf_names b ++ leaf_names d)
    → Answers (Ok p) (Ok (planned_over scope a)) → Answers (Ok q) (Ok (planned_over scope b)) → Answers (Ok s) (Ok (planned_over scope d))
    → AnswersBy view r (Ok (with_columns t (p.columns ++ (q.columns ++ s.columns)))) → AnswersBy view r (Ok (planned_over scope t))
three_over view r scope t a b d p q s named first second third answer =
    answer_over view r scope t (leaf_names a ++ (leaf_names b ++ leaf_names d)) (p.columns ++ (q.columns ++ s.columns)) named
    (columns_joined scope p.columns (q.columns ++ s.columns) (leaf_names a) (leaf_names b ++ leaf_names d) (columns_of_one scope a p first)
    (columns_joined scope q.columns s.columns (leaf_names b) (leaf_names d) (columns_of_one scope b q second) (columns_of_one scope d s third))) answer

-- a node of a list of others
pub list_over : {X : Type 0} (view : X → Planned) (r : Result X PxError) (scope : Scope) (t : Tree) (ts : Trees) (ps : List Planned) → leaf_names t ≡ all_leaf_names ts
    → Answers (Ok ps) (Ok (all_planned_over scope ts)) → AnswersBy view r (Ok (with_columns t (plan_columns ps))) → AnswersBy view r (Ok (planned_over scope t))
list_over view r scope t ts ps named planned answer = answer_over view r scope t (all_leaf_names ts) (plan_columns ps) named (columns_of_all scope ts ps planned) answer

-- a node of one and a list of others
pub one_and_list_over : {X : Type 0} (view : X → Planned) (r : Result X PxError) (scope : Scope) (t a : Tree) (ts : Trees) (p : Planned) (ps : List Planned) → leaf_names t ≡ leaf_names a ++ all_leaf_names ts
    → Answers (Ok p) (Ok (planned_over scope a)) → Answers (Ok ps) (Ok (all_planned_over scope ts)) → AnswersBy view r (Ok (with_columns t (p.columns ++ plan_columns ps))) → AnswersBy view r (Ok (planned_over scope t))
one_and_list_over view r scope t a ts p ps named first planned answer =
    answer_over view r scope t (leaf_names a ++ all_leaf_names ts) (p.columns ++ plan_columns ps) named
    (columns_joined scope p.columns (plan_columns ps) (leaf_names a) (all_leaf_names ts) (columns_of_one scope a p first) (columns_of_all scope ts ps planned)) answer

-- the column nodes of what rows are ordered by
columns_of_order : (scope : Scope) (o : Order) (p : Option (Planned × SortOptions)) → Answers (Ok p) (Ok (order_planned_over scope o)) → order_columns p ≡ columns_over scope (order_leaf_names o)
columns_of_order scope no_order p h = ap order_columns (sym (opened p None h))
columns_of_order scope (ordered t options) p h = ap order_columns (sym (opened p (Some (planned_over scope t, options)) h))

-- and their expression
order_of_planned : (scope : Scope) (o : Order) (p : Option (Planned × SortOptions)) → Answers (Ok p) (Ok (order_planned_over scope o)) → o ≡ plan_order p
order_of_planned scope no_order p h = ap plan_order (opened p None h)
order_of_planned scope (ordered t options) p h = ap plan_order (opened p (Some (planned_over scope t, options)) h)

-- a window of a function by keys, in an order
pub window_over : {X : Type 0} (view : X → Planned) (r : Result X PxError) (scope : Scope) (t f : Tree) (ts : Trees) (o : Order) (p : Planned) (ps : List Planned) (q : Option (Planned × SortOptions))
    → leaf_names t ≡ leaf_names f ++ (all_leaf_names ts ++ order_leaf_names o) → Answers (Ok p) (Ok (planned_over scope f)) → Answers (Ok ps) (Ok (all_planned_over scope ts)) → Answers (Ok q) (Ok (order_planned_over scope o))
    → AnswersBy view r (Ok (with_columns t (p.columns ++ (plan_columns ps ++ order_columns q)))) → AnswersBy view r (Ok (planned_over scope t))
window_over view r scope t f ts o p ps q named first keys order answer =
    answer_over view r scope t (leaf_names f ++ (all_leaf_names ts ++ order_leaf_names o)) (p.columns ++ (plan_columns ps ++ order_columns q)) named
    (columns_joined scope p.columns (plan_columns ps ++ order_columns q) (leaf_names f) (all_leaf_names ts ++ order_leaf_names o) (columns_of_one scope f p first)
    (columns_joined scope (plan_columns ps) (order_columns q) (all_leaf_names ts) (order_leaf_names o) (columns_of_all scope ts ps keys) (columns_of_order scope o q order))) answer

-- the expression of a window of nodes
pub window_tree_over : (scope : Scope) (t f : Tree) (ts : Trees) (o : Order) (mapping : WindowMapping) (p : Planned) (ps : List Planned) (q : Option (Planned × SortOptions)) → t ≡ window f ts o mapping
    → Answers (Ok p) (Ok (planned_over scope f)) → Answers (Ok ps) (Ok (all_planned_over scope ts)) → Answers (Ok q) (Ok (order_planned_over scope o)) → t ≡ window p.tree (plan_trees ps) (plan_order q) mapping
window_tree_over scope t f ts o mapping p ps q shape first keys order =
    let function : f ≡ p.tree = ap (λ (x : Planned). x.tree) (opened p (planned_over scope f) first) in
    shape ∙ (λ i. window (function i) (trees_of_all scope ts ps keys i) (order_of_planned scope o q order i) mapping)

-- the expression of a function of nodes
pub call_over : (scope : Scope) (t : Tree) (ts : Trees) (k : Call) (ps : List Planned) → t ≡ call_on ts k → Answers (Ok ps) (Ok (all_planned_over scope ts)) → t ≡ call_on (plan_trees ps) (call_in t)
call_over scope t ts k ps shape planned =
    let kept : k ≡ call_in t = sym (ap call_in shape) in
    shape ∙ (ap (λ (us : Trees). call_on us k) (trees_of_all scope ts ps planned) ∙ ap (call_on (plan_trees ps)) kept)

-- the expression of a sort of one node by others
pub sort_by_over : (scope : Scope) (t a : Tree) (ts : Trees) (options : SortMultipleOptions) (p : Planned) (ps : List Planned) → t ≡ sort_by a ts options
    → Answers (Ok p) (Ok (planned_over scope a)) → Answers (Ok ps) (Ok (all_planned_over scope ts)) → t ≡ sort_by p.tree (plan_trees ps) options
sort_by_over scope t a ts options p ps shape first planned =
    let input : a ≡ p.tree = ap (λ (q : Planned). q.tree) (opened p (planned_over scope a) first) in
    shape ∙ (ap (λ (x : Tree). sort_by x ts options) input ∙ ap (λ (us : Trees). sort_by p.tree us options) (trees_of_all scope ts ps planned))

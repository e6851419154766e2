-- The value of an expression whose columns are the frame's.
use Rattle.std.proofs.Common.{◌≡◌, ℕ, true, ◌&&◌, List, [], ◌∷◌, ◌++◌, Option, Some, None, Ok, option_map, map, refl, sym, ◌∙◌, ap}
use Rattle.std.specs.List.{find}
use Rattle.std.specs.Option.{option_or}
use Rattle.std.specs.Prelude.{is_some}
use Rattle.px_column.specs.Prelude.{Kind, Series}
use Rattle.px_column.specs.Option.{◌>>=◌}
use Rattle.px_column.specs.Operator.{operator_kind}
use Rattle.px_column.specs.Reduction.{reduced_kind}
use Rattle.px_frame.specs.Cell.{Cell, rows}
use Rattle.px_frame.specs.External.{look_in, scope_of, rows_of_frame, external_at}
use Rattle.px_frame.specs.Frame.{look, series_at, height_of}
use Rattle.px_frame.specs.Schema.{FieldKind, column_field, has_field_name}
use Rattle.px_frame.specs.Spread.{NamedCell}
use Rattle.px_tree.specs.Node.{binary_cell, ternary_cell, cast_cell, function_cell, filter_cell, slice_cell, gather_cell, sort_cell, sort_by_cell, reduction_cell}
use Rattle.px_tree.specs.Nodes.{leaf_names, all_leaf_names, order_leaf_names}
use Rattle.px_tree.specs.Shape.{is_unit, is_literal_tree, name_of}
use Rattle.px_tree.specs.Tree.{Tree, called, Trees, Order, no_trees, one_tree, no_order, ordered, column, literal, alias, binary, ternary, cast, function, filter, slice, gather, sort, sort_by, agg, len, window}
use Rattle.px_tree.specs.Typing.{kind_in, kinds_in, kind_of_name, made_kind, function_kind, window_kind}
use Rattle.px_tree.specs.Value.{value_on, outcome_on, made, cells_on, named_on, order_on, first_kind, whole_window, window_parts}
use Rattle.px_laws.specs.Beside.{beside, is_column_of, are_columns_of}
use Rattle.px_value.proofs.FitLaws.{both}
use Rattle.px_frame.proofs.LookLaws.{field_look, look_rows as look_at}
use Rattle.px_tree.proofs.Scopes.{scope_stays}
use Rattle.px_value.proofs.EachLaws.{each_same}

split : (columns : List Series) (xs ys : List (List ℕ)) → are_columns_of columns (xs ++ ys) ≡ true → (are_columns_of columns xs ≡ true) × (are_columns_of columns ys ≡ true)
split columns [] ys h = (refl, h)
split columns (x ∷ xs) ys h =
    let first = both (is_column_of columns x) (are_columns_of columns (xs ++ ys)) h in
    let rest = split columns xs ys first.1 in
    (λ i. first.0 i && rest.0 i, rest.1)

some_map : (o : Option Series) → is_some (option_map column_field o) ≡ is_some o
some_map None = refl
some_map (Some s) = refl

kind_stays : (n : List ℕ) (columns external : List Series) → is_column_of columns n ≡ true → kind_of_name n (scope_of (beside columns external)) ≡ option_map (λ (f : FieldKind). f.kind) (find (has_field_name n) (map column_field columns))
kind_stays n columns external h =
    ap (option_map (λ (f : FieldKind). f.kind)) (scope_stays n (map column_field columns) external (ap is_some (field_look n columns) ∙ some_map (look n columns) ∙ h))

some_at : (p : List ℕ) (o : Option Series) → is_some (option_map (series_at p) o) ≡ is_some o
some_at p None = refl
some_at p (Some s) = refl

columns_at : (columns : List Series) (p : List ℕ) (names : List (List ℕ)) → are_columns_of (map (series_at p) columns) names ≡ are_columns_of columns names
columns_at columns p [] = refl
columns_at columns p (n ∷ names) = λ i. (ap is_some (look_at n columns p) ∙ some_at p (look n columns)) i && columns_at columns p names i

-- the type of such an expression
mutual
  pub kind_same : (e : Tree) (cs a b : List Series) → are_columns_of cs (leaf_names e) ≡ true → kind_in e (scope_of (beside cs a)) ≡ kind_in e (scope_of (beside cs b))
  kind_same (column n) cs a b h = let k = (both (is_column_of cs n) true h).0 in kind_stays n cs a k ∙ sym (kind_stays n cs b k)
  kind_same (literal v) cs a b h = refl
  kind_same (alias e n) cs a b h = kind_same e cs a b h
  kind_same (binary l op r) cs a b h =
      let s = split cs (leaf_names l) (leaf_names r) h in
      λ i. kind_same l cs a b s.0 i >>= λ j. kind_same r cs a b s.1 i >>= λ k. made_kind (operator_kind op j k)
  kind_same (ternary p x y) cs a b h = let s = split cs (leaf_names p) (leaf_names x ++ leaf_names y) h in kind_same x cs a b (split cs (leaf_names x) (leaf_names y) s.1).0
  kind_same (cast e k options) cs a b h = refl
  kind_same (function es f) cs a b h = λ i. kinds_same es cs a b h i >>= λ ks. made_kind (function_kind (called f) ks)
  kind_same (filter e by) cs a b h = kind_same e cs a b (split cs (leaf_names e) (leaf_names by) h).0
  kind_same (slice e offset length) cs a b h = kind_same e cs a b (split cs (leaf_names e) (leaf_names offset ++ leaf_names length) h).0
  kind_same (gather e idx one) cs a b h = kind_same e cs a b (split cs (leaf_names e) (leaf_names idx) h).0
  kind_same (sort e options) cs a b h = kind_same e cs a b h
  kind_same (sort_by e by options) cs a b h = kind_same e cs a b (split cs (leaf_names e) (all_leaf_names by) h).0
  kind_same (agg m e) cs a b h = λ i. kind_same e cs a b h i >>= λ k. made_kind (reduced_kind m k)
  kind_same len cs a b h = refl
  kind_same (window f keys order mapping) cs a b h =
      λ i. option_map (window_kind mapping (is_unit f)) (kind_same f cs a b (split cs (leaf_names f) (all_leaf_names keys ++ order_leaf_names order) h).0 i)

  pub kinds_same : (es : Trees) (cs a b : List Series) → are_columns_of cs (all_leaf_names es) ≡ true → kinds_in es (scope_of (beside cs a)) ≡ kinds_in es (scope_of (beside cs b))
  kinds_same no_trees cs a b h = refl
  kinds_same (one_tree t ts) cs a b h =
      let s = split cs (leaf_names t) (all_leaf_names ts) h in
      λ i. kind_same t cs a b s.0 i >>= λ k. kinds_same ts cs a b s.1 i >>= λ ks. Some (k ∷ ks)

look_beside : (n : List ℕ) (cs a : List Series) → is_column_of cs n ≡ true → look_in n (beside cs a) ≡ look n cs
look_beside n cs a h = by (look n cs) h
  where
    by : (o : Option Series) → is_some o ≡ true → option_or o (look n a) ≡ o
    by None h = cc
    by (Some s) h = refl

abbrev named_as : Tree → Kind → Cell → NamedCell
named_as t k c = record { name = name_of t; kind = k; cell = c }

-- the value of such an expression
mutual
  outcome_same : (e : Tree) (cs a b : List Series) → are_columns_of cs (leaf_names e) ≡ true → outcome_on e (beside cs a) ≡ outcome_on e (beside cs b)
  outcome_same (column n) cs a b h =
      let k = (both (is_column_of cs n) true h).0 in
      ap (option_map (λ (s : Series). Ok (rows s.slots))) (look_beside n cs a k ∙ sym (look_beside n cs b k))
  outcome_same (literal v) cs a b h = refl
  outcome_same (alias e n) cs a b h = λ i. option_map Ok (made (outcome_same e cs a b h i))
  outcome_same (binary l op r) cs a b h =
      let s = split cs (leaf_names l) (leaf_names r) h in
      λ i. kind_same l cs a b s.0 i >>= λ k. made (outcome_same l cs a b s.0 i) >>= λ x. made (outcome_same r cs a b s.1 i) >>= λ y. Some (binary_cell k op x y)
  outcome_same (ternary p x y) cs a b h =
      let s = split cs (leaf_names p) (leaf_names x ++ leaf_names y) h in
      let t = split cs (leaf_names x) (leaf_names y) s.1 in
      λ i. made (outcome_same p cs a b s.0 i) >>= λ c. made (outcome_same x cs a b t.0 i) >>= λ d. made (outcome_same y cs a b t.1 i) >>= λ e. Some (ternary_cell c d e)
  outcome_same (cast e to options) cs a b h = λ i. kind_same e cs a b h i >>= λ k. made (outcome_same e cs a b h i) >>= λ c. Some (cast_cell k to options c)
  outcome_same (function es f) cs a b h = λ i. kinds_same es cs a b h i >>= λ ks. cells_same es cs a b h i >>= λ xs. Some (function_cell (called f) (first_kind ks) xs)
  outcome_same (filter e by) cs a b h =
      let s = split cs (leaf_names e) (leaf_names by) h in
      λ i. made (outcome_same e cs a b s.0 i) >>= λ c. made (outcome_same by cs a b s.1 i) >>= λ mask. Some (filter_cell c mask)
  outcome_same (slice e offset length) cs a b h =
      let s = split cs (leaf_names e) (leaf_names offset ++ leaf_names length) h in
      let t = split cs (leaf_names offset) (leaf_names length) s.1 in
      λ i. made (outcome_same e cs a b s.0 i) >>= λ c. made (outcome_same offset cs a b t.0 i) >>= λ o. made (outcome_same length cs a b t.1 i) >>= λ l. Some (slice_cell c o l)
  outcome_same (gather e idx one) cs a b h =
      let s = split cs (leaf_names e) (leaf_names idx) h in
      λ i. made (outcome_same e cs a b s.0 i) >>= λ c. made (outcome_same idx cs a b s.1 i) >>= λ j. Some (gather_cell one (is_literal_tree idx) c j)
  outcome_same (sort e options) cs a b h = λ i. made (outcome_same e cs a b h i) >>= λ c. Some (sort_cell options c)
  outcome_same (sort_by e by options) cs a b h =
      let s = split cs (leaf_names e) (all_leaf_names by) h in
      λ i. made (outcome_same e cs a b s.0 i) >>= λ c. cells_same by cs a b s.1 i >>= λ keys. Some (sort_by_cell options c keys)
  outcome_same (agg m e) cs a b h = λ i. kind_same e cs a b h i >>= λ k. made (outcome_same e cs a b h i) >>= λ c. Some (Ok (reduction_cell m k c))
  outcome_same len cs a b h = refl
  outcome_same (window f keys order mapping) cs a b h =
      let s = split cs (leaf_names f) (all_leaf_names keys ++ order_leaf_names order) h in
      let t = split cs (all_leaf_names keys) (order_leaf_names order) s.1 in
      λ i. window_parts (named_same keys cs a b t.0 i) (order_same order cs a b t.1 i) (beside cs a)
      >>= λ found. whole_window mapping (beside cs a) found (λ parts. each_same (λ p. made (outcome_on f (rows_of_frame (beside cs a) p))) (λ p. made (outcome_on f (rows_of_frame (beside cs b) p))) parts
      (λ p. ap made (outcome_same f (map (series_at p) cs) (map (external_at (height_of cs) p) a) (map (external_at (height_of cs) p) b) (columns_at cs p (leaf_names f) ∙ s.0))) i)

  cells_same : (es : Trees) (cs a b : List Series) → are_columns_of cs (all_leaf_names es) ≡ true → cells_on es (beside cs a) ≡ cells_on es (beside cs b)
  cells_same no_trees cs a b h = refl
  cells_same (one_tree t ts) cs a b h =
      let s = split cs (leaf_names t) (all_leaf_names ts) h in
      λ i. made (outcome_same t cs a b s.0 i) >>= λ c. cells_same ts cs a b s.1 i >>= λ xs. Some (c ∷ xs)

  named_same : (es : Trees) (cs a b : List Series) → are_columns_of cs (all_leaf_names es) ≡ true → named_on es (beside cs a) ≡ named_on es (beside cs b)
  named_same no_trees cs a b h = refl
  named_same (one_tree t ts) cs a b h =
      let s = split cs (leaf_names t) (all_leaf_names ts) h in
      λ i. (made (outcome_same t cs a b s.0 i) >>= λ c. option_map (λ k. named_as t k c) (kind_same t cs a b s.0 i)) >>= λ c. named_same ts cs a b s.1 i >>= λ xs. Some (c ∷ xs)

  order_same : (order : Order) (cs a b : List Series) → are_columns_of cs (order_leaf_names order) ≡ true → order_on order (beside cs a) ≡ order_on order (beside cs b)
  order_same no_order cs a b h = refl
  order_same (ordered t options) cs a b h =
      λ i. option_map (λ c. Some (c, options)) (made (outcome_same t cs a b h i) >>= λ c. option_map (λ k. named_as t k c) (kind_same t cs a b h i))

pub value_beside : (e : Tree) (columns a b : List Series) → are_columns_of columns (leaf_names e) ≡ true → value_on e (beside columns a) ≡ value_on e (beside columns b)
value_beside e columns a b h = ap made (outcome_same e columns a b h)

-- What stands beside a frame is nothing to an expression over the frame's own columns.
use Rattle.std.proofs.Common.{◌≡◌, ℕ, true, ◌&&◌, List, [], ◌∷◌, ◌++◌, Option, Some, None, option_map, map, refl, sym, ◌∙◌, ap}
use Rattle.std.specs.List.{find}
use Rattle.std.specs.Prelude.{is_some, is_none}
use Rattle.std.specs.Result.{result_ok}
use Rattle.std.proofs.lemmas.List.Folds.{list_all-append}
use Rattle.px_value.proofs.FitLaws.{both}
use Rattle.px_column.specs.Prelude.{Series, kind_eq}
use Rattle.px_column.specs.Option.{◌>>=◌}
use Rattle.px_column.specs.Cast.{cast_kind}
use Rattle.px_column.specs.Operator.{operator_kind, is_boolean_kind, kind_where}
use Rattle.px_column.specs.Reduction.{reduced_kind}
use Rattle.px_value.specs.declared.error.PxError.TheVariants.{ColumnNotFound, InvalidOperation, SchemaMismatch}
use Rattle.px_value.specs.declared.error.InvalidWhy.TheVariants.{Types}
use Rattle.px_frame.specs.Cell.{value_of_cell}
use Rattle.px_frame.specs.External.{alone, external_at, scope_of}
use Rattle.px_frame.specs.Spread.{NamedCell, spread_column}
use Rattle.px_frame.specs.Frame.{look, series_at, height_of}
use Rattle.px_frame.specs.Schema.{FieldKind, column_field, has_field_name}
use Rattle.px_frame.proofs.LookLaws.{field_look, look_rows}
use Rattle.px_tree.specs.Nodes.{leaf_names, all_leaf_names}
use Rattle.px_tree.specs.Partition.{is_elementwise, are_elementwise, is_row_function, is_merged_method, is_partition_safe}
use Rattle.px_tree.specs.Shape.{name_of}
use Rattle.px_tree.specs.Tree.{Tree, called, Trees, single, range, series, no_trees, one_tree, column, literal, alias, binary, ternary, cast, function, filter, slice, gather, sort, sort_by, agg, len, window}
use Rattle.px_tree.specs.Typing.{kind_of_name, kind_in, kinds_in, made_kind, function_kind, refusals_of, all_refusals_of, or_first, refused_where, refusal_of_one, refusal_of_two, refusal_of_all, fails, on_groups, grouped_function_refusals, grouped_reduction_refusals, is_one_input_missing}
use Rattle.px_tree.specs.declared.context.Context.{Context}
use Rattle.px_tree.proofs.Scopes.{scope_stays}
use Rattle.px_laws.specs.Beside.{beside, is_column_of, are_columns_of}
use Rattle.px_tree.specs.Node.{binary_cell, ternary_cell, cast_cell, function_cell}
use Rattle.px_tree.specs.Value.{cells_on, first_kind, fault_in, faults_on, all_faults_on}
use Rattle.px_laws.proofs.Beside.{kind_same, kinds_same, value_beside}
use Rattle.px_tree.specs.Grouped.{key_on, value_on_part}

kind_there : (o : Option Series) → is_some (option_map (λ (f : FieldKind). f.kind) (option_map column_field o)) ≡ is_some o
kind_there None = refl
kind_there (Some s) = refl

two : (columns : List Series) (xs ys : List (List ℕ)) → are_columns_of columns xs ≡ true → are_columns_of columns ys ≡ true → are_columns_of columns (xs ++ ys) ≡ true
two columns xs ys h g = list_all-append (is_column_of columns) xs ys ∙ (λ i. h i && g i)

mutual
  -- the names of an elementwise expression over some columns' fields are theirs
  pub names_there : (e : Tree) (columns : List Series) → is_elementwise e (scope_of (alone columns)) ≡ true → are_columns_of columns (leaf_names e) ≡ true
  names_there (column n) columns w =
      let there : is_some (look n columns) ≡ true = sym (ap (λ o. is_some (option_map (λ (f : FieldKind). f.kind) o)) (field_look n columns) ∙ kind_there (look n columns)) ∙ w in
      λ i. there i && true
  names_there (literal v) columns w = refl
  names_there (alias e n) columns w = names_there e columns w
  names_there (binary l op r) columns w =
      let s = both (is_elementwise l (scope_of (alone columns))) (is_elementwise r (scope_of (alone columns))) w in
      two columns (leaf_names l) (leaf_names r) (names_there l columns s.0) (names_there r columns s.1)
  names_there (ternary p a b) columns w =
      let s = both (is_elementwise p (scope_of (alone columns))) (is_elementwise a (scope_of (alone columns)) && is_elementwise b (scope_of (alone columns))) w in
      let t = both (is_elementwise a (scope_of (alone columns))) (is_elementwise b (scope_of (alone columns))) s.1 in
      two columns (leaf_names p) (leaf_names a ++ leaf_names b) (names_there p columns s.0) (two columns (leaf_names a) (leaf_names b) (names_there a columns t.0) (names_there b columns t.1))
  names_there (cast e k o) columns w = names_there e columns w
  names_there (function es f) columns w = all_names_there es columns (both (is_row_function (called f)) (are_elementwise es (scope_of (alone columns))) w).1
  names_there (filter e by) columns w = cc
  names_there (slice e offset size) columns w = cc
  names_there (gather e idx one) columns w = cc
  names_there (sort e o) columns w = cc
  names_there (sort_by e by o) columns w = cc
  names_there (agg m e) columns w = cc
  names_there len columns w = cc
  names_there (window f keys order mapping) columns w = cc

  pub all_names_there : (es : Trees) (columns : List Series) → are_elementwise es (scope_of (alone columns)) ≡ true → are_columns_of columns (all_leaf_names es) ≡ true
  all_names_there no_trees columns w = refl
  all_names_there (one_tree t ts) columns w =
      let s = both (is_elementwise t (scope_of (alone columns))) (are_elementwise ts (scope_of (alone columns))) w in
      two columns (leaf_names t) (all_leaf_names ts) (names_there t columns s.0) (all_names_there ts columns s.1)

-- so those of a partition safe one
pub safe_names_there : (e : Tree) (columns : List Series) → is_partition_safe e (scope_of (alone columns)) ≡ true → are_columns_of columns (leaf_names e) ≡ true
safe_names_there (alias e n) columns w = safe_names_there e columns w
safe_names_there (agg m e) columns w = names_there e columns (both (is_merged_method m) (is_elementwise e (scope_of (alone columns))) w).1
safe_names_there len columns w = refl
safe_names_there e columns w = cc

-- on some rows too
names_at : (columns : List Series) (p : List ℕ) (names : List (List ℕ)) → are_columns_of (map (series_at p) columns) names ≡ are_columns_of columns names
names_at columns p [] = refl
names_at columns p (n ∷ names) = λ i. (ap is_some (look_rows n columns p) ∙ some_at (look n columns)) i && names_at columns p names i
  where
    some_at : (o : Option Series) → is_some (option_map (series_at p) o) ≡ is_some o
    some_at None = refl
    some_at (Some s) = refl

-- its value on some rows
pub value_alone : (e : Tree) (columns external : List Series) (p : List ℕ) → are_columns_of columns (leaf_names e) ≡ true → value_on_part (beside columns external) e p ≡ value_on_part (alone columns) e p
value_alone e columns external p h =
    ap (option_map value_of_cell) (value_beside e (map (series_at p) columns) (map (external_at (height_of columns) p) external) [] (names_at columns p (leaf_names e) ∙ h))

found_there : (o : Option FieldKind) → is_some (option_map (λ (f : FieldKind). f.kind) o) ≡ is_some o
found_there None = refl
found_there (Some f) = refl

-- a name of the frame has its own type there
name_alone : (n : List ℕ) (columns external : List Series) → is_some (kind_of_name n (scope_of (alone columns))) ≡ true → kind_of_name n (scope_of (beside columns external)) ≡ kind_of_name n (scope_of (alone columns))
name_alone n columns external h = ap (option_map (λ (f : FieldKind). f.kind)) (scope_stays n (scope_of (alone columns)) external (sym (found_there (find (has_field_name n) (scope_of (alone columns)))) ∙ h))

-- the type of an elementwise expression
kind_alone : (e : Tree) (columns external : List Series) → is_elementwise e (scope_of (alone columns)) ≡ true → kind_in e (scope_of (beside columns external)) ≡ kind_in e (scope_of (alone columns))
kind_alone e columns external w = kind_same e columns external [] (names_there e columns w)

kinds_alone : (es : Trees) (columns external : List Series) → are_elementwise es (scope_of (alone columns)) ≡ true → kinds_in es (scope_of (beside columns external)) ≡ kinds_in es (scope_of (alone columns))
kinds_alone es columns external w = kinds_same es columns external [] (all_names_there es columns w)

mutual
  -- and its refusals
  pub refusals_alone : (e : Tree) (columns external : List Series) (place : Context) → is_elementwise e (scope_of (alone columns)) ≡ true → refusals_of e (scope_of (beside columns external)) place ≡ refusals_of e (scope_of (alone columns)) place
  refusals_alone (column n) columns external place w = ap (λ k. refused_where (is_none k) (ColumnNotFound n)) (name_alone n columns external w)
  refusals_alone (literal (single k s)) columns external place w = refl
  refusals_alone (literal (range low high k)) columns external place w = cc
  refusals_alone (literal (series s)) columns external place w = cc
  refusals_alone (alias e n) columns external place w = refusals_alone e columns external place w
  refusals_alone (binary l op r) columns external place w =
      let s = both (is_elementwise l (scope_of (alone columns))) (is_elementwise r (scope_of (alone columns))) w in
      λ i. or_first (refusals_alone l columns external place s.0 i ++ refusals_alone r columns external place s.1 i) (refusal_of_two (operator_kind op) (kind_alone l columns external s.0 i) (kind_alone r columns external s.1 i))
  refusals_alone (ternary p a b) columns external place w =
      let s = both (is_elementwise p (scope_of (alone columns))) (is_elementwise a (scope_of (alone columns)) && is_elementwise b (scope_of (alone columns))) w in
      let t = both (is_elementwise a (scope_of (alone columns))) (is_elementwise b (scope_of (alone columns))) s.1 in
      λ i. or_first (refusals_alone p columns external place s.0 i ++ refusals_alone a columns external place t.0 i ++ refusals_alone b columns external place t.1 i)
      (refused_where (fails is_boolean_kind (kind_alone p columns external s.0 i)) SchemaMismatch ++ refusal_of_two (λ j k. kind_where (kind_eq j k) j) (kind_alone a columns external t.0 i) (kind_alone b columns external t.1 i))
  refusals_alone (cast e to o) columns external place w = λ i. or_first (refusals_alone e columns external place w i) (refusal_of_one (λ from. cast_kind from to) (kind_alone e columns external w i))
  refusals_alone (function es f) columns external place w =
      let s = (both (is_row_function (called f)) (are_elementwise es (scope_of (alone columns))) w).1 in
      λ i. or_first (all_refusals_alone es columns external place s i)
      (refused_where (is_one_input_missing (called f) es) (InvalidOperation Types) ++ on_groups place (grouped_function_refusals (called f) es) ++ refusal_of_all (function_kind (called f)) (kinds_alone es columns external s i))
  refusals_alone (filter e by) columns external place w = cc
  refusals_alone (slice e offset size) columns external place w = cc
  refusals_alone (gather e idx one) columns external place w = cc
  refusals_alone (sort e o) columns external place w = cc
  refusals_alone (sort_by e by o) columns external place w = cc
  refusals_alone (agg m e) columns external place w = cc
  refusals_alone len columns external place w = cc
  refusals_alone (window f keys order mapping) columns external place w = cc

  all_refusals_alone : (es : Trees) (columns external : List Series) (place : Context) → are_elementwise es (scope_of (alone columns)) ≡ true → all_refusals_of es (scope_of (beside columns external)) place ≡ all_refusals_of es (scope_of (alone columns)) place
  all_refusals_alone no_trees columns external place w = refl
  all_refusals_alone (one_tree t ts) columns external place w =
      let s = both (is_elementwise t (scope_of (alone columns))) (are_elementwise ts (scope_of (alone columns))) w in
      λ i. refusals_alone t columns external place s.0 i ++ all_refusals_alone ts columns external place s.1 i

-- so of a partition safe one
pub safe_kind_alone : (e : Tree) (columns external : List Series) → is_partition_safe e (scope_of (alone columns)) ≡ true → kind_in e (scope_of (beside columns external)) ≡ kind_in e (scope_of (alone columns))
safe_kind_alone (alias e n) columns external w = safe_kind_alone e columns external w
safe_kind_alone (agg m e) columns external w = λ i. kind_alone e columns external (both (is_merged_method m) (is_elementwise e (scope_of (alone columns))) w).1 i >>= λ k. made_kind (reduced_kind m k)
safe_kind_alone len columns external w = refl
safe_kind_alone e columns external w = cc

pub safe_refusals_alone : (e : Tree) (columns external : List Series) (place : Context) → is_partition_safe e (scope_of (alone columns)) ≡ true → refusals_of e (scope_of (beside columns external)) place ≡ refusals_of e (scope_of (alone columns)) place
safe_refusals_alone (alias e n) columns external place w = safe_refusals_alone e columns external place w
safe_refusals_alone (agg m e) columns external place w =
    let s = (both (is_merged_method m) (is_elementwise e (scope_of (alone columns))) w).1 in
    λ i. or_first (refusals_alone e columns external place s i) (on_groups place (grouped_reduction_refusals m e) ++ refusal_of_one (reduced_kind m) (kind_alone e columns external s i))
safe_refusals_alone len columns external place w = refl
safe_refusals_alone e columns external place w = cc

-- a key's column
pub key_alone : (e : Tree) (columns external : List Series) → is_elementwise e (scope_of (alone columns)) ≡ true → key_on (beside columns external) e ≡ key_on (alone columns) e
key_alone e columns external w =
    λ i. value_beside e columns external [] (names_there e columns w) i >>= (λ c. option_map (λ k. record { name = name_of e; kind = k; cell = c }) (kind_alone e columns external w i)) >>= λ (c : NamedCell). result_ok (spread_column (height_of columns) c)

-- what the inputs of an elementwise function are
cells_beside : (es : Trees) (columns external : List Series) → are_elementwise es (scope_of (alone columns)) ≡ true → cells_on es (beside columns external) ≡ cells_on es (alone columns)
cells_beside no_trees columns external w = refl
cells_beside (one_tree t ts) columns external w =
    let s = both (is_elementwise t (scope_of (alone columns))) (are_elementwise ts (scope_of (alone columns))) w in
    λ i. value_beside t columns external [] (names_there t columns s.0) i >>= λ c. cells_beside ts columns external s.1 i >>= λ cs. Some (c ∷ cs)

mutual
  -- the faults of an elementwise expression
  pub faults_alone : (e : Tree) (columns external : List Series) → is_elementwise e (scope_of (alone columns)) ≡ true → faults_on e (beside columns external) ≡ faults_on e (alone columns)
  faults_alone (column n) columns external w = refl
  faults_alone (literal v) columns external w = refl
  faults_alone (alias e n) columns external w = faults_alone e columns external w
  faults_alone (binary l op r) columns external w =
      let s = both (is_elementwise l (scope_of (alone columns))) (is_elementwise r (scope_of (alone columns))) w in
      λ i. faults_alone l columns external s.0 i ++ faults_alone r columns external s.1 i
      ++ fault_in (kind_alone l columns external s.0 i >>= λ k. value_beside l columns external [] (names_there l columns s.0) i >>= λ a. value_beside r columns external [] (names_there r columns s.1) i >>= λ b. Some (binary_cell k op a b))
  faults_alone (ternary p a b) columns external w =
      let s = both (is_elementwise p (scope_of (alone columns))) (is_elementwise a (scope_of (alone columns)) && is_elementwise b (scope_of (alone columns))) w in
      let t = both (is_elementwise a (scope_of (alone columns))) (is_elementwise b (scope_of (alone columns))) s.1 in
      λ i. faults_alone p columns external s.0 i ++ faults_alone a columns external t.0 i ++ faults_alone b columns external t.1 i
      ++ fault_in (value_beside p columns external [] (names_there p columns s.0) i >>= λ x. value_beside a columns external [] (names_there a columns t.0) i >>= λ y. value_beside b columns external [] (names_there b columns t.1) i >>= λ z. Some (ternary_cell x y z))
  faults_alone (cast e to o) columns external w =
      λ i. faults_alone e columns external w i ++ fault_in (kind_alone e columns external w i >>= λ k. value_beside e columns external [] (names_there e columns w) i >>= λ c. Some (cast_cell k to o c))
  faults_alone (function es f) columns external w =
      let s = (both (is_row_function (called f)) (are_elementwise es (scope_of (alone columns))) w).1 in
      λ i. all_faults_alone es columns external s i ++ fault_in (kinds_alone es columns external s i >>= λ ks. cells_beside es columns external s i >>= λ cs. Some (function_cell (called f) (first_kind ks) cs))
  faults_alone (filter e by) columns external w = cc
  faults_alone (slice e offset size) columns external w = cc
  faults_alone (gather e idx one) columns external w = cc
  faults_alone (sort e o) columns external w = cc
  faults_alone (sort_by e by o) columns external w = cc
  faults_alone (agg m e) columns external w = cc
  faults_alone len columns external w = cc
  faults_alone (window f keys order mapping) columns external w = cc

  all_faults_alone : (es : Trees) (columns external : List Series) → are_elementwise es (scope_of (alone columns)) ≡ true → all_faults_on es (beside columns external) ≡ all_faults_on es (alone columns)
  all_faults_alone no_trees columns external w = refl
  all_faults_alone (one_tree t ts) columns external w =
      let s = both (is_elementwise t (scope_of (alone columns))) (are_elementwise ts (scope_of (alone columns))) w in
      λ i. faults_alone t columns external s.0 i ++ all_faults_alone ts columns external s.1 i

-- so of a partition safe one
pub safe_faults_alone : (e : Tree) (columns external : List Series) → is_partition_safe e (scope_of (alone columns)) ≡ true → faults_on e (beside columns external) ≡ faults_on e (alone columns)
safe_faults_alone (alias e n) columns external w = safe_faults_alone e columns external w
safe_faults_alone (agg m e) columns external w = faults_alone e columns external (both (is_merged_method m) (is_elementwise e (scope_of (alone columns))) w).1
safe_faults_alone len columns external w = refl
safe_faults_alone e columns external w = cc

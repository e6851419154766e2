-- The columns of expressions that are not refused are found, and those among them that misfit are told by their names.
use Rattle.std.proofs.Common.{◌≡◌, ℕ, Bool, true, false, cond, not, ◌&&◌, ◌||◌, List, [], ◌∷◌, ◌++◌, Option, Some, None, fold, option_map, map, refl, sym, ◌∙◌, ap, if◌then◌else◌}
use Rattle.std.specs.Prelude.{drop, find, is_none, is_some, length}
use Rattle.std.specs.List.{flat_map, list_all, list_any}
use Rattle.std.specs.Option.{option_or}
use Rattle.px_column.specs.Prelude.{Series}
use Rattle.px_value.specs.declared.error.PxError.{PxError}
use Rattle.px_value.specs.declared.error.PxError.TheVariants.{ColumnNotFound}
use Rattle.px_frame.specs.External.{Frame, look_in, scope_of, with_field}
use Rattle.px_frame.specs.Frame.{has_name, look, name_eq}
use Rattle.px_frame.specs.Schema.{FieldKind, column_field, has_field_name, is_field_name}
use Rattle.px_frame.proofs.LookLaws.{field_look, names_same}
use Rattle.px_tree.specs.Nodes.{all_leaf_names, leaf_names, order_leaf_names}
use Rattle.px_tree.specs.Tree.{Order, Tree, Trees, no_order, no_trees, one_tree, ordered, column, literal, alias, binary, ternary, cast, function, filter, slice, gather, sort, sort_by, agg, len, window}
use Rattle.px_tree.specs.Typing.{Scope, all_refusals_of, order_refusals_of, refusals_of, refused_where}
use Rattle.px_tree.specs.Value.{has_misfit, is_misfit}
use Rattle.px_tree.specs.declared.context.Context.{Context}
use Rattle.px_tree.specs.declared.context.Context.TheVariants.{Aggregation, Default}
use Rattle.px_answers.specs.Planned.{PlannedColumn, is_added, is_reserved}
use Rattle.px_answers.specs.Value.{finds_misfit, has_misfit_column, unfound_refusal}
use Rattle.px_scope.proofs.Fields.{field_there}
use Rattle.px_expr.specs.Plan.{planned_over}
use Rattle.px_tree.proofs.KindLaws.{none_left as nil_left, none_right as nil_right, none_first as inputs_none}
use Rattle.px_value.proofs.FitLaws.{all_append, both}

-- a field behind others is found where none of them has its name
field_behind : (n : List ℕ) (fields : List FieldKind) (f : FieldKind) → find (has_field_name n) (fields ++ f ∷ []) ≡ option_or (find (has_field_name n) fields) (cond (name_eq n f.name) (Some f) None)
field_behind n [] f = refl
field_behind n (g ∷ fields) f = by (name_eq n g.name) (field_behind n fields f)
  where
    by : (b : Bool) → find (has_field_name n) (fields ++ f ∷ []) ≡ option_or (find (has_field_name n) fields) (cond (name_eq n f.name) (Some f) None)
        → cond b (Some g) (find (has_field_name n) (fields ++ f ∷ [])) ≡ option_or (cond b (Some g) (find (has_field_name n) fields)) (cond (name_eq n f.name) (Some f) None)
    by true rest = refl
    by false rest = rest

or_none : {A : Type 0} (o : Option A) → o ≡ option_or o None
or_none None = refl
or_none (Some a) = refl

or_more : {A : Type 0} (o p : Option A) → is_some o ≡ true → o ≡ option_or o p
or_more None p h = absurd (cc h)
or_more (Some a) p h = refl

-- one more field, where its name is new
field_added : (n : List ℕ) (fields : List FieldKind) (s : Series) → find (has_field_name n) (with_field fields s) ≡ option_or (find (has_field_name n) fields) (cond (has_name n s) (Some (column_field s)) None)
field_added n fields s = by (is_field_name s.name fields) refl
  where
    again : (b : Bool) → name_eq n s.name ≡ b → is_field_name s.name fields ≡ true → find (has_field_name n) fields ≡ option_or (find (has_field_name n) fields) (cond b (Some (column_field s)) None)
    again false e h = or_none (find (has_field_name n) fields)
    again true e h = or_more (find (has_field_name n) fields) _ (field_there n fields ∙ ap (λ m. is_field_name m fields) (names_same n s.name e) ∙ h)

    by : (b : Bool) → is_field_name s.name fields ≡ b → find (has_field_name n) (cond b fields (fields ++ column_field s ∷ [])) ≡ option_or (find (has_field_name n) fields) (cond (has_name n s) (Some (column_field s)) None)
    by true h = again (name_eq n s.name) refl h
    by false h = field_behind n fields (column_field s)

fields_added : (n : List ℕ) (fields : List FieldKind) (external : List Series) → find (has_field_name n) (fold with_field fields external) ≡ option_or (find (has_field_name n) fields) (option_map column_field (look n external))
fields_added n fields [] = or_none (find (has_field_name n) fields)
fields_added n fields (s ∷ external) =
    fields_added n (with_field fields s) external
    ∙ ap (λ o. option_or o (option_map column_field (look n external))) (field_added n fields s)
    ∙ either (find (has_field_name n) fields) (has_name n s)
  where
    either : (o : Option FieldKind) (b : Bool) → option_or (option_or o (cond b (Some (column_field s)) None)) (option_map column_field (look n external)) ≡ option_or o (option_map column_field (cond b (Some s) (look n external)))
    either (Some f) b = refl
    either None true = refl
    either None false = refl

-- the field of a name is that of the column which is found
pub scope_look : (n : List ℕ) (frame : Frame) → find (has_field_name n) (scope_of frame) ≡ option_map column_field (look_in n frame)
scope_look n frame =
    fields_added n (map column_field frame.columns) frame.external
    ∙ ap (λ o. option_or o (option_map column_field (look n frame.external))) (field_look n frame.columns)
    ∙ either (look n frame.columns)
  where
    either : (o : Option Series) → option_or (option_map column_field o) (option_map column_field (look n frame.external)) ≡ option_map column_field (option_or o (look n frame.external))
    either (Some s) = refl
    either None = refl

-- some names stand among the fields
abbrev pub are_fields : Scope → List (List ℕ) → Bool
are_fields scope ns = list_all (λ n. is_some (find (has_field_name n) scope)) ns

-- a name that is not refused stands there
named_field : (o : Option FieldKind) (e : PxError) → refused_where (is_none (option_map (λ (f : FieldKind). f.kind) o)) e ≡ [] → (is_some o && true) ≡ true
named_field None e h = absurd (cc h)
named_field (Some f) e h = refl

module _ (scope : Scope) where
  abbrev joined : (ns ms : List (List ℕ)) → are_fields scope ns ≡ true → are_fields scope ms ≡ true → are_fields scope (ns ++ ms) ≡ true
  joined ns ms a b = all_append (λ n. is_some (find (has_field_name n) scope)) ns ms a b

  mutual
    -- each column that an expression names stands among the fields over which it is not refused
    pub names_there : (t : Tree) (place : Context) → refusals_of t scope place ≡ [] → are_fields scope (leaf_names t) ≡ true
    names_there (column n) place h = named_field (find (has_field_name n) scope) (ColumnNotFound n) h
    names_there (literal v) place h = refl
    names_there (alias e n) place h = names_there e place h
    names_there (binary l op r) place h =
        let inputs = inputs_none (refusals_of l scope place ++ refusals_of r scope place) _ h in
        joined (leaf_names l) (leaf_names r) (names_there l place (nil_left (refusals_of l scope place) _ inputs)) (names_there r place (nil_right (refusals_of l scope place) _ inputs))
    names_there (ternary p x y) place h =
        let P = refusals_of p scope place in
        let X = refusals_of x scope place in
        let Y = refusals_of y scope place in
        let inputs = inputs_none (P ++ X ++ Y) _ h in
        let first = nil_left (P ++ X) Y inputs in
        joined (leaf_names p) (leaf_names x ++ leaf_names y) (names_there p place (nil_left P X first))
        (joined (leaf_names x) (leaf_names y) (names_there x place (nil_right P X first)) (names_there y place (nil_right (P ++ X) Y inputs)))
    names_there (cast e k options) place h = names_there e place (inputs_none (refusals_of e scope place) _ h)
    names_there (function es f) place h = all_names_there es place (inputs_none (all_refusals_of es scope place) _ h)
    names_there (filter e by) place h =
        let inputs = inputs_none (refusals_of e scope place ++ refusals_of by scope place) _ h in
        joined (leaf_names e) (leaf_names by) (names_there e place (nil_left (refusals_of e scope place) _ inputs)) (names_there by place (nil_right (refusals_of e scope place) _ inputs))
    names_there (slice e offset length) place h =
        let E = refusals_of e scope place in
        let O = refusals_of offset scope place in
        let L = refusals_of length scope place in
        let inputs = inputs_none (E ++ O ++ L) _ h in
        let first = nil_left (E ++ O) L inputs in
        joined (leaf_names e) (leaf_names offset ++ leaf_names length) (names_there e place (nil_left E O first))
        (joined (leaf_names offset) (leaf_names length) (names_there offset place (nil_right E O first)) (names_there length place (nil_right (E ++ O) L inputs)))
    names_there (gather e idx one) place h =
        let inputs = inputs_none (refusals_of e scope place ++ refusals_of idx scope place) _ h in
        joined (leaf_names e) (leaf_names idx) (names_there e place (nil_left (refusals_of e scope place) _ inputs)) (names_there idx place (nil_right (refusals_of e scope place) _ inputs))
    names_there (sort e options) place h = names_there e place (inputs_none (refusals_of e scope place) _ h)
    names_there (sort_by e by options) place h =
        let inputs = inputs_none (refusals_of e scope place ++ all_refusals_of by scope place) _ h in
        joined (leaf_names e) (all_leaf_names by) (names_there e place (nil_left (refusals_of e scope place) _ inputs)) (all_names_there by place (nil_right (refusals_of e scope place) _ inputs))
    names_there (agg m e) place h = names_there e place (inputs_none (refusals_of e scope place) _ h)
    names_there len place h = refl
    names_there (window f keys order mapping) place h =
        let F = refusals_of f scope Aggregation in
        let K = all_refusals_of keys scope Default in
        let O = order_refusals_of order scope Default in
        let inputs = inputs_none (F ++ K ++ O) _ h in
        let first = nil_left (F ++ K) O inputs in
        joined (leaf_names f) (all_leaf_names keys ++ order_leaf_names order) (names_there f Aggregation (nil_left F K first))
        (joined (all_leaf_names keys) (order_leaf_names order) (all_names_there keys Default (nil_right F K first)) (order_names_there order Default (nil_right (F ++ K) O inputs)))

    -- so does each that some expressions name
    all_names_there : (ts : Trees) (place : Context) → all_refusals_of ts scope place ≡ [] → are_fields scope (all_leaf_names ts) ≡ true
    all_names_there no_trees place h = refl
    all_names_there (one_tree t ts) place h =
        joined (leaf_names t) (all_leaf_names ts) (names_there t place (nil_left (refusals_of t scope place) _ h)) (all_names_there ts place (nil_right (refusals_of t scope place) _ h))

    -- and each that an order names
    order_names_there : (o : Order) (place : Context) → order_refusals_of o scope place ≡ [] → are_fields scope (order_leaf_names o) ≡ true
    order_names_there no_order place h = refl
    order_names_there (ordered t options) place h = names_there t place h

-- a name that its schema has is not an added one
not_added : (r : Bool) (o : Option FieldKind) → is_some o ≡ true → (r && is_none o) ≡ false
not_added r None h = absurd (cc h)
not_added true (Some f) h = refl
not_added false (Some f) h = refl

module _ (frame : Frame) where
  -- a column node of a name, planned over the frame's names and types
  abbrev node : List ℕ → PlannedColumn
  node n = record { name = n; schema = scope_of frame }

  planned : (n : List ℕ) → is_some (find (has_field_name n) (scope_of frame)) ≡ true → is_added (node n) ≡ false
  planned n h = not_added (is_reserved n) (find (has_field_name n) (scope_of frame)) h

  looked : (n : List ℕ) → is_some (find (has_field_name n) (scope_of frame)) ≡ true → is_none (look_in n frame) ≡ false
  looked n h = by (look_in n frame) (ap is_some (sym (scope_look n frame)) ∙ h)
    where
      by : (o : Option Series) → is_some (option_map column_field o) ≡ true → is_none o ≡ false
      by None k = absurd (cc k)
      by (Some s) k = refl

  found : (n : List ℕ) → is_some (find (has_field_name n) (scope_of frame)) ≡ true → unfound_refusal frame (node n) ≡ []
  found n h =
      ap (λ (b : Bool). refused_where (is_none (if b then look n (drop (length (scope_of frame)) frame.columns) else look_in n frame)) (ColumnNotFound n)) (planned n h)
      ∙ ap (λ (b : Bool). refused_where b (ColumnNotFound n)) (looked n h)

  all_found : (ns : List (List ℕ)) → are_fields (scope_of frame) ns ≡ true → flat_map (unfound_refusal frame) (map node ns) ≡ []
  all_found [] h = refl
  all_found (n ∷ ns) h =
      let one = both (is_some (find (has_field_name n) (scope_of frame))) (are_fields (scope_of frame) ns) h in
      λ i. found n one.0 i ++ all_found ns one.1 i

  misfits : (ns : List (List ℕ)) → are_fields (scope_of frame) ns ≡ true → list_any (finds_misfit frame) (map node ns) ≡ list_any (is_misfit frame) ns
  misfits [] h = refl
  misfits (n ∷ ns) h =
      let one = both (is_some (find (has_field_name n) (scope_of frame))) (are_fields (scope_of frame) ns) h in
      λ i. (not (planned n one.0 i) && is_misfit frame n) || misfits ns one.1 i

  -- each column node of an expression that is not refused finds its column
  pub leaves_found : (t : Tree) (place : Context) → refusals_of t (scope_of frame) place ≡ [] → flat_map (unfound_refusal frame) (planned_over (scope_of frame) t).columns ≡ []
  leaves_found t place h = all_found (leaf_names t) (names_there (scope_of frame) t place h)

  -- and those beside the frame that have not its height are told by their names
  pub misfits_named : (t : Tree) (place : Context) → refusals_of t (scope_of frame) place ≡ [] → has_misfit_column (planned_over (scope_of frame) t) frame ≡ has_misfit t frame
  misfits_named t place h = misfits (leaf_names t) (names_there (scope_of frame) t place h)

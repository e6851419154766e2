-- What a column node finds, and what its column is.
use Rattle.std.proofs.Common.{◌≡◌, ◌==◌, ℕ, zero, suc, Bool, true, false, cond, ◌&&◌, ◌||◌, List, [], ◌∷◌, ◌++◌, Option, Some, None, Ok, Err, Result, Bor, IfSome, inl, drop, length, option_map, is_none, refl, sym, ◌∙◌, ap, arith}
use Rattle.std.specs.List.{find, list_any, flat_map}
use Rattle.std.specs.Option.{option_or}
use Rattle.std.proofs.lemmas.Bool.Decides.{nat_tests}
use Rattle.px_column.specs.Prelude.{Series, AnswersBy, Kind}
use Rattle.px_frame.specs.External.{Frame, look_in, scope_of}
use Rattle.px_frame.specs.Frame.{height_of, look, name_eq, names_of, first_repeat, IsFrame}
use Rattle.px_frame.specs.Schema.{FieldKind, has_field_name}
use Rattle.px_tree.specs.Tree.{column}
use Rattle.px_frame.specs.SchemaView.{field_kind}
use Rattle.px_frame.specs.declared.schema.Field.{Field}
use Rattle.px_value.specs.declared.error.PxError.{PxError}
use Rattle.px_value.specs.declared.error.PxError.TheVariants.{ColumnNotFound, ShapeMismatch}
use Rattle.px_tree.specs.Typing.{kind_of_name, refusals_of, refused_where}
use Rattle.px_tree.specs.declared.context.Context.TheVariants.{Default}
use Rattle.px_answers.specs.Planned.{Planned, PlannedColumn, found_by}
use Rattle.px_answers.specs.Live.{field_on}
use Rattle.px_answers.specs.Value.{IsValue, IsOneOf, causes_on, finds_misfit, has_misfit_column, unfound_refusal}
use Rattle.px_answers.proofs.Inputs.{one_left, one_right}
use Rattle.px_tree.proofs.Scopes.{kind_of_found}
use Rattle.px_frame.proofs.LookLaws.{names_same}
use Rattle.px_frame.proofs.Looking.{looked_height}

-- a name passes its own test
pub name_self : (n : List ℕ) → name_eq n n ≡ true
name_self [] = refl
name_self (x ∷ xs) = let t : (x == x) ≡ true = grind (arith, nat_tests) in ap (λ b. b && name_eq xs xs) t ∙ name_self xs

-- a field that is found has the name
pub field_named : (n : List ℕ) (fields : List FieldKind) (f : FieldKind) → find (has_field_name n) fields ≡ Some f → n ≡ f.name
field_named n [] f h = cc
field_named n (g ∷ fields) f h = by (name_eq n g.name) refl h (field_named n fields f)
  where
    by : (b : Bool) → name_eq n g.name ≡ b → cond b (Some g) (find (has_field_name n) fields) ≡ Some f → (find (has_field_name n) fields ≡ Some f → n ≡ f.name) → n ≡ f.name
    by true e k rest = let same : g ≡ f = cc in names_same n g.name e ∙ ap (λ (x : FieldKind). x.name) same
    by false e k rest = rest k

-- a column that is found has the name
pub column_named : (n : List ℕ) (columns : List Series) (s : Series) → look n columns ≡ Some s → n ≡ s.name
column_named n [] s h = cc
column_named n (t ∷ columns) s h = by (name_eq n t.name) refl h (column_named n columns s)
  where
    by : (b : Bool) → name_eq n t.name ≡ b → cond b (Some t) (look n columns) ≡ Some s → (look n columns ≡ Some s → n ≡ s.name) → n ≡ s.name
    by true e k rest = let same : t ≡ s = cc in names_same n t.name e ∙ ap (λ (x : Series). x.name) same
    by false e k rest = rest k

kept_among : (n : List ℕ) (seen more : List (List ℕ)) → list_any (name_eq n) seen ≡ true → list_any (name_eq n) (seen ++ more) ≡ true
kept_among n [] more k = cc
kept_among n (m ∷ seen) more k = inner (name_eq n m) k (kept_among n seen more)
  where
    inner : (b : Bool) → (b || list_any (name_eq n) seen) ≡ true → (list_any (name_eq n) seen ≡ true → list_any (name_eq n) (seen ++ more) ≡ true) → (b || list_any (name_eq n) (seen ++ more)) ≡ true
    inner true k rest = refl
    inner false k rest = rest k

-- names that stand earlier do not stand again
not_again : (n : List ℕ) (seen : List (List ℕ)) (columns : List Series) (s : Series) → first_repeat seen (names_of columns) ≡ None → list_any (name_eq n) seen ≡ true → look n columns ≡ Some s → ⊥
not_again n seen [] s d h l = cc
not_again n seen (t ∷ columns) s d h l =
    by (list_any (name_eq t.name) seen) refl d (λ k m. not_again n (seen ++ t.name ∷ []) columns s k (kept_among n seen (t.name ∷ []) h) m)
  where
    among : (b : Bool) → name_eq n t.name ≡ b → list_any (name_eq t.name) seen ≡ false → cond b (Some t) (look n columns) ≡ Some s → (look n columns ≡ Some s → ⊥) → ⊥
    among true e f k rest = let same = names_same n t.name e in absurd (cc (sym h ∙ ap (λ m. list_any (name_eq m) seen) same ∙ f))
    among false e f k rest = rest k

    by : (b : Bool) → list_any (name_eq t.name) seen ≡ b → cond b (Some t.name) (first_repeat (seen ++ t.name ∷ []) (names_of columns)) ≡ None
        → (first_repeat (seen ++ t.name ∷ []) (names_of columns) ≡ None → look n columns ≡ Some s → ⊥) → ⊥
    by true e k rest = absurd (cc k)
    by false e k rest = among (name_eq n t.name) refl e l (rest k)

at_end : (n m : List ℕ) (seen : List (List ℕ)) → name_eq n m ≡ true → list_any (name_eq n) (seen ++ m ∷ []) ≡ true
at_end n m [] h = ap (λ b. b || false) h
at_end n m (k ∷ seen) h = by (name_eq n k) (at_end n m seen h)
  where
    by : (b : Bool) → list_any (name_eq n) (seen ++ m ∷ []) ≡ true → (b || list_any (name_eq n) (seen ++ m ∷ [])) ≡ true
    by true r = refl
    by false r = r

-- among distinct names, a column that stands behind others is the one of its name
found_behind : (n : List ℕ) (places : ℕ) (seen : List (List ℕ)) (columns : List Series) (s : Series) → first_repeat seen (names_of columns) ≡ None → look n (drop places columns) ≡ Some s → look n columns ≡ Some s
found_behind n zero seen columns s d h = h
found_behind n (suc places) seen [] s d h = h
found_behind n (suc places) seen (t ∷ columns) s d h = by (list_any (name_eq t.name) seen) d (λ k. found_behind n places (seen ++ t.name ∷ []) columns s k h)
  where
    here : (b : Bool) → name_eq n t.name ≡ b → first_repeat (seen ++ t.name ∷ []) (names_of columns) ≡ None → look n columns ≡ Some s → cond b (Some t) (look n columns) ≡ Some s
    here true e k l = absurd (not_again n (seen ++ t.name ∷ []) columns s k (at_end n t.name seen e) l)
    here false e k l = l

    by : (b : Bool) → cond b (Some t.name) (first_repeat (seen ++ t.name ∷ []) (names_of columns)) ≡ None → (first_repeat (seen ++ t.name ∷ []) (names_of columns) ≡ None → look n columns ≡ Some s)
        → cond (name_eq n t.name) (Some t) (look n columns) ≡ Some s
    by true k rest = absurd (cc k)
    by false k rest = here (name_eq n t.name) refl k (rest k)

-- among a frame's columns, one behind others is the one of its name
pub looked_behind : (n : List ℕ) (places : ℕ) (columns : List Series) (s : Series) → first_repeat [] (names_of columns) ≡ None → look n (drop places columns) ≡ Some s → look n columns ≡ Some s
looked_behind n places columns s d h = found_behind n places [] columns s d h

-- the node of a column
abbrev pub column_plan : PlannedColumn → Planned
column_plan c = record { tree = column c.name; columns = c ∷ [] }

-- the name of a column that is found in a frame or beside it
pub found_named : (n : List ℕ) (frame : Frame) (s : Series) → look_in n frame ≡ Some s → n ≡ s.name
found_named n frame s h = by (look n frame.columns) refl h
  where
    by : (o : Option Series) → look n frame.columns ≡ o → option_or o (look n frame.external) ≡ Some s → n ≡ s.name
    by (Some t) e g = column_named n frame.columns s (e ∙ g)
    by None e g = column_named n frame.external s g

-- the column that a node finds, of the frame's height, is its value
pub found_is_value : (c : PlannedColumn) (frame : Frame) (s : Series) → finds_misfit frame c ≡ false → found_by c frame ≡ Some s → look_in c.name frame ≡ Some s → IsValue (column_plan c) frame s
found_is_value c frame s m f l = record {
  sound = rw (kind, f, m) refl;
  name = sym (found_named c.name frame s l);
  kind = kind;
  value = rw l refl;
  unit = λ h. absurd (cc h);
}
  where
    kind : kind_of_name c.name (scope_of frame) ≡ Some s.kind
    kind = kind_of_found c.name frame s l

-- a node that finds no column has that as its cause
pub unfound_is_cause : (c : PlannedColumn) (frame : Frame) → found_by c frame ≡ None → IsOneOf (ColumnNotFound c.name) (causes_on (column_plan c) frame)
unfound_is_cause c frame f = by (kind_of_name c.name (scope_of frame))
  where
    by : (o : Option Kind) → IsOneOf (ColumnNotFound c.name) (refused_where (is_none o) (ColumnNotFound c.name) ++ flat_map (unfound_refusal frame) (c ∷ []) ++ refused_where (has_misfit_column (column_plan c) frame) ShapeMismatch ++ [])
    by None = inl refl
    by (Some k) = rw f (inl refl)

-- and so is a column of another height
pub misfit_is_cause : (c : PlannedColumn) (frame : Frame) → finds_misfit frame c ≡ true → IsOneOf ShapeMismatch (causes_on (column_plan c) frame)
misfit_is_cause c frame m =
    let own : IsOneOf ShapeMismatch (refused_where (has_misfit_column (column_plan c) frame) ShapeMismatch) = rw m (inl refl) in
    one_left ShapeMismatch (refusals_of (column c.name) (scope_of frame) Default ++ flat_map (unfound_refusal frame) (c ∷ []) ++ refused_where (has_misfit_column (column_plan c) frame) ShapeMismatch) []
    (one_right ShapeMismatch (refusals_of (column c.name) (scope_of frame) Default ++ flat_map (unfound_refusal frame) (c ∷ [])) (refused_where (has_misfit_column (column_plan c) frame) ShapeMismatch) own)

-- the column behind others that is found is the one of its name
pub behind_column : (n : List ℕ) (places : ℕ) (behind columns : List Series) (r : Option (Bor Series)) → option_map (λ c. c.now) r ≡ look n (drop places behind) → behind ≡ columns → IsFrame columns → IfSome r (λ c. look n columns ≡ Some c.now)
behind_column n places behind columns None h e f = tt
behind_column n places behind columns (Some c) h e f = looked_behind n places columns c.now f.distinct (ap (λ cs. look n (drop places cs)) (sym e) ∙ sym h)

-- and it has the frame's height
pub behind_height : (n : List ℕ) (places : ℕ) (behind columns : List Series) (r : Option (Bor Series)) → option_map (λ c. c.now) r ≡ look n (drop places behind) → behind ≡ columns → IsFrame columns → IfSome r (λ c. length c.now.slots ≡ height_of columns)
behind_height n places behind columns None h e f = tt
behind_height n places behind columns (Some c) h e f = looked_height n columns c.now f.even (sym (behind_column n places behind columns (Some c) h e f))

-- the field that a schema finds is the node's
pub found_field : (p : Planned) (c : PlannedColumn) (scope : List FieldKind) (f : FieldKind) → p ≡ record { tree = column c.name; columns = c ∷ [] } → find (has_field_name c.name) scope ≡ Some f → field_on p.tree scope ≡ Ok f
found_field p c scope f s h = rw (s, h) (ap (λ n. Ok (record { name = n; kind = f.kind })) (field_named c.name scope f h))

pub found_option : (p : Planned) (c : PlannedColumn) (scope : List FieldKind) (r : Result (Option Field) PxError) (o : Option Field) (f : Field) → p ≡ record { tree = column c.name; columns = c ∷ [] }
    → AnswersBy (option_map field_kind) r (Ok (find (has_field_name c.name) scope)) → r ≡ Ok o → o ≡ Some f → field_on p.tree scope ≡ Ok (field_kind f)
found_option p c scope (Err e) o f s a h e' = absurd (cc h)
found_option p c scope (Ok None) o f s a h e = absurd (cc (h, e))
found_option p c scope (Ok (Some g)) o f s a h e =
    let same : g ≡ f = cc in
    let found : find (has_field_name c.name) scope ≡ Some (field_kind f) = cc in
    found_field p c scope (field_kind f) s found

-- The field of a name over the columns of a frame and those beside it.
use Rattle.std.proofs.Common.{◌≡◌, ℕ, Bool, true, false, ◌||◌, cond, List, [], ◌∷◌, ◌++◌, Option, Some, None, option_map, map, fold, refl, sym, ◌∙◌, ap}
use Rattle.std.specs.List.{find}
use Rattle.std.specs.Option.{option_or}
use Rattle.std.specs.Prelude.{is_some}
use Rattle.px_column.specs.Prelude.{Series}
use Rattle.px_frame.specs.External.{Frame, look_in, scope_of, with_field}
use Rattle.px_frame.specs.Frame.{look, name_eq, has_name}
use Rattle.px_frame.specs.Schema.{FieldKind, column_field, has_field_name, is_field_name}
use Rattle.px_tree.specs.Typing.{kind_of_name}
use Rattle.px_frame.proofs.LookLaws.{field_look, names_same}

-- a field that is found stays the one that is found
field_stays : (n : List ℕ) (fields more : List FieldKind) → is_some (find (has_field_name n) fields) ≡ true → find (has_field_name n) (fields ++ more) ≡ find (has_field_name n) fields
field_stays n [] more h = cc
field_stays n (f ∷ fields) more h = by (has_field_name n f) (field_stays n fields more) h
  where
    by : (b : Bool) → (is_some (find (has_field_name n) fields) ≡ true → find (has_field_name n) (fields ++ more) ≡ find (has_field_name n) fields)
        → is_some (cond b (Some f) (find (has_field_name n) fields)) ≡ true → cond b (Some f) (find (has_field_name n) (fields ++ more)) ≡ cond b (Some f) (find (has_field_name n) fields)
    by true rest h = refl
    by false rest h = rest h

with_stays : (n : List ℕ) (fields : List FieldKind) (s : Series) → is_some (find (has_field_name n) fields) ≡ true → find (has_field_name n) (with_field fields s) ≡ find (has_field_name n) fields
with_stays n fields s h = by (is_field_name s.name fields)
  where
    by : (b : Bool) → find (has_field_name n) (cond b fields (fields ++ column_field s ∷ [])) ≡ find (has_field_name n) fields
    by true = refl
    by false = field_stays n fields (column_field s ∷ []) h

pub scope_stays : (n : List ℕ) (fields : List FieldKind) (external : List Series) → is_some (find (has_field_name n) fields) ≡ true → find (has_field_name n) (fold with_field fields external) ≡ find (has_field_name n) fields
scope_stays n fields [] h = refl
scope_stays n fields (s ∷ external) h =
    let next = with_stays n fields s h in
    scope_stays n (with_field fields s) external (ap is_some next ∙ h) ∙ next

-- a field that is found nowhere is not found beside another's
pub missing_stays : (n : List ℕ) (fields : List FieldKind) (s : Series) → find (has_field_name n) fields ≡ None → has_name n s ≡ false → find (has_field_name n) (with_field fields s) ≡ None
missing_stays n fields s h m = by (is_field_name s.name fields)
  where
    at_end : (fs : List FieldKind) → find (has_field_name n) fs ≡ None → find (has_field_name n) (fs ++ column_field s ∷ []) ≡ None
    at_end [] h = rw m refl
    at_end (f ∷ fs) h = step (has_field_name n f) h (at_end fs)
      where
        step : (b : Bool) → cond b (Some f) (find (has_field_name n) fs) ≡ None → (find (has_field_name n) fs ≡ None → find (has_field_name n) (fs ++ column_field s ∷ []) ≡ None)
            → cond b (Some f) (find (has_field_name n) (fs ++ column_field s ∷ [])) ≡ None
        step true h rest = cc
        step false h rest = rest h

    by : (b : Bool) → find (has_field_name n) (cond b fields (fields ++ column_field s ∷ [])) ≡ None
    by true = h
    by false = at_end fields h

-- a name that finds no field is no field's name
no_field : (n : List ℕ) (fields : List FieldKind) → find (has_field_name n) fields ≡ None → is_field_name n fields ≡ false
no_field n [] h = refl
no_field n (f ∷ fields) h = by (name_eq n f.name) h (no_field n fields)
  where
    by : (b : Bool) → cond b (Some f) (find (has_field_name n) fields) ≡ None → (find (has_field_name n) fields ≡ None → is_field_name n fields ≡ false) → (b || is_field_name n fields) ≡ false
    by true g rest = cc
    by false g rest = rest g

-- a field put last is found where none was
found_last : (n : List ℕ) (fields : List FieldKind) (f : FieldKind) → find (has_field_name n) fields ≡ None → has_field_name n f ≡ true → find (has_field_name n) (fields ++ f ∷ []) ≡ Some f
found_last n [] f h g = ap (λ b. cond b (Some f) None) g
found_last n (e ∷ fields) f h g = by (has_field_name n e) h (found_last n fields f)
  where
    by : (b : Bool) → cond b (Some e) (find (has_field_name n) fields) ≡ None → (find (has_field_name n) fields ≡ None → has_field_name n f ≡ true → find (has_field_name n) (fields ++ f ∷ []) ≡ Some f)
        → cond b (Some e) (find (has_field_name n) (fields ++ f ∷ [])) ≡ Some f
    by true k rest = cc
    by false k rest = rest k g

-- a column beside the frame whose name is new has a field
new_field : (n : List ℕ) (fields : List FieldKind) (s : Series) → find (has_field_name n) fields ≡ None → has_name n s ≡ true → find (has_field_name n) (with_field fields s) ≡ Some (column_field s)
new_field n fields s h g =
    let e = names_same n s.name g in
    let missing = no_field s.name fields (ap (λ m. find (has_field_name m) fields) (sym e) ∙ h) in
    ap (λ b. find (has_field_name n) (cond b fields (fields ++ column_field s ∷ []))) missing ∙ found_last n fields (column_field s) h g

-- and so the first of a name beside it
beside_found : (n : List ℕ) (fields : List FieldKind) (external : List Series) (s : Series) → find (has_field_name n) fields ≡ None → look n external ≡ Some s → find (has_field_name n) (fold with_field fields external) ≡ Some (column_field s)
beside_found n fields [] s h g = cc
beside_found n fields (t ∷ external) s h g = by (has_name n t) refl g (λ e k. beside_found n (with_field fields t) external s (missing_stays n fields t h e) k)
  where
    by : (b : Bool) → has_name n t ≡ b → cond b (Some t) (look n external) ≡ Some s → (has_name n t ≡ false → look n external ≡ Some s → find (has_field_name n) (fold with_field (with_field fields t) external) ≡ Some (column_field s))
        → find (has_field_name n) (fold with_field (with_field fields t) external) ≡ Some (column_field s)
    by true e k rest =
        let same : t ≡ s = cc in
        let first = new_field n fields t h e in
        scope_stays n (with_field fields t) external (ap is_some first) ∙ first ∙ ap (λ u. Some (column_field u)) same
    by false e k rest = rest e k

-- a column that is found has the type of its name
pub kind_of_found : (n : List ℕ) (frame : Frame) (s : Series) → look_in n frame ≡ Some s → kind_of_name n (scope_of frame) ≡ Some s.kind
kind_of_found n frame s h = by (look n frame.columns) refl h
  where
    by : (o : Option Series) → look n frame.columns ≡ o → option_or o (look n frame.external) ≡ Some s → kind_of_name n (scope_of frame) ≡ Some s.kind
    by (Some t) e g =
        let same : t ≡ s = cc in
        let found : find (has_field_name n) (map column_field frame.columns) ≡ Some (column_field t) = field_look n frame.columns ∙ ap (option_map column_field) e in
        ap (option_map (λ (f : FieldKind). f.kind)) (scope_stays n (map column_field frame.columns) frame.external (ap is_some found) ∙ found) ∙ ap (λ u. Some u.kind) same
    by None e g =
        let missing : find (has_field_name n) (map column_field frame.columns) ≡ None = field_look n frame.columns ∙ ap (option_map column_field) e in
        ap (option_map (λ (f : FieldKind). f.kind)) (beside_found n (map column_field frame.columns) frame.external s missing g)

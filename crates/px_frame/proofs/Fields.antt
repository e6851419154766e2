-- What a schema's map finds stands in its list of fields.
use Rattle.std.proofs.Common.{◌≡◌, ℕ, Bool, true, false, cond, List, [], ◌∷◌, ◌++◌, Option, Some, None, Bor, find, map, option_map, is_some, refl, sym, ◌∙◌, ap, subst}
use Rattle.std.specs.List.{IsDistinct, list_any}
use Rattle.std.specs.Map.{keys_of, lookup, lookup_key}
use Rattle.std.proofs.lemmas.List.{map_push}
use Rattle.std.proofs.lemmas.Map.Made.{is_some-lookup}
use Rattle.px_column.specs.Prelude.{kind_of}
use Rattle.px_value.specs.declared.data_type.DataType.{DataType}
use Rattle.px_frame.specs.Frame.{name_eq}
use Rattle.px_frame.specs.Schema.{FieldKind, field_names, has_field_name, is_field_name}
use Rattle.px_frame.specs.SchemaView.{entry_kind}

pub entry_names : (es : List (List ℕ × DataType)) → field_names (map entry_kind es) ≡ keys_of es
entry_names [] = refl
entry_names (e ∷ es) = ap (λ (ns : List (List ℕ)). e.0 ∷ ns) (entry_names es)

-- a name and a type that are found together
abbrev found_kind : Option (List ℕ) → Option DataType → Option FieldKind
found_kind (Some n) (Some t) = Some (entry_kind (n, t))
found_kind (Some n) None = None
found_kind None t = None

find_entry : (n : List ℕ) (es : List (List ℕ × DataType)) → find (has_field_name n) (map entry_kind es) ≡ found_kind (lookup_key (name_eq n) es) (lookup (name_eq n) es)
find_entry n [] = refl
find_entry n (e ∷ es) = by (name_eq n e.0) (find_entry n es)
  where
    by : (b : Bool) → find (has_field_name n) (map entry_kind es) ≡ found_kind (lookup_key (name_eq n) es) (lookup (name_eq n) es)
        → cond b (Some (entry_kind e)) (find (has_field_name n) (map entry_kind es)) ≡ found_kind (cond b (Some e.0) (lookup_key (name_eq n) es)) (cond b (Some e.1) (lookup (name_eq n) es))
    by true h = refl
    by false h = h

-- the field that the map finds is the first with the name
pub full_field : (n : List ℕ) (es : List (List ℕ × DataType)) (r : Option (ℕ × Bor (List ℕ) × Bor DataType)) → option_map (λ p. p.1.now) r ≡ lookup_key (name_eq n) es → option_map (λ p. p.2.now) r ≡ lookup (name_eq n) es
    → option_map (λ f. record { name = f.1.now; kind = kind_of f.2.now }) r ≡ find (has_field_name n) (map entry_kind es)
full_field n es None k v = (λ i. found_kind (k i) (v i)) ∙ sym (find_entry n es)
full_field n es (Some p) k v = (λ i. found_kind (k i) (v i)) ∙ sym (find_entry n es)

-- the map has the name where it is a field's
pub stands : (n : List ℕ) (es : List (List ℕ × DataType)) → is_field_name n (map entry_kind es) ≡ is_some (lookup (name_eq n) es)
stands n es = ap (list_any (name_eq n)) (entry_names es) ∙ sym (is_some-lookup (name_eq n) es)

pub none_there : {X : Type 0} (r : Option X) → is_some r ≡ false → r ≡ None
none_there None h = refl
none_there (Some x) h = cc

pub distinct_entries : (es : List (List ℕ × DataType)) → IsDistinct name_eq (keys_of es) → IsDistinct name_eq (field_names (map entry_kind es))
distinct_entries es h = subst (IsDistinct name_eq) (sym (entry_names es)) h

pub entry_added : (n : List ℕ) (t : DataType) (es new : List (List ℕ × DataType)) → new ≡ es ++ (n, t) ∷ [] → map entry_kind new ≡ map entry_kind es ++ entry_kind (n, t) ∷ []
entry_added n t es new e = ap (map entry_kind) e ∙ map_push entry_kind es (n, t)

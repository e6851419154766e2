-- The names and types of columns that are added to a schema, where they are new.
use Rattle.std.proofs.Common.{◌≡◌, ℕ, ◌+◌, ◌<◌, Bool, true, false, List, [], ◌∷◌, ◌++◌, Option, Some, None, Ok, Err, drop, fold, get_or, length, option_map, sym, ◌∙◌, ap, ◌||◌, cond, refl, if◌then◌else◌}
use Rattle.std.specs.Prelude.{find, is_some, not}
use Rattle.std.proofs.lemmas.List.{at_drop_more}
use Rattle.px_value.proofs.Refusing.{no_refusal}
use Rattle.px_column.specs.Prelude.{Refuses, Series}
use Rattle.px_value.specs.declared.error.PxError.{PxError}
use Rattle.px_value.specs.declared.error.PxError.TheVariants.{Duplicate, OutOfMemory}
use Rattle.px_frame.specs.External.{with_field}
use Rattle.px_frame.specs.Schema.{FieldKind, column_field, has_field_name, is_field_name}
use Rattle.px_tree.specs.Typing.{Scope}
use Rattle.px_frame.specs.Frame.{name_eq}

-- a name stands among the fields where one of them has it
pub field_there : (n : List ℕ) (fields : List FieldKind) → is_some (find (has_field_name n) fields) ≡ is_field_name n fields
field_there n [] = refl
field_there n (f ∷ fields) = by (name_eq n f.name) (field_there n fields)
  where
    by : (b : Bool) → is_some (find (has_field_name n) fields) ≡ is_field_name n fields → is_some (cond b (Some f) (find (has_field_name n) fields)) ≡ (b || is_field_name n fields)
    by true rest = refl
    by false rest = rest

-- nothing was found
pub none_found : {X : Type 0} (view : X → FieldKind) (r : Option X) (o : Option FieldKind) (b : Bool) → option_map view r ≡ o → is_some r ≡ not b → b ≡ true → o ≡ None
none_found view None o b m t h = sym m
none_found view (Some x) o b m t h = let no : true ≡ false = t ∙ ap not h in absurd (cc no)

-- something was found
pub some_found : {X : Type 0} (view : X → FieldKind) (r : Option X) (o : Option FieldKind) (b : Bool) → option_map view r ≡ o → is_some r ≡ not b → b ≡ false → is_some o ≡ true
some_found view None o b m t h = let no : false ≡ true = t ∙ ap not h in absurd (cc no)
some_found view (Some x) o b m t h = ap is_some (sym m)

module _ (fields : Scope) (s : Series) where
  fresh : find (has_field_name s.name) fields ≡ None → is_field_name s.name fields ≡ false
  fresh h = sym (field_there s.name fields) ∙ ap is_some h

  -- a field whose name is new goes last
  pub pushed : (new : Scope) (f : FieldKind) → find (has_field_name s.name) fields ≡ None → f ≡ column_field s → new ≡ fields ++ f ∷ [] → new ≡ with_field fields s
  pushed new f h e n = n ∙ ap (λ x. fields ++ x ∷ []) e ∙ sym (ap (λ (b : Bool). if b then fields else fields ++ column_field s ∷ []) (fresh h))

  -- a field whose name is there is not added
  pub known : is_some (find (has_field_name s.name) fields) ≡ true → fields ≡ with_field fields s
  known h = sym (ap (λ (b : Bool). if b then fields else fields ++ column_field s ∷ []) (sym (field_there s.name fields) ∙ h))

  -- a new name is not refused
  pub not_refused : (e : PxError) (n : List ℕ) → find (has_field_name s.name) fields ≡ None → n ≡ s.name → Refuses {Y = Unit {0}} e (if is_field_name n fields then Err (Duplicate n) else Ok tt) → e ≡ OutOfMemory
  not_refused e n h is r = no_refusal {Y = Unit {0}} e (if is_field_name n fields then Err (Duplicate n) else Ok tt) tt (ap (λ (b : Bool). if b then Err (Duplicate n) else Ok tt) (ap (λ m. is_field_name m fields) is ∙ fresh h)) r

-- one more column
pub fields_next : (columns : List Series) (i : ℕ) (s : Series) → i < length columns → s ≡ get_or columns i s → (fields new all : Scope) → fold with_field fields (drop i columns) ≡ all → new ≡ with_field fields s → fold with_field new (drop (i + 1) columns) ≡ all
fields_next columns i s below is fields new all h n =
    ap (λ x. fold with_field x (drop (i + 1) columns)) n
    ∙ sym (at_drop_more (λ ss. fold with_field fields ss) columns i s below ∙ ap (λ t. fold with_field fields (t ∷ drop (i + 1) columns)) (sym is))
    ∙ h

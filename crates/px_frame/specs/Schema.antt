-- What contracts see of a schema: its fields' names and types in order, with distinct names.
use Rattle.std.specs.Prelude.{ℕ, Bool, List, map, refl}
use Rattle.std.specs.Coded.{Coded, coded×, coded_list, coded_ℕ, code_by}
use Rattle.std.specs.List.{list_any}
use Rattle.px_column.specs.Prelude.{Kind, Series}
use Rattle.px_column.specs.Kind.{coded_kind}
use Rattle.px_frame.specs.Frame.{name_eq}

-- a field: a name and a type
pub record FieldKind : Type 0 where
  pub name : List ℕ
  pub kind : Kind

-- a field has this name
abbrev pub has_field_name : List ℕ → FieldKind → Bool
has_field_name n f = name_eq n f.name

-- the names of the fields, in their order
abbrev pub field_names : List FieldKind → List (List ℕ)
field_names fields = map (λ f. f.name) fields

-- whether the name stands among the fields'
abbrev pub is_field_name : List ℕ → List FieldKind → Bool
is_field_name n fields = list_any (name_eq n) (field_names fields)

-- a column's name and type
abbrev pub column_field : Series → FieldKind
column_field s = record { name = s.name; kind = s.kind }

-- fields are told apart by their names and types
abbrev pub coded_field : Coded FieldKind
coded_field = code_by (List ℕ × Kind) (coded× (coded_list coded_ℕ) coded_kind) (λ f. (f.name, f.kind)) (λ p. record { name = p.0; kind = p.1 }) (λ _. refl)

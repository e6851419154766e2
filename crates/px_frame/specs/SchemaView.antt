-- The name and type that a field, or an entry of a schema's map, stands for.
use Rattle.std.specs.Prelude.{ℕ, List}
use Rattle.px_column.specs.Prelude.{kind_of}
use Rattle.px_value.specs.declared.data_type.DataType.{DataType}
use Rattle.px_frame.specs.Schema.{FieldKind}
use Rattle.px_frame.specs.declared.schema.Field.{Field}

-- the name and the type of a field
abbrev pub field_kind : Field → FieldKind
field_kind f = record { name = f.name; kind = kind_of f.dtype }

-- the name and the type of an entry
abbrev pub entry_kind : List ℕ × DataType → FieldKind
entry_kind e = record { name = e.0; kind = kind_of e.1 }

-- The facts that a typed expression stands for.
use Rattle.std.specs.Prelude.{List, map}
use Rattle.px_column.specs.Prelude.{kind_of}
use Rattle.px_typing.specs.Facts.{Facts}
use Rattle.px_typing.specs.declared.typed.Typed.{Typed}

-- what a typed expression says of itself
abbrev pub facts_of : Typed → Facts
facts_of t = record { kind = kind_of t.dtype; unit = t.is_unit; literal = t.is_literal; implode = t.has_implode }

-- what each of some typed expressions says of itself
abbrev pub all_facts_of : List Typed → List Facts
all_facts_of ts = map facts_of ts

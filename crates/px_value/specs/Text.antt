-- The bytes of a text, and of a string of bytes.
use Rattle.std.specs.Prelude.{List, ℕ}
use Rattle.std.specs.Rc.{rc_slice_items, rc_str_bytes}
use Rattle.px_value.specs.declared.name.Bytes as bytes
use Rattle.px_value.specs.declared.name.Bytes.{Bytes}
use Rattle.px_value.specs.declared.name.Text.{Text}
use Rattle.px_value.specs.declared.name.Text.TheVariants.{InPlace, Shared}

-- the bytes of a text, in place or shared
abbrev pub text_bytes : Text → List ℕ
text_bytes (InPlace t) = t.bytes
text_bytes (Shared t) = rc_str_bytes t

-- the bytes of a string, in place or shared
abbrev pub string_bytes : Bytes → List ℕ
string_bytes (bytes.TheVariants.InPlace b) = b.items
string_bytes (bytes.TheVariants.Shared b) = rc_slice_items b

-- The text of a frame: lines, each of them a JSON array without spaces.
use Rattle.std.specs.Prelude.{ℕ, zero, suc, ◌+◌, ◌/◌, ◌%◌, ◌==◌, nat_lt, if◌then◌else◌, true, false, List, [], ◌∷◌, ◌++◌, None, Some, map, codes}
use Rattle.std.specs.Fmt.{signed_decimal}
use Rattle.std.specs.List.{flat_map, join_with_byte, range_with_len}
use Rattle.px_column.specs.Prelude.{Datum, boolean, integer, text, bytes, list, Slots, no_slots, absent, present, Slot, Kind, booleans, int8s, int16s, int32s, int64s, uint8s, uint16s, uint32s, uint64s, strings, binaries, nulls, lists, Series}
use Rattle.px_column.specs.Key.{key_at}

-- the digit of a number below 16, with lower-case letters
abbrev pub hex_digit : ℕ → ℕ
hex_digit n = if nat_lt n 10 then 48 + n else 87 + n

-- a byte as two hexadecimal digits
abbrev pub hex_of : ℕ → List ℕ
hex_of b = hex_digit (b / 16) ∷ hex_digit (b % 16) ∷ []

-- a byte as it stands in a quoted text
abbrev pub escaped : ℕ → List ℕ
escaped b =
    if b == 34 then codes "\\\""
    else if b == 92 then codes "\\\\"
    else if b == 8 then codes "\\b"
    else if b == 9 then codes "\\t"
    else if b == 10 then codes "\\n"
    else if b == 12 then codes "\\f"
    else if b == 13 then codes "\\r"
    else if nat_lt b 32 then codes "\\u00" ++ hex_of b
    else b ∷ []

-- bytes between quotation marks
abbrev pub in_quotes : List ℕ → List ℕ
in_quotes content = 34 ∷ (content ++ 34 ∷ [])

-- a text as a JSON string
abbrev pub quoted : List ℕ → List ℕ
quoted content = in_quotes (flat_map escaped content)

-- bytes as a JSON string of hexadecimal digits
abbrev pub hexadecimal : List ℕ → List ℕ
hexadecimal content = in_quotes (flat_map hex_of content)

-- a comma, unless the item that follows is the first
abbrev pub comma_before : ℕ → List ℕ
comma_before zero = []
comma_before (suc index) = 44 ∷ []

-- the pieces between brackets, with a comma between each two
abbrev pub array : List (List ℕ) → List ℕ
array pieces = 91 ∷ (join_with_byte 44 pieces ++ 93 ∷ [])

-- what a value is written as
abbrev mutual
  pub datum_text : Datum → List ℕ
  datum_text (boolean true) = codes "true"
  datum_text (boolean false) = codes "false"
  datum_text (integer z) = signed_decimal z
  datum_text (text s) = quoted s
  datum_text (bytes s) = hexadecimal s
  datum_text (list ds) = array (item_texts ds)

  -- each item of a list
  pub item_texts : Slots → List (List ℕ)
  item_texts no_slots = []
  item_texts (absent ds) = codes "null" ∷ item_texts ds
  item_texts (present d ds) = datum_text d ∷ item_texts ds

-- what a place is written as
abbrev pub slot_text : Slot → List ℕ
slot_text None = codes "null"
slot_text (Some d) = datum_text d

-- the name of a type
abbrev pub kind_name : Kind → List ℕ
kind_name booleans = codes "Boolean"
kind_name int8s = codes "Int8"
kind_name int16s = codes "Int16"
kind_name int32s = codes "Int32"
kind_name int64s = codes "Int64"
kind_name uint8s = codes "UInt8"
kind_name uint16s = codes "UInt16"
kind_name uint32s = codes "UInt32"
kind_name uint64s = codes "UInt64"
kind_name strings = codes "String"
kind_name binaries = codes "Binary"
kind_name nulls = codes "Null"
kind_name (lists k) = codes "List(" ++ (kind_name k ++ codes ")")

-- an array and the end of its line
abbrev pub line : List (List ℕ) → List ℕ
line pieces = array pieces ++ 10 ∷ []

-- the names of the columns
abbrev pub names_line : List Series → List ℕ
names_line columns = line (map (λ s. quoted s.name) columns)

-- the types of the columns
abbrev pub types_line : List Series → List ℕ
types_line columns = line (map (λ s. in_quotes (kind_name s.kind)) columns)

-- what the columns hold at a row
abbrev pub row_line : List Series → ℕ → List ℕ
row_line columns row = line (map slot_text (key_at columns row))

-- the first rows, one after the other
abbrev pub rows_text : List Series → ℕ → List ℕ
rows_text columns height = flat_map (row_line columns) (range_with_len 0 height)

-- the names, the types and each row
abbrev pub text_of : List Series → ℕ → List ℕ
text_of columns height = names_line columns ++ (types_line columns ++ rows_text columns height)

-- What a document says: columns, and the steps that are done with them.
use Rattle.std.specs.Prelude.{ℕ, zero, suc, ◌+◌, ◌-◌, ◌*◌, ◌^◌, ◌&&◌, List, [], ◌∷◌, length, take, drop, nat_lt, Option, Some, None, is_some, map, option_map, if◌then◌else◌, codes}
use Rattle.std.specs.Option.{option_or}
use Rattle.std.specs.Str.{bytes_eq}
use Rattle.serde_json.specs.Data.{Data}
use Rattle.serde_json.specs.Find.{as_null, as_bool, as_number, as_str, as_integer}
use Rattle.px_column.specs.Prelude.{Datum, boolean, integer, text, bytes, list, Slot, slots, Kind, booleans, int8s, int16s, int32s, int64s, uint8s, uint16s, uint32s, uint64s, strings, binaries, nulls, lists, slot_fits, slots_fit, Series}
use Rattle.px_column.specs.Option.{◌>>=◌, each}
use Rattle.px_document.specs.Form.{items, fields}
use Rattle.px_tree.specs.Step.{PlainStep, step_view}
use Rattle.px_document.specs.declared.document.parsed.Parsed.{Parsed}

-- the type of a name, where it is no type of lists
abbrev pub simple_kind : List ℕ → Option Kind
simple_kind s =
    if bytes_eq s (codes "Boolean") then Some booleans
    else if bytes_eq s (codes "Int8") then Some int8s
    else if bytes_eq s (codes "Int16") then Some int16s
    else if bytes_eq s (codes "Int32") then Some int32s
    else if bytes_eq s (codes "Int64") then Some int64s
    else if bytes_eq s (codes "UInt8") then Some uint8s
    else if bytes_eq s (codes "UInt16") then Some uint16s
    else if bytes_eq s (codes "UInt32") then Some uint32s
    else if bytes_eq s (codes "UInt64") then Some uint64s
    else if bytes_eq s (codes "String") then Some strings
    else if bytes_eq s (codes "Binary") then Some binaries
    else if bytes_eq s (codes "Null") then Some nulls
    else None

-- what follows a text that s begins with
abbrev pub after : List ℕ → List ℕ → Option (List ℕ)
after front s = if bytes_eq (take (length front) s) front then Some (drop (length front) s) else None

-- what stands before a text that s ends with
abbrev pub before : List ℕ → List ℕ → Option (List ℕ)
before back s = if bytes_eq (drop (length s - length back) s) back then Some (take (length s - length back) s) else None

-- what stands between `List(` and `)`
abbrev pub in_list : List ℕ → Option (List ℕ)
in_list s = after (codes "List(") s >>= before (codes ")")

-- the type of a name, with at most this many `List(` around one another
abbrev pub kind_within : ℕ → List ℕ → Option Kind
kind_within zero s = simple_kind s
kind_within (suc depth) s = option_or (simple_kind s) (in_list s >>= λ t. option_map lists (kind_within depth t))

-- the type of a name
abbrev pub kind_named : List ℕ → Option Kind
kind_named s = kind_within 16 s

-- the number of a digit: 0-9, or a lower-case a-f
abbrev pub hex_value : ℕ → Option ℕ
hex_value c =
    if nat_lt 47 c && nat_lt c 58 then Some (c - 48)
    else if nat_lt 96 c && nat_lt c 103 then Some (c - 87)
    else None

-- the byte of two digits
abbrev pub hex_byte : ℕ → ℕ → Option ℕ
hex_byte high low = hex_value high >>= λ h. option_map (λ l. 16 * h + l) (hex_value low)

-- the bytes of a text of hexadecimal digits, two a byte
abbrev pub bytes_of_hex : List ℕ → Option (List ℕ)
bytes_of_hex [] = Some []
bytes_of_hex (a ∷ []) = None
bytes_of_hex (a ∷ b ∷ s) = hex_byte a b >>= λ x. option_map (λ xs. x ∷ xs) (bytes_of_hex s)

-- the list of these places, where there are fewer than 2^32 of them
abbrev pub short_list : List Slot → Option Datum
short_list xs = if nat_lt (length xs) (2 ^ 32) then Some (list (slots xs)) else None

-- a null, or the value that there is
abbrev pub unless_null : Data → Option Datum → Option Slot
unless_null d value = if is_some (as_null d) then Some None else option_map Some value

-- what stands for a place of a type: a null, or a value of its kind
abbrev pub place_of : Kind → Data → Option Slot
place_of booleans d = unless_null d (option_map boolean (as_bool d))
place_of strings d = unless_null d (option_map text (as_str d))
place_of binaries d = unless_null d (option_map bytes (as_str d >>= bytes_of_hex))
place_of nulls d = unless_null d None
place_of (lists k) d = unless_null d (items d >>= each (λ e. place_of k e) >>= short_list)
place_of _ d = unless_null d (option_map integer (as_number d >>= as_integer))

-- a place whose value fits the type
abbrev pub fitting_place : Kind → Data → Option Slot
fitting_place k d = place_of k d >>= λ s. if slot_fits k s then Some s else None

-- a column of these places
abbrev pub rows_under : List ℕ → Kind → List Slot → Series
rows_under name kind xs = record { name = name; kind = kind; slots = xs }

-- a column of these places, where each fits the type and there are fewer than 2^32 of them
abbrev pub column_with : List ℕ → Kind → List Slot → Option Series
column_with name kind xs = if nat_lt (length xs) (2 ^ 32) && slots_fit kind xs then Some (rows_under name kind xs) else None

-- a column's name, its type and its values, each of them a place
abbrev pub column_of_parts : List Data → Option Series
column_of_parts (n ∷ t ∷ v ∷ []) = do
  name ← as_str n
  kind ← as_str t >>= kind_named
  places ← items v >>= each (place_of kind)
  column_with name kind places
column_of_parts _ = None

-- {"name": text, "type": text, "values": [..]}
abbrev pub column_of : Data → Option Series
column_of d = fields (codes "name" ∷ codes "type" ∷ codes "values" ∷ []) d >>= column_of_parts

-- a document: its columns and its steps, in their order
pub record Doc : Type 0 where
  pub columns : List Series
  pub steps : List PlainStep

-- the document that was read
abbrev pub doc_view : Parsed → Doc
doc_view p = record { columns = p.columns.items; steps = map step_view p.steps.items }

-- The data that stands first among the tokens of a text.
use Rattle.std.specs.Prelude.{◌≡◌, ℕ, true, List, Option, Some, None, length, option_and_then, option_map, codes, [], ◌∷◌, ◌++◌, ◌^◌, ◌<◌}
use Rattle.json.specs.Token as token
use Rattle.json.specs.Token.{Token}
use Rattle.json.specs.Json.{if_last, items, value}
use Rattle.serde_json.specs.Data.{Data, null, boolean, number, string}
use Rattle.serde_json.specs.Read.{converted, number_of, of_items, of_json}
use Rattle.px_column.specs.Option.{each}
use Rattle.px_column.specs.Prelude.{Kind, Series, Slot, slot_fits}
use Rattle.px_document.specs.Document.{fitting_place}
use Rattle.px_document.specs.Form.{listed}

-- the data that stands first, with arrays and objects nested at most so deep, and the tokens behind it
abbrev pub first_data : ℕ → List Token → Option (Data × List Token)
first_data depth ts = converted of_json (value depth ts)

-- what f makes of each item up to the end of an array, in at most n turns, and the tokens behind the array
abbrev pub items_made : {B : Type 0} → (Data → Option B) → ℕ → ℕ → List Token → Option (List B × List Token)
items_made f depth n ts = converted (λ ds. each f (listed ds)) (converted of_items (items (value depth) n ts))

-- the data of a token that is a value by itself
abbrev pub token_data : Token → Option Data
token_data (token.string s) = Some (string s)
token_data (token.number s) = option_map number (number_of s)
token_data (token.boolean b) = Some (boolean b)
token_data token.null = Some null
token_data _ = None

-- the token says this place in each type that the place fits
abbrev pub IsPlaceOf : Token → Slot → Type 0
IsPlaceOf t s = (k : Kind) → slot_fits k s ≡ true → option_and_then (fitting_place k) (token_data t) ≡ Some s

-- one row more, which fits the type of the rows
abbrev pub IsPushed : Slot → Series → Series → Type 0
IsPushed s old new = (slot_fits old.kind s ≡ true) × (new ≡ record old { slots = old.slots ++ s ∷ [] })

-- one row more: what the token says in the type of the rows
abbrev pub IsTokenPushed : Token → Series → Series → Type 0
IsTokenPushed t old new = (s : Slot) × (option_and_then (fitting_place old.kind) (token_data t) ≡ Some s) × (new ≡ record old { slots = old.slots ++ s ∷ [] })

-- the column of this name and type has the places that are said up to the end of an array
abbrev pub IsRowsOf : List ℕ → Kind → Series → List Token → List Token → Type 0
IsRowsOf name k c old new = (c.name ≡ name) × (c.kind ≡ k) × (length c.slots < 2 ^ 32) × (items_made (fitting_place k) 123 (length old) old ≡ Some (c.slots, new))

-- the tokens of a column up to its values, with what comes behind them
abbrev pub column_head : List ℕ → List ℕ → List Token → List Token
column_head name type ts =
    token.begin_object ∷ token.key (codes "name") ∷ token.string name ∷ token.key (codes "type") ∷ token.string type ∷ token.key (codes "values") ∷ token.begin_array ∷ ts

-- the tokens of a document up to its columns, with what comes behind them
abbrev pub document_head : List Token → List Token
document_head ts = token.begin_object ∷ token.key (codes "columns") ∷ token.begin_array ∷ ts

-- the data of all the tokens
abbrev pub only_data : List Token → Option Data
only_data ts = option_and_then of_json (option_and_then (λ p. if_last p.0 p.1) (value 127 ts))

-- Keys as columns of a frame, and what an aggregation has for each part of its rows.
use Rattle.std.specs.Prelude.{ℕ, List, Option, Some, map, option_map, if◌then◌else◌}
use Rattle.std.specs.Result.{result_ok}
use Rattle.px_column.specs.Prelude.{Slot, Kind, lists, Series, slot_at}
use Rattle.px_column.specs.Option.{◌>>=◌, each}
use Rattle.px_frame.specs.Cell.{value_of_cell}
use Rattle.px_frame.specs.External.{Frame, height, scope_of, rows_of_frame}
use Rattle.px_frame.specs.Groups.{first_row}
use Rattle.px_frame.specs.Spread.{NamedCell, spread_column}
use Rattle.px_tree.specs.Shape.{is_unit, name_of}
use Rattle.px_tree.specs.Tree.{Tree}
use Rattle.px_tree.specs.Typing.{kind_in}
use Rattle.px_tree.specs.Value.{value_on, named}

-- an expression's value, under its name and type
abbrev pub named_value : Frame → Tree → Option NamedCell
named_value frame e = value_on e frame >>= named e frame

-- a key as a column of the frame's height
abbrev pub key_on : Frame → Tree → Option Series
key_on frame e = named_value frame e >>= λ c. result_ok (spread_column (height frame) c)

-- a key's values, at the first row of each part
abbrev pub key_values : List (List ℕ) → Series → Series
key_values parts s = record s { slots = map (λ p. slot_at s.slots (first_row p)) parts }

-- the type of an aggregation's column: where it has a list of rows on a part, a list of them
abbrev pub grouped_kind : Tree → Kind → Kind
grouped_kind e k = if is_unit e then k else lists k

-- an aggregation's value on the frame of one part's rows alone
abbrev pub value_on_part : Frame → Tree → List ℕ → Option Slot
value_on_part frame e part = option_map value_of_cell (value_on e (rows_of_frame frame part))

-- an aggregation's column, with a row for each part
abbrev pub aggregated_on : Frame → List (List ℕ) → Tree → Option Series
aggregated_on frame parts e = do
  k ← kind_in e (scope_of frame)
  values ← each (value_on_part frame e) parts
  Some (record { name = name_of e; kind = grouped_kind e k; slots = values })

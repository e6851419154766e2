-- Parts whose rows are put in order.
use Rattle.std.specs.Prelude.{ℕ, List, [], ◌∷◌, Option, Some, None, length, map, slice_index}
use Rattle.px_column.specs.Order.{sorted_rows}
use Rattle.px_column.specs.Prelude.{Series}
use Rattle.px_value.specs.declared.sort_options.SortOptions.{SortOptions}
use Rattle.px_frame.specs.Frame.{slots_at}
use Rattle.px_frame.specs.Parts.{parts_of}

-- these rows in the order of a column, equal ones in the order in which they stand
abbrev pub in_order : Series → SortOptions → List ℕ → List ℕ
in_order s options rows = map (slice_index rows) (sorted_rows ((options, slots_at s.slots rows) ∷ []) (length rows))

-- the parts of n rows by these columns, each in the order of a column where there is one
abbrev pub ordered_parts : List Series → Option (Series × SortOptions) → ℕ → List (List ℕ)
ordered_parts by None n = parts_of by n
ordered_parts by (Some o) n = map (in_order o.0 o.1) (parts_of by n)

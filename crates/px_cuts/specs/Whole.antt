-- What the chunks of a frame make, and what the frame makes.
use Rattle.std.specs.Prelude.{◌≡◌, ℕ, ◌^◌, ◌<◌, true, false, List, ◌∷◌, [], Some, length, map}
use Rattle.std.specs.List.{list_all, slice_index_or, sum}
use Rattle.px_column.specs.Option.{each}
use Rattle.px_column.specs.Order.{sorted_rows}
use Rattle.px_column.specs.Prelude.{Kind, Slot, Series}
use Rattle.px_value.specs.declared.sort_options.SortOptions.{SortOptions}
use Rattle.px_frame.specs.External.{alone, scope_of}
use Rattle.px_frame.specs.Frame.{height_of, all_have_height, slots_at}
use Rattle.px_frame.specs.Parts.{parts_of}
use Rattle.px_tree.specs.Grouped.{key_on, key_values, value_on_part}
use Rattle.px_tree.specs.Partition.{is_elementwise, is_partition_safe, merged}
use Rattle.px_tree.specs.Tree.{Tree}
use Rattle.px_tree.specs.Typing.{kind_in, refusals_of}
use Rattle.px_tree.specs.declared.context.Context.TheVariants.{Aggregation}
use Rattle.px_laws.specs.Fitting.{has_fitting_columns, has_fitting_literals}
use Rattle.px_cuts.specs.Chunks.{Chunk, chunks_on, joined_keys, joined_key_rows, count_key_rows}

-- in rising order, nulls first
abbrev pub rising : SortOptions
rising = record { descending = false; nulls_last = false }

-- the parts of n rows in rising order of their keys
abbrev pub parts_by_keys : List Series → ℕ → List (List ℕ)
parts_by_keys by n =
    map (λ i. slice_index_or (parts_of by n) i []) (sorted_rows (map (λ (s : Series). (rising, s.slots)) (map (key_values (parts_of by n)) by)) (length (parts_of by n)))

-- in which order parts stand: that of their first appearance, or that of their keys
pub data GroupOrder : Type 0 where
  appearance : GroupOrder
  by_keys : GroupOrder

-- the parts of n rows in an order
abbrev pub parts_in_order : GroupOrder → List Series → ℕ → List (List ℕ)
parts_in_order appearance by n = parts_of by n
parts_in_order by_keys by n = parts_by_keys by n

-- columns of fewer than 2^32 rows are cut into chunks of these lengths, and their keys are elementwise
pub record IsCut (columns : List Series) (keys : List Tree) (lengths : List ℕ) : Type 0 where
  pub even : all_have_height (height_of columns) columns ≡ true
  pub whole : sum lengths ≡ height_of columns
  pub short : height_of columns < 2 ^ 32
  pub keyed : list_all (λ e. is_elementwise e (scope_of (alone columns))) keys ≡ true

-- one chunk or more, which this cut makes
pub record AreChunks (columns : List Series) (keys : List Tree) (lengths : List ℕ) (c : Chunk) (chunks : List Chunk) : Type 0 where
  pub cut : IsCut columns keys lengths
  pub chunked : chunks_on keys columns 0 lengths ≡ Some (c ∷ chunks)

-- a partition safe expression of type k that is not refused on groups, over columns and literals that fit their types
pub record IsMergeable (columns : List Series) (e : Tree) (k : Kind) : Type 0 where
  pub safe : is_partition_safe e (scope_of (alone columns)) ≡ true
  pub accepted : refusals_of e (scope_of (alone columns)) Aggregation ≡ []
  pub kind : kind_in e (scope_of (alone columns)) ≡ Some k
  pub columns_fit : has_fitting_columns (alone columns) ≡ true
  pub literals_fit : has_fitting_literals e ≡ true

-- the key rows of all chunks, grouped
abbrev pub final_groups : GroupOrder → Chunk → List Chunk → List (List ℕ)
final_groups order c chunks = parts_in_order order (joined_key_rows c chunks) (count_key_rows (c ∷ chunks))

-- the key columns at these groups
abbrev pub final_keys : GroupOrder → Chunk → List Chunk → List Series
final_keys order c chunks = map (key_values (final_groups order c chunks)) (joined_key_rows c chunks)

-- partials, merged for each of these groups
abbrev pub final_values : GroupOrder → Chunk → List Chunk → Tree → Kind → List Slot → List Slot
final_values order c chunks e k partials = map (λ g. merged e k (slots_at partials g)) (final_groups order c chunks)

-- the keys have values on the whole frame, and at its parts stand the keys that stand at the groups of the chunks' key rows
pub record KeysAreWhole (columns : List Series) (keys : List Tree) (c : Chunk) (chunks : List Chunk) : Type 0 where
  pub whole : each (key_on (alone columns)) keys ≡ Some (joined_keys c chunks)
  pub rows : (order : GroupOrder) → final_keys order c chunks ≡ map (key_values (parts_in_order order (joined_keys c chunks) (height_of columns))) (joined_keys c chunks)

-- partials, merged, are the expression's values on the parts of the whole frame
abbrev pub ValuesAreWhole : List Series → Chunk → List Chunk → Tree → Kind → List Slot → Type 0
ValuesAreWhole columns c chunks e k partials =
    (order : GroupOrder) → each (value_on_part (alone columns) e) (parts_in_order order (joined_keys c chunks) (height_of columns)) ≡ Some (final_values order c chunks e k partials)

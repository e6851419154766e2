-- Parts of a frame's rows, an expression's values on them, and what they are merged to.
use Rattle.std.specs.Prelude.{◌≡◌, ℕ, ◌^◌, ◌<◌, Bool, true, false, List, [], ◌∷◌, Some, length}
use Rattle.std.specs.List.{flat_map, list_all}
use Rattle.px_column.specs.Prelude.{Slot, Kind}
use Rattle.px_column.specs.Option.{each}
use Rattle.px_value.specs.declared.method.GroupByMethod.TheVariants.{Min, Max}
use Rattle.px_frame.specs.External.{Frame, scope_of}
use Rattle.px_tree.specs.Grouped.{value_on_part}
use Rattle.px_tree.specs.Partition.{is_partition_safe, merged}
use Rattle.px_tree.specs.Tree.{Tree, alias, agg}
use Rattle.px_tree.specs.Typing.{kind_in, refusals_of}
use Rattle.px_tree.specs.Value.{has_misfit}
use Rattle.px_tree.specs.declared.context.Context.TheVariants.{Aggregation}

-- a part that has rows
abbrev pub has_rows : List ℕ → Bool
has_rows [] = false
has_rows (r ∷ rs) = true

-- one part or more, and each has rows
abbrev pub are_parts : List (List ℕ) → Bool
are_parts [] = false
are_parts (p ∷ parts) = list_all has_rows (p ∷ parts)

-- the rows of all parts, in their order
abbrev pub rows_of_parts : List (List ℕ) → List ℕ
rows_of_parts parts = flat_map (λ p. p) parts

-- an expression of type k that is evaluated on parts of a frame: it is partition safe and not refused on groups, names no
-- column beside the frame of another height, and all rows together are fewer than 2^32
pub record OnParts (e : Tree) (frame : Frame) (k : Kind) (parts : List (List ℕ)) : Type 0 where
  pub safe : is_partition_safe e (scope_of frame) ≡ true
  pub accepted : refusals_of e (scope_of frame) Aggregation ≡ []
  pub even : has_misfit e frame ≡ false
  pub kind : kind_in e (scope_of frame) ≡ Some k
  pub some : are_parts parts ≡ true
  pub short : length (rows_of_parts parts) < 2 ^ 32

-- the least or the greatest value, under any aliases
abbrev pub is_extreme : Tree → Bool
is_extreme (alias e n) = is_extreme e
is_extreme (agg Min e) = true
is_extreme (agg Max e) = true
is_extreme _ = false

-- where there is a value on each part, these values merged are the value on all rows
abbrev pub PartsMerge : Tree → Frame → Kind → List (List ℕ) → Type 0
PartsMerge e frame k parts = (values : List Slot) → each (value_on_part frame e) parts ≡ Some values → value_on_part frame e (rows_of_parts parts) ≡ Some (merged e k values)

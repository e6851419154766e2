-- The chunks of a frame.
use Rattle.std.specs.Prelude.{ℕ, ◌==◌, List, Result, Ok, Err, map, if◌then◌else◌}
use Rattle.std.specs.List.{sum}
use Rattle.px_column.specs.Prelude.{Series}
use Rattle.px_value.specs.declared.error.PxError.{PxError}
use Rattle.px_value.specs.declared.error.PxError.TheVariants.{ComputeError}
use Rattle.px_value.specs.declared.error.ComputeWhy.TheVariants.{ChunkLengths}
use Rattle.px_frame.specs.Frame.{height_of, subframe}
use Rattle.px_cuts.specs.Cut.{ranges}

-- the frame's chunks of these lengths, one after another, where the lengths sum to its height
abbrev pub cut : List Series → List ℕ → Result (List (List Series)) PxError
cut frame lengths = if sum lengths == height_of frame then Ok (map (subframe frame) (ranges 0 lengths)) else Err (ComputeError ChunkLengths)

use Rattle.std.proofs.Common.{◌≡◌, ◌+◌, ◌≤◌, ◌++◌, drop, map}
use Rattle.std.specs.List.{sum}
use Rattle.px_frame.specs.Frame.{height_of, subframe}
use Rattle.px_cuts.specs.Cut.{ranges}
use Rattle.px_partition.proofs.cutting.cut_frame.Given as goal

abbrev pub invariant-loop-length : goal.invariant-loop-length
invariant-loop-length l =
    (l.first ≤ l.height) × (l.height ≡ height_of l.df) × (l.first + sum (drop l.length-index l.lengths) ≡ sum l.lengths)
    × (l.chunks.items ++ map (subframe l.df) (ranges l.first (drop l.length-index l.lengths)) ≡ map (subframe l.df) (ranges 0 l.lengths))

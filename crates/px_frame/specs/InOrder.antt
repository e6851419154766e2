-- Groups put in order.
use Rattle.std.specs.Prelude.{List}
use Rattle.std.specs.List.Sorted.{IsNonDecreasingBy, IsPermutation, IsStableByKey}
use Rattle.std.specs.Ordering.{nat_cmp}
use Rattle.px_frame.specs.Groups.{Group}

-- the same groups by their numbers `first`, those of one number in the order in which they stood
pub record IsByFirst (old new : List Group) : Type 0 where
  pub moved : IsPermutation old new
  pub rising : IsNonDecreasingBy (λ g. g.first) new
  pub stable : IsStableByKey (λ g. g.first) nat_cmp old new

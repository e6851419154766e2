-- The answers of a node of three inputs have one name, one type and one shape.
use Rattle.std.proofs.Common.{◌≡◌, ℕ, Bool, List, [], ◌∷◌, Result, Ok, map}
use Rattle.px_column.specs.Prelude.{Kind}
use Rattle.px_value.specs.declared.error.PxError.{PxError}
use Rattle.px_frame.specs.Cell.{Cell, is_unit_cell}
use Rattle.px_frame.specs.Spread.{NamedCell}
use Rattle.px_lanes.specs.Alike.{AreLike, IsLike}
use Rattle.px_lanes.proofs.Joining.{named}
use Rattle.px_lanes.proofs.Likeness.{AreShaped}
use Rattle.px_group_nodes.specs.Three.{answers_of_three}

module _ (name : List ℕ) (t : Kind) (one : Bool) (node : NamedCell → NamedCell → NamedCell → Result NamedCell PxError) (n m o : List ℕ) (k j l : Kind) (u v w : Bool)
    (law : (a b c : Cell) (d : NamedCell) → is_unit_cell a ≡ u → is_unit_cell b ≡ v → is_unit_cell c ≡ w → node (named n k a) (named m j b) (named o l c) ≡ Ok d → IsLike name t one d) where
  pub like_three : (xs ys zs : List Cell) (cs : List NamedCell) → AreShaped u xs → AreShaped v ys → AreShaped w zs → answers_of_three node (map (named n k) xs) (map (named m j) ys) (map (named o l) zs) ≡ map Ok cs
      → AreLike name t one cs
  like_three xs ys zs [] p q r h = tt
  like_three [] ys zs (c ∷ cs) p q r h = absurd (cc)
  like_three (x ∷ xs) [] zs (c ∷ cs) p q r h = absurd (cc)
  like_three (x ∷ xs) (y ∷ ys) [] (c ∷ cs) p q r h = absurd (cc)
  like_three (x ∷ xs) (y ∷ ys) (z ∷ zs) (c ∷ cs) p q r h =
      let first : node (named n k x) (named m j y) (named o l z) ≡ Ok c = cc in
      let others : answers_of_three node (map (named n k) xs) (map (named m j) ys) (map (named o l) zs) ≡ map Ok cs = cc in
      (law x y z c p.0 q.0 r.0 first, like_three xs ys zs cs p.1 q.1 r.1 others)

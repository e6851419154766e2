-- A range has as many values as its bounds are apart.
use Rattle.std.proofs.Common.{◌≡◌, ◌&&◌, true, length, arith}
use Rattle.std.specs.Prelude.{[], ◌∷◌, ℤ, pos, ◌-ℤ◌, ◌+ℤ◌, Some}
use Rattle.std.proofs.lemmas.List.FromFn.{length-map-range_with_len}
use Rattle.px_column.specs.Prelude.{integer, Kind, fits}
use Rattle.px_frame.specs.External.{Frame}
use Rattle.px_tree.specs.Node.{integers, natural}
use Rattle.px_tree.specs.Size.{size_on}
use Rattle.px_tree.specs.Tree.{literal, range}

length_integers : (low high : ℤ) → length (integers low high) ≡ natural (high -ℤ low)
length_integers low high = length-map-range_with_len (λ i. Some (integer (low +ℤ pos i))) 0 (natural (high -ℤ low))

pub size_of_range : (low high : ℤ) (k : Kind) (frame : Frame) → (fits k (integer low) && fits k (integer high)) ≡ true → size_on (literal (range low high k)) (frame ∷ []) ≡ natural (high -ℤ low)
size_of_range low high k frame h =
    let n = length_integers low high in
    rw h (omega (arith, n))

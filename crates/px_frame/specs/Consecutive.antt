-- Slices one after another.
use Rattle.std.specs.Prelude.{ℕ, ◌+◌, ◌^◌, List, [], ◌∷◌, Result, Ok, Err, nat_lt, sum, if◌then◌else◌}
use Rattle.std.specs.List.{range_with_len}
use Rattle.px_value.specs.declared.error.PxError.{PxError}
use Rattle.px_value.specs.declared.error.PxError.TheVariants.{ComputeError}
use Rattle.px_value.specs.declared.error.ComputeWhy.TheVariants.{TooLong}
use Rattle.px_frame.specs.Groups.{Group, Groups}

-- slices of these lengths, one after another, from row n on
abbrev pub slices_from : ℕ → List ℕ → List Group
slices_from n [] = []
slices_from n (c ∷ cs) = record { first = n; rows = range_with_len n c } ∷ slices_from (n + c) cs

-- what is made where as many rows are allowed
abbrev pub unless_long : {X : Type 0} → ℕ → X → Result X PxError
unless_long n made = if nat_lt n (2 ^ 32) then Ok made else Err (ComputeError TooLong)

-- slices of these lengths, one after another, with their sum as height
abbrev pub consecutive : List ℕ → Result Groups PxError
consecutive cs = unless_long (sum cs) (record { height = sum cs; groups = slices_from 0 cs })

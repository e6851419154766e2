-- Each value in a list weighs less than the list.
use Rattle.std.specs.Prelude.{◌≤◌, List, [], ◌∷◌, Option, Some, None}
use Rattle.std.proofs.Common.{arith}
use denote.Param.Weighed.{most}
use Rattle.px_value.specs.Datum.{slots, weight, weights}
use Rattle.px_value.specs.View.{datum_of, slots_of}
use Rattle.px_value.specs.declared.value.Value.{Value}
use Rattle.px_value.specs.declared.value.Value.TheVariants.{Boolean, Int, Text, Bytes, List as Nested}
use Rattle.px_value.specs.declared.value.Values.TheShapes.{weighed-Values-items-at-1}
use Rattle.px_value.specs.declared.value.Values.TheDeep.{deep-Value}

-- a value is no deeper than it weighs
pub deep-le-weight : (v : Value) → deep-Value v ≤ weight (datum_of v)
deep-le-weight (Boolean b) = omega arith
deep-le-weight (Int z) = omega arith
deep-le-weight (Text s) = omega arith
deep-le-weight (Bytes s) = omega arith
deep-le-weight (Nested xs) = omega arith

-- the deepest value in a list is no deeper than all of them weigh together
pub values_fall : (xs : List (Option Value)) → most (λ x. weighed-Values-items-at-1.weight Value deep-Value x) xs ≤ weights (slots (slots_of xs))
values_fall [] = omega arith
values_fall (None ∷ xs) = omega (arith, values_fall xs)
values_fall (Some v ∷ xs) = omega (arith, deep-le-weight v, values_fall xs)

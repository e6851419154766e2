-- Nodes of three inputs, and three contexts.
use Rattle.std.specs.Prelude.{List, Result, map}
use Rattle.std.specs.List.{zip}
use Rattle.px_value.specs.declared.error.PxError.{PxError}
use Rattle.px_frame.specs.Spread.{NamedCell}
use Rattle.px_context.specs.Context.{Context}
use Rattle.px_lanes.specs.Lane.{untouched_of}
use Rattle.px_lanes.specs.Made.{ArePaired}

-- what a node of three inputs answers, group by group
abbrev pub answers_of_three : (NamedCell → NamedCell → NamedCell → Result NamedCell PxError) → List NamedCell → List NamedCell → List NamedCell → List (Result NamedCell PxError)
answers_of_three node xs ys zs = map (λ p. node p.0 p.1.0 p.1.1) (zip xs (zip ys zs))

-- three contexts, of which each two are paired
pub record AreThreePaired (a b c : Context) : Type 0 where
  pub first_second : ArePaired a b
  pub first_third : ArePaired a c
  pub second_third : ArePaired b c

-- the first of three contexts that is untouched, else the third
abbrev pub untouched_of_three : Context → Context → Context → Context
untouched_of_three a b c = untouched_of a (untouched_of b c)

-- Some contexts, each of which reads all its cells from one.
use Rattle.std.specs.Prelude.{◌≡◌, ℕ, zero, suc, ◌^◌, ◌<◌, Bool, true, false, List, [], ◌∷◌, Some, slice_get}
use Rattle.std.specs.List.{list_all, list_any}
use Rattle.px_frame.specs.Groups.{IsGroups}
use Rattle.px_context.specs.Context.{Context, IsContext}
use Rattle.px_lanes.specs.Lane.{has_lane}

-- each reads from one cell
abbrev pub have_lanes : List Context → Bool
have_lanes cs = list_all has_lane cs

-- one of them is untouched
abbrev pub is_one_untouched : List Context → Bool
is_one_untouched cs = list_any (λ c. c.untouched) cs

-- the one at a place is untouched
abbrev pub is_untouched_at : List Context → ℕ → Bool
is_untouched_at [] i = false
is_untouched_at (c ∷ cs) zero = c.untouched
is_untouched_at (c ∷ cs) (suc i) = is_untouched_at cs i

-- one of them, an untouched one where there is one
pub record IsUntouchedOf (cs : List Context) (c : Context) : Type 0 where
  pub place : ℕ
  pub there : slice_get cs place ≡ Some c
  pub mark : is_one_untouched cs ≡ true → c.untouched ≡ true

-- a context has the rows that its layout wants, and groups of fewer than 2^32 rows
pub record IsSound (c : Context) : Type 0 where
  pub context : IsContext c
  pub groups : IsGroups c.groups.height c.groups.groups
  pub few : c.groups.height < 2 ^ 32

-- The answers of a node have one name, one type and one shape.
use Rattle.std.proofs.Common.{◌≡◌, ℕ, Bool, true, false, List, [], ◌∷◌, Result, Ok, map, refl}
use Rattle.px_column.specs.Prelude.{Kind, Series, Slot, slot_at}
use Rattle.px_value.specs.declared.error.PxError.{PxError}
use Rattle.px_frame.specs.Cell.{Cell, unit, rows, is_unit_cell}
use Rattle.px_frame.specs.Frame.{slots_at}
use Rattle.px_frame.specs.Groups.{Group, Groups}
use Rattle.px_frame.specs.Spread.{NamedCell}
use Rattle.px_context.specs.Context.{Context, cells_in, cells_of, has_units, items_at}
use Rattle.px_context.specs.declared.agg_state.Layout.{Layout}
use Rattle.px_context.specs.declared.agg_state.Layout.TheVariants.{Lists, Scalars, Flat, Rows, Unit as Single}
use Rattle.px_lanes.specs.Alike.{AreLike, IsLike}
use Rattle.px_lanes.specs.Made.{answers_of_two}
use Rattle.px_lanes.proofs.Joining.{named}

-- each of some cells is a unit, or none is
abbrev pub AreShaped : Bool → List Cell → Type 0
AreShaped one [] = Unit {0}
AreShaped one (c ∷ cs) = (is_unit_cell c ≡ one) × AreShaped one cs

module _ {X : Type 0} where
  all_shaped : (f : X → Cell) (one : Bool) (xs : List X) → ((x : X) → is_unit_cell (f x) ≡ one) → AreShaped one (map f xs)
  all_shaped f one [] h = tt
  all_shaped f one (x ∷ xs) h = (h x, all_shaped f one xs h)

shaped_in : (l : Layout) (s : Series) (g : Groups) → AreShaped (has_units l) (cells_in l s g)
shaped_in Lists s g = all_shaped (λ (x : Slot). rows (items_at x)) false s.slots (λ x. refl)
shaped_in Scalars s g = all_shaped unit true s.slots (λ x. refl)
shaped_in Flat s g = all_shaped (λ (p : Group). rows (slots_at s.slots p.rows)) false g.groups (λ x. refl)
shaped_in Rows s g = all_shaped (λ (p : Group). rows s.slots) false g.groups (λ x. refl)
shaped_in Single s g = all_shaped (λ (p : Group). unit (slot_at s.slots 0)) true g.groups (λ x. refl)

-- the cells of a context
pub shaped : (c : Context) → AreShaped (has_units c.layout) (cells_of c)
shaped c = shaped_in c.layout c.values c.groups

module _ (name : List ℕ) (t : Kind) (one : Bool) where
  -- of one input
  pub like_one : (node : NamedCell → Result NamedCell PxError) (n : List ℕ) (k : Kind) (u : Bool) → ((a : Cell) (c : NamedCell) → is_unit_cell a ≡ u → node (named n k a) ≡ Ok c → IsLike name t one c)
      → (xs : List Cell) (cs : List NamedCell) → AreShaped u xs → map node (map (named n k) xs) ≡ map Ok cs → AreLike name t one cs
  like_one node n k u law [] [] p h = tt
  like_one node n k u law [] (c ∷ cs) p h = absurd (cc)
  like_one node n k u law (x ∷ xs) [] p h = absurd (cc)
  like_one node n k u law (x ∷ xs) (c ∷ cs) p h =
      let first : node (named n k x) ≡ Ok c = cc in
      let others : map node (map (named n k) xs) ≡ map Ok cs = cc in
      (law x c p.0 first, like_one node n k u law xs cs p.1 others)

  -- and of two
  pub like_two : (node : NamedCell → NamedCell → Result NamedCell PxError) (n m : List ℕ) (k j : Kind) (u v : Bool)
      → ((a b : Cell) (c : NamedCell) → is_unit_cell a ≡ u → is_unit_cell b ≡ v → node (named n k a) (named m j b) ≡ Ok c → IsLike name t one c)
      → (xs ys : List Cell) (cs : List NamedCell) → AreShaped u xs → AreShaped v ys → answers_of_two node (map (named n k) xs) (map (named m j) ys) ≡ map Ok cs → AreLike name t one cs
  like_two node n m k j u v law [] ys [] p q h = tt
  like_two node n m k j u v law [] ys (c ∷ cs) p q h = absurd (cc)
  like_two node n m k j u v law (x ∷ xs) [] [] p q h = tt
  like_two node n m k j u v law (x ∷ xs) [] (c ∷ cs) p q h = absurd (cc)
  like_two node n m k j u v law (x ∷ xs) (y ∷ ys) [] p q h = absurd (cc)
  like_two node n m k j u v law (x ∷ xs) (y ∷ ys) (c ∷ cs) p q h =
      let first : node (named n k x) (named m j y) ≡ Ok c = cc in
      let others : answers_of_two node (map (named n k) xs) (map (named m j) ys) ≡ map Ok cs = cc in
      (law x y c p.0 q.0 first, like_two node n m k j u v law xs ys cs p.1 q.1 others)

-- Loops over the groups of three contexts.
use Rattle.std.proofs.Common.{◌≡◌, ℕ, zero, suc, ◌+◌, ◌≤◌, add-one, List, [], ◌∷◌, ◌++◌, Result, Ok, Err, Some, IfOk, drop, length, map, option_map, slice_get, refl, sym, ap, ◌∙◌, arith}
use Rattle.std.proofs.lemmas.List.{length-map}
use Rattle.std.proofs.lemmas.Option.{slice_get-map}
use Rattle.px_column.specs.Prelude.{AnswersBy, Refuses}
use Rattle.px_value.specs.declared.error.PxError.{PxError}
use Rattle.px_frame.specs.CellView.{named_cell}
use Rattle.px_frame.specs.Spread.{NamedCell}
use Rattle.px_frame.specs.declared.cell.Cell.{Cell}
use Rattle.px_context.proofs.Counting.{many_parts}
use Rattle.px_context.specs.Context.{Context, IsContext}
use Rattle.px_context.specs.Part.{Part, parts_in}
use Rattle.px_lanes.specs.Made.{IsFault, named_cells, named_part}
use Rattle.px_lanes.proofs.Stepping.{answer_more, answer_refused, answers_all, named_parts}
use Rattle.px_group_nodes.specs.Three.{answers_of_three}

module _ {X : Type 0} where
  -- what stands at a place is the first of what is left from there on
  ahead : (xs : List X) (i : ℕ) (x : X) → slice_get xs i ≡ Some x → drop i xs ≡ x ∷ drop (suc i) xs
  ahead [] zero x h = absurd (cc)
  ahead [] (suc i) x h = absurd (cc)
  ahead (y ∷ ys) zero x h = let same : y ≡ x = cc in ap (λ z. z ∷ ys) same
  ahead (y ∷ ys) (suc i) x h = ahead ys i x h

  past : (xs : List X) (i : ℕ) → length xs ≤ i → drop i xs ≡ []
  past [] zero h = refl
  past [] (suc i) h = refl
  past (y ∷ ys) zero h = absurd (omega (arith, h))
  past (y ∷ ys) (suc i) h = past ys i (omega (arith, h))

-- a context has as many cells as groups
pub named_count : (c : Context) → IsContext c → length (named_cells c) ≡ length c.groups.groups
named_count c ok =
    ap length (sym (named_parts c)) ∙ length-map (parts_in c.layout c.values c.groups) (named_part c.values.name) ∙ many_parts c ok

-- a copy of a part that is lent is the cell of its group
pub cell_at_place : (r : Result Cell PxError) (n : List ℕ) (c : Context) (p : Part) (i : ℕ) → n ≡ c.values.name → AnswersBy named_cell r (Ok (named_part n p)) → slice_get (parts_in c.layout c.values c.groups) i ≡ Some p
    → IfOk r (λ x. slice_get (named_cells c) i ≡ Some (named_cell x))
cell_at_place (Ok x) n c p i e h k =
    let same : named_part c.values.name p ≡ named_cell x = ap (λ m. named_part m p) (sym e) ∙ cc h in
    (λ j. slice_get (sym (named_parts c) j) i) ∙ slice_get-map (named_part c.values.name) (parts_in c.layout c.values c.groups) i ∙ ap (option_map (named_part c.values.name)) k ∙ ap Some same
cell_at_place (Err f) n c p i e h k = tt

module _ (node : NamedCell → NamedCell → NamedCell → Result NamedCell PxError) (done : List NamedCell) (i : ℕ) (xs ys zs : List NamedCell) (whole : List (Result NamedCell PxError))
    (h : map Ok done ++ answers_of_three node (drop i xs) (drop i ys) (drop i zs) ≡ whole) where
  -- the answers are made
  pub three_made : length xs ≤ i → whole ≡ map Ok done
  three_made e = answers_all done (answers_of_three node (drop i xs) (drop i ys) (drop i zs)) whole (ap (λ us. answers_of_three node us (drop i ys) (drop i zs)) (past xs i e)) h

  module _ (x y z : NamedCell) (e : slice_get xs i ≡ Some x) (f : slice_get ys i ≡ Some y) (g : slice_get zs i ≡ Some z) where
    three_ahead : map Ok done ++ (node x y z ∷ answers_of_three node (drop (suc i) xs) (drop (suc i) ys) (drop (suc i) zs)) ≡ whole
    three_ahead = (λ j. map Ok done ++ answers_of_three node (sym (ahead xs i x e) j) (sym (ahead ys i y f) j) (sym (ahead zs i z g) j)) ∙ h

    -- one more
    pub three_more : (c : NamedCell) → node x y z ≡ Ok c → map Ok (done ++ c ∷ []) ++ answers_of_three node (drop (i + 1) xs) (drop (i + 1) ys) (drop (i + 1) zs) ≡ whole
    three_more c made = rw (add-one i) (answer_more done (node x y z) c (answers_of_three node (drop (suc i) xs) (drop (suc i) ys) (drop (suc i) zs)) whole made three_ahead)

    -- or a refusal
    pub three_refused : (r : PxError) → Refuses r (node x y z) → IsFault r whole
    three_refused r refused = answer_refused r done (node x y z) (answers_of_three node (drop (suc i) xs) (drop (suc i) ys) (drop (suc i) zs)) whole refused three_ahead

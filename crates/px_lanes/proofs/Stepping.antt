-- Loops over the groups of contexts.
use Rattle.std.proofs.Common.{◌≡◌, ◌⊎◌, inl, inr, ℕ, List, [], ◌∷◌, ◌++◌, Result, Ok, Err, IfOk, IfErr, length, map, subst, refl, sym, ap, ◌∙◌, append_assoc, append-nil}
use Rattle.std.proofs.lemmas.List.{map-append}
use Rattle.px_value.proofs.Refusing.{refuses_or}
use Rattle.px_column.specs.Prelude.{Answers, Refuses}
use Rattle.px_value.specs.declared.error.PxError.{PxError}
use Rattle.px_value.specs.declared.error.PxError.TheVariants.{OutOfMemory}
use Rattle.px_frame.specs.Cell.{Cell, unit, rows, cell_of, list_of}
use Rattle.px_frame.specs.Spread.{NamedCell}
use Rattle.px_context.specs.Context.{Context, cell_kind, cells_of}
use Rattle.px_context.specs.IterView.{left_of}
use Rattle.px_context.specs.Part.{Part, is_unit_cell, part, parts_in}
use Rattle.px_context.specs.declared.group_iter.GroupIter.{GroupIter}
use Rattle.px_lanes.specs.Made.{HasFault, IsFault, answers_of_two, named_cells, named_part}

-- a cell that is made of its values again
pub cell_again : (c : Cell) → cell_of (is_unit_cell c) (list_of c) ≡ c
cell_again (unit s) = refl
cell_again (rows xs) = refl

-- the cells that are lent are the context's
pub named_parts : (c : Context) → map (named_part c.values.name) (parts_in c.layout c.values c.groups) ≡ named_cells c
named_parts c = by (cells_of c)
  where
    by : (xs : List Cell) → map (named_part c.values.name) (map (part (cell_kind c)) xs) ≡ map (λ (x : Cell). record { name = c.values.name; kind = cell_kind c; cell = x }) xs
    by [] = refl
    by (x ∷ xs) = ap (λ ys. record { name = c.values.name; kind = cell_kind c; cell = x } ∷ ys) (by xs)

-- one answer more
pub answer_more : (done : List NamedCell) (r : Result NamedCell PxError) (c : NamedCell) (rest whole : List (Result NamedCell PxError)) → r ≡ Ok c → map Ok done ++ (r ∷ rest) ≡ whole → map Ok (done ++ c ∷ []) ++ rest ≡ whole
answer_more done r c rest whole n h =
    let d : map Ok done ++ (Ok c ∷ rest) ≡ whole = rw n at h in
    rw (map-append {B = Result NamedCell PxError} Ok done (c ∷ []), append_assoc) d

fault_there : (e : PxError) (done : List NamedCell) (rest : List (Result NamedCell PxError)) → HasFault e (map Ok done ++ (Err e ∷ rest))
fault_there e [] rest = inl refl
fault_there e (c ∷ done) rest = inr (fault_there e done rest)

-- a refusal among the answers
pub answer_refused : (e : PxError) (done : List NamedCell) (r : Result NamedCell PxError) (rest whole : List (Result NamedCell PxError)) → Refuses e r → map Ok done ++ (r ∷ rest) ≡ whole → IsFault e whole
answer_refused e done r rest whole n h = by (refuses_or e r n)
  where
    by : (e ≡ OutOfMemory) ⊎ (r ≡ Err e) → IsFault e whole
    by (inl m) = inl m
    by (inr f) = let d : map Ok done ++ (Err e ∷ rest) ≡ whole = rw f at h in inr (rw (← d) (fault_there e done rest))

-- all answers
pub answers_all : (done : List NamedCell) (rest whole : List (Result NamedCell PxError)) → rest ≡ [] → map Ok done ++ rest ≡ whole → whole ≡ map Ok done
answers_all done rest whole e h = let d : map Ok done ++ [] ≡ whole = rw e at h in sym d ∙ append-nil (map Ok done)

-- one of two iterators has nothing left
pub stopped : (a b : GroupIter) → ((u : GroupIter) × ((left_of a ≡ []) × (left_of u ≡ []))) ⊎ ((u : GroupIter) × ((left_of b ≡ []) × (left_of u ≡ []))) → (left_of a ≡ []) ⊎ (left_of b ≡ [])
stopped a b (inl (u, (h, e))) = inl h
stopped a b (inr (u, (h, e))) = inr h

ended_two : (node : NamedCell → NamedCell → Result NamedCell PxError) (f g : Part → NamedCell) (ps qs : List Part) → (ps ≡ []) ⊎ (qs ≡ []) → answers_of_two node (map f ps) (map g qs) ≡ []
ended_two node f g ps qs (inl e) = ap (λ xs. answers_of_two node (map f xs) (map g qs)) e
ended_two node f g [] qs (inr e) = refl
ended_two node f g (p ∷ ps) qs (inr e) = ap (λ ys. answers_of_two node (map f (p ∷ ps)) (map g ys)) e

-- and nothing is left of two where nothing is left of one, as they are equally long
pub nothing_left : (ps qs : List Part) → length ps ≡ length qs → (ps ≡ []) ⊎ (qs ≡ []) → length ps ≡ 0
nothing_left ps qs h (inl e) = ap length e
nothing_left ps qs h (inr e) = h ∙ ap length e

module _ (node : NamedCell → NamedCell → Result NamedCell PxError) (n m : List ℕ) (done : List NamedCell) (ps qs : List Part) (whole : List (Result NamedCell PxError))
    (h : map Ok done ++ answers_of_two node (map (named_part n) ps) (map (named_part m) qs) ≡ whole) where
  -- the answers are made
  pub two_made : (ps ≡ []) ⊎ (qs ≡ []) → whole ≡ map Ok done
  two_made e = answers_all done (answers_of_two node (map (named_part n) ps) (map (named_part m) qs)) whole (ended_two node (named_part n) (named_part m) ps qs e) h

  module _ (ps' qs' : List Part) (x y : Part) (e : ps ≡ x ∷ ps') (f : qs ≡ y ∷ qs') where
    two_ahead : map Ok done ++ (node (named_part n x) (named_part m y) ∷ answers_of_two node (map (named_part n) ps') (map (named_part m) qs')) ≡ whole
    two_ahead = (λ i. map Ok done ++ answers_of_two node (map (named_part n) (sym e i)) (map (named_part m) (sym f i))) ∙ h

    -- one more
    pub two_more : (c : NamedCell) → node (named_part n x) (named_part m y) ≡ Ok c → map Ok (done ++ c ∷ []) ++ answers_of_two node (map (named_part n) ps') (map (named_part m) qs') ≡ whole
    two_more c made = answer_more done (node (named_part n x) (named_part m y)) c (answers_of_two node (map (named_part n) ps') (map (named_part m) qs')) whole made two_ahead

    -- or a refusal
    pub two_refused : (r : PxError) → Refuses r (node (named_part n x) (named_part m y)) → IsFault r whole
    two_refused r refused = answer_refused r done (node (named_part n x) (named_part m y)) (answers_of_two node (map (named_part n) ps') (map (named_part m) qs')) whole refused two_ahead

-- what is there is refused for want of memory alone
pub refuses_ok : {X : Type 0} (e : PxError) (x : X) → Refuses e (Ok x) → e ≡ OutOfMemory
refuses_ok e x h = by (refuses_or e (Ok x) h)
  where
    by : (e ≡ OutOfMemory) ⊎ (Ok x ≡ Err e) → e ≡ OutOfMemory
    by (inl m) = m
    by (inr f) = absurd (cc)

abbrev result_ok : {X : Type 0} → X → Result X PxError
result_ok x = Ok x

module _ {X : Type 0} where
  ok_same : (x y : X) → result_ok x ≡ result_ok y → x ≡ y
  ok_same x y h = cc

  -- what holds of what is expected holds of an answer
  pub if_answered : (r : Result X PxError) (x : X) (p : X → Type 0) → Answers r (Ok x) → p x → IfOk r p
  if_answered (Ok y) x p h k = subst p (ok_same x y h) k
  if_answered (Err e) x p h k = tt

  -- and of want of memory of a refusal
  pub if_refused : (r : Result X PxError) (x : X) (p : PxError → Type 0) → Answers r (Ok x) → p OutOfMemory → IfErr r p
  if_refused (Ok y) x p h k = tt
  if_refused (Err e) x p h k = subst p (sym (refuses_ok e x h)) k

-- What a node answers group by group, from the cells of its inputs.
use Rattle.std.proofs.Common.{◌≡◌, ◌⊎◌, inl, inr, ℕ, ◌+◌, ◌^◌, ◌≤◌, true, List, [], ◌∷◌, Some, Result, Ok, Err, map, refl, subst, sum, arith}
use Rattle.std.specs.List.{flat_map}
use Rattle.std.proofs.lemmas.List.Sums.{sum_by-cons}
use Rattle.px_column.specs.Prelude.{Kind}
use Rattle.px_value.specs.declared.error.ComputeWhy.TheVariants.{TooLong}
use Rattle.px_value.specs.declared.error.PxError.{PxError}
use Rattle.px_value.specs.declared.error.PxError.TheVariants.{ComputeError}
use Rattle.px_frame.specs.Cell.{Cell, count_of}
use Rattle.px_frame.specs.External.{Frame}
use Rattle.px_frame.specs.Spread.{NamedCell}
use Rattle.px_tree.specs.Size.{count_on, counts_on}
use Rattle.px_tree.specs.Value.{faults_on}
use Rattle.px_context.specs.Context.{Context}
use Rattle.px_lanes.specs.Made.{HasFault, answers_of_two, count_in, counts_in, named_in}
use Rattle.px_lanes.specs.One.{answers_of_one}
use Rattle.px_group_nodes.specs.Three.{answers_of_three}
use Rattle.px_answers.proofs.Inputs.{IsAnswer, one_left, one_right}
use Rattle.px_answers.proofs.Plain.{is_plain}
use Rattle.px_answers.specs.Planned.{Planned}
use Rattle.px_answers.specs.Value.{IsCellOf, IsOneOf}
use Rattle.px_group_answers.specs.OnGroups.{AreCellsOn}

-- a sum of one number more
pub sum_more : {X : Type 0} (f : X → ℕ) (x : X) (xs : List X) → sum (map f (x ∷ xs)) ≡ f x + sum (map f xs)
sum_more f x xs = sum_by-cons (λ n. n) (f x) (map f xs)

-- each answer is the node's on its frame
abbrev pub AreAnswers : Planned → Result Kind PxError → List Frame → List (Result NamedCell PxError) → Type 0
AreAnswers q typed [] [] = Unit {0}
AreAnswers q typed (f ∷ fs) (r ∷ rs) = IsAnswer q f typed r × AreAnswers q typed fs rs
AreAnswers q typed _ _ = ⊥

-- cells that are the answers are the values
pub cells_made : (q : Planned) (typed : Result Kind PxError) (fs : List Frame) (rs : List (Result NamedCell PxError)) (cs : List NamedCell) → AreAnswers q typed fs rs → rs ≡ map Ok cs → AreCellsOn q fs cs
cells_made q typed [] [] [] h e = tt
cells_made q typed [] [] (c ∷ cs) h e = absurd (cc e)
cells_made q typed [] (r ∷ rs) cs h e = absurd h
cells_made q typed (f ∷ fs) [] cs h e = absurd h
cells_made q typed (f ∷ fs) (r ∷ rs) [] h e = absurd (cc e)
cells_made q typed (f ∷ fs) (r ∷ rs) (c ∷ cs) h e =
    let first : r ≡ Ok c = cc in
    let rest : rs ≡ map Ok cs = cc in
    (subst (IsAnswer q f typed) first h.0, cells_made q typed fs rs cs h.1 rest)

-- an answer has no more values than the expression
count_told : (q : Planned) (typed : Result Kind PxError) (f : Frame) (r : Result NamedCell PxError) → IsAnswer q f typed r → count_in r ≤ count_on q.tree f
count_told q typed f (Ok c) h = let value = h.value in rw value (omega arith)
count_told q typed f (Err e) h = omega arith

-- and so all together
pub counts_told : (q : Planned) (typed : Result Kind PxError) (fs : List Frame) (rs : List (Result NamedCell PxError)) → AreAnswers q typed fs rs → counts_in rs ≤ counts_on q.tree fs
counts_told q typed [] [] h = omega arith
counts_told q typed [] (r ∷ rs) h = absurd h
counts_told q typed (f ∷ fs) [] h = absurd h
counts_told q typed (f ∷ fs) (r ∷ rs) h =
    let here = count_told q typed f r h.0 in
    let rest = counts_told q typed fs rs h.1 in
    let left : counts_in (r ∷ rs) ≡ count_in r + counts_in rs = sum_more count_in r rs in
    let right : counts_on q.tree (f ∷ fs) ≡ count_on q.tree f + counts_on q.tree fs = sum_more (count_on q.tree) f fs in
    omega (arith, here, rest, left, right)

-- why there is no answer for some group
abbrev pub IsTold : PxError → Planned → Result Kind PxError → List Frame → Type 0
IsTold e q typed fs =
    (typed ≡ Err e) ⊎ (((is_plain e ≡ true) × IsOneOf e (flat_map (faults_on q.tree) fs)) ⊎ ((e ≡ ComputeError TooLong) × (2 ^ 32 ≤ counts_on q.tree fs)))

-- a refusal among the answers is that of the type, a fault on some group's frame, or there are too many values
pub fault_told : (e : PxError) (q : Planned) (typed : Result Kind PxError) (fs : List Frame) (rs : List (Result NamedCell PxError)) → AreAnswers q typed fs rs → HasFault e rs → IsTold e q typed fs
fault_told e q typed [] [] h m = absurd m
fault_told e q typed [] (r ∷ rs) h m = absurd h
fault_told e q typed (f ∷ fs) [] h m = absurd h
fault_told e q typed (f ∷ fs) (r ∷ rs) h m = by m (fault_told e q typed fs rs h.1)
  where
    here : IsAnswer q f typed (Err e) → IsTold e q typed (f ∷ fs)
    here (inl t) = inl t
    here (inr (inl k)) = inr (inl (k.0, one_left e (faults_on q.tree f) (flat_map (faults_on q.tree) fs) k.1))
    here (inr (inr k)) = let all : counts_on q.tree (f ∷ fs) ≡ count_on q.tree f + counts_on q.tree fs = sum_more (count_on q.tree) f fs in inr (inr (k.0, omega (arith, k.1, all)))

    later : IsTold e q typed fs → IsTold e q typed (f ∷ fs)
    later (inl t) = inl t
    later (inr (inl k)) = inr (inl (k.0, one_right e (faults_on q.tree f) (flat_map (faults_on q.tree) fs) k.1))
    later (inr (inr k)) = let all : counts_on q.tree (f ∷ fs) ≡ count_on q.tree f + counts_on q.tree fs = sum_more (count_on q.tree) f fs in inr (inr (k.0, omega (arith, k.1, all)))

    by : HasFault e (r ∷ rs) → (HasFault e rs → IsTold e q typed fs) → IsTold e q typed (f ∷ fs)
    by (inl s) rest = here (subst (IsAnswer q f typed) s h.0)
    by (inr n) rest = later (rest n)

module _ (q p : Planned) (a : Context) (typed : Result Kind PxError) (node : NamedCell → Result NamedCell PxError)
    (step : (f : Frame) (x : Cell) → IsCellOf p f (named_in a x) → IsAnswer q f typed (node (named_in a x))) where
  -- the answers of a node of one input
  pub one_answers : (fs : List Frame) (xs : List Cell) → AreCellsOn p fs (map (named_in a) xs) → AreAnswers q typed fs (answers_of_one node (map (named_in a) xs))
  one_answers [] [] h = tt
  one_answers [] (x ∷ xs) h = absurd h
  one_answers (f ∷ fs) [] h = absurd h
  one_answers (f ∷ fs) (x ∷ xs) h = (step f x h.0, one_answers fs xs h.1)

module _ (q l r : Planned) (a b : Context) (typed : Result Kind PxError) (node : NamedCell → NamedCell → Result NamedCell PxError)
    (step : (f : Frame) (x y : Cell) → IsCellOf l f (named_in a x) → IsCellOf r f (named_in b y) → IsAnswer q f typed (node (named_in a x) (named_in b y))) where
  -- the answers of a node of two inputs
  pub two_answers : (fs : List Frame) (xs ys : List Cell) → AreCellsOn l fs (map (named_in a) xs) → AreCellsOn r fs (map (named_in b) ys) → AreAnswers q typed fs (answers_of_two node (map (named_in a) xs) (map (named_in b) ys))
  two_answers [] [] [] h k = tt
  two_answers [] (x ∷ xs) ys h k = absurd h
  two_answers [] [] (y ∷ ys) h k = absurd k
  two_answers (f ∷ fs) [] ys h k = absurd h
  two_answers (f ∷ fs) (x ∷ xs) [] h k = absurd k
  two_answers (f ∷ fs) (x ∷ xs) (y ∷ ys) h k = (step f x y h.0 k.0, two_answers fs xs ys h.1 k.1)

module _ (q l m r : Planned) (a b c : Context) (typed : Result Kind PxError) (node : NamedCell → NamedCell → NamedCell → Result NamedCell PxError)
    (step : (f : Frame) (x y z : Cell) → IsCellOf l f (named_in a x) → IsCellOf m f (named_in b y) → IsCellOf r f (named_in c z) → IsAnswer q f typed (node (named_in a x) (named_in b y) (named_in c z))) where
  -- the answers of a node of three inputs
  pub three_answers : (fs : List Frame) (xs ys zs : List Cell) → AreCellsOn l fs (map (named_in a) xs) → AreCellsOn m fs (map (named_in b) ys) → AreCellsOn r fs (map (named_in c) zs)
      → AreAnswers q typed fs (answers_of_three node (map (named_in a) xs) (map (named_in b) ys) (map (named_in c) zs))
  three_answers [] [] [] [] g h k = tt
  three_answers [] (x ∷ xs) ys zs g h k = absurd g
  three_answers [] [] (y ∷ ys) zs g h k = absurd h
  three_answers [] [] [] (z ∷ zs) g h k = absurd k
  three_answers (f ∷ fs) [] ys zs g h k = absurd g
  three_answers (f ∷ fs) (x ∷ xs) [] zs g h k = absurd h
  three_answers (f ∷ fs) (x ∷ xs) (y ∷ ys) [] g h k = absurd k
  three_answers (f ∷ fs) (x ∷ xs) (y ∷ ys) (z ∷ zs) g h k = (step f x y z g.0 h.0 k.0, three_answers fs xs ys zs g.1 h.1 k.1)

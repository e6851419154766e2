-- Loops over the groups of some contexts.
use Rattle.std.proofs.Common.{◌≡◌, ℕ, zero, suc, ◌+◌, ◌<◌, ◌≤◌, List, [], ◌∷◌, ◌++◌, Some, Result, Ok, Err, IfOk, length, replicate, drop, take, get_or, map, slice_get, refl, sym, ap, ◌∙◌, arith, add-one}
use Rattle.std.specs.List.{zip}
use Rattle.std.specs.Option.{option_map}
use Rattle.std.proofs.lemmas.Option.{slice_get-map}
use Rattle.px_column.specs.Prelude.{AnswersBy, Refuses}
use Rattle.px_value.specs.declared.error.PxError.{PxError}
use Rattle.px_frame.specs.CellView.{named_cell}
use Rattle.px_frame.specs.Spread.{NamedCell}
use Rattle.px_frame.specs.declared.cell.Cell.{Cell as ProgramCell}
use Rattle.px_context.specs.Context.{Context}
use Rattle.px_context.specs.Part.{Part, parts_in}
use Rattle.px_context.proofs.Reading.{drop_get}
use Rattle.px_lanes.specs.Made.{IsFault, named_cells, named_part}
use Rattle.px_lanes.proofs.Stepping.{answer_more, answer_refused, answers_all, named_parts}
use Rattle.px_group_nodes.specs.Function.{first_count}
use Rattle.px_group_nodes.specs.Many.{AreAllPaired, AreAt, IsPairedWith, across}

-- the cell that is lent at a group is the context's
pub part_at : (c : Context) (i : ℕ) (p : Part) → slice_get (parts_in c.layout c.values c.groups) i ≡ Some p → slice_get (named_cells c) i ≡ Some (named_part c.values.name p)
part_at c i p h =
    ap (λ xs. slice_get xs i) (sym (named_parts c))
    ∙ slice_get-map (named_part c.values.name) (parts_in c.layout c.values c.groups) i
    ∙ ap (option_map (named_part c.values.name)) h

-- the cells at a group of one context more
pub at_more : (i : ℕ) (xss : List (List NamedCell)) (xs cs : List NamedCell) (c : NamedCell) → AreAt i xss cs → slice_get xs i ≡ Some c → AreAt i (xss ++ xs ∷ []) (cs ++ c ∷ [])
at_more i [] xs [] c h k = (k, tt)
at_more i [] xs (d ∷ cs) c h k = absurd h
at_more i (ys ∷ xss) xs [] c h k = absurd h
at_more i (ys ∷ xss) xs (d ∷ cs) c h k = (h.0, at_more i xss xs cs c h.1 k)

same_at : (n i : ℕ) → i < n → slice_get {X = List NamedCell} (replicate n []) i ≡ Some []
same_at zero i h = absurd (omega (arith, h))
same_at (suc n) zero h = refl
same_at (suc n) (suc i) h = same_at n i (omega (arith, h))

zip_at : (xs : List NamedCell) (ys : List (List NamedCell)) (i : ℕ) (c : NamedCell) (cs : List NamedCell) → slice_get xs i ≡ Some c → slice_get ys i ≡ Some cs
    → slice_get (map (λ (p : NamedCell × List NamedCell). p.0 ∷ p.1) (zip xs ys)) i ≡ Some (c ∷ cs)
zip_at [] ys i c cs h k = absurd (cc)
zip_at (x ∷ xs) [] i c cs h k = absurd (cc)
zip_at (x ∷ xs) (y ∷ ys) zero c cs h k = cc
zip_at (x ∷ xs) (y ∷ ys) (suc i) c cs h k = zip_at xs ys i c cs h k

-- the cells at a group, among those of all groups
pub across_at : (n i : ℕ) (xss : List (List NamedCell)) (cs : List NamedCell) → i < n → AreAt i xss cs → slice_get (across n xss) i ≡ Some cs
across_at n i [] [] l h = same_at n i l
across_at n i [] (c ∷ cs) l h = absurd h
across_at n i (xs ∷ xss) [] l h = absurd h
across_at n i (xs ∷ xss) (c ∷ cs) l h = zip_at xs (across n xss) i c cs h.0 (across_at n i xss cs l h.1)

length_same : (n : ℕ) → length {A = List NamedCell} (replicate n []) ≤ n
length_same zero = omega arith
length_same (suc n) = omega (arith, length_same n)

length_zip : (xs : List NamedCell) (ys : List (List NamedCell)) → length (map (λ (p : NamedCell × List NamedCell). p.0 ∷ p.1) (zip xs ys)) ≤ length ys
length_zip [] ys = omega arith
length_zip (x ∷ xs) [] = omega arith
length_zip (x ∷ xs) (y ∷ ys) = omega (arith, length_zip xs ys)

-- there are no more than groups
pub length_across : (n : ℕ) (xss : List (List NamedCell)) → length (across n xss) ≤ n
length_across n [] = length_same n
length_across n (xs ∷ xss) = omega (arith, length_zip xs (across n xss), length_across n xss)

drop_past : {X : Type 0} (xs : List X) (i : ℕ) → length xs ≤ i → drop i xs ≡ []
drop_past [] zero h = refl
drop_past [] (suc i) h = refl
drop_past (x ∷ xs) zero h = absurd (omega (arith, h))
drop_past (x ∷ xs) (suc i) h = drop_past xs i (omega (arith, h))

module _ (node : List NamedCell → Result NamedCell PxError) (done : List NamedCell) (rows : List (List NamedCell)) (i : ℕ) (whole : List (Result NamedCell PxError))
    (h : map Ok done ++ map node (drop i rows) ≡ whole) where
  module _ (row : List NamedCell) (x : slice_get rows i ≡ Some row) where
    many_ahead : map Ok done ++ (node row ∷ map node (drop (i + 1) rows)) ≡ whole
    many_ahead = ap (λ rs. map Ok done ++ map node rs) (sym (drop_get rows i row x)) ∙ h

    -- one answer more
    pub many_more : (c : NamedCell) → node row ≡ Ok c → map Ok (done ++ c ∷ []) ++ map node (drop (i + 1) rows) ≡ whole
    many_more c made = answer_more done (node row) c (map node (drop (i + 1) rows)) whole made many_ahead

    -- or a refusal
    pub many_refused : (e : PxError) → Refuses e (node row) → IsFault e whole
    many_refused e refused = answer_refused e done (node row) (map node (drop (i + 1) rows)) whole refused many_ahead

  -- all answers
  pub many_made : length rows ≤ i → whole ≡ map Ok done
  many_made past = answers_all done (map node (drop i rows)) whole (ap (map node) (drop_past rows i past)) h

take_suc : {A B : Type 0} (f : A → B) (xs : List A) (i : ℕ) (x : A) → i < length xs → x ≡ get_or xs i x → map f (take (suc i) xs) ≡ map f (take i xs) ++ f x ∷ []
take_suc f [] i x l h = absurd (omega (arith, l))
take_suc f (y ∷ xs) zero x l h = ap (λ z. f z ∷ []) (sym h)
take_suc f (y ∷ xs) (suc i) x l h = ap (λ ts. f y ∷ ts) (take_suc f xs i x (omega (arith, l)) h)

-- one element more of those that were taken
pub taken : {A B : Type 0} (f : A → B) (xs : List A) (i : ℕ) (x : A) → i < length xs → x ≡ get_or xs i x → map f (take (i + 1) xs) ≡ map f (take i xs) ++ f x ∷ []
taken f xs i x l h = rw add-one (take_suc f xs i x l h)

module _ (c : Context) (i : ℕ) (p : Part) (name : List ℕ) (there : slice_get (parts_in c.layout c.values c.groups) i ≡ Some p) (same : name ≡ c.values.name) where
  -- a copy of that cell
  pub cell_read : (r : Result ProgramCell PxError) → AnswersBy named_cell r (Ok (named_part name p)) → IfOk r (λ x. slice_get (named_cells c) i ≡ Some (named_cell x))
  cell_read (Err e) h = tt
  cell_read (Ok x) h =
      let copied : named_part name p ≡ named_cell x = cc in
      part_at c i p there ∙ ap Some (ap (λ n. named_part n p) (sym same) ∙ copied)

paired_count : (c : Context) (cs : List Context) → IsPairedWith c cs → (k : ℕ) (d : Context) → k < length cs → length (get_or cs k d).groups.groups ≡ length c.groups.groups
paired_count c [] p k d lt = absurd (omega (arith, lt))
paired_count c (x ∷ cs) p zero d lt = sym p.0.count
paired_count c (x ∷ cs) p (suc k) d lt = paired_count c cs p.1 k d (omega (arith, lt))

-- contexts that are paired have as many groups
pub all_counts : (cs : List Context) (n : ℕ) → AreAllPaired cs → first_count cs ≡ n → (k : ℕ) (d : Context) → k < length cs → length (get_or cs k d).groups.groups ≡ n
all_counts [] n p e k d lt = absurd (omega (arith, lt))
all_counts (c ∷ cs) n p e zero d lt = e
all_counts (c ∷ cs) n p e (suc k) d lt = paired_count c cs p.0 k d (omega (arith, lt)) ∙ e

-- A function of rows on contexts that read their cells from one cell each.
use Rattle.std.proofs.Common.{◌≡◌, ◌⊎◌, inl, inr, ℕ, zero, suc, ◌+◌, ◌<◌, Bool, true, false, ◌&&◌, ◌||◌, List, [], ◌∷◌, Some, Result, Ok, Err, get_or, length, map, refl, slice_get, subst, sym, ap, ◌∙◌, arith}
use Rattle.std.specs.List.{list_all, zip}
use borrow.Author.Count.{below_more}
use Rattle.px_column.specs.Prelude.{Refuses}
use Rattle.px_value.proofs.FitLaws.{both}
use Rattle.px_value.specs.declared.error.PxError.{PxError}
use Rattle.px_value.specs.declared.error.PxError.TheVariants.{OutOfMemory}
use Rattle.px_frame.specs.Cell.{is_unit_cell}
use Rattle.px_frame.specs.Groups.{Group, Groups, is_group}
use Rattle.px_frame.specs.Spread.{NamedCell}
use Rattle.px_tree.specs.Partition.{is_row_function}
use Rattle.px_tree.specs.Shape.{is_unit_call}
use Rattle.px_tree.specs.Typing.{function_kind}
use Rattle.px_tree.specs.declared.function.FunctionExpr.{FunctionExpr}
use Rattle.px_nodes.specs.Named.{cells_in, first_name, function_named, kinds_of}
use Rattle.px_nodes.specs.Together.{stands_at}
use Rattle.px_context.specs.Built.{is_unit_literal}
use Rattle.px_context.specs.Context.{Context, cell_kind, has_units}
use Rattle.px_context.proofs.Reading.{same_each}
use Rattle.px_lanes.specs.Lane.{has_lane, lane_of, with_lane}
use Rattle.px_lanes.specs.Made.{ArePaired, AreUntouched, IsRefusal, KeepsGroups, named_cells}
use Rattle.px_lanes.proofs.Lanes.{ReadsAt, lane_answer, lane_is, lane_kind, lane_units, named_at, reads_at, unit_of, unit_or}
use Rattle.px_group_nodes.specs.Function.{IsApplied, first_context_name, first_count, function_answers, function_type, function_units, has_first_units}
use Rattle.px_group_nodes.specs.Lanes.{IsSound, IsUntouchedOf, have_lanes, is_one_untouched, is_untouched_at}
use Rattle.px_group_nodes.specs.Many.{AreAllPaired, IsPairedWith, across}
use Rattle.px_group_nodes.proofs.Functions.{function_kinds, function_name, function_shape, is_first_unit}
use Rattle.px_group_nodes.proofs.RowFunctions.{all_at, function_at, function_refused, function_stands, function_units_all, stand_at}
use Rattle.px_value.proofs.Refusing.{refuses_or}

-- each of some contexts is sound
abbrev pub AreSound : List Context → Type 0
AreSound [] = Unit {0}
AreSound (c ∷ cs) = IsSound c × AreSound cs

-- each of them reads at these groups
abbrev pub AreReadAt : Groups → List Context → Type 0
AreReadAt g [] = Unit {0}
AreReadAt g (c ∷ cs) = ReadsAt g c × AreReadAt g cs

abbrev all_ok : List NamedCell → Result (List NamedCell) PxError
all_ok cs = Ok cs

-- the cells from which they read
abbrev pub lanes_of : List Context → List NamedCell
lanes_of cs = map lane_of cs

read_same : (cs : List Context) (i : ℕ) (d x : Context) → i < length cs → get_or cs i x ≡ get_or cs i d
read_same [] i d x h = absurd (omega (arith, h))
read_same (c ∷ cs) zero d x h = refl
read_same (c ∷ cs) (suc i) d x h = read_same cs i d x (omega (arith, h))

-- one more is sound
pub sound_more : (cs : List Context) (i : ℕ) (x : Context) → i < length cs → x ≡ get_or cs i x → IsSound x → ((k : ℕ) → k < i → (d : Context) → IsSound (get_or cs k d))
    → (k : ℕ) → k < i + 1 → (d : Context) → IsSound (get_or cs k d)
sound_more cs i x lt is here below =
    below_more (λ (k : ℕ). (d : Context) → IsSound (get_or cs k d)) i below (λ d. subst IsSound (is ∙ read_same cs i d x lt) here)

-- an untouched one at its place
pub untouched_read : (cs : List Context) (i : ℕ) (x : Context) → i < length cs → x ≡ get_or cs i x → x.untouched ≡ true → is_untouched_at cs i ≡ true
untouched_read [] i x h is u = absurd (omega (arith, h))
untouched_read (c ∷ cs) zero x h is u = ap (λ (d : Context). d.untouched) (sym is) ∙ u
untouched_read (c ∷ cs) (suc i) x h is u = untouched_read cs i x (omega (arith, h)) is u

pub untouched_there : (cs : List Context) (i : ℕ) (b : Context) → slice_get cs i ≡ Some b → is_untouched_at cs i ≡ true → b.untouched ≡ true
untouched_there [] i b e u = absurd (cc)
untouched_there (c ∷ cs) zero b e u = let same : c ≡ b = cc in ap (λ (d : Context). d.untouched) (sym same) ∙ u
untouched_there (c ∷ cs) (suc i) b e u = untouched_there cs i b e u

-- all are sound
sound_all : (cs : List Context) → ((i : ℕ) (d : Context) → i < length cs → IsSound (get_or cs i d)) → AreSound cs
sound_all [] h = tt
sound_all (c ∷ cs) h = (h 0 c (omega arith), sound_all cs (λ i d lt. h (suc i) d (omega (arith, lt))))

-- and so are those that are lent
pub sound_lent : (xs cs : List Context) → xs ≡ cs → ((i : ℕ) (d : Context) → i < length xs → IsSound (get_or xs i d)) → AreSound cs
sound_lent xs cs e h = subst AreSound e (sound_all xs h)

-- their cells are those from which contexts read
pub lanes_lent : (xs cs : List Context) (cells : List NamedCell) → xs ≡ cs → all_ok (lanes_of xs) ≡ Ok cells → cells ≡ lanes_of cs
lanes_lent xs cs cells e h = let read : cells ≡ lanes_of xs = cc in read ∙ ap lanes_of e

sound_at : (cs : List Context) (i : ℕ) (b : Context) → AreSound cs → slice_get cs i ≡ Some b → IsSound b
sound_at [] i b h e = absurd (cc)
sound_at (c ∷ cs) zero b h e = let same : c ≡ b = cc in subst IsSound same h.0
sound_at (c ∷ cs) (suc i) b h e = sound_at cs i b h.1 e

paired_back : (a b : Context) → ArePaired a b → ArePaired b a
paired_back a b p = record { count = sym p.count; groups = λ u v. sym (p.groups v u) }

paired_itself : (a : Context) → ArePaired a a
paired_itself a = record { count = refl; groups = λ u v. refl }

paired_at : (c : Context) (cs : List Context) (i : ℕ) (b : Context) → IsPairedWith c cs → slice_get cs i ≡ Some b → ArePaired c b
paired_at c [] i b h e = absurd (cc)
paired_at c (d ∷ ds) zero b h e = let same : d ≡ b = cc in subst (ArePaired c) same h.0
paired_at c (d ∷ ds) (suc i) b h e = paired_at c ds i b h.1 e

-- one of some contexts that are paired is paired with each
pub paired_with : (cs : List Context) (i : ℕ) (b : Context) → AreAllPaired cs → slice_get cs i ≡ Some b → IsPairedWith b cs
paired_with [] i b h e = tt
paired_with (c ∷ cs) zero b h e = let same : c ≡ b = cc in subst (λ d. IsPairedWith d (c ∷ cs)) same (paired_itself c, h.0)
paired_with (c ∷ cs) (suc i) b h e = (paired_back c b (paired_at c cs i b h.0 e), paired_with cs i b h.1 e)

or_first : (a b : Bool) → a ≡ true → (a || b) ≡ true
or_first true b h = refl
or_first false b h = absurd (cc)

or_later : (a b : Bool) → b ≡ true → (a || b) ≡ true
or_later true b h = refl
or_later false b h = h

all_read : (b : Context) (cs : List Context) → IsPairedWith b cs → AreSound cs → have_lanes cs ≡ true → (is_one_untouched cs ≡ true → b.untouched ≡ true) → AreReadAt b.groups cs
all_read b [] p s h m = tt
all_read b (c ∷ cs) p s h m =
    let lane = both (has_lane c) (have_lanes cs) h in (
      reads_at c b.groups s.0.context lane.0 (sym p.0.count) (λ u. sym (p.0.groups (m (or_first c.untouched (is_one_untouched cs) u)) u)),
      all_read b cs p.1 s.1 lane.1 (λ u. m (or_later c.untouched (is_one_untouched cs) u)),
    )

module _ {X : Type 0} where
  zip_each : (f : X → NamedCell) (h : X → List NamedCell) (gs : List X) → map (λ (p : NamedCell × List NamedCell). p.0 ∷ p.1) (zip (map f gs) (map h gs)) ≡ map (λ g. f g ∷ h g) gs
  zip_each f h [] = refl
  zip_each f h (g ∷ gs) = ap (λ rs. (f g ∷ h g) ∷ rs) (zip_each f h gs)

-- their cells are those from which they read, at the rows of each group
across_read : (g : Groups) (cs : List Context) → AreReadAt g cs → across (length g.groups) (map named_cells cs) ≡ map (λ p. all_at (lanes_of cs) p.rows) g.groups
across_read g [] h = same_each [] g.groups
across_read g (c ∷ cs) h =
    (λ i. map (λ (p : NamedCell × List NamedCell). p.0 ∷ p.1) (zip (h.0.cells i) (across_read g cs h.1 i)))
    ∙ zip_each (λ (p : Group). named_at (lane_of c) p.rows) (λ (p : Group). all_at (lanes_of cs) p.rows) g.groups

all_stand : (g : Groups) (cs : List Context) → AreReadAt g cs → stand_at g.height (cells_in (lanes_of cs)) ≡ true
all_stand g [] h = refl
all_stand g (c ∷ cs) h = λ i. h.0.stands i && all_stand g cs h.1 i

lane_kinds : (cs : List Context) → AreSound cs → have_lanes cs ≡ true → kinds_of (lanes_of cs) ≡ map cell_kind cs
lane_kinds [] s h = refl
lane_kinds (c ∷ cs) s h = let p = both (has_lane c) (have_lanes cs) h in λ i. sym (lane_kind c s.0.context p.0) i ∷ lane_kinds cs s.1 p.1 i

lane_all_units : (cs : List Context) → AreSound cs → have_lanes cs ≡ true → list_all is_unit_cell (cells_in (lanes_of cs)) ≡ list_all (λ c. has_units c.layout) cs
lane_all_units [] s h = refl
lane_all_units (c ∷ cs) s h = let p = both (has_lane c) (have_lanes cs) h in λ i. sym (lane_units c s.0.context p.0) i && lane_all_units cs s.1 p.1 i

lane_first_unit : (cs : List Context) → AreSound cs → have_lanes cs ≡ true → is_first_unit (cells_in (lanes_of cs)) ≡ has_first_units cs
lane_first_unit [] s h = refl
lane_first_unit (c ∷ cs) s h = let p = both (has_lane c) (have_lanes cs) h in sym (lane_units c s.0.context p.0)

lane_name : (cs : List Context) → first_name (lanes_of cs) ≡ first_context_name cs
lane_name [] = refl
lane_name (c ∷ cs) = refl

count_with : (b : Context) (cs : List Context) (i : ℕ) → slice_get cs i ≡ Some b → IsPairedWith b cs → length b.groups.groups ≡ first_count cs
count_with b [] i e p = absurd (cc)
count_with b (c ∷ cs) i e p = p.0.count

all_made : (f : FunctionExpr) (xs : List NamedCell) (m : NamedCell) (n : ℕ) (gs : List Group) → list_all (is_group n) gs ≡ true
    → ((g : List ℕ) → is_group n (record { first = 0; rows = g }) ≡ true → function_named f (all_at xs g) ≡ Ok (named_at m g))
    → map (function_named f) (map (λ p. all_at xs p.rows) gs) ≡ map Ok (map (λ p. named_at m p.rows) gs)
all_made f xs m n [] h k = refl
all_made f xs m n (g ∷ gs) h k =
    let p = both (is_group n g) (list_all (is_group n) gs) h in
    λ i. k g.rows p.0 i ∷ all_made f xs m n gs p.1 k i

-- not all of them are units where the answer is none, and so one is untouched
one_untouched : (cs : List Context) → have_lanes cs ≡ true → list_all is_unit_cell (cells_in (lanes_of cs)) ≡ false → is_one_untouched cs ≡ true
one_untouched [] h k = absurd (cc)
one_untouched (c ∷ cs) h k = by c.untouched refl (λ e. one_untouched cs lane.1 (others e))
  where
    lane : (has_lane c ≡ true) × (have_lanes cs ≡ true)
    lane = both (has_lane c) (have_lanes cs) h

    others : c.untouched ≡ false → list_all is_unit_cell (cells_in (lanes_of cs)) ≡ false
    others e =
        let single : is_unit_literal c.layout ≡ true = unit_or (is_unit_literal c.layout) c.untouched lane.0 e in
        sym (ap (λ u. u && list_all is_unit_cell (cells_in (lanes_of cs))) (unit_of (is_unit_literal c.layout) c.values single)) ∙ k

    by : (u : Bool) → c.untouched ≡ u → (c.untouched ≡ false → is_one_untouched cs ≡ true) → is_one_untouched (c ∷ cs) ≡ true
    by true e later = or_first c.untouched (is_one_untouched cs) e
    by false e later = or_later c.untouched (is_one_untouched cs) (later e)

among : (cs : List Context) (i : ℕ) (b : Context) → slice_get cs i ≡ Some b → b.untouched ≡ true → AreUntouched b.groups cs
among [] i b e u = absurd (cc)
among (c ∷ cs) zero b e u = let same : c ≡ b = cc in inl (ap (λ (d : Context). d.untouched) same ∙ u, ap (λ (d : Context). d.groups) (sym same))
among (c ∷ cs) (suc i) b e u = inr (among cs i b e u)

module _ (f : FunctionExpr) (r : is_row_function f ≡ true) (cs : List Context) (paired : AreAllPaired cs) (sound : AreSound cs) (lanes : have_lanes cs ≡ true) (b : Context) (is : IsUntouchedOf cs b) where
  many_paired : IsPairedWith b cs
  many_paired = paired_with cs is.place b paired is.there

  many_read : AreReadAt b.groups cs
  many_read = all_read b cs many_paired sound lanes is.mark

  many_stand : stand_at b.groups.height (cells_in (lanes_of cs)) ≡ true
  many_stand = all_stand b.groups cs many_read

  module _ (m : NamedCell) (made : function_named f (lanes_of cs) ≡ Ok m) where
    -- the answer's rows are those of the groups
    pub stands_many : stands_at b.groups.height m.cell ≡ true
    stands_many = function_stands f r b.groups.height (lanes_of cs) many_stand m made

    -- a function of rows, on the cells from which contexts read, is the function on the cells of each group
    pub lanes_made : IsApplied f cs (with_lane b m)
    lanes_made =
        let groups = (sound_at cs is.place b sound is.there).groups in
        let count = count_with b cs is.place is.there many_paired in
        let each = all_made f (lanes_of cs) m b.groups.height b.groups.groups groups.each (function_at f r b.groups.height (lanes_of cs) many_stand m made) in
        lane_answer b m (function_answers f cs) (first_context_name cs) (function_type f cs) (function_units f cs) (first_count cs)
        ((λ i. map (function_named f) (across (sym count i) (map named_cells cs))) ∙ ap (map (function_named f)) (across_read b.groups cs many_read) ∙ each)
        (function_name f (lanes_of cs) m made ∙ lane_name cs)
        (ap (function_kind f) (sym (lane_kinds cs sound lanes)) ∙ function_kinds f (lanes_of cs) m made)
        (function_shape f (lanes_of cs) m made ∙ (λ i. is_unit_call f (lane_first_unit cs sound lanes i) (lane_all_units cs sound lanes i)))
        count

    -- it has a lane itself
    pub lanes_lane : has_lane (with_lane b m) ≡ true
    lanes_lane = (lane_is b m).lane (λ h. is.mark (one_untouched cs lanes (sym (function_units_all f r b.groups.height (lanes_of cs) many_stand m made) ∙ h)))

    -- the groups of an untouched answer are those of an untouched one of them
    pub lanes_kept : KeepsGroups cs (with_lane b m)
    lanes_kept h =
        let lane = lane_is b m in
        subst (λ g. AreUntouched g cs) (sym lane.groups) (among cs is.place b is.there (lane.mark h))

  -- it is refused for the types of the cells alone
  pub lanes_refused : (e : PxError) (n : ℕ) → Refuses e (function_named f (lanes_of cs)) → (function_type f cs ≡ Err e) ⊎ IsRefusal e (function_answers f cs) n
  lanes_refused e n h = by (refuses_or e (function_named f (lanes_of cs)) h)
    where
      by : (e ≡ OutOfMemory) ⊎ (function_named f (lanes_of cs) ≡ Err e) → (function_type f cs ≡ Err e) ⊎ IsRefusal e (function_answers f cs) n
      by (inl w) = inr (inl (inl w))
      by (inr g) =
          let few = (sound_at cs is.place b sound is.there).few in
          inl (ap (function_kind f) (sym (lane_kinds cs sound lanes)) ∙ function_refused f (lanes_of cs) b.groups.height e r many_stand few g)

-- Partials of two reductions, merged, are the reduction of all rows.
use Rattle.std.proofs.Common.{◌≡◌, true, ◌||◌, List, [], ◌∷◌, ◌++◌, Some, map, refl, sym, ◌∙◌, ap}
use Rattle.std.specs.List.{list_any}
use Rattle.std.proofs.lemmas.Grind.{flat_map-append}
use Rattle.std.proofs.lemmas.List.Folds.{list_any-append}
use Rattle.px_column.specs.Prelude.{boolean, Slot, Kind, booleans, int8s, int16s, int32s, int64s, uint8s, uint16s, uint32s, uint64s, strings, binaries, nulls, lists}
use Rattle.px_column.specs.Sum.{sum_kind, is_sum_kind, summed}
use Rattle.px_laws.proofs.Sums.{sum_merges}
use Rattle.px_cuts.specs.Merge.{is_true, any_slot}
use Rattle.px_cuts.specs.Cut.{joined}

-- some row of all lists is true where one of a list is
some_merges : (xss : List (List Slot)) → list_any is_true (joined xss) ≡ list_any is_true (map any_slot xss)
some_merges [] = refl
some_merges (xs ∷ xss) = list_any-append is_true xs (joined xss) ∙ ap (λ b. list_any is_true xs || b) (some_merges xss)

-- so merged
pub any_merges : (xss : List (List Slot)) → any_slot (joined xss) ≡ any_slot (map any_slot xss)
any_merges xss = ap (λ b. Some (boolean b)) (some_merges xss)

-- the type of sums is one, and sums of them have it too
sum_type : (j k : Kind) → sum_kind j ≡ Some k → (is_sum_kind k ≡ true) × (sum_kind k ≡ Some k)
sum_type booleans k h = let e : uint32s ≡ k = cc in (ap is_sum_kind (sym e), ap sum_kind (sym e) ∙ ap Some e)
sum_type int8s k h = let e : int64s ≡ k = cc in (ap is_sum_kind (sym e), ap sum_kind (sym e) ∙ ap Some e)
sum_type int16s k h = let e : int64s ≡ k = cc in (ap is_sum_kind (sym e), ap sum_kind (sym e) ∙ ap Some e)
sum_type int32s k h = let e : int32s ≡ k = cc in (ap is_sum_kind (sym e), ap sum_kind (sym e) ∙ ap Some e)
sum_type int64s k h = let e : int64s ≡ k = cc in (ap is_sum_kind (sym e), ap sum_kind (sym e) ∙ ap Some e)
sum_type uint8s k h = let e : int64s ≡ k = cc in (ap is_sum_kind (sym e), ap sum_kind (sym e) ∙ ap Some e)
sum_type uint16s k h = let e : int64s ≡ k = cc in (ap is_sum_kind (sym e), ap sum_kind (sym e) ∙ ap Some e)
sum_type uint32s k h = let e : uint32s ≡ k = cc in (ap is_sum_kind (sym e), ap sum_kind (sym e) ∙ ap Some e)
sum_type uint64s k h = let e : uint64s ≡ k = cc in (ap is_sum_kind (sym e), ap sum_kind (sym e) ∙ ap Some e)
sum_type strings k h = cc
sum_type binaries k h = cc
sum_type nulls k h = cc
sum_type (lists j) k h = cc

pub sums_keep_type : (j k : Kind) → sum_kind j ≡ Some k → sum_kind k ≡ Some k
sums_keep_type j k h = (sum_type j k h).1

-- partial sums
pub sums_merge : (j k : Kind) (xss : List (List Slot)) → sum_kind j ≡ Some k → summed k (map (summed k) xss) ≡ summed k (joined xss)
sums_merge j k xss h = sym (sum_merges k xss (sum_type j k h).0)

-- lists of lists, joined within and then one after another
joined_within : {X : Type 0} (xsss : List (List (List X))) → joined (map joined xsss) ≡ joined (joined xsss)
joined_within [] = refl
joined_within (xss ∷ xsss) = ap (λ ys. joined xss ++ ys) (joined_within xsss) ∙ sym (flat_map-append (λ xs. xs) xss (joined xsss))

-- partial sums of partial sums
pub sums_of_sums_merge : (j k : Kind) (xsss : List (List (List Slot))) → sum_kind j ≡ Some k → summed k (map (λ xss. summed k (map (summed k) xss)) xsss) ≡ summed k (joined (joined xsss))
sums_of_sums_merge j k xsss h = ap (summed k) (each xsss) ∙ sums_merge j k (map joined xsss) h ∙ ap (summed k) (joined_within xsss)
  where
    each : (ysss : List (List (List Slot))) → map (λ xss. summed k (map (summed k) xss)) ysss ≡ map (summed k) (map joined ysss)
    each [] = refl
    each (xss ∷ ysss) = λ i. sums_merge j k xss h i ∷ each ysss i

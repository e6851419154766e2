-- Groups that are brought up to date: slices as long as the cells.
use Rattle.std.proofs.Common.{◌≡◌, ℕ, suc, ◌+◌, ◌^◌, Bool, true, false, List, [], ◌∷◌, Ok, Err, cond, length, map, nat_lt, sum, refl, sym, ◌∙◌, ap, subst}
use Rattle.std.proofs.lemmas.List.{length-map}
use Rattle.px_value.proofs.Refusing.{refuses_then}
use Rattle.px_column.specs.Prelude.{Refuses}
use Rattle.px_column.specs.Datum.{Slot}
use Rattle.px_column.specs.Result.{◌>>=◌}
use Rattle.px_value.specs.declared.error.PxError.{PxError}
use Rattle.px_value.specs.declared.error.PxError.TheVariants.{ComputeError}
use Rattle.px_value.specs.declared.error.ComputeWhy.TheVariants.{TooLong}
use Rattle.px_frame.specs.Cell.{rows, count_of}
use Rattle.px_frame.specs.Consecutive.{consecutive, slices_from}
use Rattle.px_frame.specs.Groups.{Groups, Group}
use Rattle.px_context.specs.Context.{Context, IsContext, AreLists, HasShape, MayUpdate, cells_in, cells_of, items_at}
use Rattle.px_context.specs.Changes.{counts_of, groups_for, groups_under, is_pending, regrouped, with_kept}
use Rattle.px_context.specs.Final.{len_at}
use Rattle.px_context.specs.declared.agg_state.Layout.{Layout}
use Rattle.px_context.specs.declared.agg_state.Layout.TheVariants.{Lists, Scalars, Flat, Rows, Unit as Single}
use Rattle.px_context.specs.declared.agg_state.UpdateGroups.{UpdateGroups}
use Rattle.px_context.specs.declared.agg_state.UpdateGroups.TheVariants.{No, WithGroupsLen, WithSeriesLen}

pub list_counts : (xs : List Slot) → map count_of (map (λ x. rows (items_at x)) xs) ≡ map len_at xs
list_counts [] = refl
list_counts (x ∷ xs) = ap (λ ns. len_at x ∷ ns) (list_counts xs)

length-slices : (n : ℕ) (cs : List ℕ) → length (slices_from n cs) ≡ length cs
length-slices n [] = refl
length-slices n (c ∷ cs) = ap suc (length-slices (n + c) cs)

-- as many slices as lengths
slices_many : (b : Bool) (h : ℕ) (gs : List Group) (g : Groups) → cond b (Ok (record { height = h; groups = gs })) (Err (ComputeError TooLong)) ≡ Ok g → length g.groups ≡ length gs
slices_many true h gs g e = let same : record { height = h; groups = gs } ≡ g = cc in ap (λ (q : Groups). length q.groups) (sym same)
slices_many false h gs g e = cc

pending_layout : (l : Layout) (u : UpdateGroups) → MayUpdate l u → is_pending u ≡ true → l ≡ Lists
pending_layout Lists u h p = refl
pending_layout Scalars u h p = let no : is_pending u ≡ false = ap is_pending h in absurd (cc (no, p))
pending_layout Flat u h p = let no : is_pending u ≡ false = ap is_pending h in absurd (cc (no, p))
pending_layout Rows u h p = let no : is_pending u ≡ false = ap is_pending h in absurd (cc (no, p))
pending_layout Single u h p = let no : is_pending u ≡ false = ap is_pending h in absurd (cc (no, p))

under_pending : (u : UpdateGroups) (c : Context) → is_pending u ≡ true → groups_under u c ≡ consecutive (counts_of c)
under_pending No c p = cc
under_pending WithGroupsLen c p = refl
under_pending WithSeriesLen c p = refl

under_kept : (u : UpdateGroups) (c : Context) → is_pending u ≡ false → (groups_under u c ≡ Ok c.groups) × (u ≡ No)
under_kept No c p = (refl, refl)
under_kept WithGroupsLen c p = cc
under_kept WithSeriesLen c p = cc

-- a context with no update pending is up to date
pub kept_already : (c : Context) → is_pending c.update ≡ false → regrouped c ≡ Ok c
kept_already c p =
    let k = under_kept c.update c p in
    ap (λ r. r >>= λ g. Ok (with_kept c g)) k.0 ∙ ap (λ (u : UpdateGroups). Ok (record c { update = u })) (sym k.1)

module _ (c : Context) (ok : IsContext c) (p : is_pending c.update ≡ true) where
  lists_here : c.layout ≡ Lists
  lists_here = pending_layout c.layout c.update ok.pending p

  are_lists : AreLists c.values c.groups
  are_lists = subst (λ (l : Layout). HasShape l c.values c.groups) lists_here ok.shape

  -- the groups are slices as long as the lists
  pub groups_pending : groups_for c ≡ consecutive (map len_at c.values.slots)
  groups_pending =
      under_pending c.update c p ∙ ap (λ (l : Layout). consecutive (map count_of (cells_in l c.values c.groups))) lists_here ∙ ap consecutive (list_counts c.values.slots)

  pub regrouped_refused : (e : PxError) → Refuses e (consecutive (map len_at c.values.slots)) → Refuses e (regrouped c)
  regrouped_refused e h = refuses_then e (groups_for c) (λ g. Ok (with_kept c g)) (subst (Refuses e) (sym groups_pending) h)

  module _ (g : Groups) (made : consecutive (map len_at c.values.slots) ≡ Ok g) where
    pub regrouped_made : regrouped c ≡ Ok (with_kept c g)
    regrouped_made = ap (λ r. r >>= λ g. Ok (with_kept c g)) (groups_pending ∙ made)

    pub regrouped_cells : cells_of (with_kept c g) ≡ cells_of c
    regrouped_cells = ap (λ (l : Layout). cells_in l c.values g) lists_here ∙ ap (λ (l : Layout). cells_in l c.values c.groups) (sym lists_here)

    many : length g.groups ≡ length c.values.slots
    many =
        slices_many (nat_lt (sum (map len_at c.values.slots)) (2 ^ 32)) _ (slices_from 0 (map len_at c.values.slots)) g made
        ∙ length-slices 0 (map len_at c.values.slots) ∙ length-map c.values.slots len_at

    pub IsContext-regrouped : IsContext (with_kept c g)
    IsContext-regrouped = record {
      shape = subst (λ (l : Layout). HasShape l c.values g) (sym lists_here) (record { each = sym many; kind = are_lists.kind; present = are_lists.present });
      pending = subst (λ (l : Layout). MayUpdate l No) (sym lists_here) tt;
      mark = ok.mark;
    }

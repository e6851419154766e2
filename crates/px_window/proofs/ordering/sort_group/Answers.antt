use Rattle.std.proofs.Common.{◌≡◌, ◌∙◌, ℕ, [], ◌∷◌, List, Ok, length, map, slice_index, ap, sym, subst}
use Rattle.std.specs.declared.alloc.Global.{Global}
use Rattle.smallvec.specs.declared.SmallVec.{SmallVec}
use Rattle.px_column.specs.Order.{arg_sorted, sorted_rows}
use Rattle.px_column.specs.Prelude.{AnswersBy, Slot}
use Rattle.px_value.specs.declared.sort_options.SortOptions.{SortOptions}
use Rattle.px_frame.specs.Frame.{are_below, series_at, slots_at}
use Rattle.px_frame.specs.GroupsView.{lent_group}
use Rattle.px_frame.specs.Ordered.{in_order}
use Rattle.px_window.proofs.Sorted.{below_sorted, sorted_is}
use Rattle.px_window.proofs.ordering.sort_group.Goals as goal

pub rows_at-requires : goal.rows_at-requires
rows_at-requires g c =
    let s = c.args.column.now in
    let rows = (lent_group c.args.group).rows in
    let keys : List (SortOptions × List Slot) = (c.args.options, slots_at s.slots rows) ∷ [] in
    let found : c.deref.result.now ≡ rows = cc (c.deref.ensures.value, c.in_ok-rows.ensures) in
    let again : c.deref-2.result.now ≡ rows = cc (c.deref-2.ensures.value) in
    let part : c.in_ok-part.part ≡ series_at rows s = cc (found, c.in_ok-part.ensures) in
    let sorted : arg_sorted c.args.options (series_at rows s) ≡ Ok c.in_ok-places.places.items = ap (arg_sorted c.args.options) (sym part) ∙ c.in_ok-places.ensures.answer in
    let places : c.deref-3.result.now ≡ sorted_rows keys (length rows) = c.deref-3.ensures.value ∙ sorted_is c.args.options s rows c.in_ok-places.places.items c.requires.kind sorted in
    (λ i. are_below (length (again i)) (places i)) ∙ below_sorted keys (length rows)

pub returns-clause-answer : goal.returns-clause-answer
returns-clause-answer g c =
    let s = c.args.column.now in
    let rows = (lent_group c.args.group).rows in
    let keys : List (SortOptions × List Slot) = (c.args.options, slots_at s.slots rows) ∷ [] in
    let found : c.deref.result.now ≡ rows = cc (c.deref.ensures.value, c.in_ok-rows.ensures) in
    let again : c.deref-2.result.now ≡ rows = cc (c.deref-2.ensures.value) in
    let part : c.in_ok-part.part ≡ series_at rows s = cc (found, c.in_ok-part.ensures) in
    let sorted : arg_sorted c.args.options (series_at rows s) ≡ Ok c.in_ok-places.places.items = ap (arg_sorted c.args.options) (sym part) ∙ c.in_ok-places.ensures.answer in
    let places : c.deref-3.result.now ≡ sorted_rows keys (length rows) = c.deref-3.ensures.value ∙ sorted_is c.args.options s rows c.in_ok-places.places.items c.requires.kind sorted in
    let same : map (slice_index c.deref-2.result.now) c.deref-3.result.now ≡ in_order s c.args.options rows = λ i. map (slice_index (again i)) (places i) in
    subst (λ (xs : List ℕ). AnswersBy (λ (v : SmallVec ℕ 1 Global). v.items) c.rows_at.result (Ok xs)) same c.rows_at.ensures

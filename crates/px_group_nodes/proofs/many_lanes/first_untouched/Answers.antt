use Rattle.std.proofs.Common.{◌≡◌, ◌∙◌, ◌<◌, List, Some, ap, length, slice_get, subst, sym, true}
use Rattle.std.proofs.lemmas.Option.{slice_get-get_or}
use Rattle.px_context.specs.Context.{Context}
use Rattle.px_group_nodes.specs.Lanes.{is_one_untouched, is_untouched_at}
use Rattle.px_group_nodes.proofs.ManyLanes.{untouched_there}
use Rattle.px_group_nodes.proofs.many_lanes.first_untouched.Goals as goal

pub returns : goal.returns
returns c =
    let cs = c.args.inputs.items in
    let i = c.untouched_place-place.result in
    let b = c.swap_remove.result in
    let within : i < length cs = subst (λ (xs : List Context). i < length xs) c.deref.ensures.value c.untouched_place-place.ensures.within in
    let there : slice_get cs i ≡ Some b = slice_get-get_or cs i b within ∙ ap Some (sym c.swap_remove.ensures.value) in
    record {
      place = i;
      there = there;
      mark = λ u. untouched_there cs i b there (subst (λ (xs : List Context). is_one_untouched xs ≡ true → is_untouched_at xs i ≡ true) c.deref.ensures.value c.untouched_place-place.ensures.mark u);
    }

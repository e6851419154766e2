use Rattle.std.proofs.Common.{[], ◌∷◌, get_or, refl, rules}
use Rattle.std.proofs.lemmas.List.Sorted.{answers_always}
use Rattle.px_frame.specs.GroupsView.{slice_group}
use Rattle.px_frame.proofs.InOrder.{by_first}
use Rattle.px_frame.proofs.regroup.sort_slices.Goals as goal

pub returns-clause-sorted : goal.returns-clause-sorted
returns-clause-sorted c =
    by_first slice_group (λ n g. (n ∷ [], refl)) _ _ c.sort_by_key.ensures.permutation
    (c.in_ok-sort_by_key.ensures.sorted (λ g. get_or g 0 0) (answers_always _ _ _ (λ f a r g h. search rules)))
    (c.sort_by_key.ensures.stable (λ g. get_or g 0 0) (answers_always _ _ _ (λ f a r g h. search rules)))

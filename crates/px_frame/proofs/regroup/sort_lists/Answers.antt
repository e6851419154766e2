use Rattle.std.proofs.Common.{refl, rules}
use Rattle.std.proofs.lemmas.List.Sorted.{answers_always}
use Rattle.px_frame.specs.GroupsView.{idx_group}
use Rattle.px_frame.proofs.InOrder.{by_first}
use Rattle.px_frame.proofs.regroup.sort_lists.Goals as goal

pub returns-clause-sorted : goal.returns-clause-sorted
returns-clause-sorted c =
    by_first idx_group (λ n g. ((n, g.1), refl)) _ _ c.sort_by_key.ensures.permutation
    (c.in_ok-sort_by_key.ensures.sorted (λ g. g.0) (answers_always _ _ _ (λ f a r g h. search rules)))
    (c.sort_by_key.ensures.stable (λ g. g.0) (answers_always _ _ _ (λ f a r g h. search rules)))

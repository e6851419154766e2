use Rattle.std.proofs.Common.{◌≡◌, ◌∙◌, ◌<◌, ◌∷◌, ℕ, List, ap, length, slice_index_or, subst, sym}
use Rattle.px_frame.specs.Groups.{Groups}
use Rattle.px_context.specs.Context.{Context}
use Rattle.px_group_nodes.proofs.Across.{all_counts}
use Rattle.px_group_nodes.proofs.sort_by.sort_each.Goals as goal

pub each_many-requires : goal.each_many-requires
each_many-requires g c =
    let input = c.args.input in
    let all : c.deref.result.now ≡ input ∷ c.args.by.items = c.deref.ensures.value ∙ c.in_ok-insert.ensures.items in
    let count : length input.groups.groups ≡ c.len-count.result = sym (c.len-count.ensures.len ∙ ap (λ (q : Groups). length q.groups) c.kept_groups.ensures) in
    subst (λ (cs : List Context). (k : ℕ) (d : Context) → k < length cs → length (slice_index_or cs k d).groups.groups ≡ c.len-count.result) (sym all)
    (all_counts (input ∷ c.args.by.items) c.len-count.result c.requires count)

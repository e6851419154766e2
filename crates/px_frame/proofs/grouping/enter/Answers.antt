use Rattle.std.proofs.Common.{◌≡◌, ◌∙◌, ◌++◌, ◌∷◌, [], refl, ap, arith, Bool, true, false, not, List, ℕ, rules}
use Rattle.px_frame.proofs.Entering.{enter_new, enter_old}
use Rattle.px_frame.proofs.Started.{AreStarted-push, AreStarted-set}
use Rattle.px_frame.proofs.grouping.enter.Goals as goal

was_new : (b new : Bool) → new ≡ not b → new ≡ true → b ≡ false
was_new true new e h = cc
was_new false new e h = refl

was_old : (b new : Bool) → new ≡ not b → new ≡ false → b ≡ true
was_old true new e h = refl
was_old false new e h = cc

pub returns-in_ok-push-2-clause-groups : goal.returns-in_ok-push-2-clause-groups
returns-in_ok-push-2-clause-groups g c =
    let one : c.push.new.self.items ≡ c.args.row ∷ [] = c.in_ok-push.ensures.ok ∙ ap (λ (ns : List ℕ). ns ++ c.args.row ∷ []) c.new-rows.ensures.items in
    rw c.in_ok-push-2.ensures.items
    (enter_new g.K.PartialEq.eq g.met.K.Eq.laws (λ v. v.1.items) c.args.seen.now.keys c.args.groups.now.items c.args.key c.args.row _ (omega arith)
    (was_new _ _ c.in_ok-place.ensures.added c.if-is_new.true) one)

pub returns-in_ok-push-2-clause-started : goal.returns-in_ok-push-2-clause-started
returns-in_ok-push-2-clause-started g c = λ h.
    let one : c.push.new.self.items ≡ c.args.row ∷ [] = c.in_ok-push.ensures.ok ∙ ap (λ (ns : List ℕ). ns ++ c.args.row ∷ []) c.new-rows.ensures.items in
    rw c.in_ok-push-2.ensures.items (AreStarted-push c.args.groups.now.items _ h one)

pub returns-in_ok-push-3-clause-groups : goal.returns-in_ok-push-3-clause-groups
returns-in_ok-push-3-clause-groups g c =
    enter_old g.K.PartialEq.eq g.met.K.Eq.laws (λ v. v.1.items) c.args.seen.now.keys c.args.groups.now.items c.args.key c.args.row _ c.index_mut.result.now c.in_ok-place.place (omega arith)
    (was_old _ _ c.in_ok-place.ensures.added c.if-is_new.false)
    c.in_ok-place.ensures.index
    (c.in_ok-push-3.ensures.ok ∙ ap (λ v. v.1.items ++ c.args.row ∷ []) c.index_mut.ensures.value)

pub returns-in_ok-push-3-clause-started : goal.returns-in_ok-push-3-clause-started
returns-in_ok-push-3-clause-started g c = λ h.
    AreStarted-set c.args.groups.now.items c.in_ok-place.place c.args.row _ c.index_mut.result.now h (search rules) (ap (λ v. v.0) c.index_mut.ensures.value) (c.in_ok-push-3.ensures.ok ∙ ap (λ v. v.1.items ++ c.args.row ∷ []) c.index_mut.ensures.value)

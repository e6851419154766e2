-- Nodes evaluated on groups one after another, as far as a loop has come.
use Rattle.std.proofs.Common.{◌≡◌, ℕ, ◌+◌, ◌<◌, ◌≤◌, List, [], ◌∷◌, ◌++◌, length, map, drop, get_or, sym, ◌∙◌, ap, subst, arith, append_assoc}
use Rattle.std.proofs.lemmas.List.{append-nil, at_drop_all, at_drop_more}
use Rattle.px_value.specs.declared.error.PxError.{PxError}
use Rattle.px_frame.specs.External.{Frame}
use Rattle.px_frame.specs.Groups.{Groups}
use Rattle.px_tree.specs.Cost.{are_flat_rows, is_flat_rows}
use Rattle.px_context.specs.Context.{Context}
use Rattle.px_answers.proofs.Counts.{and_left, and_right, rows_flat}
use Rattle.px_answers.specs.Counted.{RunAllExactly, RunExactly}
use Rattle.px_answers.specs.Parts.{plan_trees}
use Rattle.px_answers.specs.Planned.{Planned}
use Rattle.px_group_answers.proofs.GroupCounts.{first_run, none_run, one_more_run}
use Rattle.px_group_answers.proofs.Lists.{group_cause_of_first, group_cause_of_others}
use Rattle.px_group_answers.specs.Counted.{RunAllOnGroups, RunOnGroups}
use Rattle.px_group_answers.specs.OnGroups.{AreContextsOf, IsContextOf, IsGroupCause, IsGroupCauseOfAny}

-- the kernels of one flat expression more
pub one_more_ticks : (p : Planned) (ps : List Planned) (old mid new : ℕ) → RunExactly p.tree old mid → RunAllExactly (plan_trees ps) mid new → RunAllExactly (plan_trees (p ∷ ps)) old new
one_more_ticks p ps old mid new r s h =
    let first = r (rows_flat p.tree (and_left (is_flat_rows p.tree) (are_flat_rows (plan_trees ps)) h)) in
    let rest = s (and_right (is_flat_rows p.tree) (are_flat_rows (plan_trees ps)) h) in
    omega (arith, first, rest)

-- some nodes' contexts, kernels and causes, from those of the ones that are left
pub record ContextsFront (ps rest : List Planned) (frame : Frame) (g : Groups) (done : List Context) (old now : ℕ) : Type 0 where
  pub contexts : (cs : List Context) → AreContextsOf rest frame g cs → AreContextsOf ps frame g (done ++ cs)
  pub exact : (new : ℕ) → RunAllExactly (plan_trees rest) now new → RunAllExactly (plan_trees ps) old new
  pub most : (new : ℕ) → RunAllOnGroups (plan_trees rest) (length g.groups) now new → RunAllOnGroups (plan_trees ps) (length g.groups) old new
  pub causes : (e : PxError) → IsGroupCauseOfAny e rest frame g → IsGroupCauseOfAny e ps frame g

-- none was evaluated yet
pub contexts_none : (ps : List Planned) (frame : Frame) (g : Groups) (old : ℕ) → ContextsFront ps ps frame g [] old old
contexts_none ps frame g old = record { contexts = λ cs h. h; exact = λ new h. h; most = λ new h. h; causes = λ e h. h }

module _ (ps : List Planned) (p : Planned) (rest : List Planned) (frame : Frame) (g : Groups) (done : List Context) (old now : ℕ) (v : ContextsFront ps (p ∷ rest) frame g done old now) where
  -- one more was
  pub contexts_next : (c : Context) (new : ℕ) → IsContextOf p frame g c → RunExactly p.tree now new → RunOnGroups p.tree (length g.groups) now new → ContextsFront ps rest frame g (done ++ c ∷ []) old new
  contexts_next c new is exact most = record {
    contexts = λ cs h. subst (AreContextsOf ps frame g) (sym (append_assoc done (c ∷ []) cs)) (v.contexts (c ∷ cs) (is, h));
    exact = λ last h. v.exact last (one_more_ticks p rest now new last exact h);
    most = λ last h. v.most last (one_more_run p.tree (plan_trees rest) (length g.groups) now new last most h);
    causes = λ e h. v.causes e (group_cause_of_others e p rest frame g h);
  }

  -- the next one has no context
  pub contexts_cause : (e : PxError) → IsGroupCause e p frame g → IsGroupCauseOfAny e ps frame g
  contexts_cause e h = v.causes e (group_cause_of_first e p rest frame g h)

  -- whether it has one or not, its kernels ran
  pub contexts_cost : (new : ℕ) → RunOnGroups p.tree (length g.groups) now new → RunAllOnGroups (plan_trees ps) (length g.groups) old new
  contexts_cost new h = v.most new (first_run p.tree (plan_trees rest) (length g.groups) now new h)

-- so far, where nothing more ran
pub contexts_so_far : (ps rest : List Planned) (frame : Frame) (g : Groups) (done : List Context) (old now : ℕ) → ContextsFront ps rest frame g done old now → RunAllOnGroups (plan_trees ps) (length g.groups) old now
contexts_so_far ps rest frame g done old now v = v.most now (none_run (plan_trees rest) (length g.groups) now)

-- all were
pub contexts_done : (ps : List Planned) (frame : Frame) (g : Groups) (done : List Context) (old now : ℕ) → ContextsFront ps [] frame g done old now
    → AreContextsOf ps frame g done × (RunAllExactly (plan_trees ps) old now × RunAllOnGroups (plan_trees ps) (length g.groups) old now)
contexts_done ps frame g done old now v =
    (subst (AreContextsOf ps frame g) (append-nil done) (v.contexts [] tt), (v.exact now (λ h. omega arith), contexts_so_far ps [] frame g done old now v))

-- the same of nodes that are seen as expressions, from a place on
abbrev pub ContextsTo : {N : Type 0} → (N → Planned) → List N → ℕ → Frame → Groups → List Context → ℕ → ℕ → Type 0
ContextsTo plan nodes i frame g done old now = ContextsFront (map plan nodes) (map plan (drop i nodes)) frame g done old now

module _ {N : Type 0} (plan : N → Planned) (nodes : List N) (i : ℕ) (n : N) (below : i < length nodes) (is : n ≡ get_or nodes i n) (frame : Frame) (g : Groups) (done : List Context) (old now : ℕ) (v : ContextsTo plan nodes i frame g done old now) where
  opened : ContextsFront (map plan nodes) (plan n ∷ map plan (drop (i + 1) nodes)) frame g done old now
  opened =
      subst (λ (ms : List N). ContextsFront (map plan nodes) (map plan ms) frame g done old now)
      (at_drop_more (λ (ms : List N). ms) nodes i n below ∙ ap (λ m. m ∷ drop (i + 1) nodes) (sym is)) v

  -- the node at that place has a context
  pub next_context : (more : List Context) (c : Context) (new : ℕ) → more ≡ done ++ c ∷ [] → IsContextOf (plan n) frame g c → RunExactly (plan n).tree now new → RunOnGroups (plan n).tree (length g.groups) now new → ContextsTo plan nodes (i + 1) frame g more old new
  next_context more c new added h exact most =
      subst (λ cs. ContextsTo plan nodes (i + 1) frame g cs old new) (sym added)
      (contexts_next (map plan nodes) (plan n) (map plan (drop (i + 1) nodes)) frame g done old now opened c new h exact most)

  -- or a cause of its own
  pub next_cause : (e : PxError) → IsGroupCause e (plan n) frame g → IsGroupCauseOfAny e (map plan nodes) frame g
  next_cause e h = contexts_cause (map plan nodes) (plan n) (map plan (drop (i + 1) nodes)) frame g done old now opened e h

  -- and its kernels ran
  pub next_cost : (new : ℕ) → RunOnGroups (plan n).tree (length g.groups) now new → RunAllOnGroups (plan_trees (map plan nodes)) (length g.groups) old new
  next_cost new h = contexts_cost (map plan nodes) (plan n) (map plan (drop (i + 1) nodes)) frame g done old now opened new h

-- all of these nodes were evaluated
pub all_contexts : {N : Type 0} (plan : N → Planned) (nodes : List N) (i : ℕ) (frame : Frame) (g : Groups) (done : List Context) (old now : ℕ) → length nodes ≤ i → ContextsTo plan nodes i frame g done old now
    → AreContextsOf (map plan nodes) frame g done × (RunAllExactly (plan_trees (map plan nodes)) old now × RunAllOnGroups (plan_trees (map plan nodes)) (length g.groups) old now)
all_contexts {N = N} plan nodes i frame g done old now h v =
    contexts_done (map plan nodes) frame g done old now
    (subst (λ (ms : List N). ContextsFront (map plan nodes) (map plan ms) frame g done old now) (at_drop_all (λ (ms : List N). ms) nodes i h) v)

-- as far as the loop came its kernels ran, also where something else is refused
pub contexts_ran : {N : Type 0} (plan : N → Planned) (nodes : List N) (i : ℕ) (frame : Frame) (g : Groups) (done : List Context) (old now : ℕ) → ContextsTo plan nodes i frame g done old now → RunAllOnGroups (plan_trees (map plan nodes)) (length g.groups) old now
contexts_ran plan nodes i frame g done old now v = contexts_so_far (map plan nodes) (map plan (drop i nodes)) frame g done old now v

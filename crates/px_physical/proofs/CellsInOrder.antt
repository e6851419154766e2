-- Nodes evaluated one after another, as far as a loop has come.
use Rattle.std.proofs.Common.{◌≡◌, ℕ, ◌+◌, ◌<◌, ◌≤◌, Bool, true, false, ◌&&◌, ◌||◌, cond, List, [], ◌∷◌, ◌++◌, Some, None, IfSome, length, map, drop, get_or, refl, sym, ◌∙◌, ap, subst, arith, append_assoc}
use Rattle.std.proofs.lemmas.List.{at_drop_more, at_drop_all, append-nil, map-append}
use Rattle.std.proofs.lemmas.List.Sums.{sum_by-cons}
use Rattle.px_value.specs.declared.error.PxError.{PxError}
use Rattle.px_frame.specs.CellView.{named_cell}
use Rattle.px_frame.specs.External.{Frame}
use Rattle.px_frame.specs.Spread.{NamedCell}
use Rattle.px_frame.specs.declared.cell.Cell.{Cell}
use Rattle.px_tree.specs.Cost.{all_ticks_of, all_windows_in, are_flat_rows, cost_on, is_flat, is_flat_rows, ticks_of, windows_in}
use Rattle.px_tree.specs.Nodes.{all_nodes_of, nodes_of}
use Rattle.px_tree.specs.Partition.{is_row_function}
use Rattle.px_tree.specs.Tree.{Call, Tree, Trees, called, function, sort_by}
use Rattle.px_value.specs.declared.sort_options.SortMultipleOptions.{SortMultipleOptions}
use Rattle.px_answers.specs.Counted.{GroupedAllAtMost, GroupedAtMost, RunAllAtLeast, RunAllAtMost, RunAllExactly, RunAtMost, RunExactly, flat_kernels}
use Rattle.px_physical.specs.NodeView.{plan_of}
use Rattle.px_answers.specs.Parts.{plan_trees}
use Rattle.px_answers.specs.Planned.{Planned}
use Rattle.px_answers.specs.Value.{AreCellsOf, IsCause, IsCauseOfAny, IsCellOf}
use Rattle.px_physical.specs.declared.phys_expr.PhysExpr.{PhysExpr}
use Rattle.px_answers.proofs.InputLists.{cause_of_first, cause_of_others}

pub both_true : (x y : Bool) → (x && y) ≡ true → (x ≡ true) × (y ≡ true)
both_true true true h = (refl, refl)
both_true true false h = absurd (cc h)
both_true false y h = absurd (cc h)

-- a flat expression's kernels
flat_ticks : (t : Tree) (old new : ℕ) → RunExactly t old new → is_flat_rows t ≡ true → new ≡ old + ticks_of t
flat_ticks t old new r h = r (rw h refl)

flat_cost : (t : Tree) (f : Frame) (old new : ℕ) → RunAtMost t f old new → is_flat_rows t ≡ true → new ≤ old + nodes_of t
flat_cost t f old new r h = subst (λ o. IfSome o (λ n. new ≤ old + n)) cost r.cost
  where
    cost : cost_on t f ≡ Some (nodes_of t)
    cost = rw h refl

-- one more expression's
pub ticks_before : (t : Tree) (ts : Trees) (old mid new : ℕ) → RunExactly t old mid → RunAllExactly ts mid new → (are_flat_rows ts ≡ true → is_flat_rows t ≡ true → new ≡ old + (ticks_of t + all_ticks_of ts))
ticks_before t ts old mid new r s h k = let first = flat_ticks t old mid r k in let rest = s h in omega arith

exactly_before : (p : Planned) (ps : List Planned) (old mid new : ℕ) → RunExactly p.tree old mid → RunAllExactly (plan_trees ps) mid new → RunAllExactly (plan_trees (p ∷ ps)) old new
exactly_before p ps old mid new r s h =
    let b = both_true (is_flat_rows p.tree) (are_flat_rows (plan_trees ps)) h in
    ticks_before p.tree (plan_trees ps) old mid new r s b.1 b.0

most_before : (p : Planned) (ps : List Planned) (f : Frame) (old mid new : ℕ) → RunAtMost p.tree f old mid → RunAllAtMost (plan_trees ps) mid new → RunAllAtMost (plan_trees (p ∷ ps)) old new
most_before p ps f old mid new r s = record {
  rises = omega (arith, r.rises, s.rises);
  cost = λ h.
      let b = both_true (is_flat_rows p.tree) (are_flat_rows (plan_trees ps)) h in
      let first = flat_cost p.tree f old mid r b.0 in
      let rest = s.cost b.1 in
      omega (arith, first, rest);
}

-- one more expression's, at least
pub least_here : (t : Tree) (f : Frame) (old new : ℕ) → RunExactly t old new → RunAtMost t f old new → old + flat_kernels t ≤ new
least_here t f old new exact most = by (is_flat t) refl
  where
    by : (b : Bool) → is_flat t ≡ b → old + (cond b (ticks_of t) 0) ≤ new
    by true h = let same = exact h in omega (arith, same)
    by false h = omega (arith, most.rises)

least_before : (p : Planned) (ps : List Planned) (f : Frame) (old mid new : ℕ) → RunExactly p.tree old mid → RunAtMost p.tree f old mid → RunAllAtLeast ps mid new → RunAllAtLeast (p ∷ ps) old new
least_before p ps f old mid new exact most h =
    let here = least_here p.tree f old mid exact most in
    omega (arith, here, h, sum_by-cons (λ (q : Planned). flat_kernels q.tree) p ps)

-- no kernel ran
pub none_ran : (ts : Trees) (n : ℕ) → RunAllAtMost ts n n
none_ran ts n = record { rises = omega arith; cost = λ h. omega arith }

-- some nodes' cells, kernels and causes, from those of the ones that are left
pub record EvaluatesFront (ps rest : List Planned) (f : Frame) (cells : List NamedCell) (old now : ℕ) : Type 0 where
  pub values : (cs : List NamedCell) → AreCellsOf rest f cs → AreCellsOf ps f (cells ++ cs)
  pub exact : (new : ℕ) → RunAllExactly (plan_trees rest) now new → RunAllExactly (plan_trees ps) old new
  pub most : (new : ℕ) → RunAllAtMost (plan_trees rest) now new → RunAllAtMost (plan_trees ps) old new
  pub least : (new : ℕ) → RunAllAtLeast rest now new → RunAllAtLeast ps old new
  pub causes : (e : PxError) → IsCauseOfAny e rest f → IsCauseOfAny e ps f

pub front_none : (ps : List Planned) (f : Frame) (old : ℕ) → EvaluatesFront ps ps f [] old old
front_none ps f old = record { values = λ cs h. h; exact = λ new h. h; most = λ new h. h; least = λ new h. h; causes = λ e h. h }

front_next : (ps : List Planned) (p : Planned) (rest : List Planned) (f : Frame) (cells : List NamedCell) (c : NamedCell) (old now new : ℕ) → EvaluatesFront ps (p ∷ rest) f cells old now
    → IsCellOf p f c → RunExactly p.tree now new → RunAtMost p.tree f now new → EvaluatesFront ps rest f (cells ++ c ∷ []) old new
front_next ps p rest f cells c old now new v is exact most = record {
  values = λ cs h. subst (AreCellsOf ps f) (sym (append_assoc cells (c ∷ []) cs)) (v.values (c ∷ cs) (is, h));
  exact = λ last h. v.exact last (exactly_before p rest now new last exact h);
  most = λ last h. v.most last (most_before p rest f now new last most h);
  least = λ last h. v.least last (least_before p rest f now new last exact most h);
  causes = λ e h. v.causes e (cause_of_others e p rest f h);
}

-- the same of the nodes from a place on
abbrev pub EvaluatesTo : List PhysExpr → ℕ → Frame → List Cell → ℕ → ℕ → Type 0
EvaluatesTo nodes i f cells old now = EvaluatesFront (map plan_of nodes) (map plan_of (drop i nodes)) f (map named_cell cells) old now

module _ (nodes : List PhysExpr) (i : ℕ) (n : PhysExpr) (below : i < length nodes) (is : n ≡ get_or nodes i n) (f : Frame) (cells : List Cell) (old now : ℕ) (v : EvaluatesTo nodes i f cells old now) where
  opened : EvaluatesFront (map plan_of nodes) (plan_of n ∷ map plan_of (drop (i + 1) nodes)) f (map named_cell cells) old now
  opened =
      subst (λ (ms : List PhysExpr). EvaluatesFront (map plan_of nodes) (map plan_of ms) f (map named_cell cells) old now)
      (at_drop_more (λ (ms : List PhysExpr). ms) nodes i n below ∙ ap (λ m. m ∷ drop (i + 1) nodes) (sym is)) v

  pub cells_next : (more : List Cell) (c : Cell) (new : ℕ) → more ≡ cells ++ c ∷ [] → IsCellOf (plan_of n) f (named_cell c) → RunExactly (plan_of n).tree now new → RunAtMost (plan_of n).tree f now new → EvaluatesTo nodes (i + 1) f more old new
  cells_next more c new added h exact most =
      subst (λ cs. EvaluatesFront (map plan_of nodes) (map plan_of (drop (i + 1) nodes)) f cs old new) (sym (ap (map named_cell) added ∙ map-append named_cell cells (c ∷ [])))
      (front_next (map plan_of nodes) (plan_of n) (map plan_of (drop (i + 1) nodes)) f (map named_cell cells) (named_cell c) old now new opened h exact most)

  pub cells_cause : (e : PxError) → IsCause e (plan_of n) f → IsCauseOfAny e (map plan_of nodes) f
  cells_cause e h = opened.causes e (cause_of_first e (plan_of n) (map plan_of (drop (i + 1) nodes)) f h)

  pub cells_cost : (new : ℕ) → RunAtMost (plan_of n).tree f now new → RunAllAtMost (plan_trees (map plan_of nodes)) old new
  cells_cost new h = opened.most new (most_before (plan_of n) (map plan_of (drop (i + 1) nodes)) f now new new h (none_ran _ new))

-- all of them
pub cells_done : (nodes : List PhysExpr) (i : ℕ) (f : Frame) (cells : List Cell) (old now : ℕ) → length nodes ≤ i → EvaluatesTo nodes i f cells old now
    → AreCellsOf (map plan_of nodes) f (map named_cell cells) × (RunAllExactly (plan_trees (map plan_of nodes)) old now × (RunAllAtMost (plan_trees (map plan_of nodes)) old now × RunAllAtLeast (map plan_of nodes) old now))
cells_done nodes i f cells old now h v =
    (subst (AreCellsOf (map plan_of nodes) f) (append-nil (map named_cell cells)) (closed.values [] tt), (closed.exact now (λ k. omega arith), (closed.most now (none_ran _ now), closed.least now (omega arith))))
  where
    closed : EvaluatesFront (map plan_of nodes) [] f (map named_cell cells) old now
    closed = subst (λ (ms : List PhysExpr). EvaluatesFront (map plan_of nodes) (map plan_of ms) f (map named_cell cells) old now) (at_drop_all (λ (ms : List PhysExpr). ms) nodes i h) v

-- how often rows are grouped for nodes from a place on
abbrev pub windows_from : List PhysExpr → ℕ → ℕ
windows_from nodes i = all_windows_in (plan_trees (map plan_of (drop i nodes)))

module _ (nodes : List PhysExpr) (i : ℕ) (n : PhysExpr) (below : i < length nodes) (is : n ≡ get_or nodes i n) (old now : ℕ) (so_far : now + windows_from nodes i ≡ old + all_windows_in (plan_trees (map plan_of nodes))) where
  windows_opened : windows_from nodes i ≡ windows_in (plan_of n).tree + windows_from nodes (i + 1)
  windows_opened =
      at_drop_more (λ (ms : List PhysExpr). all_windows_in (plan_trees (map plan_of ms))) nodes i n below ∙ ap (λ (m : PhysExpr). windows_in (plan_of m).tree + windows_from nodes (i + 1)) (sym is)

  pub grouped_next : (new : ℕ) → new ≡ now + windows_in (plan_of n).tree → new + windows_from nodes (i + 1) ≡ old + all_windows_in (plan_trees (map plan_of nodes))
  grouped_next new h = omega (arith, h, so_far, windows_opened)

  pub grouped_here : (new : ℕ) → old ≤ now → GroupedAtMost (plan_of n).tree now new → GroupedAllAtMost (plan_trees (map plan_of nodes)) old new
  grouped_here new r h = record { rises = omega (arith, r, h.rises); most = omega (arith, h.most, so_far, windows_opened) }

-- and of all of them
pub grouped_end : (nodes : List PhysExpr) (i : ℕ) → length nodes ≤ i → (old now : ℕ) → now + windows_from nodes i ≡ old + all_windows_in (plan_trees (map plan_of nodes)) → now ≡ old + all_windows_in (plan_trees (map plan_of nodes))
grouped_end nodes i end old now h =
    let none : windows_from nodes i ≡ 0 = at_drop_all (λ (ms : List PhysExpr). all_windows_in (plan_trees (map plan_of ms))) nodes i end in
    omega (arith, h, none)

pub grouped_all : (ts : Trees) (old now : ℕ) → now ≡ old + all_windows_in ts → GroupedAllAtMost ts old now
grouped_all ts old now h = record { rises = omega (arith, h); most = omega (arith, h) }

-- the kernels of a function of some expressions
pub apply_ticks : (es : Trees) (call : Call) (old mid new : ℕ) → RunAllExactly es old mid → (is_row_function (called call) ≡ true → new ≡ mid + 1) → RunExactly (function es call) old new
apply_ticks es call old mid new r s h = by (is_row_function (called call) && are_flat_rows es) h refl
  where
    by : (b : Bool) → (b || false) ≡ true → (is_row_function (called call) && are_flat_rows es) ≡ b → new ≡ old + (all_ticks_of es + 1)
    by false g k = absurd (cc g)
    by true g k =
        let b = both_true (is_row_function (called call)) (are_flat_rows es) k in
        let first = r b.1 in
        let last = s b.0 in
        omega arith

pub apply_cost : (es : Trees) (call : Call) (f : Frame) (old mid new : ℕ) → RunAllAtMost es old mid → mid ≤ new → new ≤ mid + 1 → RunAtMost (function es call) f old new
apply_cost es call f old mid new r rises most = record {
  rises = omega (arith, r.rises, rises);
  cost = by (is_row_function (called call) && are_flat_rows es) refl;
}
  where
    by : (b : Bool) → (is_row_function (called call) && are_flat_rows es) ≡ b → IfSome (cond (b || false) (Some (all_nodes_of es + 1)) None) (λ n. new ≤ old + n)
    by false k = tt
    by true k =
        let b = both_true (is_row_function (called call)) (are_flat_rows es) k in
        let first = r.cost b.1 in
        omega (arith, first, most)

-- rows in the order of others are never flat
pub sort_by_ticks : (e : Tree) (by : Trees) (options : SortMultipleOptions) (old new : ℕ) → RunExactly (sort_by e by options) old new
sort_by_ticks e by options old new h = absurd (cc h)

pub sort_by_cost : (e : Tree) (by : Trees) (options : SortMultipleOptions) (f : Frame) (old new : ℕ) → old ≤ new → RunAtMost (sort_by e by options) f old new
sort_by_cost e by options f old new h = record { rises = h; cost = tt }

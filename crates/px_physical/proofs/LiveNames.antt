-- The names that nodes with inputs add.
use Rattle.std.proofs.Common.{◌≡◌, ℕ, ◌+◌, ◌<◌, ◌≤◌, List, ◌++◌, Option, Some, None, length, map, drop, take, get_or, refl, sym, ◌∙◌, ap, subst}
use Rattle.std.proofs.Math.Seq.{take-append-add}
use Rattle.std.specs.Prelude.{option_to_list}
use Rattle.std.proofs.lemmas.List.{append-nil, at_drop_more, at_drop_all}
use Rattle.std.proofs.lemmas.List.Sums.{fold-append}
use Rattle.indexmap.specs.IndexSet.{insert_key}
use Rattle.px_frame.specs.Frame.{name_eq}
use Rattle.px_answers.specs.Live.{added, AddsFront, all_live_names, live_names, order_live_names}
use Rattle.px_physical.specs.NodeView.{plan_of}
use Rattle.px_answers.specs.Parts.{PlannedWindow, plan_order, plan_trees, under, window_plan}
use Rattle.px_tree.specs.Tree.{Tree}
use Rattle.px_physical.specs.declared.phys_expr.PhysExpr.{PhysExpr}
use Rattle.px_answers.proofs.Names.{front_more, front_whole}

added_more : (set mid xs ys : List (List ℕ)) → mid ≡ added set xs → added mid ys ≡ added set (xs ++ ys)
added_more set mid xs ys h = ap (λ s. added s ys) h ∙ sym (fold-append (insert_key name_eq) set xs ys)

-- those of one input after those of another
pub added_two : (set mid now xs ys : List (List ℕ)) → mid ≡ added set xs → now ≡ added mid ys → now ≡ added set (xs ++ ys)
added_two set mid now xs ys h k = k ∙ added_more set mid xs ys h

pub front_after : (set mid now xs ys : List (List ℕ)) → mid ≡ added set xs → AddsFront mid ys now → AddsFront set (xs ++ ys) now
front_after set mid now xs ys h f = (length xs + f.0, f.1 ∙ added_more set mid xs (take f.0 ys) h ∙ ap (added set) (sym (take-append-add xs ys f.0)))

-- those of three
pub added_three : (set mid last now xs ys zs : List (List ℕ)) → mid ≡ added set xs → last ≡ added mid ys → now ≡ added last zs → now ≡ added set (xs ++ ys ++ zs)
added_three set mid last now xs ys zs h k l = added_two set last now (xs ++ ys) zs (added_two set mid last xs ys h k) l

pub front_first : (set now xs ys zs : List (List ℕ)) → AddsFront set xs now → AddsFront set (xs ++ ys ++ zs) now
front_first set now xs ys zs f = front_more set (xs ++ ys) zs now (front_more set xs ys now f)

pub front_second : (set mid now xs ys zs : List (List ℕ)) → mid ≡ added set xs → AddsFront mid ys now → AddsFront set (xs ++ ys ++ zs) now
front_second set mid now xs ys zs h f = front_more set (xs ++ ys) zs now (front_after set mid now xs ys h f)

pub front_third : (set mid last now xs ys zs : List (List ℕ)) → mid ≡ added set xs → last ≡ added mid ys → AddsFront last zs now → AddsFront set (xs ++ ys ++ zs) now
front_third set mid last now xs ys zs h k f = front_after set last now (xs ++ ys) zs (added_two set mid last xs ys h k) f

-- an expression under a name adds that last
under_names : (n : Option (List ℕ)) (t : Tree) → live_names (under n t) ≡ live_names t ++ option_to_list n
under_names None t = sym (append-nil (live_names t))
under_names (Some n) t = refl

-- those of a window: of its keys, what orders its rows, its function, and its own name
module _ (w : PlannedWindow) (set keys ordered : List (List ℕ)) (first : keys ≡ added set (all_live_names (plan_trees w.group_by))) (second : ordered ≡ added keys (order_live_names (plan_order w.order_by))) where
  told : live_names (under w.out_name w.phys_function.tree) ≡ live_names w.phys_function.tree ++ option_to_list w.out_name
  told = under_names w.out_name w.phys_function.tree

  pub window_live : (done now : List (List ℕ)) → done ≡ added ordered (live_names w.phys_function.tree) → now ≡ added done (option_to_list w.out_name) → now ≡ added set (live_names (window_plan w).tree)
  window_live done now h k =
      added_three set keys ordered now (all_live_names (plan_trees w.group_by)) (order_live_names (plan_order w.order_by)) (live_names (under w.out_name w.phys_function.tree)) first second
      (added_two ordered done now (live_names w.phys_function.tree) (option_to_list w.out_name) h k ∙ ap (added ordered) (sym told))

  pub window_front : (now : List (List ℕ)) → AddsFront ordered (live_names w.phys_function.tree) now → AddsFront set (live_names (window_plan w).tree) now
  window_front now f =
      front_third set keys ordered now (all_live_names (plan_trees w.group_by)) (order_live_names (plan_order w.order_by)) (live_names (under w.out_name w.phys_function.tree)) first second
      (subst (λ ns. AddsFront ordered ns now) (sym told) (front_more ordered (live_names w.phys_function.tree) (option_to_list w.out_name) now f))

  pub window_unnamed : (done now : List (List ℕ)) → done ≡ added ordered (live_names w.phys_function.tree) → now ≡ done → AddsFront set (live_names (window_plan w).tree) now
  window_unnamed done now h k =
      front_third set keys ordered now (all_live_names (plan_trees w.group_by)) (order_live_names (plan_order w.order_by)) (live_names (under w.out_name w.phys_function.tree)) first second
      (subst (λ ns. AddsFront ordered ns now) (sym told) (front_whole ordered (live_names w.phys_function.tree) (option_to_list w.out_name) now (k ∙ h)))

-- the names of some nodes from a place on
abbrev pub names_from : ℕ → List PhysExpr → List (List ℕ)
names_from i nodes = all_live_names (plan_trees (map plan_of (drop i nodes)))

module _ (nodes : List PhysExpr) (i : ℕ) (n : PhysExpr) (below : i < length nodes) (is : n ≡ get_or nodes i n) where
  opened : names_from i nodes ≡ live_names (plan_of n).tree ++ names_from (i + 1) nodes
  opened =
      at_drop_more (λ (ms : List PhysExpr). all_live_names (plan_trees (map plan_of ms))) nodes i n below
      ∙ ap (λ (m : PhysExpr). live_names (plan_of m).tree ++ names_from (i + 1) nodes) (sym is)

  pub names_next : (all set mid : List (List ℕ)) → all ≡ added set (names_from i nodes) → mid ≡ added set (live_names (plan_of n).tree) → all ≡ added mid (names_from (i + 1) nodes)
  names_next all set mid h k = h ∙ ap (added set) opened ∙ sym (added_more set mid (live_names (plan_of n).tree) (names_from (i + 1) nodes) k)

  pub front_next : (set mid now : List (List ℕ)) → mid ≡ added set (live_names (plan_of n).tree) → AddsFront mid (names_from (i + 1) nodes) now → AddsFront set (names_from i nodes) now
  front_next set mid now k f = subst (λ ns. AddsFront set ns now) (sym opened) (front_after set mid now (live_names (plan_of n).tree) (names_from (i + 1) nodes) k f)

  pub front_at : (set now : List (List ℕ)) → AddsFront set (live_names (plan_of n).tree) now → AddsFront set (names_from i nodes) now
  front_at set now f = subst (λ ns. AddsFront set ns now) (sym opened) (front_more set (live_names (plan_of n).tree) (names_from (i + 1) nodes) now f)

-- and none behind the last
pub names_done : (nodes : List PhysExpr) (i : ℕ) (all set : List (List ℕ)) → length nodes ≤ i → all ≡ added set (names_from i nodes) → all ≡ set
names_done nodes i all set h e = e ∙ ap (added set) (at_drop_all (λ (ms : List PhysExpr). all_live_names (plan_trees (map plan_of ms))) nodes i h)

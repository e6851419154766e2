-- The value of a window, and its causes once its groups are there.
use Rattle.std.proofs.Common.{◌≡◌, ◌⊎◌, inl, inr, ℕ, suc, ◌+◌, ◌^◌, ◌≤◌, Bool, true, false, List, [], ◌∷◌, ◌++◌, Option, Some, None, option_and_then, option_map, Ok, Err, length, map, sum, refl, sym, ◌∙◌, ap, subst, arith}
use Rattle.std.specs.List.{flat_map, zip}
use Rattle.px_column.specs.Option.{each}
use Rattle.px_column.specs.Prelude.{Refuses, Series}
use Rattle.px_value.specs.declared.error.ComputeWhy.TheVariants.{TooLong, WindowLength}
use Rattle.px_value.specs.declared.error.PxError.{PxError}
use Rattle.px_value.specs.declared.error.PxError.TheVariants.{ComputeError, OutOfMemory}
use Rattle.px_frame.specs.Cell.{Cell, count_of, rows}
use Rattle.px_frame.specs.External.{Frame, height, rows_of_frame, scope_of}
use Rattle.px_frame.specs.Groups.{Groups, rows_of}
use Rattle.px_frame.specs.Spread.{NamedCell}
use Rattle.px_tree.specs.Shape.{is_unit, name_of}
use Rattle.px_tree.specs.Size.{count_on, counts_on, order_size_on, size_on, sizes_on}
use Rattle.px_tree.specs.Tree.{Tree, Trees, Order, no_trees, one_tree, no_order, ordered, column, literal, alias, binary, ternary, cast, function, filter, slice, gather, sort, sort_by, agg, len, window}
use Rattle.px_tree.specs.Typing.{kind_in, window_kind}
use Rattle.px_tree.specs.Value.{fault_in, faults_on, made, outcome_on, parts_in, parts_on, whole_window, window_frames}
use Rattle.px_tree.specs.Window.{OrderCell, parts_by, window_cell}
use Rattle.px_tree.specs.declared.window.WindowMapping.{WindowMapping}
use Rattle.px_tree.specs.declared.window.WindowMapping.TheVariants.{GroupsToRows, Join, Explode}
use Rattle.px_context.specs.Changes.{counts_of}
use Rattle.px_context.specs.Context.{Context, cell_kind, cells_of, has_units}
use Rattle.px_lanes.specs.Made.{named_in}
use Rattle.px_answers.proofs.Inputs.{one_split, parts_of}
use Rattle.px_answers.specs.Parts.{PlannedWindow, plan_order, plan_trees, under, window_plan}
use Rattle.px_answers.specs.Planned.{Planned}
use Rattle.px_answers.specs.Value.{AreCellsOf, IsCause, IsCellOf, IsOneOf, IsValue, causes_on}
use Rattle.px_group_answers.proofs.Above.{counts_in_size}
use Rattle.px_group_answers.proofs.Pointwise.{sum_more}
use Rattle.px_group_answers.specs.OnGroups.{AreCellsOn, IsContextOf, IsGroupCause, group_causes, group_frames, group_refusals}
use Rattle.px_window_node.specs.Grouped.{window_groups}
use Rattle.px_window_node.specs.Inputs.{IsOrderOf, named_out}
use Rattle.px_window_node.specs.Placing.{placed_by, placed_kind}
use Rattle.px_window_node.proofs.Apart.{function_size, function_up, own_fault_up, part_fault_up, part_faults, sound_above, under_faults, under_kind, under_unit, under_value}
use Rattle.px_window_node.proofs.Grouping.{AreGroupsOf, groups_in, groups_there, memory_or_refused}
use Rattle.px_window_node.proofs.PlacedColumns.{placed_cell, placing_refused}
use Rattle.px_window_node.proofs.Refused.{inputs_sound, own_none, parts_told}

-- a cause on groups is a cause of another expression on a frame where each size and each other cause is
group_cause_up : (e : PxError) (p q : Planned) (frame : Frame) (g : Groups) → (2 ^ 32 ≤ size_on p.tree (group_frames frame g) → 2 ^ 32 ≤ size_on q.tree (frame ∷ [])) → (IsOneOf e (group_causes p frame g) → IsOneOf e (causes_on q frame))
    → IsGroupCause e p frame g → IsCause e q frame
group_cause_up OutOfMemory p q frame g s c h = tt
group_cause_up (ComputeError TooLong) p q frame g s c h = s h
group_cause_up _ p q frame g s c h = c h

mutual
  -- over no frames there are no values
  size_none : (e : Tree) → size_on e [] ≡ 0
  size_none (column n) = refl
  size_none (literal v) = refl
  size_none (alias e n) = omega (arith, size_none e)
  size_none (binary l op r) = omega (arith, size_none l, size_none r)
  size_none (ternary p a b) = omega (arith, size_none p, size_none a, size_none b)
  size_none (cast e k options) = omega (arith, size_none e)
  size_none (function es f) = omega (arith, sizes_none es)
  size_none (filter e by) = omega (arith, size_none e, size_none by)
  size_none (slice e offset length) = omega (arith, size_none e, size_none offset, size_none length)
  size_none (gather e idx one) = omega (arith, size_none e, size_none idx)
  size_none (sort e options) = omega (arith, size_none e)
  size_none (sort_by e by options) = omega (arith, size_none e, sizes_none by)
  size_none (agg m e) = omega (arith, size_none e)
  size_none len = refl
  size_none (window f keys order mapping) = omega (arith, size_none f, sizes_none keys, order_size_none order)

  sizes_none : (es : Trees) → sizes_on es [] ≡ 0
  sizes_none no_trees = refl
  sizes_none (one_tree t ts) = omega (arith, size_none t, sizes_none ts)

  order_size_none : (o : Order) → order_size_on o [] ≡ 0
  order_size_none no_order = refl
  order_size_none (ordered t options) = size_none t

-- what the function is refused for on no group at all is a cause
pub window_no_groups_cause : (e : PxError) (w : PlannedWindow) (frame : Frame) (g : Groups) → g.groups ≡ [] → IsGroupCause e w.phys_function frame g → IsCause e (window_plan w) frame
window_no_groups_cause e w frame g none h =
    group_cause_up e w.phys_function (window_plan w) frame g (λ (b : 2 ^ 32 ≤ size_on w.phys_function.tree (group_frames frame g)). absurd (omega (arith, b, ap (size_on w.phys_function.tree) frames, size_none w.phys_function.tree))) (λ k. by (one_split e (group_refusals w.phys_function frame) (flat_map (faults_on w.phys_function.tree) (group_frames frame g)) k)) h
  where
    frames : group_frames frame g ≡ []
    frames = ap (λ ps. map (rows_of_frame frame) (map (λ p. p.rows) ps)) none

    by : IsOneOf e (group_refusals w.phys_function frame) ⊎ IsOneOf e (flat_map (faults_on w.phys_function.tree) (group_frames frame g)) → IsOneOf e (causes_on (window_plan w) frame)
    by (inl k) = function_up w frame e k
    by (inr k) = absurd (subst (λ fs. IsOneOf e (flat_map (faults_on w.phys_function.tree) fs)) frames k)

-- the function's faults on the frames of the parts
faults_apart : (name : Option (List ℕ)) (e : Tree) (frame : Frame) (ps : List (List ℕ)) → flat_map (λ p. faults_on (under name e) (rows_of_frame frame p)) ps ≡ flat_map (faults_on e) (map (rows_of_frame frame) ps)
faults_apart name e frame [] = refl
faults_apart name e frame (p ∷ ps) = λ i. under_faults name e (rows_of_frame frame p) i ++ faults_apart name e frame ps i

-- the cells of a function on the frames of some parts
module _ (p : Planned) (frame : Frame) (c : Context) where
  cells_many : (ps : List (List ℕ)) (xs : List Cell) → AreCellsOn p (map (rows_of_frame frame) ps) (map (named_in c) xs) → length ps ≡ length xs
  cells_many [] [] h = refl
  cells_many [] (x ∷ xs) h = absurd h
  cells_many (q ∷ ps) [] h = absurd h
  cells_many (q ∷ ps) (x ∷ xs) h = ap suc (cells_many ps xs h.1)

  each_cell : (name : Option (List ℕ)) (ps : List (List ℕ)) (xs : List Cell) → AreCellsOn p (map (rows_of_frame frame) ps) (map (named_in c) xs) → each (λ q. made (outcome_on (under name p.tree) (rows_of_frame frame q))) ps ≡ Some xs
  each_cell name [] [] h = refl
  each_cell name [] (x ∷ xs) h = absurd h
  each_cell name (q ∷ ps) [] h = absurd h
  each_cell name (q ∷ ps) (x ∷ xs) h =
      let here : IsCellOf p (rows_of_frame frame q) (named_in c x) = h.0 in
      rw (under_value name p.tree (rows_of_frame frame q) ∙ here.value, each_cell name ps xs h.1) refl

  no_faults : (ps : List (List ℕ)) (xs : List Cell) → AreCellsOn p (map (rows_of_frame frame) ps) (map (named_in c) xs) → flat_map (faults_on p.tree) (map (rows_of_frame frame) ps) ≡ []
  no_faults [] [] h = refl
  no_faults [] (x ∷ xs) h = absurd h
  no_faults (q ∷ ps) [] h = absurd h
  no_faults (q ∷ ps) (x ∷ xs) h =
      let here : IsCellOf p (rows_of_frame frame q) (named_in c x) = h.0 in
      let rest = no_faults ps xs h.1 in
      let none = (parts_of p (rows_of_frame frame q) here.sound).3 in
      λ i. none i ++ rest i

  counted : (ps : List (List ℕ)) (xs : List Cell) → AreCellsOn p (map (rows_of_frame frame) ps) (map (named_in c) xs) → sum (map count_of xs) ≡ counts_on p.tree (map (rows_of_frame frame) ps)
  counted [] [] h = refl
  counted [] (x ∷ xs) h = absurd h
  counted (q ∷ ps) [] h = absurd h
  counted (q ∷ ps) (x ∷ xs) h =
      let here : IsCellOf p (rows_of_frame frame q) (named_in c x) = h.0 in
      let one : count_on p.tree (rows_of_frame frame q) ≡ count_of x = rw here.value refl in
      let rest = counted ps xs h.1 in
      let left : sum (map count_of (x ∷ xs)) ≡ count_of x + sum (map count_of xs) = sum_more count_of x xs in
      let right : counts_on p.tree (map (rows_of_frame frame) (q ∷ ps)) ≡ count_on p.tree (rows_of_frame frame q) + counts_on p.tree (map (rows_of_frame frame) ps) = sum_more (count_on p.tree) (rows_of_frame frame q) (map (rows_of_frame frame) ps) in
      omega (arith, one, rest, left, right)

-- the name, the type and the rows of a column under the name that it is given
out_name : (name : Option (List ℕ)) (s : Series) (e : Tree) → s.name ≡ name_of e → (named_out name s).name ≡ name_of (under name e)
out_name None s e h = h
out_name (Some n) s e h = refl

out_kind : (name : Option (List ℕ)) (s : Series) → s.kind ≡ (named_out name s).kind
out_kind None s = refl
out_kind (Some n) s = refl

out_rows : (name : Option (List ℕ)) (s : Series) → s.slots ≡ (named_out name s).slots
out_rows None s = refl
out_rows (Some n) s = refl

-- the type of a window's column
kind_placed : (mapping : WindowMapping) (c : Context) (one : Bool) → has_units c.layout ≡ one → window_kind mapping one (cell_kind c) ≡ placed_kind mapping c
kind_placed GroupsToRows c true h = refl
kind_placed GroupsToRows c false h = refl
kind_placed Join c true h = rw h refl
kind_placed Join c false h = rw h refl
kind_placed Explode c true h = refl
kind_placed Explode c false h = refl

module _ (w : PlannedWindow) (frame : Frame) (keys : List NamedCell) (order : OrderCell) (g : Groups) (are : AreCellsOf w.group_by frame keys) (is : IsOrderOf w.order_by frame order) (there : window_groups (height frame) keys order ≡ Ok g) where
  columns : AreGroupsOf (height frame) keys order g
  columns = groups_there (height frame) keys order g there

  -- the parts are the rows of the groups
  parts_are : parts_by keys order (height frame) ≡ Ok (rows_of g)
  parts_are =
      let groups = groups_in (height frame) columns.by columns.o g columns.grouped in
      rw (columns.keys_at, columns.order_at) (ap Ok (sym groups.rows))

  parts_there : parts_on (plan_trees w.group_by) (plan_order w.order_by) frame ≡ rows_of g
  parts_there = ap parts_in (parts_told w frame keys order are is ∙ ap Some parts_are)

  frames_there : window_frames (plan_trees w.group_by) (plan_order w.order_by) frame ≡ group_frames frame g
  frames_there = ap (map (rows_of_frame frame)) parts_there

  part_faults_are : part_faults w frame ≡ flat_map (faults_on w.phys_function.tree) (group_frames frame g)
  part_faults_are = ap (flat_map (λ p. faults_on (under w.out_name w.phys_function.tree) (rows_of_frame frame p))) parts_there ∙ faults_apart w.out_name w.phys_function.tree frame (rows_of g)

  -- values of the function on the groups count as the window's
  size_there : size_on w.phys_function.tree (group_frames frame g) ≤ size_on (window_plan w).tree (frame ∷ [])
  size_there = let size = function_size w frame in omega (arith, size, ap (size_on w.phys_function.tree) frames_there)

  -- a cause of the function on the groups is a cause
  pub window_function_cause : (e : PxError) → IsGroupCause e w.phys_function frame g → IsCause e (window_plan w) frame
  window_function_cause e h =
      group_cause_up e w.phys_function (window_plan w) frame g (λ (b : 2 ^ 32 ≤ size_on w.phys_function.tree (group_frames frame g)). omega (arith, b, size_there))
      (λ k. by (one_split e (group_refusals w.phys_function frame) (flat_map (faults_on w.phys_function.tree) (group_frames frame g)) k)) h
    where
      by : IsOneOf e (group_refusals w.phys_function frame) ⊎ IsOneOf e (flat_map (faults_on w.phys_function.tree) (group_frames frame g)) → IsOneOf e (causes_on (window_plan w) frame)
      by (inl k) = function_up w frame e k
      by (inr k) = part_fault_up w frame e (subst (IsOneOf e) (sym part_faults_are) k)

  module _ (c : Context) (of : IsContextOf w.phys_function frame g c) where
    many : length (rows_of g) ≡ length (cells_of c)
    many = cells_many w.phys_function frame c (rows_of g) (cells_of c) of.cells

    -- what the window answers on its parts
    outcome : outcome_on (window_plan w).tree frame ≡ Some (window_cell w.mapping (height frame) (zip (rows_of g) (cells_of c)))
    outcome =
        let cells : List (List ℕ) → Option (List Cell) = λ parts. each (λ p. made (outcome_on (under w.out_name w.phys_function.tree) (rows_of_frame frame p))) parts in
        ap (option_and_then (λ parts. whole_window w.mapping frame parts cells)) (parts_told w frame keys order are is) ∙ ap (λ r. whole_window w.mapping frame r cells) parts_are
        ∙ ap (option_map (λ cs. window_cell w.mapping (height frame) (zip (rows_of g) cs))) (each_cell w.phys_function frame c w.out_name (rows_of g) (cells_of c) of.cells)

    height_is : g.height ≡ height frame
    height_is = let groups = groups_in (height frame) columns.by columns.o g columns.grouped in groups.height

    -- the column that is made is the window's value
    pub window_value : (s : Series) → placed_by w.mapping c g ≡ Ok s → s.name ≡ c.values.name → s.kind ≡ placed_kind w.mapping c → IsValue (window_plan w) frame (named_out w.out_name s)
    window_value s placed name kind = record {
      sound = sound_above w frame (inputs_sound w frame keys order are is) of.sound (own_none w frame keys order are is columns.by columns.o g columns.keys_at columns.order_at columns.grouped) no_part_faults (ap fault_in value);
      name = out_name w.out_name s w.phys_function.tree (name ∙ of.name);
      kind = typed;
      value = ap made value ∙ ap (λ xs. Some (rows xs)) (out_rows w.out_name s);
      unit = λ u. absurd (cc u);
    }
      where
        value : outcome_on (window_plan w).tree frame ≡ Some (Ok (rows s.slots))
        value = outcome ∙ ap Some (subst (λ n. window_cell w.mapping n (zip (rows_of g) (cells_of c)) ≡ Ok (rows s.slots)) height_is (placed_cell w.mapping c g s many placed))

        no_part_faults : part_faults w frame ≡ []
        no_part_faults = part_faults_are ∙ no_faults w.phys_function frame c (rows_of g) (cells_of c) of.cells

        typed : kind_in (window_plan w).tree (scope_of frame) ≡ Some (named_out w.out_name s).kind
        typed =
            (λ i. option_map (window_kind w.mapping (under_unit w.out_name w.phys_function.tree i)) ((under_kind w.out_name w.phys_function.tree (scope_of frame) ∙ of.kind) i))
            ∙ ap Some (kind_placed w.mapping c (is_unit w.phys_function.tree) of.shape ∙ sym kind ∙ out_kind w.out_name s)

    -- why no column is made is a cause
    pub window_place_cause : (e : PxError) → Refuses e (placed_by w.mapping c g) → (e ≡ ComputeError TooLong → 2 ^ 32 ≤ sum (counts_of c)) → IsCause e (window_plan w) frame
    window_place_cause e h long = by (memory_or_refused e (placed_by w.mapping c g) h)
      where
        size : 2 ^ 32 ≤ sum (counts_of c) → 2 ^ 32 ≤ size_on (window_plan w).tree (frame ∷ [])
        size b =
            let all = counted w.phys_function frame c (rows_of g) (cells_of c) of.cells in
            let within = counts_in_size w.phys_function.tree (group_frames frame g) in
            omega (arith, b, all, within, size_there)

        told : (e ≡ ComputeError TooLong) ⊎ ((window_cell w.mapping g.height (zip (rows_of g) (cells_of c)) ≡ Err e) × (e ≡ ComputeError WindowLength)) → IsCause e (window_plan w) frame
        told (inl k) = subst (λ x. IsCause x (window_plan w) frame) (sym k) (size (long k))
        told (inr k) =
            let fault : outcome_on (window_plan w).tree frame ≡ Some (Err e) = outcome ∙ ap Some (subst (λ n. window_cell w.mapping n (zip (rows_of g) (cells_of c)) ≡ Err e) height_is k.0) in
            let among : IsOneOf (ComputeError WindowLength) (causes_on (window_plan w) frame) = subst (λ x. IsOneOf x (causes_on (window_plan w) frame)) k.1 (own_fault_up w frame e fault) in
            subst (λ x. IsCause x (window_plan w) frame) (sym k.1) among

        by : (e ≡ OutOfMemory) ⊎ (placed_by w.mapping c g ≡ Err e) → IsCause e (window_plan w) frame
        by (inl k) = subst (λ x. IsCause x (window_plan w) frame) (sym k) tt
        by (inr k) = told (placing_refused w.mapping c g e k)

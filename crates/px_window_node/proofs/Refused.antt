-- Why a window's keys and order make no groups.
use Rattle.std.proofs.Common.{◌≡◌, ◌⊎◌, inl, inr, ℕ, ◌==◌, Bool, true, false, not, cond, ◌&&◌, ◌||◌, List, [], ◌∷◌, ◌++◌, Option, Some, None, option_and_then, option_map, Result, Ok, Err, length, map, replicate, refl, sym, ◌∙◌, ap, subst, arith}
use Rattle.std.specs.List.{flat_map, list_any}
use Rattle.std.proofs.lemmas.Bool.Decides.{nat_tests}
use Rattle.std.proofs.lemmas.Grind.{flat_map-append}
use Rattle.std.proofs.lemmas.List.{length-replicate}
use Rattle.px_column.specs.Option.{each}
use Rattle.px_column.specs.Prelude.{Refuses, Series, Slot, is_list_kind}
use Rattle.px_column.specs.Result.{◌>>=◌}
use Rattle.px_value.specs.declared.error.ComputeWhy.TheVariants.{NoKey, TooLong}
use Rattle.px_value.specs.declared.error.InvalidWhy.TheVariants.{ListKey}
use Rattle.px_value.specs.declared.error.PxError.{PxError}
use Rattle.px_value.specs.declared.error.PxError.TheVariants.{ComputeError, InvalidOperation, OutOfMemory, ShapeMismatch}
use Rattle.px_value.specs.declared.sort_options.SortOptions.{SortOptions}
use Rattle.px_frame.specs.Cell.{Cell, unit, rows}
use Rattle.px_frame.specs.External.{Frame, height, rows_of_frame, scope_of}
use Rattle.px_frame.specs.Frame.{all_have_height, has_height}
use Rattle.px_frame.specs.Groups.{Groups, group_of, is_list}
use Rattle.px_frame.specs.Ordered.{ordered_parts}
use Rattle.px_frame.specs.Spread.{NamedCell, before_all, spread, spread_all, spread_column, with_slots}
use Rattle.px_nodes.specs.Named.{kinds_of}
use Rattle.px_tree.proofs.KindLaws.{none_left}
use Rattle.px_tree.specs.Shape.{name_of}
use Rattle.px_tree.specs.Typing.{fails, no_key_refusal, not_list, or_first, order_kind, own_refusals, refusals_of, refused_where}
use Rattle.px_tree.specs.Value.{made, named, named_on, order_on, outcome_on, whole_window, window_parts}
use Rattle.px_tree.specs.Window.{OrderCell, order_column, parts_by}
use Rattle.px_tree.specs.declared.context.Context.TheVariants.{Aggregation, Default}
use Rattle.px_answers.proofs.Applied.{shape_cause, spread_refused}
use Rattle.px_answers.proofs.InputLists.{inputs_of}
use Rattle.px_answers.proofs.Inputs.{all_none, parts_of}
use Rattle.px_answers.proofs.Plain.{is_plain}
use Rattle.px_answers.specs.Parts.{PlannedWindow, plan_order, plan_trees, under, window_plan}
use Rattle.px_answers.specs.Planned.{Planned}
use Rattle.px_answers.specs.Value.{AreCellsOf, IsCause, IsCellOf, IsOneOf, causes_on, has_misfit_column, unfound_refusal}
use Rattle.px_group_answers.specs.OnGroups.{group_refusals}
use Rattle.px_window.specs.Key.{grouped_in, with_order}
use Rattle.px_window_node.specs.Grouped.{window_groups}
use Rattle.px_window_node.specs.Inputs.{IsOrderOf}
use Rattle.px_window_node.proofs.Apart.{inputs, order_plans, own_fault_up, refusal_up, refusals_apart}
use Rattle.px_window_node.proofs.Grouping.{chosen, memory_or_refused}

-- columns of cells have the cells' types
spread_lists : (n : ℕ) (cs : List NamedCell) (ss : List Series) → spread_all n cs ≡ Ok ss → list_any is_list ss ≡ list_any is_list_kind (kinds_of cs)
spread_lists n [] ss e = let same : ss ≡ [] = cc in ap (list_any is_list) same
spread_lists n (c ∷ cs) ss e = by (spread n c.cell) (spread_all n cs) (spread_lists n cs) e
  where
    by : (r : Result (List Slot) PxError) (rs : Result (List Series) PxError) → ((ts : List Series) → rs ≡ Ok ts → list_any is_list ts ≡ list_any is_list_kind (kinds_of cs)) → before_all (with_slots c r) rs ≡ Ok ss
        → list_any is_list ss ≡ (is_list_kind c.kind || list_any is_list_kind (kinds_of cs))
    by (Ok xs) (Ok ts) rest h = let same : ss ≡ record { name = c.name; kind = c.kind; slots = xs } ∷ ts = cc in ap (list_any is_list) same ∙ ap (λ b. is_list_kind c.kind || b) (rest ts refl)
    by (Ok xs) (Err x) rest h = absurd (cc h)
    by (Err x) rs rest h = absurd (cc h)

same_number : (m n : ℕ) → m ≡ n → (m == n) ≡ true
same_number m n h = grind (arith, nat_tests)

-- and the height that is asked for
spread_height : (n : ℕ) (c : Cell) (xs : List Slot) → spread n c ≡ Ok xs → (length xs == n) ≡ true
spread_height n (unit s) xs e = let same : xs ≡ replicate n s = cc in same_number (length xs) n (ap length same ∙ length-replicate n s)
spread_height n (rows ys) xs e = by (length ys == n) refl e
  where
    by : (b : Bool) → (length ys == n) ≡ b → cond b (Ok ys) (Err ShapeMismatch) ≡ Ok xs → (length xs == n) ≡ true
    by true h f = let same : xs ≡ ys = cc in ap (λ zs. length zs == n) same ∙ h
    by false h f = absurd (cc f)

column_height : (n : ℕ) (c : NamedCell) (s : Series) → spread_column n c ≡ Ok s → (has_height n s ≡ true) × (s.kind ≡ c.kind)
column_height n c s e = by (spread n c.cell) (spread_height n c.cell) e
  where
    by : (r : Result (List Slot) PxError) → ((xs : List Slot) → r ≡ Ok xs → (length xs == n) ≡ true) → with_slots c r ≡ Ok s → (has_height n s ≡ true) × (s.kind ≡ c.kind)
    by (Ok xs) one h = let same : s ≡ record { name = c.name; kind = c.kind; slots = xs } = cc in (ap (has_height n) same ∙ one xs refl, ap (λ (t : Series). t.kind) same)
    by (Err x) one h = absurd (cc h)

spread_heights : (n : ℕ) (cs : List NamedCell) (ss : List Series) → spread_all n cs ≡ Ok ss → all_have_height n ss ≡ true
spread_heights n [] ss e = let same : ss ≡ [] = cc in ap (all_have_height n) same
spread_heights n (c ∷ cs) ss e = by (spread_column n c) (column_height n c) (spread_all n cs) (spread_heights n cs) e
  where
    by : (r : Result Series PxError) → ((s : Series) → r ≡ Ok s → (has_height n s ≡ true) × (s.kind ≡ c.kind)) → (rs : Result (List Series) PxError) → ((ts : List Series) → rs ≡ Ok ts → all_have_height n ts ≡ true) → before_all r rs ≡ Ok ss → all_have_height n ss ≡ true
    by (Ok s) one (Ok ts) rest h = let same : ss ≡ s ∷ ts = cc in ap (all_have_height n) same ∙ (λ i. (one s refl).0 i && rest ts refl i)
    by (Ok s) one (Err x) rest h = absurd (cc h)
    by (Err x) one rs rest h = absurd (cc h)

-- cells that cannot stand at so many rows
cell_unspread : (n : ℕ) (c : NamedCell) (e : PxError) → spread_column n c ≡ Err e → e ≡ ShapeMismatch
cell_unspread n c e h = by (spread n c.cell) (spread_refused n c.cell) h
  where
    by : (r : Result (List Slot) PxError) → ((x : PxError) → r ≡ Err x → x ≡ ShapeMismatch) → with_slots c r ≡ Err e → e ≡ ShapeMismatch
    by (Ok xs) only k = absurd (cc k)
    by (Err x) only k = let same : x ≡ e = cc in sym same ∙ only x refl

cells_unspread : (n : ℕ) (cs : List NamedCell) (e : PxError) → spread_all n cs ≡ Err e → e ≡ ShapeMismatch
cells_unspread n [] e h = absurd (cc h)
cells_unspread n (c ∷ cs) e h = by (spread_column n c) (cell_unspread n c) (spread_all n cs) (cells_unspread n cs) h
  where
    by : (r : Result Series PxError) → ((x : PxError) → r ≡ Err x → x ≡ ShapeMismatch) → (rs : Result (List Series) PxError) → ((x : PxError) → rs ≡ Err x → x ≡ ShapeMismatch) → before_all r rs ≡ Err e → e ≡ ShapeMismatch
    by (Ok s) one (Ok ts) rest k = absurd (cc k)
    by (Ok s) one (Err x) rest k = let same : x ≡ e = cc in sym same ∙ rest x refl
    by (Err x) one rs rest k = let same : x ≡ e = cc in sym same ∙ one x refl

order_unspread : (n : ℕ) (order : OrderCell) (e : PxError) → order_column n order ≡ Err e → e ≡ ShapeMismatch
order_unspread n None e h = absurd (cc h)
order_unspread n (Some c) e h = by (spread_column n c.0) (cell_unspread n c.0) h
  where
    by : (r : Result Series PxError) → ((x : PxError) → r ≡ Err x → x ≡ ShapeMismatch) → (◌>>=◌ {B = Option (Series × SortOptions)} r (λ s. Ok (Some (s, c.1)))) ≡ Err e → e ≡ ShapeMismatch
    by (Ok s) only k = absurd (cc k)
    by (Err x) only k = let same : x ≡ e = cc in sym same ∙ only x refl

-- without a column to group by there is no key
abbrev no_column : List Series → List PxError
no_column [] = ComputeError NoKey ∷ []
no_column (s ∷ by) = []

no_keys : (ps : List Planned) (frame : Frame) (cs : List NamedCell) (n : ℕ) (by : List Series) → AreCellsOf ps frame cs → spread_all n cs ≡ Ok by → no_key_refusal (plan_trees ps) ≡ no_column by
no_keys [] frame [] n by h e = let same : by ≡ [] = cc in ap no_column (sym same)
no_keys [] frame (c ∷ cs) n by h e = absurd h
no_keys (p ∷ ps) frame [] n by h e = absurd h
no_keys (p ∷ ps) frame (c ∷ cs) n by h e = some (spread_column n c) (spread_all n cs) e
  where
    some : (r : Result Series PxError) (rs : Result (List Series) PxError) → before_all r rs ≡ Ok by → [] ≡ no_column by
    some (Ok s) (Ok ts) k = let same : by ≡ s ∷ ts = cc in ap no_column (sym same)
    some (Ok s) (Err x) k = absurd (cc k)
    some (Err x) rs k = absurd (cc k)

-- whether rows are ordered by a column of lists
abbrev is_list_order : Option (Series × SortOptions) → Bool
is_list_order None = false
is_list_order (Some o) = is_list o.0

-- what the order's column says of it
record IsOrdered (n : ℕ) (o : Option (Series × SortOptions)) (listed : Bool) : Type 0 where
  pub lists : listed ≡ is_list_order o
  pub heights : (by : List Series) → all_have_height n by ≡ true → all_have_height n (with_order o by) ≡ true

twice_not : (b : Bool) → not (not b) ≡ b
twice_not true = refl
twice_not false = refl

order_is : (p : Option (Planned × SortOptions)) (frame : Frame) (order : OrderCell) (n : ℕ) (o : Option (Series × SortOptions)) → IsOrderOf p frame order → order_column n order ≡ Ok o → IsOrdered n o (fails not_list (order_kind (plan_order p) (scope_of frame)))
order_is None frame None n o h e = let same : o ≡ None = cc in subst (λ (x : Option (Series × SortOptions)). IsOrdered n x false) (sym same) (record { lists = refl; heights = λ by k. k })
order_is None frame (Some c) n o h e = absurd h
order_is (Some p) frame None n o h e = absurd h
order_is (Some p) frame (Some c) n o h e = subst (λ b. IsOrdered n o (fails not_list b)) (sym h.0.kind) (by (spread_column n c.0) (column_height n c.0) e)
  where
    by : (r : Result Series PxError) → ((s : Series) → r ≡ Ok s → (has_height n s ≡ true) × (s.kind ≡ c.0.kind)) → (◌>>=◌ {B = Option (Series × SortOptions)} r (λ s. Ok (Some (s, c.1)))) ≡ Ok o → IsOrdered n o (not (not (is_list_kind c.0.kind)))
    by (Ok s) one k =
        let found = one s refl in
        let same : o ≡ Some (s, c.1) = cc in
        subst (λ (x : Option (Series × SortOptions)). IsOrdered n x (not (not (is_list_kind c.0.kind)))) (sym same)
        (record { lists = twice_not (is_list_kind c.0.kind) ∙ ap is_list_kind (sym found.1); heights = λ cs high i. found.0 i && high i })
    by (Err x) one k = absurd (cc k)

or_with : (a b : Bool) → (a || b) ≡ (b || a)
or_with true true = refl
or_with true false = refl
or_with false true = refl
or_with false false = refl

or_none : (a : Bool) → (a || false) ≡ a
or_none true = refl
or_none false = refl

-- a list among the columns, the order's being one of them
lists_with : (by : List Series) (o : Option (Series × SortOptions)) → (list_any is_list by || is_list_order o) ≡ list_any is_list (with_order o by)
lists_with by None = or_none (list_any is_list by)
lists_with by (Some o) = or_with (list_any is_list by) (is_list o.0)

-- what is refused of columns
abbrev refused_of : List Series → Option (Series × SortOptions) → List PxError
refused_of by o = no_column by ++ refused_where (list_any is_list (with_order o by)) (InvalidOperation ListKey)

-- columns of the height are refused for that alone
grouped_refused : (n : ℕ) (by : List Series) (o : Option (Series × SortOptions)) (e : PxError) → all_have_height n (with_order o by) ≡ true → grouped_in n by o ≡ Err e → (is_plain e ≡ true) × ((e ≡ ShapeMismatch → ⊥) × (or_first [] (refused_of by o) ≡ e ∷ []))
grouped_refused n [] o e h k =
    let same : ComputeError NoKey ≡ e = cc in
    subst (λ x. (is_plain x ≡ true) × ((x ≡ ShapeMismatch → ⊥) × (ComputeError NoKey ∷ [] ≡ x ∷ []))) same (refl, ((λ z. cc z), refl))
grouped_refused n (s ∷ by) o e h k = among (list_any is_list (with_order o (s ∷ by))) (all_have_height n (with_order o (s ∷ by))) h k
  where
    among : (l b : Bool) → b ≡ true → chosen l b (record { height = n; groups = map group_of (ordered_parts (s ∷ by) o n) }) ≡ Err e
        → (is_plain e ≡ true) × ((e ≡ ShapeMismatch → ⊥) × (or_first [] (refused_where l (InvalidOperation ListKey)) ≡ e ∷ []))
    among true b i j =
        let same : InvalidOperation ListKey ≡ e = cc in
        subst (λ x. (is_plain x ≡ true) × ((x ≡ ShapeMismatch → ⊥) × (InvalidOperation ListKey ∷ [] ≡ x ∷ []))) same (refl, ((λ z. cc z), refl))
    among false true i j = absurd (cc j)
    among false false i j = absurd (cc i)

-- and not where they make groups
grouped_unrefused : (n : ℕ) (by : List Series) (o : Option (Series × SortOptions)) (g : Groups) → grouped_in n by o ≡ Ok g → or_first [] (refused_of by o) ≡ []
grouped_unrefused n [] o g k = absurd (cc k)
grouped_unrefused n (s ∷ by) o g k = among (list_any is_list (with_order o (s ∷ by))) k
  where
    among : (l : Bool) → chosen l (all_have_height n (with_order o (s ∷ by))) (record { height = n; groups = map group_of (ordered_parts (s ∷ by) o n) }) ≡ Ok g
        → or_first [] (refused_where l (InvalidOperation ListKey)) ≡ []
    among true j = absurd (cc j)
    among false j = refl

-- cells under their names and types are an expression's
named_cell_of : (p : Planned) (frame : Frame) (c : NamedCell) → IsCellOf p frame c → option_and_then (named p.tree frame) (made (outcome_on p.tree frame)) ≡ Some c
named_cell_of p frame c is = rw is.value (ap (option_map (λ k. record { name = name_of p.tree; kind = k; cell = c.cell })) is.kind ∙ (λ i. Some (record { name = sym is.name i; kind = c.kind; cell = c.cell })))

named_keys : (ps : List Planned) (frame : Frame) (cs : List NamedCell) → AreCellsOf ps frame cs → named_on (plan_trees ps) frame ≡ Some cs
named_keys [] frame [] h = refl
named_keys [] frame (c ∷ cs) h = absurd h
named_keys (p ∷ ps) frame [] h = absurd h
named_keys (p ∷ ps) frame (c ∷ cs) h = rw (named_cell_of p frame c h.0, named_keys ps frame cs h.1) refl

named_order : (o : Option (Planned × SortOptions)) (frame : Frame) (order : OrderCell) → IsOrderOf o frame order → order_on (plan_order o) frame ≡ Some order
named_order None frame None h = refl
named_order None frame (Some c) h = absurd h
named_order (Some o) frame None h = absurd h
named_order (Some o) frame (Some c) h = rw (named_cell_of o.0 frame c.0 h.0) (λ i. Some (Some (c.0, sym h.1 i)))

-- they are causes of nothing
cells_sound : (ps : List Planned) (frame : Frame) (cs : List NamedCell) → AreCellsOf ps frame cs → flat_map (λ (p : Planned). causes_on p frame) ps ≡ []
cells_sound [] frame [] h = refl
cells_sound [] frame (c ∷ cs) h = absurd h
cells_sound (p ∷ ps) frame [] h = absurd h
cells_sound (p ∷ ps) frame (c ∷ cs) h = let here : IsCellOf p frame c = h.0 in let rest = cells_sound ps frame cs h.1 in λ i. here.sound i ++ rest i

order_sound : (o : Option (Planned × SortOptions)) (frame : Frame) (order : OrderCell) → IsOrderOf o frame order → flat_map (λ (p : Planned). causes_on p frame) (order_plans o) ≡ []
order_sound None frame order h = refl
order_sound (Some o) frame None h = absurd h
order_sound (Some o) frame (Some c) h = let here : IsCellOf o.0 frame c.0 = h.0 in λ i. here.sound i ++ []

plain_cause : (e : PxError) (p : Planned) (frame : Frame) → is_plain e ≡ true → IsOneOf e (causes_on p frame) → IsCause e p frame
plain_cause OutOfMemory p frame i h = tt
plain_cause (ComputeError TooLong) p frame i h = absurd (cc i)
plain_cause _ p frame i h = h

module _ (w : PlannedWindow) (frame : Frame) (keys : List NamedCell) (order : OrderCell) (are : AreCellsOf w.group_by frame keys) (is : IsOrderOf w.order_by frame order) where
  -- the parts are those of the cells
  pub parts_told : window_parts (named_on (plan_trees w.group_by) frame) (order_on (plan_order w.order_by) frame) frame ≡ Some (parts_by keys order (height frame))
  parts_told = rw (named_keys w.group_by frame keys are, named_order w.order_by frame order is) refl

  -- no input is a cause
  pub inputs_sound : flat_map (λ (p : Planned). causes_on p frame) (inputs w) ≡ []
  inputs_sound =
      flat_map-append (λ (p : Planned). causes_on p frame) w.group_by (order_plans w.order_by)
      ∙ (λ i. cells_sound w.group_by frame keys are i ++ order_sound w.order_by frame order is i)

  -- the window's own refusals are those of the columns
  own_told : (by : List Series) (o : Option (Series × SortOptions)) → spread_all (height frame) keys ≡ Ok by → order_column (height frame) order ≡ Ok o → own_refusals (window_plan w).tree (scope_of frame) Default ≡ refused_of by o
  own_told by o a b =
      let all = inputs_of w.group_by frame keys are in
      let ordered = order_is w.order_by frame order (height frame) o is b in
      let listed = lists_with by o in
      let same = spread_lists (height frame) keys by a in
      rw (no_keys w.group_by frame keys (height frame) by are a, all.kinds, ordered.lists, ← same, listed) refl

  pub own_none : (by : List Series) (o : Option (Series × SortOptions)) (g : Groups) → spread_all (height frame) keys ≡ Ok by → order_column (height frame) order ≡ Ok o → grouped_in (height frame) by o ≡ Ok g
      → or_first [] (own_refusals (window_plan w).tree (scope_of frame) Default) ≡ []
  own_none by o g a b k = ap (or_first []) (own_told by o a b) ∙ grouped_unrefused (height frame) by o g k

  -- why there are no groups: a cell cannot stand at the rows, which is the window's fault, or it is the window's own first refusal
  abbrev IsTold : PxError → Type 0
  IsTold e =
      ((e ≡ ShapeMismatch) × (outcome_on (window_plan w).tree frame ≡ Some (Err e)))
      ⊎ ((is_plain e ≡ true) × ((e ≡ ShapeMismatch → ⊥) × (or_first [] (own_refusals (window_plan w).tree (scope_of frame) Default) ≡ e ∷ [])))

  -- a refusal of the parts is the window's fault
  parts_fault : (e : PxError) → parts_by keys order (height frame) ≡ Err e → outcome_on (window_plan w).tree frame ≡ Some (Err e)
  parts_fault e h =
      let cells : List (List ℕ) → Option (List Cell) = λ parts. each (λ p. made (outcome_on (under w.out_name w.phys_function.tree) (rows_of_frame frame p))) parts in
      ap (option_and_then (λ parts. whole_window w.mapping frame parts cells)) parts_told ∙ ap (λ r. whole_window w.mapping frame r cells) h

  groups_told : (e : PxError) → window_groups (height frame) keys order ≡ Err e → IsTold e
  groups_told e h = by (spread_all (height frame) keys) refl (order_column (height frame) order) refl h
    where
      by : (r : Result (List Series) PxError) → spread_all (height frame) keys ≡ r → (s : Result (Option (Series × SortOptions)) PxError) → order_column (height frame) order ≡ s
          → (r >>= λ cs. s >>= λ o. grouped_in (height frame) cs o) ≡ Err e → IsTold e
      by (Ok cs) a (Ok o) b k =
          let ordered = order_is w.order_by frame order (height frame) o is b in
          let refused = grouped_refused (height frame) cs o e (ordered.heights cs (spread_heights (height frame) keys cs a)) k in
          inr (refused.0, (refused.1.0, ap (or_first []) (own_told cs o a b) ∙ refused.1.1))
      by (Ok cs) a (Err x) b k =
          let same : x ≡ e = cc in
          inl (sym same ∙ order_unspread (height frame) order x b, parts_fault e (rw (a, b) (ap Err same)))
      by (Err x) a s b k =
          let same : x ≡ e = cc in
          inl (sym same ∙ cells_unspread (height frame) keys x a, parts_fault e (rw a (ap Err same)))

  shape_told : (e : PxError) → (e ≡ ShapeMismatch) × (outcome_on (window_plan w).tree frame ≡ Some (Err e)) → IsCause e (window_plan w) frame
  shape_told e k = shape_cause e (window_plan w) frame k.0 (own_fault_up w frame e k.1)

  -- a key or an order of another length is a cause
  pub window_shape_cause : window_groups (height frame) keys order ≡ Err ShapeMismatch → IsCause ShapeMismatch (window_plan w) frame
  window_shape_cause h = by (groups_told ShapeMismatch h)
    where
      by : IsTold ShapeMismatch → IsCause ShapeMismatch (window_plan w) frame
      by (inl k) = shape_told ShapeMismatch k
      by (inr k) = absurd (k.1.0 refl)

  -- and so is any refusal of the groups, where the function is not refused
  pub window_groups_cause : (e : PxError) → group_refusals w.phys_function frame ≡ [] → Refuses e (window_groups (height frame) keys order) → IsCause e (window_plan w) frame
  window_groups_cause e sound h = by (memory_or_refused e (window_groups (height frame) keys order) h)
    where
      alone : refusals_of (window_plan w).tree (scope_of frame) Default ≡ or_first [] (own_refusals (window_plan w).tree (scope_of frame) Default)
      alone =
          let types = refusals_of w.phys_function.tree (scope_of frame) Aggregation in
          let columns = flat_map (unfound_refusal frame) w.phys_function.columns in
          let function : types ≡ [] = none_left types columns (none_left (types ++ columns) (refused_where (has_misfit_column w.phys_function frame) ShapeMismatch) sound) in
          refusals_apart w frame ∙ (λ i. or_first (function i ++ untyped i) (own_refusals (window_plan w).tree (scope_of frame) Default))
        where
          untyped : flat_map (λ (p : Planned). refusals_of p.tree (scope_of frame) Default) (inputs w) ≡ []
          untyped = all_none (λ (p : Planned). causes_on p frame) (λ (p : Planned). refusals_of p.tree (scope_of frame) Default) (inputs w) (λ p k. (parts_of p frame k).0) inputs_sound

      told : IsTold e → IsCause e (window_plan w) frame
      told (inl k) = shape_told e k
      told (inr k) = plain_cause e (window_plan w) frame k.0 (refusal_up w frame e (subst (IsOneOf e) (sym (alone ∙ k.1.1)) (inl refl)))

      by : (e ≡ OutOfMemory) ⊎ (window_groups (height frame) keys order ≡ Err e) → IsCause e (window_plan w) frame
      by (inl k) = subst (λ x. IsCause x (window_plan w) frame) (sym k) tt
      by (inr k) = told (groups_told e k)

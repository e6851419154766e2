-- Elementwise and partition safe expressions have no more values than rows, or one for each list of rows; and no windows.
use Rattle.std.proofs.Common.{◌≡◌, ℕ, ◌≤◌, Bool, true, false, ◌&&◌, List, [], ◌∷◌, ◌++◌, Option, Some, None, Ok, length, map, refl, sym, ◌∙◌, ap, subst, arith}
use Rattle.std.specs.List.{list_any, sum_by}
use Rattle.std.specs.Option.{option_map_or}
use Rattle.std.proofs.lemmas.List.Sums.{sum_by-cons}
use Rattle.px_column.specs.Prelude.{Slot}
use Rattle.px_value.proofs.FitLaws.{both}
use Rattle.px_value.specs.declared.method.GroupByMethod.{GroupByMethod}
use Rattle.px_frame.specs.Cell.{Cell, unit, rows, count_of, cell_of}
use Rattle.px_frame.specs.External.{Frame, scope_of, rows_of_frame}
use Rattle.px_tree.specs.Cost.{windows_in, all_windows_in}
use Rattle.px_tree.specs.Node.{reduction_cell}
use Rattle.px_tree.specs.Nodes.{leaf_names, all_leaf_names}
use Rattle.px_tree.specs.Partition.{is_elementwise, are_elementwise, is_row_function, is_merged_method, is_partition_safe}
use Rattle.px_tree.specs.Size.{count_on, counts_on, size_on, sizes_on}
use Rattle.px_tree.specs.Tree.{Tree, called, Trees, no_trees, one_tree, column, literal, alias, binary, ternary, cast, function, filter, slice, gather, sort, sort_by, agg, len, window}
use Rattle.px_tree.specs.Typing.{Scope, kind_in}
use Rattle.px_tree.specs.Value.{value_on, outcome_on, made, is_misfit}
use Rattle.px_cuts.specs.Sizes.{rows_or_one}
use Rattle.px_laws.proofs.Joining.{no_misfits, under_name}
use Rattle.px_laws.proofs.RowCount.{IsLong, value_long}
use Rattle.px_laws.proofs.Shapes.{made_bound, made_ok}

-- a cell of a list of rows
cell_within : (p : List ℕ) (c : Cell) → IsLong (length p) c → count_of c ≤ rows_or_one p
cell_within p (unit s) h = omega arith
cell_within p (rows xs) h = omega (arith, h)

-- an answer that is no larger than the rows_or_one
answer_within : (o : Option Cell) (n : ℕ) → ((c : Cell) → o ≡ Some c → count_of c ≤ n) → option_map_or count_of o 0 ≤ n
answer_within None n h = omega arith
answer_within (Some c) n h = h c refl

-- counts over some lists
counts_within : (e : Tree) (frame : Frame) (ps : List (List ℕ)) → ((p : List ℕ) → count_on e (rows_of_frame frame p) ≤ rows_or_one p) → counts_on e (map (rows_of_frame frame) ps) ≤ sum_by rows_or_one ps
counts_within e frame [] h = omega arith
counts_within e frame (p ∷ ps) h =
    let first = h p in
    let rest = counts_within e frame ps h in
    let sum_is = sum_by-cons (λ (n : ℕ). n) (count_on e (rows_of_frame frame p)) (map (count_on e) (map (rows_of_frame frame) ps)) in
    let own_is = sum_by-cons rows_or_one p ps in
    omega (arith, first, rest, sum_is, own_is)

elementwise_within : (e : Tree) (s : Scope) (frame : Frame) (ps : List (List ℕ)) → is_elementwise e s ≡ true → list_any (is_misfit frame) (leaf_names e) ≡ false → counts_on e (map (rows_of_frame frame) ps) ≤ sum_by rows_or_one ps
elementwise_within e s frame ps w m = counts_within e frame ps (λ p. answer_within (value_on e (rows_of_frame frame p)) (rows_or_one p) (λ c h. cell_within p c (value_long e s frame p c w m h)))

mutual
  -- an elementwise expression's size over the frames of some lists of rows
  pub size_within : (e : Tree) (s : Scope) (frame : Frame) (ps : List (List ℕ)) → is_elementwise e s ≡ true → list_any (is_misfit frame) (leaf_names e) ≡ false → size_on e (map (rows_of_frame frame) ps) ≤ sum_by rows_or_one ps
  size_within (column n) s frame ps w m = elementwise_within (column n) s frame ps w m
  size_within (literal v) s frame ps w m = elementwise_within (literal v) s frame ps w m
  size_within (alias e n) s frame ps w m = let own = elementwise_within (alias e n) s frame ps w m in let inner = size_within e s frame ps w m in omega (arith, own, inner)
  size_within (binary l op r) s frame ps w m =
      let ew = both (is_elementwise l s) (is_elementwise r s) w in
      let ms = no_misfits frame (leaf_names l) (leaf_names r) m in
      let own = elementwise_within (binary l op r) s frame ps w m in
      let a = size_within l s frame ps ew.0 ms.0 in
      let b = size_within r s frame ps ew.1 ms.1 in
      omega (arith, own, a, b)
  size_within (ternary t l r) s frame ps w m =
      let ew = both (is_elementwise t s) (is_elementwise l s && is_elementwise r s) w in
      let ev = both (is_elementwise l s) (is_elementwise r s) ew.1 in
      let ms = no_misfits frame (leaf_names t) (leaf_names l ++ leaf_names r) m in
      let ns = no_misfits frame (leaf_names l) (leaf_names r) ms.1 in
      let own = elementwise_within (ternary t l r) s frame ps w m in
      let a = size_within t s frame ps ew.0 ms.0 in
      let b = size_within l s frame ps ev.0 ns.0 in
      let c = size_within r s frame ps ev.1 ns.1 in
      omega (arith, own, a, b, c)
  size_within (cast e k o) s frame ps w m = let own = elementwise_within (cast e k o) s frame ps w m in let inner = size_within e s frame ps w m in omega (arith, own, inner)
  size_within (function es f) s frame ps w m =
      let ew = both (is_row_function (called f)) (are_elementwise es s) w in
      let own = elementwise_within (function es f) s frame ps w m in
      let inner = sizes_within es s frame ps ew.1 m in
      omega (arith, own, inner)
  size_within (filter e by) s frame ps w m = absurd cc
  size_within (slice e offset size) s frame ps w m = absurd cc
  size_within (gather e idx one) s frame ps w m = absurd cc
  size_within (sort e o) s frame ps w m = absurd cc
  size_within (sort_by e by o) s frame ps w m = absurd cc
  size_within (agg f e) s frame ps w m = absurd cc
  size_within len s frame ps w m = absurd cc
  size_within (window f keys order mapping) s frame ps w m = absurd cc

  sizes_within : (es : Trees) (s : Scope) (frame : Frame) (ps : List (List ℕ)) → are_elementwise es s ≡ true → list_any (is_misfit frame) (all_leaf_names es) ≡ false → sizes_on es (map (rows_of_frame frame) ps) ≤ sum_by rows_or_one ps
  sizes_within no_trees s frame ps w m = omega arith
  sizes_within (one_tree t ts) s frame ps w m =
      let ew = both (is_elementwise t s) (are_elementwise ts s) w in
      let ms = no_misfits frame (leaf_names t) (all_leaf_names ts) m in
      let a = size_within t s frame ps ew.0 ms.0 in
      let b = sizes_within ts s frame ps ew.1 ms.1 in
      omega (arith, a, b)

-- a reduction is one value
one_value : (b : Bool) (x : Slot) → count_of (cell_of b (x ∷ [])) ≡ 1
one_value true x = refl
one_value false x = refl

reduction_within : (m : GroupByMethod) (e : Tree) (frame : Frame) (p : List ℕ) (c : Cell) → value_on (agg m e) (rows_of_frame frame p) ≡ Some c → count_of c ≤ rows_or_one p
reduction_within m e frame p c h =
    let k = made_bound (kind_in e (scope_of (rows_of_frame frame p))) _ c h in
    let x = made_bound (made (outcome_on e (rows_of_frame frame p))) _ c k.2 in
    let same : Ok (reduction_cell m k.0 x.0) ≡ Ok c = made_ok (Ok (reduction_cell m k.0 x.0)) c x.2 in
    let cell : reduction_cell m k.0 x.0 ≡ c = cc in
    let one : count_of c ≡ 1 = ap count_of (sym cell) ∙ one_value _ _ in
    omega (arith, one)

-- a partition safe expression's size
pub safe_within : (e : Tree) (s : Scope) (frame : Frame) (ps : List (List ℕ)) → is_partition_safe e s ≡ true → list_any (is_misfit frame) (leaf_names e) ≡ false → (size_on e (map (rows_of_frame frame) ps) ≤ sum_by rows_or_one ps) × ((p : List ℕ) → count_on e (rows_of_frame frame p) ≤ rows_or_one p)
safe_within (alias e n) s frame ps w m =
    let inner = safe_within e s frame ps w m in
    let own = λ (p : List ℕ). subst (λ k. k ≤ rows_or_one p) (ap (λ o. option_map_or count_of o 0) (sym (under_name (value_on e (rows_of_frame frame p))))) (inner.1 p) in
    let counts = counts_within (alias e n) frame ps own in
    let size = inner.0 in
    (omega (arith, counts, size), own)
safe_within (agg f e) s frame ps w m =
    let own = λ (p : List ℕ). answer_within (value_on (agg f e) (rows_of_frame frame p)) (rows_or_one p) (reduction_within f e frame p) in
    let counts = counts_within (agg f e) frame ps own in
    let inner = size_within e s frame ps (both (is_merged_method f) (is_elementwise e s) w).1 m in
    (omega (arith, counts, inner), own)
safe_within len s frame ps w m =
    let own = λ (p : List ℕ). let one : 1 ≤ rows_or_one p = omega arith in one in
    (counts_within len frame ps own, own)
safe_within e s frame ps w m = absurd cc

mutual
  -- an elementwise expression has no window
  pub windows_none : (e : Tree) (s : Scope) → is_elementwise e s ≡ true → windows_in e ≡ 0
  windows_none (column n) s w = refl
  windows_none (literal v) s w = refl
  windows_none (alias e n) s w = windows_none e s w
  windows_none (binary l op r) s w =
      let ew = both (is_elementwise l s) (is_elementwise r s) w in
      let a = windows_none l s ew.0 in let b = windows_none r s ew.1 in omega (arith, a, b)
  windows_none (ternary t l r) s w =
      let ew = both (is_elementwise t s) (is_elementwise l s && is_elementwise r s) w in
      let ev = both (is_elementwise l s) (is_elementwise r s) ew.1 in
      let a = windows_none t s ew.0 in let b = windows_none l s ev.0 in let c = windows_none r s ev.1 in omega (arith, a, b, c)
  windows_none (cast e k o) s w = windows_none e s w
  windows_none (function es f) s w = all_windows_none es s (both (is_row_function (called f)) (are_elementwise es s) w).1
  windows_none (filter e by) s w = cc
  windows_none (slice e offset size) s w = cc
  windows_none (gather e idx one) s w = cc
  windows_none (sort e o) s w = cc
  windows_none (sort_by e by o) s w = cc
  windows_none (agg f e) s w = cc
  windows_none len s w = cc
  windows_none (window f keys order mapping) s w = cc

  all_windows_none : (es : Trees) (s : Scope) → are_elementwise es s ≡ true → all_windows_in es ≡ 0
  all_windows_none no_trees s w = refl
  all_windows_none (one_tree t ts) s w =
      let ew = both (is_elementwise t s) (are_elementwise ts s) w in
      let a = windows_none t s ew.0 in let b = all_windows_none ts s ew.1 in omega (arith, a, b)

pub safe_size : (e : Tree) (s : Scope) (frame : Frame) (ps : List (List ℕ)) → is_partition_safe e s ≡ true → list_any (is_misfit frame) (leaf_names e) ≡ false → size_on e (map (rows_of_frame frame) ps) ≤ sum_by rows_or_one ps
safe_size e s frame ps w m = (safe_within e s frame ps w m).0

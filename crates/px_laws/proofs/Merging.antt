-- The values of a partition safe expression on parts merge to that on all their rows.
use Rattle.std.proofs.Common.{◌≡◌, ℕ, ◌+◌, ◌-◌, ◌^◌, ◌<◌, ◌≤◌, suc, Bool, true, false, cond, ◌&&◌, List, [], ◌∷◌, ◌++◌, Option, Some, Ok, option_map, length, map, refl, sym, ◌∙◌, ap, arith}
use Rattle.std.specs.List.{flat_map, list_all, list_any}
use Rattle.std.specs.Prelude.{count_by, is_some}
use Rattle.std.proofs.lemmas.List.{append-nil, length-append, length-map}
use Rattle.std.proofs.lemmas.List.Sums.{sum_by-append, count_by-le-length}
use Rattle.px_column.specs.Prelude.{list, Slot, slots, items, Kind, booleans, int8s, int16s, int32s, int64s, uint8s, uint16s, uint32s, uint64s, strings, binaries, nulls, lists, Series, slot_at}
use Rattle.px_column.specs.Datum.{items-slots}
use Rattle.px_column.specs.Option.{◌>>=◌, each}
use Rattle.px_column.specs.Reduction.{unless_list, reduced_kind, count_slot, sum_slot}
use Rattle.px_column.specs.Sum.{sum_kind, is_sum_kind, summed}
use Rattle.px_value.specs.declared.error.PxError.{PxError}
use Rattle.px_value.specs.declared.error.PxError.TheVariants.{ComputeError}
use Rattle.px_value.specs.declared.error.ComputeWhy.TheVariants.{AggLiteral}
use Rattle.px_value.specs.declared.method.GroupByMethod.{GroupByMethod}
use Rattle.px_value.specs.declared.method.GroupByMethod.TheVariants.{Min, Max, Sum, First, Last, NUnique, Count, Implode}
use Rattle.px_frame.specs.Cell.{Cell, unit, rows, value_of_cell}
use Rattle.px_frame.specs.External.{Frame, height, scope_of, rows_of_frame}
use Rattle.px_frame.specs.Frame.{height_of, series_at}
use Rattle.px_tree.specs.Node.{function_cell, reduction_cell}
use Rattle.px_frame.specs.Cell.{is_unit_cell}
use Rattle.px_tree.specs.Nodes.{leaf_names}
use Rattle.px_tree.specs.Grouped.{value_on_part}
use Rattle.px_tree.specs.Partition.{is_elementwise, are_elementwise, is_row_function, is_merged_method, inner_rows, merged_by}
use Rattle.px_tree.specs.Shape.{is_unit, is_unit_first, are_units, is_literal_tree, are_literal_trees, has_implode}
use Rattle.px_tree.specs.Tree.{Tree, called, by_name, Trees, no_trees, one_tree, column, literal, alias, binary, ternary, cast, function, filter, slice, gather, sort, sort_by, agg, len, window}
use Rattle.px_tree.specs.Typing.{Scope, kind_in, kinds_in, made_kind, refusals_of, refused_where, grouped_reduction_refusals, implode_refusal}
use Rattle.px_tree.specs.Value.{value_on, outcome_on, made, cells_on, first_kind, is_misfit}
use Rattle.px_tree.specs.declared.context.Context.TheVariants.{Aggregation}
use Rattle.px_tree.specs.declared.function.FunctionExpr.{FunctionExpr}
use Rattle.px_tree.specs.declared.function.FunctionExpr.TheVariants.{IsNull, IsNotNull, Not, IsBetween, IsIn, Reverse, Shift, DropNulls, NullCount, Explode}
use Rattle.px_laws.proofs.Defined.{scope_of_rows}
use Rattle.px_laws.proofs.Joining.{under_name, value_joins}
use Rattle.px_value.proofs.FitLaws.{both as both_true}
use Rattle.px_tree.proofs.KindLaws.{none_left, none_right, none_first, none_own}
use Rattle.px_laws.proofs.RowCount.{value_long}
use Rattle.px_laws.proofs.Shapes.{bound, made_bound, mapped, made_ok, shape_of_value}
use Rattle.px_laws.proofs.Sums.{sum_merges, count_merges}
use Rattle.px_laws.proofs.Extremes.{kind_sort, is_slot_of, are_slots_of, like_are_sorted, least_merges, greatest_merges}
use Rattle.px_laws.proofs.Typed.{frame_fits, value_like}
use Rattle.px_laws.specs.Fitting.{has_fitting_columns, has_fitting_literals}
use Rattle.std.proofs.lemmas.List.Folds.{list_all-append}
use Rattle.px_laws.specs.Merge.{has_rows, are_parts, rows_of_parts, OnParts, is_extreme, PartsMerge}
use Rattle.px_value.proofs.EachLaws.{each_same, each_some}

-- one cell comes from one tree
one_unit : (es : Trees) (frame : Frame) (a : Cell) → is_unit_first es ≡ true → cells_on es frame ≡ Some (a ∷ []) → are_units es ≡ true
one_unit no_trees frame a u h = cc
one_unit (one_tree t no_trees) frame a u h = ap (λ b. b && true) u
one_unit (one_tree t (one_tree r ts)) frame a u h =
    let x = bound (made (outcome_on t frame)) _ (a ∷ []) h in
    let xs = bound (cells_on (one_tree r ts) frame) _ (a ∷ []) x.2 in
    let y = bound (made (outcome_on r frame)) _ xs.0 xs.1 in
    let ys = bound (cells_on ts frame) _ xs.0 y.2 in
    let e : y.0 ∷ ys.0 ≡ xs.0 = cc (ys.2) in
    let g : x.0 ∷ xs.0 ≡ a ∷ [] = cc (xs.2) in
    let none : y.0 ∷ ys.0 ≡ [] = cc in
    cc

-- a row function whose value is a unit has units alone
all_units : (f : FunctionExpr) (k : Kind) (es : Trees) (frame : Frame) (cs : List Cell) (c : Cell) → is_row_function f ≡ true → is_unit (function es (by_name f)) ≡ true → cells_on es frame ≡ Some cs → function_cell f k cs ≡ Ok c → are_units es ≡ true
all_units IsNull k es frame [] c w u h g = cc
all_units IsNull k es frame (a ∷ []) c w u h g = one_unit es frame a u h
all_units IsNull k es frame (a ∷ b ∷ cs) c w u h g = cc
all_units IsNotNull k es frame [] c w u h g = cc
all_units IsNotNull k es frame (a ∷ []) c w u h g = one_unit es frame a u h
all_units IsNotNull k es frame (a ∷ b ∷ cs) c w u h g = cc
all_units Not k es frame [] c w u h g = cc
all_units Not k es frame (a ∷ []) c w u h g = one_unit es frame a u h
all_units Not k es frame (a ∷ b ∷ cs) c w u h g = cc
all_units (IsBetween closed) k es frame cs c w u h g = u
all_units IsIn k es frame cs c w u h g = cc
all_units Reverse k es frame cs c w u h g = cc
all_units (Shift n) k es frame cs c w u h g = cc
all_units DropNulls k es frame cs c w u h g = cc
all_units NullCount k es frame cs c w u h g = cc
all_units Explode k es frame cs c w u h g = cc

-- an elementwise unit is made of literals
mutual
  literal_unit : (e : Tree) (s : Scope) (frame : Frame) (c : Cell) → is_elementwise e s ≡ true → is_unit e ≡ true → value_on e frame ≡ Some c → is_literal_tree e ≡ true
  literal_unit (column n) s frame c w u h = cc
  literal_unit (literal v) s frame c w u h = refl
  literal_unit (alias e n) s frame c w u h = literal_unit e s frame c w u (sym (under_name _) ∙ h)
  literal_unit (binary l op r) s frame c w u h =
      let ew = both_true (is_elementwise l s) (is_elementwise r s) w in
      let eu = both_true (is_unit l) (is_unit r) u in
      let k = made_bound (kind_in l (scope_of frame)) _ c h in
      let x = made_bound (made (outcome_on l frame)) _ c k.2 in
      let y = made_bound (made (outcome_on r frame)) _ c x.2 in
      λ i. literal_unit l s frame x.0 ew.0 eu.0 x.1 i && literal_unit r s frame y.0 ew.1 eu.1 y.1 i
  literal_unit (ternary t l r) s frame c w u h =
      let ew = both_true (is_elementwise t s) (is_elementwise l s && is_elementwise r s) w in
      let ev = both_true (is_elementwise l s) (is_elementwise r s) ew.1 in
      let eu = both_true (is_unit t) (is_unit l && is_unit r) u in
      let ex = both_true (is_unit l) (is_unit r) eu.1 in
      let k = made_bound (made (outcome_on t frame)) _ c h in
      let x = made_bound (made (outcome_on l frame)) _ c k.2 in
      let y = made_bound (made (outcome_on r frame)) _ c x.2 in
      λ i. literal_unit t s frame k.0 ew.0 eu.0 k.1 i && (literal_unit l s frame x.0 ev.0 ex.0 x.1 i && literal_unit r s frame y.0 ev.1 ex.1 y.1 i)
  literal_unit (cast e to o) s frame c w u h =
      let k = made_bound (kind_in e (scope_of frame)) _ c h in
      let x = made_bound (made (outcome_on e frame)) _ c k.2 in
      literal_unit e s frame x.0 w u x.1
  literal_unit (function es f) s frame c w u h =
      let ew = both_true (is_row_function (called f)) (are_elementwise es s) w in
      let k = made_bound (kinds_in es (scope_of frame)) _ c h in
      let x = made_bound (cells_on es frame) _ c k.2 in
      literal_units es s frame x.0 ew.1 (all_units (called f) (first_kind k.0) es frame x.0 c ew.0 u x.1 (made_ok _ c x.2)) x.1
  literal_unit (filter e by) s frame c w u h = cc
  literal_unit (slice e offset size) s frame c w u h = cc
  literal_unit (gather e idx one) s frame c w u h = cc
  literal_unit (sort e o) s frame c w u h = cc
  literal_unit (sort_by e by o) s frame c w u h = cc
  literal_unit (agg f e) s frame c w u h = cc
  literal_unit len s frame c w u h = cc
  literal_unit (window f keys order mapping) s frame c w u h = cc

  -- so several of them
  literal_units : (es : Trees) (s : Scope) (frame : Frame) (cs : List Cell) → are_elementwise es s ≡ true → are_units es ≡ true → cells_on es frame ≡ Some cs → are_literal_trees es ≡ true
  literal_units no_trees s frame cs w u h = refl
  literal_units (one_tree t ts) s frame cs w u h =
      let ew = both_true (is_elementwise t s) (are_elementwise ts s) w in
      let eu = both_true (is_unit t) (are_units ts) u in
      let x = bound (made (outcome_on t frame)) _ cs h in
      let xs = bound (cells_on ts frame) _ cs x.2 in
      λ i. literal_unit t s frame x.0 ew.0 eu.0 x.1 i && literal_units ts s frame xs.0 ew.1 eu.1 xs.1 i

-- what is not refused does not pass the test
not_refused : (b : Bool) (e : PxError) → refused_where b e ≡ [] → b ≡ false
not_refused true e h = cc
not_refused false e h = refl

-- an elementwise expression that may be reduced on groups is a list
reduced_list : (m : GroupByMethod) (e : Tree) (s : Scope) (frame : Frame) (c : Cell) → is_elementwise e s ≡ true → refusals_of (agg m e) s Aggregation ≡ [] → value_on e frame ≡ Some c → is_unit e ≡ false
reduced_list m e s frame c w r h =
    let grouped = none_left (grouped_reduction_refusals m e) _ (none_own (refusals_of e s Aggregation) _ r) in
    let two = none_left (implode_refusal (has_implode e) ++ refused_where (is_literal_tree e) (ComputeError AggLiteral)) _ grouped in
    let rest = not_refused (is_literal_tree e) (ComputeError AggLiteral) (none_right (implode_refusal (has_implode e)) _ two) in
    by (is_unit e) refl rest
  where
    by : (b : Bool) → is_unit e ≡ b → is_literal_tree e ≡ false → is_unit e ≡ false
    by false u other = u
    by true u other = let never : true ≡ false = sym (literal_unit e s frame c w u h) ∙ other in cc

-- the lists that an expression is on each part
abbrev ListsOn : Tree → Frame → List (List ℕ) → List (List Slot) → Type 0
ListsOn e frame [] [] = Unit {0}
ListsOn e frame (p ∷ ps) (xs ∷ xss) = (value_on e (rows_of_frame frame p) ≡ Some (rows xs)) × ListsOn e frame ps xss
ListsOn e frame _ _ = ⊥

-- the places of all lists
abbrev all_slots : List (List Slot) → List Slot
all_slots xss = flat_map (λ xs. xs) xss

-- a reduction's value on a list
abbrev reduced_value : GroupByMethod → Kind → List Slot → Slot
reduced_value m k xs = value_of_cell (reduction_cell m k (rows xs))

-- a cell that is no unit is a list
list_cell : (c : Cell) → is_unit_cell c ≡ false → (xs : List Slot) × (c ≡ rows xs)
list_cell (unit s) h = cc
list_cell (rows xs) h = (xs, refl)

-- the value of a reduction of a list, as it was made
value_is : (m : GroupByMethod) (j k : Kind) (c : Cell) (xs : List Slot) (d : Cell) (v : Slot) → j ≡ k → c ≡ rows xs → reduction_cell m k c ≡ d → value_of_cell d ≡ v → reduced_value m j xs ≡ v
value_is m j k c xs d v ej ec ed ev = (λ i. value_of_cell (reduction_cell m (ej i) (sym ec i))) ∙ ap value_of_cell ed ∙ ev

-- a value that is a list
is_rows : (o : Option Cell) (c : Cell) (xs : List Slot) → o ≡ Some c → c ≡ rows xs → o ≡ Some (rows xs)
is_rows o c xs h e = h ∙ ap Some e

-- on some rows, a reduction's value is that of its input's list
reduced_at : (m : GroupByMethod) (e : Tree) (frame : Frame) (p : List ℕ) (j : Kind) (v : Slot) → is_elementwise e (scope_of frame) ≡ true → refusals_of (agg m e) (scope_of frame) Aggregation ≡ [] → kind_in e (scope_of frame) ≡ Some j
    → value_on_part frame (agg m e) p ≡ Some v → (xs : List Slot) × (value_on e (rows_of_frame frame p) ≡ Some (rows xs)) × (reduced_value m j xs ≡ v)
reduced_at m e frame p j v w r kind h =
    let made_cell = mapped (value_on (agg m e) (rows_of_frame frame p)) value_of_cell v h in
    let k = made_bound (kind_in e (scope_of (rows_of_frame frame p))) _ made_cell.0 made_cell.1 in
    let c = made_bound (made (outcome_on e (rows_of_frame frame p))) _ made_cell.0 k.2 in
    let shape = shape_of_value e (rows_of_frame frame p) c.0 c.1 ∙ reduced_list m e (scope_of frame) (rows_of_frame frame p) c.0 w r c.1 in
    let xs = list_cell c.0 shape in
    let same_kind : Some j ≡ Some k.0 = sym kind ∙ ap (kind_in e) (sym (scope_of_rows frame p)) ∙ k.1 in
    let ej : j ≡ k.0 = cc in
    let cell : reduction_cell m k.0 c.0 ≡ made_cell.0 = let ok : Ok (reduction_cell m k.0 c.0) ≡ Ok made_cell.0 = made_ok (Ok (reduction_cell m k.0 c.0)) made_cell.0 c.2 in cc (ok) in
    (xs.0, is_rows _ c.0 xs.0 c.1 xs.1, value_is m j k.0 c.0 xs.0 made_cell.0 v ej xs.1 cell made_cell.2)

-- and the other way round
at_reduced : (m : GroupByMethod) (e : Tree) (frame : Frame) (p : List ℕ) (j : Kind) (xs : List Slot) → kind_in e (scope_of frame) ≡ Some j → value_on e (rows_of_frame frame p) ≡ Some (rows xs) → value_on_part frame (agg m e) p ≡ Some (reduced_value m j xs)
at_reduced m e frame p j xs kind h =
    let k = ap (kind_in e) (scope_of_rows frame p) ∙ kind in
    λ i. option_map value_of_cell (made (k i >>= λ t. h i >>= λ c. Some (Ok (reduction_cell m t c))))

-- on each part
reduced_on : (m : GroupByMethod) (e : Tree) (frame : Frame) (parts : List (List ℕ)) (j : Kind) (values : List Slot) → is_elementwise e (scope_of frame) ≡ true → refusals_of (agg m e) (scope_of frame) Aggregation ≡ [] → kind_in e (scope_of frame) ≡ Some j
    → each (value_on_part frame (agg m e)) parts ≡ Some values → (xss : List (List Slot)) × ListsOn e frame parts xss × (map (reduced_value m j) xss ≡ values)
reduced_on m e frame [] j values w r kind h = ([], tt, cc)
reduced_on m e frame (p ∷ parts) j values w r kind h =
    let v = bound (value_on_part frame (agg m e) p) _ values h in
    let vs = mapped (each (value_on_part frame (agg m e)) parts) (λ ys. v.0 ∷ ys) values v.2 in
    let xs = reduced_at m e frame p j v.0 w r kind v.1 in
    let xss = reduced_on m e frame parts j vs.0 w r kind vs.1 in
    (xs.0 ∷ xss.0, (xs.1, xss.1), (λ i. xs.2 i ∷ xss.2 i) ∙ vs.2)

-- the lists on the parts are joined on the rows of all
lists_join : (e : Tree) (frame : Frame) (p : List ℕ) (ps : List (List ℕ)) (xs : List Slot) (xss : List (List Slot)) → is_elementwise e (scope_of frame) ≡ true → list_any (is_misfit frame) (leaf_names e) ≡ false
    → value_on e (rows_of_frame frame p) ≡ Some (rows xs) → ListsOn e frame ps xss → value_on e (rows_of_frame frame (rows_of_parts (p ∷ ps))) ≡ Some (rows (all_slots (xs ∷ xss)))
lists_join e frame p [] xs [] w m h on = ap (λ q. value_on e (rows_of_frame frame q)) (append-nil p) ∙ h ∙ ap (λ ys. Some (rows ys)) (sym (append-nil xs))
lists_join e frame p [] xs (ys ∷ xss) w m h on = absurd on
lists_join e frame p (q ∷ ps) xs [] w m h on = absurd on
lists_join e frame p (q ∷ ps) xs (ys ∷ xss) w m h on =
    (value_joins e (scope_of frame) frame p (rows_of_parts (q ∷ ps)) (rows xs) (rows (all_slots (ys ∷ xss))) w m h (lists_join e frame q ps ys xss w m on.0 on.1)).0

-- so for one part or more
lists_of_parts : (e : Tree) (frame : Frame) (parts : List (List ℕ)) (xss : List (List Slot)) → is_elementwise e (scope_of frame) ≡ true → list_any (is_misfit frame) (leaf_names e) ≡ false → are_parts parts ≡ true
    → ListsOn e frame parts xss → value_on e (rows_of_frame frame (rows_of_parts parts)) ≡ Some (rows (all_slots xss))
lists_of_parts e frame [] xss w m some on = cc
lists_of_parts e frame (p ∷ ps) [] w m some on = absurd on
lists_of_parts e frame (p ∷ ps) (xs ∷ xss) w m some on = lists_join e frame p ps xs xss w m on.0 on.1

-- some lists, none of them empty
abbrev has_slots : List Slot → Bool
has_slots [] = false
has_slots (x ∷ xs) = true

-- one list or more, and each has places
abbrev are_lists : List (List Slot) → Bool
are_lists [] = false
are_lists (xs ∷ xss) = list_all has_slots (xs ∷ xss)

-- a list on rows has places
some_slots : (p : List ℕ) (xs : List Slot) → length xs ≡ length p → has_rows p ≡ true → has_slots xs ≡ true
some_slots p (x ∷ xs) h some = refl
some_slots [] [] h some = cc
some_slots (r ∷ p) [] h some = absurd (omega arith)

-- so each list on parts that have rows
all_slots_there : (e : Tree) (frame : Frame) (parts : List (List ℕ)) (xss : List (List Slot)) → is_elementwise e (scope_of frame) ≡ true → list_any (is_misfit frame) (leaf_names e) ≡ false → list_all has_rows parts ≡ true
    → ListsOn e frame parts xss → list_all has_slots xss ≡ true
all_slots_there e frame [] [] w m some on = refl
all_slots_there e frame [] (xs ∷ xss) w m some on = absurd on
all_slots_there e frame (p ∷ ps) [] w m some on = absurd on
all_slots_there e frame (p ∷ ps) (xs ∷ xss) w m some on =
    let s = both_true (has_rows p) (list_all has_rows ps) some in
    λ i. some_slots p xs (value_long e (scope_of frame) frame p (rows xs) w m on.0) s.0 i && all_slots_there e frame ps xss w m s.1 on.1 i

-- and there is one where there is a part
lists_there : (e : Tree) (frame : Frame) (parts : List (List ℕ)) (xss : List (List Slot)) → is_elementwise e (scope_of frame) ≡ true → list_any (is_misfit frame) (leaf_names e) ≡ false → are_parts parts ≡ true
    → ListsOn e frame parts xss → are_lists xss ≡ true
lists_there e frame [] xss w m some on = cc
lists_there e frame (p ∷ ps) [] w m some on = absurd on
lists_there e frame (p ∷ ps) (xs ∷ xss) w m some on = all_slots_there e frame (p ∷ ps) (xs ∷ xss) w m some on

-- the last place of the whole is that of the last list
last_rest : (x y : Slot) (ys : List Slot) → slot_at (x ∷ y ∷ ys) (length (x ∷ y ∷ ys) - 1) ≡ slot_at (y ∷ ys) (length (y ∷ ys) - 1)
last_rest x y ys =
    let n = length ys in
    let one : suc (suc n) - 1 ≡ suc n = omega arith in
    let none : suc n - 1 ≡ n = omega arith in
    ap (slot_at (x ∷ y ∷ ys)) one ∙ ap (slot_at (y ∷ ys)) (sym none)

-- what stands before a list is not its last place
last_joined : (xs : List Slot) (y : Slot) (ys : List Slot) → slot_at (xs ++ y ∷ ys) (length (xs ++ y ∷ ys) - 1) ≡ slot_at (y ∷ ys) (length (y ∷ ys) - 1)
last_joined [] y ys = refl
last_joined (x ∷ []) y ys = last_rest x y ys
last_joined (x ∷ z ∷ xs) y ys = last_rest x z (xs ++ y ∷ ys) ∙ last_joined (z ∷ xs) y ys

-- lists joined have places where the first has
some_left : (xs ys : List Slot) → has_slots xs ≡ true → has_slots (xs ++ ys) ≡ true
some_left [] ys h = cc
some_left (x ∷ xs) ys h = refl

-- the last place of joined lists is that of the second
last_of_joined : (xs ys : List Slot) → has_slots ys ≡ true → slot_at (xs ++ ys) (length (xs ++ ys) - 1) ≡ slot_at ys (length ys - 1)
last_of_joined xs [] h = cc
last_of_joined xs (y ∷ ys) h = last_joined xs y ys

-- so of several lists
last_of_lists : (xs : List Slot) (xss : List (List Slot)) → list_all has_slots (xs ∷ xss) ≡ true
    → slot_at (all_slots (xs ∷ xss)) (length (all_slots (xs ∷ xss)) - 1) ≡ slot_at (map (λ ys. slot_at ys (length ys - 1)) (xs ∷ xss)) (length (map (λ ys. slot_at ys (length ys - 1)) (xs ∷ xss)) - 1)
last_of_lists xs [] h = ap (λ ys. slot_at ys (length ys - 1)) (append-nil xs)
last_of_lists xs (ys ∷ xss) h =
    let there = both_true (has_slots xs) (list_all has_slots (ys ∷ xss)) h in
    let rest = both_true (has_slots ys) (list_all has_slots xss) there.1 in
    last_of_joined xs (all_slots (ys ∷ xss)) (some_left ys (all_slots xss) rest.0)
    ∙ last_of_lists ys xss there.1
    ∙ sym (last_rest (slot_at xs (length xs - 1)) (slot_at ys (length ys - 1)) (map (λ zs. slot_at zs (length zs - 1)) xss))

-- the first place of the whole is that of the first list
first_of_lists : (xss : List (List Slot)) → are_lists xss ≡ true → slot_at (all_slots xss) 0 ≡ slot_at (map (λ xs. slot_at xs 0) xss) 0
first_of_lists [] h = cc
first_of_lists ([] ∷ xss) h = cc
first_of_lists ((x ∷ xs) ∷ xss) h = refl

-- so of one list or more
last_is : (xss : List (List Slot)) → are_lists xss ≡ true
    → slot_at (all_slots xss) (length (all_slots xss) - 1) ≡ slot_at (map (λ ys. slot_at ys (length ys - 1)) xss) (length (map (λ ys. slot_at ys (length ys - 1)) xss) - 1)
last_is [] h = cc
last_is (xs ∷ xss) h = last_of_lists xs xss h

-- lists of one list hold their places
inner_of_lists : (k : Kind) (xss : List (List Slot)) → flat_map inner_rows (map (reduced_value Implode k) xss) ≡ all_slots xss
inner_of_lists k [] = refl
inner_of_lists k (xs ∷ xss) = (λ i. (append-nil (items (slots xs)) ∙ items-slots xs) i ++ inner_of_lists k xss i)

-- what a sum's type is
sum_of_kind : (j k : Kind) → made_kind (reduced_kind Sum j) ≡ Some k → (sum_kind j ≡ Some k) × (is_sum_kind k ≡ true)
sum_of_kind booleans k h = let e : uint32s ≡ k = cc in (h, ap is_sum_kind (sym e))
sum_of_kind int8s k h = let e : int64s ≡ k = cc in (h, ap is_sum_kind (sym e))
sum_of_kind int16s k h = let e : int64s ≡ k = cc in (h, ap is_sum_kind (sym e))
sum_of_kind int32s k h = let e : int32s ≡ k = cc in (h, ap is_sum_kind (sym e))
sum_of_kind int64s k h = let e : int64s ≡ k = cc in (h, ap is_sum_kind (sym e))
sum_of_kind uint8s k h = let e : int64s ≡ k = cc in (h, ap is_sum_kind (sym e))
sum_of_kind uint16s k h = let e : int64s ≡ k = cc in (h, ap is_sum_kind (sym e))
sum_of_kind uint32s k h = let e : uint32s ≡ k = cc in (h, ap is_sum_kind (sym e))
sum_of_kind uint64s k h = let e : uint64s ≡ k = cc in (h, ap is_sum_kind (sym e))
sum_of_kind strings k h = cc
sum_of_kind binaries k h = cc
sum_of_kind nulls k h = cc
sum_of_kind (lists j) k h = cc

-- the least and the greatest
abbrev is_extreme_method : GroupByMethod → Bool
is_extreme_method Min = true
is_extreme_method Max = true
is_extreme_method _ = false

-- a reduction of all places from those of the lists, but for the least and the greatest
method_merges : (m : GroupByMethod) (j k : Kind) (xss : List (List Slot)) → is_merged_method m ≡ true → is_extreme_method m ≡ false → made_kind (reduced_kind m j) ≡ Some k → are_lists xss ≡ true → length (all_slots xss) < 2 ^ 32
    → reduced_value m j (all_slots xss) ≡ merged_by m k (map (reduced_value m j) xss)
method_merges Min j k xss w x kind some short = cc
method_merges Max j k xss w x kind some short = cc
method_merges Sum j k xss w x kind some short =
    let s = sum_of_kind j k kind in
    (λ i. sum_slot (s.0 i) (all_slots xss)) ∙ sum_merges k xss s.1 ∙ (λ i. summed k (map (λ xs. sum_slot (sym s.0 i) xs) xss))
method_merges First j k xss w x kind some short = first_of_lists xss some
method_merges Last j k xss w x kind some short = last_is xss some
method_merges NUnique j k xss w x kind some short = cc
method_merges (Count true) j k xss w x kind some short =
    let e : uint32s ≡ k = cc in
    count_merges {A = Slot} length xss refl length-append short ∙ ap (λ t. summed t (map (λ (xs : List Slot). count_slot (length xs)) xss)) e
method_merges (Count false) j k xss w x kind some short =
    let e : uint32s ≡ k = cc in
    count_merges {A = Slot} (count_by is_some) xss refl (sum_by-append (λ (s : Slot). cond (is_some s) 1 0)) (omega (arith, count_by-le-length is_some (all_slots xss), short)) ∙ ap (λ t. summed t (map (λ (xs : List Slot). count_slot (count_by is_some xs)) xss)) e
method_merges Implode j k xss w x kind some short = ap (λ ys. Some (list (slots (Some (list (slots ys)) ∷ [])))) (sym (inner_of_lists j xss))

-- the rows of a frame of some rows: none, or as many as these
pub height_joins : (frame : Frame) (p q : List ℕ) → height (rows_of_frame frame (p ++ q)) ≡ height (rows_of_frame frame p) + height (rows_of_frame frame q)
height_joins frame p q = by frame.columns
  where
    by : (columns : List Series) → height_of (map (series_at (p ++ q)) columns) ≡ height_of (map (series_at p) columns) + height_of (map (series_at q) columns)
    by [] = omega arith
    by (s ∷ columns) = length-map (p ++ q) (slot_at s.slots) ∙ length-append p q ∙ (λ i. sym (length-map p (slot_at s.slots)) i + sym (length-map q (slot_at s.slots)) i)

-- no rows have height 0
height_none : (frame : Frame) → height (rows_of_frame frame []) ≡ 0
height_none frame = by frame.columns
  where
    by : (columns : List Series) → height_of (map (series_at []) columns) ≡ 0
    by [] = refl
    by (s ∷ columns) = refl

-- a frame of some rows is no higher than these
height_within : (frame : Frame) (p : List ℕ) → height (rows_of_frame frame p) ≤ length p
height_within frame p = by frame.columns
  where
    by : (columns : List Series) → height_of (map (series_at p) columns) ≤ length p
    by [] = omega arith
    by (s ∷ columns) = omega (arith, length-map p (slot_at s.slots))

-- lengths of parts are added
len_merges : (frame : Frame) (k : Kind) (parts : List (List ℕ)) → OnParts len frame k parts → PartsMerge len frame k parts
len_merges frame k parts on values h =
    let count : List ℕ → ℕ = λ p. height (rows_of_frame frame p) in
    let ek : uint32s ≡ k = let e : Some uint32s ≡ Some k = on.kind in cc in
    let ev : map (λ p. count_slot (count p)) parts ≡ values = let e : Some (map (λ p. count_slot (count p)) parts) ≡ Some values = sym (each_some _ (λ p. count_slot (count p)) parts (λ p. refl)) ∙ h in cc in
    let few : count (rows_of_parts parts) < 2 ^ 32 = omega (arith, height_within frame (rows_of_parts parts), on.short) in
    ap Some (count_merges count parts (height_none frame) (height_joins frame) few ∙ (λ i. summed (ek i) (ev i)))

-- a reduction, but for the least and the greatest
agg_merges : (m : GroupByMethod) (e : Tree) (frame : Frame) (k : Kind) (parts : List (List ℕ)) → is_extreme_method m ≡ false → OnParts (agg m e) frame k parts → PartsMerge (agg m e) frame k parts
agg_merges m e frame k parts x on values h =
    let safe = both_true (is_merged_method m) (is_elementwise e (scope_of frame)) on.safe in
    let j = bound (kind_in e (scope_of frame)) _ k on.kind in
    let lists = reduced_on m e frame parts j.0 values safe.1 on.accepted j.1 h in
    let whole = lists_of_parts e frame parts lists.0 safe.1 on.even on.some lists.1 in
    let there = lists_there e frame parts lists.0 safe.1 on.even on.some lists.1 in
    let long : length (all_slots lists.0) ≡ length (rows_of_parts parts) = value_long e (scope_of frame) frame (rows_of_parts parts) (rows (all_slots lists.0)) safe.1 on.even whole in
    let short : length (all_slots lists.0) < 2 ^ 32 = omega (arith, long, on.short) in
    at_reduced m e frame (rows_of_parts parts) j.0 (all_slots lists.0) j.1 whole
    ∙ ap Some (method_merges m j.0 k lists.0 safe.0 x j.2 there short ∙ ap (merged_by m k) lists.2)

-- an alias has the value of what it names
under_alias : (e : Tree) (n : List ℕ) (frame : Frame) (p : List ℕ) → value_on_part frame (alias e n) p ≡ value_on_part frame e p
under_alias e n frame p = ap (option_map value_of_cell) (under_name (value_on e (rows_of_frame frame p)))

-- for each such expression but the least and the greatest value
pub parts_merge : (e : Tree) (frame : Frame) (k : Kind) (parts : List (List ℕ)) → is_extreme e ≡ false → OnParts e frame k parts → PartsMerge e frame k parts
parts_merge (alias e n) frame k parts x on values h =
    under_alias e n frame (rows_of_parts parts)
    ∙ parts_merge e frame k parts x (record { safe = on.safe; accepted = on.accepted; even = on.even; kind = on.kind; some = on.some; short = on.short }) values (sym (each_same (value_on_part frame (alias e n)) (value_on_part frame e) parts (under_alias e n frame)) ∙ h)
parts_merge (agg Min e) frame k parts x on values h = cc
parts_merge (agg Max e) frame k parts x on values h = cc
parts_merge (agg Sum e) frame k parts x on values h = agg_merges Sum e frame k parts refl on values h
parts_merge (agg First e) frame k parts x on values h = agg_merges First e frame k parts refl on values h
parts_merge (agg Last e) frame k parts x on values h = agg_merges Last e frame k parts refl on values h
parts_merge (agg NUnique e) frame k parts x on values h = agg_merges NUnique e frame k parts refl on values h
parts_merge (agg (Count b) e) frame k parts x on values h = agg_merges (Count b) e frame k parts refl on values h
parts_merge (agg Implode e) frame k parts x on values h = agg_merges Implode e frame k parts refl on values h
parts_merge len frame k parts x on values h = len_merges frame k parts on values h
parts_merge (column n) frame k parts x on values h = let no : false ≡ true = on.safe in cc
parts_merge (literal v) frame k parts x on values h = let no : false ≡ true = on.safe in cc
parts_merge (binary l op r) frame k parts x on values h = let no : false ≡ true = on.safe in cc
parts_merge (ternary p a b) frame k parts x on values h = let no : false ≡ true = on.safe in cc
parts_merge (cast e to o) frame k parts x on values h = let no : false ≡ true = on.safe in cc
parts_merge (function es f) frame k parts x on values h = let no : false ≡ true = on.safe in cc
parts_merge (filter e by) frame k parts x on values h = let no : false ≡ true = on.safe in cc
parts_merge (slice e offset size) frame k parts x on values h = let no : false ≡ true = on.safe in cc
parts_merge (gather e idx one) frame k parts x on values h = let no : false ≡ true = on.safe in cc
parts_merge (sort e o) frame k parts x on values h = let no : false ≡ true = on.safe in cc
parts_merge (sort_by e by o) frame k parts x on values h = let no : false ≡ true = on.safe in cc
parts_merge (window f keys order mapping) frame k parts x on values h = let no : false ≡ true = on.safe in cc

-- the type of a least or a greatest value is that of no list
unless_lists : (j k : Kind) → made_kind (unless_list j j) ≡ Some k → kind_sort j ≡ 4 → ⊥
unless_lists booleans k h e = absurd (omega arith)
unless_lists int8s k h e = absurd (omega arith)
unless_lists int16s k h e = absurd (omega arith)
unless_lists int32s k h e = absurd (omega arith)
unless_lists int64s k h e = absurd (omega arith)
unless_lists uint8s k h e = absurd (omega arith)
unless_lists uint16s k h e = absurd (omega arith)
unless_lists uint32s k h e = absurd (omega arith)
unless_lists uint64s k h e = absurd (omega arith)
unless_lists strings k h e = absurd (omega arith)
unless_lists binaries k h e = absurd (omega arith)
unless_lists nulls k h e = absurd (omega arith)
unless_lists (lists j) k h e = cc

-- where all places are of a sort, those of each list are
all_are : (n : ℕ) (xss : List (List Slot)) → are_slots_of n (all_slots xss) ≡ true → list_all (are_slots_of n) xss ≡ true
all_are n [] h = refl
all_are n (xs ∷ xss) h =
    let s = both_true (are_slots_of n xs) (are_slots_of n (all_slots xss)) (sym (list_all-append (is_slot_of n) xs (all_slots xss)) ∙ h) in
    λ i. s.0 i && all_are n xss s.1 i

-- the least or the greatest of all places from those of the lists
extreme_merges : (m : GroupByMethod) (j k : Kind) (xss : List (List Slot)) → is_extreme_method m ≡ true → made_kind (reduced_kind m j) ≡ Some k → are_slots_of (kind_sort j) (all_slots xss) ≡ true
    → reduced_value m j (all_slots xss) ≡ merged_by m k (map (reduced_value m j) xss)
extreme_merges Min j k xss x kind sorted = least_merges (kind_sort j) xss (unless_lists j k kind) (all_are (kind_sort j) xss sorted)
extreme_merges Max j k xss x kind sorted = greatest_merges (kind_sort j) xss (unless_lists j k kind) (all_are (kind_sort j) xss sorted)
extreme_merges Sum j k xss x kind sorted = cc
extreme_merges First j k xss x kind sorted = cc
extreme_merges Last j k xss x kind sorted = cc
extreme_merges NUnique j k xss x kind sorted = cc
extreme_merges (Count b) j k xss x kind sorted = cc
extreme_merges Implode j k xss x kind sorted = cc

-- a least or greatest value
extreme_agg : (m : GroupByMethod) (e : Tree) (frame : Frame) (k : Kind) (parts : List (List ℕ)) → is_extreme_method m ≡ true → has_fitting_columns frame ≡ true → has_fitting_literals e ≡ true → OnParts (agg m e) frame k parts → PartsMerge (agg m e) frame k parts
extreme_agg m e frame k parts x fit lits on values h =
    let safe = both_true (is_merged_method m) (is_elementwise e (scope_of frame)) on.safe in
    let j = bound (kind_in e (scope_of frame)) _ k on.kind in
    let lists = reduced_on m e frame parts j.0 values safe.1 on.accepted j.1 h in
    let whole = lists_of_parts e frame parts lists.0 safe.1 on.even on.some lists.1 in
    let all = rows_of_frame frame (rows_of_parts parts) in
    let scope = scope_of_rows frame (rows_of_parts parts) in
    let accepted : refusals_of e (scope_of all) Aggregation ≡ [] = ap (λ t. refusals_of e t Aggregation) scope ∙ none_first _ _ on.accepted in
    let like = value_like e all Aggregation j.0 (rows (all_slots lists.0)) (frame_fits frame (rows_of_parts parts) fit) lits accepted (ap (kind_in e) scope ∙ j.1) whole in
    let sorted = like_are_sorted j.0 (all_slots lists.0) like in
    at_reduced m e frame (rows_of_parts parts) j.0 (all_slots lists.0) j.1 whole
    ∙ ap Some (extreme_merges m j.0 k lists.0 x j.2 sorted ∙ ap (merged_by m k) lists.2)

-- for each such expression, where columns and literals fit their types
pub typed_parts_merge : (e : Tree) (frame : Frame) (k : Kind) (parts : List (List ℕ)) → has_fitting_columns frame ≡ true → has_fitting_literals e ≡ true → OnParts e frame k parts → PartsMerge e frame k parts
typed_parts_merge (alias e n) frame k parts fit lits on values h =
    under_alias e n frame (rows_of_parts parts)
    ∙ typed_parts_merge e frame k parts fit lits (record { safe = on.safe; accepted = on.accepted; even = on.even; kind = on.kind; some = on.some; short = on.short }) values (sym (each_same (value_on_part frame (alias e n)) (value_on_part frame e) parts (under_alias e n frame)) ∙ h)
typed_parts_merge (agg Min e) frame k parts fit lits on values h = extreme_agg Min e frame k parts refl fit lits on values h
typed_parts_merge (agg Max e) frame k parts fit lits on values h = extreme_agg Max e frame k parts refl fit lits on values h
typed_parts_merge (agg Sum e) frame k parts fit lits on values h = agg_merges Sum e frame k parts refl on values h
typed_parts_merge (agg First e) frame k parts fit lits on values h = agg_merges First e frame k parts refl on values h
typed_parts_merge (agg Last e) frame k parts fit lits on values h = agg_merges Last e frame k parts refl on values h
typed_parts_merge (agg NUnique e) frame k parts fit lits on values h = agg_merges NUnique e frame k parts refl on values h
typed_parts_merge (agg (Count b) e) frame k parts fit lits on values h = agg_merges (Count b) e frame k parts refl on values h
typed_parts_merge (agg Implode e) frame k parts fit lits on values h = agg_merges Implode e frame k parts refl on values h
typed_parts_merge (column n) frame k parts fit lits on values h = parts_merge (column n) frame k parts refl on values h
typed_parts_merge (literal v) frame k parts fit lits on values h = parts_merge (literal v) frame k parts refl on values h
typed_parts_merge (binary l op r) frame k parts fit lits on values h = parts_merge (binary l op r) frame k parts refl on values h
typed_parts_merge (ternary p a b) frame k parts fit lits on values h = parts_merge (ternary p a b) frame k parts refl on values h
typed_parts_merge (cast e to o) frame k parts fit lits on values h = parts_merge (cast e to o) frame k parts refl on values h
typed_parts_merge (function es f) frame k parts fit lits on values h = parts_merge (function es f) frame k parts refl on values h
typed_parts_merge (filter e by) frame k parts fit lits on values h = parts_merge (filter e by) frame k parts refl on values h
typed_parts_merge (slice e offset size) frame k parts fit lits on values h = parts_merge (slice e offset size) frame k parts refl on values h
typed_parts_merge (gather e idx one) frame k parts fit lits on values h = parts_merge (gather e idx one) frame k parts refl on values h
typed_parts_merge (sort e o) frame k parts fit lits on values h = parts_merge (sort e o) frame k parts refl on values h
typed_parts_merge (sort_by e by o) frame k parts fit lits on values h = parts_merge (sort_by e by o) frame k parts refl on values h
typed_parts_merge len frame k parts fit lits on values h = parts_merge len frame k parts refl on values h
typed_parts_merge (window f keys order mapping) frame k parts fit lits on values h = parts_merge (window f keys order mapping) frame k parts refl on values h

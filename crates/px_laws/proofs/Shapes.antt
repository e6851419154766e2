-- The shape of a value is that of its expression.
use Rattle.std.proofs.Common.{◌≡◌, ℕ, Bool, true, false, not, ◌&&◌, List, [], ◌∷◌, Option, Some, None, Result, Ok, Err, option_map, length, map, subst, refl, sym, ◌∙◌, ap, if◌then◌else◌}
use Rattle.std.specs.List.{zip, list_all}
use Rattle.px_column.specs.Cast.{cast_slot, cast_slots}
use Rattle.px_column.specs.Prelude.{integer, Slot, Kind, fits}
use Rattle.px_column.specs.Function.{is_null_slot, is_not_null_slot, not_slot, between_slot, in_slot}
use Rattle.px_column.specs.Column.{null_count}
use Rattle.px_column.specs.Operator.{operated}
use Rattle.px_column.specs.Reduction.{reduced_slot, count_slot}
use Rattle.px_column.specs.Option.{◌>>=◌}
use Rattle.px_column.specs.Result.{◌>>=◌ as ◌>>>◌}
use Rattle.px_value.specs.declared.cast_options.CastOptions.{CastOptions}
use Rattle.px_value.specs.declared.error.ComputeWhy.TheVariants.{NullIndex, RangeBound}
use Rattle.px_value.specs.declared.error.PxError.{PxError}
use Rattle.px_value.specs.declared.error.PxError.TheVariants.{ComputeError, OutOfBounds}
use Rattle.px_value.specs.declared.method.GroupByMethod.{GroupByMethod}
use Rattle.px_value.specs.declared.method.GroupByMethod.TheVariants.{Min, Max, Sum, First, Last, NUnique, Count, Implode}
use Rattle.px_value.specs.declared.sort_options.SortMultipleOptions.{SortMultipleOptions}
use Rattle.px_frame.specs.Cell.{Cell, unit, rows, list_of}
use Rattle.px_frame.specs.External.{Frame, height, look_in, scope_of}
use Rattle.px_frame.specs.Spread.{spread, rows_beside}
use Rattle.px_tree.specs.Node.{map_cell, zip_cells, zip_three_cells, literal_cell, integers, cast_cell, function_cell, filter_cell, slice_cell, one_value, offset_of, length_of, gather_cell, is_null_unit, is_index, indexed, sort_by_cell, spread_keys, reduction_cell}
use Rattle.px_frame.specs.Cell.{is_unit_cell, cell_of}
use Rattle.px_column.specs.Chosen.{chosen}
use Rattle.px_tree.specs.Window.{window_cell, placed}
use Rattle.px_tree.specs.Shape.{is_unit, is_unit_first, are_units, is_single, is_implode, is_literal_tree}
use Rattle.px_tree.specs.Tree.{Tree, called, by_name, Trees, Literal, single, range, series, no_trees, one_tree, column, literal, alias, binary, ternary, cast, function, filter, slice, gather, sort, sort_by, agg, len, window}
use Rattle.px_tree.specs.declared.function.FunctionExpr.{FunctionExpr}
use Rattle.px_tree.specs.declared.function.FunctionExpr.TheVariants.{IsNull, IsNotNull, Not, IsBetween, IsIn, Reverse, Shift, DropNulls, NullCount, Explode}
use Rattle.px_tree.specs.declared.window.WindowMapping.{WindowMapping}
use Rattle.px_tree.specs.declared.window.WindowMapping.TheVariants as win
use Rattle.px_tree.specs.declared.window.WindowMapping.TheVariants.{GroupsToRows, Join}
use Rattle.px_tree.specs.Value.{value_on, outcome_on, made, cells_on, named_on, order_on, first_kind, whole_window, window_parts}
use Rattle.px_tree.specs.Typing.{kind_in, kinds_in}

-- what comes next is there where what came before is
pub bound : {A B : Type 0} (o : Option A) (f : A → Option B) (b : B) → (o >>= f) ≡ Some b → (a : A) × (o ≡ Some a) × (f a ≡ Some b)
bound None f b h = cc
bound (Some a) f b h = (a, refl, h)

pub made_bound : {A : Type 0} (o : Option A) (f : A → Option (Result Cell PxError)) (c : Cell) → made (o >>= f) ≡ Some c → (a : A) × (o ≡ Some a) × (made (f a) ≡ Some c)
made_bound None f c h = cc
made_bound (Some a) f c h = (a, refl, h)

-- what is there after a map is made of what was there before
pub mapped : {A B : Type 0} (o : Option A) (f : A → B) (b : B) → option_map f o ≡ Some b → (a : A) × (o ≡ Some a) × (f a ≡ b)
mapped None f b h = cc
mapped (Some a) f b h = (a, refl, cc)

pub made_ok : (r : Result Cell PxError) (c : Cell) → made (Some r) ≡ Some c → r ≡ Ok c
made_ok (Ok d) c h = cc
made_ok (Err e) c h = cc

pub map_found : {A : Type 0} (o : Option A) (f : A → Result Cell PxError) (c : Cell) → made (option_map f o) ≡ Some c → (a : A) × (o ≡ Some a) × (f a ≡ Ok c)
map_found None f c h = cc
map_found (Some a) f c h = (a, refl, made_ok (f a) c h)

shape-cell_of : (b : Bool) (xs : List Slot) → is_unit_cell (cell_of b xs) ≡ b
shape-cell_of true xs = refl
shape-cell_of false xs = refl

shape-map_cell : (f : Slot → Slot) (c : Cell) → is_unit_cell (map_cell f c) ≡ is_unit_cell c
shape-map_cell f (unit s) = refl
shape-map_cell f (rows xs) = refl

pub result_bound : {A B : Type 0} (r : Result A PxError) (f : A → Result B PxError) (b : B) → (r >>> f) ≡ Ok b → (a : A) × (r ≡ Ok a) × (f a ≡ Ok b)
result_bound (Ok a) f b h = (a, refl, h)
result_bound (Err e) f b h = cc

-- two cells row by row are a unit where both are
shape-zip_cells : (f : Slot → Slot → Slot) (a b c : Cell) → zip_cells f a b ≡ Ok c → is_unit_cell c ≡ (is_unit_cell a && is_unit_cell b)
shape-zip_cells f a b c h =
    let n = rows_beside (a ∷ b ∷ []) in
    let xs = result_bound (spread n a) _ c h in
    let ys = result_bound (spread n b) _ c xs.2 in
    let same : cell_of (is_unit_cell a && is_unit_cell b) (map (λ p. f p.0 p.1) (zip xs.0 ys.0)) ≡ c = cc (ys.2) in
    ap is_unit_cell (sym same) ∙ shape-cell_of (is_unit_cell a && is_unit_cell b) (map (λ p. f p.0 p.1) (zip xs.0 ys.0))

shape-zip_three : (f : Slot → Slot → Slot → Slot) (a b d c : Cell) → zip_three_cells f a b d ≡ Ok c → is_unit_cell c ≡ (is_unit_cell a && (is_unit_cell b && is_unit_cell d))
shape-zip_three f a b d c h =
    let n = rows_beside (a ∷ b ∷ d ∷ []) in
    let xs = result_bound (spread n a) _ c h in
    let ys = result_bound (spread n b) _ c xs.2 in
    let zs = result_bound (spread n d) _ c ys.2 in
    let shape = is_unit_cell a && (is_unit_cell b && is_unit_cell d) in
    let same : cell_of shape (map (λ p. f p.0 p.1.0 p.1.1) (zip xs.0 (zip ys.0 zs.0))) ≡ c = cc (zs.2) in
    ap is_unit_cell (sym same) ∙ shape-cell_of shape (map (λ p. f p.0 p.1.0 p.1.1) (zip xs.0 (zip ys.0 zs.0)))

shape-literal : (v : Literal) (c : Cell) → literal_cell v ≡ Ok c → is_unit_cell c ≡ is_single v
shape-literal (single k s) c h = let same : unit s ≡ c = cc in ap is_unit_cell (sym same)
shape-literal (series s) c h = let same : rows s.slots ≡ c = cc in ap is_unit_cell (sym same)
shape-literal (range low high k) c h = by (fits k (integer low) && fits k (integer high)) h
  where
    by : (b : Bool) → (if b then Ok (rows (integers low high)) else Err (ComputeError RangeBound)) ≡ Ok c → is_unit_cell c ≡ false
    by true g = let same : rows (integers low high) ≡ c = cc in ap is_unit_cell (sym same)
    by false g = cc

shape-cast : (from to : Kind) (options : CastOptions) (a c : Cell) → cast_cell from to options a ≡ Ok c → is_unit_cell c ≡ is_unit_cell a
shape-cast from to options (unit s) c h =
    let t = result_bound (cast_slot from to options s) _ c h in
    let same : unit t.0 ≡ c = cc (t.2) in ap is_unit_cell (sym same)
shape-cast from to options (rows xs) c h =
    let ys = result_bound (cast_slots from to options xs) _ c h in
    let same : rows ys.0 ≡ c = cc (ys.2) in ap is_unit_cell (sym same)

abbrev kept : Cell → Result Cell PxError
kept c = Ok c

shape-rows : (xs : List Slot) (c : Cell) → kept (rows xs) ≡ Ok c → is_unit_cell c ≡ false
shape-rows xs c h = let same : rows xs ≡ c = cc in ap is_unit_cell (sym same)

shape-same : (a c : Cell) → kept a ≡ Ok c → is_unit_cell c ≡ is_unit_cell a
shape-same a c h = let same : a ≡ c = cc in ap is_unit_cell (sym same)

shape-filter : (a mask c : Cell) → filter_cell a mask ≡ Ok c → is_unit_cell c ≡ false
shape-filter a mask c h =
    let ts = result_bound (spread (length (list_of a)) mask) _ c h in
    shape-rows _ c ts.2

shape-slice : (a o l c : Cell) → slice_cell a o l ≡ Ok c → is_unit_cell c ≡ false
shape-slice a o l c h =
    let one = result_bound (one_value o) _ c h in
    let two = result_bound (one_value l) _ c one.2 in
    let start = result_bound (offset_of one.0) _ c two.2 in
    let limit = result_bound (length_of two.0) _ c start.2 in
    shape-rows _ c limit.2

shape-gather : (one lit : Bool) (a idx c : Cell) → gather_cell one lit a idx ≡ Ok c → is_unit_cell c ≡ one
shape-gather one lit a idx c h = by (lit && is_null_unit idx) (list_all (is_index (length (list_of a))) (list_of idx)) h
  where
    by : (p q : Bool) → (if p then Err (ComputeError NullIndex) else if q then Ok (cell_of one (map (indexed (list_of a)) (list_of idx))) else Err OutOfBounds) ≡ Ok c → is_unit_cell c ≡ one
    by true q g = cc
    by false true g = shape-same (cell_of one (map (indexed (list_of a)) (list_of idx))) c g ∙ shape-cell_of one (map (indexed (list_of a)) (list_of idx))
    by false false g = cc

shape-sort_by : (options : SortMultipleOptions) (a : Cell) (by : List Cell) (c : Cell) → sort_by_cell options a by ≡ Ok c → is_unit_cell c ≡ false
shape-sort_by options a by c h =
    let keys = result_bound (spread_keys (length (list_of a)) by) _ c h in
    shape-rows _ c keys.2

shape-window : (mapping : WindowMapping) (n : ℕ) (parts : List (List ℕ × Cell)) (c : Cell) → window_cell mapping n parts ≡ Ok c → is_unit_cell c ≡ false
shape-window GroupsToRows n parts c h =
    let places = result_bound (placed parts) _ c h in
    shape-rows _ c places.2
shape-window Join n parts c h = shape-rows _ c h
shape-window win.Explode n parts c h = shape-rows _ c h

not_implode : (m : GroupByMethod) (e : Tree) → not (is_implode m) ≡ is_unit (agg m e)
not_implode Min e = refl
not_implode Max e = refl
not_implode Sum e = refl
not_implode First e = refl
not_implode Last e = refl
not_implode NUnique e = refl
not_implode (Count nulls) e = refl
not_implode Implode e = refl

-- the shapes of a function's inputs are those of its trees
abbrev Shaped : Trees → List Cell → Type 0
Shaped no_trees [] = Unit {0}
Shaped (one_tree t ts) (c ∷ cs) = (is_unit_cell c ≡ is_unit t) × Shaped ts cs
Shaped _ _ = ⊥

first_shape : (es : Trees) (a : Cell) (cs : List Cell) → Shaped es (a ∷ cs) → is_unit_cell a ≡ is_unit_first es
first_shape no_trees a cs s = absurd s
first_shape (one_tree t ts) a cs s = s.0

all_shapes : (es : Trees) (cs : List Cell) → Shaped es cs → list_all is_unit_cell cs ≡ are_units es
all_shapes no_trees [] s = refl
all_shapes no_trees (c ∷ cs) s = absurd s
all_shapes (one_tree t ts) [] s = absurd s
all_shapes (one_tree t ts) (c ∷ cs) s = λ i. s.0 i && all_shapes ts cs s.1 i

and_true : (a b c : Bool) → (a && (b && c)) ≡ (a && (b && (c && true)))
and_true true true true = refl
and_true true true false = refl
and_true true false c = refl
and_true false b c = refl

shape-function : (f : FunctionExpr) (k : Kind) (es : Trees) (cs : List Cell) (c : Cell) → Shaped es cs → function_cell f k cs ≡ Ok c → is_unit_cell c ≡ is_unit (function es (by_name f))
shape-function IsNull k es [] c s e = cc
shape-function IsNull k es (a ∷ []) c s e = shape-same (map_cell is_null_slot a) c e ∙ shape-map_cell is_null_slot a ∙ first_shape es a [] s
shape-function IsNull k es (a ∷ b ∷ cs) c s e = cc
shape-function IsNotNull k es [] c s e = cc
shape-function IsNotNull k es (a ∷ []) c s e = shape-same (map_cell is_not_null_slot a) c e ∙ shape-map_cell is_not_null_slot a ∙ first_shape es a [] s
shape-function IsNotNull k es (a ∷ b ∷ cs) c s e = cc
shape-function Not k es [] c s e = cc
shape-function Not k es (a ∷ []) c s e = shape-same (map_cell not_slot a) c e ∙ shape-map_cell not_slot a ∙ first_shape es a [] s
shape-function Not k es (a ∷ b ∷ cs) c s e = cc
shape-function (IsBetween closed) k es [] c s e = cc
shape-function (IsBetween closed) k es (a ∷ []) c s e = cc
shape-function (IsBetween closed) k es (a ∷ b ∷ []) c s e = cc
shape-function (IsBetween closed) k es (a ∷ b ∷ d ∷ []) c s e =
    shape-zip_three (between_slot k closed) a b d c e ∙ and_true (is_unit_cell a) (is_unit_cell b) (is_unit_cell d) ∙ all_shapes es (a ∷ b ∷ d ∷ []) s
shape-function (IsBetween closed) k es (a ∷ b ∷ d ∷ f ∷ cs) c s e = cc
shape-function IsIn k es [] c s e = cc
shape-function IsIn k es (a ∷ []) c s e = cc
shape-function IsIn k es (a ∷ b ∷ []) c s e = shape-same (map_cell (in_slot (list_of b)) a) c e ∙ shape-map_cell (in_slot (list_of b)) a ∙ first_shape es a (b ∷ []) s
shape-function IsIn k es (a ∷ b ∷ d ∷ cs) c s e = cc
shape-function Reverse k es [] c s e = cc
shape-function Reverse k es (a ∷ []) c s e = shape-rows _ c e
shape-function Reverse k es (a ∷ b ∷ cs) c s e = cc
shape-function (Shift periods) k es [] c s e = cc
shape-function (Shift periods) k es (a ∷ []) c s e = shape-rows _ c e
shape-function (Shift periods) k es (a ∷ b ∷ cs) c s e = cc
shape-function DropNulls k es [] c s e = cc
shape-function DropNulls k es (a ∷ []) c s e = shape-rows _ c e
shape-function DropNulls k es (a ∷ b ∷ cs) c s e = cc
shape-function Explode k es [] c s e = cc
shape-function Explode k es (a ∷ []) c s e = shape-rows _ c e
shape-function Explode k es (a ∷ b ∷ cs) c s e = cc
shape-function NullCount k es [] c s e = cc
shape-function NullCount k es (a ∷ []) c s e = shape-same (unit (count_slot (null_count (list_of a)))) c e
shape-function NullCount k es (a ∷ b ∷ cs) c s e = cc

-- a window's value is a list
shape-whole : (mapping : WindowMapping) (frame : Frame) (found : Result (List (List ℕ)) PxError) (cells : List (List ℕ) → Option (List Cell)) (c : Cell) → made (whole_window mapping frame found cells) ≡ Some c → is_unit_cell c ≡ false
shape-whole mapping frame (Err e) cells c h = cc
shape-whole mapping frame (Ok parts) cells c h = by (cells parts) h
  where
    by : (o : Option (List Cell)) → made (option_map (λ cs. window_cell mapping (height frame) (zip parts cs)) o) ≡ Some c → is_unit_cell c ≡ false
    by None g = cc
    by (Some cs) g = shape-window mapping (height frame) (zip parts cs) c (made_ok _ c g)

mutual
  pub shape_of_value : (e : Tree) (frame : Frame) (c : Cell) → value_on e frame ≡ Some c → is_unit_cell c ≡ is_unit e
  shape_of_value (column n) frame c h =
      let found = map_found (look_in n frame) (λ s. Ok (rows s.slots)) c h in
      shape-rows _ c found.2
  shape_of_value (literal v) frame c h = shape-literal v c (made_ok (literal_cell v) c h)
  shape_of_value (alias e n) frame c h =
      let inner = map_found (made (outcome_on e frame)) Ok c h in
      shape-same inner.0 c inner.2 ∙ shape_of_value e frame inner.0 inner.1
  shape_of_value (binary l op r) frame c h =
      let k = made_bound (kind_in l (scope_of frame)) _ c h in
      let a = made_bound (made (outcome_on l frame)) _ c k.2 in
      let b = made_bound (made (outcome_on r frame)) _ c a.2 in
      shape-zip_cells (operated k.0 op) a.0 b.0 c (made_ok _ c b.2) ∙ (λ i. shape_of_value l frame a.0 a.1 i && shape_of_value r frame b.0 b.1 i)
  shape_of_value (ternary p a b) frame c h =
      let t = made_bound (made (outcome_on p frame)) _ c h in
      let x = made_bound (made (outcome_on a frame)) _ c t.2 in
      let y = made_bound (made (outcome_on b frame)) _ c x.2 in
      shape-zip_three chosen t.0 x.0 y.0 c (made_ok _ c y.2) ∙ (λ i. shape_of_value p frame t.0 t.1 i && (shape_of_value a frame x.0 x.1 i && shape_of_value b frame y.0 y.1 i))
  shape_of_value (cast e to options) frame c h =
      let k = made_bound (kind_in e (scope_of frame)) _ c h in
      let a = made_bound (made (outcome_on e frame)) _ c k.2 in
      shape-cast k.0 to options a.0 c (made_ok _ c a.2) ∙ shape_of_value e frame a.0 a.1
  shape_of_value (function es f) frame c h =
      let ks = made_bound (kinds_in es (scope_of frame)) _ c h in
      let cs = made_bound (cells_on es frame) _ c ks.2 in
      shape-function (called f) (first_kind ks.0) es cs.0 c (shapes_of_cells es frame cs.0 cs.1) (made_ok _ c cs.2)
  shape_of_value (filter e by) frame c h =
      let a = made_bound (made (outcome_on e frame)) _ c h in
      let mask = made_bound (made (outcome_on by frame)) _ c a.2 in
      shape-filter a.0 mask.0 c (made_ok _ c mask.2)
  shape_of_value (slice e offset length) frame c h =
      let a = made_bound (made (outcome_on e frame)) _ c h in
      let o = made_bound (made (outcome_on offset frame)) _ c a.2 in
      let l = made_bound (made (outcome_on length frame)) _ c o.2 in
      shape-slice a.0 o.0 l.0 c (made_ok _ c l.2)
  shape_of_value (gather e idx one) frame c h =
      let a = made_bound (made (outcome_on e frame)) _ c h in
      let i = made_bound (made (outcome_on idx frame)) _ c a.2 in
      shape-gather one (is_literal_tree idx) a.0 i.0 c (made_ok _ c i.2)
  shape_of_value (sort e options) frame c h =
      let a = made_bound (made (outcome_on e frame)) _ c h in
      shape-rows _ c (made_ok _ c a.2)
  shape_of_value (sort_by e by options) frame c h =
      let a = made_bound (made (outcome_on e frame)) _ c h in
      let keys = made_bound (cells_on by frame) _ c a.2 in
      shape-sort_by options a.0 keys.0 c (made_ok _ c keys.2)
  shape_of_value (agg m e) frame c h =
      let k = made_bound (kind_in e (scope_of frame)) _ c h in
      let a = made_bound (made (outcome_on e frame)) _ c k.2 in
      shape-same (reduction_cell m k.0 a.0) c (made_ok _ c a.2) ∙ shape-cell_of (not (is_implode m)) (reduced_slot m k.0 (list_of a.0) ∷ []) ∙ not_implode m e
  shape_of_value len frame c h = shape-same (unit (count_slot (height frame))) c (made_ok _ c h)
  shape_of_value (window f keys order mapping) frame c h =
      let found = made_bound (window_parts (named_on keys frame) (order_on order frame) frame) _ c h in
      shape-whole mapping frame found.0 _ c found.2

  shapes_of_cells : (es : Trees) (frame : Frame) (cs : List Cell) → cells_on es frame ≡ Some cs → Shaped es cs
  shapes_of_cells no_trees frame [] h = tt
  shapes_of_cells no_trees frame (c ∷ cs) h = cc
  shapes_of_cells (one_tree t ts) frame cs h =
      let a = bound (made (outcome_on t frame)) _ cs h in
      let rest = bound (cells_on ts frame) _ cs a.2 in
      let same : a.0 ∷ rest.0 ≡ cs = cc (rest.2) in
      subst (Shaped (one_tree t ts)) same (shape_of_value t frame a.0 a.1, shapes_of_cells ts frame rest.0 rest.1)

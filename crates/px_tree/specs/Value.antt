-- The value of an expression on a frame, and its faults. Only an expression that is not refused has them.
use Rattle.std.specs.Prelude.{ℕ, Bool, not, List, [], ◌∷◌, ◌++◌, Option, Some, None, Result, Ok, Err, length, map, is_some, option_map, ◌&&◌, false}
use Rattle.std.specs.List.{flat_map, list_any, zip}
use Rattle.std.specs.Option.{option_map_or}
use Rattle.std.specs.Result.{result_ok}
use Rattle.px_column.specs.Prelude.{Kind, nulls}
use Rattle.px_column.specs.Option.{◌>>=◌, each}
use Rattle.px_column.specs.Reduction.{count_slot}
use Rattle.px_value.specs.declared.error.PxError.{PxError}
use Rattle.px_frame.specs.Cell.{Cell, unit, rows}
use Rattle.px_frame.specs.External.{Frame, height, look_in, scope_of, rows_of_frame}
use Rattle.px_frame.specs.Frame.{look, has_height}
use Rattle.px_frame.specs.Spread.{NamedCell}
use Rattle.px_tree.specs.Nodes.{leaf_names}
use Rattle.px_tree.specs.Node.{literal_cell, binary_cell, ternary_cell, cast_cell, function_cell, filter_cell, slice_cell, gather_cell, sort_cell, sort_by_cell, reduction_cell}
use Rattle.px_tree.specs.Shape.{is_literal_tree, name_of}
use Rattle.px_tree.specs.Tree.{Tree, called, Trees, Order, no_trees, one_tree, no_order, ordered, column, literal, alias, binary, ternary, cast, function, filter, slice, gather, sort, sort_by, agg, len, window}
use Rattle.px_tree.specs.Typing.{kind_in, kinds_in}
use Rattle.px_tree.specs.declared.window.WindowMapping.{WindowMapping}
use Rattle.px_tree.specs.Window.{OrderCell, parts_by, window_cell}

-- what a node made, where it is no fault
abbrev pub made : Option (Result Cell PxError) → Option Cell
made outcome = outcome >>= result_ok

-- a cell under the expression's name and type
abbrev pub named : Tree → Frame → Cell → Option NamedCell
named e frame c = option_map (λ k. record { name = name_of e; kind = k; cell = c }) (kind_in e (scope_of frame))

-- the row numbers of a window's parts; without parts where a key or the order key has no value, or not the frame's height
abbrev pub window_parts : Option (List NamedCell) → Option OrderCell → Frame → Option (Result (List (List ℕ)) PxError)
window_parts keys order frame = do
  by ← keys
  o ← order
  Some (parts_by by o (height frame))

-- the type of the first input
abbrev pub first_kind : List Kind → Kind
first_kind [] = nulls
first_kind (k ∷ ks) = k

-- a window's cells for its parts, put in their places, where the parts are there and the function has a value on each
abbrev pub whole_window : WindowMapping → Frame → Result (List (List ℕ)) PxError → (List (List ℕ) → Option (List Cell)) → Option (Result Cell PxError)
whole_window mapping frame (Err e) cells = Some (Err e)
whole_window mapping frame (Ok parts) cells = option_map (λ cs. window_cell mapping (height frame) (zip parts cs)) (cells parts)

abbrev mutual
  -- what an expression answers on a frame where all its inputs have values: its cell, or its own fault
  pub outcome_on : Tree → Frame → Option (Result Cell PxError)
  outcome_on (column n) frame = option_map (λ s. Ok (rows s.slots)) (look_in n frame)
  outcome_on (literal v) frame = Some (literal_cell v)
  outcome_on (alias e n) frame = option_map Ok (made (outcome_on e frame))
  outcome_on (binary l op r) frame = do
    k ← kind_in l (scope_of frame)
    a ← made (outcome_on l frame)
    b ← made (outcome_on r frame)
    Some (binary_cell k op a b)
  outcome_on (ternary p a b) frame = do
    truths ← made (outcome_on p frame)
    x ← made (outcome_on a frame)
    y ← made (outcome_on b frame)
    Some (ternary_cell truths x y)
  outcome_on (cast e to options) frame = do
    from ← kind_in e (scope_of frame)
    c ← made (outcome_on e frame)
    Some (cast_cell from to options c)
  outcome_on (function es f) frame = do
    ks ← kinds_in es (scope_of frame)
    cs ← cells_on es frame
    Some (function_cell (called f) (first_kind ks) cs)
  outcome_on (filter e by) frame = do
    c ← made (outcome_on e frame)
    mask ← made (outcome_on by frame)
    Some (filter_cell c mask)
  outcome_on (slice e offset length) frame = do
    c ← made (outcome_on e frame)
    o ← made (outcome_on offset frame)
    l ← made (outcome_on length frame)
    Some (slice_cell c o l)
  outcome_on (gather e idx one) frame = do
    c ← made (outcome_on e frame)
    i ← made (outcome_on idx frame)
    Some (gather_cell one (is_literal_tree idx) c i)
  outcome_on (sort e options) frame = do
    c ← made (outcome_on e frame)
    Some (sort_cell options c)
  outcome_on (sort_by e by options) frame = do
    c ← made (outcome_on e frame)
    keys ← cells_on by frame
    Some (sort_by_cell options c keys)
  outcome_on (agg m e) frame = do
    k ← kind_in e (scope_of frame)
    c ← made (outcome_on e frame)
    Some (Ok (reduction_cell m k c))
  outcome_on len frame = Some (Ok (unit (count_slot (height frame))))
  outcome_on (window f keys order mapping) frame = do
    found ← window_parts (named_on keys frame) (order_on order frame) frame
    whole_window mapping frame found (λ parts. each (λ p. made (outcome_on f (rows_of_frame frame p))) parts)

  -- the inputs' values, where all have one
  pub cells_on : Trees → Frame → Option (List Cell)
  cells_on no_trees frame = Some []
  cells_on (one_tree t ts) frame = do
    c ← made (outcome_on t frame)
    cs ← cells_on ts frame
    Some (c ∷ cs)

  -- the same, under their names and types
  pub named_on : Trees → Frame → Option (List NamedCell)
  named_on no_trees frame = Some []
  named_on (one_tree t ts) frame = do
    c ← made (outcome_on t frame) >>= named t frame
    cs ← named_on ts frame
    Some (c ∷ cs)

  -- what a window's rows are ordered by, under its name and type, where it has a value
  pub order_on : Order → Frame → Option OrderCell
  order_on no_order frame = Some None
  order_on (ordered t options) frame = option_map (λ c. Some (c, options)) (made (outcome_on t frame) >>= named t frame)

-- the value of an expression on a frame
abbrev pub value_on : Tree → Frame → Option Cell
value_on e frame = made (outcome_on e frame)

-- the fault in an answer, if it is one
abbrev pub fault_in : Option (Result Cell PxError) → List PxError
fault_in (Some (Err e)) = e ∷ []
fault_in _ = []

-- the row lists of the parts, none where there are no parts
abbrev pub parts_in : Option (Result (List (List ℕ)) PxError) → List (List ℕ)
parts_in (Some (Ok parts)) = parts
parts_in _ = []

-- the parts over which a window's function is evaluated
abbrev pub parts_on : Trees → Order → Frame → List (List ℕ)
parts_on keys order frame = parts_in (window_parts (named_on keys frame) (order_on order frame) frame)

-- the frames of those parts
abbrev pub window_frames : Trees → Order → Frame → List Frame
window_frames keys order frame = map (rows_of_frame frame) (parts_on keys order frame)

abbrev mutual
  -- the faults of an expression: its inputs', and its own where all of them have values. A window's function is evaluated
  -- on the frame of each part
  pub faults_on : Tree → Frame → List PxError
  faults_on (column n) frame = []
  faults_on (literal v) frame = fault_in (outcome_on (literal v) frame)
  faults_on (alias e n) frame = faults_on e frame
  faults_on (binary l op r) frame = faults_on l frame ++ faults_on r frame ++ fault_in (outcome_on (binary l op r) frame)
  faults_on (ternary p a b) frame = faults_on p frame ++ faults_on a frame ++ faults_on b frame ++ fault_in (outcome_on (ternary p a b) frame)
  faults_on (cast e to options) frame = faults_on e frame ++ fault_in (outcome_on (cast e to options) frame)
  faults_on (function es f) frame = all_faults_on es frame ++ fault_in (outcome_on (function es f) frame)
  faults_on (filter e by) frame = faults_on e frame ++ faults_on by frame ++ fault_in (outcome_on (filter e by) frame)
  faults_on (slice e offset length) frame = faults_on e frame ++ faults_on offset frame ++ faults_on length frame ++ fault_in (outcome_on (slice e offset length) frame)
  faults_on (gather e idx one) frame = faults_on e frame ++ faults_on idx frame ++ fault_in (outcome_on (gather e idx one) frame)
  faults_on (sort e options) frame = faults_on e frame
  faults_on (sort_by e by options) frame = faults_on e frame ++ all_faults_on by frame ++ fault_in (outcome_on (sort_by e by options) frame)
  faults_on (agg m e) frame = faults_on e frame
  faults_on len frame = []
  faults_on (window f keys order mapping) frame =
      all_faults_on keys frame ++ order_faults_on order frame
      ++ flat_map (λ p. faults_on f (rows_of_frame frame p)) (parts_on keys order frame)
      ++ fault_in (outcome_on (window f keys order mapping) frame)

  -- the faults of some expressions, from left to right
  pub all_faults_on : Trees → Frame → List PxError
  all_faults_on no_trees frame = []
  all_faults_on (one_tree t ts) frame = faults_on t frame ++ all_faults_on ts frame

  -- the faults of what an order is by
  pub order_faults_on : Order → Frame → List PxError
  order_faults_on no_order frame = []
  order_faults_on (ordered t options) frame = faults_on t frame

-- a name that stands for a column beside the frame which has not the frame's height
abbrev pub is_misfit : Frame → List ℕ → Bool
is_misfit frame n = not (is_some (look n frame.columns)) && option_map_or (λ s. not (has_height (height frame) s)) (look n frame.external) false

-- an expression names such a column; a window's function, keys and order count, on the whole frame
abbrev pub has_misfit : Tree → Frame → Bool
has_misfit e frame = list_any (is_misfit frame) (leaf_names e)

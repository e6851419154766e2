-- What steps mean on plain frames, why they are refused, and the faults of their values.
use Rattle.std.specs.Prelude.{◌≡◌, ℕ, ◌+◌, ◌^◌, ◌<◌, length, not, ◌==◌, List, [], ◌∷◌, ◌++◌, Option, Some, None, Result, Ok, Err, map, max, sum, option_map}
use Rattle.std.specs.List.{flat_map, filter_map, list_any, sum_by}
use Rattle.std.specs.Option.{option_map_or}
use Rattle.std.specs.Result.{result_ok}
use Rattle.px_column.specs.Prelude.{lists, Series}
use Rattle.px_column.specs.Operator.{is_boolean_kind}
use Rattle.px_column.specs.Option.{◌>>=◌, each}
use Rattle.px_value.specs.declared.error.PxError.{PxError}
use Rattle.px_value.specs.declared.error.PxError.TheVariants.{Duplicate, InvalidOperation, ComputeError, ShapeMismatch, SchemaMismatch}
use Rattle.px_value.specs.declared.error.InvalidWhy.TheVariants.{ListKey}
use Rattle.px_value.specs.declared.error.ComputeWhy.TheVariants.{NoKey, NotPartitionSafe, ChunkLengths}
use Rattle.px_frame.specs.Cell.{Cell}
use Rattle.px_answers.specs.Counted.{costs_on, flat_kernels}
use Rattle.px_frame.specs.External.{Frame, height, scope_of, rows_of_frame}
use Rattle.px_frame.specs.Frame.{height_of, first_repeat, kept_series}
use Rattle.px_frame.specs.Parts.{parts_of}
use Rattle.px_frame.specs.Schema.{column_field}
use Rattle.px_frame.specs.Spread.{NamedCell, spread, spread_all, rows_beside, assembled}
use Rattle.px_tree.specs.Cost.{cost_on, group_cost, windows_in}
use Rattle.px_tree.specs.Grouped.{named_value, key_on, key_values, aggregated_on}
use Rattle.px_tree.specs.Partition.{is_elementwise, is_partition_safe}
use Rattle.px_tree.specs.Shape.{name_of}
use Rattle.px_tree.specs.Size.{size_on}
use Rattle.px_tree.specs.Tree.{Tree}
use Rattle.px_tree.specs.Typing.{kind_in, refusals_of, refused_where, fails, not_list}
use Rattle.px_tree.specs.Value.{value_on, named, faults_on, has_misfit}
use Rattle.px_tree.specs.declared.context.Context.TheVariants.{Default, Aggregation}
use Rattle.px_tree.specs.Step.{PlainStep, select, filter, group}

-- for each part of the frame by these key columns, the keys' values and then each aggregation's
abbrev pub columns_on : Frame → List Tree → List Series → Option (List Series)
columns_on frame aggs by = do
  columns ← each (aggregated_on frame (parts_of by (height frame))) aggs
  Some (map (key_values (parts_of by (height frame))) by ++ columns)

-- the columns that a step makes of a frame
abbrev pub columns_made : PlainStep → Frame → Option (List Series)
columns_made (select es) frame = each (named_value frame) es >>= λ cells. result_ok (assembled cells)
columns_made (filter e) frame = do
  mask ← value_on e frame
  truths ← result_ok (spread (height frame) mask)
  Some (map (kept_series truths) frame.columns)
columns_made (group keys aggs chunks) frame = each (key_on frame) keys >>= columns_on frame aggs

-- the frame of these columns, beside which stands what stands beside another
abbrev pub with_columns : Frame → List Series → Frame
with_columns frame columns = record frame { columns = columns }

-- the frame that a step makes of a frame; what stands beside it stays as it is
abbrev pub step_on : PlainStep → Frame → Option Frame
step_on s frame = option_map (with_columns frame) (columns_made s frame)

-- the frame that steps make, one after another
abbrev pub plain_on : List PlainStep → Frame → Option Frame
plain_on [] frame = Some frame
plain_on (s ∷ steps) frame = step_on s frame >>= plain_on steps

-- an expression over a frame's names and types is refused on the frame, or on groups
abbrev pub frame_refusals : Frame → Tree → List PxError
frame_refusals frame e = refusals_of e (scope_of frame) Default

abbrev pub agg_refusals : Frame → Tree → List PxError
agg_refusals frame e = refusals_of e (scope_of frame) Aggregation

-- a key is typed on the frame, and is no list
abbrev pub key_refusals : Frame → Tree → List PxError
key_refusals frame e = frame_refusals frame e ++ refused_where (fails not_list (kind_in e (scope_of frame))) (InvalidOperation ListKey)

abbrev pub no_key_refusal : List Tree → List PxError
no_key_refusal [] = ComputeError NoKey ∷ []
no_key_refusal (k ∷ keys) = []

-- a name that stands twice in the result
abbrev pub repeat_refusal : List Tree → List PxError
repeat_refusal es = option_map_or (λ n. Duplicate n ∷ []) (first_repeat [] (map name_of es)) []

-- chunks need elementwise keys and aggregations that can be merged, over the frame's own columns, and their lengths make
-- up the height
abbrev pub chunk_refusals : Frame → List Tree → List Tree → Option (List ℕ) → List PxError
chunk_refusals frame keys aggs None = []
chunk_refusals frame keys aggs (Some chunks) =
    refused_where (list_any (λ e. not (is_elementwise e (map column_field frame.columns))) keys) (ComputeError NotPartitionSafe)
    ++ refused_where (list_any (λ e. not (is_partition_safe e (map column_field frame.columns))) aggs) (ComputeError NotPartitionSafe)
    ++ refused_where (not (sum chunks == height frame)) (ComputeError ChunkLengths)

-- why a step is refused on a frame, the first refusal deciding: there is no key; the expressions' own, from left to right;
-- a name that stands twice in the result; the chunks
abbrev pub step_refusals : PlainStep → Frame → List PxError
step_refusals (select es) frame = flat_map (frame_refusals frame) es ++ repeat_refusal es
step_refusals (filter e) frame = frame_refusals frame e ++ refused_where (fails is_boolean_kind (kind_in e (scope_of frame))) SchemaMismatch
step_refusals (group keys aggs chunks) frame =
    no_key_refusal keys ++ flat_map (key_refusals frame) keys ++ flat_map (agg_refusals frame) aggs
    ++ repeat_refusal (keys ++ aggs) ++ chunk_refusals frame keys aggs chunks

abbrev pub first_of : List PxError → Option PxError
first_of [] = None
first_of (e ∷ es) = Some e

-- the first refusal of a step, where there is one
abbrev pub first_refusal : PlainStep → Frame → Option PxError
first_refusal s frame = first_of (step_refusals s frame)

abbrev pub refused_by : {A : Type 0} → Result A PxError → List PxError
refused_by (Ok a) = []
refused_by (Err e) = e ∷ []

-- lists of a result that are not equally long
abbrev pub uneven_fault : List NamedCell → List PxError
uneven_fault cells = refused_by (spread_all (rows_beside (map (λ c. c.cell) cells)) cells)

-- a cell that has not the frame's height
abbrev pub height_fault : Frame → Option Cell → List PxError
height_fault frame None = []
height_fault frame (Some c) = refused_by (spread (height frame) c)

-- a column beside the frame that is named and has not its height
abbrev pub misfit_faults : Frame → List Tree → List PxError
misfit_faults frame es = refused_where (list_any (λ e. has_misfit e frame) es) ShapeMismatch

-- the frames of the parts by some keys, none where a key has no value of the frame's height
abbrev pub group_frames : Frame → Option (List Series) → List Frame
group_frames frame None = []
group_frames frame (Some by) = map (rows_of_frame frame) (parts_of by (height frame))

abbrev pub frames_by : Frame → List Tree → List Frame
frames_by frame keys = group_frames frame (each (key_on frame) keys)

-- the faults of a step that is not refused: its expressions', an aggregation's on each group, and those of lists that are
-- not as long as they are to be
abbrev pub step_faults : PlainStep → Frame → List PxError
step_faults (select es) frame =
    flat_map (λ e. faults_on e frame) es ++ uneven_fault (filter_map (named_value frame) es) ++ misfit_faults frame es
step_faults (filter e) frame =
    faults_on e frame ++ height_fault frame (value_on e frame) ++ misfit_faults frame (e ∷ [])
step_faults (group keys aggs chunks) frame =
    flat_map (λ e. faults_on e frame) keys ++ flat_map (λ e. height_fault frame (value_on e frame)) keys
    ++ flat_map (λ e. flat_map (faults_on e) (frames_by frame keys)) aggs ++ misfit_faults frame (keys ++ aggs)

-- the greatest of some numbers, 0 of none
abbrev pub greatest : List ℕ → ℕ
greatest [] = 0
greatest (n ∷ ns) = max n (greatest ns)

-- the number of rows that a step makes
abbrev pub height_made : PlainStep → Frame → ℕ
height_made s frame = option_map_or height_of (columns_made s frame) 0

-- the greatest number of values of the result or of an expression of the step, an aggregation's over all groups together
abbrev pub step_size : PlainStep → Frame → ℕ
step_size (select es) frame = max (height_made (select es) frame) (greatest (map (λ e. size_on e (frame ∷ [])) es))
step_size (filter e) frame = max (height_made (filter e) frame) (size_on e (frame ∷ []))
step_size (group keys aggs chunks) frame =
    max (height_made (group keys aggs chunks) frame)
    (max (greatest (map (λ e. size_on e (frame ∷ [])) keys)) (greatest (map (λ e. size_on e (frames_by frame keys)) aggs)))

-- a step that is not refused, has no fault and makes fewer than 2^32 values of any kind
pub record IsValid (s : PlainStep) (frame : Frame) : Type 0 where
  pub accepted : first_refusal s frame ≡ None
  pub sound : step_faults s frame ≡ []
  pub short : step_size s frame < 2 ^ 32

-- each step is valid on the frame that those before it make
abbrev pub AreValid : List PlainStep → Frame → Type 0
AreValid [] frame = Unit {0}
AreValid (s ∷ steps) frame = IsValid s frame × ((next : Frame) → step_on s frame ≡ Some next → AreValid steps next)

-- how many times a step groups rows: once for each window of its selections, its mask or its keys, and once for its own groups.
-- An aggregation holds no window, since it stands on groups
abbrev pub groupings_in : PlainStep → ℕ
groupings_in (select es) = sum_by windows_in es
groupings_in (filter e) = windows_in e
groupings_in (group keys aggs chunks) = sum_by windows_in keys + 1

-- how many times some steps group rows
abbrev pub groupings_of : List PlainStep → ℕ
groupings_of steps = sum_by groupings_in steps

-- how many kernels a step runs at least: those of its flat expressions. A flat aggregation runs its own over all groups at once,
-- also where there is none
abbrev pub kernels_in : PlainStep → ℕ
kernels_in (select es) = sum_by flat_kernels es
kernels_in (filter e) = flat_kernels e
kernels_in (group keys aggs chunks) = sum_by flat_kernels keys + sum_by flat_kernels aggs

-- how many kernels some steps run at least
abbrev pub kernels_of : List PlainStep → ℕ
kernels_of steps = sum_by kernels_in steps

-- the costs of some aggregations on n groups together
abbrev pub group_costs : List Tree → ℕ → ℕ
group_costs aggs n = sum_by (λ e. group_cost e n) aggs

-- how many kernels a step runs at most on a frame: the costs of its expressions, an aggregation's on the groups by the keys. There
-- is such a bound where each selection, mask and key has a cost, and no chunks are given
abbrev pub most_kernels_in : PlainStep → Frame → Option ℕ
most_kernels_in (select es) frame = costs_on es frame
most_kernels_in (filter e) frame = cost_on e frame
most_kernels_in (group keys aggs None) frame = option_map (λ n. n + group_costs aggs (length (frames_by frame keys))) (costs_on keys frame)
most_kernels_in (group keys aggs (Some chunks)) frame = None

-- how many kernels some steps run at most, each on the frame that those before it make, where each has such a bound
abbrev pub most_kernels_of : List PlainStep → Frame → Option ℕ
most_kernels_of [] frame = Some 0
most_kernels_of (s ∷ steps) frame = do
  n ← most_kernels_in s frame
  next ← step_on s frame
  more ← most_kernels_of steps next
  Some (n + more)

-- An expression on groups, and in a select step on the frame of one group's rows alone.
use Rattle.std.specs.Prelude.{◌≡◌, ℕ, List, [], ◌∷◌, option_map}
use Rattle.px_frame.specs.Cell.{value_of_cell}
use Rattle.px_frame.specs.External.{Frame, rows_of_frame, scope_of}
use Rattle.px_frame.specs.Spread.{column_of_cell}
use Rattle.px_steps.specs.Plain.{agg_refusals, columns_made, frame_refusals}
use Rattle.px_tree.specs.Grouped.{named_value, value_on_part}
use Rattle.px_tree.specs.Step.{select}
use Rattle.px_tree.specs.Tree.{Tree}
use Rattle.px_tree.specs.Typing.{type_of}
use Rattle.px_tree.specs.declared.context.Context.TheVariants.{Aggregation, Default}

-- a select of one expression makes one column: the value's rows, of which a unit has one, under its name and type
abbrev pub IsSelected : Tree → Frame → Type 0
IsSelected e frame = columns_made (select (e ∷ [])) frame ≡ option_map (λ c. column_of_cell c ∷ []) (named_value frame e)

-- an expression's value on a part is the value that a select of it has on the frame of that part's rows alone
abbrev pub IsSelectedAlone : Tree → Frame → List ℕ → Type 0
IsSelectedAlone e frame part =
    (value_on_part frame e part ≡ option_map (λ c. value_of_cell c.cell) (named_value (rows_of_frame frame part) e)) × IsSelected e (rows_of_frame frame part)

-- an expression that is not refused on groups is not refused on the frame, has the same type there, and is selected alone on each
-- part
abbrev pub IsAlikeOnGroups : Tree → Type 0
IsAlikeOnGroups e =
    (frame : Frame) → agg_refusals frame e ≡ []
    → (frame_refusals frame e ≡ []) × (type_of e (scope_of frame) Default ≡ type_of e (scope_of frame) Aggregation) × ((part : List ℕ) → IsSelectedAlone e frame part)

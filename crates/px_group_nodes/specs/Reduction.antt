-- Reductions of a context's cells.
use Rattle.std.specs.Prelude.{ℕ, Bool, ◌||◌, not, List, [], ◌∷◌, Result, length, map, sum, if◌then◌else◌}
use Rattle.px_column.specs.Prelude.{Series}
use Rattle.px_column.specs.Reduction.{reduced_kind}
use Rattle.px_value.specs.declared.error.PxError.{PxError}
use Rattle.px_value.specs.declared.method.GroupByMethod.{GroupByMethod}
use Rattle.px_frame.specs.Cell.{rows}
use Rattle.px_frame.specs.Groups.{Groups}
use Rattle.px_frame.specs.Reduced.{listed_by, reduced_by}
use Rattle.px_frame.specs.Spread.{NamedCell}
use Rattle.px_tree.specs.Shape.{is_implode}
use Rattle.px_nodes.specs.Named.{aggregation_named}
use Rattle.px_context.specs.Built.{is_flat, is_unit_literal}
use Rattle.px_context.specs.Changes.{counts_of}
use Rattle.px_context.specs.Context.{Context, cell_kind}
use Rattle.px_lanes.specs.Made.{IsMade, counts_in, named_cells}
use Rattle.px_lanes.specs.One.{answers_of_one}

-- whether the cells are the rows of one column at the groups, as those of an untouched context are
abbrev pub reads_groups : Context → Bool
reads_groups c = c.untouched || is_flat c.layout

-- whether one kernel reduces the cells of all groups: of a unit literal, which is the same for each, or of the rows of a column
abbrev pub reduces_at_once : Context → Bool
reduces_at_once c = is_unit_literal c.layout || reads_groups c

-- what a reduction answers group by group
abbrev pub reduction_answers : GroupByMethod → Context → List (Result NamedCell PxError)
reduction_answers method a = answers_of_one (aggregation_named method) (named_cells a)

-- the context has those cells, under the name of the one that was reduced and with the type of the reduction; they are
-- units, but for an Implode
abbrev pub IsReduced : GroupByMethod → Context → Context → Type 0
IsReduced method a c =
    IsMade (reduction_answers method a) a.values.name (reduced_kind method (cell_kind a)) (not (is_implode method)) (length a.groups.groups) c

-- the number of values that a reduction lays out: for an Implode those of all cells, else one for each answer
abbrev pub laid_count : GroupByMethod → Context → ℕ
laid_count method a = if is_implode method then sum (counts_of a) else counts_in (reduction_answers method a)

-- the column of the reductions of a column at each group's rows; an Implode's lists are not too long together
abbrev pub reduced_column : GroupByMethod → Series → Groups → Result Series PxError
reduced_column method s g = if is_implode method then listed_by s g else reduced_by method s g

-- the rows of a column, each of them a list of its own
abbrev pub rows_apart : Series → List NamedCell
rows_apart s = map (λ c. record { name = s.name; kind = s.kind; cell = c }) (map (λ x. rows (x ∷ [])) s.slots)

-- The contexts that the constructors make.
use Rattle.std.specs.Prelude.{ℕ, Bool, true, false, not, List}
use Rattle.px_column.specs.Series.{Series}
use Rattle.px_frame.specs.Groups.{Groups}
use Rattle.px_context.specs.Context.{Context}
use Rattle.px_context.specs.LentView.{literal_layout}
use Rattle.px_context.specs.declared.agg_state.Layout.{Layout}
use Rattle.px_context.specs.declared.agg_state.Layout.TheVariants.{Lists, Scalars, Flat, Rows, Unit as Single}
use Rattle.px_context.specs.declared.agg_state.UpdateGroups.{UpdateGroups}
use Rattle.px_context.specs.declared.agg_state.UpdateGroups.TheVariants.{No}

-- one of two layouts
abbrev pub column_layout : Bool → Layout
column_layout true = Scalars
column_layout false = Flat

-- whether values are laid out as the rows to which the groups point
abbrev pub is_flat : Layout → Bool
is_flat Flat = true
is_flat _ = false

-- whether there is a list or a value for each group
abbrev pub is_aggregated : Layout → Bool
is_aggregated Lists = true
is_aggregated Scalars = true
is_aggregated _ = false

-- whether each group has the same
abbrev pub is_literal : Layout → Bool
is_literal Rows = true
is_literal Single = true
is_literal _ = false

-- whether each group has the same one value
abbrev pub is_unit_literal : Layout → Bool
is_unit_literal Single = true
is_unit_literal _ = false

-- the context of a column with a value for each group, or for each row
abbrev pub new_context : Bool → Series → Groups → Context
new_context aggregated s g = record { layout = column_layout aggregated; values = s; groups = g; update = No; untouched = not aggregated }

-- the context of a state
abbrev pub state_context : Layout → Series → Groups → Context
state_context l s g = record { layout = l; values = s; groups = g; update = No; untouched = is_flat l }

-- the context of a literal
abbrev pub literal_context : Bool → Series → Groups → Context
literal_context is_unit s g = record { layout = literal_layout is_unit; values = s; groups = g; update = No; untouched = false }

-- a context with a column of values for the rows of its groups' height
abbrev pub with_flat : Context → Series → Context
with_flat c s = record c { layout = Flat; values = s; update = No }

-- a context with another column, with a value for each group or for each row
abbrev pub with_column : Bool → Context → Series → Context
with_column true c s = record c { layout = Scalars; values = s; update = No; untouched = false }
with_column false c s = with_flat c s

-- a context with a literal
abbrev pub with_lit : Bool → Context → Series → Context
with_lit is_unit c s = record c { layout = literal_layout is_unit; values = s; update = No; untouched = false }

-- a context with other groups
abbrev pub with_other_groups : Context → Groups → Context
with_other_groups c g = record c { groups = g; untouched = false }

-- a context with another update pending
abbrev pub with_update : Context → UpdateGroups → Context
with_update c u = record c { update = u }

-- a context under another name
abbrev pub renamed : Context → List ℕ → Context
renamed c n = record c { values = record c.values { name = n } }

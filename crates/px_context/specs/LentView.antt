-- What lent or owned columns and groups stand for.
use Rattle.std.specs.Prelude.{Bool, true, false}
use Rattle.px_column.specs.Series.{Series}
use Rattle.px_frame.specs.Groups.{Groups}
use Rattle.px_context.specs.declared.lent.ColRef.{ColRef}
use Rattle.px_context.specs.declared.lent.ColRef.TheVariants.{Borrowed, Owned}
use Rattle.px_context.specs.declared.lent.GroupsRef.{GroupsRef}
use Rattle.px_context.specs.declared.lent.GroupsRef.TheVariants.{Borrowed as Lent, Owned as Kept}
use Rattle.px_context.specs.declared.agg_state.AggState.{AggState}
use Rattle.px_context.specs.declared.agg_state.AggState.TheVariants.{AggregatedList, AggregatedScalar, NotAggregated, Literal}
use Rattle.px_context.specs.declared.agg_state.Layout.{Layout}
use Rattle.px_context.specs.declared.agg_state.Layout.TheVariants.{Lists, Scalars, Flat, Rows, Unit as Single}

-- the column that is lent or owned
abbrev pub series_of : ColRef → Series
series_of (Borrowed c) = c.now
series_of (Owned c) = c

-- the groups that are lent or owned
abbrev pub groups_in : GroupsRef → Groups
groups_in (Lent g) = g.now
groups_in (Kept g) = g

-- the column of values
abbrev pub values_of : AggState → Series
values_of (AggregatedList c) = series_of c
values_of (AggregatedScalar c) = series_of c
values_of (NotAggregated c) = series_of c
values_of (Literal c) = series_of c

-- the layout of a literal
abbrev pub literal_layout : Bool → Layout
literal_layout true = Single
literal_layout false = Rows

-- how values are laid out, where a literal is a unit or not
abbrev pub layout_of : Bool → AggState → Layout
layout_of is_unit (AggregatedList c) = Lists
layout_of is_unit (AggregatedScalar c) = Scalars
layout_of is_unit (NotAggregated c) = Flat
layout_of is_unit (Literal c) = literal_layout is_unit

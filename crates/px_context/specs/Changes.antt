-- How a context is laid out anew.
use Rattle.std.specs.Prelude.{◌≡◌, ◌⊎◌, ℕ, List, Result, Ok, length, map, replicate, Bool, true, false, if◌then◌else◌}
use Rattle.std.specs.List.{range_with_len}
use Rattle.px_column.specs.Prelude.{Kind, lists, Series, slot_at}
use Rattle.px_column.specs.Repeat.{repeated}
use Rattle.px_column.specs.Result.{◌>>=◌}
use Rattle.px_value.specs.declared.error.PxError.{PxError}
use Rattle.px_frame.specs.Cell.{count_of}
use Rattle.px_frame.specs.Consecutive.{consecutive}
use Rattle.px_frame.specs.Groups.{Groups}
use Rattle.px_frame.specs.Reduced.{listed_by}
use Rattle.px_context.specs.Context.{Context, cell_kind, cells_of, has_units}
use Rattle.px_context.specs.declared.agg_state.Layout.{Layout}
use Rattle.px_context.specs.declared.agg_state.Layout.TheVariants.{Lists, Scalars, Flat, Rows, Unit as Single}
use Rattle.px_context.specs.declared.agg_state.UpdateGroups.{UpdateGroups}
use Rattle.px_context.specs.declared.agg_state.UpdateGroups.TheVariants.{No, WithGroupsLen, WithSeriesLen}

-- whether groups are to be rebuilt
abbrev pub is_pending : UpdateGroups → Bool
is_pending No = false
is_pending _ = true

-- the numbers of values of the cells
abbrev pub counts_of : Context → List ℕ
counts_of c = map count_of (cells_of c)

-- the groups of a context once an update is done: as they are kept, or slices as long as the cells, one after another
abbrev pub groups_under : UpdateGroups → Context → Result Groups PxError
groups_under No c = Ok c.groups
groups_under WithGroupsLen c = consecutive (counts_of c)
groups_under WithSeriesLen c = consecutive (counts_of c)

-- the groups of a context, its pending update done
abbrev pub groups_for : Context → Result Groups PxError
groups_for c = groups_under c.update c

-- the context with these groups and no update pending
abbrev pub with_kept : Context → Groups → Context
with_kept c g = record c { groups = g; update = No }

-- the context once its groups are brought up to date
abbrev pub regrouped : Context → Result Context PxError
regrouped c = groups_for c >>= λ g. Ok (with_kept c g)

-- the context with a column of lists, one for each group
abbrev pub with_lists : Context → Series → Context
with_lists c s = record c { layout = Lists; values = s; update = WithGroupsLen; untouched = false }

-- the context with a column of values, one for each group
abbrev pub with_scalars : Context → Series → Context
with_scalars c s = record c { layout = Scalars; values = s; update = No; untouched = false }

-- n groups, each of which has all rows of a frame of this height
abbrev pub all_rows : ℕ → ℕ → Groups
all_rows n height = record { height = height; groups = replicate n (record { first = 0; rows = range_with_len 0 height }) }

-- the first place of a column, n times
abbrev pub first_repeated : Series → ℕ → Series
first_repeated s n = repeated s.name s.kind (slot_at s.slots 0) n

-- a context of this layout with a list or a value for each group
abbrev pub aggregated_in : Layout → Context → Result Context PxError
aggregated_in Lists c = Ok c
aggregated_in Scalars c = Ok c
aggregated_in Flat c = listed_by c.values c.groups >>= λ s. Ok (with_lists c s)
aggregated_in Rows c = listed_by c.values (all_rows (length c.groups.groups) (length c.values.slots)) >>= λ s. Ok (with_lists c s)
aggregated_in Single c = Ok (with_scalars c (first_repeated c.values (length c.groups.groups)))

-- the context with a list or a value for each group
abbrev pub aggregated : Context → Result Context PxError
aggregated c = aggregated_in c.layout c

-- the column of a context with a list or a value for each group
abbrev pub finalized : Context → Result Series PxError
finalized c = aggregated c >>= λ d. Ok d.values

-- the type of the column of a context with a list or a value for each group: of units that of the cells' values, else of lists of them
abbrev pub laid_kind : Context → Kind
laid_kind c = if has_units c.layout then cell_kind c else lists (cell_kind c)

-- the same name and type of the cells' values, and units where there were units
abbrev pub KeepsType : Context → Context → Type 0
KeepsType old new = (new.values.name ≡ old.values.name) × (cell_kind new ≡ cell_kind old) × (has_units new.layout ≡ has_units old.layout)

-- a context is as it was, or as it is with a list or a value for each group
abbrev pub LaidOrKept : Context → Context → Type 0
LaidOrKept old new = (new ≡ old) ⊎ (aggregated old ≡ Ok new)

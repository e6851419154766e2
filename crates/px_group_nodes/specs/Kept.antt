-- The rows of groups that a mask keeps.
use Rattle.std.specs.Prelude.{ℕ, ◌==◌, Bool, filter, length, map, if◌then◌else◌}
use Rattle.std.specs.List.{list_all}
use Rattle.px_column.specs.Prelude.{slot_at}
use Rattle.px_column.specs.Rows.{is_true}
use Rattle.px_frame.specs.Cell.{Cell, unit, rows, list_of}
use Rattle.px_frame.specs.Groups.{Group, Groups, group_of}
use Rattle.px_context.specs.Built.{with_other_groups}
use Rattle.px_context.specs.Context.{Context}

-- whether a mask keeps a row; a unit keeps each or none
abbrev pub truth_at : Cell → ℕ → Bool
truth_at (unit s) i = is_true s
truth_at (rows xs) i = is_true (slot_at xs i)

-- whether it keeps every row
abbrev pub keeps_all : Cell → Bool
keeps_all mask = list_all is_true (list_of mask)

-- the rows of a group that it keeps
abbrev pub kept_group : Cell → Group → Group
kept_group mask g = group_of (filter (truth_at mask) g.rows)

-- the groups of the rows that it keeps
abbrev pub kept_groups : Cell → Groups → Groups
kept_groups mask g = record { height = g.height; groups = map (kept_group mask) g.groups }

-- a group has one row
abbrev pub has_one_row : Group → Bool
has_one_row g = length g.rows == 1

-- flat values at the rows that it keeps; where these are all, the context is left as it is
abbrev pub kept_flat : Cell → Context → Context
kept_flat mask c = if keeps_all mask then c else with_other_groups c (kept_groups mask c.groups)

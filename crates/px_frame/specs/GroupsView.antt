-- The groups that a list of row numbers stands for.
use Rattle.std.specs.Prelude.{ℕ, ◌+◌, ◌^◌, Bool, true, List, Result, Ok, Err, length, map, nat_le, nat_lt, slice_index, if◌then◌else◌}
use Rattle.std.specs.List.{list_all, range_with_len}
use Rattle.std.specs.declared.alloc.Global.{Global}
use Rattle.smallvec.specs.declared.SmallVec.{SmallVec}
use Rattle.px_value.specs.declared.error.PxError.{PxError}
use Rattle.px_value.specs.declared.error.PxError.TheVariants.{OutOfBounds}
use Rattle.px_frame.specs.Frame.{are_below}
use Rattle.px_frame.specs.Groups.{Group, Groups}
use Rattle.px_frame.specs.declared.groups.GroupsType.{GroupsType}
use Rattle.px_frame.specs.declared.groups.GroupsType.TheVariants.{Idx, Slice}
use Rattle.px_frame.specs.declared.groups.GroupsIndicator.{GroupsIndicator}
use Rattle.px_frame.specs.declared.groups.GroupsIndicator.TheVariants.{Idx as Lent, Slice as Range}

-- a number and the rows beside it, as a group
abbrev pub idx_group : ℕ × SmallVec ℕ 1 Global → Group
idx_group p = record { first = p.0; rows = p.1.items }

-- a first row and a number of rows, as a group
abbrev pub slice_group : List ℕ → Group
slice_group s = record { first = slice_index s 0; rows = range_with_len (slice_index s 0) (slice_index s 1) }

-- the groups that are kept, in their order
abbrev pub groups_of : GroupsType → List Group
groups_of (Idx v) = map idx_group v.items
groups_of (Slice v rolling) = map slice_group v.items

-- the same groups, with another mark on slices
abbrev pub with_rolling : Bool → GroupsType → GroupsType
with_rolling rolling (Idx v) = Idx v
with_rolling rolling (Slice v was) = Slice v rolling

-- a group that is lent
abbrev pub lent_group : GroupsIndicator → Group
lent_group (Lent first rows) = record { first = first; rows = rows.now.items }
lent_group (Range s) = slice_group s

-- the rows of each index group are below the height
abbrev pub all_rows_below : ℕ → List (ℕ × SmallVec ℕ 1 Global) → Bool
all_rows_below height groups = list_all (λ p. are_below height p.1.items) groups

-- each slice ends within the height
abbrev pub all_end_within : ℕ → List (List ℕ) → Bool
all_end_within height slices = list_all (λ s. nat_le (slice_index s 0 + slice_index s 1) height) slices

-- no group reaches past the height
abbrev pub is_within : ℕ → GroupsType → Bool
is_within height (Idx v) = all_rows_below height v.items
is_within height (Slice v rolling) = all_end_within height v.items

-- each list of rows is shorter than 2^32
abbrev pub are_short : GroupsType → Bool
are_short (Idx v) = list_all (λ p. nat_lt (length p.1.items) (2 ^ 32)) v.items
are_short (Slice v rolling) = true

-- groups of the rows of a frame of this height, or the refusal of what reaches past it
abbrev pub groups_within : ℕ → GroupsType → Result Groups PxError
groups_within height groups = if is_within height groups then Ok (record { height = height; groups = groups_of groups }) else Err OutOfBounds

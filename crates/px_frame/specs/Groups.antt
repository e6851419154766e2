-- What contracts see of groups: the height that bounds their rows, and for each group its number `first` and its rows.
use Rattle.std.specs.Prelude.{◌≡◌, ℕ, ◌^◌, ◌<◌, Bool, true, ◌&&◌, nat_lt, List, [], ◌∷◌, Result, Ok, Err, length, map, if◌then◌else◌}
use Rattle.std.specs.List.{list_all, list_any}
use Rattle.px_column.specs.Prelude.{is_list_kind, Series}
use Rattle.px_value.specs.declared.error.PxError.{PxError}
use Rattle.px_value.specs.declared.error.PxError.TheVariants.{InvalidOperation, ComputeError, ShapeMismatch}
use Rattle.px_value.specs.declared.error.InvalidWhy.TheVariants.{ListKey}
use Rattle.px_value.specs.declared.error.ComputeWhy.TheVariants.{NoKey}
use Rattle.px_frame.specs.Frame.{all_have_height, are_below}
use Rattle.px_frame.specs.Parts.{parts_of}

-- a group: a number, `first`, and the numbers of its rows
pub record Group : Type 0 where
  pub first : ℕ
  pub rows : List ℕ

-- groups of the rows of a frame of this height
pub record Groups : Type 0 where
  pub height : ℕ
  pub groups : List Group

-- the first row, and 0 for an empty group
abbrev pub first_row : List ℕ → ℕ
first_row [] = 0
first_row (r ∷ rs) = r

-- a group whose `first` is its first row
abbrev pub group_of : List ℕ → Group
group_of rows = record { first = first_row rows; rows = rows }

-- the rows of each group
abbrev pub rows_of : Groups → List (List ℕ)
rows_of g = map (λ p. p.rows) g.groups

-- the number of rows of each group
abbrev pub lengths_of : Groups → List ℕ
lengths_of g = map (λ p. length p.rows) g.groups

-- the rows are below the height, and there are fewer than 2^32 of them
abbrev pub is_group : ℕ → Group → Bool
is_group height g = are_below height g.rows && nat_lt (length g.rows) (2 ^ 32)

-- each is such a group, and there are fewer than 2^32 groups
pub record IsGroups (height : ℕ) (groups : List Group) : Type 0 where
  pub each : list_all (is_group height) groups ≡ true
  pub few : length groups < 2 ^ 32

-- the groups by some columns
abbrev pub groups_by : List Series → ℕ → Groups
groups_by by n = record { height = n; groups = map group_of (parts_of by n) }

-- a column of lists
abbrev pub is_list : Series → Bool
is_list s = is_list_kind s.kind

-- the groups by some columns, or why there are none: no key, a key of a List type, a key of another height
abbrev pub grouped : ℕ → List Series → Result Groups PxError
grouped n [] = Err (ComputeError NoKey)
grouped n (s ∷ by) = if list_any is_list (s ∷ by) then Err (InvalidOperation ListKey) else (if all_have_height n (s ∷ by) then Ok (groups_by (s ∷ by) n) else Err ShapeMismatch)

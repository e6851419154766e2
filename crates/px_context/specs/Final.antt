-- What becomes of a context's values where they are taken apart.
use Rattle.std.specs.Prelude.{ℕ, Result, Ok, length, map, replicate}
use Rattle.std.specs.List.{flat_map}
use Rattle.px_column.specs.Prelude.{Series, Slot}
use Rattle.px_column.specs.Result.{◌>>=◌}
use Rattle.px_value.specs.declared.error.PxError.{PxError}
use Rattle.px_frame.specs.Consecutive.{consecutive, unless_long}
use Rattle.px_frame.specs.Groups.{Groups}
use Rattle.px_context.specs.Changes.{all_rows}
use Rattle.px_context.specs.Context.{Context, item_kind, items_at}
use Rattle.px_context.specs.declared.agg_state.Layout.{Layout}
use Rattle.px_context.specs.declared.agg_state.Layout.TheVariants.{Lists, Scalars, Flat, Rows, Unit as Single}

-- the number of items at a place
abbrev pub len_at : Slot → ℕ
len_at x = length (items_at x)

-- the items of all lists of a column, where they are not too long together
abbrev pub joined : Series → Result Series PxError
joined s = unless_long (length (flat_map items_at s.slots)) (record { name = s.name; kind = item_kind s.kind; slots = flat_map items_at s.slots })

-- the column of a layout's values: lists joined, and else as it stands
abbrev pub flat_in : Layout → Series → Result Series PxError
flat_in Lists s = joined s
flat_in _ s = Ok s

-- a column and groups whose rows are the values of each cell
abbrev pub final_in : Layout → Series → Groups → Result (Series × Groups) PxError
final_in Lists s g = do
  t ← joined s
  slices ← consecutive (map len_at s.slots)
  Ok (t, slices)
final_in Scalars s g = consecutive (replicate (length s.slots) 1) >>= λ slices. Ok (s, slices)
final_in Flat s g = Ok (s, g)
final_in Rows s g = Ok (s, all_rows (length g.groups) (length s.slots))
final_in Single s g = Ok (s, all_rows (length g.groups) (length s.slots))

-- the column and the groups of a context that is taken apart
abbrev pub final_of : Context → Result (Series × Groups) PxError
final_of c = final_in c.layout c.values c.groups

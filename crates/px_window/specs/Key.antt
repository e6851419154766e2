-- What contracts see of a window's key, and the groups that it names.
use Rattle.std.specs.Prelude.{ℕ, ◌==◌, ◌&&◌, ◌++◌, Bool, true, false, List, [], ◌∷◌, Option, Some, None, Result, Ok, Err, map, refl, if◌then◌else◌}
use Rattle.std.specs.Hash as fed
use Rattle.std.specs.Hash.{HashWrites}
use lib.Pointwise.{pointwise}
use Rattle.px_value.specs.Equality.{bool_eq, row_eq}
use Rattle.px_value.specs.Datum.{Slot, integer}
use Rattle.px_value.specs.Hashing.{slot_hash}
use Rattle.px_value.specs.Kind.{kind_eq}
use Rattle.std.specs.Coded.{Coded, code_by, coded×, coded_ℕ, coded_bool, coded_list, coded_option}
use Rattle.std.specs.List.{list_any}
use Rattle.px_column.specs.Prelude.{Series}
use Rattle.px_column.specs.Series.{coded_series}
use Rattle.px_value.specs.declared.error.PxError.{PxError}
use Rattle.px_value.specs.declared.error.PxError.TheVariants.{InvalidOperation, ComputeError, ShapeMismatch}
use Rattle.px_value.specs.declared.error.InvalidWhy.TheVariants.{ListKey}
use Rattle.px_value.specs.declared.error.ComputeWhy.TheVariants.{NoKey}
use Rattle.px_value.specs.declared.sort_options.SortOptions.{SortOptions}
use Rattle.px_frame.specs.Frame.{all_have_height}
use Rattle.px_frame.specs.Groups.{Group, Groups, group_of, is_list}
use Rattle.px_frame.specs.Ordered.{in_order, ordered_parts}

-- a branch of a plan, columns to group by, and a column that puts the rows of each group in order
pub record Key : Type 0 where
  pub branch : ℕ
  pub keys : List Series
  pub order : Option (Series × SortOptions)

abbrev coded_options : Coded SortOptions
coded_options = code_by (Bool × Bool) (coded× coded_bool coded_bool) (λ o. (o.descending, o.nulls_last)) (λ p. record { descending = p.0; nulls_last = p.1 }) (λ _. refl)

-- keys are told apart by their parts
abbrev pub coded_key : Coded Key
coded_key =
    code_by (ℕ × (List Series × Option (Series × SortOptions))) (coded× coded_ℕ (coded× (coded_list coded_series) (coded_option (coded× coded_series coded_options))))
    (λ k. (k.branch, (k.keys, k.order))) (λ p. record { branch = p.0; keys = p.1.0; order = p.1.1 }) (λ _. refl)

-- the column of an order, where there is one, and the columns to group by
abbrev pub with_order : Option (Series × SortOptions) → List Series → List Series
with_order None by = by
with_order (Some o) by = o.0 ∷ by

-- a group with its rows in the order of a column
abbrev pub rows_ordered : Series → SortOptions → Group → Group
rows_ordered s options p = group_of (in_order s options p.rows)

-- the groups of n rows by some columns, each in its order, or why there are none: no column to group by, a column of a List
-- type, a column of another height
abbrev pub grouped_in : ℕ → List Series → Option (Series × SortOptions) → Result Groups PxError
grouped_in n [] order = Err (ComputeError NoKey)
grouped_in n (s ∷ by) order =
    if list_any is_list (with_order order (s ∷ by)) then Err (InvalidOperation ListKey)
    else (if all_have_height n (with_order order (s ∷ by)) then Ok (record { height = n; groups = map group_of (ordered_parts (s ∷ by) order n) }) else Err ShapeMismatch)

-- the groups of n rows that a key names
abbrev pub ordered_grouped : ℕ → Key → Result Groups PxError
ordered_grouped n key = grouped_in n key.keys key.order

-- a column is equal to another where their names, types and places are
abbrev pub series_eq : Series → Series → Bool
series_eq s t = pointwise ◌==◌ s.name t.name && (kind_eq s.kind t.kind && row_eq s.slots t.slots)

-- columns are equal one by one
abbrev pub all_series_eq : List Series → List Series → Bool
all_series_eq [] [] = true
all_series_eq (s ∷ ss) (t ∷ ts) = series_eq s t && all_series_eq ss ts
all_series_eq _ _ = false

-- options are equal where both of their marks are
abbrev pub options_eq : SortOptions → SortOptions → Bool
options_eq a b = bool_eq a.descending b.descending && bool_eq a.nulls_last b.nulls_last

-- orders are equal where there is none, or where their columns and options are
abbrev pub order_eq : Option (Series × SortOptions) → Option (Series × SortOptions) → Bool
order_eq None None = true
order_eq (Some a) (Some b) = options_eq a.1 b.1 && series_eq a.0 b.0
order_eq _ _ = false

-- keys are equal where all their parts are
abbrev pub key_eq : Key → Key → Bool
key_eq a b = (a.branch == b.branch) && (order_eq a.order b.order && all_series_eq a.keys b.keys)

-- what a hash is fed for a place: an integer alone, anything else with marks of its kind
abbrev pub place_hash : Slot → HashWrites
place_hash (Some (integer z)) = fed.i128 z
place_hash x = slot_hash x

-- for places one after another: each once, and a mark at the end
abbrev pub places_hash : List Slot → HashWrites
places_hash [] = fed.u8 0
places_hash (x ∷ xs) = place_hash x ++ places_hash xs

-- for a column: its name and its places
abbrev pub series_hash : Series → HashWrites
series_hash s = fed.str s.name ++ places_hash s.slots

-- for some columns: each, and a mark at the end
abbrev pub all_series_hash : List Series → HashWrites
all_series_hash [] = fed.u8 0
all_series_hash (s ∷ ss) = series_hash s ++ all_series_hash ss

-- for an order: its column, with a mark of whether there is one
abbrev pub order_hash : Option (Series × SortOptions) → HashWrites
order_hash None = fed.u8 0
order_hash (Some o) = fed.u8 1 ++ series_hash o.0

-- for a key: its branch, its order and its columns
abbrev pub key_hash : Key → HashWrites
key_hash k = fed.u64 k.branch ++ (order_hash k.order ++ all_series_hash k.keys)

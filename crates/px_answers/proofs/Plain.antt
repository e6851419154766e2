-- What nodes make of cells is never refused for want of memory, nor for its length.
use Rattle.std.proofs.Common.{◌≡◌, ℕ, ◌==◌, ℤ, Bool, true, false, cond, ◌||◌, List, Option, Some, None, Result, Ok, Err, IfErr, length, refl}
use Rattle.std.specs.Result.{result_map_both}
use Rattle.px_column.specs.Cast.{cast_slot, cast_slots, lost, number_cast, written_cast, number_written, boolean_cast, integer_cast, text_cast, bytes_cast, before, list_slot, datum_cast, items_cast}
use Rattle.px_column.specs.Operator.{is_integer_kind, is_boolean_kind, is_string_kind, is_comparison, kind_where, operated_kind, operator_kind}
use Rattle.px_column.specs.Prelude.{Slot, Kind, kind_eq, is_list_kind, uint32s}
use Rattle.px_column.specs.Reduction.{reduced_kind, unless_list, kind_there}
use Rattle.px_column.specs.Result.{◌>>=◌}
use Rattle.px_column.specs.Sum.{sum_kind}
use Rattle.px_column.specs.Wrap.{wrapped_in, is_in_range}
use Rattle.px_value.specs.Datum.{Datum, boolean, integer, text, bytes, list, Slots, no_slots, absent, present, slots, items}
use Rattle.px_value.specs.Kind.{booleans, strings, binaries, nulls, lists}
use Rattle.px_value.specs.declared.cast_options.CastOptions.{CastOptions}
use Rattle.px_value.specs.declared.cast_options.CastOptions.TheVariants.{Strict, NonStrict, Overflowing}
use Rattle.px_value.specs.declared.error.ComputeWhy.TheVariants.{TooLong}
use Rattle.px_value.specs.declared.error.InvalidWhy.TheVariants.{ListKey, Types}
use Rattle.px_value.specs.declared.error.PxError.{PxError}
use Rattle.px_value.specs.declared.error.PxError.TheVariants.{InvalidOperation, ComputeError, ShapeMismatch, OutOfMemory}
use Rattle.px_value.specs.declared.method.GroupByMethod.{GroupByMethod}
use Rattle.px_value.specs.declared.method.GroupByMethod.TheVariants.{Min, Max, Sum, First, Last, NUnique, Count, Implode}
use Rattle.px_value.specs.declared.operator.Operator.{Operator}
use Rattle.px_value.specs.declared.operator.Operator.TheVariants.{Plus, Minus, Multiply, Divide, FloorDivide, Modulus, And, Or, Xor, LogicalAnd, LogicalOr}
use Rattle.px_frame.specs.Cell.{Cell, unit, rows}
use Rattle.px_frame.specs.Spread.{spread}

-- no want of memory, and no excess of values
abbrev pub is_plain : PxError → Bool
is_plain OutOfMemory = false
is_plain (ComputeError TooLong) = false
is_plain _ = true

-- an answer whose error, if it is one, is such a one
abbrev pub Plain : {X : Type 0} → Result X PxError → Type 0
Plain r = IfErr r (λ e. is_plain e ≡ true)

pub plain_if : {X : Type 0} (b : Bool) (r s : Result X PxError) → Plain r → Plain s → Plain (cond b r s)
plain_if true r s h k = h
plain_if false r s h k = k

pub plain_then : {X Y : Type 0} (r : Result X PxError) (k : X → Result Y PxError) → Plain r → ((x : X) → Plain (k x)) → Plain (r >>= k)
plain_then (Ok x) k h w = w x
plain_then (Err e) k h w = h

pub plain_where : (b : Bool) (k : Kind) → Plain (kind_where b k)
plain_where true k = tt
plain_where false k = refl

plain_operated : (op : Operator) (k : Kind) → Plain (operated_kind op k)
plain_operated Plus k = plain_where (is_integer_kind k || is_string_kind k) k
plain_operated Minus k = plain_where (is_integer_kind k) k
plain_operated Multiply k = plain_where (is_integer_kind k) k
plain_operated Divide k = plain_where (is_integer_kind k) k
plain_operated FloorDivide k = plain_where (is_integer_kind k) k
plain_operated Modulus k = plain_where (is_integer_kind k) k
plain_operated And k = plain_where (is_boolean_kind k || is_integer_kind k) k
plain_operated Or k = plain_where (is_boolean_kind k || is_integer_kind k) k
plain_operated Xor k = plain_where (is_boolean_kind k || is_integer_kind k) k
plain_operated LogicalAnd k = plain_where (is_boolean_kind k || is_integer_kind k) booleans
plain_operated LogicalOr k = plain_where (is_boolean_kind k || is_integer_kind k) booleans
plain_operated _ k = tt

-- the types of operators
pub plain_operator : (op : Operator) (a b : Kind) → Plain (operator_kind op a b)
plain_operator op a b = by (is_comparison op) (is_list_kind a || is_list_kind b) (kind_eq a b)
  where
    by : (c l s : Bool) → Plain (cond c (cond l (Err (InvalidOperation ListKey)) (kind_where s booleans)) (cond s (operated_kind op a) (Err (InvalidOperation Types))))
    by true true s = refl
    by true false s = plain_where s booleans
    by false l true = plain_operated op a
    by false l false = refl

-- the types of reductions
plain_unless : (k j : Kind) → Plain (unless_list k j)
plain_unless k j = by (is_list_kind k)
  where
    by : (b : Bool) → Plain (cond b (Err (InvalidOperation ListKey)) (Ok j))
    by true = refl
    by false = tt

plain_there : (o : Option Kind) → Plain (kind_there o)
plain_there (Some k) = tt
plain_there None = refl

pub plain_reduced : (m : GroupByMethod) (k : Kind) → Plain (reduced_kind m k)
plain_reduced Min k = plain_unless k k
plain_reduced Max k = plain_unless k k
plain_reduced Sum k = plain_there (sum_kind k)
plain_reduced First k = tt
plain_reduced Last k = tt
plain_reduced NUnique k = plain_unless k uint32s
plain_reduced (Count b) k = tt
plain_reduced Implode k = tt

-- cells side by side
pub plain_spread : (n : ℕ) (c : Cell) → Plain (spread n c)
plain_spread n (unit s) = tt
plain_spread n (rows xs) = by (length xs == n)
  where
    by : (b : Bool) → Plain (cond b (Ok xs) (Err ShapeMismatch))
    by true = tt
    by false = refl

-- casts
plain_lost : (o : CastOptions) (s : Slot) → Plain (lost o s)
plain_lost Strict s = refl
plain_lost NonStrict s = tt
plain_lost Overflowing s = tt

plain_number : (to : Kind) (o : CastOptions) (z : ℤ) → Plain (number_cast to o z)
plain_number to o z = by (is_in_range to z)
  where
    by : (b : Bool) → Plain (cond b (Ok (Some (integer z))) (lost o (Some (integer (wrapped_in to z)))))
    by true = tt
    by false = plain_lost o (Some (integer (wrapped_in to z)))

plain_written : (to : Kind) (o : CastOptions) (n : Option ℤ) → Plain (written_cast to o n)
plain_written to o None = plain_lost o None
plain_written to o (Some z) = plain_number to o z

plain_boolean : (to : Kind) (b : Bool) → Plain (boolean_cast to b)
plain_boolean booleans b = tt
plain_boolean strings b = tt
plain_boolean binaries b = refl
plain_boolean nulls b = refl
plain_boolean (lists k) b = refl
plain_boolean _ b = tt

plain_integer : (to : Kind) (o : CastOptions) (z : ℤ) → Plain (integer_cast to o z)
plain_integer booleans o z = tt
plain_integer strings o z = tt
plain_integer binaries o z = refl
plain_integer nulls o z = refl
plain_integer (lists k) o z = refl
plain_integer to o z = plain_number to o z

plain_text : (to : Kind) (o : CastOptions) (s : List ℕ) → Plain (text_cast to o s)
plain_text booleans o s = refl
plain_text strings o s = tt
plain_text binaries o s = tt
plain_text nulls o s = refl
plain_text (lists k) o s = refl
plain_text to o s = plain_written to o (number_written s)

plain_bytes : (to : Kind) (s : List ℕ) → Plain (bytes_cast to s)
plain_bytes binaries s = tt
plain_bytes _ s = refl

plain_before : (r : Result Slot PxError) (rs : Result Slots PxError) → Plain r → Plain rs → Plain (before r rs)
plain_before (Err e) rs h k = h
plain_before (Ok s) (Err e) h k = k
plain_before (Ok None) (Ok ds) h k = tt
plain_before (Ok (Some d)) (Ok ds) h k = tt

plain_list : (rs : Result Slots PxError) → Plain rs → Plain (list_slot rs)
plain_list (Ok ds) h = tt
plain_list (Err e) h = h

mutual
  plain_datum : (to : Kind) (o : CastOptions) (d : Datum) → Plain (datum_cast to o d)
  plain_datum to o (boolean b) = plain_boolean to b
  plain_datum to o (integer z) = plain_integer to o z
  plain_datum to o (text s) = plain_text to o s
  plain_datum to o (bytes s) = plain_bytes to s
  plain_datum (lists to) o (list ds) = plain_list (items_cast to o ds) (plain_items to o ds)
  plain_datum _ o (list ds) = refl

  plain_items : (to : Kind) (o : CastOptions) (ds : Slots) → Plain (items_cast to o ds)
  plain_items to o no_slots = tt
  plain_items to o (absent ds) = plain_before (Ok None) (items_cast to o ds) tt (plain_items to o ds)
  plain_items to o (present d ds) = plain_before (datum_cast to o d) (items_cast to o ds) (plain_datum to o d) (plain_items to o ds)

pub plain_cast_slot : (from to : Kind) (o : CastOptions) (s : Slot) → Plain (cast_slot from to o s)
plain_cast_slot from to o None = tt
plain_cast_slot from to o (Some d) = plain_datum to o d

pub plain_cast_slots : (from to : Kind) (o : CastOptions) (xs : List Slot) → Plain (cast_slots from to o xs)
plain_cast_slots from to o xs = by (items_cast to o (slots xs)) (plain_items to o (slots xs))
  where
    by : (r : Result Slots PxError) → Plain r → Plain (result_map_both items (λ e. e) r)
    by (Ok ds) h = tt
    by (Err e) h = h

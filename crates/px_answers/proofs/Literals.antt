-- Why a literal has no column.
use Rattle.std.proofs.Common.{◌≡◌, ◌≤◌, ◌^◌, ℤ, pos, ◌+ℤ◌, ◌-ℤ◌, Bool, true, false, cond, ◌&&◌, nat_lt, [], ◌∷◌, Some, Result, Ok, Err, IfErr, inl, refl, arith}
use Rattle.std.proofs.lemmas.Bool.Decides.{nat_tests}
use Rattle.std.proofs.lemmas.List.FromFn.{length-map-range_with_len}
use Rattle.px_column.specs.Prelude.{Answers, integer, Kind, fits, Series}
use Rattle.px_value.specs.declared.error.PxError.{PxError}
use Rattle.px_value.specs.declared.error.PxError.TheVariants.{ColumnNotFound, Duplicate, InvalidOperation, ComputeError, OutOfBounds, ShapeMismatch, SchemaMismatch, OutOfMemory}
use Rattle.px_value.specs.declared.error.InvalidWhy.TheVariants.{RangeType}
use Rattle.px_value.specs.declared.error.ComputeWhy.TheVariants.{RangeBound, TooLong}
use Rattle.px_frame.specs.External.{Frame}
use Rattle.px_tree.specs.Node.{natural}
use Rattle.px_tree.specs.Size.{size_on}
use Rattle.px_tree.specs.Tree.{Literal, single, range, series, literal}
use Rattle.px_tree.specs.Typing.{is_range_kind}
use Rattle.px_answers.specs.Literal.{literal_column, range_column, range_series}
use Rattle.px_answers.specs.Planned.{Planned}
use Rattle.px_answers.specs.Value.{IsCause}

-- a literal's node
abbrev plan : Literal → Planned
plan v = record { tree = literal v; columns = [] }

-- a range of 2^32 integers or more has that size
long_range : (low high : ℤ) (k : Kind) (f : Frame) → (fits k (integer low) && fits k (integer high)) ≡ true → nat_lt (natural (high -ℤ low)) (2 ^ 32) ≡ false → 2 ^ 32 ≤ size_on (literal (range low high k)) (f ∷ [])
long_range low high k f b n =
    let long : 2 ^ 32 ≤ natural (high -ℤ low) = grind (arith, nat_tests) in
    let count = length-map-range_with_len (λ i. Some (integer (low +ℤ pos i))) 0 (natural (high -ℤ low)) in
    rw b (omega (arith, long, count))

range_cause : (low high : ℤ) (k : Kind) (f : Frame) (e : PxError) → range_column low high k ≡ Err e → IsCause e (plan (range low high k)) f
range_cause low high k f e h = by (is_range_kind k) refl h
  where
    inner : (c : Bool) → is_range_kind k ≡ true → (fits k (integer low) && fits k (integer high)) ≡ true → nat_lt (natural (high -ℤ low)) (2 ^ 32) ≡ c
        → cond c (Ok (range_series low high k)) (Err (ComputeError TooLong)) ≡ Err e → IsCause e (plan (range low high k)) f
    inner true r b n g = absurd (cc g)
    inner false r b n g = let same : ComputeError TooLong ≡ e = cc in rw (← same) (long_range low high k f b n)

    bounds : (b : Bool) → is_range_kind k ≡ true → (fits k (integer low) && fits k (integer high)) ≡ b
        → cond b (cond (nat_lt (natural (high -ℤ low)) (2 ^ 32)) (Ok (range_series low high k)) (Err (ComputeError TooLong))) (Err (ComputeError RangeBound)) ≡ Err e
        → IsCause e (plan (range low high k)) f
    bounds true r b g = inner (nat_lt (natural (high -ℤ low)) (2 ^ 32)) r b refl g
    bounds false r b g = let same : ComputeError RangeBound ≡ e = cc in rw (← same) (rw (r, b) (inl refl))

    by : (t : Bool) → is_range_kind k ≡ t
        → cond t (cond (fits k (integer low) && fits k (integer high)) (cond (nat_lt (natural (high -ℤ low)) (2 ^ 32)) (Ok (range_series low high k)) (Err (ComputeError TooLong))) (Err (ComputeError RangeBound))) (Err (InvalidOperation RangeType)) ≡ Err e
        → IsCause e (plan (range low high k)) f
    by true r g = bounds (fits k (integer low) && fits k (integer high)) r refl g
    by false r g = let same : InvalidOperation RangeType ≡ e = cc in rw (← same) (rw r (inl refl))

column_cause : (v : Literal) (f : Frame) (e : PxError) → literal_column v ≡ Err e → IsCause e (plan v) f
column_cause (single k s) f e h = absurd (cc h)
column_cause (series s) f e h = absurd (cc h)
column_cause (range low high k) f e h = range_cause low high k f e h

planned_cause : (v : Literal) (f : Frame) (answer : Result Series PxError) → Answers answer (literal_column v) → IfErr answer (λ e. IsCause e (plan v) f)
planned_cause v f (Ok s) a = tt
planned_cause v f (Err OutOfMemory) a = tt
planned_cause v f (Err (ColumnNotFound n)) a = column_cause v f (ColumnNotFound n) a
planned_cause v f (Err (Duplicate n)) a = column_cause v f (Duplicate n) a
planned_cause v f (Err (InvalidOperation w)) a = column_cause v f (InvalidOperation w) a
planned_cause v f (Err (ComputeError w)) a = column_cause v f (ComputeError w) a
planned_cause v f (Err OutOfBounds) a = column_cause v f OutOfBounds a
planned_cause v f (Err ShapeMismatch) a = column_cause v f ShapeMismatch a
planned_cause v f (Err SchemaMismatch) a = column_cause v f SchemaMismatch a

-- where a literal has no column, that is by its cause
pub literal_cause : (p : Planned) (v : Literal) (f : Frame) (answer : Result Series PxError) → p ≡ record { tree = literal v; columns = [] } → Answers answer (literal_column v) → IfErr answer (λ e. IsCause e p f)
literal_cause p v f answer s a = rw s (planned_cause v f answer a)

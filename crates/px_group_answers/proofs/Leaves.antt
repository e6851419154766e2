-- Nodes without inputs on groups: literals and the number of rows.
use Rattle.std.proofs.Common.{◌≡◌, ℕ, zero, suc, ◌+◌, ◌<◌, ◌^◌, ◌≤◌, ℤ, pos, ◌+ℤ◌, ◌-ℤ◌, Bool, true, false, ◌⊎◌, inr, cond, not, ◌&&◌, nat_lt, List, [], ◌∷◌, ◌++◌, Result, Some, Ok, Err, IfErr, inl, length, map, refl, sym, ◌∙◌, ap, subst, arith}
use Rattle.std.specs.List.{list_all}
use Rattle.std.specs.Prelude.{codes}
use Rattle.std.proofs.lemmas.Bool.Decides.{nat_tests}
use Rattle.std.proofs.lemmas.List.{length-map}
use Rattle.std.proofs.lemmas.List.FromFn.{length-map-range_with_len}
use Rattle.px_column.specs.Prelude.{Answers, integer, fits, Kind, int32s, int64s, uint32s, Series, slot_at}
use Rattle.px_column.specs.Reduction.{count_slot}
use Rattle.px_value.specs.declared.error.ComputeWhy.TheVariants.{RangeBound, TooLong}
use Rattle.px_value.specs.declared.error.InvalidWhy.TheVariants.{RangeType}
use Rattle.px_value.specs.declared.error.PxError.{PxError}
use Rattle.px_value.specs.declared.error.PxError.TheVariants.{ColumnNotFound, Duplicate, InvalidOperation, ComputeError, OutOfBounds, ShapeMismatch, SchemaMismatch, OutOfMemory}
use Rattle.px_frame.specs.Aggregate.{count_column}
use Rattle.px_frame.specs.Cell.{Cell, unit, rows}
use Rattle.px_frame.specs.External.{Frame, height, rows_of_frame}
use Rattle.px_frame.specs.Groups.{Group, Groups, IsGroups, is_group}
use Rattle.px_frame.specs.Spread.{NamedCell}
use Rattle.px_tree.specs.Cost.{is_flat_rows}
use Rattle.px_tree.specs.Node.{integers, literal_cell, natural}
use Rattle.px_tree.specs.Shape.{is_single, is_unit}
use Rattle.px_tree.specs.Size.{count_on, counts_on, size_on}
use Rattle.px_tree.specs.Tree.{Literal, single, range, series, column, len, literal}
use Rattle.px_tree.specs.Typing.{is_range_kind, kind_of_name}
use Rattle.px_context.specs.Built.{literal_context, new_context}
use Rattle.px_context.specs.Context.{Context, cells_of}
use Rattle.px_lanes.specs.Made.{named_in}
use Rattle.px_answers.proofs.Cells.{value_is_cell}
use Rattle.px_answers.proofs.Counts.{and_left, and_right}
use Rattle.px_answers.specs.Literal.{literal_column, range_column, range_series}
use Rattle.px_answers.specs.Planned.{Planned}
use Rattle.px_answers.specs.Value.{IsCellOf}
use Rattle.px_group_answers.proofs.Columns.{below_of, row_count}
use Rattle.px_group_answers.proofs.Pointwise.{sum_more}
use Rattle.px_group_answers.specs.Leaf.{group_literal_column}
use Rattle.px_group_answers.specs.OnGroups.{AreCellsOn, IsContextOf, IsGroupCause, group_frames}

-- literals
abbrev plan : Literal → Planned
plan v = record { tree = literal v; columns = [] }

-- a literal's column is its value on each frame
literal_is_cell : (v : Literal) (f : Frame) (s : Series) → literal_column v ≡ Ok s → IsCellOf (plan v) f (record { name = s.name; kind = s.kind; cell = cond (is_single v) (unit (slot_at s.slots 0)) (rows s.slots) })
literal_is_cell (single k x) f s h = let same : record { name = codes "literal"; kind = k; slots = x ∷ [] } ≡ s = cc in rw (← same) (record { sound = refl; name = refl; kind = refl; value = refl; shape = refl })
literal_is_cell (series t) f s h = let same : t ≡ s = cc in rw (← same) (record { sound = refl; name = refl; kind = refl; value = refl; shape = refl })
literal_is_cell (range low high k) f s h = by (is_range_kind k) (fits k (integer low) && fits k (integer high)) (nat_lt (natural (high -ℤ low)) (2 ^ 32)) refl refl h
  where
    by : (t b n : Bool) → is_range_kind k ≡ t → (fits k (integer low) && fits k (integer high)) ≡ b
        → cond t (cond b (cond n (Ok (range_series low high k)) (Err (ComputeError TooLong))) (Err (ComputeError RangeBound))) (Err (InvalidOperation RangeType)) ≡ Ok s
        → IsCellOf (plan (range low high k)) f (record { name = s.name; kind = s.kind; cell = rows s.slots })
    by true true true r b g =
        let same : range_series low high k ≡ s = cc in
        rw (← same) (record { sound = rw (r, b) refl; name = refl; kind = refl; value = rw b refl; shape = refl })
    by true true false r b g = absurd (cc g)
    by true false n r b g = absurd (cc g)
    by false b n r c g = absurd (cc g)

-- and so for each group
literal_cells : (v : Literal) (s : Series) (frame : Frame) (gs : List Group) (g : Groups) → literal_column v ≡ Ok s
    → AreCellsOn (plan v) (map (rows_of_frame frame) (map (λ (p : Group). p.rows) gs)) (map (named_in (literal_context (is_single v) s g)) (map (λ (_ : Group). cond (is_single v) (unit (slot_at s.slots 0)) (rows s.slots)) gs))
literal_cells v s frame [] g h = tt
literal_cells v s frame (p ∷ gs) g h = (by (is_single v) (literal_is_cell v (rows_of_frame frame p.rows) s h), literal_cells v s frame gs g h)
  where
    by : (b : Bool) → IsCellOf (plan v) (rows_of_frame frame p.rows) (record { name = s.name; kind = s.kind; cell = cond b (unit (slot_at s.slots 0)) (rows s.slots) })
        → IsCellOf (plan v) (rows_of_frame frame p.rows) (named_in (literal_context b s g) (cond b (unit (slot_at s.slots 0)) (rows s.slots)))
    by true k = k
    by false k = k

-- a range that has a column is of one of three types, and so is the column
record IsRanged (k : Kind) (s : Series) : Type 0 where
  pub typed : is_range_kind k ≡ true
  pub name : s.name ≡ codes "literal"
  pub kind : s.kind ≡ k

ranged : (low high : ℤ) (k : Kind) (s : Series) → range_column low high k ≡ Ok s → IsRanged k s
ranged low high k s h = by (is_range_kind k) (fits k (integer low) && fits k (integer high)) (nat_lt (natural (high -ℤ low)) (2 ^ 32)) refl h
  where
    by : (t b n : Bool) → is_range_kind k ≡ t → cond t (cond b (cond n (Ok (range_series low high k)) (Err (ComputeError TooLong))) (Err (ComputeError RangeBound))) (Err (InvalidOperation RangeType)) ≡ Ok s → IsRanged k s
    by true true true r g = let same : range_series low high k ≡ s = cc in rw (← same) (record { typed = r; name = refl; kind = refl })
    by true true false r g = absurd (cc g)
    by true false n r g = absurd (cc g)
    by false b n r g = absurd (cc g)

range_context : (low high : ℤ) (k : Kind) (s : Series) (frame : Frame) (g : Groups) → IsRanged k s
    → AreCellsOn (plan (range low high k)) (group_frames frame g) (map (named_in (literal_context false s g)) (cells_of (literal_context false s g))) → IsContextOf (plan (range low high k)) frame g (literal_context false s g)
range_context low high k s frame g i cells = record {
  sound = rw i.typed refl;
  name = i.name;
  kind = ap Some (sym i.kind);
  cells = cells;
  shape = refl;
  count = refl;
  kept = λ t. absurd (cc t);
  lane = λ t. absurd (cc t);
}

-- a literal's context on groups
context_of_literal : (v : Literal) (frame : Frame) (h : ℕ) (gs : List Group) (s : Series) → group_literal_column v (length gs) ≡ Ok s → IsContextOf (plan v) frame (record { height = h; groups = gs }) (literal_context (is_single v) s (record { height = h; groups = gs }))
context_of_literal (single k x) frame h gs s e =
    let same : record { name = codes "literal"; kind = k; slots = x ∷ [] } ≡ s = cc in
    record {
      sound = refl;
      name = ap (λ (t : Series). t.name) (sym same);
      kind = ap (λ (t : Series). Some t.kind) same;
      cells = literal_cells (single k x) s frame gs (record { height = h; groups = gs }) e;
      shape = refl;
      count = refl;
      kept = λ t. absurd (cc t);
      lane = λ _. refl;
    }
context_of_literal (series t) frame h gs s e =
    let same : t ≡ s = cc in
    record {
      sound = refl;
      name = ap (λ (u : Series). u.name) (sym same);
      kind = ap (λ (u : Series). Some u.kind) same;
      cells = literal_cells (series t) s frame gs (record { height = h; groups = gs }) e;
      shape = refl;
      count = refl;
      kept = λ t. absurd (cc t);
      lane = λ t. absurd (cc t);
    }
context_of_literal (range low high k) frame h [] s e = range_context low high k s frame (record { height = h; groups = [] }) (ranged (pos 0) (pos 0) k s e) tt
context_of_literal (range low high k) frame h (p ∷ gs) s e = range_context low high k s frame (record { height = h; groups = p ∷ gs }) (ranged low high k s e) (literal_cells (range low high k) s frame (p ∷ gs) (record { height = h; groups = p ∷ gs }) e)

pub literal_group_context : (q : Planned) (v : Literal) (frame : Frame) (g : Groups) (s : Series) → q ≡ plan v → group_literal_column v (length g.groups) ≡ Ok s → IsContextOf q frame g (literal_context (is_single v) s g)
literal_group_context q v frame g s e h = subst (λ (p : Planned). IsContextOf p frame g (literal_context (is_single v) s g)) (sym e) (context_of_literal v frame g.height g.groups s h)

-- no number at all fits each type of ranges
zero_fits : (k : Kind) → is_range_kind k ≡ true → (fits k (integer (pos 0)) && fits k (integer (pos 0))) ≡ true
zero_fits int32s h = refl
zero_fits int64s h = refl
zero_fits uint32s h = refl
zero_fits _ h = absurd (cc h)

-- a range of 2^32 integers or more has that size on one group already
long_range : (low high : ℤ) (k : Kind) (f : Frame) (fs : List Frame) → (fits k (integer low) && fits k (integer high)) ≡ true → nat_lt (natural (high -ℤ low)) (2 ^ 32) ≡ false → 2 ^ 32 ≤ size_on (literal (range low high k)) (f ∷ fs)
long_range low high k f fs b n =
    let long : 2 ^ 32 ≤ natural (high -ℤ low) = grind (arith, nat_tests) in
    let count = length-map-range_with_len (λ i. Some (integer (low +ℤ pos i))) 0 (natural (high -ℤ low)) in
    let here : count_on (literal (range low high k)) f ≡ length (integers low high) = rw b refl in
    let all : counts_on (literal (range low high k)) (f ∷ fs) ≡ count_on (literal (range low high k)) f + counts_on (literal (range low high k)) fs = sum_more (count_on (literal (range low high k))) f fs in
    omega (arith, long, count, here, all)

-- why a range has no column: its type is none of a range, a bound does not lie in it, or it has too many integers
abbrev IsRangeFault : PxError → Bool → Bool → Bool → Type 0
IsRangeFault e t b n = ((e ≡ InvalidOperation RangeType) × (t ≡ false)) ⊎ ((t ≡ true) × (((e ≡ ComputeError RangeBound) × (b ≡ false)) ⊎ ((e ≡ ComputeError TooLong) × ((b ≡ true) × (n ≡ false)))))

range_refused : (low high : ℤ) (k : Kind) (e : PxError) → range_column low high k ≡ Err e → IsRangeFault e (is_range_kind k) (fits k (integer low) && fits k (integer high)) (nat_lt (natural (high -ℤ low)) (2 ^ 32))
range_refused low high k e h = by (is_range_kind k) (fits k (integer low) && fits k (integer high)) (nat_lt (natural (high -ℤ low)) (2 ^ 32)) h
  where
    by : (t b n : Bool) → cond t (cond b (cond n (Ok (range_series low high k)) (Err (ComputeError TooLong))) (Err (ComputeError RangeBound))) (Err (InvalidOperation RangeType)) ≡ Err e → IsRangeFault e t b n
    by true true true g = absurd (cc g)
    by true true false g = let same : ComputeError TooLong ≡ e = cc in inr (refl, inr (sym same, (refl, refl)))
    by true false n g = let same : ComputeError RangeBound ≡ e = cc in inr (refl, inl (sym same, refl))
    by false b n g = let same : InvalidOperation RangeType ≡ e = cc in inl (sym same, refl)

module _ (low high : ℤ) (k : Kind) (frame : Frame) where
  mistyped : (g : Groups) (e : PxError) → e ≡ InvalidOperation RangeType → is_range_kind k ≡ false → IsGroupCause e (plan (range low high k)) frame g
  mistyped g e i r = subst (λ x. IsGroupCause x (plan (range low high k)) frame g) (sym i) (rw r (inl refl))

  range_cause : (h : ℕ) (gs : List Group) (e : PxError) → group_literal_column (range low high k) (length gs) ≡ Err e → IsGroupCause e (plan (range low high k)) frame (record { height = h; groups = gs })
  range_cause h [] e m = by (range_refused (pos 0) (pos 0) k e m)
    where
      by : IsRangeFault e (is_range_kind k) (fits k (integer (pos 0)) && fits k (integer (pos 0))) (nat_lt (natural (pos 0 -ℤ pos 0)) (2 ^ 32)) → IsGroupCause e (plan (range low high k)) frame (record { height = h; groups = [] })
      by (inl t) = mistyped (record { height = h; groups = [] }) e t.0 t.1
      by (inr (r, inl b)) = absurd (cc (zero_fits k r, b.1))
      by (inr (r, inr l)) = absurd (cc l.1.1)
  range_cause h (p ∷ gs) e m = by (range_refused low high k e m)
    where
      by : IsRangeFault e (is_range_kind k) (fits k (integer low) && fits k (integer high)) (nat_lt (natural (high -ℤ low)) (2 ^ 32)) → IsGroupCause e (plan (range low high k)) frame (record { height = h; groups = p ∷ gs })
      by (inl t) = mistyped (record { height = h; groups = p ∷ gs }) e t.0 t.1
      by (inr (r, inl b)) = subst (λ x. IsGroupCause x (plan (range low high k)) frame (record { height = h; groups = p ∷ gs })) (sym b.0) (rw (r, b.1) (inl refl))
      by (inr (r, inr l)) = subst (λ x. IsGroupCause x (plan (range low high k)) frame (record { height = h; groups = p ∷ gs })) (sym l.0) (long_range low high k (rows_of_frame frame p.rows) (map (rows_of_frame frame) (map (λ (q : Group). q.rows) gs)) l.1.0 l.1.1)

cause_of_literal : (v : Literal) (frame : Frame) (g : Groups) (e : PxError) → group_literal_column v (length g.groups) ≡ Err e → IsGroupCause e (plan v) frame g
cause_of_literal (single k x) frame g e h = absurd (cc h)
cause_of_literal (series t) frame g e h = absurd (cc h)
cause_of_literal (range low high k) frame g e h = range_cause low high k frame g.height g.groups e h

-- where a literal has no column on groups, that is by its cause
planned_cause : (v : Literal) (frame : Frame) (g : Groups) (r : Result Series PxError) → Answers r (group_literal_column v (length g.groups)) → IfErr r (λ e. IsGroupCause e (plan v) frame g)
planned_cause v frame g (Ok s) a = tt
planned_cause v frame g (Err OutOfMemory) a = tt
planned_cause v frame g (Err (ColumnNotFound n)) a = cause_of_literal v frame g (ColumnNotFound n) a
planned_cause v frame g (Err (Duplicate n)) a = cause_of_literal v frame g (Duplicate n) a
planned_cause v frame g (Err (InvalidOperation w)) a = cause_of_literal v frame g (InvalidOperation w) a
planned_cause v frame g (Err (ComputeError w)) a = cause_of_literal v frame g (ComputeError w) a
planned_cause v frame g (Err OutOfBounds) a = cause_of_literal v frame g OutOfBounds a
planned_cause v frame g (Err ShapeMismatch) a = cause_of_literal v frame g ShapeMismatch a
planned_cause v frame g (Err SchemaMismatch) a = cause_of_literal v frame g SchemaMismatch a

pub literal_group_cause : (q : Planned) (v : Literal) (frame : Frame) (g : Groups) (r : Result Series PxError) → q ≡ plan v → Answers r (group_literal_column v (length g.groups)) → IfErr r (λ e. IsGroupCause e q frame g)
literal_group_cause q v frame g r e a = rw e (planned_cause v frame g r a)

length_cells : (frame : Frame) (s : Series) (g : Groups) (gs : List Group) → s.name ≡ codes "len" → s.kind ≡ uint32s → list_all (is_group (height frame)) gs ≡ true
    → AreCellsOn (record { tree = len; columns = [] }) (map (rows_of_frame frame) (map (λ (p : Group). p.rows) gs)) (map (named_in (new_context true s g)) (map unit (map (λ (p : Group). Some (integer (pos (length p.rows)))) gs)))
length_cells frame s g [] n k h = tt
length_cells frame s g (p ∷ gs) n k h = (
  record {
    sound = refl;
    name = n;
    kind = ap Some (sym k);
    value = ap (λ m. Some (unit (count_slot m))) (row_count frame.columns p.rows (below_of (height frame) p (and_left (is_group (height frame) p) (list_all (is_group (height frame)) gs) h)));
    shape = refl;
  },
  length_cells frame s g gs n k (and_right (is_group (height frame) p) (list_all (is_group (height frame)) gs) h),
)

-- the numbers of the groups' rows are what the number of rows has on them
pub length_context : (q : Planned) (frame : Frame) (g : Groups) (s : Series) → q ≡ record { tree = len; columns = [] } → g.height ≡ height frame → IsGroups g.height g.groups → s ≡ record (count_column g) { name = codes "len" }
    → IsContextOf q frame g (new_context true s g)
length_context q frame g s e t i m =
    subst (λ (p : Planned). IsContextOf p frame g (new_context true s g)) (sym e)
    (subst (λ (r : Series). IsContextOf (record { tree = len; columns = [] }) frame g (new_context true r g)) (sym m)
    (record {
      sound = refl;
      name = refl;
      kind = refl;
      cells = length_cells frame (record (count_column g) { name = codes "len" }) g g.groups refl refl (subst (λ n. list_all (is_group n) g.groups ≡ true) t i.each);
      shape = refl;
      count = refl;
      kept = λ u. absurd (cc u);
      lane = λ u. absurd (cc u);
    }))

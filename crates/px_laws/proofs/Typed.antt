-- Where columns and literals fit their types, the values of an expression that is not refused are like those of its type.
use Rattle.std.proofs.Common.{◌≡◌, ℕ, ◌==◌, Bool, true, false, cond, not, ◌&&◌, pos, ◌+ℤ◌, ◌-ℤ◌, List, [], ◌∷◌, ◌++◌, Option, Some, None, Result, Ok, Err, length, map, subst, refl, sym, ◌∙◌, ap}
use Rattle.std.specs.List.{list_all, range_with_len, zip}
use Rattle.std.specs.Option.{option_or}
use Rattle.px_column.specs.Operator.{kind_where, is_boolean_kind, is_integer_kind}
use Rattle.px_column.specs.Option.{each}
use Rattle.px_column.specs.Prelude.{integer, Kind, int32s, int64s, uint32s, kind_eq, fits, Series}
use Rattle.px_column.specs.Reduction.{count_slot}
use Rattle.px_column.proofs.Operating.{kind_same}
use Rattle.px_value.proofs.EachLaws.{each_passes}
use Rattle.px_value.proofs.FitLaws.{both}
use Rattle.px_value.specs.declared.error.ComputeWhy.TheVariants.{RangeBound}
use Rattle.px_value.specs.declared.error.PxError.{PxError}
use Rattle.px_value.specs.declared.error.InvalidWhy.TheVariants.{RangeType}
use Rattle.px_value.specs.declared.error.PxError.TheVariants.{InvalidOperation, ComputeError, SchemaMismatch}
use Rattle.px_frame.specs.Cell.{Cell, rows, list_of}
use Rattle.px_frame.specs.External.{Frame, height, look_in, scope_of, rows_of_frame, external_at}
use Rattle.px_frame.specs.Frame.{look, has_name, series_at}
use Rattle.px_frame.proofs.Reducing.{slots_at_fit}
use Rattle.px_tree.specs.Node.{literal_cell, binary_cell, function_cell, reduction_cell, integers, natural}
use Rattle.px_tree.specs.Shape.{is_unit, is_literal_tree}
use Rattle.px_tree.specs.Tree.{Tree, called, Trees, Literal, single, range, series, no_trees, one_tree, column, literal, alias, binary, ternary, cast, function, filter, slice, gather, sort, sort_by, agg, len, window}
use Rattle.px_tree.specs.Typing.{Scope, kind_in, kinds_in, is_range_kind, window_kind, refusals_of, all_refusals_of, refused_where, refusal_of, refusal_of_two, fails}
use Rattle.px_tree.specs.Value.{value_on, outcome_on, made, cells_on, named_on, order_on, first_kind, whole_window, window_parts}
use Rattle.px_tree.specs.Window.{window_cell}
use Rattle.px_tree.specs.declared.context.Context.{Context}
use Rattle.px_tree.specs.declared.context.Context.TheVariants.{Default, Aggregation}
use Rattle.px_tree.specs.declared.window.WindowMapping.{WindowMapping}
use Rattle.px_tree.proofs.Scopes.{kind_of_found}
use Rattle.px_tree.proofs.KindLaws.{none_left, none_right, none_first, none_own, kind_there}
use Rattle.px_laws.proofs.Defined.{scope_of_rows}
use Rattle.px_laws.proofs.Joining.{under_name}
use Rattle.px_laws.proofs.Like.{is_slot_like, slot_fit_is_like, slots_fit_are_like, as_kind}
use Rattle.px_laws.proofs.LikeCells.{is_cell_like, unit_like, listed, binary_like, ternary_like, cast_like, AreLike, none_like, more_like, answer, function_like, filter_like, slice_like, gather_like, ordered_like, sort_by_like, reduction_like, is_part_like, part_is_like, window_like}
use Rattle.px_laws.proofs.Passing.{all_made}
use Rattle.px_laws.proofs.Shapes.{bound, made_bound, mapped, made_ok, map_found, shape_of_value}
use Rattle.px_laws.specs.Fitting.{is_fitting, has_fitting_columns, is_fitting_literal, has_fitting_literals, have_fitting_literals, has_fitting_order}

-- a column that is found among fitting ones fits
found_fits : (n : List ℕ) (columns : List Series) (s : Series) → list_all is_fitting columns ≡ true → look n columns ≡ Some s → is_fitting s ≡ true
found_fits n [] s h g = cc
found_fits n (t ∷ columns) s h g =
    let parts = both (is_fitting t) (list_all is_fitting columns) h in
    by (has_name n t) g parts.0 (found_fits n columns s parts.1)
  where
    by : (b : Bool) → cond b (Some t) (look n columns) ≡ Some s → is_fitting t ≡ true → (look n columns ≡ Some s → is_fitting s ≡ true) → is_fitting s ≡ true
    by true k fit rest = let e : t ≡ s = cc in ap is_fitting (sym e) ∙ fit
    by false k fit rest = rest k

-- a column that is found fits its type
look_fits : (n : List ℕ) (frame : Frame) (s : Series) → has_fitting_columns frame ≡ true → look_in n frame ≡ Some s → is_fitting s ≡ true
look_fits n frame s h g = by (look n frame.columns) refl g
  where
    parts : (list_all is_fitting frame.columns ≡ true) × (list_all is_fitting frame.external ≡ true)
    parts = both (list_all is_fitting frame.columns) (list_all is_fitting frame.external) h

    by : (o : Option Series) → look n frame.columns ≡ o → option_or o (look n frame.external) ≡ Some s → is_fitting s ≡ true
    by (Some t) e k = found_fits n frame.columns s parts.0 (e ∙ k)
    by None e k = found_fits n frame.external s parts.1 k

-- the columns of some rows of a frame fit
rows_fit : (p : List ℕ) (columns : List Series) → list_all is_fitting columns ≡ true → list_all is_fitting (map (series_at p) columns) ≡ true
rows_fit p [] h = refl
rows_fit p (s ∷ columns) h = let q = both (is_fitting s) (list_all is_fitting columns) h in λ i. slots_at_fit s.kind s.slots p q.0 i && rows_fit p columns q.1 i

beside_fit : (n : ℕ) (p : List ℕ) (external : List Series) → list_all is_fitting external ≡ true → list_all is_fitting (map (external_at n p) external) ≡ true
beside_fit n p [] h = refl
beside_fit n p (s ∷ external) h =
    let q = both (is_fitting s) (list_all is_fitting external) h in
    let first : is_fitting (external_at n p s) ≡ true = by (length s.slots == n) q.0 in
    λ i. first i && beside_fit n p external q.1 i
  where
    by : (b : Bool) → is_fitting s ≡ true → is_fitting (cond b (series_at p s) s) ≡ true
    by true e = slots_at_fit s.kind s.slots p e
    by false e = e

pub frame_fits : (frame : Frame) (p : List ℕ) → has_fitting_columns frame ≡ true → has_fitting_columns (rows_of_frame frame p) ≡ true
frame_fits frame p h =
    let q = both (list_all is_fitting frame.columns) (list_all is_fitting frame.external) h in
    λ i. rows_fit p frame.columns q.0 i && beside_fit (height frame) p frame.external q.1 i

-- a test that was not refused holds
pub where_holds : (w : Bool) (i : Kind) → refusal_of (kind_where w i) ≡ [] → w ≡ true
where_holds true i h = refl
where_holds false i h = cc

-- a range is one of integers
range_of_integers : (k : Kind) (e : PxError) → refused_where (not (is_range_kind k)) e ≡ [] → is_integer_kind k ≡ true
range_of_integers int32s e h = refl
range_of_integers int64s e h = refl
range_of_integers uint32s e h = refl
range_of_integers k e h = cc

literal_like : (v : Literal) (scope : Scope) (place : Context) (k : Kind) (c : Cell) → is_fitting_literal v ≡ true → refusals_of (literal v) scope place ≡ [] → kind_in (literal v) scope ≡ Some k → literal_cell v ≡ Ok c → is_cell_like k c ≡ true
literal_like (single j x) scope place k c fit r kind h =
    let e : j ≡ k = cc in
    unit_like k x c (cc) (as_kind j k x e (slot_fit_is_like j x fit))
literal_like (range low high j) scope place k c fit r kind h = by (fits j (integer low) && fits j (integer high)) h
  where
    e : j ≡ k
    e = cc

    by : (b : Bool) → cond b (Ok (rows (integers low high))) (Err (ComputeError RangeBound)) ≡ Ok c → is_cell_like k c ≡ true
    by true g = subst (λ i. is_cell_like i c ≡ true) e (listed j (integers low high) c g (all_made (is_slot_like j) (λ i. Some (integer (low +ℤ pos i))) (range_with_len 0 (natural (high -ℤ low))) (λ i. range_of_integers j (InvalidOperation RangeType) r)))
    by false g = cc
literal_like (series s) scope place k c fit r kind h =
    let e : s.kind ≡ k = cc in
    subst (λ i. is_cell_like i c ≡ true) e (listed s.kind s.slots c h (slots_fit_are_like s.kind s.slots fit))

-- a window's values, where the function's on each part are like those of its type
whole_like : (f : Tree) (mapping : WindowMapping) (frame : Frame) (parts : Result (List (List ℕ)) PxError) (k : Kind) (c : Cell)
    → ((p : List ℕ) (d : Cell) → value_on f (rows_of_frame frame p) ≡ Some d → is_part_like mapping (is_unit f) k d ≡ true)
    → made (whole_window mapping frame parts (λ qs. each (λ p. made (outcome_on f (rows_of_frame frame p))) qs)) ≡ Some c → is_cell_like (window_kind mapping (is_unit f) k) c ≡ true
whole_like f mapping frame (Err e) k c fine h = cc
whole_like f mapping frame (Ok parts) k c fine h =
    let cells = map_found (each (λ p. made (outcome_on f (rows_of_frame frame p))) parts) (λ cs. window_cell mapping (height frame) (zip parts cs)) c h in
    let like = each_passes (λ p. made (outcome_on f (rows_of_frame frame p))) (is_part_like mapping (is_unit f) k) fine parts cells.0 cells.1 in
    window_like mapping (is_unit f) k (height frame) parts cells.0 c like cells.2

mutual
  -- the values of an expression that is not refused
  pub value_like : (e : Tree) (frame : Frame) (place : Context) (k : Kind) (c : Cell) → has_fitting_columns frame ≡ true → has_fitting_literals e ≡ true
      → refusals_of e (scope_of frame) place ≡ [] → kind_in e (scope_of frame) ≡ Some k → value_on e frame ≡ Some c → is_cell_like k c ≡ true
  value_like (column n) frame place k c fit lits r kind h =
      let s = map_found (look_in n frame) (λ (t : Series). Ok (rows t.slots)) c h in
      let same : Some s.0.kind ≡ Some k = sym (kind_of_found n frame s.0 s.1) ∙ kind in
      let e : s.0.kind ≡ k = cc in
      subst (λ j. is_cell_like j c ≡ true) e (listed s.0.kind s.0.slots c s.2 (slots_fit_are_like s.0.kind s.0.slots (look_fits n frame s.0 fit s.1)))
  value_like (literal v) frame place k c fit lits r kind h = literal_like v (scope_of frame) place k c lits r kind (made_ok (literal_cell v) c h)
  value_like (alias e n) frame place k c fit lits r kind h = value_like e frame place k c fit lits r kind (sym (under_name _) ∙ h)
  value_like (binary l op x) frame place k c fit lits r kind h =
      let el = both (has_fitting_literals l) (has_fitting_literals x) lits in
      let i = bound (kind_in l (scope_of frame)) _ k kind in
      let j = bound (kind_in x (scope_of frame)) _ k i.2 in
      let v = made_bound (kind_in l (scope_of frame)) _ c h in
      let a = made_bound (made (outcome_on l frame)) _ c v.2 in
      let b = made_bound (made (outcome_on x frame)) _ c a.2 in
      let same : Some v.0 ≡ Some i.0 = sym v.1 ∙ i.1 in
      let e : v.0 ≡ i.0 = cc in
      let left = value_like l frame place i.0 a.0 fit el.0 (none_left _ _ (none_first _ _ r)) i.1 a.1 in
      binary_like op i.0 j.0 k a.0 b.0 c j.2 left (subst (λ t. binary_cell t op a.0 b.0 ≡ Ok c) e (made_ok _ c b.2))
  value_like (ternary t l x) frame place k c fit lits r kind h =
      let s = scope_of frame in
      let el = both (has_fitting_literals t) (has_fitting_literals l && has_fitting_literals x) lits in
      let em = both (has_fitting_literals l) (has_fitting_literals x) el.1 in
      let inputs = none_first _ _ r in
      let two = none_left (refusals_of t s place ++ refusals_of l s place) _ inputs in
      let rl = none_right (refusals_of t s place) _ two in
      let rx = none_right (refusals_of t s place ++ refusals_of l s place) _ inputs in
      let j = kind_there x s place rx in
      let own = none_right (refused_where (fails is_boolean_kind (kind_in t s)) SchemaMismatch) _ (none_own (refusals_of t s place ++ refusals_of l s place ++ refusals_of x s place) _ r) in
      let typed : refusal_of (kind_where (kind_eq k j.0) k) ≡ [] = (λ i. refusal_of_two (λ u v. kind_where (kind_eq u v) u) (sym kind i) (sym j.1 i)) ∙ own in
      let e : k ≡ j.0 = kind_same k j.0 (where_holds (kind_eq k j.0) k typed) in
      let q = made_bound (made (outcome_on t frame)) _ c h in
      let a = made_bound (made (outcome_on l frame)) _ c q.2 in
      let b = made_bound (made (outcome_on x frame)) _ c a.2 in
      let left = value_like l frame place k a.0 fit em.0 rl kind a.1 in
      let right = value_like x frame place k b.0 fit em.1 rx (j.1 ∙ ap Some (sym e)) b.1 in
      ternary_like k q.0 a.0 b.0 c left right (made_ok _ c b.2)
  value_like (cast e to o) frame place k c fit lits r kind h =
      let v = made_bound (kind_in e (scope_of frame)) _ c h in
      let a = made_bound (made (outcome_on e frame)) _ c v.2 in
      let same : to ≡ k = cc in
      subst (λ t. is_cell_like t c ≡ true) same (cast_like v.0 to o a.0 c (made_ok _ c a.2))
  value_like (function es f) frame place k c fit lits r kind h =
      let ks = bound (kinds_in es (scope_of frame)) _ k kind in
      let v = made_bound (kinds_in es (scope_of frame)) _ c h in
      let a = made_bound (cells_on es frame) _ c v.2 in
      let same : Some v.0 ≡ Some ks.0 = sym v.1 ∙ ks.1 in
      let e : v.0 ≡ ks.0 = cc in
      let like = cells_like es frame place ks.0 a.0 fit lits (none_first _ _ r) ks.1 a.1 in
      function_like (called f) k c like ks.2 (subst (λ js. function_cell (called f) (first_kind js) a.0 ≡ Ok c) e (made_ok _ c a.2))
  value_like (filter e by) frame place k c fit lits r kind h =
      let el = both (has_fitting_literals e) (has_fitting_literals by) lits in
      let a = made_bound (made (outcome_on e frame)) _ c h in
      let m = made_bound (made (outcome_on by frame)) _ c a.2 in
      filter_like k a.0 m.0 c (value_like e frame place k a.0 fit el.0 (none_left _ _ (none_first _ _ r)) kind a.1) (made_ok _ c m.2)
  value_like (slice e offset size) frame place k c fit lits r kind h =
      let el = both (has_fitting_literals e) (has_fitting_literals offset && has_fitting_literals size) lits in
      let re = none_left _ _ (none_left (refusals_of e (scope_of frame) place ++ refusals_of offset (scope_of frame) place) _ (none_first _ _ r)) in
      let a = made_bound (made (outcome_on e frame)) _ c h in
      let o = made_bound (made (outcome_on offset frame)) _ c a.2 in
      let l = made_bound (made (outcome_on size frame)) _ c o.2 in
      slice_like k a.0 o.0 l.0 c (value_like e frame place k a.0 fit el.0 re kind a.1) (made_ok _ c l.2)
  value_like (gather e idx one) frame place k c fit lits r kind h =
      let el = both (has_fitting_literals e) (has_fitting_literals idx) lits in
      let a = made_bound (made (outcome_on e frame)) _ c h in
      let j = made_bound (made (outcome_on idx frame)) _ c a.2 in
      gather_like k one (is_literal_tree idx) a.0 j.0 c (value_like e frame place k a.0 fit el.0 (none_left _ _ (none_first _ _ r)) kind a.1) (made_ok _ c j.2)
  value_like (sort e options) frame place k c fit lits r kind h =
      let a = made_bound (made (outcome_on e frame)) _ c h in
      ordered_like k (list_of a.0) _ c (value_like e frame place k a.0 fit lits (none_first _ _ r) kind a.1) (made_ok _ c a.2)
  value_like (sort_by e by options) frame place k c fit lits r kind h =
      let el = both (has_fitting_literals e) (have_fitting_literals by) lits in
      let a = made_bound (made (outcome_on e frame)) _ c h in
      let keys = made_bound (cells_on by frame) _ c a.2 in
      sort_by_like k options a.0 keys.0 c (value_like e frame place k a.0 fit el.0 (none_left _ _ (none_first _ _ r)) kind a.1) (made_ok _ c keys.2)
  value_like (agg m e) frame place k c fit lits r kind h =
      let j = bound (kind_in e (scope_of frame)) _ k kind in
      let v = made_bound (kind_in e (scope_of frame)) _ c h in
      let a = made_bound (made (outcome_on e frame)) _ c v.2 in
      let same : Some v.0 ≡ Some j.0 = sym v.1 ∙ j.1 in
      let e1 : v.0 ≡ j.0 = cc in
      reduction_like m j.0 k a.0 c j.2 (value_like e frame place j.0 a.0 fit lits (none_first _ _ r) j.1 a.1) (subst (λ t. answer (reduction_cell m t a.0) ≡ Ok c) e1 (made_ok _ c a.2))
  value_like len frame place k c fit lits r kind h =
      let e : uint32s ≡ k = cc in
      unit_like k (count_slot (height frame)) c (cc) (as_kind uint32s k (count_slot (height frame)) e refl)
  value_like (window f keys order mapping) frame place k c fit lits r kind h =
      let s = scope_of frame in
      let el = both (has_fitting_literals f) (have_fitting_literals keys && has_fitting_order order) lits in
      let rf = none_left _ _ (none_left (refusals_of f s Aggregation ++ all_refusals_of keys s Default) _ (none_first _ _ r)) in
      let j = mapped (kind_in f s) (window_kind mapping (is_unit f)) k kind in
      let found = made_bound (window_parts (named_on keys frame) (order_on order frame) frame) _ c h in
      let on_part = λ (p : List ℕ) (d : Cell) (e : value_on f (rows_of_frame frame p) ≡ Some d).
      part_is_like mapping (is_unit f) j.0 d (shape_of_value f (rows_of_frame frame p) d e)
      (value_like f (rows_of_frame frame p) Aggregation j.0 d (frame_fits frame p fit) el.0 (ap (λ scope. refusals_of f scope Aggregation) (scope_of_rows frame p) ∙ rf) (ap (kind_in f) (scope_of_rows frame p) ∙ j.1) e) in
      subst (λ t. is_cell_like t c ≡ true) j.2 (whole_like f mapping frame found.0 j.0 c on_part found.2)

  -- and those of each of some
  pub cells_like : (es : Trees) (frame : Frame) (place : Context) (ks : List Kind) (cs : List Cell) → has_fitting_columns frame ≡ true → have_fitting_literals es ≡ true
      → all_refusals_of es (scope_of frame) place ≡ [] → kinds_in es (scope_of frame) ≡ Some ks → cells_on es frame ≡ Some cs → AreLike ks cs
  cells_like no_trees frame place ks cs fit lits r kinds h =
      let ek : [] ≡ ks = cc in
      let ec : [] ≡ cs = cc in
      subst (λ js. AreLike js cs) ek (subst (λ ds. AreLike [] ds) ec none_like)
  cells_like (one_tree t ts) frame place ks cs fit lits r kinds h =
      let el = both (has_fitting_literals t) (have_fitting_literals ts) lits in
      let k = bound (kind_in t (scope_of frame)) _ ks kinds in
      let js = bound (kinds_in ts (scope_of frame)) _ ks k.2 in
      let a = bound (made (outcome_on t frame)) _ cs h in
      let ds = bound (cells_on ts frame) _ cs a.2 in
      let ek : k.0 ∷ js.0 ≡ ks = cc (js.2) in
      let ec : a.0 ∷ ds.0 ≡ cs = cc (ds.2) in
      let first = value_like t frame place k.0 a.0 fit el.0 (none_left _ _ r) k.1 a.1 in
      let rest = cells_like ts frame place js.0 ds.0 fit el.1 (none_right (refusals_of t (scope_of frame) place) _ r) js.1 ds.1 in
      subst (λ is. AreLike is cs) ek (subst (λ bs. AreLike (k.0 ∷ js.0) bs) ec (more_like k.0 a.0 js.0 ds.0 first rest))

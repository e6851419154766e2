-- What a column node has of a frame's own columns, and else of those beside it.
use Rattle.std.proofs.Common.{◌≡◌, ◌≢◌, ◌==◌, ℕ, Bool, true, false, not, cond, ◌&&◌, List, Option, Some, None, Ok, Err, Result, Bor, IfSome, IfOk, IfErr, drop, length, option_map, is_some, ok_or, refl, sym, ◌∙◌, ap, subst, arith}
use Rattle.std.specs.Option.{option_map_or, option_or}
use Rattle.std.proofs.lemmas.Bool.Decides.{nat_tests}
use Rattle.px_column.specs.Prelude.{Series, Answers, Refuses}
use Rattle.px_frame.specs.External.{Frame, alone, look_in}
use Rattle.px_frame.specs.Frame.{has_height, height_of, look}
use Rattle.px_value.specs.declared.error.PxError.{PxError}
use Rattle.px_value.specs.declared.error.PxError.TheVariants.{ColumnNotFound, ShapeMismatch, OutOfMemory}
use Rattle.px_tree.specs.Value.{is_misfit}
use Rattle.px_answers.specs.Planned.{Planned, PlannedColumn, found_by, is_added}
use Rattle.px_answers.specs.Value.{IsCause, IsValue, column_of, finds_misfit}
use Rattle.px_answers.proofs.Columns.{column_plan, found_is_value, misfit_is_cause, unfound_is_cause}

module _ (c : PlannedColumn) (columns external : List Series) where
  abbrev whole : Frame
  whole = record { columns = columns; external = external }

  -- a column of the frame is found whatever stands beside it
  pub own_found : (s : Series) → found_by c (alone columns) ≡ Some s → found_by c whole ≡ Some s
  own_found s h = by (is_added c) (look c.name columns) h
    where
      by : (b : Bool) (o : Option Series) → cond b (look c.name (drop (length c.schema) columns)) (option_or o None) ≡ Some s → cond b (look c.name (drop (length c.schema) columns)) (option_or o (look c.name external)) ≡ Some s
      by true o k = k
      by false (Some t) k = k
      by false None k = absurd (cc k)

  -- and has its height
  pub own_fits : (s : Series) → found_by c (alone columns) ≡ Some s → finds_misfit whole c ≡ false
  own_fits s h = by (is_added c) (look c.name columns) (option_map_or (λ t. not (has_height (height_of columns) t)) (look c.name external) false) h
    where
      by : (b : Bool) (o : Option Series) (m : Bool) → cond b (look c.name (drop (length c.schema) columns)) (option_or o None) ≡ Some s → (not b && (not (is_some o) && m)) ≡ false
      by true o m k = refl
      by false (Some t) m k = refl
      by false None m k = absurd (cc k)

  -- it is the one of its name
  pub own_looked : (s : Series) → look c.name columns ≡ Some s → look_in c.name whole ≡ Some s
  own_looked s h = ap (λ o. option_or o (look c.name external)) h

  -- it is what the node has
  own_column : (s : Series) → found_by c (alone columns) ≡ Some s → column_of c whole ≡ Ok s
  own_column s h =
      ap (λ b. cond b (Err ShapeMismatch) (ok_or (found_by c whole) (ColumnNotFound c.name))) (own_fits s h)
      ∙ ap (λ o. ok_or o (ColumnNotFound c.name)) (own_found s h)

  -- and so is a copy of it
  pub own_copied : (r : Option (Bor Series)) (b : Bor Series) (copy : Result Series PxError) → option_map (λ x. x.now) r ≡ found_by c (alone columns) → r ≡ Some b → Answers copy (Ok b.now) → Answers copy (column_of c whole)
  own_copied None b copy f is a = absurd (cc is)
  own_copied (Some x) b copy f is a =
      let same : x.now ≡ b.now = cc in
      subst (Answers copy) (sym (own_column b.now (sym f ∙ ap Some same))) a

  -- which has the name
  pub own_named : (r : Option (Bor Series)) (b : Bor Series) (copy : Result Series PxError) → IfSome r (λ x. look c.name columns ≡ Some x.now) → r ≡ Some b → Answers copy (Ok b.now) → IfOk copy (λ s. look_in c.name whole ≡ Some s)
  own_named r b (Err e) l is a = tt
  own_named None b (Ok t) l is a = absurd (cc is)
  own_named (Some x) b (Ok t) l is a =
      let same : x.now ≡ t = cc in
      own_looked t (l ∙ ap Some same)

  -- a reserved name that the schema lacks is not sought beside the frame
  pub beside_added : found_by c (alone columns) ≡ None → is_added c ≡ true → column_of c whole ≡ Err (ColumnNotFound c.name)
  beside_added h a = by (is_added c) a h
    where
      by : (b : Bool) → b ≡ true → cond b (look c.name (drop (length c.schema) columns)) (look_in c.name (alone columns)) ≡ None
          → cond (not b && is_misfit whole c.name) (Err ShapeMismatch) (ok_or (cond b (look c.name (drop (length c.schema) columns)) (look_in c.name whole)) (ColumnNotFound c.name)) ≡ Err (ColumnNotFound c.name)
      by true e k = rw k refl
      by false e k = absurd (cc e)

  -- what is found beside the frame, of a name that is sought there
  sought : (o : Option Series) → found_by c (alone columns) ≡ None → is_added c ≡ false → look c.name external ≡ o
      → column_of c whole ≡ cond (option_map_or (λ s. not (has_height (height_of columns) s)) o false) (Err ShapeMismatch) (ok_or o (ColumnNotFound c.name))
  sought o h a l = by (is_added c) (look c.name columns) a h ∙ ap (λ m. cond (option_map_or (λ (s : Series). not (has_height (height_of columns) s)) m false) (Err ShapeMismatch) (ok_or m (ColumnNotFound c.name))) l
    where
      by : (b : Bool) (f : Option Series) → b ≡ false → cond b (look c.name (drop (length c.schema) columns)) (option_or f None) ≡ None
          → cond (not b && (not (is_some f) && option_map_or (λ s. not (has_height (height_of columns) s)) (look c.name external) false)) (Err ShapeMismatch)
          (ok_or (cond b (look c.name (drop (length c.schema) columns)) (option_or f (look c.name external))) (ColumnNotFound c.name))
          ≡ cond (option_map_or (λ s. not (has_height (height_of columns) s)) (look c.name external) false) (Err ShapeMismatch) (ok_or (look c.name external) (ColumnNotFound c.name))
      by true f e k = absurd (cc e)
      by false None e k = refl
      by false (Some t) e k = absurd (cc k)

  pub beside_none : found_by c (alone columns) ≡ None → is_added c ≡ false → look c.name external ≡ None → column_of c whole ≡ Err (ColumnNotFound c.name)
  beside_none h a l = sought None h a l

  pub beside_fits : (s : Series) → found_by c (alone columns) ≡ None → is_added c ≡ false → look c.name external ≡ Some s → length s.slots ≡ height_of columns → column_of c whole ≡ Ok s
  beside_fits s h a l n =
      let fits : (length s.slots == height_of columns) ≡ true = grind (arith, nat_tests) in
      sought (Some s) h a l ∙ ap (λ b. cond (not b) (Err ShapeMismatch) (Ok s)) fits

  pub beside_misfit : (s : Series) → found_by c (alone columns) ≡ None → is_added c ≡ false → look c.name external ≡ Some s → length s.slots ≢ height_of columns → column_of c whole ≡ Err ShapeMismatch
  beside_misfit s h a l n =
      let fits : (length s.slots == height_of columns) ≡ false = grind (arith, nat_tests) in
      sought (Some s) h a l ∙ ap (λ b. cond (not b) (Err ShapeMismatch) (Ok s)) fits

  -- a column that a node has is found, and of the frame's height
  pub column_parts : (s : Series) → column_of c whole ≡ Ok s → (finds_misfit whole c ≡ false) × (found_by c whole ≡ Some s)
  column_parts s h = by (finds_misfit whole c) (found_by c whole) h
    where
      by : (m : Bool) (o : Option Series) → cond m (Err ShapeMismatch) (ok_or o (ColumnNotFound c.name)) ≡ Ok s → (m ≡ false) × (o ≡ Some s)
      by true o k = absurd (cc k)
      by false None k = absurd (cc k)
      by false (Some t) k = let same : t ≡ s = cc in (refl, ap Some same)

  -- where the frame has none, it is the one of its name
  pub beside_looked : (s : Series) → found_by c (alone columns) ≡ None → found_by c whole ≡ Some s → look_in c.name whole ≡ Some s
  beside_looked s h f = by (is_added c) h f
    where
      by : (b : Bool) → cond b (look c.name (drop (length c.schema) columns)) (look_in c.name (alone columns)) ≡ None → cond b (look c.name (drop (length c.schema) columns)) (look_in c.name whole) ≡ Some s → look_in c.name whole ≡ Some s
      by true k g = absurd (cc (k, g))
      by false k g = g

  pub beside_named : (copy : Result Series PxError) → found_by c (alone columns) ≡ None → Answers copy (column_of c whole) → IfOk copy (λ s. look_in c.name whole ≡ Some s)
  beside_named (Err e) h a = tt
  beside_named (Ok s) h a = beside_looked s h (column_parts s a).1

  -- a copy of the column that a node has is its value
  pub copied_value : (p : Planned) (copy : Result Series PxError) → p ≡ column_plan c → Answers copy (column_of c whole) → IfOk copy (λ s. look_in c.name whole ≡ Some s) → IfOk copy (λ s. IsValue p whole s)
  copied_value p (Err e) i a l = tt
  copied_value p (Ok s) i a l =
      let parts = column_parts s a in
      rw i (found_is_value c whole s parts.0 parts.1 l)

  no_column : (e : PxError) → column_of c whole ≡ Err e → IsCause e (column_plan c) whole
  no_column e h = by (finds_misfit whole c) (found_by c whole) refl refl h
    where
      by : (m : Bool) (o : Option Series) → finds_misfit whole c ≡ m → found_by c whole ≡ o → cond m (Err ShapeMismatch) (ok_or o (ColumnNotFound c.name)) ≡ Err e → IsCause e (column_plan c) whole
      by true o i f k = let same : ShapeMismatch ≡ e = cc in subst (λ x. IsCause x (column_plan c) whole) same (misfit_is_cause c whole i)
      by false None i f k = let same : ColumnNotFound c.name ≡ e = cc in subst (λ x. IsCause x (column_plan c) whole) same (unfound_is_cause c whole f)
      by false (Some s) i f k = absurd (cc k)

  refused : (e : PxError) → (column_of c whole ≡ Err e → IsCause e (column_plan c) whole) → Refuses e (column_of c whole) → IsCause e (column_plan c) whole
  refused OutOfMemory w h = tt
  refused _ w h = w h

  -- where a node has no column, that is its cause
  pub column_cause : (p : Planned) (copy : Result Series PxError) → p ≡ column_plan c → Answers copy (column_of c whole) → IfErr copy (λ e. IsCause e p whole)
  column_cause p (Ok s) i a = tt
  column_cause p (Err e) i a = rw i (refused e (no_column e) a)

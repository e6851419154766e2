-- What a column node has on groups of a frame's own columns, and else of those beside it.
use Rattle.std.proofs.Common.{◌≡◌, ℕ, ◌==◌, zero, suc, ◌+◌, ◌^◌, Bool, true, false, cond, not, ◌&&◌, nat_lt, List, [], ◌∷◌, ◌++◌, Option, Some, None, Result, Ok, Err, Bor, IfErr, IfSome, is_some, ok_or, drop, inl, length, map, refl, sym, ◌∙◌, ap, subst, arith}
use Rattle.std.specs.List.{flat_map, list_all}
use Rattle.std.specs.Option.{option_map_or, option_or}
use Rattle.std.specs.Prelude.{option_map}
use Rattle.std.proofs.lemmas.Bool.Decides.{nat_tests}
use Rattle.std.proofs.lemmas.List.{length-map}
use Rattle.px_column.specs.Prelude.{Answers, Refuses, fits, Kind, Series, slot_at}
use Rattle.px_value.specs.declared.error.PxError.{PxError}
use Rattle.px_value.specs.declared.error.PxError.TheVariants.{ColumnNotFound, ShapeMismatch, OutOfMemory}
use Rattle.px_frame.proofs.LookLaws.{has_length, look_rows}
use Rattle.px_frame.specs.Cell.{rows}
use Rattle.px_frame.specs.External.{Frame, alone, external_at, height, look_in, rows_of_frame, scope_of}
use Rattle.px_frame.specs.Frame.{are_below, has_height, has_name, height_of, look, series_at, slots_at}
use Rattle.px_frame.specs.Groups.{Group, Groups, IsGroups, is_group}
use Rattle.px_tree.specs.Tree.{column}
use Rattle.px_tree.specs.Typing.{kind_of_name, refusals_of, refused_where}
use Rattle.px_tree.specs.Value.{faults_on, is_misfit}
use Rattle.px_tree.specs.declared.context.Context.TheVariants.{Aggregation}
use Rattle.px_context.specs.Built.{new_context}
use Rattle.px_context.specs.Context.{Context}
use Rattle.px_lanes.specs.Made.{named_in}
use Rattle.px_answers.proofs.Cells.{value_is_cell}
use Rattle.px_answers.proofs.Beside.{beside_looked, column_parts, own_found, own_looked}
use Rattle.px_answers.proofs.Columns.{column_plan, found_is_value, found_named}
use Rattle.px_answers.proofs.Counts.{and_left, and_right}
use Rattle.px_answers.proofs.Inputs.{one_left, one_right}
use Rattle.px_tree.proofs.Scopes.{kind_of_found}
use Rattle.px_answers.specs.Planned.{Planned, PlannedColumn, found_by, is_added}
use Rattle.px_answers.specs.Value.{IsCellOf, IsOneOf, column_of, finds_misfit, has_misfit_column, unfound_refusal}
use Rattle.px_group_answers.specs.OnGroups.{AreCellsOn, IsContextOf, IsGroupCause, group_frames, group_refusals}

-- columns behind others, at some rows
drop_rows : (n : ℕ) (p : List ℕ) (columns : List Series) → drop n (map (series_at p) columns) ≡ map (series_at p) (drop n columns)
drop_rows zero p columns = refl
drop_rows (suc n) p [] = refl
drop_rows (suc n) p (s ∷ columns) = drop_rows n p columns

-- the rows of a column beside a frame have its name
same_name : (n : List ℕ) (h : ℕ) (p : List ℕ) (s : Series) → has_name n (external_at h p s) ≡ has_name n s
same_name n h p s = by (length s.slots == h)
  where
    by : (b : Bool) → has_name n (cond b (series_at p s) s) ≡ has_name n s
    by true = refl
    by false = refl

-- what is found beside the frame of some rows
look_external : (n : List ℕ) (h : ℕ) (external : List Series) (p : List ℕ) → look n (map (external_at h p) external) ≡ option_map (external_at h p) (look n external)
look_external n h [] p = refl
look_external n h (s ∷ external) p =
    ap (λ b. cond b (Some (external_at h p s)) (look n (map (external_at h p) external))) (same_name n h p s) ∙ by (has_name n s) (look_external n h external p)
  where
    by : (b : Bool) → look n (map (external_at h p) external) ≡ option_map (external_at h p) (look n external)
        → cond b (Some (external_at h p s)) (look n (map (external_at h p) external)) ≡ option_map (external_at h p) (cond b (Some s) (look n external))
    by true rest = refl
    by false rest = rest

is_true_not : (b : Bool) → not b ≡ false → b ≡ true
is_true_not true h = refl
is_true_not false h = absurd (cc h)

-- a column of the frame's height is found at some rows as those rows of it
look_in_rows : (n : List ℕ) (frame : Frame) (p : List ℕ) → is_misfit frame n ≡ false → look_in n (rows_of_frame frame p) ≡ option_map (series_at p) (look_in n frame)
look_in_rows n frame p h =
    (λ i. option_or (look_rows n frame.columns p i) (look_external n (height frame) frame.external p i)) ∙ by (look n frame.columns) (look n frame.external) h
  where
    by : (o e : Option Series) → (not (is_some o) && option_map_or (λ (s : Series). not (has_height (height frame) s)) e false) ≡ false
        → option_or (option_map (series_at p) o) (option_map (external_at (height frame) p) e) ≡ option_map (series_at p) (option_or o e)
    by (Some s) e g = refl
    by None None g = refl
    by None (Some s) g = ap (λ b. Some (cond b (series_at p s) s)) (is_true_not (length s.slots == height frame) g)

-- no number is below 0
none_below : (r : ℕ) (b : Bool) → (nat_lt r 0 && b) ≡ true → ⊥
none_below r b h =
    let none : nat_lt r 0 ≡ false = grind (arith, nat_tests) in
    let same : false ≡ true = sym (ap (λ x. x && b) none) ∙ h in
    absurd (cc same)

-- the number of rows of a group's frame
pub row_count : (columns : List Series) (p : List ℕ) → are_below (height_of columns) p ≡ true → height_of (map (series_at p) columns) ≡ length p
row_count [] [] h = refl
row_count [] (r ∷ p) h = absurd (none_below r _ h)
row_count (s ∷ columns) p h = length-map p (slot_at s.slots)

-- a column of the frame's height has at some rows the height of their frame
fits_at : (h : ℕ) (p : List ℕ) (s : Series) → has_height h s ≡ true → has_height (length p) (external_at h p s) ≡ true
fits_at h p s e = ap (λ b. has_height (length p) (cond b (series_at p s) s)) e ∙ has_length (length p) (series_at p s) (length-map p (slot_at s.slots))

-- and so a name stands for no column of another height there
misfit_rows : (n : List ℕ) (frame : Frame) (p : List ℕ) → are_below (height frame) p ≡ true → is_misfit frame n ≡ false → is_misfit (rows_of_frame frame p) n ≡ false
misfit_rows n frame p b h =
    (λ i. not (is_some (look_rows n frame.columns p i)) && option_map_or (λ (s : Series). not (has_height (row_count frame.columns p b i) s)) (look_external n (height frame) frame.external p i) false)
    ∙ by (look n frame.columns) (look n frame.external) h
  where
    by : (o e : Option Series) → (not (is_some o) && option_map_or (λ (s : Series). not (has_height (height frame) s)) e false) ≡ false
        → (not (is_some (option_map (series_at p) o)) && option_map_or (λ (s : Series). not (has_height (length p) s)) (option_map (external_at (height frame) p) e) false) ≡ false
    by (Some s) e g = refl
    by None None g = refl
    by None (Some s) g = ap not (fits_at (height frame) p s (is_true_not (has_height (height frame) s) g))

-- a name that stands for no such column finds none
fits_found : (c : PlannedColumn) (frame : Frame) → is_misfit frame c.name ≡ false → finds_misfit frame c ≡ false
fits_found c frame m = by (is_added c)
  where
    by : (a : Bool) → (not a && is_misfit frame c.name) ≡ false
    by true = refl
    by false = m

-- the rows of a group are below the height
pub below_of : (height : ℕ) (p : Group) → is_group height p ≡ true → are_below height p.rows ≡ true
below_of height p h = and_left (are_below height p.rows) (nat_lt (length p.rows) (2 ^ 32)) h

module _ (c : PlannedColumn) (frame : Frame) (s : Series) (m : is_misfit frame c.name ≡ false) (f : found_by c frame ≡ Some s) (l : look_in c.name frame ≡ Some s) where
  looked_rows : (p : List ℕ) → look_in c.name (rows_of_frame frame p) ≡ Some (series_at p s)
  looked_rows p = look_in_rows c.name frame p m ∙ ap (option_map (series_at p)) l

  -- what a column node finds does not depend on the rows
  found_rows : (p : List ℕ) → found_by c (rows_of_frame frame p) ≡ Some (series_at p s)
  found_rows p = by (is_added c) f
    where
      by : (b : Bool) → cond b (look c.name (drop (length c.schema) frame.columns)) (look_in c.name frame) ≡ Some s
          → cond b (look c.name (drop (length c.schema) (map (series_at p) frame.columns))) (look_in c.name (rows_of_frame frame p)) ≡ Some (series_at p s)
      by true k = ap (look c.name) (drop_rows (length c.schema) p frame.columns) ∙ look_rows c.name (drop (length c.schema) frame.columns) p ∙ ap (option_map (series_at p)) k
      by false k = looked_rows p

  -- the column at a group's rows is the value on their frame
  found_cell : (p : List ℕ) → are_below (height frame) p ≡ true → IsCellOf (column_plan c) (rows_of_frame frame p) (record { name = s.name; kind = s.kind; cell = rows (slots_at s.slots p) })
  found_cell p b =
      value_is_cell (column_plan c) (rows_of_frame frame p) (series_at p s) _
      (found_is_value c (rows_of_frame frame p) (series_at p s) (fits_found c (rows_of_frame frame p) (misfit_rows c.name frame p b m)) (found_rows p) (looked_rows p)) refl

  found_cells : (g : Groups) (gs : List Group) → list_all (is_group (height frame)) gs ≡ true
      → AreCellsOn (column_plan c) (map (rows_of_frame frame) (map (λ (p : Group). p.rows) gs)) (map (named_in (new_context false s g)) (map (λ (p : Group). rows (slots_at s.slots p.rows)) gs))
  found_cells g [] h = tt
  found_cells g (p ∷ gs) h = (
    found_cell p.rows (below_of (height frame) p (and_left (is_group (height frame) p) (list_all (is_group (height frame)) gs) h)),
    found_cells g gs (and_right (is_group (height frame) p) (list_all (is_group (height frame)) gs) h),
  )

  -- a column that is found, with the groups that were handed in, is what its node has on these
  pub found_context : (p : Planned) (g : Groups) → p ≡ column_plan c → g.height ≡ height frame → IsGroups g.height g.groups → IsContextOf p frame g (new_context false s g)
  found_context p g e t i =
      subst (λ (q : Planned). IsContextOf q frame g (new_context false s g)) (sym e)
      (record {
        sound = rw (kind, f, fits_found c frame m) refl;
        name = sym (found_named c.name frame s l);
        kind = kind;
        cells = found_cells g g.groups (subst (λ n. list_all (is_group n) g.groups ≡ true) t i.each);
        shape = refl;
        count = refl;
        kept = λ _. refl;
        lane = λ _. refl;
      })
    where
      kind : kind_of_name c.name (scope_of frame) ≡ Some s.kind
      kind = kind_of_found c.name frame s l

module _ (p : Planned) (c : PlannedColumn) (columns external : List Series) (g : Groups) (e : p ≡ column_plan c) where
  abbrev whole : Frame
  whole = record { columns = columns; external = external }

  -- a column of the frame that a node finds, with these groups
  pub own_on_groups : (r : Option (Bor Series)) (b : Bor Series) (k : Context) → option_map (λ x. x.now) r ≡ found_by c (alone columns) → IfSome r (λ x. look c.name columns ≡ Some x.now) → r ≡ Some b → g.height ≡ height_of columns → IsGroups g.height g.groups
      → k ≡ new_context false b.now g → IsContextOf p whole g k
  own_on_groups None b k s f is t i n = absurd (cc is)
  own_on_groups (Some x) b k s f is t i n =
      let same : x.now ≡ b.now = cc in
      let fits : is_misfit whole c.name ≡ false = ap (λ o. not (is_some o) && option_map_or (λ (u : Series). not (has_height (height_of columns) u)) (look c.name external) false) f in
      subst (IsContextOf p whole g) (sym (n ∙ ap (λ (u : Series). new_context false u g) (sym same)))
      (found_context c whole x.now fits (own_found c columns external x.now (sym s)) (own_looked c columns external x.now f) p g e t i)

  -- and one beside it, where the frame has none
  pub beside_on_groups : (s : Series) (k : Context) → found_by c (alone columns) ≡ None → column_of c whole ≡ Ok s → g.height ≡ height_of columns → IsGroups g.height g.groups → k ≡ new_context false s g → IsContextOf p whole g k
  beside_on_groups s k h f t i n =
      let parts = column_parts c columns external s f in
      subst (IsContextOf p whole g) (sym n) (found_context c whole s (fits (is_added c) h parts.1 parts.0) parts.1 (beside_looked c columns external s h parts.1) p g e t i)
    where
      fits : (b : Bool) → cond b (look c.name (drop (length c.schema) columns)) (look_in c.name (alone columns)) ≡ None → cond b (look c.name (drop (length c.schema) columns)) (look_in c.name whole) ≡ Some s
          → (not b && is_misfit whole c.name) ≡ false → is_misfit whole c.name ≡ false
      fits true j l m = absurd (cc (j, l))
      fits false j l m = m

  -- where a node has no column, that is its cause
  no_column : (x : PxError) → column_of c whole ≡ Err x → IsGroupCause x (column_plan c) whole g
  no_column x h = by (finds_misfit whole c) (found_by c whole) (kind_of_name c.name (scope_of whole)) refl refl refl h
    where
      by : (m : Bool) (o : Option Series) (k : Option Kind) → finds_misfit whole c ≡ m → found_by c whole ≡ o → kind_of_name c.name (scope_of whole) ≡ k → cond m (Err ShapeMismatch) (ok_or o (ColumnNotFound c.name)) ≡ Err x
          → IsGroupCause x (column_plan c) whole g
      by true o k i f t j =
          let same : ShapeMismatch ≡ x = cc in
          let own : IsOneOf ShapeMismatch (refused_where (has_misfit_column (column_plan c) whole) ShapeMismatch) = rw i (inl refl) in
          subst (λ y. IsGroupCause y (column_plan c) whole g) same
          (one_left ShapeMismatch (group_refusals (column_plan c) whole) (flat_map (faults_on (column c.name)) (group_frames whole g))
          (one_right ShapeMismatch (refusals_of (column c.name) (scope_of whole) Aggregation ++ flat_map (unfound_refusal whole) (c ∷ [])) (refused_where (has_misfit_column (column_plan c) whole) ShapeMismatch) own))
      by false None None i f t j = let same : ColumnNotFound c.name ≡ x = cc in subst (λ y. IsGroupCause y (column_plan c) whole g) same (rw t (inl refl))
      by false None (Some k) i f t j = let same : ColumnNotFound c.name ≡ x = cc in subst (λ y. IsGroupCause y (column_plan c) whole g) same (rw (t, f) (inl refl))
      by false (Some s) k i f t j = absurd (cc j)

  refused : (x : PxError) → (column_of c whole ≡ Err x → IsGroupCause x (column_plan c) whole g) → Refuses x (column_of c whole) → IsGroupCause x (column_plan c) whole g
  refused OutOfMemory w h = tt
  refused _ w h = w h

  pub beside_group_cause : (r : Result Series PxError) → Answers r (column_of c whole) → IfErr r (λ x. IsGroupCause x p whole g)
  beside_group_cause (Ok s) a = tt
  beside_group_cause (Err x) a = rw e (refused x (no_column x) a)

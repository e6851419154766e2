-- An aggregation's column over all groups: what is laid out of its context, and why there may be none.
use Rattle.std.proofs.Common.{◌≡◌, ◌⊎◌, inl, inr, ℕ, ◌^◌, ◌≤◌, Bool, true, false, cond, List, [], ◌∷◌, ◌++◌, Some, Result, Ok, Err, length, map, nat_lt, option_and_then, option_map, sum, refl, sym, ◌∙◌, ap, subst, arith, if◌then◌else◌}
use Rattle.std.specs.Prelude.{IfOk, OnOk}
use Rattle.std.specs.List.{flat_map}
use Rattle.std.specs.Option.{option_map_or}
use Rattle.std.proofs.lemmas.Bool.Decides.{nat_tests}
use Rattle.std.proofs.lemmas.List.{length-map}
use Rattle.std.proofs.lemmas.List.Folds.{flat_map-map}
use Rattle.std.proofs.lemmas.List.FromFn.{length-range_with_len}
use Rattle.px_value.proofs.Refusing.{refuses_or}
use Rattle.px_column.specs.Prelude.{Answers, lists, Series, slot_at, Slot}
use Rattle.px_column.specs.Option.{each}
use Rattle.px_column.specs.Result.{◌>>=◌}
use Rattle.px_value.specs.declared.error.ComputeWhy.TheVariants.{TooLong}
use Rattle.px_value.specs.declared.error.PxError.{PxError}
use Rattle.px_value.specs.declared.error.PxError.TheVariants.{ComputeError, OutOfMemory, ShapeMismatch}
use Rattle.px_value.specs.declared.method.GroupByMethod.TheVariants.{Implode}
use Rattle.px_frame.specs.Cell.{Cell, count_of, rows, value_of_cell}
use Rattle.px_frame.specs.External.{Frame, rows_of_frame}
use Rattle.px_frame.specs.Frame.{slots_at}
use Rattle.px_frame.specs.Groups.{Group, Groups, lengths_of, rows_of}
use Rattle.px_frame.specs.Reduced.{listed_by, reduced_by}
use Rattle.px_frame.specs.Spread.{NamedCell}
use Rattle.px_tree.specs.Shape.{name_of}
use Rattle.px_tree.specs.Size.{count_on, counts_on, size_on}
use Rattle.px_tree.specs.Typing.{refused_where}
use Rattle.px_tree.specs.Value.{faults_on}
use Rattle.px_tree.specs.declared.context.Context.TheVariants.{Aggregation}
use Rattle.px_context.specs.Changes.{KeepsType, aggregated, aggregated_in, all_rows, finalized, laid_kind, with_lists}
use Rattle.px_context.specs.Context.{Context, cell_kind, cells_in, cells_of}
use Rattle.px_context.specs.declared.agg_state.Layout.{Layout}
use Rattle.px_context.specs.declared.agg_state.Layout.TheVariants.{Lists, Scalars, Flat, Rows, Unit as Single}
use Rattle.px_lanes.specs.Made.{named_cells, named_in}
use Rattle.px_answers.specs.Planned.{Planned}
use Rattle.px_answers.specs.Value.{IsOneOf}
use Rattle.px_group_answers.specs.OnGroups.{AreCellsOn, IsContextOf, IsGroupCause, group_causes, group_frames, group_refusals}
use Rattle.px_group_answers.proofs.Above.{counts_in_size}
use Rattle.px_steps.specs.Finds.{Finds, IsAccepted, Lacks, agg_faults, misfit_fault, part_faults, part_frames}
use Rattle.px_tree.specs.Grouped.{aggregated_on, grouped_kind, value_on_part}
use Rattle.px_steps.proofs.Selected.{cell_sound, swapped}
use Rattle.px_steps.proofs.Found.{leaves_found, misfits_named}

-- the values of an expression on the frames of some parts
each_value : (p : Planned) (frame : Frame) (parts : List (List ℕ)) (cs : List NamedCell) → AreCellsOn p (part_frames frame parts) cs → each (value_on_part frame p.tree) parts ≡ Some (map (λ c. value_of_cell c.cell) cs)
each_value p frame [] [] h = refl
each_value p frame [] (c ∷ cs) h = absurd h
each_value p frame (r ∷ rs) [] h = absurd h
each_value p frame (r ∷ rs) (c ∷ cs) h =
    λ i. option_and_then (λ y. option_map (λ ys. y ∷ ys) (each_value p frame rs cs h.1 i)) (option_map value_of_cell (h.0.value i))

-- have no faults
each_sound : (p : Planned) (frame : Frame) (parts : List (List ℕ)) (cs : List NamedCell) → AreCellsOn p (part_frames frame parts) cs → part_faults frame parts p.tree ≡ []
each_sound p frame [] cs h = refl
each_sound p frame (r ∷ rs) [] h = absurd h
each_sound p frame (r ∷ rs) (c ∷ cs) h = λ i. cell_sound p (rows_of_frame frame r) c h.0 i ++ each_sound p frame rs cs h.1 i

-- and are as many as the expression has on the frames
each_counted : (p : Planned) (frames : List Frame) (cs : List NamedCell) → AreCellsOn p frames cs → map (λ c. count_of c.cell) cs ≡ map (count_on p.tree) frames
each_counted p [] [] h = refl
each_counted p [] (c ∷ cs) h = absurd h
each_counted p (f ∷ fs) [] h = absurd h
each_counted p (f ∷ fs) (c ∷ cs) h = λ i. option_map_or count_of (sym h.0.value i) 0 ∷ each_counted p fs cs h.1 i

-- a cell under its name is that cell
unnamed : {X : Type 0} (f : Cell → X) (c : Context) (xs : List Cell) → map (λ (n : NamedCell). f n.cell) (map (named_in c) xs) ≡ map f xs
unnamed f c [] = refl
unnamed f c (x ∷ xs) = ap (λ ys. f x ∷ ys) (unnamed f c xs)

-- lists that are refused are too long together
long_lists : (s : Series) (g : Groups) (e : PxError) → listed_by s g ≡ Err e → (e ≡ ComputeError TooLong) × (2 ^ 32 ≤ sum (lengths_of g))
long_lists s g e h = by (nat_lt (sum (lengths_of g)) (2 ^ 32)) refl h
  where
    by : (b : Bool) → nat_lt (sum (lengths_of g)) (2 ^ 32) ≡ b → cond b (reduced_by Implode s g) (Err (ComputeError TooLong)) ≡ Err e → (e ≡ ComputeError TooLong) × (2 ^ 32 ≤ sum (lengths_of g))
    by true t k = absurd (cc k)
    by false t k = (cc, grind (arith, nat_tests, t))

flat_lengths : (xs : List Slot) (gs : List Group) → map (λ (p : Group). length p.rows) gs ≡ map count_of (map (λ p. rows (slots_at xs p.rows)) gs)
flat_lengths xs [] = refl
flat_lengths xs (g ∷ gs) = λ i. sym (length-map g.rows (slot_at xs)) i ∷ flat_lengths xs gs i

whole_lengths : (xs : List Slot) (gs : List Group) → lengths_of (all_rows (length gs) (length xs)) ≡ map count_of (map (λ _. rows xs) gs)
whole_lengths xs [] = refl
whole_lengths xs (g ∷ gs) = λ i. length-range_with_len 0 (length xs) i ∷ whole_lengths xs gs i

-- a column that is not laid out has too many values
laid_long : (c : Context) (e : PxError) → finalized c ≡ Err e → (e ≡ ComputeError TooLong) × (2 ^ 32 ≤ sum (map count_of (cells_of c)))
laid_long c e h = by c.layout h
  where
    refused : (r : Result Series PxError) (f : Series → Context) → ((r >>= λ s. Ok (f s)) >>= λ d. Ok d.values) ≡ Err e → r ≡ Err e
    refused (Ok s) f k = absurd (cc k)
    refused (Err d) f k = let same : d ≡ e = cc in ap (λ (x : PxError). Err x) same

    longer : (g : Groups) (ns : List ℕ) → lengths_of g ≡ ns → (e ≡ ComputeError TooLong) × (2 ^ 32 ≤ sum (lengths_of g)) → (e ≡ ComputeError TooLong) × (2 ^ 32 ≤ sum ns)
    longer g ns q k = (k.0, subst (λ (ms : List ℕ). 2 ^ 32 ≤ sum ms) q k.1)

    by : (l : Layout) → (aggregated_in l c >>= λ d. Ok d.values) ≡ Err e → (e ≡ ComputeError TooLong) × (2 ^ 32 ≤ sum (map count_of (cells_in l c.values c.groups)))
    by Lists k = absurd (cc k)
    by Scalars k = absurd (cc k)
    by Flat k = longer c.groups _ (flat_lengths c.values.slots c.groups.groups) (long_lists c.values c.groups e (refused (listed_by c.values c.groups) (with_lists c) k))
    by Rows k =
        let g = all_rows (length c.groups.groups) (length c.values.slots) in
        longer g _ (whole_lengths c.values.slots c.groups.groups) (long_lists c.values g e (refused (listed_by c.values g) (with_lists c) k))
    by Single k = absurd (cc k)

-- where an expression is not refused on groups, it is refused only for a column beside the frame that has not its height
refused_misfit : (p : Planned) (frame : Frame) → IsAccepted p frame Aggregation → group_refusals p frame ≡ misfit_fault frame p.tree
refused_misfit p frame a =
    ap (λ q. group_refusals q frame) a.over
    ∙ (λ i. (a.accepted i ++ leaves_found frame p.tree Aggregation a.accepted i) ++ refused_where (misfits_named frame p.tree Aggregation a.accepted i) ShapeMismatch)

-- what an expression on groups lacks that is not refused there
pub group_lacks : (e : PxError) (p : Planned) (frame : Frame) (g : Groups) → IsAccepted p frame Aggregation → IsGroupCause e p frame g → Lacks e (agg_faults frame (rows_of g) p.tree) (size_on p.tree (part_frames frame (rows_of g)))
group_lacks e p frame g a h = by e h
  where
    faults : group_causes p frame g ≡ misfit_fault frame p.tree ++ part_faults frame (rows_of g) p.tree
    faults =
        ap (λ (es : List PxError). es ++ flat_map (faults_on p.tree) (group_frames frame g)) (refused_misfit p frame a)
        ∙ ap (λ es. misfit_fault frame p.tree ++ es) (flat_map-map (faults_on p.tree) (rows_of_frame frame) (rows_of g))

    by : (e : PxError) → IsGroupCause e p frame g → Lacks e (agg_faults frame (rows_of g) p.tree) (size_on p.tree (part_frames frame (rows_of g)))
    by OutOfMemory h = inl refl
    by (ComputeError TooLong) h = inr (inr (refl, h))
    by e h = inr (inl (swapped e (misfit_fault frame p.tree) (part_faults frame (rows_of g) p.tree) (subst (IsOneOf e) faults h)))

-- the column that is laid out of an aggregation's context
pub column_finds : (p : Planned) (frame : Frame) (g : Groups) (c d : Context) (r : Result Series PxError) → IsAccepted p frame Aggregation → IsContextOf p frame g c → Answers r (finalized c) → IfOk r (λ s. s.slots ≡ map value_of_cell (cells_of c))
    → IfOk r (λ s. s.kind ≡ laid_kind c) → OnOk r (aggregated c ≡ Ok d) → KeepsType c d
    → Finds r (aggregated_on frame (rows_of g) p.tree) (agg_faults frame (rows_of g) p.tree) (size_on p.tree (part_frames frame (rows_of g)))
column_finds p frame g c d (Ok s) ok is a slots kind laid types = (λ i. each_sound p frame (rows_of g) (named_cells c) is.cells i ++ fits i, meant)
  where
    fits : misfit_fault frame p.tree ≡ []
    fits = sym (refused_misfit p frame ok) ∙ is.sound

    values : each (value_on_part frame p.tree) (rows_of g) ≡ Some s.slots
    values = each_value p frame (rows_of g) (named_cells c) is.cells ∙ ap Some (unnamed value_of_cell c (cells_of c) ∙ sym slots)

    column : d.values ≡ s
    column =
        let same : finalized c ≡ Ok d.values = ap (λ r. r >>= λ x. Ok x.values) laid in
        cc (same, a)

    name : name_of p.tree ≡ s.name
    name = sym is.name ∙ sym types.0 ∙ ap (λ (x : Series). x.name) column

    type : grouped_kind p.tree (cell_kind c) ≡ s.kind
    type = (λ i. if sym is.shape i then cell_kind c else lists (cell_kind c)) ∙ sym kind

    meant : aggregated_on frame (rows_of g) p.tree ≡ Some s
    meant =
        ap (λ o. option_and_then (λ k. option_and_then (λ vs. Some (record { name = name_of p.tree; kind = grouped_kind p.tree k; slots = vs })) (each (value_on_part frame p.tree) (rows_of g))) o) is.kind
        ∙ ap (λ o. option_and_then (λ vs. Some (record { name = name_of p.tree; kind = grouped_kind p.tree (cell_kind c); slots = vs })) o) values
        ∙ (λ i. Some (record { name = name i; kind = type i; slots = s.slots }))
column_finds p frame g c d (Err e) ok is a slots kind laid types = by (refuses_or e (finalized c) a)
  where
    counts : sum (map count_of (cells_of c)) ≡ counts_on p.tree (group_frames frame g)
    counts = ap sum (sym (unnamed count_of c (cells_of c)) ∙ each_counted p (group_frames frame g) (named_cells c) is.cells)

    by : (e ≡ OutOfMemory) ⊎ (finalized c ≡ Err e) → Lacks e (agg_faults frame (rows_of g) p.tree) (size_on p.tree (part_frames frame (rows_of g)))
    by (inl m) = inl m
    by (inr f) =
        let long = laid_long c e f in
        let more = counts_in_size p.tree (group_frames frame g) in
        inr (inr (long.0, omega (arith, long.1, counts, more)))

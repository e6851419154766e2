-- Nodes over a list of inputs on groups: from the contexts of the inputs come the node's context, or a cause of its own.
use Rattle.std.proofs.Common.{◌≡◌, ◌⊎◌, inl, inr, ℕ, ◌<◌, ◌≤◌, Bool, true, false, cond, ◌||◌, List, [], ◌∷◌, ◌++◌, Option, Some, Result, Ok, Err, IfOk, IfErr, length, map, replicate, refl, sym, ◌∙◌, ap, subst, arith}
use Rattle.std.specs.List.{flat_map, list_all, list_any, zip}
use Rattle.std.proofs.lemmas.List.{length-map}
use Rattle.px_column.specs.Prelude.{Kind, is_list_kind, nulls}
use Rattle.px_value.specs.declared.error.ComputeWhy.TheVariants.{TooLong}
use Rattle.px_value.specs.declared.error.InvalidWhy.TheVariants.{ListKey, Types}
use Rattle.px_value.specs.declared.error.PxError.{PxError}
use Rattle.px_value.specs.declared.error.PxError.TheVariants.{ComputeError, InvalidOperation, OutOfMemory}
use Rattle.px_value.specs.declared.sort_options.SortMultipleOptions.{SortMultipleOptions}
use Rattle.px_frame.specs.Cell.{Cell}
use Rattle.px_frame.specs.External.{Frame, rows_of_frame, scope_of}
use Rattle.px_frame.specs.Groups.{Groups, rows_of}
use Rattle.px_frame.specs.Spread.{NamedCell}
use Rattle.px_nodes.specs.Named.{function_named, kinds_of}
use Rattle.px_tree.proofs.KindLaws.{none_right}
use Rattle.px_tree.specs.Cost.{are_flat_rows, is_flat_rows}
use Rattle.px_tree.specs.Partition.{is_row_function}
use Rattle.px_tree.specs.Shape.{are_units, first_name, has_implode, have_implode, is_unit_call, is_unit_first}
use Rattle.px_tree.specs.Tree.{Call, Trees, called, no_trees, one_tree}
use Rattle.px_tree.specs.Typing.{first_scalar_refusal, function_kind, grouped_function_refusals, implode_refusal, is_one_input_missing, kind_in, kinds_in, or_first, own_refusals, refusal_of, refusal_of_all, refused_where, scalar_refusal}
use Rattle.px_tree.specs.declared.context.Context.TheVariants.{Aggregation}
use Rattle.px_tree.specs.declared.function.FunctionExpr.{FunctionExpr}
use Rattle.px_tree.specs.declared.function.FunctionExpr.TheVariants.{DropNulls, Explode, IsNull, NullCount, Reverse, Shift}
use Rattle.px_context.specs.Context.{Context, cell_kind, cells_of, has_units}
use Rattle.px_lanes.specs.Lane.{has_lane}
use Rattle.px_lanes.specs.Made.{IsRefusal, KeepsGroups, counts_in, named_cells, named_in}
use Rattle.px_group_nodes.specs.Function.{IsApplied, first_context_name, first_count, function_answers, function_type, function_units, has_first_units}
use Rattle.px_group_nodes.specs.Lanes.{have_lanes}
use Rattle.px_group_nodes.specs.Many.{AreAllPaired, IsPairedWith, across}
use Rattle.px_group_nodes.specs.SortBy.{IsSortedBy, sort_by_answers, sort_by_kind, sort_first}
use Rattle.px_answers.proofs.Applied.{apply_answer, apply_node, kind_refused, more_inputs, no_input, one_input}
use Rattle.px_answers.proofs.Counts.{and_left, and_right}
use Rattle.px_answers.proofs.Inputs.{IsAnswer, IsIn, IsNode, one_left, one_right, one_split}
use Rattle.px_answers.proofs.Operands.{first_refusal, kind_made}
use Rattle.px_answers.proofs.Plain.{Plain, is_plain}
use Rattle.px_answers.proofs.SortedBy.{sort_by_answer, sort_by_node}
use Rattle.px_answers.specs.Parts.{PlannedApply, PlannedSortBy, apply_plan, plan_trees, sort_by_plan}
use Rattle.px_answers.specs.Planned.{Planned}
use Rattle.px_answers.specs.Value.{AreCellsOf, IsOneOf}
use Rattle.px_group_answers.proofs.Above.{Answers, AreKept, answers_in_size, group_cause_above, made_context, made_group_cause, own_group_cause}
use Rattle.px_group_answers.proofs.Pointwise.{AreAnswers}
use Rattle.px_group_answers.proofs.Refusing.{first_front, plain_above, plain_scalar}
use Rattle.px_group_answers.specs.Accepts.{input_refusals}
use Rattle.px_group_answers.specs.OnGroups.{AreCellsOn, AreContextsOf, IsContextOf, IsGroupCause, IsGroupCauseOfAny, group_causes, group_frames, group_refusals}

-- contexts of equally many groups are paired, where each untouched one has the groups that were handed in
paired_with : (ps : List Planned) (frame : Frame) (g : Groups) (c : Context) (cs : List Context) → length c.groups.groups ≡ length g.groups → (c.untouched ≡ true → c.groups ≡ g) → AreContextsOf ps frame g cs → IsPairedWith c cs
paired_with [] frame g c [] n k h = tt
paired_with [] frame g c (d ∷ ds) n k h = absurd h
paired_with (p ∷ ps) frame g c [] n k h = absurd h
paired_with (p ∷ ps) frame g c (d ∷ ds) n k h =
    let first : IsContextOf p frame g d = h.0 in
    (record { count = n ∙ sym first.count; groups = λ t u. k t ∙ sym (first.kept u) }, paired_with ps frame g c ds n k h.1)

-- a context is paired with each of some others
pub is_paired : (p : Planned) (ps : List Planned) (frame : Frame) (g : Groups) (c : Context) (cs : List Context) → IsContextOf p frame g c → AreContextsOf ps frame g cs → IsPairedWith c cs
is_paired p ps frame g c cs i h = paired_with ps frame g c cs i.count i.kept h

-- each two contexts are paired
pub are_paired : (ps : List Planned) (frame : Frame) (g : Groups) (cs : List Context) → AreContextsOf ps frame g cs → AreAllPaired cs
are_paired [] frame g [] h = tt
are_paired [] frame g (c ∷ cs) h = absurd h
are_paired (p ∷ ps) frame g [] h = absurd h
are_paired (p ∷ ps) frame g (c ∷ cs) h =
    let first : IsContextOf p frame g c = h.0 in
    (paired_with ps frame g c cs first.count first.kept h.1, are_paired ps frame g cs h.1)

-- and so are a context and some more
pub first_paired : (p : Planned) (ps : List Planned) (frame : Frame) (g : Groups) (c : Context) (cs : List Context) → IsContextOf p frame g c → AreContextsOf ps frame g cs → AreAllPaired (c ∷ cs)
first_paired p ps frame g c cs i h = are_paired (p ∷ ps) frame g (c ∷ cs) (i, h)

-- for each frame a row of cells, the values of some expressions there, of these types
abbrev pub AreRowsOn : List Planned → List Kind → List Frame → List (List NamedCell) → Type 0
AreRowsOn ps ks [] [] = Unit {0}
AreRowsOn ps ks (f ∷ fs) (row ∷ rows) = (AreCellsOf ps f row × (kinds_of row ≡ ks)) × AreRowsOn ps ks fs rows
AreRowsOn ps ks _ _ = ⊥

-- without inputs the rows are empty
empty_rows : (fs : List Frame) → AreRowsOn [] [] fs (replicate (length fs) [])
empty_rows [] = tt
empty_rows (f ∷ fs) = ((tt, refl), empty_rows fs)

-- rows with the cells of one input more in front
longer_rows : (p : Planned) (ps : List Planned) (ks : List Kind) (c : Context) (fs : List Frame) (xs : List Cell) (rows : List (List NamedCell)) → AreCellsOn p fs (map (named_in c) xs) → AreRowsOn ps ks fs rows
    → AreRowsOn (p ∷ ps) (cell_kind c ∷ ks) fs (map (λ (q : NamedCell × List NamedCell). q.0 ∷ q.1) (zip (map (named_in c) xs) rows))
longer_rows p ps ks c [] [] [] h r = tt
longer_rows p ps ks c [] [] (row ∷ rows) h r = absurd r
longer_rows p ps ks c [] (x ∷ xs) rows h r = absurd h
longer_rows p ps ks c (f ∷ fs) [] rows h r = absurd h
longer_rows p ps ks c (f ∷ fs) (x ∷ xs) [] h r = absurd r
longer_rows p ps ks c (f ∷ fs) (x ∷ xs) (row ∷ rows) h r = (((h.0, r.0.0), ap (λ js. cell_kind c ∷ js) r.0.1), longer_rows p ps ks c fs xs rows h.1 r.1)

rows_on_frames : (ps : List Planned) (frame : Frame) (g : Groups) (cs : List Context) → AreContextsOf ps frame g cs → AreRowsOn ps (map cell_kind cs) (group_frames frame g) (across (length (group_frames frame g)) (map named_cells cs))
rows_on_frames [] frame g [] h = empty_rows (group_frames frame g)
rows_on_frames [] frame g (c ∷ cs) h = absurd h
rows_on_frames (p ∷ ps) frame g [] h = absurd h
rows_on_frames (p ∷ ps) frame g (c ∷ cs) h =
    let first : IsContextOf p frame g c = h.0 in
    longer_rows p ps (map cell_kind cs) c (group_frames frame g) (cells_of c) (across (length (group_frames frame g)) (map named_cells cs)) first.cells (rows_on_frames ps frame g cs h.1)

-- the contexts' cells, group by group, are the values on the frames of the groups' rows
pub rows_across : (ps : List Planned) (frame : Frame) (g : Groups) (cs : List Context) (n : ℕ) → n ≡ length g.groups → AreContextsOf ps frame g cs → AreRowsOn ps (map cell_kind cs) (group_frames frame g) (across n (map named_cells cs))
rows_across ps frame g cs n s h =
    let frames : length (group_frames frame g) ≡ length g.groups = length-map (rows_of g) (rows_of_frame frame) ∙ length-map g.groups (λ p. p.rows) in
    subst (λ m. AreRowsOn ps (map cell_kind cs) (group_frames frame g) (across m (map named_cells cs))) (frames ∙ sym s) (rows_on_frames ps frame g cs h)

module _ (q : Planned) (ps : List Planned) (ks : List Kind) (typed : Result Kind PxError) (node : List NamedCell → Result NamedCell PxError)
    (step : (f : Frame) (row : List NamedCell) → AreCellsOf ps f row → kinds_of row ≡ ks → IsAnswer q f typed (node row)) where
  -- the answers of a node of a list of inputs
  pub many_answers : (fs : List Frame) (rows : List (List NamedCell)) → AreRowsOn ps ks fs rows → AreAnswers q typed fs (map node rows)
  many_answers [] [] h = tt
  many_answers [] (row ∷ rows) h = absurd h
  many_answers (f ∷ fs) [] h = absurd h
  many_answers (f ∷ fs) (row ∷ rows) h = (step f row h.0.0 h.0.1, many_answers fs rows h.1)

-- what the contexts of some expressions say of these together
pub record AreTold (ps : List Planned) (frame : Frame) (g : Groups) (cs : List Context) : Type 0 where
  pub sound : flat_map (λ (p : Planned). group_refusals p frame) ps ≡ []
  pub kinds : kinds_in (plan_trees ps) (scope_of frame) ≡ Some (map cell_kind cs)
  pub name : first_context_name cs ≡ first_name (plan_trees ps)
  pub first : has_first_units cs ≡ is_unit_first (plan_trees ps)
  pub units : list_all (λ (c : Context). has_units c.layout) cs ≡ are_units (plan_trees ps)
  pub kept : AreKept g cs

-- that is what they say, where they are these expressions' contexts
pub told_of : (ps : List Planned) (frame : Frame) (g : Groups) (cs : List Context) → AreContextsOf ps frame g cs → AreTold ps frame g cs
told_of [] frame g [] h = record { sound = refl; kinds = refl; name = refl; first = refl; units = refl; kept = tt }
told_of [] frame g (c ∷ cs) h = absurd h
told_of (p ∷ ps) frame g [] h = absurd h
told_of (p ∷ ps) frame g (c ∷ cs) h =
    let here : IsContextOf p frame g c = h.0 in
    let rest : AreTold ps frame g cs = told_of ps frame g cs h.1 in
    record {
      sound = rw (here.sound, rest.sound) refl;
      kinds = rw (here.kind, rest.kinds) refl;
      name = here.name;
      first = here.shape;
      units = rw (here.shape, rest.units) refl;
      kept = (here.kept, rest.kept);
    }

-- contexts of flat rows each read from one cell
pub lanes_of : (ps : List Planned) (frame : Frame) (g : Groups) (cs : List Context) → AreContextsOf ps frame g cs → are_flat_rows (plan_trees ps) ≡ true → have_lanes cs ≡ true
lanes_of [] frame g [] h t = refl
lanes_of [] frame g (c ∷ cs) h t = absurd h
lanes_of (p ∷ ps) frame g [] h t = absurd h
lanes_of (p ∷ ps) frame g (c ∷ cs) h t =
    let first : IsContextOf p frame g c = h.0 in
    let here = first.lane (and_left (is_flat_rows p.tree) (are_flat_rows (plan_trees ps)) t) in
    let rest = lanes_of ps frame g cs h.1 (and_right (is_flat_rows p.tree) (are_flat_rows (plan_trees ps)) t) in
    rw (here, rest) refl

-- the first context has as many groups as were handed in, and none without a context
pub counted_first : (ps : List Planned) (frame : Frame) (g : Groups) (cs : List Context) → AreContextsOf ps frame g cs → first_count cs ≤ length g.groups
counted_first ps frame g [] h = omega arith
counted_first [] frame g (c ∷ cs) h = absurd h
counted_first (p ∷ ps) frame g (c ∷ cs) h =
    let first : IsContextOf p frame g c = h.0 in
    let count : length c.groups.groups ≡ length g.groups = first.count in
    omega (arith, count)

count_is : (ps : List Planned) (frame : Frame) (g : Groups) (c : Context) (cs : List Context) → AreContextsOf ps frame g (c ∷ cs) → length c.groups.groups ≡ length g.groups
count_is [] frame g c cs h = absurd h
count_is (p ∷ ps) frame g c cs h = let first : IsContextOf p frame g c = h.0 in first.count

-- where an input of a function is missing, the types are refused
inputs_told : (f : FunctionExpr) (ps : List Planned) (frame : Frame) (g : Groups) (cs : List Context) → AreContextsOf ps frame g cs → (is_one_input_missing f (plan_trees ps) ≡ false) ⊎ (function_type f cs ≡ Err (InvalidOperation Types))
inputs_told f [] frame g [] h = inr (no_input f)
inputs_told f [] frame g (c ∷ cs) h = absurd h
inputs_told f (p ∷ ps) frame g [] h = absurd h
inputs_told f (p ∷ []) frame g (c ∷ []) h = inl (one_input f p.tree)
inputs_told f (p ∷ []) frame g (c ∷ d ∷ cs) h = absurd h.1
inputs_told f (p ∷ q ∷ ps) frame g (c ∷ []) h = absurd h.1
inputs_told f (p ∷ q ∷ ps) frame g (c ∷ d ∷ cs) h = more_inputs f p.tree q.tree (plan_trees ps) (cell_kind c) (cell_kind d) (map cell_kind cs)

-- a function's own first refusal is that of its type, where the place refuses nothing
own_of_type : (missing : Bool) (grouped : List PxError) (typed : Result Kind PxError) → grouped ≡ [] → (missing ≡ false) ⊎ (typed ≡ Err (InvalidOperation Types)) → or_first [] (refused_where missing (InvalidOperation Types) ++ grouped ++ refusal_of typed) ≡ refusal_of typed
own_of_type true grouped typed h (inl n) = absurd (cc n)
own_of_type true grouped typed h (inr t) = rw t refl
own_of_type false grouped typed h t = rw h (first_refusal typed)

-- the types of functions are refused in plain words
plain_function : (f : FunctionExpr) (ks : List Kind) → Plain (function_kind f ks)
plain_function f ks = by (function_kind f ks) refl
  where
    by : (r : Result Kind PxError) → function_kind f ks ≡ r → Plain r
    by (Ok k) h = tt
    by (Err e) h = let why = kind_refused f ks e h in subst (λ x. is_plain x ≡ true) (sym why.1) refl

-- and so are inputs that are none for a function on groups
plain_first : (ts : Trees) (e : PxError) → or_first [] (first_scalar_refusal ts) ≡ e ∷ [] → is_plain e ≡ true
plain_first no_trees e h = absurd (cc h)
plain_first (one_tree t ts) e h = plain_scalar t e h

plain_null_count : (ts : Trees) (e : PxError) → or_first [] (implode_refusal (have_implode ts) ++ first_scalar_refusal ts) ≡ e ∷ [] → is_plain e ≡ true
plain_null_count no_trees e h = absurd (cc h)
plain_null_count (one_tree t ts) e h = plain_above (has_implode t || have_implode ts) t e h

plain_grouped : (f : FunctionExpr) (ts : Trees) (e : PxError) → or_first [] (grouped_function_refusals f ts) ≡ e ∷ [] → is_plain e ≡ true
plain_grouped Reverse ts e h = plain_first ts e h
plain_grouped (Shift periods) ts e h = plain_first ts e h
plain_grouped DropNulls ts e h = plain_first ts e h
plain_grouped NullCount ts e h = plain_null_count ts e h
plain_grouped Explode ts e h = plain_first ts e h
plain_grouped _ ts e h = absurd (cc h)

module _ (a : PlannedApply) (frame : Frame) (g : Groups) (cs : List Context) (h : AreContextsOf a.inputs frame g cs) where
  told : AreTold a.inputs frame g cs
  told = told_of a.inputs frame g cs h

  -- a refusal of the function's own, where it is the first, is a cause
  own_cause : (e : PxError) → is_plain e ≡ true → or_first [] (own_refusals (apply_plan a).tree (scope_of frame) Aggregation) ≡ e ∷ [] → IsGroupCause e (apply_plan a) frame g
  own_cause e i own = own_group_cause (apply_plan a) a.inputs (apply_node a) e frame g told.sound i own

  -- without the one input that it takes, the function is refused
  pub apply_number_refused : is_one_input_missing (called a.call) (plan_trees a.inputs) ≡ true → IsGroupCause (InvalidOperation Types) (apply_plan a) frame g
  apply_number_refused m = own_cause (InvalidOperation Types) refl (rw m refl)

  -- and where its inputs are none for it on groups
  pub apply_own_refused : (e : PxError) → is_one_input_missing (called a.call) (plan_trees a.inputs) ≡ false → or_first [] (grouped_function_refusals (called a.call) (plan_trees a.inputs)) ≡ e ∷ [] → IsGroupCause e (apply_plan a) frame g
  apply_own_refused e m own = own_cause e (plain_grouped (called a.call) (plan_trees a.inputs) e own) (rw m (first_front e (grouped_function_refusals (called a.call) (plan_trees a.inputs)) _ own))

  module _ (allowed : grouped_function_refusals (called a.call) (plan_trees a.inputs) ≡ []) where
    own_is : or_first [] (own_refusals (apply_plan a).tree (scope_of frame) Aggregation) ≡ refusal_of (function_type (called a.call) cs)
    own_is =
        rw told.kinds
        (own_of_type (is_one_input_missing (called a.call) (plan_trees a.inputs)) (grouped_function_refusals (called a.call) (plan_trees a.inputs)) (function_type (called a.call) cs) allowed (inputs_told (called a.call) a.inputs frame g cs h))

    -- where its types are refused
    type_cause : (e : PxError) → function_type (called a.call) cs ≡ Err e → IsGroupCause e (apply_plan a) frame g
    type_cause e t = own_cause e (subst (λ (r : Result Kind PxError). Plain r) t (plain_function (called a.call) (map cell_kind cs))) (own_is ∙ ap refusal_of t)

    applied : first_count cs ≡ length g.groups → Answers (apply_plan a) a.inputs frame g (first_context_name cs) (function_type (called a.call) cs) (function_answers (called a.call) cs)
    applied n = record {
      node = apply_node a;
      sound = told.sound;
      own = own_is;
      kind = rw told.kinds (kind_made (function_type (called a.call) cs));
      named = told.name;
      plain_type = plain_function (called a.call) (map cell_kind cs);
      each = many_answers (apply_plan a) a.inputs (map cell_kind cs) (function_type (called a.call) cs) (function_named (called a.call))
          (λ f row are same. subst (λ (ks : List Kind). IsAnswer (apply_plan a) f (function_kind (called a.call) ks) (function_named (called a.call) row)) same (apply_answer a f row are)) (group_frames frame g) (across (first_count cs) (map named_cells cs))
          (rows_across a.inputs frame g cs (first_count cs) n h);
    }

-- a function has units where its inputs have them
units_told : (f : FunctionExpr) (ts : Trees) (cs : List Context) → has_first_units cs ≡ is_unit_first ts → list_all (λ (c : Context). has_units c.layout) cs ≡ are_units ts → function_units f cs ≡ is_unit_call f (is_unit_first ts) (are_units ts)
units_told f ts cs h k = rw (h, k) refl

-- the context that a function makes is what it has on the groups
pub apply_made : (a : PlannedApply) (frame : Frame) (g : Groups) (cs : List Context) (c : Context) → AreContextsOf a.inputs frame g cs → grouped_function_refusals (called a.call) (plan_trees a.inputs) ≡ []
    → IsApplied (called a.call) cs c → KeepsGroups cs c → (is_row_function (called a.call) ≡ true → have_lanes cs ≡ true → has_lane c ≡ true) → IsContextOf (apply_plan a) frame g c
apply_made a frame g [] c h allowed m groups lane = absurd (cc (no_input (called a.call), m.kind_is))
apply_made a frame g (d ∷ ds) c h allowed m groups lane =
    let count = count_is a.inputs frame g d ds h in
    let all : AreTold a.inputs frame g (d ∷ ds) = told_of a.inputs frame g (d ∷ ds) h in
    made_context (apply_plan a) a.inputs frame g d.values.name (function_type (called a.call) (d ∷ ds)) (function_answers (called a.call) (d ∷ ds)) (function_units (called a.call) (d ∷ ds)) (length d.groups.groups) (d ∷ ds) c
    (applied a frame g (d ∷ ds) h allowed count) all.kept (units_told (called a.call) (plan_trees a.inputs) (d ∷ ds) all.first all.units) count m groups
    (λ t. lane (and_left (is_row_function (called a.call)) (are_flat_rows (plan_trees a.inputs)) t) (lanes_of a.inputs frame g (d ∷ ds) h (and_right (is_row_function (called a.call)) (are_flat_rows (plan_trees a.inputs)) t)))

-- and a refusal is a cause
pub apply_told : (e : PxError) (a : PlannedApply) (frame : Frame) (g : Groups) (cs : List Context) → AreContextsOf a.inputs frame g cs → grouped_function_refusals (called a.call) (plan_trees a.inputs) ≡ []
    → (function_type (called a.call) cs ≡ Err e) ⊎ IsRefusal e (function_answers (called a.call) cs) (counts_in (function_answers (called a.call) cs)) → IsGroupCause e (apply_plan a) frame g
apply_told e a frame g [] h allowed (inl t) = type_cause a frame g [] h allowed e t
apply_told e a frame g [] h allowed (inr (inl (inl m))) = subst (λ x. IsGroupCause x (apply_plan a) frame g) (sym m) tt
apply_told e a frame g [] h allowed (inr (inl (inr k))) = absurd k
apply_told e a frame g [] h allowed (inr (inr k)) = absurd (omega (arith, k.1))
apply_told e a frame g (d ∷ ds) h allowed w =
    let count = count_is a.inputs frame g d ds h in
    let answers = function_answers (called a.call) (d ∷ ds) in
    let all : Answers (apply_plan a) a.inputs frame g d.values.name (function_type (called a.call) (d ∷ ds)) answers = applied a frame g (d ∷ ds) h allowed count in
    made_group_cause e (apply_plan a) a.inputs frame g d.values.name (function_type (called a.call) (d ∷ ds)) answers (counts_in answers) all
    (answers_in_size (apply_plan a) a.inputs frame g d.values.name (function_type (called a.call) (d ∷ ds)) answers all) w

module _ (a : PlannedApply) (frame : Frame) (g : Groups) (cs : List Context) (h : AreContextsOf a.inputs frame g cs) (allowed : grouped_function_refusals (called a.call) (plan_trees a.inputs) ≡ []) where
  -- the context that a function makes
  pub apply_context : (r : Result Context PxError) → IfOk r (IsApplied (called a.call) cs) → IfOk r (KeepsGroups cs) → (is_row_function (called a.call) ≡ true → have_lanes cs ≡ true → IfOk r (λ c. has_lane c ≡ true)) → IfOk r (IsContextOf (apply_plan a) frame g)
  apply_context (Ok c) m groups lane = apply_made a frame g cs c h allowed m groups lane
  apply_context (Err e) m groups lane = tt

  -- why it makes none
  pub apply_refused : (r : Result Context PxError) → IfErr r (λ e. (function_type (called a.call) cs ≡ Err e) ⊎ IsRefusal e (function_answers (called a.call) cs) (counts_in (function_answers (called a.call) cs))) → IfErr r (λ e. IsGroupCause e (apply_plan a) frame g)
  apply_refused (Ok c) w = tt
  apply_refused (Err e) w = apply_told e a frame g cs h allowed w

-- a function of no input is refused for its types
no_input_refused : (f : FunctionExpr) → or_first [] (refused_where (is_one_input_missing f no_trees) (InvalidOperation Types) ++ grouped_function_refusals f no_trees ++ refusal_of (function_kind f [])) ≡ InvalidOperation Types ∷ []
no_input_refused IsNull = refl
no_input_refused _ = refl

-- and so is a node of a function without inputs
pub apply_none_refused : (a : PlannedApply) (frame : Frame) (g : Groups) → a.inputs ≡ [] → IsGroupCause (InvalidOperation Types) (apply_plan a) frame g
apply_none_refused a frame g none = own_group_cause (apply_plan a) a.inputs (apply_node a) (InvalidOperation Types) frame g (rw none refl) refl (rw none (no_input_refused (called a.call)))

-- where the inputs of a function are tested before its types, the first refusal is a cause
pub apply_tested : (e : PxError) (a : PlannedApply) (frame : Frame) (g : Groups) (cs : List Context) → AreContextsOf a.inputs frame g cs → or_first [] (input_refusals (called a.call) (plan_trees a.inputs)) ≡ e ∷ [] → IsGroupCause e (apply_plan a) frame g
apply_tested e a frame g cs h own =
    let why = by (called a.call) a.inputs own in
    own_cause a frame g cs h e why.0 why.1
  where
    plain : (b : Bool) (f : FunctionExpr) (ts : Trees) → or_first [] (refused_where b (InvalidOperation Types) ++ grouped_function_refusals f ts) ≡ e ∷ [] → is_plain e ≡ true
    plain true f ts k = let same : InvalidOperation Types ≡ e = cc in subst (λ x. is_plain x ≡ true) same refl
    plain false f ts k = plain_grouped f ts e k

    by : (f : FunctionExpr) (ps : List Planned) → or_first [] (input_refusals f (plan_trees ps)) ≡ e ∷ []
        → (is_plain e ≡ true) × (or_first [] (refused_where (is_one_input_missing f (plan_trees ps)) (InvalidOperation Types) ++ grouped_function_refusals f (plan_trees ps) ++ refusal_of_all (function_kind f) (kinds_in (plan_trees ps) (scope_of frame))) ≡ e ∷ [])
    by f [] k =
        let same : InvalidOperation Types ≡ e = cc in
        (subst (λ x. is_plain x ≡ true) same refl, no_input_refused f ∙ ap (λ x. x ∷ []) same)
    by f (p ∷ ps) k =
        (plain (is_one_input_missing f (plan_trees (p ∷ ps))) f (plan_trees (p ∷ ps)) k, first_front e (refused_where (is_one_input_missing f (plan_trees (p ∷ ps))) (InvalidOperation Types) ++ grouped_function_refusals f (plan_trees (p ∷ ps))) _ k)

-- inputs that pass that test may stand on groups
pub allowed_inputs : (f : FunctionExpr) (ts : Trees) → input_refusals f ts ≡ [] → grouped_function_refusals f ts ≡ []
allowed_inputs f no_trees h = absurd (cc h)
allowed_inputs f (one_tree t ts) h = none_right (refused_where (is_one_input_missing f (one_tree t ts)) (InvalidOperation Types)) (grouped_function_refusals f (one_tree t ts)) h

-- and there is at least one
pub some_inputs : (f : FunctionExpr) (ps : List Planned) (frame : Frame) (g : Groups) (cs : List Context) → AreContextsOf ps frame g cs → input_refusals f (plan_trees ps) ≡ [] → 0 < length cs
some_inputs f [] frame g cs h n = absurd (cc n)
some_inputs f (p ∷ ps) frame g [] h n = absurd h
some_inputs f (p ∷ ps) frame g (c ∷ cs) h n = omega arith

-- the same of some expressions that pass that test, whatever schema and field the node was told
abbrev pub function_of : List Planned → Call → PlannedApply
function_of ps call = record { inputs = ps; call = call; input_schema = []; output_field = record { name = []; kind = nulls } }

module _ (ps : List Planned) (call : Call) (frame : Frame) (g : Groups) (cs : List Context) (h : AreContextsOf ps frame g cs) (allowed : input_refusals (called call) (plan_trees ps) ≡ []) (r : Result Context PxError) where
  -- the context that a function makes
  pub function_context : IfOk r (IsApplied (called call) cs) → IfOk r (KeepsGroups cs) → (is_row_function (called call) ≡ true → have_lanes cs ≡ true → IfOk r (λ c. has_lane c ≡ true)) → IfOk r (IsContextOf (apply_plan (function_of ps call)) frame g)
  function_context made groups lane = apply_context (function_of ps call) frame g cs h (allowed_inputs (called call) (plan_trees ps) allowed) r made groups lane

  -- why it makes none
  pub function_refused : IfErr r (λ e. (function_type (called call) cs ≡ Err e) ⊎ IsRefusal e (function_answers (called call) cs) (counts_in (function_answers (called call) cs))) → IfErr r (λ e. IsGroupCause e (apply_plan (function_of ps call)) frame g)
  function_refused w = apply_refused (function_of ps call) frame g cs h (allowed_inputs (called call) (plan_trees ps) allowed) r w

-- what is one of the errors of several expressions is one of an expression's
in_any : (e : PxError) (h : Planned → List PxError) (ps : List Planned) → IsOneOf e (flat_map h ps) → (p : Planned) × (IsIn p ps × IsOneOf e (h p))
in_any e h [] k = absurd k
in_any e h (p ∷ ps) k = by (one_split e (h p) (flat_map h ps) k) (in_any e h ps)
  where
    by : IsOneOf e (h p) ⊎ IsOneOf e (flat_map h ps) → (IsOneOf e (flat_map h ps) → (q : Planned) × (IsIn q ps × IsOneOf e (h q))) → (q : Planned) × (IsIn q (p ∷ ps) × IsOneOf e (h q))
    by (inl j) rest = (p, (inl refl, j))
    by (inr j) rest = let found = rest j in (found.0, (inr found.1.0, found.1.1))

module _ (q : Planned) (ps : List Planned) (node : (f : Frame) → IsNode q ps f) where
  -- a cause of one of the inputs is a cause of the node
  pub any_group_cause_above : (e : PxError) (frame : Frame) (g : Groups) → IsGroupCauseOfAny e ps frame g → IsGroupCause e q frame g
  any_group_cause_above OutOfMemory frame g h = tt
  any_group_cause_above (ComputeError TooLong) frame g h = let size = (node frame).sizes (group_frames frame g) in omega (arith, h, size)
  any_group_cause_above e frame g h =
      let found = in_any e (λ (p : Planned). group_causes p frame g) ps h in
      group_cause_above q ps node e found.0 frame g found.1.0 found.1.1

-- a cause of the first expression is one of some
pub group_cause_of_first : (e : PxError) (p : Planned) (ps : List Planned) (frame : Frame) (g : Groups) → IsGroupCause e p frame g → IsGroupCauseOfAny e (p ∷ ps) frame g
group_cause_of_first OutOfMemory p ps frame g h = tt
group_cause_of_first (ComputeError TooLong) p ps frame g h = omega (arith, h)
group_cause_of_first e p ps frame g h = one_left e (group_causes p frame g) (flat_map (λ (q : Planned). group_causes q frame g) ps) h

-- and so is one of the others
pub group_cause_of_others : (e : PxError) (p : Planned) (ps : List Planned) (frame : Frame) (g : Groups) → IsGroupCauseOfAny e ps frame g → IsGroupCauseOfAny e (p ∷ ps) frame g
group_cause_of_others OutOfMemory p ps frame g h = tt
group_cause_of_others (ComputeError TooLong) p ps frame g h = omega (arith, h)
group_cause_of_others e p ps frame g h = one_right e (group_causes p frame g) (flat_map (λ (q : Planned). group_causes q frame g) ps) h

-- and that of any of them
pub group_cause_among : (e : PxError) (p : Planned) (ps : List Planned) (frame : Frame) (g : Groups) → IsIn p ps → IsGroupCause e p frame g → IsGroupCauseOfAny e ps frame g
group_cause_among e p [] frame g i h = absurd i
group_cause_among e p (q ∷ ps) frame g (inl s) h = group_cause_of_first e q ps frame g (subst (λ (x : Planned). IsGroupCause e x frame g) s h)
group_cause_among e p (q ∷ ps) frame g (inr i) h = group_cause_of_others e q ps frame g (group_cause_among e p ps frame g i h)

-- a cause of one of a function's inputs is the function's
pub apply_input_group_cause : (e : PxError) (a : PlannedApply) (frame : Frame) (g : Groups) → IsGroupCauseOfAny e a.inputs frame g → IsGroupCause e (apply_plan a) frame g
apply_input_group_cause e a frame g = any_group_cause_above (apply_plan a) a.inputs (apply_node a) e frame g

-- a type behind a test of keys
keys_own : (lists : Bool) (k : Kind) → or_first [] (refused_where lists (InvalidOperation ListKey)) ≡ refusal_of (cond lists (Err (InvalidOperation ListKey)) (Ok k))
keys_own true k = refl
keys_own false k = refl

keys_kind : (lists : Bool) (k : Kind) (o : Option Kind) → o ≡ Some k → IfOk (cond lists (Err (InvalidOperation ListKey)) (Ok k)) (λ j. o ≡ Some j)
keys_kind true k o h = tt
keys_kind false k o h = h

keys_plain : (lists : Bool) (k : Kind) → Plain (cond lists (Err (InvalidOperation ListKey)) (Ok k))
keys_plain true k = refl
keys_plain false k = tt

module _ (s : PlannedSortBy) (frame : Frame) (g : Groups) (c : Context) (by : List Context) (h : AreContextsOf (s.input ∷ s.by) frame g (c ∷ by)) where
  input : IsContextOf s.input frame g c
  input = h.0

  keys : AreTold s.by frame g by
  keys = told_of s.by frame g by h.1

  all : AreTold (s.input ∷ s.by) frame g (c ∷ by)
  all = told_of (s.input ∷ s.by) frame g (c ∷ by) h

  -- one value in each group has no order
  pub sort_by_own_refused : (e : PxError) → or_first [] (scalar_refusal s.input.tree) ≡ e ∷ [] → IsGroupCause e (sort_by_plan s) frame g
  sort_by_own_refused e own = own_group_cause (sort_by_plan s) (s.input ∷ s.by) (sort_by_node s) e frame g all.sound (plain_scalar s.input.tree e own) (first_front e (scalar_refusal s.input.tree) _ own)

  module _ (allowed : scalar_refusal s.input.tree ≡ []) where
    row_sorted : (f : Frame) (row : List NamedCell) → AreCellsOf (s.input ∷ s.by) f row → kinds_of row ≡ cell_kind c ∷ map cell_kind by → IsAnswer (sort_by_plan s) f (sort_by_kind c by) (sort_first s.sort_options row)
    row_sorted f [] are same = absurd are
    row_sorted f (x ∷ xs) are same =
        let head : x.kind ≡ cell_kind c = cc in
        let rest : kinds_of xs ≡ map cell_kind by = cc in
        subst (λ (ks : List Kind). IsAnswer (sort_by_plan s) f (cond (list_any is_list_kind ks) (Err (InvalidOperation ListKey)) (Ok (cell_kind c))) (sort_first s.sort_options (x ∷ xs))) rest
        (subst (λ (k : Kind). IsAnswer (sort_by_plan s) f (cond (list_any is_list_kind (kinds_of xs)) (Err (InvalidOperation ListKey)) (Ok k)) (sort_first s.sort_options (x ∷ xs))) head (sort_by_answer s f x xs are.0 are.1))

    sorted : Answers (sort_by_plan s) (s.input ∷ s.by) frame g c.values.name (sort_by_kind c by) (sort_by_answers s.sort_options c by)
    sorted = record {
      node = sort_by_node s;
      sound = all.sound;
      own = rw (allowed, keys.kinds) (keys_own (list_any is_list_kind (map cell_kind by)) (cell_kind c));
      kind = keys_kind (list_any is_list_kind (map cell_kind by)) (cell_kind c) (kind_in s.input.tree (scope_of frame)) input.kind;
      named = input.name;
      plain_type = keys_plain (list_any is_list_kind (map cell_kind by)) (cell_kind c);
      each = many_answers (sort_by_plan s) (s.input ∷ s.by) (cell_kind c ∷ map cell_kind by) (sort_by_kind c by) (sort_first s.sort_options) row_sorted (group_frames frame g) (across (length c.groups.groups) (map named_cells (c ∷ by)))
          (rows_across (s.input ∷ s.by) frame g (c ∷ by) (length c.groups.groups) input.count h);
    }

    -- the context of rows in the order of others
    pub sort_by_context : (r : Result Context PxError) → IfOk r (IsSortedBy s.sort_options c by) → IfOk r (KeepsGroups (c ∷ by)) → IfOk r (IsContextOf (sort_by_plan s) frame g)
    sort_by_context (Ok m) made groups =
        made_context (sort_by_plan s) (s.input ∷ s.by) frame g c.values.name (sort_by_kind c by) (sort_by_answers s.sort_options c by) false (length c.groups.groups) (c ∷ by) m sorted all.kept refl input.count made groups (λ t. absurd (cc t))
    sort_by_context (Err e) made groups = tt

    -- why there is none
    pub sort_by_refused : (r : Result Context PxError) → IfErr r (λ e. (sort_by_kind c by ≡ Err e) ⊎ IsRefusal e (sort_by_answers s.sort_options c by) (counts_in (sort_by_answers s.sort_options c by))) → IfErr r (λ e. IsGroupCause e (sort_by_plan s) frame g)
    sort_by_refused (Ok m) w = tt
    sort_by_refused (Err e) w =
        made_group_cause e (sort_by_plan s) (s.input ∷ s.by) frame g c.values.name (sort_by_kind c by) (sort_by_answers s.sort_options c by) (counts_in (sort_by_answers s.sort_options c by)) sorted
        (answers_in_size (sort_by_plan s) (s.input ∷ s.by) frame g c.values.name (sort_by_kind c by) (sort_by_answers s.sort_options c by) sorted) w

-- the same over an expression, its keys and their contexts
module _ (p : Planned) (ps : List Planned) (o : SortMultipleOptions) (frame : Frame) (g : Groups) (c : Context) (by : List Context) (i : IsContextOf p frame g c) (h : AreContextsOf ps frame g by) where
  -- what is refused before the types
  pub keyed_own_refused : (e : PxError) → or_first [] (scalar_refusal p.tree) ≡ e ∷ [] → IsGroupCause e (sort_by_plan (record { input = p; by = ps; sort_options = o })) frame g
  keyed_own_refused e own = sort_by_own_refused (record { input = p; by = ps; sort_options = o }) frame g c by (i, h) e own

  -- the context that is made
  pub keyed_context : (r : Result Context PxError) → scalar_refusal p.tree ≡ [] → IfOk r (IsSortedBy o c by) → IfOk r (KeepsGroups (c ∷ by)) → IfOk r (IsContextOf (sort_by_plan (record { input = p; by = ps; sort_options = o })) frame g)
  keyed_context r allowed made groups = sort_by_context (record { input = p; by = ps; sort_options = o }) frame g c by (i, h) allowed r made groups

  -- why there is none
  pub keyed_refused : (r : Result Context PxError) → scalar_refusal p.tree ≡ [] → IfErr r (λ e. (sort_by_kind c by ≡ Err e) ⊎ IsRefusal e (sort_by_answers o c by) (counts_in (sort_by_answers o c by))) → IfErr r (λ e. IsGroupCause e (sort_by_plan (record { input = p; by = ps; sort_options = o })) frame g)
  keyed_refused r allowed w = sort_by_refused (record { input = p; by = ps; sort_options = o }) frame g c by (i, h) allowed r w

-- a cause of the rows is the sort's
pub sort_by_input_group_cause : (e : PxError) (s : PlannedSortBy) (frame : Frame) (g : Groups) → IsGroupCause e s.input frame g → IsGroupCause e (sort_by_plan s) frame g
sort_by_input_group_cause e s frame g h = group_cause_above (sort_by_plan s) (s.input ∷ s.by) (sort_by_node s) e s.input frame g (inl refl) h

-- and so is that of a key
pub sort_by_key_group_cause : (e : PxError) (s : PlannedSortBy) (frame : Frame) (g : Groups) → IsGroupCauseOfAny e s.by frame g → IsGroupCause e (sort_by_plan s) frame g
sort_by_key_group_cause e s frame g h = any_group_cause_above (sort_by_plan s) (s.input ∷ s.by) (sort_by_node s) e frame g (group_cause_of_others e s.input s.by frame g h)

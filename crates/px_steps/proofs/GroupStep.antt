-- A group step's keys and columns: what they are, and what the step answers.
use Rattle.std.proofs.Common.{◌≡◌, ◌⊎◌, inl, inr, ℕ, zero, suc, ◌<◌, ◌^◌, ◌==◌, Bool, true, false, not, ◌&&◌, List, [], ◌∷◌, ◌++◌, Option, Some, None, Result, Ok, Err, length, option_map, option_and_then, map, refl, sym, ◌∙◌, ap, subst, arith, append_assoc, replicate, if◌then◌else◌}
use Rattle.std.specs.Prelude.{IfOk}
use Rattle.std.specs.List.{flat_map, list_all, list_any}
use Rattle.std.specs.Option.{option_map_or}
use Rattle.std.specs.Result.{result_ok}
use Rattle.std.proofs.lemmas.Bool.Decides.{nat_tests}
use Rattle.px_column.specs.Prelude.{Answers, Slot, Kind, is_list_kind, Series}
use Rattle.px_column.specs.Option.{each}
use Rattle.px_value.specs.declared.error.PxError.{PxError}
use Rattle.px_value.specs.declared.error.PxError.TheVariants.{Duplicate, InvalidOperation, ComputeError, ShapeMismatch, OutOfMemory}
use Rattle.px_value.specs.declared.error.InvalidWhy.TheVariants.{ListKey}
use Rattle.px_value.specs.declared.error.ComputeWhy.TheVariants.{NoKey}
use Rattle.px_answers.specs.Planned.{Planned}
use Rattle.px_answers.specs.Value.{IsCause, IsOneOf}
use Rattle.px_frame.specs.Aggregate.{key_column}
use Rattle.px_frame.specs.Cell.{Cell, unit, rows}
use Rattle.px_frame.specs.External.{Frame, height, rows_of_frame, scope_of}
use Rattle.px_frame.specs.Frame.{all_have_height, first_repeat, frame_of, has_height, height_of, is_even, names_of, name_eq, unless_repeated}
use Rattle.px_frame.specs.Groups.{Groups, groups_by, rows_of}
use Rattle.px_frame.specs.Parts.{parts_of}
use Rattle.px_frame.specs.Spread.{NamedCell, spread, spread_column, with_slots}
use Rattle.px_tree.specs.Shape.{name_of}
use Rattle.px_tree.specs.Size.{size_on}
use Rattle.px_tree.specs.Tree.{Tree}
use Rattle.px_tree.specs.View.{tree}
use Rattle.px_tree.specs.declared.expr.Expr.{Expr}
use Rattle.px_tree.specs.Typing.{Scope, fails, kind_in, not_list, refusals_of, refused_where}
use Rattle.px_tree.specs.Value.{faults_on, value_on}
use Rattle.px_tree.specs.declared.context.Context.TheVariants.{Aggregation, Default}
use Rattle.px_steps.specs.Finds.{is_key}
use Rattle.px_steps.specs.Causes.{IsStepCause, StepAnswers}
use Rattle.px_steps.specs.Finds.{Finds, IsAccepted, Lacks, agg_faults, key_faults, misfit_fault, part_faults, part_frames, repeat_beside, typed_group_refusals, typed_key_refusals}
use Rattle.px_document.specs.Form.{with_front}
use Rattle.px_steps.specs.Meets.{IsFirst, unless_refused}
use Rattle.px_steps.specs.Plain.{agg_refusals, columns_on, first_of, frame_refusals, frames_by, greatest, height_fault, key_refusals, no_key_refusal, refused_by, repeat_refusal, step_faults, step_refusals, group_frames, misfit_faults, with_columns}
use Rattle.px_tree.specs.Grouped.{aggregated_on, grouped_kind, key_on, key_values, named_value, value_on_part}
use Rattle.px_tree.specs.Step.{group}
use Rattle.px_steps.proofs.Columns.{all_true, and_then_some, heights_of_keys, keys_of_groups, names_of_keys, rows_of_groups}
use Rattle.px_frame.proofs.LookLaws.{has_length}
use Rattle.px_frame.proofs.LookLaws.{even_from}
use Rattle.px_value.proofs.Refusing.{no_refusal, refuses_or}
use Rattle.px_steps.proofs.Grouping.{accepted_lacks, value_there}
use Rattle.px_steps.proofs.Selected.{name_kept, once_none, refusal_cause}
use Rattle.px_steps.proofs.Misfits.{faults_apart, faults_sound, misfit_aggs, misfit_keys, no_misfits, no_misfits_both, one_apart, one_left, one_right}
use Rattle.px_steps.proofs.Named.{IsFirst_append, refuses_none}
use Rattle.px_tree.proofs.KindLaws.{none_left as nil_left, none_right as nil_right}
use Rattle.std.proofs.lemmas.List.{append-nil as append_nil, map-append as map_append}
use Rattle.px_value.proofs.EachLaws.{each_maps}
use Rattle.px_value.proofs.FitLaws.{all_append}
use Rattle.std.proofs.lemmas.List.Folds.{flat_map-map}

-- a name of some more that stands twice
pub repeat_more : (seen first more : List (List ℕ)) → first_repeat seen first ≡ None → first_repeat seen (first ++ more) ≡ first_repeat (seen ++ first) more
repeat_more seen [] more h = ap (λ ns. first_repeat ns more) (sym (append_nil seen))
repeat_more seen (n ∷ ns) more h = by (list_any (name_eq n) seen) (repeat_more (seen ++ n ∷ []) ns more) h
  where
    by : (b : Bool) → (first_repeat (seen ++ n ∷ []) ns ≡ None → first_repeat (seen ++ n ∷ []) (ns ++ more) ≡ first_repeat ((seen ++ n ∷ []) ++ ns) more)
        → (if b then Some n else first_repeat (seen ++ n ∷ []) ns) ≡ None
        → (if b then Some n else first_repeat (seen ++ n ∷ []) (ns ++ more)) ≡ first_repeat (seen ++ n ∷ ns) more
    by true rest h = cc
    by false rest h = rest h ∙ ap (λ ms. first_repeat ms more) (append_assoc seen (n ∷ []) ns)

pub repeat_stays : (seen first more : List (List ℕ)) (n : List ℕ) → first_repeat seen first ≡ Some n → first_repeat seen (first ++ more) ≡ Some n
repeat_stays seen [] more n h = cc
repeat_stays seen (m ∷ ms) more n h = by (list_any (name_eq m) seen) (repeat_stays (seen ++ m ∷ []) ms more n) h
  where
    by : (b : Bool) → (first_repeat (seen ++ m ∷ []) ms ≡ Some n → first_repeat (seen ++ m ∷ []) (ms ++ more) ≡ Some n)
        → (if b then Some m else first_repeat (seen ++ m ∷ []) ms) ≡ Some n → (if b then Some m else first_repeat (seen ++ m ∷ []) (ms ++ more)) ≡ Some n
    by true rest h = h
    by false rest h = rest h

-- the names that stand twice among keys and then aggregations
pub repeat_both : (keys aggs : List Tree) → repeat_beside [] keys ≡ [] → repeat_refusal (keys ++ aggs) ≡ repeat_beside (map name_of keys) aggs
repeat_both keys aggs h =
    ap (λ ns. option_map_or (λ n. Duplicate n ∷ []) (first_repeat [] ns) []) (map_append name_of keys aggs)
    ∙ ap (λ o. option_map_or (λ n. Duplicate n ∷ []) o []) (repeat_more [] (map name_of keys) (map name_of aggs) (once_none (first_repeat [] (map name_of keys)) h))

-- a name that stands twice among the keys stands so among all
pub repeat_keys : (e : PxError) (keys aggs : List Tree) → IsFirst e (repeat_beside [] keys) → IsFirst e (repeat_refusal (keys ++ aggs))
repeat_keys e keys aggs h = by (first_repeat [] (map name_of keys)) refl h
  where
    by : (o : Option (List ℕ)) → first_repeat [] (map name_of keys) ≡ o → IsFirst e (option_map_or (λ n. Duplicate n ∷ []) o []) → IsFirst e (repeat_refusal (keys ++ aggs))
    by None q f = refuses_none e tt (repeat_refusal (keys ++ aggs)) f
    by (Some n) q f =
        let same : first_repeat [] (map name_of (keys ++ aggs)) ≡ Some n = ap (first_repeat []) (map_append name_of keys aggs) ∙ repeat_stays [] (map name_of keys) (map name_of aggs) n q in
        subst (λ (o : Option (List ℕ)). IsFirst e (option_map_or (λ m. Duplicate m ∷ []) o [])) (sym same) f

-- the length of what is made of each
each_length : {A B : Type 0} (f : A → Option B) (xs : List A) (ys : List B) → each f xs ≡ Some ys → length ys ≡ length xs
each_length f [] ys h = let none : ys ≡ [] = cc in ap length none
each_length {A} {B} f (x ∷ xs) ys h = by (f x) (each f xs) (each_length f xs) h
  where
    by : (o : Option B) (rest : Option (List B)) → ((zs : List B) → rest ≡ Some zs → length zs ≡ length xs) → option_and_then (λ y. option_map (λ zs. y ∷ zs) rest) o ≡ Some ys → length ys ≡ length (x ∷ xs)
    by None rest more h = cc
    by (Some y) None more h = cc
    by (Some y) (Some zs) more h = let same : y ∷ zs ≡ ys = cc in ap length (sym same) ∙ ap (λ n. suc n) (more zs refl)

replicated : (n : ℕ) (s : Slot) → length (replicate n s) ≡ n
replicated zero s = refl
replicated (suc n) s = ap (λ m. suc m) (replicated n s)

-- a cell brought to a height keeps its name and type, and has that height
pub spread_made : (n : ℕ) (c : NamedCell) (s : Series) → result_ok (spread_column n c) ≡ Some s → (s.name ≡ c.name) × (s.kind ≡ c.kind) × (length s.slots ≡ n)
spread_made n c s h = by c.cell h
  where
    same : (xs : List Slot) → length xs ≡ n → Some (record { name = c.name; kind = c.kind; slots = xs }) ≡ Some s → (s.name ≡ c.name) × (s.kind ≡ c.kind) × (length s.slots ≡ n)
    same xs l e = let is : record { name = c.name; kind = c.kind; slots = xs } ≡ s = cc in (ap (λ (x : Series). x.name) (sym is), ap (λ (x : Series). x.kind) (sym is), ap (λ (x : Series). length x.slots) (sym is) ∙ l)

    listed : (xs : List Slot) (b : Bool) → (length xs == n) ≡ b → result_ok (with_slots c (if b then Ok xs else Err ShapeMismatch)) ≡ Some s → (s.name ≡ c.name) × (s.kind ≡ c.kind) × (length s.slots ≡ n)
    listed xs true q e = same xs (grind (arith, nat_tests)) e
    listed xs false q e = cc

    by : (v : Cell) → result_ok (with_slots c (spread n v)) ≡ Some s → (s.name ≡ c.name) × (s.kind ≡ c.kind) × (length s.slots ≡ n)
    by (unit x) e = same (replicate n x) (replicated n x) e
    by (rows xs) e = listed xs (length xs == n) refl e

-- a key's column has the key's name
key_name : (frame : Frame) (t : Tree) (s : Series) → key_on frame t ≡ Some s → s.name ≡ name_of t
key_name frame t s h =
    let first = and_then_some (named_value frame t) (λ c. result_ok (spread_column (height frame) c)) s h in
    (spread_made (height frame) first.0 s first.2).0 ∙ name_kept frame t first.0 first.1

pub key_names : (frame : Frame) (ts : List Tree) (by : List Series) → each (key_on frame) ts ≡ Some by → names_of by ≡ map name_of ts
key_names frame ts by h = each_maps (key_on frame) (λ s. s.name) name_of (key_name frame) ts by h

no_list_refusal : (k : Kind) (o : Option Kind) (e : PxError) → o ≡ Some k → refused_where (fails not_list o) e ≡ [] → is_list_kind k ≡ false
no_list_refusal k None e q h = cc
no_list_refusal k (Some j) e q h = let same : j ≡ k = cc in ap is_list_kind (sym same) ∙ by (is_list_kind j) h
  where
    by : (b : Bool) → refused_where (not (not b)) e ≡ [] → b ≡ false
    by true h = cc
    by false h = refl

-- a key that is not refused groups the frame
key_fits : (frame : Frame) (t : Tree) (s : Series) → key_refusals frame t ≡ [] → key_on frame t ≡ Some s → is_key frame.columns s ≡ true
key_fits frame t s n h =
    let first = and_then_some (named_value frame t) (λ c. result_ok (spread_column (height frame) c)) s h in
    let made = spread_made (height frame) first.0 s first.2 in
    let there = value_there frame t first.0 first.1 in
    let plain : is_list_kind s.kind ≡ false
    = ap is_list_kind made.1 ∙ no_list_refusal first.0.kind (kind_in t (scope_of frame)) (InvalidOperation ListKey) there.1 (nil_right (refusals_of t (scope_of frame) Default) _ n) in
    λ i. not (plain i) && has_length (height frame) s made.2 i

pub keys_fit : (frame : Frame) (ts : List Tree) (by : List Series) → flat_map (key_refusals frame) ts ≡ [] → each (key_on frame) ts ≡ Some by → list_all (is_key frame.columns) by ≡ true
keys_fit frame [] by n h = let none : by ≡ [] = cc in ap (list_all (is_key frame.columns)) none
keys_fit frame (t ∷ ts) by n h =
    let rest = nil_right (key_refusals frame t) (flat_map (key_refusals frame) ts) n in
    made (key_on frame t) refl (each (key_on frame) ts) (λ ss. keys_fit frame ts ss rest) h
  where
    made : (o : Option Series) → key_on frame t ≡ o → (rest : Option (List Series)) → ((ss : List Series) → rest ≡ Some ss → list_all (is_key frame.columns) ss ≡ true) → option_and_then (λ y. option_map (λ zs. y ∷ zs) rest) o ≡ Some by → list_all (is_key frame.columns) by ≡ true
    made None p rest fit e = cc
    made (Some s) p None fit e = cc
    made (Some s) p (Some ss) fit e =
        let same : s ∷ ss ≡ by = cc in
        ap (list_all (is_key frame.columns)) (sym same) ∙ (λ i. key_fits frame t s (nil_left (key_refusals frame t) (flat_map (key_refusals frame) ts) n) p i && fit ss refl i)

-- an aggregation's column has its name, and a row for each part
aggregated_seen : (frame : Frame) (ps : List (List ℕ)) (t : Tree) (c : Series) → aggregated_on frame ps t ≡ Some c → (c.name ≡ name_of t) × (length c.slots ≡ length ps)
aggregated_seen frame ps t c h = by (kind_in t (scope_of frame)) (each (value_on_part frame t) ps) refl h
  where
    by : (k : Option Kind) (vs : Option (List Slot)) → each (value_on_part frame t) ps ≡ vs → option_and_then (λ k. option_and_then (λ xs. Some (record { name = name_of t; kind = grouped_kind t k; slots = xs })) vs) k ≡ Some c
        → (c.name ≡ name_of t) × (length c.slots ≡ length ps)
    by None vs q e = cc
    by (Some k) None q e = cc
    by (Some k) (Some xs) q e =
        let same : record { name = name_of t; kind = grouped_kind t k; slots = xs } ≡ c = cc in
        (ap (λ (x : Series). x.name) (sym same), ap (λ (x : Series). length x.slots) (sym same) ∙ each_length (value_on_part frame t) ps xs q)

columns_apart : (frame : Frame) (ts : List Tree) (by columns : List Series) → columns_on frame ts by ≡ Some columns
    → (made : List Series) × (each (aggregated_on frame (parts_of by (height frame))) ts ≡ Some made) × (map (key_values (parts_of by (height frame))) by ++ made ≡ columns)
columns_apart frame ts by columns h =
    let first = and_then_some (each (aggregated_on frame (parts_of by (height frame))) ts) (λ made. Some (map (key_values (parts_of by (height frame))) by ++ made)) columns h in
    let last = first.2 in
    let same : map (key_values (parts_of by (height frame))) by ++ first.0 ≡ columns = cc in
    (first.0, first.1, same)

pub names_made : (frame : Frame) (ts : List Tree) (by columns : List Series) → columns_on frame ts by ≡ Some columns → names_of columns ≡ names_of by ++ map name_of ts
names_made frame ts by columns h =
    let ps = parts_of by (height frame) in
    let made = columns_apart frame ts by columns h in
    ap names_of (sym made.2) ∙ map_append (λ s. s.name) (map (key_values ps) by) made.0
    ∙ (λ i. names_of_keys ps by i ++ each_maps (aggregated_on frame ps) (λ s. s.name) name_of (λ t c e. (aggregated_seen frame ps t c e).0) ts made.0 made.1 i)

pub even_made : (frame : Frame) (ts : List Tree) (by columns : List Series) → columns_on frame ts by ≡ Some columns → is_even columns ≡ true
even_made frame ts by columns h =
    let ps = parts_of by (height frame) in
    let made = columns_apart frame ts by columns h in
    let values = all_true (has_height (length ps)) ts made.0 (each_maps (aggregated_on frame ps) (has_height (length ps)) (λ _. true) (λ t c e. has_length (length ps) c (aggregated_seen frame ps t c e).1) ts made.0 made.1) in
    even_from (length ps) columns (ap (all_have_height (length ps)) (sym made.2) ∙ all_append (has_height (length ps)) (map (key_values ps) by) made.0 (heights_of_keys ps by) values)

-- the columns whose names are distinct make a frame
pub frame_made : (frame : Frame) (ts : List Tree) (by columns : List Series) → columns_on frame ts by ≡ Some columns → first_repeat [] (names_of by ++ map name_of ts) ≡ None → frame_of columns ≡ Ok columns
frame_made frame ts by columns h once =
    ap (λ t. unless_repeated t (if is_even columns then Ok columns else Err ShapeMismatch)) (ap (first_repeat []) (names_made frame ts by columns h) ∙ once)
    ∙ ap (λ (t : Bool). if t then Ok columns else Err ShapeMismatch) (even_made frame ts by columns h)

front_made : (front : List Series) (o : Option (List Series)) (new : List Series) → with_front front o ≡ Some new → option_and_then (λ made. Some (front ++ made)) o ≡ Some new
front_made front None new h = cc
front_made front (Some made) new h = h

-- what the kernels made for the groups is what the definition says of the parts
pub columns_found : (frame : Frame) (ts : List Tree) (by : List Series) (g : Groups) (keys new : List Series) → g ≡ groups_by by (height frame) → keys ≡ map (key_column g.groups) by
    → with_front keys (each (aggregated_on frame (rows_of g)) ts) ≡ Some new → columns_on frame ts by ≡ Some new
columns_found frame ts by g keys new e k h =
    let ps = parts_of by (height frame) in
    let rows : rows_of g ≡ ps = ap rows_of e ∙ rows_of_groups ps in
    let values : keys ≡ map (key_values ps) by = k ∙ ap (λ (x : Groups). map (key_column x.groups) by) e ∙ keys_of_groups ps by in
    front_made (map (key_values ps) by) (each (aggregated_on frame ps) ts) new (sym (λ i. with_front (values i) (each (aggregated_on frame (rows i)) ts)) ∙ h)

-- the frames of the parts
flat_map-same : {A C : Type 0} (f g : A → List C) (xs : List A) → ((x : A) → f x ≡ g x) → flat_map f xs ≡ flat_map g xs
flat_map-same f g [] h = refl
flat_map-same f g (x ∷ xs) h = λ i. h x i ++ flat_map-same f g xs h i

parts_same : (frame : Frame) (ps : List (List ℕ)) (ts : List Tree) → flat_map (λ e. flat_map (faults_on e) (map (rows_of_frame frame) ps)) ts ≡ flat_map (part_faults frame ps) ts
parts_same frame ps ts = flat_map-same _ (part_faults frame ps) ts (λ e. flat_map-map (faults_on e) (rows_of_frame frame) ps)

-- the faults of an expression's value and of its height
abbrev spread_faults : Frame → Tree → List PxError
spread_faults frame e = faults_on e frame ++ height_fault frame (value_on e frame)

-- the faults of keys, each value's before each height's
keys_sound : (frame : Frame) (ts : List Tree) → flat_map (spread_faults frame) ts ≡ [] → (flat_map (λ e. faults_on e frame) ts ≡ []) × (flat_map (λ e. height_fault frame (value_on e frame)) ts ≡ [])
keys_sound frame [] h = (refl, refl)
keys_sound frame (t ∷ ts) h =
    let own = nil_left (spread_faults frame t) (flat_map (spread_faults frame) ts) h in
    let rest = keys_sound frame ts (nil_right (spread_faults frame t) (flat_map (spread_faults frame) ts) h) in
    let values = nil_left (faults_on t frame) (height_fault frame (value_on t frame)) own in
    let heights = nil_right (faults_on t frame) (height_fault frame (value_on t frame)) own in
    (λ i. values i ++ rest.0 i, λ i. heights i ++ rest.1 i)

key_fault_apart : (e : PxError) (frame : Frame) (ts : List Tree) → IsOneOf e (flat_map (spread_faults frame) ts)
    → IsOneOf e (flat_map (λ t. faults_on t frame) ts) ⊎ IsOneOf e (flat_map (λ t. height_fault frame (value_on t frame)) ts)
key_fault_apart e frame [] h = absurd h
key_fault_apart e frame (t ∷ ts) h = by (one_apart e (spread_faults frame t) (flat_map (spread_faults frame) ts) h) (key_fault_apart e frame ts)
  where
    own : IsOneOf e (faults_on t frame) ⊎ IsOneOf e (height_fault frame (value_on t frame)) → IsOneOf e (flat_map (λ t. faults_on t frame) (t ∷ ts)) ⊎ IsOneOf e (flat_map (λ t. height_fault frame (value_on t frame)) (t ∷ ts))
    own (inl o) = inl (one_left e (faults_on t frame) (flat_map (λ t. faults_on t frame) ts) o)
    own (inr o) = inr (one_left e (height_fault frame (value_on t frame)) (flat_map (λ t. height_fault frame (value_on t frame)) ts) o)

    rest : IsOneOf e (flat_map (λ t. faults_on t frame) ts) ⊎ IsOneOf e (flat_map (λ t. height_fault frame (value_on t frame)) ts) → IsOneOf e (flat_map (λ t. faults_on t frame) (t ∷ ts)) ⊎ IsOneOf e (flat_map (λ t. height_fault frame (value_on t frame)) (t ∷ ts))
    rest (inl o) = inl (one_right e (faults_on t frame) (flat_map (λ t. faults_on t frame) ts) o)
    rest (inr o) = inr (one_right e (height_fault frame (value_on t frame)) (flat_map (λ t. height_fault frame (value_on t frame)) ts) o)

    by : IsOneOf e (spread_faults frame t) ⊎ IsOneOf e (flat_map (spread_faults frame) ts)
        → (IsOneOf e (flat_map (spread_faults frame) ts) → IsOneOf e (flat_map (λ t. faults_on t frame) ts) ⊎ IsOneOf e (flat_map (λ t. height_fault frame (value_on t frame)) ts))
        → IsOneOf e (flat_map (λ t. faults_on t frame) (t ∷ ts)) ⊎ IsOneOf e (flat_map (λ t. height_fault frame (value_on t frame)) (t ∷ ts))
    by (inl o) more = own (one_apart e (faults_on t frame) (height_fault frame (value_on t frame)) o)
    by (inr o) more = rest (more o)

-- a group step that is not refused
module _ (frame : Frame) (keys aggs : List Tree) (none : step_refusals (group keys aggs None) frame ≡ []) where
  accepted : first_of (step_refusals (group keys aggs None) frame) ≡ None
  accepted = ap first_of none

  fault_told : (e : PxError) → IsOneOf e (step_faults (group keys aggs None) frame) → (e ≡ OutOfMemory) ⊎ IsStepCause e (group keys aggs None) frame
  fault_told e o = inr (inr (accepted, inl o))

  abbrev key_values_faults : List PxError
  key_values_faults = flat_map (λ t. faults_on t frame) keys

  abbrev key_height_faults : List PxError
  key_height_faults = flat_map (λ t. height_fault frame (value_on t frame)) keys

  abbrev part_value_faults : List PxError
  part_value_faults = flat_map (λ t. flat_map (faults_on t) (frames_by frame keys)) aggs

  abbrev before_misfits : List PxError
  before_misfits = (key_values_faults ++ key_height_faults) ++ part_value_faults

  misfit_told : (e : PxError) → IsOneOf e (misfit_faults frame (keys ++ aggs)) → (e ≡ OutOfMemory) ⊎ IsStepCause e (group keys aggs None) frame
  misfit_told e o = fault_told e (one_right e before_misfits (misfit_faults frame (keys ++ aggs)) o)

  -- why its keys have no columns
  pub key_cause : (e : PxError) → Lacks e (flat_map (key_faults frame) keys) (greatest (map (λ t. size_on t (frame ∷ [])) keys)) → (e ≡ OutOfMemory) ⊎ IsStepCause e (group keys aggs None) frame
  key_cause e (inl m) = inl m
  key_cause e (inr (inr l)) = inr (inr (accepted, inr (l.0, omega (arith, l.1))))
  key_cause e (inr (inl o)) = told (faults_apart frame (spread_faults frame) e keys o)
    where
      by : IsOneOf e key_values_faults ⊎ IsOneOf e key_height_faults → (e ≡ OutOfMemory) ⊎ IsStepCause e (group keys aggs None) frame
      by (inl v) = fault_told e (one_left e before_misfits _ (one_left e (key_values_faults ++ key_height_faults) part_value_faults (one_left e key_values_faults key_height_faults v)))
      by (inr h) = fault_told e (one_left e before_misfits _ (one_left e (key_values_faults ++ key_height_faults) part_value_faults (one_right e key_values_faults key_height_faults h)))

      told : IsOneOf e (flat_map (spread_faults frame) keys) ⊎ IsOneOf e (misfit_faults frame keys) → (e ≡ OutOfMemory) ⊎ IsStepCause e (group keys aggs None) frame
      told (inl v) = by (key_fault_apart e frame keys v)
      told (inr m) = misfit_told e (misfit_keys frame e keys aggs m)

  -- what it answers, where its keys have columns
  module _ (by : List Series) (made : each (key_on frame) keys ≡ Some by) where
    frames : frames_by frame keys ≡ part_frames frame (parts_of by (height frame))
    frames = ap (group_frames frame) made

    on_parts : flat_map (λ t. flat_map (faults_on t) (frames_by frame keys)) aggs ≡ flat_map (part_faults frame (parts_of by (height frame))) aggs
    on_parts = ap (λ (fs : List Frame). flat_map (λ t. flat_map (faults_on t) fs) aggs) frames ∙ parts_same frame (parts_of by (height frame)) aggs

    agg_told : (e : PxError) → IsOneOf e (flat_map (part_faults frame (parts_of by (height frame))) aggs) ⊎ IsOneOf e (misfit_faults frame aggs) → (e ≡ OutOfMemory) ⊎ IsStepCause e (group keys aggs None) frame
    agg_told e (inl o) = fault_told e (one_left e before_misfits _ (one_right e (key_values_faults ++ key_height_faults) part_value_faults (subst (IsOneOf e) (sym on_parts) o)))
    agg_told e (inr m) = misfit_told e (misfit_aggs frame e keys aggs m)

    pub group_answer : (r : Result (List Series) PxError) → flat_map (key_faults frame) keys ≡ []
        → Finds r (columns_on frame aggs by) (flat_map (agg_faults frame (parts_of by (height frame))) aggs) (greatest (map (λ t. size_on t (part_frames frame (parts_of by (height frame)))) aggs))
        → IfOk r (λ f. height_of f < 2 ^ 32) → StepAnswers r (group keys aggs None) frame
    group_answer (Ok f) sound h short =
        let ks = faults_sound frame (spread_faults frame) keys sound in
        let k = keys_sound frame keys ks.0 in
        let a = faults_sound frame (part_faults frame (parts_of by (height frame))) aggs h.0 in
        let fits = no_misfits_both frame keys aggs (no_misfits frame keys ks.1) (no_misfits frame aggs a.1) in
        record {
          accepted = accepted;
          sound = λ i. ((k.0 i ++ k.1 i) ++ (on_parts ∙ a.0) i) ++ fits i;
          made = ap (λ o. option_map (with_columns frame) (option_and_then (columns_on frame aggs) o)) made ∙ ap (λ o. option_map (with_columns frame) o) h.1;
          short = short;
        }
    group_answer (Err e) sound (inl m) short = inl m
    group_answer (Err e) sound (inr (inl o)) short = agg_told e (faults_apart frame (part_faults frame (parts_of by (height frame))) e aggs o)
    group_answer (Err e) sound (inr (inr l)) short =
        let size : greatest (map (λ t. size_on t (frames_by frame keys)) aggs) ≡ greatest (map (λ t. size_on t (part_frames frame (parts_of by (height frame)))) aggs) = ap (λ (fs : List Frame). greatest (map (λ t. size_on t fs) aggs)) frames in
        inr (inr (accepted, inr (l.0, omega (arith, l.1, size))))

-- the refusals of a step's parts, where it has none
pub refusals_apart : (frame : Frame) (keys aggs : List Tree) → step_refusals (group keys aggs None) frame ≡ []
    → (no_key_refusal keys ≡ []) × (flat_map (key_refusals frame) keys ≡ []) × (flat_map (agg_refusals frame) aggs ≡ []) × (repeat_refusal (keys ++ aggs) ≡ [])
refusals_apart frame keys aggs h =
    let N = no_key_refusal keys in
    let K = flat_map (key_refusals frame) keys in
    let A = flat_map (agg_refusals frame) aggs in
    let R = repeat_refusal (keys ++ aggs) in
    let all = nil_left (((N ++ K) ++ A) ++ R) [] h in
    let typed = nil_left ((N ++ K) ++ A) R all in
    let keyed = nil_left (N ++ K) A typed in
    (nil_left N K keyed, nil_right N K keyed, nil_right (N ++ K) A typed, nil_right ((N ++ K) ++ A) R all)

-- keys that are not refused are typed on the frame
pub keys_typed : (frame : Frame) (keys : List Tree) → flat_map (key_refusals frame) keys ≡ [] → flat_map (frame_refusals frame) keys ≡ []
keys_typed frame [] h = refl
keys_typed frame (t ∷ ts) h =
    let own = nil_left (frame_refusals frame t) _ (nil_left (key_refusals frame t) (flat_map (key_refusals frame) ts) h) in
    let rest = keys_typed frame ts (nil_right (key_refusals frame t) (flat_map (key_refusals frame) ts) h) in
    λ i. own i ++ rest i

some_key : (keys : List Tree) → no_key_refusal keys ≡ [] → 0 < length keys
some_key [] h = cc
some_key (k ∷ keys) h = omega arith

pub some_column : (frame : Frame) (keys : List Tree) (by : List Series) → no_key_refusal keys ≡ [] → each (key_on frame) keys ≡ Some by → 0 < length by
some_column frame keys by h made =
    let there = some_key keys h in
    let as_many : length by ≡ length keys = each_length (key_on frame) keys by made in
    omega arith

-- the names of the result
pub names_once : (frame : Frame) (keys aggs : List Tree) (by : List Series) → repeat_refusal (keys ++ aggs) ≡ [] → each (key_on frame) keys ≡ Some by → first_repeat [] (names_of by ++ map name_of aggs) ≡ None
names_once frame keys aggs by h made =
    (λ i. first_repeat [] (key_names frame keys by made i ++ map name_of aggs)) ∙ ap (first_repeat []) (sym (map_append name_of keys aggs)) ∙ once_none (first_repeat [] (map name_of (keys ++ aggs))) h

-- what lacks among some faults lacks among more
lacks_between : (e : PxError) (xs ys zs : List PxError) (n : ℕ) → Lacks e (xs ++ zs) n → Lacks e ((xs ++ ys) ++ zs) n
lacks_between e xs ys zs n (inl m) = inl m
lacks_between e xs ys zs n (inr (inl o)) = by (one_apart e xs zs o)
  where
    by : IsOneOf e xs ⊎ IsOneOf e zs → Lacks e ((xs ++ ys) ++ zs) n
    by (inl x) = inr (inl (one_left e (xs ++ ys) zs (one_left e xs ys x)))
    by (inr z) = inr (inl (one_right e (xs ++ ys) zs z))
lacks_between e xs ys zs n (inr (inr l)) = inr (inr l)

-- why a key has no value
pub key_lacks : (e : PxError) (p : Planned) (frame : Frame) → IsAccepted p frame Default → IsCause e p frame → Lacks e (key_faults frame p.tree) (size_on p.tree (frame ∷ []))
key_lacks e p frame a c = lacks_between e (faults_on p.tree frame) (height_fault frame (value_on p.tree frame)) (misfit_fault frame p.tree) _ (accepted_lacks e p frame a c)

-- a key's value as a column, or its fault where it has not the frame's height
pub key_finds : (F : Frame) (t : Tree) (c : NamedCell) (r : Result Series PxError) (n : ℕ) → named_value F t ≡ Some c → faults_on t F ≡ [] → misfit_fault F t ≡ [] → Answers r (spread_column (height F) c)
    → Finds r (key_on F t) (key_faults F t) n
key_finds F t c r n value sound fit a =
    let meant : key_on F t ≡ result_ok (with_slots c (spread (height F) c.cell)) = ap (λ o. option_and_then (λ x. result_ok (spread_column (height F) x)) o) value in
    let faults : key_faults F t ≡ (faults_on t F ++ refused_by (spread (height F) c.cell)) ++ misfit_fault F t = ap (λ o. (faults_on t F ++ height_fault F o) ++ misfit_fault F t) (value_there F t c value).0 in
    subst (λ (o : Option Series). Finds r o (key_faults F t) n) (sym meant)
    (subst (λ (es : List PxError). Finds r (result_ok (with_slots c (spread (height F) c.cell))) es n) (sym faults) (by (spread (height F) c.cell) r a))
  where
    refused : (e f : PxError) → (e ≡ OutOfMemory) ⊎ ◌≡◌ {A = Result Series PxError} (Err f) (Err e) → Lacks e ((faults_on t F ++ f ∷ []) ++ misfit_fault F t) n
    refused e f (inl m) = inl m
    refused e f (inr s) = let same : f ≡ e = cc in inr (inl (one_left e (faults_on t F ++ f ∷ []) (misfit_fault F t) (one_right e (faults_on t F) (f ∷ []) (inl (sym same)))))

    by : (q : Result (List Slot) PxError) (r : Result Series PxError) → Answers r (with_slots c q) → Finds r (result_ok (with_slots c q)) ((faults_on t F ++ refused_by q) ++ misfit_fault F t) n
    by (Ok xs) (Ok s) b = let same : record { name = c.name; kind = c.kind; slots = xs } ≡ s = cc in ((λ i. (sound i ++ []) ++ fit i), ap Some same)
    by (Ok xs) (Err e) b = inl (no_refusal e (Ok (record { name = c.name; kind = c.kind; slots = xs })) _ refl b)
    by (Err f) (Ok s) b = cc
    by (Err f) (Err e) b = refused e f (refuses_or e (Err f) b)

pub parts_found : (cs by : List Series) (g : Groups) → g ≡ groups_by by (height_of cs) → rows_of g ≡ parts_of by (height_of cs)
parts_found cs by g h = ap rows_of h ∙ rows_of_groups (parts_of by (height_of cs))

no_length : (n : ℕ) → (n == 0) ≡ true → n ≡ 0
no_length n h = grind (arith, nat_tests)

-- the first refusal of a step: there is no key, or the keys', the aggregations' or the names' first one
pub key_missing : (keys : List Expr) (aggs : List Tree) (scope : Scope) → (length keys == 0) ≡ true → unless_refused (typed_group_refusals scope (map tree keys) aggs) ≡ Err (ComputeError NoKey)
key_missing [] aggs scope h = refl
key_missing (k ∷ keys) aggs scope h = absurd (omega (arith, no_length (length (k ∷ keys)) h))

pub key_there : (keys : List Expr) → (length keys == 0) ≡ false → no_key_refusal (map tree keys) ≡ []
key_there [] h = cc
key_there (k ∷ keys) h = refl

module _ (e : PxError) (keys aggs : List Tree) (scope : Scope) (some : no_key_refusal keys ≡ []) where
  abbrev N : List PxError
  N = no_key_refusal keys

  abbrev K : List PxError
  K = flat_map (typed_key_refusals scope) keys

  abbrev A : List PxError
  A = flat_map (λ t. refusals_of t scope Aggregation) aggs

  abbrev R : List PxError
  R = repeat_refusal (keys ++ aggs)

  pub keys_first : IsFirst e K → IsFirst e (typed_group_refusals scope keys aggs)
  keys_first h =
      let nk : IsFirst e (N ++ K) = subst (λ (n : List PxError). IsFirst e (n ++ K)) (sym some) h in
      IsFirst_append e ((N ++ K) ++ A) R (IsFirst_append e (N ++ K) A nk)

  module _ (keyed : K ≡ []) where
    no_keys : N ++ K ≡ []
    no_keys = λ i. some i ++ keyed i

    pub aggs_first : IsFirst e A → IsFirst e (typed_group_refusals scope keys aggs)
    aggs_first h =
        let nka : IsFirst e ((N ++ K) ++ A) = subst (λ (n : List PxError). IsFirst e (n ++ A)) (sym no_keys) h in
        IsFirst_append e ((N ++ K) ++ A) R nka

    module _ (typed : A ≡ []) where
      no_typed : (N ++ K) ++ A ≡ []
      no_typed = λ i. no_keys i ++ typed i

      pub names_first : IsFirst e R → IsFirst e (typed_group_refusals scope keys aggs)
      names_first h = subst (λ (n : List PxError). IsFirst e (n ++ R)) (sym no_typed) h

      pub none_first : R ≡ [] → typed_group_refusals scope keys aggs ≡ []
      none_first h = λ i. no_typed i ++ h i

-- over the frame's names and types these are the step's refusals
pub step_first : (e : PxError) (keys aggs : List Tree) (frame : Frame) (scope : Scope) → scope ≡ scope_of frame → IsFirst e (typed_group_refusals scope keys aggs) → (e ≡ OutOfMemory) ⊎ IsStepCause e (group keys aggs None) frame
step_first e keys aggs frame scope is h =
    refusal_cause e (group keys aggs None) frame (IsFirst_append e (typed_group_refusals (scope_of frame) keys aggs) [] (subst (λ (s : Scope). IsFirst e (typed_group_refusals s keys aggs)) is h))

pub step_accepted : (keys aggs : List Tree) (frame : Frame) (scope : Scope) → scope ≡ scope_of frame → typed_group_refusals scope keys aggs ≡ [] → step_refusals (group keys aggs None) frame ≡ []
step_accepted keys aggs frame scope is n = let none : typed_group_refusals (scope_of frame) keys aggs ≡ [] = ap (λ (s : Scope). typed_group_refusals s keys aggs) (sym is) ∙ n in λ i. none i ++ []

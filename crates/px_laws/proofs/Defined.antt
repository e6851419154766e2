-- An expression that is not refused has a value exactly where it has no fault.
use Rattle.std.proofs.Common.{◌≡◌, ℕ, ◌==◌, Bool, true, false, cond, List, [], ◌∷◌, ◌++◌, Option, Some, None, Result, Ok, Err, option_map, length, map, fold, refl, sym, ◌∙◌, ap}
use Rattle.std.specs.List.{find, flat_map, zip}
use Rattle.std.specs.Option.{IsSome, is_some, option_or}
use Rattle.px_column.specs.Prelude.{Kind, Series}
use Rattle.px_column.specs.Option.{◌>>=◌, each}
use Rattle.px_value.specs.declared.error.PxError.{PxError}
use Rattle.px_frame.specs.Cell.{Cell, rows}
use Rattle.px_frame.specs.External.{Frame, height, look_in, scope_of, rows_of_frame, with_field, external_at}
use Rattle.px_frame.specs.Frame.{look, has_name, series_at}
use Rattle.px_frame.specs.Schema.{FieldKind, column_field, has_field_name}
use Rattle.px_frame.specs.Spread.{NamedCell}
use Rattle.px_tree.specs.Node.{literal_cell, binary_cell, ternary_cell, cast_cell, function_cell, filter_cell, slice_cell, gather_cell, sort_cell, sort_by_cell, reduction_cell}
use Rattle.px_tree.specs.Shape.{is_literal_tree, name_of}
use Rattle.px_tree.specs.Tree.{Tree, called, Trees, Order, no_trees, one_tree, no_order, ordered, column, literal, alias, binary, ternary, cast, function, filter, slice, gather, sort, sort_by, agg, len, window}
use Rattle.px_tree.specs.Typing.{kind_in, kinds_in, kind_of_name, refusals_of, all_refusals_of, order_refusals_of}
use Rattle.px_tree.specs.Value.{value_on, outcome_on, made, cells_on, named_on, order_on, named, first_kind, whole_window, window_parts, fault_in, faults_on, all_faults_on, order_faults_on, parts_in, parts_on}
use Rattle.px_tree.specs.Window.{OrderCell, parts_by, window_cell}
use Rattle.px_tree.specs.declared.context.Context.{Context}
use Rattle.px_tree.specs.declared.context.Context.TheVariants.{Default, Aggregation}
use Rattle.px_tree.specs.declared.window.WindowMapping.{WindowMapping}
use Rattle.px_tree.proofs.Scopes.{missing_stays}
use Rattle.px_tree.proofs.KindLaws.{There, none_left, none_right, none_first, kind_there, kinds_there}
use Rattle.px_laws.proofs.Shapes.{bound, made_bound, mapped, map_found}
use Rattle.px_frame.proofs.LookLaws.{field_look}

-- a name that has a type stands for a column
beside_there : (n : List ℕ) (fields : List FieldKind) (external : List Series) (f : FieldKind) → find (has_field_name n) fields ≡ None → find (has_field_name n) (fold with_field fields external) ≡ Some f → There (look n external)
beside_there n fields [] f h e = cc
beside_there n fields (s ∷ external) f h e = by (has_name n s) refl (λ m. beside_there n (with_field fields s) external f (missing_stays n fields s h m) e)
  where
    by : (b : Bool) → has_name n s ≡ b → (has_name n s ≡ false → There (look n external)) → There (cond b (Some s) (look n external))
    by true m rest = (s, refl)
    by false m rest = rest m

found_of_kind : (o : Option FieldKind) (k : Kind) → option_map (λ (f : FieldKind). f.kind) o ≡ Some k → There o
found_of_kind None k h = cc
found_of_kind (Some f) k h = (f, refl)

look_there : (n : List ℕ) (frame : Frame) (k : Kind) → kind_of_name n (scope_of frame) ≡ Some k → There (look_in n frame)
look_there n frame k h = by (look n frame.columns) refl
  where
    by : (o : Option Series) → look n frame.columns ≡ o → There (option_or o (look n frame.external))
    by (Some s) e = (s, refl)
    by None e =
        let f = found_of_kind (find (has_field_name n) (scope_of frame)) k h in
        let missing : find (has_field_name n) (map column_field frame.columns) ≡ None = field_look n frame.columns ∙ ap (option_map column_field) e in
        beside_there n (map column_field frame.columns) frame.external f.0 missing f.1

-- the frame of some rows has the same names and types
pub fields_at : (p : List ℕ) (columns : List Series) → map column_field (map (series_at p) columns) ≡ map column_field columns
fields_at p [] = refl
fields_at p (s ∷ columns) = ap (λ fs. column_field s ∷ fs) (fields_at p columns)

field_at : (n : ℕ) (p : List ℕ) (fields : List FieldKind) (s : Series) → with_field fields (external_at n p s) ≡ with_field fields s
field_at n p fields s = by (length s.slots == n)
  where
    by : (b : Bool) → with_field fields (cond b (series_at p s) s) ≡ with_field fields s
    by true = refl
    by false = refl

external_fields : (n : ℕ) (p : List ℕ) (fields : List FieldKind) (external : List Series) → fold with_field fields (map (external_at n p) external) ≡ fold with_field fields external
external_fields n p fields [] = refl
external_fields n p fields (s ∷ external) = ap (λ fs. fold with_field fs (map (external_at n p) external)) (field_at n p fields s) ∙ external_fields n p (with_field fields s) external

pub scope_of_rows : (frame : Frame) (p : List ℕ) → scope_of (rows_of_frame frame p) ≡ scope_of frame
scope_of_rows frame p =
    ap (λ fs. fold with_field fs (map (external_at (height frame) p) frame.external)) (fields_at p frame.columns) ∙ external_fields (height frame) p (map column_field frame.columns) frame.external

-- an outcome without a fault is a value, and the other way round
own_there : (o : Option (Result Cell PxError)) (r : Result Cell PxError) → o ≡ Some r → fault_in o ≡ [] → There (made o)
own_there o (Ok c) p h = (c, ap made p)
own_there o (Err e) p h = let no : e ∷ [] ≡ [] = sym (ap fault_in p) ∙ h in cc

-- a value is no fault
no_fault : (o : Option (Result Cell PxError)) (c : Cell) → made o ≡ Some c → fault_in o ≡ []
no_fault None c h = cc
no_fault (Some (Ok d)) c h = refl
no_fault (Some (Err e)) c h = cc

named_there : (t : Tree) (frame : Frame) (c : Cell) (k : Kind) → kind_in t (scope_of frame) ≡ Some k → There (named t frame c)
named_there t frame c k h = (_, ap (option_map (λ (k : Kind). record { name = name_of t; kind = k; cell = c })) h)

each_there : {A B : Type 0} (f : A → Option B) (xs : List A) (faults : A → List PxError) → ((x : A) → faults x ≡ [] → There (f x)) → flat_map faults xs ≡ [] → There (each f xs)
each_there f [] faults h e = ([], refl)
each_there f (x ∷ xs) faults h e =
    let first = h x (none_left _ _ e) in
    let rest = each_there f xs faults h (none_right (faults x) _ e) in
    (first.0 ∷ rest.0, λ i. first.1 i >>= λ y. option_map (λ ys. y ∷ ys) (rest.1 i))

-- where something is made of each, none has a fault
each_sound : {A B : Type 0} (f : A → Option B) (xs : List A) (ys : List B) (faults : A → List PxError) → ((x : A) (y : B) → f x ≡ Some y → faults x ≡ []) → each f xs ≡ Some ys → flat_map faults xs ≡ []
each_sound f [] ys faults h e = refl
each_sound f (x ∷ xs) ys faults h e =
    let first = bound (f x) _ ys e in
    let rest = mapped (each f xs) (λ zs. first.0 ∷ zs) ys first.2 in
    λ i. h x first.0 first.1 i ++ each_sound f xs rest.0 faults h rest.1 i

-- a window whose parts are there, and whose function has a value on each
window_there : (f : Tree) (mapping : WindowMapping) (frame : Frame) (parts : Result (List (List ℕ)) PxError) (found : Option (Result (List (List ℕ)) PxError)) → found ≡ Some parts
    → ((p : List ℕ) → faults_on f (rows_of_frame frame p) ≡ [] → There (value_on f (rows_of_frame frame p)))
    → flat_map (λ p. faults_on f (rows_of_frame frame p)) (parts_in found) ≡ []
    → fault_in (found >>= λ ps. whole_window mapping frame ps (λ qs. each (λ p. made (outcome_on f (rows_of_frame frame p))) qs)) ≡ []
    → There (made (found >>= λ ps. whole_window mapping frame ps (λ qs. each (λ p. made (outcome_on f (rows_of_frame frame p))) qs)))
window_there f mapping frame (Err e) found is value faults own =
    own_there _ (Err e) (ap (λ o. o >>= λ ps. whole_window mapping frame ps (λ qs. each (λ p. made (outcome_on f (rows_of_frame frame p))) qs)) is) own
window_there f mapping frame (Ok parts) found is value faults own =
    let none : flat_map (λ p. faults_on f (rows_of_frame frame p)) parts ≡ [] = (λ i. flat_map (λ p. faults_on f (rows_of_frame frame p)) (parts_in (sym is i))) ∙ faults in
    let cells = each_there (λ p. made (outcome_on f (rows_of_frame frame p))) parts (λ p. faults_on f (rows_of_frame frame p)) value none in
    own_there _ (window_cell mapping (height frame) (zip parts cells.0))
    (ap (λ o. o >>= λ ps. whole_window mapping frame ps (λ qs. each (λ p. made (outcome_on f (rows_of_frame frame p))) qs)) is ∙ ap (option_map (λ cs. window_cell mapping (height frame) (zip parts cs))) cells.1) own

mutual
  pub value_there : (e : Tree) (frame : Frame) (place : Context) → refusals_of e (scope_of frame) place ≡ [] → faults_on e frame ≡ [] → There (value_on e frame)
  value_there (column n) frame place r h =
      let k = kind_there (column n) (scope_of frame) place r in
      let s = look_there n frame k.0 k.1 in
      (rows s.0.slots, ap (λ o. made (option_map (λ (t : Series). Ok (rows t.slots)) o)) s.1)
  value_there (literal v) frame place r h = own_there (outcome_on (literal v) frame) (literal_cell v) refl h
  value_there (alias e n) frame place r h = let c = value_there e frame place r h in (c.0, ap (λ o. made (option_map Ok o)) c.1)
  value_there (binary l op x) frame place r h =
      let inputs = none_first _ _ r in
      let faults = none_left (faults_on l frame ++ faults_on x frame) _ h in
      let k = kind_there l (scope_of frame) place (none_left _ _ inputs) in
      let a = value_there l frame place (none_left _ _ inputs) (none_left _ _ faults) in
      let b = value_there x frame place (none_right (refusals_of l (scope_of frame) place) _ inputs) (none_right (faults_on l frame) _ faults) in
      own_there (outcome_on (binary l op x) frame) (binary_cell k.0 op a.0 b.0) (λ i. k.1 i >>= λ j. a.1 i >>= λ c. b.1 i >>= λ d. Some (binary_cell j op c d)) (none_right (faults_on l frame ++ faults_on x frame) _ h)
  value_there (ternary p a b) frame place r h =
      let s = scope_of frame in
      let inputs = none_first _ _ r in
      let two = none_left (refusals_of p s place ++ refusals_of a s place) _ inputs in
      let faults = none_left (faults_on p frame ++ faults_on a frame ++ faults_on b frame) _ h in
      let early = none_left (faults_on p frame ++ faults_on a frame) _ faults in
      let t = value_there p frame place (none_left _ _ two) (none_left _ _ early) in
      let x = value_there a frame place (none_right (refusals_of p s place) _ two) (none_right (faults_on p frame) _ early) in
      let y = value_there b frame place (none_right (refusals_of p s place ++ refusals_of a s place) _ inputs) (none_right (faults_on p frame ++ faults_on a frame) _ faults) in
      own_there (outcome_on (ternary p a b) frame) (ternary_cell t.0 x.0 y.0) (λ i. t.1 i >>= λ c. x.1 i >>= λ d. y.1 i >>= λ e. Some (ternary_cell c d e))
      (none_right (faults_on p frame ++ faults_on a frame ++ faults_on b frame) _ h)
  value_there (cast e to options) frame place r h =
      let inputs = none_first _ _ r in
      let k = kind_there e (scope_of frame) place inputs in
      let a = value_there e frame place inputs (none_left _ _ h) in
      own_there (outcome_on (cast e to options) frame) (cast_cell k.0 to options a.0) (λ i. k.1 i >>= λ j. a.1 i >>= λ c. Some (cast_cell j to options c)) (none_right (faults_on e frame) _ h)
  value_there (function es f) frame place r h =
      let inputs = none_first _ _ r in
      let ks = kinds_there es (scope_of frame) place inputs in
      let cs = cells_there es frame place inputs (none_left _ _ h) in
      own_there (outcome_on (function es f) frame) (function_cell (called f) (first_kind ks.0) cs.0) (λ i. ks.1 i >>= λ js. cs.1 i >>= λ xs. Some (function_cell (called f) (first_kind js) xs)) (none_right (all_faults_on es frame) _ h)
  value_there (filter e by) frame place r h =
      let inputs = none_first _ _ r in
      let faults = none_left (faults_on e frame ++ faults_on by frame) _ h in
      let a = value_there e frame place (none_left _ _ inputs) (none_left _ _ faults) in
      let m = value_there by frame place (none_right (refusals_of e (scope_of frame) place) _ inputs) (none_right (faults_on e frame) _ faults) in
      own_there (outcome_on (filter e by) frame) (filter_cell a.0 m.0) (λ i. a.1 i >>= λ c. m.1 i >>= λ d. Some (filter_cell c d)) (none_right (faults_on e frame ++ faults_on by frame) _ h)
  value_there (slice e offset length) frame place r h =
      let s = scope_of frame in
      let inputs = none_first _ _ r in
      let two = none_left (refusals_of e s place ++ refusals_of offset s place) _ inputs in
      let faults = none_left (faults_on e frame ++ faults_on offset frame ++ faults_on length frame) _ h in
      let early = none_left (faults_on e frame ++ faults_on offset frame) _ faults in
      let a = value_there e frame place (none_left _ _ two) (none_left _ _ early) in
      let o = value_there offset frame place (none_right (refusals_of e s place) _ two) (none_right (faults_on e frame) _ early) in
      let l = value_there length frame place (none_right (refusals_of e s place ++ refusals_of offset s place) _ inputs) (none_right (faults_on e frame ++ faults_on offset frame) _ faults) in
      own_there (outcome_on (slice e offset length) frame) (slice_cell a.0 o.0 l.0) (λ i. a.1 i >>= λ c. o.1 i >>= λ d. l.1 i >>= λ m. Some (slice_cell c d m))
      (none_right (faults_on e frame ++ faults_on offset frame ++ faults_on length frame) _ h)
  value_there (gather e idx one) frame place r h =
      let inputs = none_first _ _ r in
      let faults = none_left (faults_on e frame ++ faults_on idx frame) _ h in
      let a = value_there e frame place (none_left _ _ inputs) (none_left _ _ faults) in
      let j = value_there idx frame place (none_right (refusals_of e (scope_of frame) place) _ inputs) (none_right (faults_on e frame) _ faults) in
      own_there (outcome_on (gather e idx one) frame) (gather_cell one (is_literal_tree idx) a.0 j.0) (λ i. a.1 i >>= λ c. j.1 i >>= λ d. Some (gather_cell one (is_literal_tree idx) c d))
      (none_right (faults_on e frame ++ faults_on idx frame) _ h)
  value_there (sort e options) frame place r h =
      let a = value_there e frame place (none_first _ _ r) h in
      (_, λ i. made (a.1 i >>= λ c. Some (sort_cell options c)))
  value_there (sort_by e by options) frame place r h =
      let inputs = none_first _ _ r in
      let faults = none_left (faults_on e frame ++ all_faults_on by frame) _ h in
      let a = value_there e frame place (none_left _ _ inputs) (none_left _ _ faults) in
      let ks = cells_there by frame place (none_right (refusals_of e (scope_of frame) place) _ inputs) (none_right (faults_on e frame) _ faults) in
      own_there (outcome_on (sort_by e by options) frame) (sort_by_cell options a.0 ks.0) (λ i. a.1 i >>= λ c. ks.1 i >>= λ xs. Some (sort_by_cell options c xs)) (none_right (faults_on e frame ++ all_faults_on by frame) _ h)
  value_there (agg m e) frame place r h =
      let inputs = none_first _ _ r in
      let k = kind_there e (scope_of frame) place inputs in
      let a = value_there e frame place inputs h in
      (reduction_cell m k.0 a.0, λ i. made (k.1 i >>= λ j. a.1 i >>= λ c. Some (Ok (reduction_cell m j c))))
  value_there len frame place r h = (_, refl)
  value_there (window f keys order mapping) frame place r h =
      let s = scope_of frame in
      let inputs = none_first _ _ r in
      let early = none_left (refusals_of f s Aggregation ++ all_refusals_of keys s Default) _ inputs in
      let fr = none_left _ _ early in
      let faults = none_left (all_faults_on keys frame ++ order_faults_on order frame ++ flat_map (λ p. faults_on f (rows_of_frame frame p)) (parts_on keys order frame)) _ h in
      let own = none_right (all_faults_on keys frame ++ order_faults_on order frame ++ flat_map (λ p. faults_on f (rows_of_frame frame p)) (parts_on keys order frame)) _ h in
      let of_keys = none_left (all_faults_on keys frame ++ order_faults_on order frame) _ faults in
      let of_parts = none_right (all_faults_on keys frame ++ order_faults_on order frame) _ faults in
      let by = named_all keys frame Default (none_right (refusals_of f s Aggregation) _ early) (none_left _ _ of_keys) in
      let o = order_there order frame Default (none_right (refusals_of f s Aggregation ++ all_refusals_of keys s Default) _ inputs) (none_right (all_faults_on keys frame) _ of_keys) in
      let found : window_parts (named_on keys frame) (order_on order frame) frame ≡ Some (parts_by by.0 o.0 (height frame)) = (λ i. window_parts (by.1 i) (o.1 i) frame) in
      window_there f mapping frame (parts_by by.0 o.0 (height frame)) _ found (λ p g. value_there f (rows_of_frame frame p) Aggregation (ap (λ scope. refusals_of f scope Aggregation) (scope_of_rows frame p) ∙ fr) g) of_parts own

  cells_there : (es : Trees) (frame : Frame) (place : Context) → all_refusals_of es (scope_of frame) place ≡ [] → all_faults_on es frame ≡ [] → There (cells_on es frame)
  cells_there no_trees frame place r h = ([], refl)
  cells_there (one_tree t ts) frame place r h =
      let a = value_there t frame place (none_left _ _ r) (none_left _ _ h) in
      let rest = cells_there ts frame place (none_right (refusals_of t (scope_of frame) place) _ r) (none_right (faults_on t frame) _ h) in
      (a.0 ∷ rest.0, λ i. a.1 i >>= λ c. rest.1 i >>= λ cs. Some (c ∷ cs))

  named_all : (es : Trees) (frame : Frame) (place : Context) → all_refusals_of es (scope_of frame) place ≡ [] → all_faults_on es frame ≡ [] → There (named_on es frame)
  named_all no_trees frame place r h = ([], refl)
  named_all (one_tree t ts) frame place r h =
      let a = value_there t frame place (none_left _ _ r) (none_left _ _ h) in
      let k = kind_there t (scope_of frame) place (none_left _ _ r) in
      let n = named_there t frame a.0 k.0 k.1 in
      let rest = named_all ts frame place (none_right (refusals_of t (scope_of frame) place) _ r) (none_right (faults_on t frame) _ h) in
      (n.0 ∷ rest.0, ap (λ o. (o >>= named t frame) >>= λ c. named_on ts frame >>= λ cs. Some (c ∷ cs)) a.1 ∙ (λ i. n.1 i >>= λ c. rest.1 i >>= λ cs. Some (c ∷ cs)))

  order_there : (order : Order) (frame : Frame) (place : Context) → order_refusals_of order (scope_of frame) place ≡ [] → order_faults_on order frame ≡ [] → There (order_on order frame)
  order_there no_order frame place r h = (None, refl)
  order_there (ordered t options) frame place r h =
      let a = value_there t frame place r h in
      let k = kind_there t (scope_of frame) place r in
      let n = named_there t frame a.0 k.0 k.1 in
      (Some (n.0, options), ap (λ o. option_map (λ c. Some (c, options)) (o >>= named t frame)) a.1 ∙ ap (option_map (λ c. Some (c, options))) n.1)

-- a window whose function has a value on each part has no fault there
window_sound : (f : Tree) (mapping : WindowMapping) (frame : Frame) (parts : Result (List (List ℕ)) PxError) (c : Cell)
    → ((p : List ℕ) (d : Cell) → value_on f (rows_of_frame frame p) ≡ Some d → faults_on f (rows_of_frame frame p) ≡ [])
    → made (whole_window mapping frame parts (λ qs. each (λ p. made (outcome_on f (rows_of_frame frame p))) qs)) ≡ Some c
    → flat_map (λ p. faults_on f (rows_of_frame frame p)) (parts_in (Some parts)) ≡ []
window_sound f mapping frame (Err e) c sound h = refl
window_sound f mapping frame (Ok parts) c sound h =
    let cells = map_found (each (λ p. made (outcome_on f (rows_of_frame frame p))) parts) (λ cs. window_cell mapping (height frame) (zip parts cs)) c h in
    each_sound (λ p. made (outcome_on f (rows_of_frame frame p))) parts cells.0 (λ p. faults_on f (rows_of_frame frame p)) sound cells.1

-- an expression that has a value has no fault
mutual
  pub value_sound : (e : Tree) (frame : Frame) (c : Cell) → value_on e frame ≡ Some c → faults_on e frame ≡ []
  value_sound (column n) frame c h = refl
  value_sound (literal v) frame c h = no_fault (outcome_on (literal v) frame) c h
  value_sound (alias e n) frame c h = let a = map_found (made (outcome_on e frame)) Ok c h in value_sound e frame a.0 a.1
  value_sound (binary l op r) frame c h =
      let k = made_bound (kind_in l (scope_of frame)) _ c h in
      let a = made_bound (made (outcome_on l frame)) _ c k.2 in
      let b = made_bound (made (outcome_on r frame)) _ c a.2 in
      λ i. value_sound l frame a.0 a.1 i ++ value_sound r frame b.0 b.1 i ++ no_fault (outcome_on (binary l op r) frame) c h i
  value_sound (ternary p a b) frame c h =
      let t = made_bound (made (outcome_on p frame)) _ c h in
      let x = made_bound (made (outcome_on a frame)) _ c t.2 in
      let y = made_bound (made (outcome_on b frame)) _ c x.2 in
      λ i. value_sound p frame t.0 t.1 i ++ value_sound a frame x.0 x.1 i ++ value_sound b frame y.0 y.1 i ++ no_fault (outcome_on (ternary p a b) frame) c h i
  value_sound (cast e to options) frame c h =
      let k = made_bound (kind_in e (scope_of frame)) _ c h in
      let a = made_bound (made (outcome_on e frame)) _ c k.2 in
      λ i. value_sound e frame a.0 a.1 i ++ no_fault (outcome_on (cast e to options) frame) c h i
  value_sound (function es f) frame c h =
      let ks = made_bound (kinds_in es (scope_of frame)) _ c h in
      let cs = made_bound (cells_on es frame) _ c ks.2 in
      λ i. cells_sound es frame cs.0 cs.1 i ++ no_fault (outcome_on (function es f) frame) c h i
  value_sound (filter e by) frame c h =
      let a = made_bound (made (outcome_on e frame)) _ c h in
      let m = made_bound (made (outcome_on by frame)) _ c a.2 in
      λ i. value_sound e frame a.0 a.1 i ++ value_sound by frame m.0 m.1 i ++ no_fault (outcome_on (filter e by) frame) c h i
  value_sound (slice e offset length) frame c h =
      let a = made_bound (made (outcome_on e frame)) _ c h in
      let o = made_bound (made (outcome_on offset frame)) _ c a.2 in
      let l = made_bound (made (outcome_on length frame)) _ c o.2 in
      λ i. value_sound e frame a.0 a.1 i ++ value_sound offset frame o.0 o.1 i ++ value_sound length frame l.0 l.1 i ++ no_fault (outcome_on (slice e offset length) frame) c h i
  value_sound (gather e idx one) frame c h =
      let a = made_bound (made (outcome_on e frame)) _ c h in
      let j = made_bound (made (outcome_on idx frame)) _ c a.2 in
      λ i. value_sound e frame a.0 a.1 i ++ value_sound idx frame j.0 j.1 i ++ no_fault (outcome_on (gather e idx one) frame) c h i
  value_sound (sort e options) frame c h = let a = made_bound (made (outcome_on e frame)) _ c h in value_sound e frame a.0 a.1
  value_sound (sort_by e by options) frame c h =
      let a = made_bound (made (outcome_on e frame)) _ c h in
      let ks = made_bound (cells_on by frame) _ c a.2 in
      λ i. value_sound e frame a.0 a.1 i ++ cells_sound by frame ks.0 ks.1 i ++ no_fault (outcome_on (sort_by e by options) frame) c h i
  value_sound (agg m e) frame c h =
      let k = made_bound (kind_in e (scope_of frame)) _ c h in
      let a = made_bound (made (outcome_on e frame)) _ c k.2 in
      value_sound e frame a.0 a.1
  value_sound len frame c h = refl
  value_sound (window f keys order mapping) frame c h =
      let found = made_bound (window_parts (named_on keys frame) (order_on order frame) frame) _ c h in
      let by = bound (named_on keys frame) _ found.0 found.1 in
      let o = bound (order_on order frame) _ found.0 by.2 in
      let of_parts : flat_map (λ p. faults_on f (rows_of_frame frame p)) (parts_on keys order frame) ≡ [] =
      (λ i. flat_map (λ p. faults_on f (rows_of_frame frame p)) (parts_in (found.1 i))) ∙ window_sound f mapping frame found.0 c (λ p d e. value_sound f (rows_of_frame frame p) d e) found.2 in
      λ i. named_sound keys frame by.0 by.1 i ++ order_sound order frame o.0 o.1 i ++ of_parts i ++ no_fault (outcome_on (window f keys order mapping) frame) c h i

  cells_sound : (es : Trees) (frame : Frame) (cs : List Cell) → cells_on es frame ≡ Some cs → all_faults_on es frame ≡ []
  cells_sound no_trees frame cs h = refl
  cells_sound (one_tree t ts) frame cs h =
      let a = bound (made (outcome_on t frame)) _ cs h in
      let rest = bound (cells_on ts frame) _ cs a.2 in
      λ i. value_sound t frame a.0 a.1 i ++ cells_sound ts frame rest.0 rest.1 i

  named_sound : (es : Trees) (frame : Frame) (cs : List NamedCell) → named_on es frame ≡ Some cs → all_faults_on es frame ≡ []
  named_sound no_trees frame cs h = refl
  named_sound (one_tree t ts) frame cs h =
      let first = bound (made (outcome_on t frame) >>= named t frame) _ cs h in
      let a = bound (made (outcome_on t frame)) (named t frame) first.0 first.1 in
      let rest = bound (named_on ts frame) _ cs first.2 in
      λ i. value_sound t frame a.0 a.1 i ++ named_sound ts frame rest.0 rest.1 i

  order_sound : (order : Order) (frame : Frame) (o : OrderCell) → order_on order frame ≡ Some o → order_faults_on order frame ≡ []
  order_sound no_order frame o h = refl
  order_sound (ordered t options) frame o h =
      let n = mapped (made (outcome_on t frame) >>= named t frame) (λ c. Some (c, options)) o h in
      let a = bound (made (outcome_on t frame)) (named t frame) n.0 n.1 in
      value_sound t frame a.0 a.1

-- an expression that is not refused and has no fault has a value
pub value_is_there : (e : Tree) (frame : Frame) → refusals_of e (scope_of frame) Default ≡ [] → faults_on e frame ≡ [] → IsSome (value_on e frame)
value_is_there e frame r h = let c = value_there e frame Default r h in ap is_some c.1

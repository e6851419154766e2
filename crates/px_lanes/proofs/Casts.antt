-- A cast goes row by row, and one that is not strict is refused for its types alone.
use Rattle.std.proofs.Common.{◌≡◌, ◌⊎◌, inl, inr, ℕ, zero, suc, ◌<◌, ◌&&◌, ◌||◌, ℤ, Bool, true, false, cond, List, [], ◌∷◌, Option, Some, None, Result, Ok, Err, length, map, nat_lt, refl, sym, ap, ◌∙◌, arith, eq-eqb}
use Rattle.std.specs.Result.{result_map_both}
use Rattle.std.proofs.lemmas.Bool.Decides.{nat_tests}
use Rattle.px_column.specs.Cast.{before, boolean_cast, bytes_cast, cast_kind, cast_slot, cast_slots, datum_cast, integer_cast, is_cast, items_cast, list_slot, lost, number_cast, number_written, text_cast, written_cast}
use Rattle.px_column.specs.Operator.{is_boolean_kind, is_integer_kind, is_string_kind, kind_where}
use Rattle.px_column.specs.Prelude.{Kind, Refuses, Slot, slot_at, slots_fit}
use Rattle.px_column.specs.Result.{◌>>=◌}
use Rattle.px_column.specs.Wrap.{is_in_range, wrapped_in}
use Rattle.px_operation.proofs.CastLaws.{items_first, length_cast_slots}
use Rattle.px_value.proofs.FitLaws.{both}
use Rattle.px_value.specs.Datum.{Datum, boolean, integer, text, bytes, list, Slots, no_slots, absent, present, items, slots}
use Rattle.px_value.specs.Kind.{all_fit, binaries, booleans, fits, lists, nulls, slot_fits, strings}
use Rattle.px_value.specs.declared.cast_options.CastOptions.{CastOptions}
use Rattle.px_value.specs.declared.cast_options.CastOptions.TheVariants.{Strict, NonStrict, Overflowing}
use Rattle.px_value.specs.declared.error.PxError.{PxError}
use Rattle.px_value.specs.declared.error.PxError.TheVariants.{OutOfMemory}
use Rattle.px_frame.specs.Cell.{Cell, unit, rows, is_unit_cell, cell_of, list_of}
use Rattle.px_frame.specs.Frame.{are_below, slots_at}
use Rattle.px_frame.specs.Spread.{NamedCell}
use Rattle.px_tree.specs.Node.{cast_cell}
use Rattle.px_nodes.specs.Named.{cast_named, under}
use Rattle.px_nodes.specs.Together.{stands_at}
use Rattle.px_context.specs.Built.{is_unit_literal}
use Rattle.px_context.specs.Context.{Context, IsContext, cell_kind, cells_of, has_units}
use Rattle.px_lanes.specs.Alike.{AreLike}
use Rattle.px_lanes.specs.Casting.{cast_answers, is_strict}
use Rattle.px_lanes.specs.Lane.{has_lane, lane_of}
use Rattle.px_lanes.specs.Made.{IsRefusal}
use Rattle.px_lanes.proofs.Joining.{named}
use Rattle.px_lanes.proofs.Lanes.{lane_kind, named_at}
use Rattle.px_lanes.proofs.Likeness.{like_one, shaped}
use Rattle.px_lanes.proofs.OneInput.{IsRowByRow}
use Rattle.px_lanes.proofs.Operators.{IsTyped, IsUnder, made_under, ok_is, typed_by, under_made}
use Rattle.px_lanes.proofs.Rowwise.{cell_at}
use Rattle.px_value.proofs.Refusing.{refuses_or}

-- slots that were cast one by one
abbrev made_slots : Result Slots PxError → Result (List Slot) PxError
made_slots r = result_map_both items (λ e. e) r

-- the first slot and the others
pub record IsFirst (s : Result Slot PxError) (rest : Result (List Slot) PxError) (ys : List Slot) : Type 0 where
  pub one : Slot
  pub others : List Slot
  pub first : s ≡ Ok one
  pub made : rest ≡ Ok others
  pub all : ys ≡ one ∷ others

first_by : (s : Result Slot PxError) (r : Result Slots PxError) (ys : List Slot) → made_slots (before s r) ≡ Ok ys → IsFirst s (made_slots r) ys
first_by (Err e) r ys h = absurd (cc)
first_by (Ok t) (Err e) ys h = absurd (cc)
first_by (Ok None) (Ok ds) ys h = record { one = None; others = items ds; first = refl; made = refl; all = let same : None ∷ items ds ≡ ys = cc in sym same }
first_by (Ok (Some d)) (Ok ds) ys h = record { one = Some d; others = items ds; first = refl; made = refl; all = let same : Some d ∷ items ds ≡ ys = cc in sym same }

first_cast : (from to : Kind) (o : CastOptions) (x : Slot) (xs ys : List Slot) → cast_slots from to o (x ∷ xs) ≡ Ok ys → IsFirst (cast_slot from to o x) (cast_slots from to o xs) ys
first_cast from to o x xs ys h =
    first_by (cast_slot from to o x) (items_cast to o (slots xs)) ys (ap made_slots (sym (items_first from to o x xs)) ∙ h)

join_by : (s : Result Slot PxError) (r : Result Slots PxError) (t : Slot) (ys : List Slot) → s ≡ Ok t → made_slots r ≡ Ok ys → made_slots (before s r) ≡ Ok (t ∷ ys)
join_by (Err e) r t ys h k = absurd (cc)
join_by (Ok s) (Err e) t ys h k = absurd (cc)
join_by (Ok None) (Ok ds) t ys h k = cc
join_by (Ok (Some d)) (Ok ds) t ys h k = cc

join_cast : (from to : Kind) (o : CastOptions) (x t : Slot) (xs ys : List Slot) → cast_slot from to o x ≡ Ok t → cast_slots from to o xs ≡ Ok ys → cast_slots from to o (x ∷ xs) ≡ Ok (t ∷ ys)
join_cast from to o x t xs ys h k = ap made_slots (items_first from to o x xs) ∙ join_by (cast_slot from to o x) (items_cast to o (slots xs)) t ys h k

slot_cast : (from to : Kind) (o : CastOptions) (xs ys : List Slot) (i : ℕ) → i < length xs → cast_slots from to o xs ≡ Ok ys → cast_slot from to o (slot_at xs i) ≡ Ok (slot_at ys i)
slot_cast from to o [] ys i l h = absurd (omega arith)
slot_cast from to o (x ∷ xs) ys zero l h =
    let f = first_cast from to o x xs ys h in
    f.first ∙ ap (λ zs. Ok (slot_at zs 0)) (sym f.all)
slot_cast from to o (x ∷ xs) ys (suc i) l h =
    let f = first_cast from to o x xs ys h in
    slot_cast from to o xs f.others i (omega arith) f.made ∙ ap (λ zs. Ok (slot_at zs (suc i))) (sym f.all)

-- the slots at some rows
slots_cast : (from to : Kind) (o : CastOptions) (xs ys : List Slot) (g : List ℕ) → are_below (length xs) g ≡ true → cast_slots from to o xs ≡ Ok ys → cast_slots from to o (slots_at xs g) ≡ Ok (slots_at ys g)
slots_cast from to o xs ys [] b h = refl
slots_cast from to o xs ys (i ∷ g) b h =
    let p = both (nat_lt i (length xs)) (are_below (length xs) g) b in
    join_cast from to o (slot_at xs i) (slot_at ys i) (slots_at xs g) (slots_at ys g) (slot_cast from to o xs ys i (grind (arith, nat_tests, p.0)) h) (slots_cast from to o xs ys g p.1 h)

-- what a cast makes of a cell: of its shape, with as many rows, and at a group's rows the same
pub record IsCastOf (n : ℕ) (g : List ℕ) (at_group : Result Cell PxError) (x y : Cell) : Type 0 where
  pub at : at_group ≡ Ok (cell_at y g)
  pub stands : stands_at n y ≡ true
  pub shape : is_unit_cell y ≡ is_unit_cell x

unit_cast : (n : ℕ) (g : List ℕ) (s : Slot) (r : Result Slot PxError) (y : Cell) → (r >>= λ t. Ok (unit t)) ≡ Ok y → IsCastOf n g (r >>= λ t. Ok (unit t)) (unit s) y
unit_cast n g s (Ok t) y h = let same : unit t ≡ y = cc in rw (← same) (record { at = refl; stands = refl; shape = refl })
unit_cast n g s (Err e) y h = absurd (cc)

rows_cast : (n : ℕ) (g : List ℕ) (xs : List Slot) (r p : Result (List Slot) PxError) (y : Cell) → ((ys : List Slot) → r ≡ Ok ys → (length ys ≡ n) × (p ≡ Ok (slots_at ys g)))
    → (r >>= λ ys. Ok (rows ys)) ≡ Ok y → IsCastOf n g (p >>= λ ys. Ok (rows ys)) (rows xs) y
rows_cast n g xs (Err e) p y f h = absurd (cc)
rows_cast n g xs (Ok ys) p y f h =
    let same : rows ys ≡ y = cc in
    let at = f ys refl in
    rw (← same) (record { at = ap (λ q. q >>= λ zs. Ok (rows zs)) at.1; stands = eq-eqb _ _ at.0; shape = refl })

cell_cast : (from to : Kind) (o : CastOptions) (n : ℕ) (g : List ℕ) (x y : Cell) → stands_at n x ≡ true → are_below n g ≡ true → cast_cell from to o x ≡ Ok y → IsCastOf n g (cast_cell from to o (cell_at x g)) x y
cell_cast from to o n g (unit s) y w b h = unit_cast n g s (cast_slot from to o s) y h
cell_cast from to o n g (rows xs) y w b h =
    let e : length xs ≡ n = grind (arith, nat_tests, w) in
    let below : are_below (length xs) g ≡ true = ap (λ m. are_below m g) e ∙ b in
    rows_cast n g xs (cast_slots from to o xs) (cast_slots from to o (slots_at xs g)) y
    (λ ys k. (length_cast_slots from to o xs ys k ∙ e, slots_cast from to o xs ys g below k)) h

-- a cast is of the shape of what is cast
shape_cast : (from to : Kind) (o : CastOptions) (x y : Cell) → cast_cell from to o x ≡ Ok y → is_unit_cell y ≡ is_unit_cell x
shape_cast from to o (unit s) y h = (unit_cast 0 [] s (cast_slot from to o s) y h).shape
shape_cast from to o (rows xs) y h = (cell_cast from to o (length xs) [] (rows xs) y (eq-eqb _ _ refl) refl h).shape

module _ (to : Kind) (o : CastOptions) (a c : NamedCell) (h : cast_named to o a ≡ Ok c) where
  cast_typed : IsTyped (cast_kind a.kind to) (λ k. under a.name k (cast_cell a.kind to o a.cell)) c
  cast_typed = typed_by (cast_kind a.kind to) (λ k. under a.name k (cast_cell a.kind to o a.cell)) c h

  cast_under : IsUnder a.name cast_typed.kind (cast_cell a.kind to o a.cell) c
  cast_under = made_under a.name cast_typed.kind (cast_cell a.kind to o a.cell) c cast_typed.made

  cast_of_kind : cast_kind a.kind to ≡ Ok c.kind
  cast_of_kind = cast_typed.typed ∙ ap Ok (sym cast_under.kind_is)

  cast_row : (n : ℕ) (g : List ℕ) → stands_at n a.cell ≡ true → are_below n g ≡ true → IsCastOf n g (cast_cell a.kind to o (cell_at a.cell g)) a.cell c.cell
  cast_row n g w b = cell_cast a.kind to o n g a.cell c.cell w b cast_under.cell

  cast_at : (n : ℕ) (g : List ℕ) → stands_at n a.cell ≡ true → are_below n g ≡ true → cast_named to o (named_at a g) ≡ Ok (named_at c g)
  cast_at n g w b =
      ap (λ q. q >>= λ k. under a.name k (cast_cell a.kind to o (cell_at a.cell g))) cast_typed.typed
      ∙ under_made a.name cast_typed.kind c (cast_cell a.kind to o (cell_at a.cell g)) (cell_at c.cell g) cast_under.name_is cast_under.kind_is (cast_row n g w b).at

-- it goes row by row
pub cast_rows : (to : Kind) (o : CastOptions) → IsRowByRow (cast_named to o) (λ k. cast_kind k to)
cast_rows to o = record {
  at = λ n a c g w group h. cast_at to o a c h n g w (both (are_below n g) _ group).0;
  stands = λ n a c w h. (cast_row to o a c h n [] w refl).stands;
  name = λ a c h. (cast_under to o a c h).name_is;
  kind_is = λ a c h. cast_of_kind to o a c h;
  shape = λ a c h. shape_cast a.kind to o a.cell c.cell (cast_under to o a c h).cell;
}

-- the answers group by group have its name, the type of the cast, and are units where it has units
pub cast_alike : (to : Kind) (o : CastOptions) (a : Context) (k : Kind) (cs : List NamedCell) → cast_kind (cell_kind a) to ≡ Ok k → cast_answers to o a ≡ map Ok cs → AreLike a.values.name k (has_units a.layout) cs
cast_alike to o a k cs t h =
    like_one a.values.name k (has_units a.layout) (cast_named to o) a.values.name (cell_kind a) (has_units a.layout)
    (λ x c u made. record {
      name_is = (cast_under to o (named a.values.name (cell_kind a) x) c made).name_is;
      kind_is = ok_is c.kind k (sym (cast_of_kind to o (named a.values.name (cell_kind a) x) c made) ∙ t);
      shape = shape_cast (cell_kind a) to o x c.cell (cast_under to o (named a.values.name (cell_kind a) x) c made).cell ∙ u;
    })
    (cells_of a) cs (shaped a) h

-- an answer that is no refusal
abbrev there : {X : Type 0} → Result X PxError → Bool
there (Ok x) = true
there (Err e) = false

module _ (o : CastOptions) (loose : is_strict o ≡ false) where
  lost_there : (s : Slot) → there (lost o s) ≡ true
  lost_there s = by o loose
    where
      by : (p : CastOptions) → is_strict p ≡ false → there (lost p s) ≡ true
      by Strict h = cc
      by NonStrict h = refl
      by Overflowing h = refl

  number_there : (to : Kind) (z : ℤ) → there (number_cast to o z) ≡ true
  number_there to z = by (is_in_range to z)
    where
      by : (b : Bool) → there (cond b (Ok (Some (integer z))) (lost o (Some (integer (wrapped_in to z))))) ≡ true
      by true = refl
      by false = lost_there (Some (integer (wrapped_in to z)))

  written_there : (to : Kind) (w : Option ℤ) → there (written_cast to o w) ≡ true
  written_there to None = lost_there None
  written_there to (Some z) = number_there to z

  boolean_there : (to : Kind) (b : Bool) → is_cast booleans to ≡ true → there (boolean_cast to b) ≡ true
  boolean_there binaries b w = cc
  boolean_there nulls b w = cc
  boolean_there (lists j) b w = cc
  boolean_there to b w = refl

  integer_there : (to : Kind) (z : ℤ) → (is_integer_kind to || (is_boolean_kind to || is_string_kind to)) ≡ true → there (integer_cast to o z) ≡ true
  integer_there booleans z w = refl
  integer_there strings z w = refl
  integer_there binaries z w = cc
  integer_there nulls z w = cc
  integer_there (lists j) z w = cc
  integer_there to z w = number_there to z

  text_there : (to : Kind) (t : List ℕ) → is_cast strings to ≡ true → there (text_cast to o t) ≡ true
  text_there strings t w = refl
  text_there binaries t w = refl
  text_there booleans t w = cc
  text_there nulls t w = cc
  text_there (lists j) t w = cc
  text_there to t w = written_there to (number_written t)

  bytes_there : (to : Kind) (t : List ℕ) → is_cast binaries to ≡ true → there (bytes_cast to t) ≡ true
  bytes_there binaries t w = refl
  bytes_there to t w = cc

  before_there : (p : Result Slot PxError) (q : Result Slots PxError) → there p ≡ true → there q ≡ true → there (before p q) ≡ true
  before_there (Err e) q h g = cc
  before_there (Ok s) (Err e) h g = cc
  before_there (Ok None) (Ok ds) h g = refl
  before_there (Ok (Some d)) (Ok ds) h g = refl

  list_there : (q : Result Slots PxError) → there q ≡ true → there (list_slot q) ≡ true
  list_there (Ok ds) h = refl
  list_there (Err e) h = cc

  -- the types of integers are cast alike
  cast_of_integers : (from to : Kind) → is_integer_kind from ≡ true → is_cast from to ≡ true → (is_integer_kind to || (is_boolean_kind to || is_string_kind to)) ≡ true
  cast_of_integers booleans to h w = cc
  cast_of_integers strings to h w = cc
  cast_of_integers binaries to h w = cc
  cast_of_integers nulls to h w = cc
  cast_of_integers (lists j) to h w = cc
  cast_of_integers from to h w = w

  integer_fits : (k : Kind) (z : ℤ) → fits k (integer z) ≡ true → is_integer_kind k ≡ true
  integer_fits booleans z h = cc
  integer_fits strings z h = cc
  integer_fits binaries z h = cc
  integer_fits nulls z h = cc
  integer_fits (lists j) z h = cc
  integer_fits k z h = refl

  mutual
    datum_there : (from to : Kind) (d : Datum) → is_cast from to ≡ true → fits from d ≡ true → there (datum_cast to o d) ≡ true
    datum_there booleans to (boolean b) w h = boolean_there to b w
    datum_there from to (boolean b) w h = cc
    datum_there from to (integer z) w h = integer_there to z (cast_of_integers from to (integer_fits from z h) w)
    datum_there strings to (text t) w h = text_there to t w
    datum_there from to (text t) w h = cc
    datum_there binaries to (bytes t) w h = bytes_there to t w
    datum_there from to (bytes t) w h = cc
    datum_there (lists j) (lists k) (list ds) w h = list_there (items_cast k o ds) (items_there j k ds w h)
    datum_there from to (list ds) w h = cc

    items_there : (from to : Kind) (ds : Slots) → is_cast from to ≡ true → all_fit from ds ≡ true → there (items_cast to o ds) ≡ true
    items_there from to no_slots w h = refl
    items_there from to (absent ds) w h = before_there (Ok None) (items_cast to o ds) refl (items_there from to ds w h)
    items_there from to (present d ds) w h =
        let p = both (fits from d) (all_fit from ds) h in
        before_there (datum_cast to o d) (items_cast to o ds) (datum_there from to d w p.0) (items_there from to ds w p.1)

  slot_there : (from to : Kind) (s : Slot) → is_cast from to ≡ true → slot_fits from s ≡ true → there (cast_slot from to o s) ≡ true
  slot_there from to None w h = refl
  slot_there from to (Some d) w h = datum_there from to d w h

  slots_there : (from to : Kind) (xs : List Slot) → is_cast from to ≡ true → slots_fit from xs ≡ true → there (items_cast to o (slots xs)) ≡ true
  slots_there from to [] w h = refl
  slots_there from to (x ∷ xs) w h =
      let p = both (slot_fits from x) (slots_fit from xs) h in
      ap there (items_first from to o x xs) ∙ before_there (cast_slot from to o x) (items_cast to o (slots xs)) (slot_there from to x w p.0) (slots_there from to xs w p.1)

  rows_there : (e : PxError) (r : Result Slots PxError) → there r ≡ true → (made_slots r >>= λ ys. Ok (rows ys)) ≡ Err e → ⊥
  rows_there e (Ok ds) t h = cc
  rows_there e (Err f) t h = cc

  unit_there : (e : PxError) (r : Result Slot PxError) → there r ≡ true → (r >>= λ s. Ok (unit s)) ≡ Err e → ⊥
  unit_there e (Ok s) t h = cc
  unit_there e (Err f) t h = cc

  cell_there : (from to : Kind) (c : Cell) (e : PxError) → is_cast from to ≡ true → slots_fit from (list_of c) ≡ true → cast_cell from to o c ≡ Err e → ⊥
  cell_there from to (unit s) e w h f = unit_there e (cast_slot from to o s) (slot_there from to s w (both (slot_fits from s) true h).0) f
  cell_there from to (rows xs) e w h f = rows_there e (items_cast to o (slots xs)) (slots_there from to xs w h) f

  -- values that fit their type are never refused
  cast_refused : (to : Kind) (a : NamedCell) (e : PxError) → slots_fit a.kind (list_of a.cell) ≡ true → cast_named to o a ≡ Err e → cast_kind a.kind to ≡ Err e
  cast_refused to a e fit h = by (is_cast a.kind to) refl h
    where
      under_refused : (made : Result Cell PxError) → (made ≡ Err e → ⊥) → under a.name to made ≡ Err e → ⊥
      under_refused (Ok c) f g = cc
      under_refused (Err d) f g = f (cc)

      by : (b : Bool) → is_cast a.kind to ≡ b → (kind_where b to >>= λ k. under a.name k (cast_cell a.kind to o a.cell)) ≡ Err e → kind_where b to ≡ Err e
      by true w g = absurd (under_refused (cast_cell a.kind to o a.cell) (cell_there a.kind to a.cell e w fit) g)
      by false w g = cc

  fit_cell : (k : Kind) (b : Bool) (xs : List Slot) → slots_fit k xs ≡ true → slots_fit k (list_of (cell_of b xs)) ≡ true
  fit_cell k false xs h = h
  fit_cell k true [] h = refl
  fit_cell k true (x ∷ xs) h = ap (λ b. b && true) (both (slot_fits k x) (slots_fit k xs) h).0

  -- and so on a context that reads from one cell
  pub lane_refused : (to : Kind) (a : Context) → IsContext a → has_lane a ≡ true → slots_fit a.values.kind a.values.slots ≡ true → (e : PxError) (n : ℕ) → Refuses e (cast_named to o (lane_of a))
      → (cast_kind (cell_kind a) to ≡ Err e) ⊎ IsRefusal e (cast_answers to o a) n
  lane_refused to a ok h fit e n r = by (refuses_or e (cast_named to o (lane_of a)) r)
    where
      by : (e ≡ OutOfMemory) ⊎ (cast_named to o (lane_of a) ≡ Err e) → (cast_kind (cell_kind a) to ≡ Err e) ⊎ IsRefusal e (cast_answers to o a) n
      by (inl m) = inr (inl (inl m))
      by (inr f) =
          let fits = fit_cell a.values.kind (is_unit_literal a.layout) a.values.slots fit in
          inl (ap (λ k. cast_kind k to) (lane_kind a ok h) ∙ cast_refused to (lane_of a) e fits f)

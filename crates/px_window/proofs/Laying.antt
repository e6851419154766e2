-- What cells have for the rows of their parts, one part after another.
use Rattle.std.proofs.Common.{◌≡◌, ℕ, ◌+◌, ◌^◌, ◌<◌, ◌==◌, Bool, true, false, List, [], ◌∷◌, ◌++◌, Result, Ok, Err, length, map, replicate, refl, sym, ◌∙◌, ap, subst, arith, append_assoc, length-append, if◌then◌else◌}
use Rattle.std.specs.List.{concat, zip}
use Rattle.std.proofs.lemmas.Bool.Decides.{nat_tests}
use Rattle.std.proofs.lemmas.List.{length-map, length-replicate, replicate_more}
use Rattle.px_value.proofs.Refusing.{only_memory, refuses_same}
use Rattle.px_column.specs.Prelude.{Answers, Kind, Refuses, Series, Slot}
use Rattle.px_column.specs.Result.{◌>>=◌}
use Rattle.px_value.specs.declared.error.PxError.{PxError}
use Rattle.px_value.specs.declared.error.PxError.TheVariants.{ComputeError}
use Rattle.px_value.specs.declared.error.ComputeWhy.TheVariants.{WindowLength}
use Rattle.px_frame.specs.Cell.{Cell, unit, rows, list_of}
use Rattle.px_frame.specs.Frame.{series_at}
use Rattle.px_frame.specs.Groups.{Groups, rows_of}
use Rattle.px_tree.specs.Window.{in_row_order, part_slots, placed}
use Rattle.px_context.specs.Context.{Context, cell_kind, cells_of}
use Rattle.px_context.specs.Part.{Part, part, parts_in}
use Rattle.px_window.specs.Placed.{column_with, laid_slots, rows_placed}
use Rattle.px_window.specs.Places.{HoldsEachRowOnce, row_places}
use Rattle.px_window.proofs.Joining.{in_order_at}

-- it has as many places as its part has rows
part_long : (p : List ℕ) (c : Cell) (xs : List Slot) → part_slots p c ≡ Ok xs → length xs ≡ length p
part_long p (unit s) xs e = let same : xs ≡ replicate (length p) s = cc in ap length same ∙ length-replicate (length p) s
part_long p (rows ys) xs e = by (length ys == length p) refl e
  where
    by : (b : Bool) → (length ys == length p) ≡ b → (if b then Ok ys else Err (ComputeError WindowLength)) ≡ Ok xs → length xs ≡ length p
    by true h f = let same : xs ≡ ys = cc in ap length same ∙ grind (arith, nat_tests)
    by false h f = absurd (cc)

-- what is refused before something is made of it is refused before anything else
pub refused_before : {X Y Z : Type 0} (e : PxError) (r : Result X PxError) (f : X → Y) (g : X → Result Z PxError) → Refuses e (r >>= λ x. Ok (f x)) → Refuses e (r >>= g)
refused_before e (Ok x) f g h = only_memory e (f x) (g x) h
refused_before {X} {Y} {Z} e (Err x) f g h = refuses_same Y Z x e h

-- the cells of parts with their type
pub cells_back : (k : Kind) (cs : List Cell) → map (λ (p : Part). p.cell) (map (part k) cs) ≡ cs
cells_back k [] = refl
cells_back k (c ∷ cs) = ap (λ (ds : List Cell). c ∷ ds) (cells_back k cs)

-- each of them is of one type
abbrev pub AreOfKind : Kind → List Part → Type 0
AreOfKind k [] = Unit {0}
AreOfKind k (p ∷ ps) = (p.kind ≡ k) × AreOfKind k ps

pub of_kind : (k : Kind) (cs : List Cell) → AreOfKind k (map (part k) cs)
of_kind k [] = tt
of_kind k (c ∷ cs) = (refl, of_kind k cs)

-- the cells of some parts
abbrev pub cells_in : List Part → List Cell
cells_in ps = map (λ (p : Part). p.cell) ps

-- one step after another
bind_assoc : {X Y Z : Type 0} (r : Result X PxError) (f : X → Result Y PxError) (g : Y → Result Z PxError) → (r >>= λ x. f x >>= g) ≡ ((r >>= f) >>= g)
bind_assoc (Ok x) f g = refl
bind_assoc (Err e) f g = refl

-- the cells of one part more
module _ (ps rest : List (List ℕ)) (old left : List Part) (built : Series) (p : List ℕ) (q : Part) (whole : Result (List Slot) PxError) (e : ps ≡ p ∷ rest) (f : old ≡ q ∷ left)
    (h : whole ≡ (laid_slots ps (cells_in old) >>= λ xs. Ok (built.slots ++ xs))) where
  whole_is : whole ≡ (laid_slots (p ∷ rest) (q.cell ∷ cells_in left) >>= λ xs. Ok (built.slots ++ xs))
  whole_is = h ∙ (λ i. laid_slots (e i) (cells_in (f i)) >>= λ xs. Ok (built.slots ++ xs))

  pub laid_more : (new : Series) → (part_slots p q.cell >>= λ xs. Ok (record built { slots = built.slots ++ xs })) ≡ Ok new → whole ≡ (laid_slots rest (cells_in left) >>= λ xs. Ok (new.slots ++ xs))
  laid_more new made = whole_is ∙ by (part_slots p q.cell) (laid_slots rest (cells_in left)) made
    where
      by : (r : Result (List Slot) PxError) (s : Result (List Slot) PxError) → (r >>= λ xs. Ok (record built { slots = built.slots ++ xs })) ≡ Ok new
          → ((r >>= λ xs. s >>= λ others. Ok (xs ++ others)) >>= λ xs. Ok (built.slots ++ xs)) ≡ (s >>= λ xs. Ok (new.slots ++ xs))
      by (Ok xs) (Ok ys) g =
          let same : new ≡ record built { slots = built.slots ++ xs } = cc in
          ap Ok (sym (append_assoc built.slots xs ys) ∙ ap (λ (s : Series). s.slots ++ ys) (sym same))
      by (Ok xs) (Err x) g = refl
      by (Err x) s g = absurd (cc)

  -- and what refuses it
  pub laid_refused : (x : PxError) (name : List ℕ) (k : Kind) → Refuses x (part_slots p q.cell >>= λ xs. Ok (record built { slots = built.slots ++ xs })) → Refuses x (column_with name k whole)
  laid_refused x name k r =
      let put = λ (xs : List Slot). record built { slots = built.slots ++ xs } in
      let more : List Slot → Result (List Slot) PxError = λ xs. laid_slots rest (cells_in left) >>= λ others. Ok (xs ++ others) in
      let after : List Slot → Result (List Slot) PxError = λ xs. Ok (built.slots ++ xs) in
      let made : List Slot → Result Series PxError = λ xs. Ok (record { name = name; kind = k; slots = xs }) in
      let all = refused_before x (part_slots p q.cell) put (λ xs. (more xs >>= after) >>= made) r in
      subst (Refuses x) (bind_assoc (part_slots p q.cell) (λ xs. more xs >>= after) made ∙ ap (λ (w : Result (List Slot) PxError). w >>= made) (bind_assoc (part_slots p q.cell) more after ∙ sym whole_is)) all

-- what one part more leaves
pub part_pushed : (p : List ℕ) (c : Cell) (built new : Series) → (part_slots p c >>= λ xs. Ok (record built { slots = built.slots ++ xs })) ≡ Ok new
    → (new.name ≡ built.name) × (new.kind ≡ built.kind) × (length new.slots ≡ length built.slots + length p)
part_pushed p c built new made = by (part_slots p c) refl made
  where
    by : (r : Result (List Slot) PxError) → part_slots p c ≡ r → (r >>= λ xs. Ok (record built { slots = built.slots ++ xs })) ≡ Ok new
        → (new.name ≡ built.name) × (new.kind ≡ built.kind) × (length new.slots ≡ length built.slots + length p)
    by (Ok xs) e g =
        let same : new ≡ record built { slots = built.slots ++ xs } = cc in
        (ap (λ (s : Series). s.name) same, ap (λ (s : Series). s.kind) same, ap (λ (s : Series). length s.slots) same ∙ length-append built.slots xs ∙ ap (λ n. length built.slots + n) (part_long p c xs e))
    by (Err x) e g = absurd (cc)

zip_append : (p rest : List ℕ) (xs ys : List Slot) → length xs ≡ length p → zip p xs ++ zip rest ys ≡ zip (p ++ rest) (xs ++ ys)
zip_append [] rest [] ys h = refl
zip_append [] rest (x ∷ xs) ys h = absurd (omega (arith, h))
zip_append (r ∷ p) rest [] ys h = absurd (omega (arith, h))
zip_append (r ∷ p) rest (x ∷ xs) ys h = ap (λ (qs : List (ℕ × Slot)). (r, x) ∷ qs) (zip_append p rest xs ys (omega (arith, h)))

-- the parts' rows, each beside what the cell of its part has for it
placed_laid : (ps : List (List ℕ)) (cells : List Cell) → length cells ≡ length ps → placed (zip ps cells) ≡ (laid_slots ps cells >>= λ xs. Ok (zip (concat ps) xs))
placed_laid [] cells h = refl
placed_laid (p ∷ ps) [] h = absurd (omega (arith, h))
placed_laid (p ∷ ps) (c ∷ cells) h =
    ap (λ r. part_slots p c >>= λ xs. r >>= λ others. Ok (zip p xs ++ others)) (placed_laid ps cells (omega (arith, h))) ∙ by (part_slots p c) refl (laid_slots ps cells)
  where
    by : (r : Result (List Slot) PxError) → part_slots p c ≡ r → (s : Result (List Slot) PxError)
        → (r >>= λ xs. (s >>= λ ys. Ok (zip (concat ps) ys)) >>= λ others. Ok (zip p xs ++ others)) ≡ ((r >>= λ xs. s >>= λ others. Ok (xs ++ others)) >>= λ xs. Ok (zip (p ++ concat ps) xs))
    by (Ok xs) e (Ok ys) = ap Ok (zip_append p (concat ps) xs ys (part_long p c xs e))
    by (Ok xs) e (Err x) = refl
    by (Err x) e s = refl

laid_long : (ps : List (List ℕ)) (cells : List Cell) (zs : List Slot) → length cells ≡ length ps → laid_slots ps cells ≡ Ok zs → length zs ≡ length (concat ps)
laid_long [] cells zs h e = let same : zs ≡ [] = cc in ap length same
laid_long (p ∷ ps) [] zs h e = absurd (omega (arith, h))
laid_long (p ∷ ps) (c ∷ cells) zs h e = by (part_slots p c) refl (laid_slots ps cells) (λ ys f. laid_long ps cells ys (omega (arith, h)) f) e
  where
    by : (r : Result (List Slot) PxError) → part_slots p c ≡ r → (s : Result (List Slot) PxError) → ((ys : List Slot) → s ≡ Ok ys → length ys ≡ length (concat ps))
        → (r >>= λ xs. s >>= λ others. Ok (xs ++ others)) ≡ Ok zs → length zs ≡ length (p ++ concat ps)
    by (Ok xs) e (Ok ys) rest f =
        let same : zs ≡ xs ++ ys = cc in
        ap length same ∙ omega (arith, length-append xs ys, length-append p (concat ps), part_long p c xs e, rest ys refl)
    by (Ok xs) e (Err x) rest f = absurd (cc)
    by (Err x) e s rest f = absurd (cc)

module _ (c : Context) (g : Groups) (h : length (cells_of c) ≡ length (rows_of g)) where
  abbrev laid : Result (List Slot) PxError
  laid = laid_slots (rows_of g) (cells_of c)

  abbrev in_rows : List Slot → Series
  in_rows xs = record { name = c.values.name; kind = cell_kind c; slots = in_row_order g.height (zip (concat (rows_of g)) xs) }

  -- the cells at their parts' rows, told by what they have one after another
  placed_by_laid : rows_placed c g ≡ (laid >>= λ xs. Ok (in_rows xs))
  placed_by_laid =
      ap (λ r. column_with c.values.name (cell_kind c) ((r >>= λ places. Ok (rows (in_row_order g.height places))) >>= λ cell. Ok (list_of cell))) (placed_laid (rows_of g) (cells_of c) h) ∙ by laid
    where
      by : (r : Result (List Slot) PxError) → column_with c.values.name (cell_kind c) (((r >>= λ xs. Ok (zip (concat (rows_of g)) xs)) >>= λ places. Ok (rows (in_row_order g.height places))) >>= λ cell. Ok (list_of cell)) ≡ (r >>= λ xs. Ok (in_rows xs))
      by (Ok xs) = refl
      by (Err e) = refl

  -- what refuses them
  pub placed_refused : (e : PxError) → Refuses e (column_with c.values.name (cell_kind c) laid) → Refuses e (rows_placed c g)
  placed_refused e r = subst (Refuses e) (sym placed_by_laid) (refused_before e laid (λ (xs : List Slot). record { name = c.values.name; kind = cell_kind c; slots = xs }) (λ xs. Ok (in_rows xs)) r)

  -- there are as many as rows
  pub placed_long : (s : Series) → column_with c.values.name (cell_kind c) laid ≡ Ok s → length s.slots ≡ length (concat (rows_of g))
  placed_long s e = by laid refl e
    where
      by : (q : Result (List Slot) PxError) → laid ≡ q → column_with c.values.name (cell_kind c) q ≡ Ok s → length s.slots ≡ length (concat (rows_of g))
      by (Ok xs) f k =
          let column : Series = record { name = c.values.name; kind = cell_kind c; slots = xs } in
          let same : s ≡ column = cc in
          ap (λ (t : Series). length t.slots) same ∙ laid_long (rows_of g) (cells_of c) xs h f
      by (Err x) f k = absurd (cc)

  -- and they are taken in the order of the rows
  pub placed_taken : (s : Series) (r : Result Series PxError) → HoldsEachRowOnce g → column_with c.values.name (cell_kind c) laid ≡ Ok s → Answers r (Ok (series_at (row_places g) s)) → Answers r (rows_placed c g)
  placed_taken s r once e = by laid refl e
    where
      by : (q : Result (List Slot) PxError) → laid ≡ q → column_with c.values.name (cell_kind c) q ≡ Ok s → Answers r (Ok (series_at (row_places g) s)) → Answers r (rows_placed c g)
      by (Ok xs) f k =
          let column : Series = record { name = c.values.name; kind = cell_kind c; slots = xs } in
          let same : s ≡ column = cc in
          let there = in_order_at g.height (concat (rows_of g)) once xs (laid_long (rows_of g) (cells_of c) xs h f) in
          let all : Ok (series_at (row_places g) s) ≡ rows_placed c g =
          ap (λ (t : Series). Ok (series_at (row_places g) t)) same ∙ (λ i. Ok (record { name = c.values.name; kind = cell_kind c; slots = there i }))
          ∙ ap (λ q. q >>= λ ys. Ok (in_rows ys)) (sym f) ∙ sym placed_by_laid in
          subst (Answers r) all
      by (Err x) f k = absurd (cc)

-- a unit once more
pub unit_more : (b s s' : Series) (n : ℕ) (x y : Slot) → s ≡ record b { slots = b.slots ++ replicate n x } → s' ≡ record s { slots = s.slots ++ y ∷ [] } → y ≡ x → s' ≡ record b { slots = b.slots ++ replicate (n + 1) x }
unit_more b s s' n x y e f g =
    f ∙ (λ i. record (e i) { slots = (e i).slots ++ g i ∷ [] })
    ∙ (λ i. record b { slots = (append_assoc b.slots (replicate n x) (x ∷ []) ∙ ap (λ (ys : List Slot). b.slots ++ ys) (replicate_more n x)) i })

-- there is room for it
pub unit_room : (b s : Series) (n count : ℕ) (x : Slot) → s ≡ record b { slots = b.slots ++ replicate n x } → n < count → length b.slots + count < 2 ^ 32 → length s.slots + 1 < 2 ^ 32
unit_room b s n count x e h room = omega (arith, ap (λ (t : Series). length t.slots) e, length-append b.slots (replicate n x), length-replicate n x, h, room)

-- the cells of a context, with their types, are its cells
pub pieces_back : (c : Context) (ps : List Part) → ps ≡ parts_in c.layout c.values c.groups → cells_in ps ≡ cells_of c
pieces_back c ps e = ap cells_in e ∙ cells_back (cell_kind c) (cells_of c)

-- and there are as many
pub cells_many : (c : Context) (ps : List Part) (m : ℕ) → ps ≡ parts_in c.layout c.values c.groups → length ps ≡ m → length (cells_of c) ≡ m
cells_many c ps m e h = ap length (sym (pieces_back c ps e)) ∙ length-map ps (λ (p : Part). p.cell) ∙ h

-- and are of the cells' type
pub pieces_kind : (c : Context) (ps : List Part) → ps ≡ parts_in c.layout c.values c.groups → AreOfKind (cell_kind c) ps
pieces_kind c ps e = subst (AreOfKind (cell_kind c)) (sym e) (of_kind (cell_kind c) (cells_of c))

-- one of them more
pub kind_first : (k : Kind) (old left : List Part) (q : Part) → old ≡ q ∷ left → AreOfKind k old → (q.kind ≡ k) × AreOfKind k left
kind_first k old left q e h = subst (AreOfKind k) e h

-- before the first part
laid_start : (r : Result (List Slot) PxError) → r ≡ (r >>= λ xs. Ok ([] ++ xs))
laid_start (Ok xs) = refl
laid_start (Err e) = refl

pub none_laid : (ps : List (List ℕ)) (cells : List Cell) (left : List Part) (built : Series) → cells_in left ≡ cells → built.slots ≡ [] → laid_slots ps cells ≡ (laid_slots ps (cells_in left) >>= λ xs. Ok (built.slots ++ xs))
none_laid ps cells left built e h = laid_start (laid_slots ps cells) ∙ (λ i. laid_slots ps (sym e i) >>= λ xs. Ok (sym h i ++ xs))

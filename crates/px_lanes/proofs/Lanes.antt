-- Contexts that read their cells from one cell, and what a node makes of these.
use Rattle.std.proofs.Common.{◌≡◌, ◌⊎◌, inl, inr, ℕ, Bool, true, false, ◌&&◌, ◌||◌, if◌then◌else◌, List, [], ◌∷◌, Result, Ok, length, map, refl, sym, ap, ◌∙◌, arith, eq-eqb}
use Rattle.std.specs.List.{list_all}
use Rattle.std.proofs.lemmas.Bool.Decides.{nat_tests}
use Rattle.px_column.specs.Prelude.{Kind, Series, slot_at}
use Rattle.px_value.proofs.FitLaws.{both}
use Rattle.px_value.specs.declared.error.PxError.{PxError}
use Rattle.px_frame.specs.Cell.{Cell, unit, rows, is_unit_cell, cell_of, list_of}
use Rattle.px_frame.specs.Frame.{slots_at}
use Rattle.px_frame.specs.Groups.{Group, Groups, IsGroups, is_group}
use Rattle.px_frame.specs.Spread.{NamedCell}
use Rattle.px_nodes.specs.Together.{stands_at}
use Rattle.px_context.specs.Built.{is_unit_literal}
use Rattle.px_context.specs.Context.{Context, HasShape, IsContext, cell_kind, cells_in, has_units, kind_in}
use Rattle.px_context.specs.declared.agg_state.Layout.{Layout}
use Rattle.px_context.specs.declared.agg_state.Layout.TheVariants.{Lists, Scalars, Flat, Rows, Unit as Single}
use Rattle.px_lanes.specs.Lane.{has_lane, lane_of, untouched_of, with_lane}
use Rattle.px_lanes.specs.Made.{ArePaired, IsMade, KeepsGroups, answers_of_two, named_cells}
use Rattle.px_lanes.proofs.Rowwise.{cell_at}

-- a cell at the rows of a group, under its name and with its type
abbrev pub named_at : NamedCell → List ℕ → NamedCell
named_at c g = record { name = c.name; kind = c.kind; cell = cell_at c.cell g }

one_row : (l : Layout) (s : Series) (g : Groups) → HasShape l s g → is_unit_literal l ≡ true → length s.slots ≡ 1
one_row Single s g h u = h
one_row _ s g h u = cc

-- a unit literal has one row
pub unit_one : (c : Context) → IsContext c → is_unit_literal c.layout ≡ true → length c.values.slots ≡ 1
unit_one c ok u = one_row c.layout c.values c.groups ok.shape u

module _ {A B C : Type 0} where
  fused : (f : B → C) (g : A → B) (xs : List A) → map f (map g xs) ≡ map (λ x. f (g x)) xs
  fused f g [] = refl
  fused f g (x ∷ xs) = ap (λ ys. f (g x) ∷ ys) (fused f g xs)

module _ {A B C : Type 0} where
  same_for_all : (c : C) (xs : List A) (ys : List B) → length xs ≡ length ys → map (λ _. c) xs ≡ map (λ _. c) ys
  same_for_all c [] [] h = refl
  same_for_all c [] (y ∷ ys) h = absurd (omega (arith, h))
  same_for_all c (x ∷ xs) [] h = absurd (omega (arith, h))
  same_for_all c (x ∷ xs) (y ∷ ys) h = ap (λ cs. c ∷ cs) (same_for_all c xs ys (omega (arith, h)))

lane_in : (l : Layout) (s : Series) (u : Bool) (own : Groups) (gs : List Group) → (is_unit_literal l || u) ≡ true → (u ≡ true → l ≡ Flat) → length own.groups ≡ length gs → (u ≡ true → own.groups ≡ gs)
    → cells_in l s own ≡ map (λ p. cell_at (cell_of (is_unit_literal l) s.slots) p.rows) gs
lane_in Single s u own gs h m n k = same_for_all (unit (slot_at s.slots 0)) own.groups gs n
lane_in Flat s true own gs h m n k = ap (map (λ (p : Group). rows (slots_at s.slots p.rows))) (k refl)
lane_in Flat s false own gs h m n k = cc
lane_in Lists s true own gs h m n k = let e = m refl in cc
lane_in Lists s false own gs h m n k = cc
lane_in Scalars s true own gs h m n k = let e = m refl in cc
lane_in Scalars s false own gs h m n k = cc
lane_in Rows s true own gs h m n k = let e = m refl in cc
lane_in Rows s false own gs h m n k = cc

lane_kind_in : (l : Layout) (k : Kind) (u : Bool) → (is_unit_literal l || u) ≡ true → (u ≡ true → l ≡ Flat) → kind_in l k ≡ k
lane_kind_in Lists k true h m = let e = m refl in cc
lane_kind_in Lists k false h m = cc
lane_kind_in Scalars k u h m = refl
lane_kind_in Flat k u h m = refl
lane_kind_in Rows k u h m = refl
lane_kind_in Single k u h m = refl

-- the type of its cells is that of its column
pub lane_kind : (c : Context) → IsContext c → has_lane c ≡ true → cell_kind c ≡ c.values.kind
lane_kind c ok h = lane_kind_in c.layout c.values.kind c.untouched h ok.mark

lane_units_in : (l : Layout) (s : Series) (u : Bool) → (is_unit_literal l || u) ≡ true → (u ≡ true → l ≡ Flat) → has_units l ≡ is_unit_cell (cell_of (is_unit_literal l) s.slots)
lane_units_in Lists s u h m = refl
lane_units_in Scalars s true h m = let e = m refl in cc
lane_units_in Scalars s false h m = cc
lane_units_in Flat s u h m = refl
lane_units_in Rows s u h m = refl
lane_units_in Single s u h m = refl

-- its cells are units where that cell is
pub lane_units : (c : Context) → IsContext c → has_lane c ≡ true → has_units c.layout ≡ is_unit_cell (lane_of c).cell
lane_units c ok h = lane_units_in c.layout c.values c.untouched h ok.mark

lane_stands_in : (l : Layout) (s : Series) (u : Bool) (g : Groups) (n : ℕ) → (is_unit_literal l || u) ≡ true → HasShape l s g → (u ≡ true → l ≡ Flat) → (u ≡ true → g.height ≡ n)
    → stands_at n (cell_of (is_unit_literal l) s.slots) ≡ true
lane_stands_in Single s u g n h f m k = refl
lane_stands_in Flat s true g n h f m k = eq-eqb _ _ (f ∙ k refl)
lane_stands_in Flat s false g n h f m k = cc
lane_stands_in Lists s true g n h f m k = let e = m refl in cc
lane_stands_in Lists s false g n h f m k = cc
lane_stands_in Scalars s true g n h f m k = let e = m refl in cc
lane_stands_in Scalars s false g n h f m k = cc
lane_stands_in Rows s true g n h f m k = let e = m refl in cc
lane_stands_in Rows s false g n h f m k = cc

-- a unit has one value
pub unit_length : (c : Cell) → is_unit_cell c ≡ true → length (list_of c) ≡ 1
unit_length (unit s) h = refl
unit_length (rows xs) h = cc

-- and a list that stands at so many rows has as many
pub rows_length : (n : ℕ) (c : Cell) → is_unit_cell c ≡ false → stands_at n c ≡ true → length (list_of c) ≡ n
rows_length n (unit s) h e = cc
rows_length n (rows xs) h e = grind (arith, nat_tests, e)

-- a context that reads its cells from one cell at these groups, as whose height it has rows
pub record ReadsAt (g : Groups) (c : Context) : Type 0 where
  pub cells : named_cells c ≡ map (λ p. named_at (lane_of c) p.rows) g.groups
  pub stands : stands_at g.height (lane_of c).cell ≡ true

pub reads_at : (c : Context) (g : Groups) → IsContext c → has_lane c ≡ true → length c.groups.groups ≡ length g.groups → (c.untouched ≡ true → c.groups ≡ g) → ReadsAt g c
reads_at c g ok h n k = record {
  cells =
      let read = lane_in c.layout c.values c.untouched c.groups g.groups h ok.mark n (λ u. ap (λ (q : Groups). q.groups) (k u)) in
      (λ i. map (λ (x : Cell). record { name = c.values.name; kind = lane_kind c ok h i; cell = x }) (read i))
      ∙ fused (λ (x : Cell). record { name = c.values.name; kind = c.values.kind; cell = x }) (λ (p : Group). cell_at (lane_of c).cell p.rows) g.groups;
  stands = lane_stands_in c.layout c.values c.untouched c.groups g.height h ok.shape ok.mark (λ u. ap (λ (q : Groups). q.height) (k u));
}

-- what a context that reads from another cell has in common with the one that it is made of, and with that cell
pub record IsLane (b : Context) (m : NamedCell) (c : Context) : Type 0 where
  pub cells : named_cells c ≡ map (λ p. named_at m p.rows) b.groups.groups
  pub name : c.values.name ≡ m.name
  pub kind : cell_kind c ≡ m.kind
  pub units : has_units c.layout ≡ is_unit_cell m.cell
  pub groups : c.groups ≡ b.groups
  pub mark : c.untouched ≡ true → b.untouched ≡ true
  pub lane : (is_unit_cell m.cell ≡ false → b.untouched ≡ true) → has_lane c ≡ true

lane_made : (b : Context) (name : List ℕ) (k : Kind) (x : Cell) → IsLane b (record { name = name; kind = k; cell = x }) (with_lane b (record { name = name; kind = k; cell = x }))
lane_made b name k (unit s) = record {
  cells = fused (λ (x : Cell). record { name = name; kind = k; cell = x }) (λ (p : Group). unit s) b.groups.groups;
  name = refl;
  kind = refl;
  units = refl;
  groups = refl;
  mark = λ h. cc;
  lane = λ h. refl;
}
lane_made b name k (rows xs) = record {
  cells = fused (λ (x : Cell). record { name = name; kind = k; cell = x }) (λ (p : Group). rows (slots_at xs p.rows)) b.groups.groups;
  name = refl;
  kind = refl;
  units = refl;
  groups = refl;
  mark = λ h. h;
  lane = λ h. h refl;
}

pub lane_is : (b : Context) (m : NamedCell) → IsLane b m (with_lane b m)
lane_is b m = lane_made b m.name m.kind m.cell

-- the answer of a node that reads from one cell at the groups of b
pub lane_answer : (b : Context) (m : NamedCell) (answers : List (Result NamedCell PxError)) (name : List ℕ) (kind : Result Kind PxError) (one : Bool) (count : ℕ)
    → answers ≡ map Ok (map (λ p. named_at m p.rows) b.groups.groups) → m.name ≡ name → kind ≡ Ok m.kind → is_unit_cell m.cell ≡ one → length b.groups.groups ≡ count
    → IsMade answers name kind one count (with_lane b m)
lane_answer b m answers name kind one count cells n k u len =
    let made = lane_is b m in
    record {
      cells = cells ∙ ap (map Ok) (sym made.cells);
      name_is = made.name ∙ n;
      kind_is = k ∙ ap Ok (sym made.kind);
      shape = made.units ∙ u;
      count_is = ap (λ (q : Groups). length q.groups) made.groups ∙ len;
    }

-- a node of two inputs that goes row by row
pub record IsRowWise (node : NamedCell → NamedCell → Result NamedCell PxError) (kind : Kind → Kind → Result Kind PxError) : Type 0 where
  pub at : (n : ℕ) (a b c : NamedCell) (g : List ℕ) → stands_at n a.cell ≡ true → stands_at n b.cell ≡ true → is_group n (record { first = 0; rows = g }) ≡ true → node a b ≡ Ok c → node (named_at a g) (named_at b g) ≡ Ok (named_at c g)
  pub stands : (n : ℕ) (a b c : NamedCell) → stands_at n a.cell ≡ true → stands_at n b.cell ≡ true → node a b ≡ Ok c → stands_at n c.cell ≡ true
  pub name : (a b c : NamedCell) → node a b ≡ Ok c → c.name ≡ a.name
  pub kind_is : (a b c : NamedCell) → node a b ≡ Ok c → kind a.kind b.kind ≡ Ok c.kind
  pub shape : (a b c : NamedCell) → node a b ≡ Ok c → is_unit_cell c.cell ≡ (is_unit_cell a.cell && is_unit_cell b.cell)

zip_made : (node : NamedCell → NamedCell → Result NamedCell PxError) (a b c : NamedCell) (n : ℕ) (gs : List Group) → list_all (is_group n) gs ≡ true
    → ((g : List ℕ) → is_group n (record { first = 0; rows = g }) ≡ true → node (named_at a g) (named_at b g) ≡ Ok (named_at c g))
    → answers_of_two node (map (λ p. named_at a p.rows) gs) (map (λ p. named_at b p.rows) gs) ≡ map Ok (map (λ p. named_at c p.rows) gs)
zip_made node a b c n [] h f = refl
zip_made node a b c n (g ∷ gs) h f =
    let p = both (is_group n g) (list_all (is_group n) gs) h in
    λ i. f g.rows p.0 i ∷ zip_made node a b c n gs p.1 f i

pub unit_or : (a b : Bool) → (a || b) ≡ true → b ≡ false → a ≡ true
unit_or true b h e = refl
unit_or false b h e = absurd (cc)

pub unit_of : (a : Bool) (s : Series) → a ≡ true → is_unit_cell (cell_of a s.slots) ≡ true
unit_of true s h = refl
unit_of false s h = cc

module _ (l r : Context) (p : ArePaired l r) (okl : IsContext l) (okr : IsContext r) (hl : has_lane l ≡ true) (hr : has_lane r ≡ true) where
  -- two such contexts read at the groups of an untouched one
  pub two_read : (u : Bool) → l.untouched ≡ u → ReadsAt (untouched_of l r).groups l × ReadsAt (untouched_of l r).groups r
  two_read true e =
      let here : untouched_of l r ≡ l = ap (λ (b : Bool). if b then l else r) e in
      rw here (reads_at l l.groups okl hl refl (λ _. refl), reads_at r l.groups okr hr (sym p.count) (λ v. sym (p.groups e v)))
  two_read false e =
      let here : untouched_of l r ≡ r = ap (λ (b : Bool). if b then l else r) e in
      rw here (reads_at l r.groups okl hl p.count (λ u. absurd (cc)), reads_at r r.groups okr hr refl (λ _. refl))

  pub two_count : (u : Bool) → l.untouched ≡ u → length (untouched_of l r).groups.groups ≡ length l.groups.groups
  two_count true e = ap (λ (b : Bool). length (if b then l else r).groups.groups) e
  two_count false e = ap (λ (b : Bool). length (if b then l else r).groups.groups) e ∙ sym p.count

  pub two_groups : (u : Bool) → l.untouched ≡ u → IsGroups l.groups.height l.groups.groups → IsGroups r.groups.height r.groups.groups
      → IsGroups (untouched_of l r).groups.height (untouched_of l r).groups.groups
  two_groups true e gl gr = rw e gl
  two_groups false e gl gr = rw e gr

  module _ (node : NamedCell → NamedCell → Result NamedCell PxError) (kind : Kind → Kind → Result Kind PxError) (law : IsRowWise node kind) (m : NamedCell) (made : node (lane_of l) (lane_of r) ≡ Ok m) where
    -- the answer's rows are those of the groups
    pub stands_two : stands_at (untouched_of l r).groups.height m.cell ≡ true
    stands_two =
        let read = two_read l.untouched refl in
        law.stands (untouched_of l r).groups.height (lane_of l) (lane_of r) m read.0.stands read.1.stands made

    -- a node that goes row by row, on the cells from which they read, is the node on the cells of each group
    pub made_two : IsGroups l.groups.height l.groups.groups → IsGroups r.groups.height r.groups.groups
        → IsMade (answers_of_two node (named_cells l) (named_cells r)) l.values.name (kind (cell_kind l) (cell_kind r)) (has_units l.layout && has_units r.layout) (length l.groups.groups) (with_lane (untouched_of l r) m)
    made_two gl gr =
        let b = untouched_of l r in
        let read = two_read l.untouched refl in
        let groups = two_groups l.untouched refl gl gr in
        let each = zip_made node (lane_of l) (lane_of r) m b.groups.height b.groups.groups groups.each
        (λ g group. law.at b.groups.height (lane_of l) (lane_of r) m g read.0.stands read.1.stands group made) in
        lane_answer b m (answers_of_two node (named_cells l) (named_cells r)) l.values.name (kind (cell_kind l) (cell_kind r)) (has_units l.layout && has_units r.layout) (length l.groups.groups)
        ((λ i. answers_of_two node (read.0.cells i) (read.1.cells i)) ∙ each)
        (law.name (lane_of l) (lane_of r) m made)
        ((λ i. kind (lane_kind l okl hl i) (lane_kind r okr hr i)) ∙ law.kind_is (lane_of l) (lane_of r) m made)
        (law.shape (lane_of l) (lane_of r) m made ∙ (λ i. sym (lane_units l okl hl) i && sym (lane_units r okr hr) i))
        (two_count l.untouched refl)

    -- it has a lane itself
    pub lane_two : has_lane (with_lane (untouched_of l r) m) ≡ true
    lane_two = (lane_is (untouched_of l r) m).lane (λ h. by l.untouched refl r.untouched refl h)
      where
        by : (u : Bool) → l.untouched ≡ u → (v : Bool) → r.untouched ≡ v → is_unit_cell m.cell ≡ false → (untouched_of l r).untouched ≡ true
        by true e v f h = rw e refl
        by false e true f h = rw e f
        by false e false f h =
            let x : is_unit_literal l.layout ≡ true = unit_or (is_unit_literal l.layout) l.untouched hl e in
            let y : is_unit_literal r.layout ≡ true = unit_or (is_unit_literal r.layout) r.untouched hr f in
            let shape = law.shape (lane_of l) (lane_of r) m made in
            let units : (is_unit_cell (lane_of l).cell && is_unit_cell (lane_of r).cell) ≡ true = λ i. unit_of (is_unit_literal l.layout) l.values x i && unit_of (is_unit_literal r.layout) r.values y i in
            absurd (cc (shape, units, h))

  -- the groups of an untouched answer are those of an untouched one of the two
  pub kept_two : (m : NamedCell) → KeepsGroups (l ∷ r ∷ []) (with_lane (untouched_of l r) m)
  kept_two m h =
      let is = lane_is (untouched_of l r) m in
      by l.untouched refl (is.mark h) is.groups
    where
      by : (u : Bool) → l.untouched ≡ u → (untouched_of l r).untouched ≡ true → (with_lane (untouched_of l r) m).groups ≡ (untouched_of l r).groups
          → ((l.untouched ≡ true) × ((with_lane (untouched_of l r) m).groups ≡ l.groups)) ⊎ (((r.untouched ≡ true) × ((with_lane (untouched_of l r) m).groups ≡ r.groups)) ⊎ ⊥)
      by true e k q = inl (e, q ∙ ap (λ (b : Bool). (if b then l else r).groups) e)
      by false e k q = inr (inl (sym (ap (λ (b : Bool). (if b then l else r).untouched) e) ∙ k, q ∙ ap (λ (b : Bool). (if b then l else r).groups) e))

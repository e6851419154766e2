-- Three contexts that read their cells from one cell each, and what a node makes of these.
use Rattle.std.proofs.Common.{◌≡◌, inl, inr, ℕ, Bool, true, false, ◌&&◌, if◌then◌else◌, List, [], ◌∷◌, Result, Ok, length, map, refl, subst, sym, ap, ◌∙◌}
use Rattle.std.specs.List.{list_all}
use Rattle.px_column.specs.Prelude.{Kind}
use Rattle.px_value.proofs.FitLaws.{both}
use Rattle.px_value.specs.declared.error.PxError.{PxError}
use Rattle.px_frame.specs.Cell.{is_unit_cell}
use Rattle.px_frame.specs.Groups.{Group, IsGroups, is_group}
use Rattle.px_frame.specs.Spread.{NamedCell}
use Rattle.px_nodes.specs.Together.{stands_at}
use Rattle.px_context.specs.Built.{is_unit_literal}
use Rattle.px_context.specs.Context.{Context, IsContext, cell_kind, has_units}
use Rattle.px_lanes.specs.Lane.{has_lane, lane_of, untouched_of, with_lane}
use Rattle.px_lanes.specs.Made.{ArePaired, AreUntouched, IsMade, KeepsGroups, named_cells}
use Rattle.px_lanes.proofs.Lanes.{ReadsAt, lane_answer, lane_is, lane_kind, lane_units, named_at, reads_at, unit_of, unit_or}
use Rattle.px_group_nodes.specs.Three.{AreThreePaired, answers_of_three, untouched_of_three}

-- a node of three inputs that goes row by row, under the second one's name
pub record IsRowWiseThree (node : NamedCell → NamedCell → NamedCell → Result NamedCell PxError) (kind : Kind → Kind → Kind → Result Kind PxError) : Type 0 where
  pub at : (n : ℕ) (a b c d : NamedCell) (g : List ℕ) → stands_at n a.cell ≡ true → stands_at n b.cell ≡ true → stands_at n c.cell ≡ true → is_group n (record { first = 0; rows = g }) ≡ true → node a b c ≡ Ok d
      → node (named_at a g) (named_at b g) (named_at c g) ≡ Ok (named_at d g)
  pub stands : (n : ℕ) (a b c d : NamedCell) → stands_at n a.cell ≡ true → stands_at n b.cell ≡ true → stands_at n c.cell ≡ true → node a b c ≡ Ok d → stands_at n d.cell ≡ true
  pub name : (a b c d : NamedCell) → node a b c ≡ Ok d → d.name ≡ b.name
  pub kind_is : (a b c d : NamedCell) → node a b c ≡ Ok d → kind a.kind b.kind c.kind ≡ Ok d.kind
  pub shape : (a b c d : NamedCell) → node a b c ≡ Ok d → is_unit_cell d.cell ≡ (is_unit_cell a.cell && (is_unit_cell b.cell && is_unit_cell c.cell))

zip_three_made : (node : NamedCell → NamedCell → NamedCell → Result NamedCell PxError) (a b c d : NamedCell) (n : ℕ) (gs : List Group) → list_all (is_group n) gs ≡ true
    → ((g : List ℕ) → is_group n (record { first = 0; rows = g }) ≡ true → node (named_at a g) (named_at b g) (named_at c g) ≡ Ok (named_at d g))
    → answers_of_three node (map (λ p. named_at a p.rows) gs) (map (λ p. named_at b p.rows) gs) (map (λ p. named_at c p.rows) gs) ≡ map Ok (map (λ p. named_at d p.rows) gs)
zip_three_made node a b c d n [] h f = refl
zip_three_made node a b c d n (g ∷ gs) h f =
    let p = both (is_group n g) (list_all (is_group n) gs) h in
    λ i. f g.rows p.0 i ∷ zip_three_made node a b c d n gs p.1 f i

-- a context has as many groups as another, and the same where it is untouched
record Follows (u x : Context) : Type 0 where
  pub count : length x.groups.groups ≡ length u.groups.groups
  pub groups : x.untouched ≡ true → x.groups ≡ u.groups

itself : (a : Context) → Follows a a
itself a = record { count = refl; groups = λ _. refl }

second_of : (a b : Context) → ArePaired a b → a.untouched ≡ true → Follows a b
second_of a b p h = record { count = sym p.count; groups = λ v. sym (p.groups h v) }

first_of : (a b : Context) → ArePaired a b → a.untouched ≡ false → Follows b a
first_of a b p h = record { count = p.count; groups = λ v. absurd (cc) }

one_of : (P : Context → Type 0) (u : Bool) (a b : Context) → P a → P b → P (if u then a else b)
one_of P true a b p q = p
one_of P false a b p q = q

module _ (a b c : Context) where
  -- what holds of each of three contexts
  pub among : (P : Context → Type 0) → P a → P b → P c → P (untouched_of_three a b c)
  among P p q r = one_of P a.untouched a (untouched_of b c) p (one_of P b.untouched b c q r)

  -- the groups of an untouched answer are those of an untouched one of the three
  pub kept_three : (m : NamedCell) → KeepsGroups (a ∷ b ∷ c ∷ []) (with_lane (untouched_of_three a b c) m)
  kept_three m h =
      let is = lane_is (untouched_of_three a b c) m in
      subst (λ g. AreUntouched g (a ∷ b ∷ c ∷ [])) (sym is.groups)
      (among (λ (x : Context). x.untouched ≡ true → AreUntouched x.groups (a ∷ b ∷ c ∷ [])) (λ u. inl (u, refl)) (λ u. inr (inl (u, refl))) (λ u. inr (inr (inl (u, refl)))) (is.mark h))

  module _ (p : AreThreePaired a b c) where
    follow : (x : Bool) → a.untouched ≡ x → (y : Bool) → b.untouched ≡ y → Follows (untouched_of_three a b c) a × (Follows (untouched_of_three a b c) b × Follows (untouched_of_three a b c) c)
    follow true e y f =
        let here : untouched_of_three a b c ≡ a = ap (λ (t : Bool). if t then a else untouched_of b c) e in
        rw here (itself a, (second_of a b p.first_second e, second_of a c p.first_third e))
    follow false e true f =
        let here : untouched_of_three a b c ≡ b = λ i. if e i then a else (if f i then b else c) in
        rw here (first_of a b p.first_second e, (itself b, second_of b c p.second_third f))
    follow false e false f =
        let here : untouched_of_three a b c ≡ c = λ i. if e i then a else (if f i then b else c) in
        rw here (first_of a c p.first_third e, (first_of b c p.second_third f, itself c))

    module _ (oka : IsContext a) (okb : IsContext b) (okc : IsContext c) (ha : has_lane a ≡ true) (hb : has_lane b ≡ true) (hc : has_lane c ≡ true) where
      -- three such contexts read at the groups of an untouched one
      pub three_read : ReadsAt (untouched_of_three a b c).groups a × (ReadsAt (untouched_of_three a b c).groups b × ReadsAt (untouched_of_three a b c).groups c)
      three_read =
          let g = (untouched_of_three a b c).groups in
          let all = follow a.untouched refl b.untouched refl in
          (reads_at a g oka ha all.0.count all.0.groups, (reads_at b g okb hb all.1.0.count all.1.0.groups, reads_at c g okc hc all.1.1.count all.1.1.groups))

      module _ (node : NamedCell → NamedCell → NamedCell → Result NamedCell PxError) (kind : Kind → Kind → Kind → Result Kind PxError) (law : IsRowWiseThree node kind) (m : NamedCell)
          (made : node (lane_of a) (lane_of b) (lane_of c) ≡ Ok m) where
        -- the answer's rows are those of the groups
        pub stands_three : stands_at (untouched_of_three a b c).groups.height m.cell ≡ true
        stands_three = law.stands (untouched_of_three a b c).groups.height (lane_of a) (lane_of b) (lane_of c) m three_read.0.stands three_read.1.0.stands three_read.1.1.stands made

        -- a node that goes row by row, on the cells from which they read, is the node on the cells of each group
        pub made_three : IsGroups a.groups.height a.groups.groups → IsGroups b.groups.height b.groups.groups → IsGroups c.groups.height c.groups.groups
            → IsMade (answers_of_three node (named_cells a) (named_cells b) (named_cells c)) b.values.name (kind (cell_kind a) (cell_kind b) (cell_kind c)) (has_units a.layout && (has_units b.layout && has_units c.layout))
            (length a.groups.groups) (with_lane (untouched_of_three a b c) m)
        made_three ga gb gc =
            let u = untouched_of_three a b c in
            let groups = among (λ (x : Context). IsGroups x.groups.height x.groups.groups) ga gb gc in
            let read = three_read in
            let each = zip_three_made node (lane_of a) (lane_of b) (lane_of c) m u.groups.height u.groups.groups groups.each
            (λ g group. law.at u.groups.height (lane_of a) (lane_of b) (lane_of c) m g read.0.stands read.1.0.stands read.1.1.stands group made) in
            lane_answer u m (answers_of_three node (named_cells a) (named_cells b) (named_cells c)) b.values.name (kind (cell_kind a) (cell_kind b) (cell_kind c)) (has_units a.layout && (has_units b.layout && has_units c.layout))
            (length a.groups.groups)
            ((λ i. answers_of_three node (read.0.cells i) (read.1.0.cells i) (read.1.1.cells i)) ∙ each)
            (law.name (lane_of a) (lane_of b) (lane_of c) m made)
            ((λ i. kind (lane_kind a oka ha i) (lane_kind b okb hb i) (lane_kind c okc hc i)) ∙ law.kind_is (lane_of a) (lane_of b) (lane_of c) m made)
            (law.shape (lane_of a) (lane_of b) (lane_of c) m made ∙ (λ i. sym (lane_units a oka ha) i && (sym (lane_units b okb hb) i && sym (lane_units c okc hc) i)))
            (sym (follow a.untouched refl b.untouched refl).0.count)

        -- it has a lane itself
        pub lane_three : has_lane (with_lane (untouched_of_three a b c) m) ≡ true
        lane_three = (lane_is (untouched_of_three a b c) m).lane (λ h. by a.untouched refl b.untouched refl c.untouched refl h)
          where
            by : (x : Bool) → a.untouched ≡ x → (y : Bool) → b.untouched ≡ y → (z : Bool) → c.untouched ≡ z → is_unit_cell m.cell ≡ false → (untouched_of_three a b c).untouched ≡ true
            by true e y f z k h = rw e refl
            by false e true f z k h = rw (e, f) refl
            by false e false f true k h = rw (e, f) k
            by false e false f false k h =
                let p : is_unit_literal a.layout ≡ true = unit_or (is_unit_literal a.layout) a.untouched ha e in
                let q : is_unit_literal b.layout ≡ true = unit_or (is_unit_literal b.layout) b.untouched hb f in
                let r : is_unit_literal c.layout ≡ true = unit_or (is_unit_literal c.layout) c.untouched hc k in
                let shape = law.shape (lane_of a) (lane_of b) (lane_of c) m made in
                let units : (is_unit_cell (lane_of a).cell && (is_unit_cell (lane_of b).cell && is_unit_cell (lane_of c).cell)) ≡ true =
                λ i. unit_of (is_unit_literal a.layout) a.values p i && (unit_of (is_unit_literal b.layout) b.values q i && unit_of (is_unit_literal c.layout) c.values r i) in
                absurd (cc (shape, units, h))

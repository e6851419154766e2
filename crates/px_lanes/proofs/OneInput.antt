-- What a node makes of the cells of one context.
use Rattle.std.proofs.Common.{◌≡◌, inl, ℕ, Bool, true, false, List, [], ◌∷◌, ◌++◌, Result, Ok, length, map, refl, sym, ap, ◌∙◌}
use Rattle.std.specs.List.{list_all}
use Rattle.px_column.specs.Prelude.{Kind, Refuses}
use Rattle.px_value.proofs.FitLaws.{both}
use Rattle.px_value.specs.declared.error.PxError.{PxError}
use Rattle.px_frame.specs.Cell.{is_unit_cell}
use Rattle.px_frame.specs.Groups.{Group, IsGroups, is_group}
use Rattle.px_frame.specs.Spread.{NamedCell}
use Rattle.px_nodes.specs.Together.{stands_at}
use Rattle.px_context.specs.Built.{is_unit_literal}
use Rattle.px_context.specs.Context.{Context, IsContext, cell_kind, has_units}
use Rattle.px_context.specs.Part.{Part}
use Rattle.px_lanes.specs.Lane.{has_lane, lane_of, with_lane}
use Rattle.px_lanes.specs.Made.{IsFault, IsMade, KeepsGroups, named_cells, named_part}
use Rattle.px_lanes.specs.One.{answers_of_one}
use Rattle.px_lanes.proofs.Lanes.{ReadsAt, lane_answer, lane_is, lane_kind, lane_units, named_at, reads_at, unit_of, unit_or}
use Rattle.px_lanes.proofs.Stepping.{answer_more, answer_refused, answers_all}

module _ (node : NamedCell → Result NamedCell PxError) (n : List ℕ) (done : List NamedCell) (ps : List Part) (whole : List (Result NamedCell PxError))
    (h : map Ok done ++ answers_of_one node (map (named_part n) ps) ≡ whole) where
  -- the answers are made where no cell is left
  pub one_made : ps ≡ [] → whole ≡ map Ok done
  one_made e = answers_all done (answers_of_one node (map (named_part n) ps)) whole (ap (λ qs. answers_of_one node (map (named_part n) qs)) e) h

  module _ (qs : List Part) (x : Part) (e : ps ≡ x ∷ qs) where
    one_ahead : map Ok done ++ (node (named_part n x) ∷ answers_of_one node (map (named_part n) qs)) ≡ whole
    one_ahead = ap (λ rs. map Ok done ++ answers_of_one node (map (named_part n) rs)) (sym e) ∙ h

    -- one more
    pub one_more : (c : NamedCell) → node (named_part n x) ≡ Ok c → map Ok (done ++ c ∷ []) ++ answers_of_one node (map (named_part n) qs) ≡ whole
    one_more c made = answer_more done (node (named_part n x)) c (answers_of_one node (map (named_part n) qs)) whole made one_ahead

    -- or a refusal
    pub one_refused : (r : PxError) → Refuses r (node (named_part n x)) → IsFault r whole
    one_refused r refused = answer_refused r done (node (named_part n x)) (answers_of_one node (map (named_part n) qs)) whole refused one_ahead

-- a node of one input that goes row by row
pub record IsRowByRow (node : NamedCell → Result NamedCell PxError) (kind : Kind → Result Kind PxError) : Type 0 where
  pub at : (n : ℕ) (a c : NamedCell) (g : List ℕ) → stands_at n a.cell ≡ true → is_group n (record { first = 0; rows = g }) ≡ true → node a ≡ Ok c → node (named_at a g) ≡ Ok (named_at c g)
  pub stands : (n : ℕ) (a c : NamedCell) → stands_at n a.cell ≡ true → node a ≡ Ok c → stands_at n c.cell ≡ true
  pub name : (a c : NamedCell) → node a ≡ Ok c → c.name ≡ a.name
  pub kind_is : (a c : NamedCell) → node a ≡ Ok c → kind a.kind ≡ Ok c.kind
  pub shape : (a c : NamedCell) → node a ≡ Ok c → is_unit_cell c.cell ≡ is_unit_cell a.cell

each_made : (node : NamedCell → Result NamedCell PxError) (a c : NamedCell) (n : ℕ) (gs : List Group) → list_all (is_group n) gs ≡ true
    → ((g : List ℕ) → is_group n (record { first = 0; rows = g }) ≡ true → node (named_at a g) ≡ Ok (named_at c g))
    → answers_of_one node (map (λ p. named_at a p.rows) gs) ≡ map Ok (map (λ p. named_at c p.rows) gs)
each_made node a c n [] h f = refl
each_made node a c n (g ∷ gs) h f =
    let p = both (is_group n g) (list_all (is_group n) gs) h in
    λ i. f g.rows p.0 i ∷ each_made node a c n gs p.1 f i

module _ (a : Context) (ok : IsContext a) (h : has_lane a ≡ true) where
  -- a context that reads from one cell reads at its own groups
  pub one_read : ReadsAt a.groups a
  one_read = reads_at a a.groups ok h refl (λ _. refl)

  module _ (node : NamedCell → Result NamedCell PxError) (kind : Kind → Result Kind PxError) (law : IsRowByRow node kind) (m : NamedCell) (made : node (lane_of a) ≡ Ok m) where
    -- the answer's rows are those of the groups
    pub stands_one : stands_at a.groups.height m.cell ≡ true
    stands_one = law.stands a.groups.height (lane_of a) m one_read.stands made

    -- a node that goes row by row, on the cell from which it reads, is the node on the cell of each group
    pub made_one : IsGroups a.groups.height a.groups.groups
        → IsMade (answers_of_one node (named_cells a)) a.values.name (kind (cell_kind a)) (has_units a.layout) (length a.groups.groups) (with_lane a m)
    made_one groups =
        let each = each_made node (lane_of a) m a.groups.height a.groups.groups groups.each
        (λ g group. law.at a.groups.height (lane_of a) m g one_read.stands group made) in
        lane_answer a m (answers_of_one node (named_cells a)) a.values.name (kind (cell_kind a)) (has_units a.layout) (length a.groups.groups)
        (ap (answers_of_one node) one_read.cells ∙ each)
        (law.name (lane_of a) m made)
        (ap kind (lane_kind a ok h) ∙ law.kind_is (lane_of a) m made)
        (law.shape (lane_of a) m made ∙ sym (lane_units a ok h))
        refl

    -- it has a lane itself
    pub lane_one : has_lane (with_lane a m) ≡ true
    lane_one = (lane_is a m).lane (λ f. by a.untouched refl f)
      where
        by : (u : Bool) → a.untouched ≡ u → is_unit_cell m.cell ≡ false → a.untouched ≡ true
        by true e f = e
        by false e f =
            let unit = unit_of (is_unit_literal a.layout) a.values (unit_or (is_unit_literal a.layout) a.untouched h e) in
            let shape = law.shape (lane_of a) m made in
            absurd (cc (shape, unit, f))

  -- an untouched answer has its groups
  pub kept_one : (m : NamedCell) → KeepsGroups (a ∷ []) (with_lane a m)
  kept_one m u = inl ((lane_is a m).mark u, (lane_is a m).groups)

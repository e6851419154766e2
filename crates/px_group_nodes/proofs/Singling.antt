-- What a mask keeps of a unit literal.
use Rattle.std.proofs.Common.{◌≡◌, ◌⊎◌, inl, inr, ℕ, zero, suc, ◌==◌, ◌<◌, ◌^◌, Bool, true, false, ◌&&◌, ◌||◌, cond, List, [], ◌∷◌, Ok, Err, length, map, replicate, nat_lt, refl, subst, sym, ap, ◌∙◌, arith, if◌then◌else◌}
use Rattle.std.specs.List.{list_all}
use Rattle.std.proofs.lemmas.Bool.Decides.{nat_tests}
use Rattle.std.proofs.lemmas.List.{length-map, length-replicate}
use Rattle.px_column.specs.Operator.{is_boolean_kind}
use Rattle.px_column.specs.Prelude.{Kind, Refuses, Slot, slot_at}
use Rattle.px_column.specs.Repeat.{repeated}
use Rattle.px_column.specs.Result.{◌>>=◌}
use Rattle.px_column.specs.Rows.{kept_rows}
use Rattle.px_value.proofs.FitLaws.{both}
use Rattle.px_value.specs.declared.error.PxError.{PxError}
use Rattle.px_value.specs.declared.error.PxError.TheVariants.{OutOfMemory, SchemaMismatch, ShapeMismatch}
use Rattle.px_frame.specs.Cell.{Cell, unit, rows, is_unit_cell, list_of}
use Rattle.px_frame.specs.Frame.{are_below, slots_at}
use Rattle.px_frame.specs.Groups.{Group, IsGroups, is_group}
use Rattle.px_frame.specs.Spread.{NamedCell, column_of_cell, spread}
use Rattle.px_tree.specs.Node.{filter_cell}
use Rattle.px_nodes.specs.Named.{filter_named, under}
use Rattle.px_context.specs.Built.{is_unit_literal, with_flat, with_lit}
use Rattle.px_context.specs.Context.{Context, IsContext, cell_kind}
use Rattle.px_lanes.specs.Lane.{has_lane, lane_of}
use Rattle.px_lanes.specs.Made.{ArePaired, HasFault, answers_of_two, named_cells}
use Rattle.px_lanes.proofs.Joining.{named}
use Rattle.px_lanes.proofs.Lanes.{ReadsAt, lane_kind, named_at, reads_at}
use Rattle.px_lanes.proofs.Rowwise.{cell_at}
use Rattle.px_group_nodes.specs.Filter.{IsFiltered, filter_answers, filtered_kind}
use Rattle.px_group_nodes.specs.Kept.{has_one_row, kept_flat}
use Rattle.px_group_nodes.proofs.Masking.{flat_cells, flat_mask, untouched_filtered, untouched_lane, unit_mask}
use Rattle.px_group_nodes.proofs.Selections.{filter_under, kept_list}
use Rattle.px_value.proofs.Refusing.{refuses_or}

unit_there : (c : Cell) (g : List ℕ) → is_unit_cell c ≡ true → cell_at c g ≡ c
unit_there (unit s) g h = refl
unit_there (rows xs) g h = cc

same_there : (x : NamedCell) (g : List ℕ) → is_unit_cell x.cell ≡ true → named_at x g ≡ x
same_there x g h = ap (λ (c : Cell). named x.name x.kind c) (unit_there x.cell g h)

-- a unit by a unit is the same for each group
zip_units : (x y m : NamedCell) (gs : List Group) → is_unit_cell x.cell ≡ true → is_unit_cell y.cell ≡ true → filter_named x y ≡ Ok m
    → answers_of_two filter_named (map (λ p. named_at x p.rows) gs) (map (λ p. named_at y p.rows) gs) ≡ map Ok (map (λ _. m) gs)
zip_units x y m [] u v h = refl
zip_units x y m (g ∷ gs) u v h = λ i. ((λ j. filter_named (same_there x g.rows u j) (same_there y g.rows v j)) ∙ h) i ∷ zip_units x y m gs u v h i

list_again : (c : Cell) → is_unit_cell c ≡ false → rows (list_of c) ≡ c
list_again (rows xs) h = refl
list_again (unit s) h = cc

each_list : (m : NamedCell) (gs : List Group) → is_unit_cell m.cell ≡ false → map (named m.name m.kind) (map (λ _. rows (list_of m.cell)) gs) ≡ map (λ _. m) gs
each_list m [] h = refl
each_list m (g ∷ gs) h = λ i. named m.name m.kind (list_again m.cell h i) ∷ each_list m gs h i

never_refused : (n : List ℕ) (k : Kind) (c mask : Cell) (e : PxError) → is_unit_cell mask ≡ true → under n k (filter_cell c mask) ≡ Err e → ⊥
never_refused n k c (unit s) e u h = cc
never_refused n k c (rows xs) e u h = cc

unit_lane : (c : Context) → is_unit_literal c.layout ≡ true → is_unit_cell (lane_of c).cell ≡ true
unit_lane c h = ap is_unit_cell (unit_mask c h)

has_unit : (c : Context) → is_unit_literal c.layout ≡ true → has_lane c ≡ true
has_unit c h = ap (λ (b : Bool). b || c.untouched) h

module _ (a by : Context) (oka : IsContext a) (okb : IsContext by) (len : length a.groups.groups ≡ length by.groups.groups) (ha : is_unit_literal a.layout ≡ true) (t : is_boolean_kind (cell_kind by) ≡ true) where
  kind : filtered_kind a by ≡ Ok (cell_kind a)
  kind = ap (λ (b : Bool). if b then Ok (cell_kind a) else Err SchemaMismatch) t

  module _ (hb : is_unit_literal by.layout ≡ true) where
    reads_a : ReadsAt a.groups a
    reads_a = reads_at a a.groups oka (has_unit a ha) refl (λ _. refl)

    reads_b : ReadsAt a.groups by
    reads_b = reads_at by a.groups okb (has_unit by hb) (sym len) (λ v. absurd (cc (okb.mark v, hb)))

    -- the literal of what a unit keeps of another
    pub units_filtered : (m : NamedCell) → filter_named (lane_of a) (lane_of by) ≡ Ok m → IsFiltered a by (with_lit false a (column_of_cell m))
    units_filtered m h =
        let is = filter_under (lane_of a) (lane_of by) m h in
        let list = kept_list (spread (length (list_of (lane_of a).cell)) (lane_of by).cell) (list_of (lane_of a).cell) m.cell is.cell in
        record {
          cells = (λ i. answers_of_two filter_named (reads_a.cells i) (reads_b.cells i)) ∙ zip_units (lane_of a) (lane_of by) m a.groups.groups (unit_lane a ha) (unit_lane by hb) h
              ∙ ap (map Ok) (sym (each_list m a.groups.groups list));
          name_is = is.name_is;
          kind_is = kind ∙ ap Ok (lane_kind a oka (has_unit a ha) ∙ sym is.kind_is);
          shape = refl;
          count_is = refl;
        }

    -- is refused for want of memory alone
    pub units_refused : (e : PxError) → Refuses e (filter_named (lane_of a) (lane_of by)) → e ≡ OutOfMemory
    units_refused e h = tested (refuses_or e (filter_named (lane_of a) (lane_of by)) h)
      where
        truths : is_boolean_kind (lane_of by).kind ≡ true
        truths = ap is_boolean_kind (sym (lane_kind by okb (has_unit by hb))) ∙ t

        plain : filter_named (lane_of a) (lane_of by) ≡ under a.values.name a.values.kind (filter_cell (lane_of a).cell (lane_of by).cell)
        plain = ap (λ (b : Bool). if b then under a.values.name a.values.kind (filter_cell (lane_of a).cell (lane_of by).cell) else Err SchemaMismatch) truths

        tested : (e ≡ OutOfMemory) ⊎ (filter_named (lane_of a) (lane_of by) ≡ Err e) → e ≡ OutOfMemory
        tested (inl m) = m
        tested (inr f) = absurd (never_refused a.values.name a.values.kind (lane_of a).cell (lane_of by).cell e (unit_lane by hb) (sym plain ∙ f))

slot_repeated : (s : Slot) (n r : ℕ) → r < n → slot_at (replicate n s) r ≡ s
slot_repeated s zero r h = absurd (omega (arith, h))
slot_repeated s (suc n) zero h = refl
slot_repeated s (suc n) (suc r) h = slot_repeated s n r (omega (arith, h))

is_one : (n : ℕ) → (n == 1) ≡ true → n ≡ 1
is_one n h = grind (arith, nat_tests, h)

one_slot : (s : Slot) (n : ℕ) (g : List ℕ) → (length g == 1) ≡ true → are_below n g ≡ true → s ∷ [] ≡ slots_at (replicate n s) g
one_slot s n [] one below = absurd (omega (arith, is_one 0 one))
one_slot s n (r ∷ []) one below = let here : r < n = grind (arith, nat_tests, both (nat_lt r n) true below) in ap (λ x. x ∷ []) (sym (slot_repeated s n r here))
one_slot s n (r ∷ q ∷ g) one below = absurd (omega (arith, is_one (suc (suc (length g))) one))

-- a unit at groups of one row each is filtered as its repeated value
zip_singles : (n : List ℕ) (k : Kind) (s : Slot) (h : ℕ) (b : NamedCell) (gs : List Group) → list_all has_one_row gs ≡ true → list_all (is_group h) gs ≡ true
    → answers_of_two filter_named (map (λ (p : Group). named n k (unit s)) gs) (map (λ p. named_at b p.rows) gs)
    ≡ answers_of_two filter_named (map (λ (p : Group). named n k (rows (slots_at (replicate h s) p.rows))) gs) (map (λ p. named_at b p.rows) gs)
zip_singles n k s h b [] one ok = refl
zip_singles n k s h b (g ∷ gs) one ok =
    let p = both (has_one_row g) (list_all has_one_row gs) one in
    let q = both (is_group h g) (list_all (is_group h) gs) ok in
    let below = (both (are_below h g.rows) (nat_lt (length g.rows) (2 ^ 32)) q.0).0 in
    λ i. filter_named (named n k (rows (one_slot s h g.rows p.0 below i))) (named_at b g.rows) ∷ zip_singles n k s h b gs p.1 q.1 i

mask_unequal : (n : List ℕ) (k : Kind) (s : Slot) (b : NamedCell) (ms : List Slot) (g : List ℕ) → is_boolean_kind b.kind ≡ true → b.cell ≡ rows ms → (length g == 1) ≡ false
    → filter_named (named n k (unit s)) (named_at b g) ≡ Err ShapeMismatch
mask_unequal n k s b ms g t e one =
    let longer : (length (slots_at ms g) == 1) ≡ false = ap (λ m. m == 1) (length-map g (slot_at ms)) ∙ one in
    ap (λ (x : Bool). if x then under n k (filter_cell (unit s) (cell_at b.cell g)) else Err SchemaMismatch) t
    ∙ ap (λ (c : Cell). under n k (filter_cell (unit s) (cell_at c g))) e
    ∙ ap (λ (x : Bool). under n k (cond x (Ok (slots_at ms g)) (Err ShapeMismatch) >>= λ ts. Ok (rows (kept_rows ts (s ∷ []))))) longer

single_ahead : (n : List ℕ) (k : Kind) (s : Slot) (b : NamedCell) (ms : List Slot) (g : Group) (gs : List Group) (x : Bool) → is_boolean_kind b.kind ≡ true → b.cell ≡ rows ms → has_one_row g ≡ x
    → list_all has_one_row (g ∷ gs) ≡ false → (list_all has_one_row gs ≡ false → HasFault ShapeMismatch (answers_of_two filter_named (map (λ (p : Group). named n k (unit s)) gs) (map (λ p. named_at b p.rows) gs)))
    → HasFault ShapeMismatch (answers_of_two filter_named (map (λ (p : Group). named n k (unit s)) (g ∷ gs)) (map (λ p. named_at b p.rows) (g ∷ gs)))
single_ahead n k s b ms g gs false t e f h others = inl (mask_unequal n k s b ms g.rows t e f)
single_ahead n k s b ms g gs true t e f h others = inr (others (sym (ap (λ (x : Bool). x && list_all has_one_row gs) f) ∙ h))

-- and at others it is refused
single_fault : (n : List ℕ) (k : Kind) (s : Slot) (b : NamedCell) (ms : List Slot) (gs : List Group) → is_boolean_kind b.kind ≡ true → b.cell ≡ rows ms → list_all has_one_row gs ≡ false
    → HasFault ShapeMismatch (answers_of_two filter_named (map (λ (p : Group). named n k (unit s)) gs) (map (λ p. named_at b p.rows) gs))
single_fault n k s b ms [] t e h = cc
single_fault n k s b ms (g ∷ gs) t e h = single_ahead n k s b ms g gs (has_one_row g) t e refl h (λ left. single_fault n k s b ms gs t e left)

-- a unit at each row of a mask
abbrev pub spread_unit : Context → Context → Context
spread_unit a by = with_flat by (repeated a.values.name a.values.kind (slot_at a.values.slots 0) by.groups.height)

module _ (a by : Context) (oka : IsContext a) (okb : IsContext by) (len : length a.groups.groups ≡ length by.groups.groups) (ha : is_unit_literal a.layout ≡ true) (t : is_boolean_kind (cell_kind by) ≡ true) (u : by.untouched ≡ true) where
  read_unit : named_cells a ≡ map (λ (p : Group). named a.values.name a.values.kind (unit (slot_at a.values.slots 0))) by.groups.groups
  read_unit =
      (reads_at a by.groups oka (has_unit a ha) len (λ v. absurd (cc (oka.mark v, ha)))).cells
      ∙ (λ i. map (λ (p : Group). named a.values.name a.values.kind (cell_at (unit_mask a ha i) p.rows)) by.groups.groups)

  read_mask : named_cells by ≡ map (λ p. named_at (lane_of by) p.rows) by.groups.groups
  read_mask = (reads_at by by.groups okb (untouched_lane by u) refl (λ _. refl)).cells

  spread_ok : IsContext (spread_unit a by)
  spread_ok = record { shape = length-replicate by.groups.height (slot_at a.values.slots 0); pending = refl; mark = λ _. refl }

  spread_pair : ArePaired (spread_unit a by) by
  spread_pair = record { count = refl; groups = λ _ _. refl }

  -- is filtered as the unit itself, where each group has one row
  pub singles_filtered : list_all has_one_row by.groups.groups ≡ true → IsGroups by.groups.height by.groups.groups → IsFiltered a by (kept_flat (lane_of by).cell (spread_unit a by))
  singles_filtered one groups =
      let made = untouched_filtered (spread_unit a by) by spread_pair spread_ok okb u (untouched_lane by u) t groups in
      let same : filter_answers a by ≡ filter_answers (spread_unit a by) by =
      (λ i. answers_of_two filter_named (read_unit i) (read_mask i))
      ∙ zip_singles a.values.name a.values.kind (slot_at a.values.slots 0) by.groups.height (lane_of by) by.groups.groups one groups.each
      ∙ sym (λ i. answers_of_two filter_named (flat_cells (spread_unit a by) by.groups refl i) (read_mask i)) in
      record {
        cells = same ∙ made.cells;
        name_is = made.name_is;
        kind_is = (λ i. if is_boolean_kind (cell_kind by) then Ok (lane_kind a oka (has_unit a ha) i) else Err SchemaMismatch) ∙ made.kind_is;
        shape = made.shape;
        count_is = made.count_is ∙ sym len;
      }

  -- and else refused
  pub singles_refused : list_all has_one_row by.groups.groups ≡ false → HasFault ShapeMismatch (filter_answers a by)
  singles_refused one =
      let truths : is_boolean_kind by.values.kind ≡ true = ap is_boolean_kind (sym (lane_kind by okb (untouched_lane by u))) ∙ t in
      subst (HasFault ShapeMismatch) (sym (λ i. answers_of_two filter_named (read_unit i) (read_mask i)))
      (single_fault a.values.name a.values.kind (slot_at a.values.slots 0) (lane_of by) by.values.slots by.groups.groups truths (flat_mask by (okb.mark u)) one)

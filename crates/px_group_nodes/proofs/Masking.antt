-- What a mask keeps of flat values, where it reads from one cell.
use Rattle.std.proofs.Common.{◌≡◌, ℕ, ◌==◌, Bool, true, false, ◌||◌, cond, if◌then◌else◌, List, [], ◌∷◌, zero, suc, ◌<◌, ◌^◌, Ok, Err, length, map, filter, replicate, nat_lt, refl, sym, ap, ◌∙◌, arith, eq-eqb}
use Rattle.std.specs.List.{list_all}
use Rattle.std.proofs.lemmas.Bool.Decides.{nat_tests}
use Rattle.std.proofs.lemmas.List.{length-map}
use Rattle.px_column.specs.Operator.{is_boolean_kind}
use Rattle.px_column.specs.Prelude.{Kind, Slot, slot_at}
use Rattle.px_column.specs.Result.{◌>>=◌}
use Rattle.px_column.specs.Rows.{is_true, kept_rows}
use Rattle.px_value.proofs.FitLaws.{both}
use Rattle.px_value.specs.declared.error.PxError.TheVariants.{SchemaMismatch, ShapeMismatch}
use Rattle.px_frame.specs.Cell.{Cell, unit, rows, cell_of}
use Rattle.px_frame.specs.Frame.{are_below, slots_at}
use Rattle.px_frame.specs.Groups.{Group, Groups, IsGroups, is_group}
use Rattle.px_frame.specs.Spread.{NamedCell}
use Rattle.px_tree.specs.Node.{filter_cell}
use Rattle.px_nodes.specs.Named.{filter_named, under}
use Rattle.px_nodes.specs.Together.{stands_at}
use Rattle.px_context.proofs.Reading.{same_each}
use Rattle.px_context.specs.Built.{is_unit_literal, with_other_groups}
use Rattle.px_context.specs.Context.{Context, IsContext, cell_kind, cells_in, has_units, kind_in}
use Rattle.px_context.specs.declared.agg_state.Layout.{Layout}
use Rattle.px_context.specs.declared.agg_state.Layout.TheVariants.{Flat}
use Rattle.px_lanes.specs.Lane.{has_lane, lane_of}
use Rattle.px_lanes.specs.Made.{ArePaired, answers_of_two, named_cells}
use Rattle.px_lanes.proofs.Joining.{named}
use Rattle.px_lanes.proofs.Lanes.{ReadsAt, lane_kind, named_at, reads_at}
use Rattle.px_lanes.proofs.Rowwise.{cell_at}
use Rattle.px_group_nodes.specs.Filter.{IsFiltered, filter_answers, filtered_kind}
use Rattle.px_group_nodes.specs.Kept.{keeps_all, kept_flat, kept_group, kept_groups, truth_at}

kept_more : (h f : ℕ → Slot) (r : ℕ) (g : List ℕ) (b : Bool) → is_true (h r) ≡ b → kept_rows (map h g) (map f g) ≡ map f (filter (λ x. is_true (h x)) g)
    → kept_rows (map h (r ∷ g)) (map f (r ∷ g)) ≡ map f (filter (λ x. is_true (h x)) (r ∷ g))
kept_more h f r g true e others = rw e (ap (λ ys. f r ∷ ys) others)
kept_more h f r g false e others = rw e others

kept_each : (h f : ℕ → Slot) (g : List ℕ) → kept_rows (map h g) (map f g) ≡ map f (filter (λ r. is_true (h r)) g)
kept_each h f [] = refl
kept_each h f (r ∷ g) = kept_more h f r g (is_true (h r)) refl (kept_each h f g)

-- of the rows of a group
kept_at : (mask : Cell) (xs : List Slot) (g : List ℕ) → filter_cell (rows (slots_at xs g)) (cell_at mask g) ≡ Ok (rows (slots_at xs (filter (truth_at mask) g)))
kept_at (unit s) xs g =
    let each : replicate (length (slots_at xs g)) s ≡ map (λ _. s) g = ap (λ n. replicate n s) (length-map g (slot_at xs)) ∙ same_each s g in
    ap (λ ts. Ok (rows (kept_rows ts (slots_at xs g)))) each ∙ ap (λ ys. Ok (rows ys)) (kept_each (λ _. s) (slot_at xs) g)
kept_at (rows ms) xs g =
    let even : (length (slots_at ms g) == length (slots_at xs g)) ≡ true = eq-eqb _ _ (length-map g (slot_at ms) ∙ sym (length-map g (slot_at xs))) in
    ap (λ (b : Bool). cond b (Ok (slots_at ms g)) (Err ShapeMismatch) >>= λ ts. Ok (rows (kept_rows ts (slots_at xs g)))) even
    ∙ ap (λ ys. Ok (rows ys)) (kept_each (slot_at ms) (slot_at xs) g)

kept_named : (n : List ℕ) (k : Kind) (xs : List Slot) (b : NamedCell) (g : List ℕ) → is_boolean_kind b.kind ≡ true
    → filter_named (named_at (named n k (rows xs)) g) (named_at b g) ≡ Ok (named n k (rows (slots_at xs (filter (truth_at b.cell) g))))
kept_named n k xs b g h =
    ap (λ (t : Bool). if t then under n k (filter_cell (rows (slots_at xs g)) (cell_at b.cell g)) else Err SchemaMismatch) h
    ∙ ap (under n k) (kept_at b.cell xs g)

-- of the rows of all groups
zip_kept : (n : List ℕ) (k : Kind) (xs : List Slot) (b : NamedCell) (gs : List Group) → is_boolean_kind b.kind ≡ true
    → answers_of_two filter_named (map (λ p. named_at (named n k (rows xs)) p.rows) gs) (map (λ p. named_at b p.rows) gs)
    ≡ map Ok (map (λ (p : Group). named n k (rows (slots_at xs p.rows))) (map (kept_group b.cell) gs))
zip_kept n k xs b [] h = refl
zip_kept n k xs b (g ∷ gs) h = λ i. kept_named n k xs b g.rows h i ∷ zip_kept n k xs b gs h i

fused : (f : Cell → NamedCell) (g : Group → Cell) (gs : List Group) → map f (map g gs) ≡ map (λ p. f (g p)) gs
fused f g [] = refl
fused f g (p ∷ gs) = ap (λ ys. f (g p) ∷ ys) (fused f g gs)

-- the cells of flat values at some groups
pub flat_cells : (c : Context) (g : Groups) → c.layout ≡ Flat → named_cells (with_other_groups c g) ≡ map (λ (p : Group). named c.values.name c.values.kind (rows (slots_at c.values.slots p.rows))) g.groups
flat_cells c g h =
    (λ i. map (λ (x : Cell). record { name = c.values.name; kind = kind_in (h i) c.values.kind; cell = x }) (cells_in (h i) c.values g))
    ∙ fused (named c.values.name c.values.kind) (λ (p : Group). rows (slots_at c.values.slots p.rows)) g.groups

true_below : (ms : List Slot) (r : ℕ) → list_all is_true ms ≡ true → r < length ms → is_true (slot_at ms r) ≡ true
true_below [] r h l = absurd (omega (arith, l))
true_below (m ∷ ms) zero h l = (both (is_true m) (list_all is_true ms) h).0
true_below (m ∷ ms) (suc r) h l = true_below ms r (both (is_true m) (list_all is_true ms) h).1 (omega (arith, l))

-- a mask that is true everywhere keeps all rows that are below its length
all_rows_kept : (ms : List Slot) (g : List ℕ) → list_all is_true ms ≡ true → are_below (length ms) g ≡ true → filter (truth_at (rows ms)) g ≡ g
all_rows_kept ms [] h e = refl
all_rows_kept ms (r ∷ g) h e =
    let p = both (nat_lt r (length ms)) (are_below (length ms) g) e in
    let here : r < length ms = grind (arith, nat_tests, p.0) in
    rw (true_below ms r h here) (ap (λ ys. r ∷ ys) (all_rows_kept ms g h p.1))

each_by_unit : (s : Slot) (g : List ℕ) → is_true s ≡ true → filter (truth_at (unit s)) g ≡ g
each_by_unit s [] h = refl
each_by_unit s (r ∷ g) h = rw h (ap (λ ys. r ∷ ys) (each_by_unit s g h))

group_kept : (mask : Cell) (n : ℕ) (g : List ℕ) → stands_at n mask ≡ true → keeps_all mask ≡ true → are_below n g ≡ true → filter (truth_at mask) g ≡ g
group_kept (unit s) n g stands h e = each_by_unit s g (both (is_true s) true h).0
group_kept (rows ms) n g stands h e =
    let long : n ≡ length ms = grind (arith, nat_tests, stands) in
    all_rows_kept ms g h (ap (λ m. are_below m g) (sym long) ∙ e)

-- then the cells stay
cells_stay : (name : List ℕ) (k : Kind) (xs : List Slot) (mask : Cell) (n : ℕ) (gs : List Group) → stands_at n mask ≡ true → keeps_all mask ≡ true → list_all (is_group n) gs ≡ true
    → map (λ (p : Group). named name k (rows (slots_at xs p.rows))) (map (kept_group mask) gs) ≡ map (λ (p : Group). named name k (rows (slots_at xs p.rows))) gs
cells_stay name k xs mask n [] stands h e = refl
cells_stay name k xs mask n (g ∷ gs) stands h e =
    let p = both (is_group n g) (list_all (is_group n) gs) e in
    let below = (both (are_below n g.rows) (nat_lt (length g.rows) (2 ^ 32)) p.0).0 in
    λ i. named name k (rows (slots_at xs (group_kept mask n g.rows stands h below i))) ∷ cells_stay name k xs mask n gs stands h p.1 i

or_true : (x : Bool) → (x || true) ≡ true
or_true true = refl
or_true false = refl

-- an untouched context has a lane
pub untouched_lane : (c : Context) → c.untouched ≡ true → has_lane c ≡ true
untouched_lane c u = ap (λ (b : Bool). is_unit_literal c.layout || b) u ∙ or_true (is_unit_literal c.layout)

module _ (a by : Context) (p : ArePaired a by) (oka : IsContext a) (okb : IsContext by) (u : a.untouched ≡ true) (h : has_lane by ≡ true) where
  flat_a : named_cells a ≡ map (λ (p : Group). named a.values.name a.values.kind (rows (slots_at a.values.slots p.rows))) a.groups.groups
  flat_a = flat_cells a a.groups (oka.mark u)

  reads_by : ReadsAt a.groups by
  reads_by = reads_at by a.groups okb h (sym p.count) (λ v. sym (p.groups u v))

  answers_kept : is_boolean_kind (cell_kind by) ≡ true → filter_answers a by ≡ map Ok (named_cells (with_other_groups a (kept_groups (lane_of by).cell a.groups)))
  answers_kept t =
      let truths : is_boolean_kind by.values.kind ≡ true = ap is_boolean_kind (sym (lane_kind by okb h)) ∙ t in
      (λ i. answers_of_two filter_named (flat_a i) (reads_by.cells i)) ∙ zip_kept a.values.name a.values.kind a.values.slots (lane_of by) a.groups.groups truths
      ∙ ap (map Ok) (sym (flat_cells a (kept_groups (lane_of by).cell a.groups) (oka.mark u)))

  cells_kept : IsGroups a.groups.height a.groups.groups → keeps_all (lane_of by).cell ≡ true → named_cells (with_other_groups a (kept_groups (lane_of by).cell a.groups)) ≡ named_cells a
  cells_kept groups all =
      flat_cells a (kept_groups (lane_of by).cell a.groups) (oka.mark u)
      ∙ cells_stay a.values.name a.values.kind a.values.slots (lane_of by).cell a.groups.height a.groups.groups reads_by.stands all groups.each ∙ sym flat_a

  -- an untouched context at the rows that are kept is what a filter makes of it
  pub untouched_filtered : is_boolean_kind (cell_kind by) ≡ true → IsGroups a.groups.height a.groups.groups → IsFiltered a by (kept_flat (lane_of by).cell a)
  untouched_filtered t groups = tested (keeps_all (lane_of by).cell) refl
    where
      kind : filtered_kind a by ≡ Ok (cell_kind a)
      kind = ap (λ (b : Bool). if b then Ok (cell_kind a) else Err SchemaMismatch) t

      tested : (b : Bool) → keeps_all (lane_of by).cell ≡ b → IsFiltered a by (if b then a else with_other_groups a (kept_groups (lane_of by).cell a.groups))
      tested true e = record {
        cells = answers_kept t ∙ ap (map Ok) (cells_kept groups e);
        name_is = refl;
        kind_is = kind;
        shape = ap has_units (oka.mark u);
        count_is = refl;
      }
      tested false e = record {
        cells = answers_kept t;
        name_is = refl;
        kind_is = kind;
        shape = ap has_units (oka.mark u);
        count_is = length-map a.groups.groups (kept_group (lane_of by).cell);
      }

-- where it stays untouched, its groups are what they were
pub kept_keeps : (mask : Cell) (c : Context) → (kept_flat mask c).untouched ≡ true → (c.untouched ≡ true) × ((kept_flat mask c).groups ≡ c.groups)
kept_keeps mask c h = tested (keeps_all mask) h
  where
    tested : (b : Bool) → (if b then c else with_other_groups c (kept_groups mask c.groups)).untouched ≡ true
        → (c.untouched ≡ true) × ((if b then c else with_other_groups c (kept_groups mask c.groups)).groups ≡ c.groups)
    tested true g = (g, refl)
    tested false g = absurd (cc)

-- a mask that keeps all leaves it as it is
pub kept_stays : (mask : Cell) (c : Context) → keeps_all mask ≡ true → kept_flat mask c ≡ c
kept_stays mask c h = ap (λ (b : Bool). if b then c else with_other_groups c (kept_groups mask c.groups)) h

-- the cell of a mask that is flat
pub flat_mask : (c : Context) → c.layout ≡ Flat → (lane_of c).cell ≡ rows c.values.slots
flat_mask c h = ap (λ (l : Layout). cell_of (is_unit_literal l) c.values.slots) h

-- and of one that is a unit
pub unit_mask : (c : Context) → is_unit_literal c.layout ≡ true → (lane_of c).cell ≡ unit (slot_at c.values.slots 0)
unit_mask c h = ap (λ (b : Bool). cell_of b c.values.slots) h

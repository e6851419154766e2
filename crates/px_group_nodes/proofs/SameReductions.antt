-- Reductions of a unit literal: the same for each group.
use Rattle.std.proofs.Common.{◌≡◌, ◌⊎◌, inl, inr, ℕ, Bool, true, false, not, List, [], ◌∷◌, Result, Ok, Err, map, refl, sym, ◌∙◌, ap, subst}
use Rattle.px_column.specs.Prelude.{Kind, Refuses, slot_at}
use Rattle.px_column.specs.Reduction.{reduced_kind}
use Rattle.px_column.specs.Result.{◌>>=◌}
use Rattle.px_value.specs.declared.error.PxError.{PxError}
use Rattle.px_value.specs.declared.error.PxError.TheVariants.{OutOfMemory}
use Rattle.px_value.specs.declared.method.GroupByMethod.{GroupByMethod}
use Rattle.px_frame.specs.Cell.{Cell, is_unit_cell, rows, unit}
use Rattle.px_frame.specs.Groups.{Group}
use Rattle.px_frame.specs.Spread.{NamedCell, column_of_cell}
use Rattle.px_tree.specs.Node.{reduction_cell}
use Rattle.px_tree.specs.Shape.{is_implode}
use Rattle.px_nodes.specs.Named.{aggregation_named}
use Rattle.px_context.specs.Built.{is_unit_literal, with_lit}
use Rattle.px_context.specs.Context.{Context, cell_kind, cells_in, has_units, kind_in}
use Rattle.px_context.specs.declared.agg_state.Layout.{Layout}
use Rattle.px_context.specs.declared.agg_state.Layout.TheVariants.{Lists, Scalars, Flat, Rows, Unit as Single}
use Rattle.px_lanes.specs.Lane.{lane_of}
use Rattle.px_lanes.specs.Made.{IsRefusal, named_cells}
use Rattle.px_lanes.proofs.Joining.{named}
use Rattle.px_group_nodes.specs.Reduction.{IsReduced, laid_count, reduction_answers}
use Rattle.px_group_nodes.proofs.Reductions.{reduction_like}
use Rattle.px_value.proofs.Refusing.{refuses_or}

single_is : (l : Layout) → is_unit_literal l ≡ true → l ≡ Single
single_is Single h = refl
single_is Lists h = cc
single_is Scalars h = cc
single_is Flat h = cc
single_is Rows h = cc

same_answers : (m : GroupByMethod) (n : List ℕ) (k : Kind) (x : Cell) (c : NamedCell) (gs : List Group) → aggregation_named m (named n k x) ≡ Ok c → map (aggregation_named m) (map (named n k) (map (λ _. x) gs)) ≡ map Ok (map (λ _. c) gs)
same_answers m n k x c [] h = refl
same_answers m n k x c (g ∷ gs) h = λ i. h i ∷ same_answers m n k x c gs h i

same_named : (n : List ℕ) (k : Kind) (x : Cell) (gs : List Group) → map (named n k) (map (λ _. x) gs) ≡ map (λ _. named n k x) gs
same_named n k x [] = refl
same_named n k x (g ∷ gs) = ap (λ cs. named n k x ∷ cs) (same_named n k x gs)

-- a literal that stands as a cell does for each group
literal_named : (a : Context) (c : NamedCell) → named_cells (with_lit (is_unit_cell c.cell) a (column_of_cell c)) ≡ map (λ _. c) a.groups.groups
literal_named a c = by c.cell refl
  where
    by : (x : Cell) → c.cell ≡ x → named_cells (with_lit (is_unit_cell c.cell) a (column_of_cell c)) ≡ map (λ _. c) a.groups.groups
    by (unit s) e =
        let d : NamedCell = record { name = c.name; kind = c.kind; cell = unit s } in
        let same : d ≡ c = λ i. record { name = c.name; kind = c.kind; cell = sym e i } in
        subst (λ (q : NamedCell). named_cells (with_lit (is_unit_cell q.cell) a (column_of_cell q)) ≡ map (λ _. q) a.groups.groups) same (same_named c.name c.kind (unit s) a.groups.groups)
    by (rows xs) e =
        let d : NamedCell = record { name = c.name; kind = c.kind; cell = rows xs } in
        let same : d ≡ c = λ i. record { name = c.name; kind = c.kind; cell = sym e i } in
        subst (λ (q : NamedCell). named_cells (with_lit (is_unit_cell q.cell) a (column_of_cell q)) ≡ map (λ _. q) a.groups.groups) same (same_named c.name c.kind (rows xs) a.groups.groups)

literal_kind : (u : Bool) (a : Context) (c : NamedCell) → is_unit_cell c.cell ≡ u → cell_kind (with_lit (is_unit_cell c.cell) a (column_of_cell c)) ≡ c.kind
literal_kind true a c h = rw h refl
literal_kind false a c h = rw h refl

literal_units : (u : Bool) (a : Context) (c : NamedCell) → is_unit_cell c.cell ≡ u → has_units (with_lit (is_unit_cell c.cell) a (column_of_cell c)).layout ≡ u
literal_units true a c h = rw h refl
literal_units false a c h = rw h refl

module _ (a : Context) (h : is_unit_literal a.layout ≡ true) where
  abbrev cell_there : Cell
  cell_there = unit (slot_at a.values.slots 0)

  literal_cells : named_cells a ≡ map (named a.values.name a.values.kind) (map (λ _. cell_there) a.groups.groups)
  literal_cells = λ i. map (named a.values.name (kind_in (single_is a.layout h i) a.values.kind)) (cells_in (single_is a.layout h i) a.values a.groups)

  lane_there : lane_of a ≡ named a.values.name a.values.kind cell_there
  lane_there = rw h refl

  kind_there : cell_kind a ≡ a.values.kind
  kind_there = ap (λ (l : Layout). kind_in l a.values.kind) (single_is a.layout h)

  -- the context of the one reduction
  pub literal_reduced : (m : GroupByMethod) (c : NamedCell) → aggregation_named m (lane_of a) ≡ Ok c → IsReduced m a (with_lit (is_unit_cell c.cell) a (column_of_cell c))
  literal_reduced m c made =
      let at : aggregation_named m (named a.values.name a.values.kind cell_there) ≡ Ok c = ap (aggregation_named m) (sym lane_there) ∙ made in
      let like = typed_like (reduced_kind m a.values.kind) refl at in
      record {
        cells = ap (map (aggregation_named m)) literal_cells ∙ same_answers m a.values.name a.values.kind cell_there c a.groups.groups at ∙ ap (map Ok) (sym (literal_named a c));
        name_is = like.0;
        kind_is = ap (reduced_kind m) kind_there ∙ like.1.0 ∙ ap Ok (sym (literal_kind (is_unit_cell c.cell) a c refl));
        shape = literal_units (is_unit_cell c.cell) a c refl ∙ like.1.1;
        count_is = refl;
      }
    where
      typed_like : (r : Result Kind PxError) → reduced_kind m a.values.kind ≡ r → aggregation_named m (named a.values.name a.values.kind cell_there) ≡ Ok c → (c.name ≡ a.values.name) × ((reduced_kind m a.values.kind ≡ Ok c.kind) × (is_unit_cell c.cell ≡ not (is_implode m)))
      typed_like (Ok k) e at =
          let l = reduction_like m a.values.name a.values.kind k cell_there c e at in
          (l.name_is, (e ∙ ap Ok (sym l.kind_is), l.shape))
      typed_like (Err w) e at =
          let none : (Err w >>= λ i. Ok (named a.values.name i (reduction_cell m a.values.kind cell_there))) ≡ Ok c = ap (λ q. q >>= λ i. Ok (named a.values.name i (reduction_cell m a.values.kind cell_there))) (sym e) ∙ at in
          absurd (cc none)

  -- and why there is none
  pub literal_refused : (m : GroupByMethod) (e : PxError) → Refuses e (aggregation_named m (lane_of a)) → (reduced_kind m (cell_kind a) ≡ Err e) ⊎ IsRefusal e (reduction_answers m a) (laid_count m a)
  literal_refused m e r = by (refuses_or e (aggregation_named m (lane_of a)) r)
    where
      typed : (q : Result Kind PxError) → reduced_kind m a.values.kind ≡ q → aggregation_named m (named a.values.name a.values.kind cell_there) ≡ Err e → reduced_kind m (cell_kind a) ≡ Err e
      typed (Ok k) t f =
          let none : (Ok k >>= λ i. Ok (named a.values.name i (reduction_cell m a.values.kind cell_there))) ≡ Err e = ap (λ q. q >>= λ i. Ok (named a.values.name i (reduction_cell m a.values.kind cell_there))) (sym t) ∙ f in
          absurd (cc none)
      typed (Err w) t f =
          let same : (Err w >>= λ i. Ok (named a.values.name i (reduction_cell m a.values.kind cell_there))) ≡ Err e = ap (λ q. q >>= λ i. Ok (named a.values.name i (reduction_cell m a.values.kind cell_there))) (sym t) ∙ f in
          let equal : w ≡ e = cc same in
          ap (reduced_kind m) kind_there ∙ t ∙ ap Err equal

      by : (e ≡ OutOfMemory) ⊎ (aggregation_named m (lane_of a) ≡ Err e) → (reduced_kind m (cell_kind a) ≡ Err e) ⊎ IsRefusal e (reduction_answers m a) (laid_count m a)
      by (inl q) = inr (inl (inl q))
      by (inr f) = inl (typed (reduced_kind m a.values.kind) refl (ap (aggregation_named m) (sym lane_there) ∙ f))

-- Reductions group by group, and those of a column at each group's rows.
use Rattle.std.proofs.Common.{◌≡◌, ◌⊎◌, inl, inr, ℕ, ◌+◌, ◌<◌, ◌≤◌, ◌^◌, Bool, true, false, ◌||◌, cond, not, List, [], ◌∷◌, Result, Ok, Err, IfOk, IfErr, fold, length, map, nat_lt, sum, refl, subst, sym, ap, ◌∙◌, arith, if◌then◌else◌}
use Rattle.std.proofs.lemmas.Bool.Decides.{nat_tests}
use Rattle.std.proofs.lemmas.List.{length-map}
use Rattle.px_column.specs.Prelude.{Kind, Refuses, Series, Slot, slot_at}
use Rattle.px_column.specs.Reduction.{reduced_kind, reduced_slot}
use Rattle.px_column.specs.Result.{◌>>=◌}
use Rattle.px_value.specs.declared.error.ComputeWhy.TheVariants.{TooLong}
use Rattle.px_value.specs.declared.error.PxError.{PxError}
use Rattle.px_value.specs.declared.error.PxError.TheVariants.{ComputeError, OutOfMemory}
use Rattle.px_value.specs.declared.method.GroupByMethod.{GroupByMethod}
use Rattle.px_value.specs.declared.method.GroupByMethod.TheVariants.{Implode}
use Rattle.px_frame.specs.Cell.{Cell, rows, cell_of, count_of, is_unit_cell, list_of}
use Rattle.px_frame.specs.Frame.{slots_at}
use Rattle.px_frame.specs.Groups.{Group, Groups, lengths_of}
use Rattle.px_frame.specs.Reduced.{listed_by, reduced_at, reduced_by, reduced_by_as}
use Rattle.px_frame.specs.Spread.{NamedCell}
use Rattle.px_tree.specs.Node.{reduction_cell}
use Rattle.px_tree.specs.Shape.{is_implode}
use Rattle.px_nodes.specs.Named.{aggregation_named}
use Rattle.px_context.specs.Built.{is_flat, with_column}
use Rattle.px_context.specs.Changes.{counts_of}
use Rattle.px_context.specs.Context.{Context, HasShape, IsContext, cell_kind, cells_in, cells_of, has_units, kind_in}
use Rattle.px_context.specs.Part.{part}
use Rattle.px_context.specs.declared.agg_state.Layout.{Layout}
use Rattle.px_context.specs.declared.agg_state.Layout.TheVariants.{Lists, Scalars, Flat, Rows, Unit as Single}
use Rattle.px_context.proofs.Counting.{many_parts}
use Rattle.px_lanes.specs.Alike.{AreLike, IsLike}
use Rattle.px_lanes.specs.Made.{IsRefusal, count_in, counts_in, named_cells, named_in}
use Rattle.px_lanes.specs.One.{answers_of_one}
use Rattle.px_lanes.proofs.Joining.{named}
use Rattle.px_lanes.proofs.Likeness.{like_one, shaped}
use Rattle.px_lanes.proofs.Rowwise.{unit_cell_of}
use Rattle.px_group_nodes.specs.Reduction.{IsReduced, laid_count, reads_groups, reduced_column, reduction_answers, rows_apart}
use Rattle.px_value.proofs.Refusing.{refuses_or}

abbrev cell_ok : NamedCell → Result NamedCell PxError
cell_ok c = Ok c

cell_is : (x y : NamedCell) → cell_ok x ≡ Ok y → x ≡ y
cell_is x y h = cc

-- the reduction of a cell, where there is a type for it
reduction_at : (m : GroupByMethod) (n : List ℕ) (j k : Kind) (x : Cell) → reduced_kind m j ≡ Ok k → aggregation_named m (named n j x) ≡ Ok (named n k (reduction_cell m j x))
reduction_at m n j k x t = ap (λ q. q >>= λ i. Ok (named n i (reduction_cell m j x))) t

pub reduction_like : (m : GroupByMethod) (n : List ℕ) (j k : Kind) (x : Cell) (c : NamedCell) → reduced_kind m j ≡ Ok k → aggregation_named m (named n j x) ≡ Ok c → IsLike n k (not (is_implode m)) c
reduction_like m n j k x c t h =
    let same = cell_is (named n k (reduction_cell m j x)) c (sym (reduction_at m n j k x t) ∙ h) in
    record {
      name_is = ap (λ (d : NamedCell). d.name) (sym same);
      kind_is = ap (λ (d : NamedCell). d.kind) (sym same);
      shape = ap (λ (d : NamedCell). is_unit_cell d.cell) (sym same) ∙ unit_cell_of (not (is_implode m)) _;
    }

-- reductions group by group have its name, the type of the reduction, and one shape
pub reduction_alike : (m : GroupByMethod) (a : Context) (k : Kind) (cs : List NamedCell) → reduced_kind m (cell_kind a) ≡ Ok k → reduction_answers m a ≡ map Ok cs → AreLike a.values.name k (not (is_implode m)) cs
reduction_alike m a k cs t h =
    like_one a.values.name k (not (is_implode m)) (aggregation_named m) a.values.name (cell_kind a) (has_units a.layout)
    (λ x c u made. reduction_like m a.values.name (cell_kind a) k x c t made) (cells_of a) cs (shaped a) h

-- there are as many answers as groups, each with one value at most
one_value : (b : Bool) (x : Slot) → count_of (cell_of b (x ∷ [])) ≡ 1
one_value true x = refl
one_value false x = refl

answer_small : (m : GroupByMethod) (c : NamedCell) → count_in (aggregation_named m c) ≤ 1
answer_small m c = by (reduced_kind m c.kind)
  where
    by : (r : Result Kind PxError) → count_in (r >>= λ k. Ok (record { name = c.name; kind = k; cell = reduction_cell m c.kind c.cell })) ≤ 1
    by (Ok k) = omega (arith, one_value (not (is_implode m)) (reduced_slot m c.kind (list_of c.cell)))
    by (Err e) = omega arith

answers_small : (m : GroupByMethod) (cs : List NamedCell) (n : ℕ) → fold (λ b x. b + x) n (map count_in (map (aggregation_named m) cs)) ≤ n + length cs
answers_small m [] n = omega arith
answers_small m (c ∷ cs) n = omega (arith, answer_small m c, answers_small m cs (n + count_in (aggregation_named m c)))

many_named : (a : Context) → IsContext a → length (named_cells a) ≡ length a.groups.groups
many_named a ok = length-map (cells_of a) (named_in a) ∙ sym (length-map (cells_of a) (part (cell_kind a))) ∙ many_parts a ok

-- so that they are never too long
pub reduction_short : (m : GroupByMethod) (a : Context) (e : PxError) → IsContext a → length a.groups.groups < 2 ^ 32 → IsRefusal e (reduction_answers m a) (counts_in (reduction_answers m a)) → IsRefusal e (reduction_answers m a) (laid_count m a)
reduction_short m a e ok few (inl f) = inl f
reduction_short m a e ok few (inr t) = absurd (omega (arith, t.1, few, many_named a ok, answers_small m (named_cells a) 0))

-- the column of reductions
pub record IsColumnOf (m : GroupByMethod) (v : Series) (g : Groups) (s : Series) : Type 0 where
  pub kind : reduced_kind m v.kind ≡ Ok s.kind
  pub name : s.name ≡ v.name
  pub slots : s.slots ≡ map (reduced_at m v) g.groups

column_by : (m : GroupByMethod) (v : Series) (g : Groups) (s : Series) → reduced_by m v g ≡ Ok s → IsColumnOf m v g s
column_by m v g s h = by (reduced_kind m v.kind) refl h
  where
    by : (r : Result Kind PxError) → reduced_kind m v.kind ≡ r → reduced_by_as m v g r ≡ Ok s → IsColumnOf m v g s
    by (Ok k) t h =
        let same : record { name = v.name; kind = k; slots = map (reduced_at m v) g.groups } ≡ s = cc in
        rw (← same) (record { kind = t; name = refl; slots = refl })
    by (Err e) t h = absurd (cc)

listed : (v : Series) (g : Groups) (s : Series) → listed_by v g ≡ Ok s → reduced_by Implode v g ≡ Ok s
listed v g s h = by (nat_lt (sum (lengths_of g)) (2 ^ 32)) h
  where
    by : (b : Bool) → cond b (reduced_by Implode v g) (Err (ComputeError TooLong)) ≡ Ok s → reduced_by Implode v g ≡ Ok s
    by true h = h
    by false h = absurd (cc)

pub column_made : (m : GroupByMethod) (v : Series) (g : Groups) (s : Series) → reduced_column m v g ≡ Ok s → IsColumnOf m v g s
column_made Implode v g s h = column_by Implode v g s (listed v g s h)
column_made m v g s h = column_by m v g s h

-- has as many rows as there are groups
pub column_length : (m : GroupByMethod) (v : Series) (g : Groups) (s : Series) → reduced_column m v g ≡ Ok s → length s.slots ≡ length g.groups
column_length m v g s h = ap length (column_made m v g s h).slots ∙ length-map g.groups (reduced_at m v)

-- and is refused for its type, or for the lengths of an Implode's lists
abbrev IsWhy : GroupByMethod → Series → Groups → PxError → Type 0
IsWhy m v g e = (reduced_kind m v.kind ≡ Err e) ⊎ ((is_implode m ≡ true) × ((e ≡ ComputeError TooLong) × (2 ^ 32 ≤ sum (lengths_of g))))

refused_by : (m : GroupByMethod) (v : Series) (g : Groups) (e : PxError) → reduced_by m v g ≡ Err e → reduced_kind m v.kind ≡ Err e
refused_by m v g e h = by (reduced_kind m v.kind) h
  where
    by : (r : Result Kind PxError) → reduced_by_as m v g r ≡ Err e → r ≡ Err e
    by (Ok k) h = absurd (cc)
    by (Err d) h = cc

long_lists : (v : Series) (g : Groups) (e : PxError) → listed_by v g ≡ Err e → IsWhy Implode v g e
long_lists v g e h = by (nat_lt (sum (lengths_of g)) (2 ^ 32)) refl h
  where
    by : (b : Bool) → nat_lt (sum (lengths_of g)) (2 ^ 32) ≡ b → cond b (reduced_by Implode v g) (Err (ComputeError TooLong)) ≡ Err e → IsWhy Implode v g e
    by true t h = absurd (cc)
    by false t h = inr (refl, (cc, grind (arith, nat_tests, t)))

column_refused : (m : GroupByMethod) (v : Series) (g : Groups) (e : PxError) → reduced_column m v g ≡ Err e → IsWhy m v g e
column_refused Implode v g e h = long_lists v g e h
column_refused m v g e h = inl (refused_by m v g e h)

flat_is : (l : Layout) → is_flat l ≡ true → l ≡ Flat
flat_is Flat h = refl
flat_is Lists h = cc
flat_is Scalars h = cc
flat_is Rows h = cc
flat_is Single h = cc

rows_count : (xs : List Slot) (gs : List Group) → map count_of (map (λ p. rows (slots_at xs p.rows)) gs) ≡ map (λ (p : Group). length p.rows) gs
rows_count xs [] = refl
rows_count xs (g ∷ gs) = λ i. length-map g.rows (slot_at xs) i ∷ rows_count xs gs i

reductions_at : (m : GroupByMethod) (n : List ℕ) (v : Series) (k : Kind) (gs : List Group) → reduced_kind m v.kind ≡ Ok k
    → answers_of_one (aggregation_named m) (map (named n v.kind) (map (λ p. rows (slots_at v.slots p.rows)) gs)) ≡ map Ok (map (named n k) (map (λ x. cell_of (not (is_implode m)) (x ∷ [])) (map (reduced_at m v) gs)))
reductions_at m n v k [] t = refl
reductions_at m n v k (g ∷ gs) t = λ i. reduction_at m n v.kind k (rows (slots_at v.slots g.rows)) t i ∷ reductions_at m n v k gs t i

module _ (a : Context) (ok : IsContext a) (h : reads_groups a ≡ true) where
  flat_layout : a.layout ≡ Flat
  flat_layout = by a.untouched refl h
    where
      by : (u : Bool) → a.untouched ≡ u → (u || is_flat a.layout) ≡ true → a.layout ≡ Flat
      by true e h = ok.mark e
      by false e h = flat_is a.layout h

  -- its column has the rows to which the groups point
  pub flat_height : length a.values.slots ≡ a.groups.height
  flat_height = subst (λ (l : Layout). HasShape l a.values a.groups) flat_layout ok.shape

  flat_kind : cell_kind a ≡ a.values.kind
  flat_kind = ap (λ (l : Layout). kind_in l a.values.kind) flat_layout

  flat_cells : named_cells a ≡ map (named a.values.name a.values.kind) (map (λ p. rows (slots_at a.values.slots p.rows)) a.groups.groups)
  flat_cells = λ i. map (named a.values.name (kind_in (flat_layout i) a.values.kind)) (cells_in (flat_layout i) a.values a.groups)

  flat_counts : counts_of a ≡ lengths_of a.groups
  flat_counts = (λ i. map count_of (cells_in (flat_layout i) a.values a.groups)) ∙ rows_count a.values.slots a.groups.groups

  -- a refusal of the column is one of the reductions
  pub flat_refused : (m : GroupByMethod) (e : PxError) → Refuses e (reduced_column m a.values a.groups) → (reduced_kind m (cell_kind a) ≡ Err e) ⊎ IsRefusal e (reduction_answers m a) (laid_count m a)
  flat_refused m e r = by (refuses_or e (reduced_column m a.values a.groups) r)
    where
      why : IsWhy m a.values a.groups e → (reduced_kind m (cell_kind a) ≡ Err e) ⊎ IsRefusal e (reduction_answers m a) (laid_count m a)
      why (inl t) = inl (ap (reduced_kind m) flat_kind ∙ t)
      why (inr w) =
          let laid : laid_count m a ≡ sum (counts_of a) = ap (λ (b : Bool). if b then sum (counts_of a) else counts_in (reduction_answers m a)) w.0 in
          let many : laid_count m a ≡ sum (lengths_of a.groups) = laid ∙ ap sum flat_counts in
          inr (inr (w.1.0, subst (λ n. 2 ^ 32 ≤ n) (sym many) w.1.1))

      by : (e ≡ OutOfMemory) ⊎ (reduced_column m a.values a.groups ≡ Err e) → (reduced_kind m (cell_kind a) ≡ Err e) ⊎ IsRefusal e (reduction_answers m a) (laid_count m a)
      by (inl q) = inr (inl (inl q))
      by (inr f) = why (column_refused m a.values a.groups e f)

  module _ (m : GroupByMethod) (s : Series) (made : reduced_column m a.values a.groups ≡ Ok s) where
    flat_answers : reduction_answers m a ≡ map Ok (map (named s.name s.kind) (map (λ x. cell_of (not (is_implode m)) (x ∷ [])) s.slots))
    flat_answers =
        let column = column_made m a.values a.groups s made in
        ap (answers_of_one (aggregation_named m)) flat_cells ∙ reductions_at m a.values.name a.values s.kind a.groups.groups column.kind
        ∙ (λ i. map Ok (map (named (sym column.name i) s.kind) (map (λ x. cell_of (not (is_implode m)) (x ∷ [])) (sym column.slots i))))

    -- the context of a column of reductions
    made_flat : (c : Context) (one : Bool) → not (is_implode m) ≡ one → named_cells c ≡ map (named s.name s.kind) (map (λ x. cell_of one (x ∷ [])) s.slots) → c.values.name ≡ s.name → cell_kind c ≡ s.kind → has_units c.layout ≡ one
        → length c.groups.groups ≡ length s.slots → IsReduced m a c
    made_flat c one o cells n k u len =
        let column = column_made m a.values a.groups s made in
        record {
          cells = flat_answers ∙ (λ i. map Ok (map (named s.name s.kind) (map (λ x. cell_of (o i) (x ∷ [])) s.slots))) ∙ ap (map Ok) (sym cells);
          name_is = n ∙ column.name;
          kind_is = ap (reduced_kind m) flat_kind ∙ column.kind ∙ ap Ok (sym k);
          shape = u ∙ sym o;
          count_is = len ∙ column_length m a.values a.groups s made;
        }

    -- of units
    pub units_reduced : is_implode m ≡ false → IsReduced m a (with_column true a s)
    units_reduced i = made_flat (with_column true a s) true (ap not i) refl refl refl refl (sym (column_length m a.values a.groups s made))

    -- and of an Implode's lists
    pub lists_reduced : (r : Result Context PxError) → is_implode m ≡ true → IfOk r (λ c. named_cells c ≡ rows_apart s) → IfOk r (λ c. c.values.name ≡ s.name) → IfOk r (λ c. cell_kind c ≡ s.kind)
        → IfOk r (λ c. has_units c.layout ≡ false) → IfOk r (λ c. length c.groups.groups ≡ length s.slots) → IfOk r (IsReduced m a)
    lists_reduced (Ok c) i cells n k u len = made_flat c false (ap not i) cells n k u len
    lists_reduced (Err e) i cells n k u len = tt

-- want of memory is a refusal
pub wanting : (r : Result Context PxError) (answers : List (Result NamedCell PxError)) (p : PxError → Type 0) (n : ℕ) → IfErr r (λ e. e ≡ OutOfMemory) → IfErr r (λ e. p e ⊎ IsRefusal e answers n)
wanting (Ok c) answers p n h = tt
wanting (Err e) answers p n h = inr (inl (inl h))

-- a refusal group by group
pub each_refused : (m : GroupByMethod) (a : Context) (r : Result Context PxError) → IsContext a → length a.groups.groups < 2 ^ 32 → IfErr r (λ e. IsRefusal e (reduction_answers m a) (counts_in (reduction_answers m a)))
    → IfErr r (λ e. (reduced_kind m (cell_kind a) ≡ Err e) ⊎ IsRefusal e (reduction_answers m a) (laid_count m a))
each_refused m a (Ok c) ok few h = tt
each_refused m a (Err e) ok few h = inr (reduction_short m a e ok few h)

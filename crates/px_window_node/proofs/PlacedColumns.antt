-- The column of a window's cells: its name, its type, its rows, and why there is none.
use Rattle.std.proofs.Common.{◌≡◌, ◌⊎◌, inl, inr, ℕ, ◌^◌, ◌≤◌, ◌==◌, Bool, true, false, cond, List, [], ◌∷◌, ◌++◌, Result, Ok, Err, IfErr, length, nat_lt, sum, refl, sym, ◌∙◌, ap, subst, if◌then◌else◌}
use Rattle.std.specs.List.{flat_map, zip}
use Rattle.px_column.specs.Prelude.{Answers, Kind, Series, Slot}
use Rattle.px_column.specs.Result.{◌>>=◌}
use Rattle.px_value.specs.declared.error.ComputeWhy.TheVariants.{TooLong, WindowLength}
use Rattle.px_value.specs.declared.error.PxError.{PxError}
use Rattle.px_value.specs.declared.error.PxError.TheVariants.{ComputeError, OutOfMemory}
use Rattle.px_frame.specs.Cell.{Cell, unit, rows, list_of}
use Rattle.px_frame.specs.Groups.{Groups, lengths_of, rows_of}
use Rattle.px_frame.specs.Reduced.{listed_by}
use Rattle.px_tree.specs.Window.{in_row_order, joined, part_slots, placed, window_cell}
use Rattle.px_tree.specs.declared.window.WindowMapping.{WindowMapping}
use Rattle.px_tree.specs.declared.window.WindowMapping.TheVariants.{GroupsToRows, Join, Explode}
use Rattle.px_context.specs.Changes.{aggregated_in, all_rows, counts_of, finalized, with_lists}
use Rattle.px_context.specs.Context.{Context, cell_kind, cells_of}
use Rattle.px_context.specs.declared.agg_state.Layout.{Layout}
use Rattle.px_context.specs.declared.agg_state.Layout.TheVariants.{Lists, Scalars, Flat, Rows, Unit as Single}
use Rattle.px_window.specs.Placed.{column_with, rows_joined, rows_placed, window_slots}
use Rattle.px_window.proofs.Exploding.{exploded_cells}
use Rattle.px_window_node.specs.Placing.{placed_by}
use Rattle.px_window_node.proofs.Grouping.{memory_or_refused}

-- a list of another length than its part is all that is refused
part_refused : (p : List ℕ) (c : Cell) (e : PxError) → part_slots p c ≡ Err e → e ≡ ComputeError WindowLength
part_refused p (unit s) e h = absurd (cc h)
part_refused p (rows xs) e h = by (length xs == length p) h
  where
    by : (b : Bool) → cond b (Ok xs) (Err (ComputeError WindowLength)) ≡ Err e → e ≡ ComputeError WindowLength
    by true k = absurd (cc k)
    by false k = let same : ComputeError WindowLength ≡ e = cc in sym same

placed_refused : (ps : List (List ℕ × Cell)) (e : PxError) → placed ps ≡ Err e → e ≡ ComputeError WindowLength
placed_refused [] e h = absurd (cc h)
placed_refused (p ∷ ps) e h = by (part_slots p.0 p.1) (part_refused p.0 p.1) (placed ps) (placed_refused ps) h
  where
    by : (r : Result (List Slot) PxError) → ((x : PxError) → r ≡ Err x → x ≡ ComputeError WindowLength) → (s : Result (List (ℕ × Slot)) PxError) → ((x : PxError) → s ≡ Err x → x ≡ ComputeError WindowLength)
        → (r >>= λ xs. s >>= λ others. Ok (zip p.0 xs ++ others)) ≡ Err e → e ≡ ComputeError WindowLength
    by (Ok xs) one (Ok ys) rest k = absurd (cc k)
    by (Ok xs) one (Err x) rest k = let same : x ≡ e = cc in sym same ∙ rest x refl
    by (Err x) one s rest k = let same : x ≡ e = cc in sym same ∙ one x refl

-- a column has the rows of a cell
abbrev HasRows : Result Cell PxError → Series → Type 0
HasRows cell s = (c : Cell) × ((cell ≡ Ok c) × (s.slots ≡ list_of c))

rows_of_column : (name : List ℕ) (kind : Kind) (cell : Result Cell PxError) (s : Series) → column_with name kind (cell >>= λ c. Ok (list_of c)) ≡ Ok s → HasRows cell s
rows_of_column name kind (Ok c) s h = let same : record { name = name; kind = kind; slots = list_of c } ≡ s = cc in (c, (refl, ap (λ (t : Series). t.slots) (sym same)))
rows_of_column name kind (Err x) s h = absurd (cc h)

-- why there is no such column
column_refused : (name : List ℕ) (kind : Kind) (cell : Result Cell PxError) (e : PxError) → column_with name kind (cell >>= λ c. Ok (list_of c)) ≡ Err e → cell ≡ Err e
column_refused name kind (Ok c) e h = absurd (cc h)
column_refused name kind (Err x) e h = let same : x ≡ e = cc in ap Err same

-- a window's cell is a list
cell_rows : (mapping : WindowMapping) (n : ℕ) (ps : List (List ℕ × Cell)) (c : Cell) → window_cell mapping n ps ≡ Ok c → c ≡ rows (list_of c)
cell_rows GroupsToRows n ps c h = by (placed ps) h
  where
    by : (r : Result (List (ℕ × Slot)) PxError) → (r >>= λ places. Ok (rows (in_row_order n places))) ≡ Ok c → c ≡ rows (list_of c)
    by (Ok places) k = let same : rows (in_row_order n places) ≡ c = cc in subst (λ (d : Cell). d ≡ rows (list_of d)) same refl
    by (Err x) k = absurd (cc k)
cell_rows Join n ps c h = let same : rows (in_row_order n (flat_map joined ps)) ≡ c = cc in subst (λ (d : Cell). d ≡ rows (list_of d)) same refl
cell_rows Explode n ps c h = let same : rows (flat_map (λ (p : List ℕ × Cell). list_of p.1) ps) ≡ c = cc in subst (λ (d : Cell). d ≡ rows (list_of d)) same refl

cell_is : (mapping : WindowMapping) (n : ℕ) (ps : List (List ℕ × Cell)) (s : Series) → HasRows (window_cell mapping n ps) s → window_cell mapping n ps ≡ Ok (rows s.slots)
cell_is mapping n ps s m = m.1.0 ∙ ap Ok (cell_rows mapping n ps m.0 m.1.0 ∙ ap rows (sym m.1.1))

-- a column that is made of the cells one after another
exploded : (b : Bool) (built s : Series) → (if b then Ok built else Err (ComputeError TooLong)) ≡ Ok s → built ≡ s
exploded true built s h = cc
exploded false built s h = absurd (cc h)

-- what the whole cells are made of
whole_from : (c : Context) (g : Groups) (r : Result Series PxError) (s : Series) → (r >>= λ t. column_with t.name t.kind (window_slots Join c g)) ≡ Ok s → HasRows (window_cell Join g.height (zip (rows_of g) (cells_of c))) s
whole_from c g (Ok t) s h = rows_of_column t.name t.kind (window_cell Join g.height (zip (rows_of g) (cells_of c))) s h
whole_from c g (Err x) s h = absurd (cc h)

-- the rows of the column are the window's cell
pub placed_cell : (mapping : WindowMapping) (c : Context) (g : Groups) (s : Series) → length (rows_of g) ≡ length (cells_of c) → placed_by mapping c g ≡ Ok s → window_cell mapping g.height (zip (rows_of g) (cells_of c)) ≡ Ok (rows s.slots)
placed_cell GroupsToRows c g s many h =
    cell_is GroupsToRows g.height (zip (rows_of g) (cells_of c)) s (rows_of_column c.values.name (cell_kind c) (window_cell GroupsToRows g.height (zip (rows_of g) (cells_of c))) s h)
placed_cell Join c g s many h = cell_is Join g.height (zip (rows_of g) (cells_of c)) s (whole_from c g (finalized c) s h)
placed_cell Explode c g s many h =
    let built : Series = record { name = c.values.name; kind = cell_kind c; slots = flat_map list_of (cells_of c) } in
    exploded_cells (cells_of c) (length (cells_of c)) built (Ok s) refl (ap Ok (exploded (nat_lt (length (flat_map list_of (cells_of c))) (2 ^ 32)) built s h)) g.height (rows_of g) many

-- cells at their groups' rows are never too long
rows_refused : (c : Context) (g : Groups) (e : PxError) → rows_placed c g ≡ Err e → (window_cell GroupsToRows g.height (zip (rows_of g) (cells_of c)) ≡ Err e) × (e ≡ ComputeError WindowLength)
rows_refused c g e h =
    let there = column_refused c.values.name (cell_kind c) (window_cell GroupsToRows g.height (zip (rows_of g) (cells_of c))) e h in
    (there, by (placed (zip (rows_of g) (cells_of c))) (placed_refused (zip (rows_of g) (cells_of c))) there)
  where
    by : (r : Result (List (ℕ × Slot)) PxError) → ((x : PxError) → r ≡ Err x → x ≡ ComputeError WindowLength) → (r >>= λ places. Ok (rows (in_row_order g.height places))) ≡ Err e → e ≡ ComputeError WindowLength
    by (Ok places) only k = absurd (cc k)
    by (Err x) only k = let same : x ≡ e = cc in sym same ∙ only x refl

pub placed_short : (c : Context) (g : Groups) (r : Result Series PxError) → Answers r (rows_placed c g) → IfErr r (λ e. e ≡ ComputeError TooLong → 2 ^ 32 ≤ sum (counts_of c))
placed_short c g (Ok s) h = tt
placed_short c g (Err e) h = λ long. by long (memory_or_refused e (rows_placed c g) h)
  where
    by : e ≡ ComputeError TooLong → (e ≡ OutOfMemory) ⊎ (rows_placed c g ≡ Err e) → 2 ^ 32 ≤ sum (counts_of c)
    by long (inl k) = let no : ComputeError TooLong ≡ OutOfMemory = sym long ∙ k in absurd (cc no)
    by long (inr k) = let no : ComputeError TooLong ≡ ComputeError WindowLength = sym long ∙ (rows_refused c g e k).1 in absurd (cc no)

-- what is too long is all that a list or a value for each group is refused for
listed_refused : (s : Series) (g : Groups) (e : PxError) → listed_by s g ≡ Err e → e ≡ ComputeError TooLong
listed_refused s g e h = by (nat_lt (sum (lengths_of g)) (2 ^ 32)) _ h
  where
    by : (b : Bool) (t : Series) → cond {A = Result Series PxError} b (Ok t) (Err (ComputeError TooLong)) ≡ Err e → e ≡ ComputeError TooLong
    by true t k = absurd (cc k)
    by false t k = let same : ComputeError TooLong ≡ e = cc in sym same

lists_refused : (c : Context) (r : Result Series PxError) (e : PxError) → ((x : PxError) → r ≡ Err x → x ≡ ComputeError TooLong) → ((r >>= λ s. Ok (with_lists c s)) >>= λ d. Ok d.values) ≡ Err e → e ≡ ComputeError TooLong
lists_refused c (Ok s) e only h = absurd (cc h)
lists_refused c (Err x) e only h = let same : x ≡ e = cc in sym same ∙ only x refl

whole_refused : (l : Layout) (c : Context) (e : PxError) → (aggregated_in l c >>= λ d. Ok d.values) ≡ Err e → e ≡ ComputeError TooLong
whole_refused Lists c e h = absurd (cc h)
whole_refused Scalars c e h = absurd (cc h)
whole_refused Flat c e h = lists_refused c (listed_by c.values c.groups) e (listed_refused c.values c.groups) h
whole_refused Rows c e h =
    lists_refused c (listed_by c.values (all_rows (length c.groups.groups) (length c.values.slots))) e (listed_refused c.values (all_rows (length c.groups.groups) (length c.values.slots))) h
whole_refused Single c e h = absurd (cc h)

joined_refused : (c : Context) (g : Groups) (e : PxError) → rows_joined c g ≡ Err e → e ≡ ComputeError TooLong
joined_refused c g e h = by (finalized c) (whole_refused c.layout c) h
  where
    by : (r : Result Series PxError) → ((x : PxError) → r ≡ Err x → x ≡ ComputeError TooLong) → (r >>= λ t. column_with t.name t.kind (window_slots Join c g)) ≡ Err e → e ≡ ComputeError TooLong
    by (Ok t) only k = absurd (cc (column_refused t.name t.kind (window_cell Join g.height (zip (rows_of g) (cells_of c))) e k))
    by (Err x) only k = let same : x ≡ e = cc in sym same ∙ only x refl

exploded_refused : (b : Bool) (built : Series) (e : PxError) → (if b then Ok built else Err (ComputeError TooLong)) ≡ Err e → e ≡ ComputeError TooLong
exploded_refused true built e h = absurd (cc h)
exploded_refused false built e h = let same : ComputeError TooLong ≡ e = cc in sym same

-- why there is no column: there are too many values, or it is the window's fault
pub placing_refused : (mapping : WindowMapping) (c : Context) (g : Groups) (e : PxError) → placed_by mapping c g ≡ Err e
    → (e ≡ ComputeError TooLong) ⊎ ((window_cell mapping g.height (zip (rows_of g) (cells_of c)) ≡ Err e) × (e ≡ ComputeError WindowLength))
placing_refused GroupsToRows c g e h = inr (rows_refused c g e h)
placing_refused Join c g e h = inl (joined_refused c g e h)
placing_refused Explode c g e h =
    let built : Series = record { name = c.values.name; kind = cell_kind c; slots = flat_map list_of (cells_of c) } in
    inl (exploded_refused (nat_lt (length (flat_map list_of (cells_of c))) (2 ^ 32)) built e h)

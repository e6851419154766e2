-- Key columns of chunks, one chunk after another, are those of the whole.
use Rattle.std.proofs.Common.{◌≡◌, ℕ, ◌+◌, ◌≤◌, Bool, true, false, not, ◌&&◌, ◌||◌, List, [], ◌∷◌, ◌++◌, Some, Result, Ok, Err, option_map, length, map, replicate, refl, sym, ◌∙◌, ap, arith}
use Rattle.std.specs.List.{list_all, list_any, range_with_len}
use Rattle.std.specs.Prelude.{is_some}
use Rattle.std.specs.Result.{result_ok}
use Rattle.std.proofs.lemmas.List.{take_all, length-replicate}
use Rattle.px_value.proofs.FitLaws.{both}
use Rattle.px_value.specs.declared.error.PxError.{PxError}
use Rattle.px_column.specs.Option.{◌>>=◌, each}
use Rattle.px_column.specs.Prelude.{Kind, Slot, Series}
use Rattle.px_frame.specs.Cell.{Cell, unit, rows}
use Rattle.px_frame.specs.External.{Frame, alone, height, scope_of, rows_of_frame}
use Rattle.px_frame.specs.Frame.{series_at, has_height, all_have_height, look}
use Rattle.px_frame.specs.Spread.{NamedCell, spread, spread_column, with_slots}
use Rattle.px_frame.proofs.Ranges.{range_slots}
use Rattle.px_tree.specs.Nodes.{leaf_names}
use Rattle.px_tree.specs.Partition.{is_elementwise}
use Rattle.px_tree.specs.Shape.{name_of}
use Rattle.px_tree.specs.Tree.{Tree}
use Rattle.px_tree.specs.Typing.{Scope, kind_in}
use Rattle.px_tree.specs.Value.{value_on, named, is_misfit}
use Rattle.px_laws.proofs.Defined.{scope_of_rows}
use Rattle.px_laws.proofs.Joining.{joined, same_list, spread_joins, value_joins}
use Rattle.px_laws.proofs.Merging.{height_joins}
use Rattle.px_laws.proofs.Shapes.{bound, mapped}
use Rattle.px_cuts.proofs.Keys.{high, is_high}
use Rattle.px_cuts.proofs.Merged.{next, none_left}
use Rattle.px_tree.specs.Grouped.{key_on}
use Rattle.px_cuts.specs.Chunks.{appended}

-- a cell that spreads has as many places as rows
spread_long : (n : ℕ) (a : Cell) (xs : List Slot) → spread n a ≡ Ok xs → length xs ≡ n
spread_long n (unit s) xs h = let e : replicate n s ≡ xs = cc in ap length (sym e) ∙ length-replicate n s
spread_long n (rows ys) xs h = let e = same_list n ys xs h in ap length (sym e.0) ∙ e.1

-- what a key column is made of
record IsKey (frame : Frame) (e : Tree) (s : Series) : Type 0 where
  cell : Cell
  value : value_on e frame ≡ Some cell
  kind : kind_in e (scope_of frame) ≡ Some s.kind
  name : name_of e ≡ s.name
  slots : spread (height frame) cell ≡ Ok s.slots

made_column : (c : NamedCell) (r : Result (List Slot) PxError) (s : Series) → result_ok (with_slots c r) ≡ Some s → (r ≡ Ok s.slots) × (c.name ≡ s.name) × (c.kind ≡ s.kind)
made_column c (Ok xs) s h = let e : record { name = c.name; kind = c.kind; slots = xs } ≡ s = cc in (ap (λ (t : Series). Ok t.slots) e, ap (λ (t : Series). t.name) e, ap (λ (t : Series). t.kind) e)
made_column c (Err e) s h = cc

key_is : (frame : Frame) (e : Tree) (s : Series) → key_on frame e ≡ Some s → IsKey frame e s
key_is frame e s h =
    let c = bound (value_on e frame >>= named e frame) _ s h in
    let v = bound (value_on e frame) _ c.0 c.1 in
    let k = mapped (kind_in e (scope_of frame)) _ c.0 v.2 in
    let m = made_column c.0 (spread (height frame) c.0.cell) s c.2 in
    let same : v.0 ≡ c.0.cell = ap (λ (n : NamedCell). n.cell) k.2 in
    let kind : k.0 ≡ c.0.kind = ap (λ (n : NamedCell). n.kind) k.2 in
    let name : name_of e ≡ c.0.name = ap (λ (n : NamedCell). n.name) k.2 in
    record { cell = v.0; value = v.1; kind = k.1 ∙ ap Some (kind ∙ m.2); name = name ∙ m.1; slots = ap (spread (height frame)) same ∙ m.0 }

is_key : (frame : Frame) (e : Tree) (c : Cell) (k : Kind) (xs : List Slot) → value_on e frame ≡ Some c → kind_in e (scope_of frame) ≡ Some k → spread (height frame) c ≡ Ok xs
    → key_on frame e ≡ Some (record { name = name_of e; kind = k; slots = xs })
is_key frame e c k xs v kind s =
    (λ i. v i >>= (λ x. option_map (λ j. record { name = name_of e; kind = j; cell = x }) (kind i)) >>= λ (n : NamedCell). result_ok (spread_column (height frame) n))
    ∙ ap (λ r. result_ok (with_slots (record { name = name_of e; kind = k; cell = c }) r)) s

-- a frame with nothing beside it has no misfit
pub none_there : (columns : List Series) (names : List (List ℕ)) → list_any (is_misfit (alone columns)) names ≡ false
none_there columns [] = refl
none_there columns (n ∷ names) = by (is_some (look n columns)) (none_there columns names)
  where
    by : (b : Bool) → list_any (is_misfit (alone columns)) names ≡ false → ((not b && false) || list_any (is_misfit (alone columns)) names) ≡ false
    by true h = h
    by false h = h

-- a key's column on some rows and then others
key_joins : (e : Tree) (s : Scope) (columns : List Series) (p q : List ℕ) (a b : Series) → is_elementwise e s ≡ true → key_on (rows_of_frame (alone columns) p) e ≡ Some a → key_on (rows_of_frame (alone columns) q) e ≡ Some b
    → key_on (rows_of_frame (alone columns) (p ++ q)) e ≡ Some (record a { slots = a.slots ++ b.slots })
key_joins e s columns p q a b w h g =
    let x = key_is (rows_of_frame (alone columns) p) e a h in
    let y = key_is (rows_of_frame (alone columns) q) e b g in
    let j = value_joins e s (alone columns) p q x.cell y.cell w (none_there columns (leaf_names e)) x.value y.value in
    let kind : kind_in e (scope_of (rows_of_frame (alone columns) (p ++ q))) ≡ Some a.kind = ap (kind_in e) (scope_of_rows (alone columns) (p ++ q) ∙ sym (scope_of_rows (alone columns) p)) ∙ x.kind in
    let spreads : spread (height (rows_of_frame (alone columns) (p ++ q))) (joined x.cell y.cell) ≡ Ok (a.slots ++ b.slots) =
    ap (λ n. spread n (joined x.cell y.cell)) (height_joins (alone columns) p q) ∙ (spread_joins (height (rows_of_frame (alone columns) p)) (height (rows_of_frame (alone columns) q)) a.slots b.slots j.1 x.slots y.slots).0 in
    is_key (rows_of_frame (alone columns) (p ++ q)) e (joined x.cell y.cell) a.kind (a.slots ++ b.slots) j.0 kind spreads
    ∙ ap (λ n. Some (record { name = n; kind = a.kind; slots = a.slots ++ b.slots })) x.name

-- so of several keys
pub keys_join : (keys : List Tree) (s : Scope) (columns : List Series) (p q : List ℕ) (ls rs : List Series) → list_all (λ e. is_elementwise e s) keys ≡ true
    → each (key_on (rows_of_frame (alone columns) p)) keys ≡ Some ls → each (key_on (rows_of_frame (alone columns) q)) keys ≡ Some rs → each (key_on (rows_of_frame (alone columns) (p ++ q))) keys ≡ Some (appended ls rs)
keys_join [] s columns p q ls rs w h g = ap (λ xs. Some (appended xs rs)) (sym (none_left ls h))
keys_join (e ∷ keys) s columns p q ls rs w h g =
    let t = both (is_elementwise e s) (list_all (λ e. is_elementwise e s) keys) w in
    let l = next (key_on (rows_of_frame (alone columns) p) e) (each (key_on (rows_of_frame (alone columns) p)) keys) ls h in
    let r = next (key_on (rows_of_frame (alone columns) q) e) (each (key_on (rows_of_frame (alone columns) q)) keys) rs g in
    (λ i. key_joins e s columns p q l.item r.item t.0 l.made r.made i >>= λ y. option_map (λ ys. y ∷ ys) (keys_join keys s columns p q l.rest r.rest t.1 l.others r.others i))
    ∙ (λ i. Some (appended (sym l.all i) (sym r.all i)))

-- a column at all its rows
column_whole : (n : ℕ) (s : Series) → length s.slots ≡ n → series_at (range_with_len 0 n) s ≡ s
column_whole n s h = let z : 0 + n ≤ length s.slots = omega (arith, h) in range_slots s 0 n z ∙ ap (λ (xs : List Slot). record { name = s.name; kind = s.kind; slots = xs }) (take_all n s.slots (omega (arith, h)))

columns_whole : (n : ℕ) (columns : List Series) → all_have_height n columns ≡ true → map (series_at (range_with_len 0 n)) columns ≡ columns
columns_whole n [] h = refl
columns_whole n (s ∷ columns) h = let t = both (has_height n s) (all_have_height n columns) h in λ i. column_whole n s (high n s t.0) i ∷ columns_whole n columns t.1 i

-- a frame at all its rows
pub frame_whole : (n : ℕ) (columns : List Series) → all_have_height n columns ≡ true → rows_of_frame (alone columns) (range_with_len 0 n) ≡ alone columns
frame_whole n columns h = λ i. record { columns = columns_whole n columns h i; external = [] }

-- each key column has the frame's height
pub keys_high : (frame : Frame) (keys : List Tree) (by : List Series) → each (key_on frame) keys ≡ Some by → all_have_height (height frame) by ≡ true
keys_high frame [] by h = ap (all_have_height (height frame)) (none_left by h)
keys_high frame (e ∷ keys) by h =
    let n = next (key_on frame e) (each (key_on frame) keys) by h in
    let k = key_is frame e n.item n.made in
    ap (all_have_height (height frame)) n.all ∙ (λ i. is_high (height frame) n.item (spread_long (height frame) k.cell n.item.slots k.slots) i && keys_high frame keys n.rest n.others i)

-- An operator goes row by row.
use Rattle.std.proofs.Common.{◌≡◌, ◌⊎◌, inl, inr, ℕ, ◌&&◌, true, List, [], Result, Ok, Err, map, refl, sym, ap, ◌∙◌}
use Rattle.px_column.specs.Operator.{operated, operator_kind}
use Rattle.px_column.specs.Prelude.{Kind, Refuses}
use Rattle.px_column.specs.Result.{◌>>=◌}
use Rattle.px_value.proofs.FitLaws.{both}
use Rattle.px_value.specs.declared.error.PxError.{PxError}
use Rattle.px_value.specs.declared.error.PxError.TheVariants.{OutOfMemory}
use Rattle.px_value.specs.declared.operator.Operator.{Operator}
use Rattle.px_frame.specs.Cell.{Cell, is_unit_cell}
use Rattle.px_frame.specs.Frame.{are_below}
use Rattle.px_frame.specs.Spread.{NamedCell}
use Rattle.px_tree.specs.Node.{binary_cell}
use Rattle.px_nodes.specs.Named.{binary_named, under}
use Rattle.px_nodes.specs.Together.{stands_at}
use Rattle.px_context.specs.Context.{Context, IsContext, cell_kind, cells_of, has_units}
use Rattle.px_lanes.specs.Alike.{AreLike}
use Rattle.px_lanes.specs.Lane.{has_lane, lane_of, untouched_of}
use Rattle.px_lanes.specs.Made.{ArePaired, IsRefusal}
use Rattle.px_lanes.specs.Operator.{operator_answers}
use Rattle.px_lanes.proofs.Joining.{named}
use Rattle.px_lanes.proofs.Lanes.{IsRowWise, lane_kind, named_at, two_read}
use Rattle.px_lanes.proofs.Likeness.{like_two, shaped}
use Rattle.px_lanes.proofs.Rowwise.{IsRow, cell_at, two_at, two_there, zip_shape}
use Rattle.px_value.proofs.Refusing.{refuses_or}

abbrev typed_ok : Kind → Result Kind PxError
typed_ok k = Ok k

-- a type that was made, and what was made of it
pub record IsTyped {X : Type 0} (o : Result Kind PxError) (f : Kind → Result X PxError) (x : X) : Type 0 where
  pub kind : Kind
  pub typed : o ≡ Ok kind
  pub made : f kind ≡ Ok x

pub typed_by : {X : Type 0} (o : Result Kind PxError) (f : Kind → Result X PxError) (x : X) → (o >>= f) ≡ Ok x → IsTyped o f x
typed_by (Ok k) f x h = record { kind = k; typed = refl; made = h }
typed_by (Err e) f x h = absurd (cc)

-- a cell that was made under a name and a type
pub record IsUnder (name : List ℕ) (k : Kind) (made : Result Cell PxError) (c : NamedCell) : Type 0 where
  pub cell : made ≡ Ok c.cell
  pub name_is : c.name ≡ name
  pub kind_is : c.kind ≡ k

pub made_under : (name : List ℕ) (k : Kind) (made : Result Cell PxError) (c : NamedCell) → under name k made ≡ Ok c → IsUnder name k made c
made_under name k (Ok x) c h = let same : record { name = name; kind = k; cell = x } ≡ c = cc in rw (← same) (record { cell = refl; name_is = refl; kind_is = refl })
made_under name k (Err e) c h = absurd (cc)

-- the same with another cell
pub under_made : (name : List ℕ) (k : Kind) (c : NamedCell) (made : Result Cell PxError) (x : Cell) → c.name ≡ name → c.kind ≡ k → made ≡ Ok x → under name k made ≡ Ok (record { name = c.name; kind = c.kind; cell = x })
under_made name k c made x n t h = ap (under name k) h ∙ (λ i. Ok (record { name = sym n i; kind = sym t i; cell = x }))

pub ok_is : (k l : Kind) → typed_ok k ≡ typed_ok l → k ≡ l
ok_is k l h = cc

module _ (op : Operator) (a b c : NamedCell) (h : binary_named op a b ≡ Ok c) where
  binary_typed : IsTyped (operator_kind op a.kind b.kind) (λ k. under a.name k (binary_cell a.kind op a.cell b.cell)) c
  binary_typed = typed_by (operator_kind op a.kind b.kind) (λ k. under a.name k (binary_cell a.kind op a.cell b.cell)) c h

  binary_under : IsUnder a.name binary_typed.kind (binary_cell a.kind op a.cell b.cell) c
  binary_under = made_under a.name binary_typed.kind (binary_cell a.kind op a.cell b.cell) c binary_typed.made

  binary_row : (n : ℕ) (g : List ℕ) → stands_at n a.cell ≡ true → stands_at n b.cell ≡ true → are_below n g ≡ true
      → IsRow n g (is_unit_cell a.cell && is_unit_cell b.cell) (binary_cell a.kind op (cell_at a.cell g) (cell_at b.cell g)) c.cell
  binary_row n g x y below = two_at (operated a.kind op) n a.cell b.cell c.cell g x y below binary_under.cell

  binary_at : (n : ℕ) (g : List ℕ) → stands_at n a.cell ≡ true → stands_at n b.cell ≡ true → are_below n g ≡ true → binary_named op (named_at a g) (named_at b g) ≡ Ok (named_at c g)
  binary_at n g x y below =
      ap (λ o. o >>= λ k. under a.name k (binary_cell a.kind op (cell_at a.cell g) (cell_at b.cell g))) binary_typed.typed
      ∙ under_made a.name binary_typed.kind c (binary_cell a.kind op (cell_at a.cell g) (cell_at b.cell g)) (cell_at c.cell g) binary_under.name_is binary_under.kind_is (binary_row n g x y below).at

  binary_kind : operator_kind op a.kind b.kind ≡ Ok c.kind
  binary_kind = binary_typed.typed ∙ ap Ok (sym binary_under.kind_is)

  binary_shape : is_unit_cell c.cell ≡ (is_unit_cell a.cell && is_unit_cell b.cell)
  binary_shape = zip_shape (operated a.kind op) a.cell b.cell c.cell binary_under.cell

-- the answers group by group have the left one's name, the operator's type, and are units where both have
pub binary_alike : (op : Operator) (l r : Context) (k : Kind) (cs : List NamedCell) → operator_kind op (cell_kind l) (cell_kind r) ≡ Ok k → operator_answers op l r ≡ map Ok cs
    → AreLike l.values.name k (has_units l.layout && has_units r.layout) cs
binary_alike op l r k cs o h =
    like_two l.values.name k (has_units l.layout && has_units r.layout) (binary_named op) l.values.name r.values.name (cell_kind l) (cell_kind r) (has_units l.layout) (has_units r.layout)
    (λ a b c u v made. record {
      name_is = (binary_under op (named l.values.name (cell_kind l) a) (named r.values.name (cell_kind r) b) c made).name_is;
      kind_is = ok_is c.kind k (sym (binary_kind op (named l.values.name (cell_kind l) a) (named r.values.name (cell_kind r) b) c made) ∙ o);
      shape = binary_shape op (named l.values.name (cell_kind l) a) (named r.values.name (cell_kind r) b) c made ∙ (λ i. u i && v i);
    })
    (cells_of l) (cells_of r) cs (shaped l) (shaped r) h

-- it goes row by row
pub binary_rows : (op : Operator) → IsRowWise (binary_named op) (operator_kind op)
binary_rows op = record {
  at = λ n a b c g x y group h. binary_at op a b c h n g x y (both (are_below n g) _ group).0;
  stands = λ n a b c x y h. (binary_row op a b c h n [] x y refl).stands;
  name = λ a b c h. (binary_under op a b c h).name_is;
  kind_is = λ a b c h. binary_kind op a b c h;
  shape = λ a b c h. binary_shape op a b c h;
}

-- on cells of as many rows it is refused for its types alone
binary_refused : (op : Operator) (n : ℕ) (a b : NamedCell) (e : PxError) → stands_at n a.cell ≡ true → stands_at n b.cell ≡ true → binary_named op a b ≡ Err e → operator_kind op a.kind b.kind ≡ Err e
binary_refused op n a b e x y h = by (operator_kind op a.kind b.kind) h
  where
    under_refused : (k : Kind) (made : Result Cell PxError) → (made ≡ Err e → ⊥) → under a.name k made ≡ Err e → ⊥
    under_refused k (Ok c) f g = cc
    under_refused k (Err d) f g = f (cc)

    by : (o : Result Kind PxError) → (o >>= λ k. under a.name k (binary_cell a.kind op a.cell b.cell)) ≡ Err e → o ≡ Err e
    by (Err d) g = cc
    by (Ok k) g = absurd (under_refused k (binary_cell a.kind op a.cell b.cell) (two_there (operated a.kind op) n a.cell b.cell e x y) g)

module _ (l r : Context) (p : ArePaired l r) (okl : IsContext l) (okr : IsContext r) (hl : has_lane l ≡ true) (hr : has_lane r ≡ true) where
  -- and so on two contexts that read from one cell each
  pub lanes_refused : (op : Operator) (e : PxError) (n : ℕ) → Refuses e (binary_named op (lane_of l) (lane_of r)) → (operator_kind op (cell_kind l) (cell_kind r) ≡ Err e) ⊎ IsRefusal e (operator_answers op l r) n
  lanes_refused op e n h = by (refuses_or e (binary_named op (lane_of l) (lane_of r)) h)
    where
      by : (e ≡ OutOfMemory) ⊎ (binary_named op (lane_of l) (lane_of r) ≡ Err e) → (operator_kind op (cell_kind l) (cell_kind r) ≡ Err e) ⊎ IsRefusal e (operator_answers op l r) n
      by (inl m) = inr (inl (inl m))
      by (inr f) =
          let read = two_read l r p okl okr hl hr l.untouched refl in
          inl ((λ i. operator_kind op (lane_kind l okl hl i) (lane_kind r okr hr i)) ∙ binary_refused op (untouched_of l r).groups.height (lane_of l) (lane_of r) e read.0.stands read.1.stands f)

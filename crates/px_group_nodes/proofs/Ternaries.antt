-- A ternary goes row by row.
use Rattle.std.proofs.Common.{◌≡◌, ◌⊎◌, inl, inr, ℕ, Bool, ◌&&◌, true, false, List, [], ◌∷◌, Result, Ok, Err, map, refl, subst, sym, ap, ◌∙◌, if◌then◌else◌}
use Rattle.px_column.specs.Chosen.{chosen}
use Rattle.px_column.specs.Operator.{is_boolean_kind, kind_where}
use Rattle.px_column.specs.Prelude.{Kind, Refuses, kind_eq}
use Rattle.px_column.specs.Result.{◌>>=◌}
use Rattle.px_value.proofs.FitLaws.{both}
use Rattle.px_value.specs.declared.error.PxError.{PxError}
use Rattle.px_value.specs.declared.error.PxError.TheVariants.{OutOfMemory, SchemaMismatch}
use Rattle.px_frame.specs.Cell.{Cell, is_unit_cell}
use Rattle.px_frame.specs.Frame.{are_below}
use Rattle.px_frame.specs.Groups.{IsGroups}
use Rattle.px_frame.specs.Spread.{NamedCell}
use Rattle.px_tree.specs.Node.{ternary_cell}
use Rattle.px_nodes.specs.Named.{ternary_named, under}
use Rattle.px_nodes.specs.Together.{stands_at}
use Rattle.px_context.specs.Context.{Context, IsContext, cell_kind, cells_of, has_units}
use Rattle.px_lanes.specs.Alike.{AreLike}
use Rattle.px_lanes.specs.Lane.{has_lane, lane_of, with_lane}
use Rattle.px_lanes.specs.Made.{IsRefusal, KeepsGroups}
use Rattle.px_lanes.proofs.Joining.{named}
use Rattle.px_lanes.proofs.Lanes.{lane_kind, named_at}
use Rattle.px_lanes.proofs.Likeness.{shaped}
use Rattle.px_lanes.proofs.Operators.{IsTyped, IsUnder, made_under, ok_is, typed_by, under_made}
use Rattle.px_lanes.proofs.Rowwise.{IsRow, cell_at}
use Rattle.px_group_nodes.specs.Ternary.{IsTernary, ternary_answers, ternary_kind}
use Rattle.px_group_nodes.specs.Three.{AreThreePaired, untouched_of_three}
use Rattle.px_group_nodes.proofs.LanesThree.{IsRowWiseThree, kept_three, lane_three, made_three, stands_three, three_read}
use Rattle.px_group_nodes.proofs.LikenessThree.{like_three}
use Rattle.px_group_nodes.proofs.RowwiseThree.{three_at, three_there, zip_three_shape}
use Rattle.px_value.proofs.Refusing.{refuses_or}

after_test : (t : Bool) (o : Result Kind PxError) (f : Kind → Result NamedCell PxError) → (if t then (o >>= f) else Err SchemaMismatch) ≡ ((if t then o else Err SchemaMismatch) >>= f)
after_test true o f = refl
after_test false o f = refl

-- the type of a ternary comes first
ternary_as : (p a b : NamedCell) → ternary_named p a b ≡ (ternary_kind p.kind a.kind b.kind >>= λ k. under a.name k (ternary_cell p.cell a.cell b.cell))
ternary_as p a b = after_test (is_boolean_kind p.kind) (kind_where (kind_eq a.kind b.kind) a.kind) (λ k. under a.name k (ternary_cell p.cell a.cell b.cell))

module _ (p a b c : NamedCell) (h : ternary_named p a b ≡ Ok c) where
  ternary_typed : IsTyped (ternary_kind p.kind a.kind b.kind) (λ k. under a.name k (ternary_cell p.cell a.cell b.cell)) c
  ternary_typed = typed_by (ternary_kind p.kind a.kind b.kind) (λ k. under a.name k (ternary_cell p.cell a.cell b.cell)) c (sym (ternary_as p a b) ∙ h)

  ternary_under : IsUnder a.name ternary_typed.kind (ternary_cell p.cell a.cell b.cell) c
  ternary_under = made_under a.name ternary_typed.kind (ternary_cell p.cell a.cell b.cell) c ternary_typed.made

  ternary_row : (n : ℕ) (g : List ℕ) → stands_at n p.cell ≡ true → stands_at n a.cell ≡ true → stands_at n b.cell ≡ true → are_below n g ≡ true
      → IsRow n g (is_unit_cell p.cell && (is_unit_cell a.cell && is_unit_cell b.cell)) (ternary_cell (cell_at p.cell g) (cell_at a.cell g) (cell_at b.cell g)) c.cell
  ternary_row n g x y z below = three_at chosen n p.cell a.cell b.cell c.cell g x y z below ternary_under.cell

  ternary_at : (n : ℕ) (g : List ℕ) → stands_at n p.cell ≡ true → stands_at n a.cell ≡ true → stands_at n b.cell ≡ true → are_below n g ≡ true
      → ternary_named (named_at p g) (named_at a g) (named_at b g) ≡ Ok (named_at c g)
  ternary_at n g x y z below =
      ternary_as (named_at p g) (named_at a g) (named_at b g)
      ∙ ap (λ o. o >>= λ k. under a.name k (ternary_cell (cell_at p.cell g) (cell_at a.cell g) (cell_at b.cell g))) ternary_typed.typed
      ∙ under_made a.name ternary_typed.kind c (ternary_cell (cell_at p.cell g) (cell_at a.cell g) (cell_at b.cell g)) (cell_at c.cell g) ternary_under.name_is ternary_under.kind_is (ternary_row n g x y z below).at

  ternary_type_is : ternary_kind p.kind a.kind b.kind ≡ Ok c.kind
  ternary_type_is = ternary_typed.typed ∙ ap Ok (sym ternary_under.kind_is)

  ternary_shape : is_unit_cell c.cell ≡ (is_unit_cell p.cell && (is_unit_cell a.cell && is_unit_cell b.cell))
  ternary_shape = zip_three_shape chosen p.cell a.cell b.cell c.cell ternary_under.cell

-- the answers group by group have the first branch's name, the ternary's type, and are units where all three have
pub ternary_alike : (p a b : Context) (k : Kind) (cs : List NamedCell) → ternary_kind (cell_kind p) (cell_kind a) (cell_kind b) ≡ Ok k → ternary_answers p a b ≡ map Ok cs
    → AreLike a.values.name k (has_units p.layout && (has_units a.layout && has_units b.layout)) cs
ternary_alike p a b k cs o h =
    like_three a.values.name k (has_units p.layout && (has_units a.layout && has_units b.layout)) ternary_named p.values.name a.values.name b.values.name (cell_kind p) (cell_kind a) (cell_kind b)
    (has_units p.layout) (has_units a.layout) (has_units b.layout)
    (λ x y z d u v w made. record {
      name_is = (ternary_under (named p.values.name (cell_kind p) x) (named a.values.name (cell_kind a) y) (named b.values.name (cell_kind b) z) d made).name_is;
      kind_is = ok_is d.kind k (sym (ternary_type_is (named p.values.name (cell_kind p) x) (named a.values.name (cell_kind a) y) (named b.values.name (cell_kind b) z) d made) ∙ o);
      shape = ternary_shape (named p.values.name (cell_kind p) x) (named a.values.name (cell_kind a) y) (named b.values.name (cell_kind b) z) d made ∙ (λ i. u i && (v i && w i));
    })
    (cells_of p) (cells_of a) (cells_of b) cs (shaped p) (shaped a) (shaped b) h

-- it goes row by row
pub ternary_rows : IsRowWiseThree ternary_named ternary_kind
ternary_rows = record {
  at = λ n p a b c g x y z group h. ternary_at p a b c h n g x y z (both (are_below n g) _ group).0;
  stands = λ n p a b c x y z h. (ternary_row p a b c h n [] x y z refl).stands;
  name = λ p a b c h. (ternary_under p a b c h).name_is;
  kind_is = λ p a b c h. ternary_type_is p a b c h;
  shape = λ p a b c h. ternary_shape p a b c h;
}

-- on cells of as many rows it is refused for its types alone
ternary_denied : (n : ℕ) (p a b : NamedCell) (e : PxError) → stands_at n p.cell ≡ true → stands_at n a.cell ≡ true → stands_at n b.cell ≡ true → ternary_named p a b ≡ Err e → ternary_kind p.kind a.kind b.kind ≡ Err e
ternary_denied n p a b e x y z h = by (ternary_kind p.kind a.kind b.kind) (sym (ternary_as p a b) ∙ h)
  where
    under_refused : (k : Kind) (made : Result Cell PxError) → (made ≡ Err e → ⊥) → under a.name k made ≡ Err e → ⊥
    under_refused k (Ok c) f g = cc
    under_refused k (Err d) f g = f (cc)

    by : (o : Result Kind PxError) → (o >>= λ k. under a.name k (ternary_cell p.cell a.cell b.cell)) ≡ Err e → o ≡ Err e
    by (Err d) g = cc
    by (Ok k) g = absurd (under_refused k (ternary_cell p.cell a.cell b.cell) (three_there chosen n p.cell a.cell b.cell e x y z) g)

module _ (a b c : Context) (p : AreThreePaired a b c) (oka : IsContext a) (okb : IsContext b) (okc : IsContext c) (ha : has_lane a ≡ true) (hb : has_lane b ≡ true) (hc : has_lane c ≡ true) where
  -- and so on three contexts that read from one cell each
  pub lanes_denied : (e : PxError) (n : ℕ) → Refuses e (ternary_named (lane_of a) (lane_of b) (lane_of c)) → (ternary_kind (cell_kind a) (cell_kind b) (cell_kind c) ≡ Err e) ⊎ IsRefusal e (ternary_answers a b c) n
  lanes_denied e n h = by (refuses_or e (ternary_named (lane_of a) (lane_of b) (lane_of c)) h)
    where
      by : (e ≡ OutOfMemory) ⊎ (ternary_named (lane_of a) (lane_of b) (lane_of c) ≡ Err e) → (ternary_kind (cell_kind a) (cell_kind b) (cell_kind c) ≡ Err e) ⊎ IsRefusal e (ternary_answers a b c) n
      by (inl m) = inr (inl (inl m))
      by (inr f) =
          let read = three_read a b c p oka okb okc ha hb hc in
          inl
          ((λ i. ternary_kind (lane_kind a oka ha i) (lane_kind b okb hb i) (lane_kind c okc hc i))
          ∙ ternary_denied (untouched_of_three a b c).groups.height (lane_of a) (lane_of b) (lane_of c) e read.0.stands read.1.0.stands read.1.1.stands f)

  module _ (m : NamedCell) (made : ternary_named (lane_of a) (lane_of b) (lane_of c) ≡ Ok m) (u : Context) (eu : u ≡ untouched_of_three a b c) where
    -- what is made of the cells from which they read stands at the groups of an untouched one
    pub lanes_stand : stands_at u.groups.height m.cell ≡ true
    lanes_stand = subst (λ (q : Context). stands_at q.groups.height m.cell ≡ true) (sym eu) (stands_three a b c p oka okb okc ha hb hc ternary_named ternary_kind ternary_rows m made)

    module _ (d : Context) (ed : d ≡ with_lane u m) where
      lanes_is : with_lane (untouched_of_three a b c) m ≡ d
      lanes_is = sym (ed ∙ ap (λ (q : Context). with_lane q m) eu)

      -- and is their ternary
      pub lanes_made : IsGroups a.groups.height a.groups.groups → IsGroups b.groups.height b.groups.groups → IsGroups c.groups.height c.groups.groups → IsTernary a b c d
      lanes_made ga gb gc = subst (IsTernary a b c) lanes_is (made_three a b c p oka okb okc ha hb hc ternary_named ternary_kind ternary_rows m made ga gb gc)

      pub lanes_kept : KeepsGroups (a ∷ b ∷ c ∷ []) d
      lanes_kept = subst (KeepsGroups (a ∷ b ∷ c ∷ [])) lanes_is (kept_three a b c m)

      pub lanes_lane : has_lane d ≡ true
      lanes_lane = subst (λ (q : Context). has_lane q ≡ true) lanes_is (lane_three a b c p oka okb okc ha hb hc ternary_named ternary_kind ternary_rows m made)

-- Partial reductions of groups, item by item.
use Rattle.std.proofs.Common.{◌≡◌, ℕ, zero, suc, ◌+◌, ◌<◌, ◌≤◌, List, [], ◌∷◌, ◌++◌, Some, length, take, drop, get_or, slice_get, refl, sym, ◌∙◌, ap, arith, add-one, subst}
use Rattle.std.proofs.Math.ListN.{set}
use Rattle.px_column.specs.Prelude.{Slot, Kind, Series}
use Rattle.px_frame.specs.Partial.{ArePartial, IsPartial}
use Rattle.px_frame.specs.Groups.{Group}
use Rattle.px_frame.specs.declared.blocks.Partial.{Partial}
use Rattle.px_frame.proofs.Each.{take_suc}

module _ {R : Type 0} (stands_for : R → Kind → List Slot → Type 0) (s : Series) where
  pub ArePartial-length : (ps : List Group) (bs : List (Partial R)) → ArePartial stands_for s ps bs → length bs ≡ length ps
  ArePartial-length [] [] h = refl
  ArePartial-length [] (b ∷ bs) h = absurd h
  ArePartial-length (p ∷ ps) [] h = absurd h
  ArePartial-length (p ∷ ps) (b ∷ bs) h = ap suc (ArePartial-length ps bs h.1)

  -- the one of a group
  pub ArePartial-at : (ps : List Group) (bs : List (Partial R)) (i : ℕ) (p : Group) (d : Partial R) → ArePartial stands_for s ps bs → slice_get ps i ≡ Some p → IsPartial stands_for s p (get_or bs i d)
  ArePartial-at [] bs i p d h e = cc
  ArePartial-at (q ∷ ps) [] i p d h e = absurd h
  ArePartial-at (q ∷ ps) (b ∷ bs) zero p d h e = let same : q ≡ p = cc in subst (λ r. IsPartial stands_for s r b) same h.0
  ArePartial-at (q ∷ ps) (b ∷ bs) (suc i) p d h e = ArePartial-at ps bs i p d h.1 e

  -- another one of the same group in its place
  pub ArePartial-set : (ps : List Group) (bs : List (Partial R)) (i : ℕ) (p : Group) (b : Partial R) → ArePartial stands_for s ps bs → slice_get ps i ≡ Some p → IsPartial stands_for s p b → ArePartial stands_for s ps (set bs i b)
  ArePartial-set [] bs i p b h e n = cc
  ArePartial-set (q ∷ ps) [] i p b h e n = absurd h
  ArePartial-set (q ∷ ps) (c ∷ bs) zero p b h e n = let same : p ≡ q = cc in (subst (λ r. IsPartial stands_for s r b) same n, h.1)
  ArePartial-set (q ∷ ps) (c ∷ bs) (suc i) p b h e n = (h.0, ArePartial-set ps bs i p b h.1 e n)

  append : (ps : List Group) (bs : List (Partial R)) (p : Group) (b : Partial R) → ArePartial stands_for s ps bs → IsPartial stands_for s p b → ArePartial stands_for s (ps ++ p ∷ []) (bs ++ b ∷ [])
  append [] [] p b h n = (n, tt)
  append [] (c ∷ bs) p b h n = absurd h
  append (q ∷ ps) [] p b h n = absurd h
  append (q ∷ ps) (c ∷ bs) p b h n = (h.0, append ps bs p b h.1 n)

  -- the one of the next group
  pub ArePartial-push : (ps : List Group) (bs : List (Partial R)) (i : ℕ) (p : Group) (b : Partial R) → ArePartial stands_for s (take i ps) bs → slice_get ps i ≡ Some p → IsPartial stands_for s p b → ArePartial stands_for s (take (i + 1) ps) (bs ++ b ∷ [])
  ArePartial-push ps bs i p b h e n = subst (λ qs. ArePartial stands_for s qs (bs ++ b ∷ [])) (sym (ap (λ n. take n ps) (add-one i) ∙ take_suc ps i p e)) (append (take i ps) bs p b h n)

  -- the first of those that are left is the next group's
  pub ArePartial-next : (ps : List Group) (i : ℕ) (b : Partial R) (bs : List (Partial R)) (p : Group) → ArePartial stands_for s (drop i ps) (b ∷ bs) → slice_get ps i ≡ Some p → IsPartial stands_for s p b × ArePartial stands_for s (drop (i + 1) ps) bs
  ArePartial-next [] i b bs p h e = cc
  ArePartial-next (q ∷ ps) zero b bs p h e = let same : q ≡ p = cc in (subst (λ r. IsPartial stands_for s r b) same h.0, h.1)
  ArePartial-next (q ∷ ps) (suc i) b bs p h e =
      let next = ArePartial-next ps i b bs p h e in
      let one : suc (i + 1) ≡ suc i + 1 = omega arith in
      (next.0, subst (λ n. ArePartial stands_for s (drop n (q ∷ ps)) bs) one next.1)

  -- where one is left there is a next group
  pub ArePartial-some : (ps : List Group) (i : ℕ) (b : Partial R) (bs : List (Partial R)) → ArePartial stands_for s (drop i ps) (b ∷ bs) → i < length ps
  ArePartial-some [] zero b bs h = absurd h
  ArePartial-some [] (suc i) b bs h = absurd h
  ArePartial-some (p ∷ ps) zero b bs h = omega arith
  ArePartial-some (p ∷ ps) (suc i) b bs h = omega (arith, ArePartial-some ps i b bs h)

  -- none is left after the last group
  pub ArePartial-none : (ps : List Group) (i : ℕ) (bs : List (Partial R)) → ArePartial stands_for s (drop i ps) bs → length bs ≡ 0 → length ps ≤ i
  ArePartial-none [] i bs h e = omega arith
  ArePartial-none (p ∷ ps) zero [] h e = absurd h
  ArePartial-none (p ∷ ps) zero (b ∷ bs) h e = absurd (omega (arith, e))
  ArePartial-none (p ∷ ps) (suc i) bs h e = omega (arith, ArePartial-none ps i bs h e)

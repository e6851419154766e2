-- The tests of equality decide it.
use Rattle.std.specs.Prelude.{◌≡◌, Bool, true, false, ◌&&◌, List, Some, None, refl}
use Rattle.std.proofs.Common.{sym, ◌∙◌, ap}
use Rattle.std.specs.Bool.{Decides}
use Rattle.std.specs.Cmp.{IsEquivalence}
use Rattle.std.specs.Cmp.Lexicographic.{bytes_decides}
use Rattle.std.proofs.lemmas.Bool.Decides.{Decides-like, Decides-and, Decides-int_eq, same_from_decides}
use Rattle.px_value.specs.Datum.{Datum, boolean, integer, text, bytes, list, Slots, no_slots, absent, present, Slot, slots, items, items-slots}
use Rattle.px_value.specs.Equality.{bool_eq, datum_eq, slots_eq, slot_eq, row_eq}

-- a test that decides sameness is an equivalence
pub IsEquivalence-decides : {K : Type 0} {E : K → K → Bool} → ((x y : K) → Decides (E x y) (x ≡ y)) → IsEquivalence E
IsEquivalence-decides {E} d = record {
  refl = λ x. (d x x).1 refl;
  symm = λ x y. same_from_decides (E x y) (E y x) (d x y) (Decides-like (E y x) sym sym (d y x));
  congr = λ x y z h. ap (λ w. E w z) ((d x y).0 h);
}

-- the test of truths decides whether they are the same
bool_decides : (a b : Bool) → Decides (bool_eq a b) (a ≡ b)
bool_decides true true = (λ h. refl, λ e. refl)
bool_decides false false = (λ h. refl, λ e. refl)
bool_decides true false = (λ h. cc, λ e. cc)
bool_decides false true = (λ h. cc, λ e. cc)

mutual
  -- the test of values decides whether they are the same
  pub datum_decides : (a b : Datum) → Decides (datum_eq a b) (a ≡ b)
  datum_decides (boolean a) (boolean b) = Decides-like (datum_eq (boolean a) (boolean b)) (ap boolean) (λ e. cc) (bool_decides a b)
  datum_decides (boolean a) (integer b) = (λ h. cc, λ e. cc)
  datum_decides (boolean a) (text b) = (λ h. cc, λ e. cc)
  datum_decides (boolean a) (bytes b) = (λ h. cc, λ e. cc)
  datum_decides (boolean a) (list b) = (λ h. cc, λ e. cc)
  datum_decides (integer a) (boolean b) = (λ h. cc, λ e. cc)
  datum_decides (integer a) (integer b) = Decides-like (datum_eq (integer a) (integer b)) (ap integer) (λ e. cc) (Decides-int_eq a b)
  datum_decides (integer a) (text b) = (λ h. cc, λ e. cc)
  datum_decides (integer a) (bytes b) = (λ h. cc, λ e. cc)
  datum_decides (integer a) (list b) = (λ h. cc, λ e. cc)
  datum_decides (text a) (boolean b) = (λ h. cc, λ e. cc)
  datum_decides (text a) (integer b) = (λ h. cc, λ e. cc)
  datum_decides (text a) (text b) = Decides-like (datum_eq (text a) (text b)) (ap text) (λ e. cc) (bytes_decides a b)
  datum_decides (text a) (bytes b) = (λ h. cc, λ e. cc)
  datum_decides (text a) (list b) = (λ h. cc, λ e. cc)
  datum_decides (bytes a) (boolean b) = (λ h. cc, λ e. cc)
  datum_decides (bytes a) (integer b) = (λ h. cc, λ e. cc)
  datum_decides (bytes a) (text b) = (λ h. cc, λ e. cc)
  datum_decides (bytes a) (bytes b) = Decides-like (datum_eq (bytes a) (bytes b)) (ap bytes) (λ e. cc) (bytes_decides a b)
  datum_decides (bytes a) (list b) = (λ h. cc, λ e. cc)
  datum_decides (list a) (boolean b) = (λ h. cc, λ e. cc)
  datum_decides (list a) (integer b) = (λ h. cc, λ e. cc)
  datum_decides (list a) (text b) = (λ h. cc, λ e. cc)
  datum_decides (list a) (bytes b) = (λ h. cc, λ e. cc)
  datum_decides (list a) (list b) = Decides-like (datum_eq (list a) (list b)) (ap list) (λ e. cc) (slots_decides a b)

  -- the test of lists' items decides whether they are the same
  pub slots_decides : (a b : Slots) → Decides (slots_eq a b) (a ≡ b)
  slots_decides no_slots no_slots = (λ h. refl, λ e. refl)
  slots_decides no_slots (absent b) = (λ h. cc, λ e. cc)
  slots_decides no_slots (present d b) = (λ h. cc, λ e. cc)
  slots_decides (absent a) no_slots = (λ h. cc, λ e. cc)
  slots_decides (absent a) (absent b) = Decides-like (slots_eq a b) (ap absent) (λ e. cc) (slots_decides a b)
  slots_decides (absent a) (present d b) = (λ h. cc, λ e. cc)
  slots_decides (present c a) no_slots = (λ h. cc, λ e. cc)
  slots_decides (present c a) (absent b) = (λ h. cc, λ e. cc)
  slots_decides (present c a) (present d b) =
      Decides-like (datum_eq c d && slots_eq a b) (λ p i. present (p.0 i) (p.1 i)) (λ e. (cc, cc)) (Decides-and (datum_eq c d) (slots_eq a b) (datum_decides c d) (slots_decides a b))

-- the test of places decides whether they are the same
pub slot_decides : (a b : Slot) → Decides (slot_eq a b) (a ≡ b)
slot_decides None None = (λ h. refl, λ e. refl)
slot_decides None (Some b) = (λ h. cc, λ e. cc)
slot_decides (Some a) None = (λ h. cc, λ e. cc)
slot_decides (Some a) (Some b) = Decides-like (datum_eq a b) (ap Some) (λ e. cc) (datum_decides a b)

-- the test of rows decides whether they are the same
pub row_decides : (xs ys : List Slot) → Decides (row_eq xs ys) (xs ≡ ys)
row_decides xs ys =
    Decides-like (slots_eq (slots xs) (slots ys)) (λ e. sym (items-slots xs) ∙ ap items e ∙ items-slots ys) (ap slots) (slots_decides (slots xs) (slots ys))

-- What is seen of a list of values, and of an object's members.
use Rattle.std.proofs.Common.{◌≡◌, ◌≢◌, ◌∙◌, List, [], ◌∷◌, length, suc, map, refl, ap, arith, Some, None, slice_get}
use Rattle.std.specs.Prelude.{String, string_bytes}
use Rattle.std.specs.declared.alloc.Global.{Global}
use Rattle.serde_json.specs.Data.{Data, null, boolean, number, string, array, object, Members}
use Rattle.serde_json.specs.Find.{as_object}
use Rattle.serde_json.specs.View.{view, items_view, members_view}
use Rattle.serde_json.specs.declared.value.Value.{Value}
use Rattle.px_document.specs.Form.{listed, member_count, only_member}

pub listed_view : (vs : List Value) → listed (items_view vs) ≡ map view vs
listed_view [] = refl
listed_view (v ∷ vs) = ap (λ ds. view v ∷ ds) (listed_view vs)

pub member_count_view : (ms : List (String Global × Value)) → member_count (members_view ms) ≡ length ms
member_count_view [] = refl
member_count_view (m ∷ ms) = ap suc (member_count_view ms)

only_entry : (ms : List (String Global × Value)) (m : String Global × Value) → length ms ≡ 1 → slice_get ms 0 ≡ Some m → only_member (object (members_view ms)) ≡ Some (string_bytes m.0, view m.1)
only_entry [] m l h = cc
only_entry (n ∷ []) m l h = let same : n ≡ m = cc in ap (λ (k : String Global × Value). Some (string_bytes k.0, view k.1)) same
only_entry (n ∷ o ∷ ms) m l h = absurd (omega (arith, l))

no_only_entry : (ms : List (String Global × Value)) → length ms ≢ 1 → only_member (object (members_view ms)) ≡ None
no_only_entry [] h = refl
no_only_entry (n ∷ []) h = absurd (h refl)
no_only_entry (n ∷ o ∷ ms) h = refl

object_is : (d : Data) (ms : Members) → as_object d ≡ Some ms → d ≡ object ms
object_is null ms h = cc
object_is (boolean b) ms h = cc
object_is (number n) ms h = cc
object_is (string s) ms h = cc
object_is (array ds) ms h = cc
object_is (object ns) ms h = let same : ns ≡ ms = cc in ap object same

-- the only entry of an object is its only member
pub only_view : (d : Data) (ms : List (String Global × Value)) (m : String Global × Value) → as_object d ≡ Some (members_view ms) → length ms ≡ 1 → slice_get ms 0 ≡ Some m → only_member d ≡ Some (string_bytes m.0, view m.1)
only_view d ms m e l h = ap only_member (object_is d (members_view ms) e) ∙ only_entry ms m l h

-- an object of another number of entries has no only member
pub no_only_view : (d : Data) (ms : List (String Global × Value)) → as_object d ≡ Some (members_view ms) → length ms ≢ 1 → only_member d ≡ None
no_only_view d ms e h = ap only_member (object_is d (members_view ms) e) ∙ no_only_entry ms h

-- what is no object has no only member
pub no_only_object : (d : Data) → as_object d ≡ None → only_member d ≡ None
no_only_object null h = refl
no_only_object (boolean b) h = refl
no_only_object (number n) h = refl
no_only_object (string s) h = refl
no_only_object (array ds) h = refl
no_only_object (object ms) h = cc

-- How a document's data is taken apart, and how a reader's answer is told.
use Rattle.std.specs.Prelude.{◌≡◌, ℕ, suc, ◌==◌, Bool, false, List, [], ◌∷◌, ◌++◌, length, Option, Some, None, option_map, unwrap_or, if◌then◌else◌, Result, Ok, Err}
use Rattle.serde_json.specs.Data.{Data, object, Items, no_items, item, Members, no_members, member}
use Rattle.serde_json.specs.Find.{get, as_array, as_object}
use Rattle.px_column.specs.Option.{◌>>=◌, each}
use Rattle.px_document.specs.declared.document.fault.DocumentFault.{DocumentFault}
use Rattle.px_document.specs.declared.document.fault.DocumentFault.TheVariants.{BadDocument, OutOfMemory}

-- the only item
abbrev pub only : {A : Type 0} → List A → Option A
only (x ∷ []) = Some x
only _ = None

-- what was made so far, before what is made of the rest
abbrev pub with_front : {B : Type 0} → List B → Option (List B) → Option (List B)
with_front front rest = option_map (λ ys. front ++ ys) rest

-- the items, as a list
abbrev pub listed : Items → List Data
listed no_items = []
listed (item d ds) = d ∷ listed ds

-- the items of an array
abbrev pub items : Data → Option (List Data)
items d = option_map listed (as_array d)

-- how many members
abbrev pub member_count : Members → ℕ
member_count no_members = 0
member_count (member k d ms) = suc (member_count ms)

-- an object with n members
abbrev pub has_members : ℕ → Data → Bool
has_members n d = unwrap_or (option_map (λ ms. member_count ms == n) (as_object d)) false

-- the values under exactly these keys, in this order: each is there, and nothing else
abbrev pub fields : List (List ℕ) → Data → Option (List Data)
fields keys d = if has_members (length keys) d then each (λ k. get k d) keys else None

-- the value of an object whose only key is k
abbrev pub field : List ℕ → Data → Option Data
field k d = fields (k ∷ []) d >>= only

-- the object of this one member
abbrev pub single_member : List ℕ → Data → Data
single_member k d = object (member k d no_members)

-- the key and the value of an object of one member
abbrev pub only_member : Data → Option (List ℕ × Data)
only_member (object (member k d no_members)) = Some (k, d)
only_member _ = None

-- there is nothing to read, or memory was wanting
abbrev pub Misses : {Y : Type 0} → DocumentFault → Option Y → Type 0
Misses BadDocument expected = expected ≡ None
Misses OutOfMemory expected = Unit {0}

-- what was read, seen by view, is what is expected, unless memory was wanting
abbrev pub ReadsBy : {X Y : Type 0} → (X → Y) → Result X DocumentFault → Option Y → Type 0
ReadsBy view (Ok x) expected = expected ≡ Some (view x)
ReadsBy view (Err e) expected = Misses e expected

-- the same, where the value read is its own view
abbrev pub Reads : {X : Type 0} → Result X DocumentFault → Option X → Type 0
Reads (Ok x) expected = expected ≡ Some x
Reads (Err e) expected = Misses e expected

-- what was read along a text, where it could be read so: memory may be wanting, and there may be another way to read it
abbrev pub IfRead : {X : Type 0} → Result (Option X) DocumentFault → (X → Type 0) → Type 0
IfRead (Ok (Some x)) P = P x
IfRead (Ok None) P = Unit {0}
IfRead (Err OutOfMemory) P = Unit {0}
IfRead (Err BadDocument) P = ⊥

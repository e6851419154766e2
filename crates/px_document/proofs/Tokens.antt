-- Data that is read token by token: items of an array, and members of an object.
use Rattle.std.proofs.Common.{◌≡◌, ℕ, ◌-◌, ◌<◌, ◌≤◌, List, [], ◌∷◌, ◌++◌, length, Option, Some, None, option_map, option_and_then, refl, sym, ap, subst, ◌∙◌, arith, append-nil, append_assoc}
use Rattle.json.specs.Token as token
use Rattle.json.specs.Token.{Token}
use Rattle.json.specs.Json as json
use Rattle.json.specs.Json.{Parse, parse_map, after_end_array, read_key, items, members, value, if_last}
use Rattle.json.specs.Lex.{tokens}
use Rattle.json.proofs.Found.{one_reading}
use Rattle.json.proofs.Grammar.{items_end, items_more, left, members_end, members_more, read_key-shorter, skip_value-shorter, value-begin_array, value-begin_object, value_is}
use Rattle.serde_json.specs.Data.{Data, array, object, Items, item, Members, no_members, put}
use Rattle.serde_json.specs.Read.{converted, of_items, of_json, of_members, read}
use Rattle.px_value.specs.Option.{each}
use Rattle.px_column.specs.Prelude.{Kind, Series, Slot}
use Rattle.px_document.specs.Document.{fitting_place}
use Rattle.px_document.specs.Form.{listed}
use Rattle.px_document.specs.Tokens.{first_data, items_made, token_data}

with_rest : {B : Type 0} (s r : List Token) (x : Option B) (b : B) → option_map {U = B × List Token} (λ y. (y, s)) x ≡ Some (b, r) → (s ≡ r) × (x ≡ Some b)
with_rest s r None b e = absurd (cc)
with_rest {B} s r (Some y) b e = let same : ◌≡◌ {A = B × List Token} (y, s) (b, r) = cc in (ap (λ p. p.1) same, ap (λ p. Some p.0) same)

-- what was converted is there
pub converted_from : {A B : Type 0} (f : A → Option B) (o : Option (A × List Token)) (b : B) (r : List Token) → converted f o ≡ Some (b, r) → (a : A) × (o ≡ Some (a, r)) × (f a ≡ Some b)
converted_from f None b r e = absurd (cc)
converted_from f (Some p) b r e = let both = with_rest p.1 r (f p.0) b e in (p.0, ap (λ s. Some (p.0, s)) both.0, both.1)

-- a token that is a value by itself
pub first_token : (depth : ℕ) (t : Token) (r : List Token) (d : Data) → token_data t ≡ Some d → first_data depth (t ∷ r) ≡ Some (d, r)
first_token depth token.begin_object r d e = absurd (cc)
first_token depth token.end_object r d e = absurd (cc)
first_token depth token.begin_array r d e = absurd (cc)
first_token depth token.end_array r d e = absurd (cc)
first_token depth (token.key s) r d e = absurd (cc)
first_token depth (token.string s) r d e = ap (converted of_json) (value_is depth (token.string s ∷ r)) ∙ ap (option_map (λ x. (x, r))) e
first_token depth (token.number s) r d e = ap (converted of_json) (value_is depth (token.number s ∷ r)) ∙ ap (option_map (λ x. (x, r))) e
first_token depth (token.boolean b) r d e = ap (converted of_json) (value_is depth (token.boolean b ∷ r)) ∙ ap (option_map (λ x. (x, r))) e
first_token depth token.null r d e = ap (converted of_json) (value_is depth (token.null ∷ r)) ∙ ap (option_map (λ x. (x, r))) e
first_token depth token.bad r d e = absurd (cc)

-- what is made of a token that is a value by itself
pub made_of_token : {B : Type 0} (f : Data → Option B) (depth : ℕ) (t : Token) (r : List Token) (y : B) → option_and_then f (token_data t) ≡ Some y → converted f (first_data depth (t ∷ r)) ≡ Some (y, r)
made_of_token {B} f depth t r y e = by (token_data t) refl e
  where
    by : (o : Option Data) → token_data t ≡ o → option_and_then f o ≡ Some y → converted f (first_data depth (t ∷ r)) ≡ Some (y, r)
    by None is h = absurd (cc)
    by (Some d) is h = ap (converted f) (first_token depth t r d is) ∙ ap (option_map {U = B × List Token} (λ x. (x, r))) h

-- what a token says in the type of a column's rows
pub row_taken : (c : Series) (k : Kind) (t : Token) (r : List Token) (s : Slot) → c.kind ≡ k → option_and_then (fitting_place c.kind) (token_data t) ≡ Some s → converted (fitting_place k) (first_data 123 (t ∷ r)) ≡ Some (s, r)
row_taken c k t r s same e = made_of_token (fitting_place k) 123 t r s (subst (λ (x : Kind). option_and_then (fitting_place x) (token_data t) ≡ Some s) same e)

-- ---- the items of an array

item_first : (j : json.Json) (d : Data) → of_json j ≡ Some d → (o : Option (json.Items × List Token)) → converted of_items (parse_map (json.item j) o) ≡ parse_map (item d) (converted of_items o)
item_first j d e None = refl
item_first j d e (Some p) = rw e (by (of_items p.0))
  where
    by : (x : Option Items) → option_map (λ ds. (ds, p.1)) (option_map (item d) x) ≡ parse_map (item d) (option_map (λ ds. (ds, p.1)) x)
    by None = refl
    by (Some ds) = refl

made_first : {B : Type 0} (f : Data → Option B) (d : Data) (y : B) → f d ≡ Some y → (o : Option (Items × List Token))
    → converted (λ ds. each f (listed ds)) (parse_map (item d) o) ≡ parse_map (λ ys. y ∷ ys) (converted (λ ds. each f (listed ds)) o)
made_first f d y e None = refl
made_first {B} f d y e (Some p) = rw e (by (each f (listed p.0)))
  where
    by : (x : Option (List B)) → option_map {U = List B × List Token} (λ ys. (ys, p.1)) (option_map (λ ys. y ∷ ys) x) ≡ parse_map (λ ys. y ∷ ys) (option_map (λ ys. (ys, p.1)) x)
    by None = refl
    by (Some ys) = refl

-- one item, and the items behind it
pub items_next : {B : Type 0} (f : Data → Option B) (depth n : ℕ) (ts r : List Token) (y : B) → 0 < n → after_end_array ts ≡ None → converted f (first_data depth ts) ≡ Some (y, r)
    → items_made f depth n ts ≡ parse_map (λ ys. y ∷ ys) (items_made f depth (n - 1) r)
items_next f depth n ts r y some going e =
    let d = converted_from f (first_data depth ts) y r e in
    let j = converted_from of_json (value depth ts) d.0 r d.1 in
    let more = items_more (value depth) n ts r j.0 some going j.1 in
    ap (λ o. converted (λ ds. each f (listed ds)) (converted of_items o)) more
    ∙ ap (converted (λ ds. each f (listed ds))) (item_first j.0 d.0 j.2 (items (value depth) (n - 1) r))
    ∙ made_first f d.0 y d.2 (converted of_items (items (value depth) (n - 1) r))

-- no item is left
pub items_last : {B : Type 0} (f : Data → Option B) (depth n : ℕ) (ts r : List Token) → length ts ≤ n → after_end_array ts ≡ Some r → items_made f depth n ts ≡ Some ([], r)
items_last f depth n ts r enough e = ap (λ o. converted (λ ds. each f (listed ds)) (converted of_items o)) (items_end (value depth) n ts r enough e)

-- all that is made of the items from a start on is ys, before what is made of those from ts on
abbrev pub Follows : {B : Type 0} → (Data → Option B) → ℕ → List B → List Token → List Token → Type 0
Follows f depth ys start ts = (n : ℕ) × (length ts ≤ n) × (items_made f depth (length start) start ≡ parse_map (λ zs. ys ++ zs) (items_made f depth n ts))

pub follows_start : {B : Type 0} (f : Data → Option B) (depth : ℕ) (ts : List Token) → Follows f depth [] ts ts
follows_start {B} f depth ts = (length ts, omega arith, by (items_made f depth (length ts) ts))
  where
    by : (o : Option (List B × List Token)) → o ≡ parse_map (λ zs. [] ++ zs) o
    by None = refl
    by (Some p) = refl

-- a value takes at least one token
pub shorter : (depth : ℕ) (ts r : List Token) (d : Data) → first_data depth ts ≡ Some (d, r) → length r < length ts
shorter depth ts r d e =
    let j = converted_from of_json (value depth ts) d r e in
    skip_value-shorter depth ts r (ap left j.1)

-- one item more
pub follows_next : {B : Type 0} (f : Data → Option B) (depth : ℕ) (ys : List B) (start ts r : List Token) (y : B) → Follows f depth ys start ts → after_end_array ts ≡ None
    → converted f (first_data depth ts) ≡ Some (y, r) → Follows f depth (ys ++ y ∷ []) start r
follows_next {B} f depth ys start ts r y all going e =
    let d = converted_from f (first_data depth ts) y r e in
    let less = shorter depth ts r d.0 d.1 in
    let n = all.0 in
    let next = items_next f depth n ts r y (omega (arith, less, all.1)) going e in
    (n - 1, omega (arith, less, all.1), all.2 ∙ ap (parse_map (λ zs. ys ++ zs)) next ∙ by (items_made f depth (n - 1) r))
  where
    by : (o : Option (List B × List Token)) → parse_map (λ zs. ys ++ zs) (parse_map (λ zs. y ∷ zs) o) ≡ parse_map (λ zs. (ys ++ y ∷ []) ++ zs) o
    by None = refl
    by (Some p) = ap (λ zs. Some (zs, p.1)) (sym (append_assoc ys (y ∷ []) p.0))

-- no item is left
pub follows_end : {B : Type 0} (f : Data → Option B) (depth : ℕ) (ys : List B) (start ts r : List Token) → Follows f depth ys start ts → after_end_array ts ≡ Some r → items_made f depth (length start) start ≡ Some (ys, r)
follows_end f depth ys start ts r all over = all.2 ∙ ap (parse_map (λ zs. ys ++ zs)) (items_last f depth all.0 ts r all.1 over) ∙ ap (λ zs. Some (zs, r)) (append-nil ys)

-- what is made of the items is there
pub items_there : {B : Type 0} (f : Data → Option B) (depth n : ℕ) (ts r : List Token) (ys : List B) → items_made f depth n ts ≡ Some (ys, r)
    → (ds : Items) × (converted of_items (items (value depth) n ts) ≡ Some (ds, r)) × (each f (listed ds) ≡ Some ys)
items_there f depth n ts r ys e = converted_from (λ ds. each f (listed ds)) (converted of_items (items (value depth) n ts)) ys r e

array_from : (ds : Items) (r : List Token) (o : Option (json.Items × List Token)) → converted of_items o ≡ Some (ds, r) → converted of_json (parse_map json.array o) ≡ Some (array ds, r)
array_from ds r o e =
    let js = converted_from of_items o ds r e in
    ap (λ p. converted of_json (parse_map json.array p)) js.1 ∙ ap (λ x. option_map (λ y. (y, r)) (option_map array x)) js.2

-- the array of the items
pub first_array : (depth : ℕ) (ts r : List Token) (ds : Items) → 0 < depth → converted of_items (items (value (depth - 1)) (length ts) ts) ≡ Some (ds, r) → first_data depth (token.begin_array ∷ ts) ≡ Some (array ds, r)
first_array depth ts r ds some e = ap (converted of_json) (value-begin_array depth ts some) ∙ array_from ds r (items (value (depth - 1)) (length ts) ts) e

-- ---- the members of an object

-- the members behind those so far, to the end of an object, are these, with these tokens behind the object
abbrev pub Goes : ℕ → Members → List Token → Members → List Token → Type 0
Goes depth old ts ms r = (n : ℕ) → length ts ≤ n → converted (λ ns. of_members ns old) (members (value depth) n ts) ≡ Some (ms, r)

-- no member is left
pub no_member : (depth : ℕ) (old : Members) (ts r : List Token) → read_key ts ≡ Some (None, r) → Goes depth old ts old r
no_member depth old ts r e n enough = ap (converted (λ ns. of_members ns old)) (members_end (value depth) n ts r enough e)

member_first : (k : List ℕ) (j : json.Json) (d : Data) (old : Members) → of_json j ≡ Some d → (o : Option (json.Members × List Token))
    → converted (λ ns. of_members ns old) (parse_map (json.member k j) o) ≡ converted (λ ns. of_members ns (put k d old)) o
member_first k j d old e None = refl
member_first k j d old e (Some p) = rw e refl

-- one member, and the members behind it
pub member_next : (depth : ℕ) (old : Members) (ts s r : List Token) (k : List ℕ) (d : Data) (ms : Members) (end : List Token) → read_key ts ≡ Some (Some k, s) → first_data depth s ≡ Some (d, r)
    → Goes depth (put k d old) r ms end → Goes depth old ts ms end
member_next depth old ts s r k d ms end key first more n enough =
    let j = converted_from of_json (value depth s) d r first in
    let less = read_key-shorter ts (Some k) s key in
    let lesser = shorter depth s r d first in
    ap (converted (λ ns. of_members ns old)) (members_more (value depth) n k ts s r j.0 (omega (arith, less, lesser, enough)) key j.1)
    ∙ member_first k j.0 d old j.2 (members (value depth) (n - 1) r)
    ∙ more (n - 1) (omega (arith, less, lesser, enough))

object_from : (ms : Members) (r : List Token) (o : Option (json.Members × List Token)) → converted (λ ns. of_members ns no_members) o ≡ Some (ms, r) → converted of_json (parse_map json.object o) ≡ Some (object ms, r)
object_from ms r o e =
    let js = converted_from (λ ns. of_members ns no_members) o ms r e in
    ap (λ p. converted of_json (parse_map json.object p)) js.1 ∙ ap (λ x. option_map (λ y. (y, r)) (option_map object x)) js.2

-- the object of the members
pub first_object : (depth : ℕ) (ts r : List Token) (ms : Members) → 0 < depth → Goes (depth - 1) no_members ts ms r → first_data depth (token.begin_object ∷ ts) ≡ Some (object ms, r)
first_object depth ts r ms some goes =
    ap (converted of_json) (value-begin_object depth ts some) ∙ object_from ms r (members (value (depth - 1)) (length ts) ts) (goes (length ts) (omega arith))

-- ---- a whole text

-- the data of a text is its first, where nothing stands behind it
pub whole_data : (o : Option (json.Json × List Token)) (d : Data) → converted of_json o ≡ Some (d, []) → option_and_then of_json (option_and_then (λ p. if_last p.0 p.1) o) ≡ Some d
whole_data o d e =
    let j = converted_from of_json o d [] e in
    ap (λ p. option_and_then of_json (option_and_then (λ q. if_last q.0 q.1) p)) j.1 ∙ j.2

whole_document : (o : Option (json.Json × List Token)) (j : json.Json) → option_and_then (λ p. if_last p.0 p.1) o ≡ Some j → o ≡ Some (j, [])
whole_document None j e = absurd (cc)
whole_document (Some (i, [])) j e = let same : i ≡ j = cc in ap (λ x. Some (x, [])) same
whole_document (Some (i, t ∷ ts)) j e = absurd (cc)

whole_json : (o : Option (json.Json × List Token)) (d : Data) → option_and_then of_json (option_and_then (λ p. if_last p.0 p.1) o) ≡ Some d → (j : json.Json) × (o ≡ Some (j, [])) × (of_json j ≡ Some d)
whole_json None d e = absurd (cc)
whole_json (Some (i, [])) d e = (i, refl, e)
whole_json (Some (i, t ∷ ts)) d e = absurd (cc)

-- what was read is what its own text is read as
pub value_again : (j : json.Json) (text : List ℕ) (d : Data) (old new : List Token) → value 126 old ≡ Some (j, new) → json.document text ≡ Some j → read text ≡ Some d → first_data 126 old ≡ Some (d, new)
value_again j text d old new first whole again =
    let one = whole_document (value 128 (tokens text)) j whole in
    let other = whole_json (value 127 (tokens text)) d again in
    let same : ◌≡◌ {A = Option (json.Json × List Token)} (Some (j, [])) (Some (other.0, [])) = one_reading 128 127 (tokens text) (j, []) (other.0, []) one other.1 in
    let made : of_json j ≡ Some d = ap (λ o. option_and_then (λ p. of_json p.0) o) same ∙ other.2 in
    ap (converted of_json) first ∙ ap (option_map {U = Data × List Token} (λ x. (x, new))) made

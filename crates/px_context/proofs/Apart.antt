-- The rows of a context that is taken apart are its cells' values.
use Rattle.std.proofs.Common.{◌≡◌, ℕ, suc, ◌+◌, ◌^◌, List, [], ◌∷◌, ◌++◌, Result, Ok, Err, IfOk, length, map, nat_lt, refl, replicate, sum, sym, ◌∙◌, ap, arith, append_assoc, length-append}
use Rattle.std.specs.List.{flat_map, range_with_len}
use Rattle.px_column.specs.Prelude.{AnswersBy}
use Rattle.px_column.specs.Datum.{Slot}
use Rattle.px_column.specs.Result.{◌>>=◌}
use Rattle.px_column.specs.Series.{Series, slot_at}
use Rattle.px_value.specs.declared.error.PxError.{PxError}
use Rattle.px_frame.specs.Cell.{unit, rows, list_of}
use Rattle.px_frame.specs.Consecutive.{consecutive, slices_from}
use Rattle.px_context.specs.Changes.{all_rows}
use Rattle.px_frame.specs.Frame.{slots_at}
use Rattle.px_frame.specs.Groups.{Group, Groups}
use Rattle.px_context.specs.Context.{Context, IsContext, HasShape, cell_kind, cells_in, cells_of, item_kind, items_at, kind_in}
use Rattle.px_context.specs.Final.{final_in, final_of, joined, len_at}
use Rattle.px_context.specs.LentView.{groups_in, series_of}
use Rattle.px_context.specs.declared.agg_state.Layout.{Layout}
use Rattle.px_context.specs.declared.agg_state.Layout.TheVariants.{Lists, Scalars, Flat, Rows, Unit as Single}
use Rattle.px_context.specs.declared.lent.ColRef.{ColRef}
use Rattle.px_context.specs.declared.lent.GroupsRef.{GroupsRef}
use Rattle.px_context.proofs.Aggregating.{shift, slots_all, unless_made}

-- what stands at the rows of each group
abbrev pub read_groups : List Slot → List Group → List (List Slot)
read_groups xs gs = map (λ p. slots_at xs p.rows) gs

-- rows in the middle of others
front : (ys zs : List Slot) → slots_at (ys ++ zs) (range_with_len 0 (length ys)) ≡ ys
front [] zs = refl
front (y ∷ ys) zs =
    ap (λ us. y ∷ us) (let e : 0 + 1 ≡ suc 0 = omega arith in ap (λ m. map (slot_at (y ∷ (ys ++ zs))) (range_with_len m (length ys))) e ∙ shift y (ys ++ zs) 0 (length ys) ∙ front ys zs)

middle : (xs ys zs : List Slot) → slots_at (xs ++ (ys ++ zs)) (range_with_len (length xs) (length ys)) ≡ ys
middle [] ys zs = front ys zs
middle (x ∷ xs) ys zs = shift x (xs ++ (ys ++ zs)) (length xs) (length ys) ∙ middle xs ys zs

module _ (f : Slot → List Slot) where
  -- slices of joined lists are the lists
  slices_joined : (first xs : List Slot) → read_groups (first ++ flat_map f xs) (slices_from (length first) (map (λ x. length (f x)) xs)) ≡ map f xs
  slices_joined first [] = refl
  slices_joined first (x ∷ xs) =
      let lens = map (λ y. length (f y)) xs in
      let apart : first ++ (f x ++ flat_map f xs) ≡ (first ++ f x) ++ flat_map f xs = sym (append_assoc first (f x) (flat_map f xs)) in
      let after : length first + length (f x) ≡ length (first ++ f x) = sym (length-append first (f x)) in
      let next = slices_joined (first ++ f x) xs in
      λ i. middle first (f x) (flat_map f xs) i ∷ ((λ j. read_groups (apart j) (slices_from (after j) lens)) ∙ next) i

list_lists : (xs : List Slot) → map list_of (map (λ x. rows (items_at x)) xs) ≡ map items_at xs
list_lists [] = refl
list_lists (x ∷ xs) = ap (λ ys. items_at x ∷ ys) (list_lists xs)

units : (xs : List Slot) → map list_of (map unit xs) ≡ map (λ x. x ∷ []) xs
units [] = refl
units (x ∷ xs) = ap (λ ys. (x ∷ []) ∷ ys) (units xs)

singles : (xs : List Slot) → flat_map (λ x. x ∷ []) xs ≡ xs
singles [] = refl
singles (x ∷ xs) = ap (λ ys. x ∷ ys) (singles xs)

all_ones : (xs : List Slot) → replicate (length xs) 1 ≡ map (λ x. length (x ∷ [])) xs
all_ones [] = refl
all_ones (x ∷ xs) = ap (λ ns. 1 ∷ ns) (all_ones xs)

flats : (xs : List Slot) (gs : List Group) → read_groups xs gs ≡ map list_of (map (λ p. rows (slots_at xs p.rows)) gs)
flats xs [] = refl
flats xs (g ∷ gs) = ap (λ ys. slots_at xs g.rows ∷ ys) (flats xs gs)

wholes : (xs : List Slot) (gs : List Group) → read_groups xs (replicate (length gs) (record { first = 0; rows = range_with_len 0 (length xs) })) ≡ map list_of (map (λ _. rows xs) gs)
wholes xs [] = refl
wholes xs (g ∷ gs) = λ i. slots_all xs i ∷ wholes xs gs i

one_slot : (xs : List Slot) → length xs ≡ 1 → xs ≡ slot_at xs 0 ∷ []
one_slot [] h = absurd (omega (arith, h))
one_slot (x ∷ []) h = refl
one_slot (x ∷ y ∷ xs) h = absurd (omega (arith, h))

single_cells : (xs ys : List Slot) (gs : List Group) → ys ≡ slot_at xs 0 ∷ [] → map list_of (map (λ _. rows ys) gs) ≡ map list_of (map (λ _. unit (slot_at xs 0)) gs)
single_cells xs ys [] e = refl
single_cells xs ys (g ∷ gs) e = λ i. e i ∷ single_cells xs ys gs e i

-- consecutive slices
sliced : (cs : List ℕ) (g : Groups) → consecutive cs ≡ Ok g → g.groups ≡ slices_from 0 cs
sliced cs g e = ap (λ (q : Groups). q.groups) (unless_made (nat_lt (sum cs) (2 ^ 32)) _ g e)

-- both at once
abbrev pub pair_ok : Series → Groups → Result (Series × Groups) PxError
pair_ok a b = Ok (a, b)

pair_is : (a t : Series) (b h : Groups) → pair_ok a b ≡ pair_ok t h → (a ≡ t) × (b ≡ h)
pair_is a t b h e =
    let ab : Series × Groups = (a, b) in
    let th : Series × Groups = (t, h) in
    let p : ab ≡ th = cc in
    (ap (λ (q : Series × Groups). q.0) p, ap (λ (q : Series × Groups). q.1) p)

list_rows : (s : Series) (r : Result Series PxError) (q : Result Groups PxError) (t : Series) (h : Groups) → joined s ≡ r → consecutive (map len_at s.slots) ≡ q → (r >>= λ a. q >>= λ b. pair_ok a b) ≡ Ok (t, h)
    → read_groups t.slots h.groups ≡ map list_of (cells_in Lists s h)
list_rows s (Ok a) (Ok b) t h e f p =
    let same : a ≡ t = (pair_is a t b h p).0 in
    let slices : b ≡ h = (pair_is a t b h p).1 in
    let whole = ap (λ (q : Series). q.slots) (unless_made (nat_lt (length (flat_map items_at s.slots)) (2 ^ 32)) _ a e) in
    ap (λ (q : Series). read_groups q.slots h.groups) (sym same) ∙ ap (λ (q : Groups). read_groups a.slots q.groups) (sym slices)
    ∙ (λ i. read_groups (whole i) (sliced (map len_at s.slots) b f i)) ∙ slices_joined items_at [] s.slots ∙ sym (list_lists s.slots)
list_rows s (Ok a) (Err x) t h e f p = cc
list_rows s (Err x) q t h e f p = cc

scalar_rows : (s : Series) (q : Result Groups PxError) (t : Series) (h : Groups) → consecutive (replicate (length s.slots) 1) ≡ q → (q >>= λ b. pair_ok s b) ≡ Ok (t, h) → read_groups t.slots h.groups ≡ map list_of (map unit s.slots)
scalar_rows s (Ok b) t h f p =
    let same : s ≡ t = (pair_is s t b h p).0 in
    let slices : b ≡ h = (pair_is s t b h p).1 in
    ap (λ (q : Series). read_groups q.slots h.groups) (sym same) ∙ ap (λ (q : Groups). read_groups s.slots q.groups) (sym slices)
    ∙ ap (read_groups s.slots) (sliced (replicate (length s.slots) 1) b f ∙ ap (slices_from 0) (all_ones s.slots))
    ∙ ap (λ ys. read_groups ys (slices_from 0 (map (λ x. length (x ∷ [])) s.slots))) (sym (singles s.slots)) ∙ slices_joined (λ x. x ∷ []) [] s.slots ∙ sym (units s.slots)
scalar_rows s (Err x) t h f p = cc

final_rows : (l : Layout) (s : Series) (g : Groups) (t : Series) (h : Groups) → HasShape l s g → final_in l s g ≡ Ok (t, h) → read_groups t.slots h.groups ≡ map list_of (cells_in l s g)
final_rows Lists s g t h shape e = list_rows s (joined s) (consecutive (map len_at s.slots)) t h refl refl e
final_rows Scalars s g t h shape e = scalar_rows s (consecutive (replicate (length s.slots) 1)) t h refl e
final_rows Flat s g t h shape e =
    let same : t ≡ s = sym (pair_is s t g h e).0 in
    let kept : h ≡ g = sym (pair_is s t g h e).1 in
    ap (λ (q : Series). read_groups q.slots h.groups) same ∙ ap (λ (q : Groups). read_groups s.slots q.groups) kept ∙ flats s.slots g.groups
final_rows Rows s g t h shape e =
    let same : t ≡ s = sym (pair_is s t (all_rows (length g.groups) (length s.slots)) h e).0 in
    let kept : h ≡ all_rows (length g.groups) (length s.slots) = sym (pair_is s t (all_rows (length g.groups) (length s.slots)) h e).1 in
    ap (λ (q : Series). read_groups q.slots h.groups) same ∙ ap (λ (q : Groups). read_groups s.slots q.groups) kept ∙ wholes s.slots g.groups
final_rows Single s g t h shape e =
    let same : t ≡ s = sym (pair_is s t (all_rows (length g.groups) (length s.slots)) h e).0 in
    let kept : h ≡ all_rows (length g.groups) (length s.slots) = sym (pair_is s t (all_rows (length g.groups) (length s.slots)) h e).1 in
    ap (λ (q : Series). read_groups q.slots h.groups) same ∙ ap (λ (q : Groups). read_groups s.slots q.groups) kept ∙ wholes s.slots g.groups ∙ single_cells s.slots s.slots g.groups (one_slot s.slots shape)

-- a column and groups that are answered for a context have its cells' values
pub final_cells : (c : Context) (r : Result (ColRef × GroupsRef) PxError) → IsContext c → AnswersBy (λ p. (series_of p.0, groups_in p.1)) r (final_of c)
    → IfOk r (λ p. map (λ q. slots_at (series_of p.0).slots q.rows) (groups_in p.1).groups ≡ map list_of (cells_of c))
final_cells c (Ok p) ok e = final_rows c.layout c.values c.groups (series_of p.0) (groups_in p.1) ok.shape e
final_cells c (Err x) ok e = tt

joined_kind : (s : Series) (r : Result Series PxError) (q : Result Groups PxError) (t : Series) (h : Groups) → joined s ≡ r → (r >>= λ a. q >>= λ b. pair_ok a b) ≡ Ok (t, h) → t.kind ≡ item_kind s.kind
joined_kind s (Ok a) (Ok b) t h e p =
    let made : Series = record { name = s.name; kind = item_kind s.kind; slots = flat_map items_at s.slots } in
    let whole : a ≡ made = unless_made (nat_lt (length (flat_map items_at s.slots)) (2 ^ 32)) made a e in
    ap (λ (q : Series). q.kind) (sym (pair_is a t b h p).0 ∙ whole)
joined_kind s (Ok a) (Err x) t h e p = cc
joined_kind s (Err x) q t h e p = cc

scalar_kind : (s : Series) (q : Result Groups PxError) (t : Series) (h : Groups) → (q >>= λ b. pair_ok s b) ≡ Ok (t, h) → t.kind ≡ s.kind
scalar_kind s (Ok b) t h p = ap (λ (q : Series). q.kind) (sym (pair_is s t b h p).0)
scalar_kind s (Err x) t h p = cc

kept_kind : (s t : Series) (g h : Groups) → pair_ok s g ≡ pair_ok t h → t.kind ≡ s.kind
kept_kind s t g h p = ap (λ (q : Series). q.kind) (sym (pair_is s t g h p).0)

final_kind_in : (l : Layout) (s : Series) (g : Groups) (t : Series) (h : Groups) → final_in l s g ≡ Ok (t, h) → t.kind ≡ kind_in l s.kind
final_kind_in Lists s g t h e = joined_kind s (joined s) (consecutive (map len_at s.slots)) t h refl e
final_kind_in Scalars s g t h e = scalar_kind s (consecutive (replicate (length s.slots) 1)) t h e
final_kind_in Flat s g t h e = kept_kind s t g h e
final_kind_in Rows s g t h e = kept_kind s t (all_rows (length g.groups) (length s.slots)) h e
final_kind_in Single s g t h e = kept_kind s t (all_rows (length g.groups) (length s.slots)) h e

-- the column is of the type of the cells' values
pub final_kind : (c : Context) (r : Result (ColRef × GroupsRef) PxError) → AnswersBy (λ p. (series_of p.0, groups_in p.1)) r (final_of c) → IfOk r (λ p. (series_of p.0).kind ≡ cell_kind c)
final_kind c (Ok p) e = final_kind_in c.layout c.values c.groups (series_of p.0) (groups_in p.1) e
final_kind c (Err x) e = tt

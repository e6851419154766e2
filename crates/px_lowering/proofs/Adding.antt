-- What stands in an arena after some nodes were added.
use Rattle.std.proofs.Common.{◌≡◌, ℕ, ◌+◌, ◌<◌, ◌≤◌, Bool, true, ◌&&◌, List, [], ◌∷◌, ◌++◌, length, map, take, drop, get_or, Result, Ok, Err, OnOk, OnErr, IfOk, refl, sym, ap, ◌∙◌, arith, length-append, append_assoc, append-nil, add-one, drop-cons}
use Rattle.std.proofs.lemmas.List.{take_more, map-append, take-append-drop}
use Rattle.std.proofs.lemmas.Bool.Decides.{nat_tests}
use Rattle.px_arena.proofs.Trees.{and_left, and_right, places_same, trees_same, Agree-append}
use Rattle.std.specs.Result.{IsErrAnd}
use Rattle.px_value.proofs.Refusing.{only_memory}
use Rattle.px_value.specs.Answer.{AnswersBy, Refuses}
use Rattle.px_value.specs.declared.error.PxError.{PxError}
use Rattle.px_lowering.specs.Adding.{AddsFront}
use Rattle.px_arena.specs.Arena.{tree_at, trees_at, node_tree, is_below, all_below, children_below}
use Rattle.px_tree.specs.Nodes.{nodes_of, all_nodes_of, order_nodes_of, postorder, all_postorder, order_postorder, children_postorder}
use Rattle.px_tree.specs.Tree.{Tree, Trees, Order, trees_of, no_trees, one_tree, no_order, ordered, column, literal, alias, binary, ternary, cast, function, filter, slice, gather, sort, sort_by, agg, len, window}
use Rattle.px_tree.specs.View.{tree}
use Rattle.px_tree.specs.declared.expr.Expr.{Expr}
use Rattle.px_arena.specs.declared.node.AExpr.{AExpr}
use Rattle.px_arena.specs.declared.node.Node.{Node}

mutual
  pub postorder-length : (t : Tree) → length (postorder t) ≡ nodes_of t
  postorder-length (column n) = refl
  postorder-length (literal v) = refl
  postorder-length (alias e n) = omega (arith, postorder-length e, length-append (postorder e) (alias e n ∷ []))
  postorder-length (binary l op r) = omega (arith, postorder-length l, postorder-length r, length-append (postorder l) (postorder r), length-append (postorder l ++ postorder r) (binary l op r ∷ []))
  postorder-length (ternary p a b) = omega (arith, postorder-length p, postorder-length a, postorder-length b, length-append (postorder a) (postorder b), length-append (postorder p) (postorder a ++ postorder b), length-append (postorder p ++ (postorder a ++ postorder b)) (ternary p a b ∷ []))
  postorder-length (cast e k options) = omega (arith, postorder-length e, length-append (postorder e) (cast e k options ∷ []))
  postorder-length (function es f) = omega (arith, all_postorder-length es, length-append (all_postorder es) (function es f ∷ []))
  postorder-length (filter e by) = omega (arith, postorder-length e, postorder-length by, length-append (postorder e) (postorder by), length-append (postorder e ++ postorder by) (filter e by ∷ []))
  postorder-length (slice p a b) = omega (arith, postorder-length p, postorder-length a, postorder-length b, length-append (postorder a) (postorder b), length-append (postorder p) (postorder a ++ postorder b), length-append (postorder p ++ (postorder a ++ postorder b)) (slice p a b ∷ []))
  postorder-length (gather e by one) = omega (arith, postorder-length e, postorder-length by, length-append (postorder e) (postorder by), length-append (postorder e ++ postorder by) (gather e by one ∷ []))
  postorder-length (sort e options) = omega (arith, postorder-length e, length-append (postorder e) (sort e options ∷ []))
  postorder-length (sort_by e by options) = omega (arith, postorder-length e, all_postorder-length by, length-append (postorder e) (all_postorder by), length-append (postorder e ++ all_postorder by) (sort_by e by options ∷ []))
  postorder-length (agg m e) = omega (arith, postorder-length e, length-append (postorder e) (agg m e ∷ []))
  postorder-length len = refl
  postorder-length (window f keys order mapping) = omega (arith, postorder-length f, all_postorder-length keys, order_postorder-length order, length-append (all_postorder keys) (order_postorder order), length-append (postorder f) (all_postorder keys ++ order_postorder order), length-append (postorder f ++ (all_postorder keys ++ order_postorder order)) (window f keys order mapping ∷ []))

  pub all_postorder-length : (ts : Trees) → length (all_postorder ts) ≡ all_nodes_of ts
  all_postorder-length no_trees = refl
  all_postorder-length (one_tree t ts) = omega (arith, postorder-length t, all_postorder-length ts, length-append (postorder t) (all_postorder ts))

  pub order_postorder-length : (o : Order) → length (order_postorder o) ≡ order_nodes_of o
  order_postorder-length no_order = refl
  order_postorder-length (ordered t options) = postorder-length t

pub postorder-children : (t : Tree) → postorder t ≡ children_postorder t ++ t ∷ []
postorder-children (column n) = refl
postorder-children (literal v) = refl
postorder-children (alias e n) = refl
postorder-children (binary l op r) = refl
postorder-children (ternary p a b) = refl
postorder-children (cast e k options) = refl
postorder-children (function es f) = refl
postorder-children (filter e by) = refl
postorder-children (slice e offset length) = refl
postorder-children (gather e idx one) = refl
postorder-children (sort e options) = refl
postorder-children (sort_by e by options) = refl
postorder-children (agg m e) = refl
postorder-children len = refl
postorder-children (window f keys order mapping) = refl

-- a place in front keeps its tree
pub tree_at-append : (ts us : List Tree) (e : Node) → e.0 < length ts → tree_at (ts ++ us) e ≡ tree_at ts e
tree_at-append ts us e h = let b : is_below (length ts) e ≡ true = grind (arith, nat_tests) in Agree-append ts us e b

pub trees_at-append : (ts us : List Tree) (es : List Node) → all_below (length ts) es ≡ true → trees_at (ts ++ us) es ≡ trees_at ts es
trees_at-append ts us es b = trees_same (length ts) ts (ts ++ us) es (Agree-append ts us) b

-- what was added so far
pub AddsFront-none : (old all : List Tree) → AddsFront old all old
AddsFront-none old all = record { front = []; rest = all; parts = refl; added = sym (append-nil old) }

pub AddsFront-more : (old all new more : List Tree) → AddsFront old all new → AddsFront old (all ++ more) new
AddsFront-more old all new more a = record { front = a.front; rest = a.rest ++ more; parts = rw (a.parts, append_assoc) refl; added = a.added }

pub AddsFront-after : (old first all mid new : List Tree) → mid ≡ old ++ first → AddsFront mid all new → AddsFront old (first ++ all) new
AddsFront-after old first all mid new e a = record { front = first ++ a.front; rest = a.rest; parts = rw (a.parts, append_assoc) refl; added = rw (a.added, e, append_assoc) refl }

pub ruleset adding_rules = (length-append, postorder-length, all_postorder-length, order_postorder-length, tree_at-append, trees_at-append, AddsFront-none, AddsFront-more, AddsFront-after, append_assoc)

-- what holds anyway holds where a call is refused
pub OnErr-of : {X E : Type 0} (r : Result X E) (P : Type 0) → P → OnErr r P
OnErr-of (Ok x) P p = tt
OnErr-of (Err e) P p = p

-- what was added of a tree that is known
pub front_seen : (old new : List Tree) {t s : Tree} → t ≡ s → AddsFront old (children_postorder s) new → AddsFront old (children_postorder t) new
front_seen old new e a = rw e a

-- the children of a tree where memory is wanting
pub children_refused : {Z : Type 0} (r : Result AExpr PxError) (e : PxError) (z : Z) (old new : List Tree) (t : Tree) → IsErrAnd r (λ f. f ≡ e) → Refuses e (Ok z) → AddsFront old (children_postorder t) new → record { added : OnOk r (new ≡ old ++ children_postorder t); part : OnErr r (AddsFront old (children_postorder t) new); count : OnOk r (length new + 1 ≡ length old + nodes_of t); tree : AnswersBy (node_tree new) r (Ok t); below : IfOk r (λ item. children_below (length new) item ≡ true) }
children_refused (Ok x) e z old new t h m p = absurd h
children_refused (Err f) e z old new t h m p = record { added = tt; part = p; count = tt; tree = rw h (only_memory e z (Ok t) m); below = tt }

-- how long the list is after an addition
pub added-length : (old new : List Tree) (t : Tree) → new ≡ old ++ postorder t → length new ≡ length old + nodes_of t
added-length old new t e = rw e (omega (arith, length-append old (postorder t), postorder-length t))

pub all_added-length : (old new : List Tree) (ts : Trees) → new ≡ old ++ all_postorder ts → length new ≡ length old + all_nodes_of ts
all_added-length old new ts e = rw e (omega (arith, length-append old (all_postorder ts), all_postorder-length ts))

-- two additions
pub added_twice : (old mid new xs ys : List Tree) → mid ≡ old ++ xs → new ≡ mid ++ ys → new ≡ old ++ (xs ++ ys)
added_twice old mid new xs ys d e = rw (e, d, append_assoc) refl

-- what stood there stands there still
pub last_below : {E : Type 0} (n : Node) (m : ℕ) → ◌≡◌ {A = Result ℕ E} (Ok m) (Ok (n.0 + 1)) → n.0 < m
last_below n m h = let e : m ≡ n.0 + 1 = cc in omega arith

pub is_last_below : {E : Type 0} (n : Node) (m : ℕ) → ◌≡◌ {A = Result ℕ E} (Ok m) (Ok (n.0 + 1)) → is_below m n ≡ true
is_last_below n m h = let lt = last_below n m h in grind (arith, nat_tests)

pub kept : {E : Type 0} (mid new us : List Tree) (n : Node) (t : Tree) → new ≡ mid ++ us → ◌≡◌ {A = Result ℕ E} (Ok (length mid)) (Ok (n.0 + 1)) → tree_at mid n ≡ t → tree_at new n ≡ t
kept mid new us n t e l h = rw e (tree_at-append mid us n (last_below n (length mid) l) ∙ h)

pub kept_all : {E : Type 0} (mid new us : List Tree) (es : List Node) (ts : Trees) → new ≡ mid ++ us → all_below (length mid) es ≡ true → ◌≡◌ {A = Result Trees E} (Ok ts) (Ok (trees_at mid es)) → trees_at new es ≡ ts
kept_all mid new us es ts e b h = let same : ts ≡ trees_at mid es = cc in rw e (trees_at-append mid us es b ∙ sym same)

-- places before one are before a later one
pub later_below : (e : Node) (m n : ℕ) → m ≤ n → is_below m e ≡ true → is_below n e ≡ true
later_below e m n h b = grind (arith, nat_tests)

pub all_below_later : (m n : ℕ) (es : List Node) → m ≤ n → all_below m es ≡ true → all_below n es ≡ true
all_below_later m n [] h b = refl
all_below_later m n (e ∷ es) h b =
    let here : is_below m e ≡ true = and_left (is_below m e) (all_below m es) b in
    let l = later_below e m n h here in
    let r = all_below_later m n es h (and_right (is_below m e) (all_below m es) b) in
    rw (l, r)

pub all_below_push : (n : ℕ) (es : List Node) (e : Node) → all_below n es ≡ true → e.0 < n → all_below n (es ++ e ∷ []) ≡ true
all_below_push n [] e b h = let l : is_below n e ≡ true = grind (arith, nat_tests) in rw l
all_below_push n (x ∷ es) e b h =
    let l = and_left (is_below n x) (all_below n es) b in
    let r = all_below_push n es e (and_right (is_below n x) (all_below n es) b) h in
    rw (l, r)

-- a tree that is made of parts, of parts that are the same
pub made_one : {A : Type 0} (make : A → Tree) {t : Tree} {x p : A} → t ≡ make x → p ≡ x → t ≡ make p
made_one make e d = rw d e

pub made_two : {A B : Type 0} (make : A → B → Tree) {t : Tree} {x p : A} {y q : B} → t ≡ make x y → p ≡ x → q ≡ y → t ≡ make p q
made_two make e d f = rw (d, f) e

pub made_three : {A B C : Type 0} (make : A → B → C → Tree) {t : Tree} {x p : A} {y q : B} {z r : C} → t ≡ make x y z → p ≡ x → q ≡ y → r ≡ z → t ≡ make p q r
made_three make e d f g = rw (d, f, g) e

-- what is added of a tree that is known, and how long the list is then
pub added_seen : (old new : List Tree) {t s : Tree} → t ≡ s → new ≡ old ++ children_postorder s → new ≡ old ++ children_postorder t
added_seen old new e a = rw e a

pub added_count : (old new : List Tree) (t : Tree) → new ≡ old ++ children_postorder t → length new + 1 ≡ length old + nodes_of t
added_count old new t a =
    let whole : length (children_postorder t ++ t ∷ []) ≡ nodes_of t = ap length (sym (postorder-children t)) ∙ postorder-length t in
    rw a (omega (arith, whole, length-append old (children_postorder t), length-append (children_postorder t) (t ∷ [])))

pub longer : (mid new us : List Tree) → new ≡ mid ++ us → length mid ≤ length new
longer mid new us e = rw e (omega (arith, length-append mid us))

pub both_true : {a b : Bool} → a ≡ true → b ≡ true → (a && b) ≡ true
both_true p q = rw (p, q) refl

-- a list of trees, as far as a loop has come
pub all_postorder-append : (ss ts : List Tree) → all_postorder (trees_of (ss ++ ts)) ≡ all_postorder (trees_of ss) ++ all_postorder (trees_of ts)
all_postorder-append [] ts = refl
all_postorder-append (s ∷ ss) ts = rw (all_postorder-append ss ts, append_assoc) refl

pub all_nodes_of-append : (ss ts : List Tree) → all_nodes_of (trees_of (ss ++ ts)) ≡ all_nodes_of (trees_of ss) + all_nodes_of (trees_of ts)
all_nodes_of-append [] ts = omega arith
all_nodes_of-append (s ∷ ss) ts = omega (arith, all_nodes_of-append ss ts)

module _ (xs : List Expr) (i : ℕ) (x : Expr) (h : i < length xs) (is : x ≡ get_or xs i x) where
  pub seen_more : map tree (take (i + 1) xs) ≡ map tree (take i xs) ++ tree x ∷ []
  seen_more = rw (take_more xs i x h, ← is, map-append tree (take i xs) (x ∷ [])) refl

  pub all_seen : map tree xs ≡ map tree (take (i + 1) xs) ++ map tree (drop (i + 1) xs)
  all_seen = sym (sym (map-append tree (take (i + 1) xs) (drop (i + 1) xs)) ∙ ap (map tree) (take-append-drop (i + 1) xs))

  pub seen_postorder : all_postorder (trees_of (map tree (take (i + 1) xs))) ≡ all_postorder (trees_of (map tree (take i xs))) ++ postorder (tree x)
  seen_postorder = rw (seen_more, all_postorder-append (map tree (take i xs)) (tree x ∷ []), append-nil (postorder (tree x))) refl

  pub seen_rest : all_nodes_of (trees_of (map tree (drop i xs))) ≡ nodes_of (tree x) + all_nodes_of (trees_of (map tree (drop (i + 1) xs)))
  seen_rest = rw (add-one, drop-cons xs i x, ← is) refl

  pub seen_part : (old new : List Tree) → new ≡ old ++ all_postorder (trees_of (map tree (take (i + 1) xs))) → AddsFront old (all_postorder (trees_of (map tree xs))) new
  seen_part old new e =
      record {
        front = all_postorder (trees_of (map tree (take (i + 1) xs)));
        rest = all_postorder (trees_of (map tree (drop (i + 1) xs)));
        parts = ap (λ (ts : List Tree). all_postorder (trees_of ts)) all_seen ∙ all_postorder-append (map tree (take (i + 1) xs)) (map tree (drop (i + 1) xs));
        added = e;
      }

  pub more_part : (old mid new : List Tree) → mid ≡ old ++ all_postorder (trees_of (map tree (take i xs))) → AddsFront mid (postorder (tree x)) new → AddsFront old (all_postorder (trees_of (map tree xs))) new
  more_part old mid new e a =
      rw (all_seen, all_postorder-append (map tree (take (i + 1) xs)) (map tree (drop (i + 1) xs)), seen_postorder)
      (AddsFront-more old _ new _ (AddsFront-after old _ (postorder (tree x)) mid new e a))

  pub placed : (ts us : List Tree) (ps : List Node) (n : Node) → us ≡ ts ++ postorder (tree x) → all_below (length ts) ps ≡ true → map (tree_at ts) ps ≡ map tree (take i xs) → tree_at us n ≡ tree x → map (tree_at us) (ps ++ n ∷ []) ≡ map tree (take (i + 1) xs)
  placed ts us ps n e b m t =
      let same : map (tree_at us) ps ≡ map (tree_at ts) ps = rw e (places_same (length ts) ts (ts ++ postorder (tree x)) ps (Agree-append ts (postorder (tree x))) b) in
      rw (seen_more, map-append (tree_at us) ps (n ∷ []), same, m, t) refl

pub kept_last : {A E : Type 0} {x y : A} → ◌≡◌ {A = Result A E} (Ok x) (Ok y) → y ≡ x
kept_last h = cc h

-- The trees of an arena, one node at a time.
use Rattle.std.proofs.Common.{◌≡◌, ℕ, zero, suc, ◌+◌, ◌-◌, ◌^◌, ◌<◌, Bool, true, false, ◌&&◌, List, [], ◌∷◌, ◌++◌, map, length, Option, Some, None, refl, sym, ap, ◌∙◌, arith, length-append, slice_index_or}
use Rattle.std.specs.List.{slice_get}
use Rattle.std.proofs.lemmas.List.{get_or_append_left}
use Rattle.std.proofs.Math.Seq.{get_or-append_seam}
use Rattle.std.proofs.lemmas.Bool.Decides.{nat_tests}
use Rattle.px_value.specs.declared.sort_options.SortOptions.{SortOptions}
use Rattle.px_tree.specs.Tree as t
use Rattle.px_tree.specs.Tree.{Tree, Trees, Order, trees_of, ordered}
use Rattle.px_arena.specs.Arena.{tree_at, trees_at, order_at, agg_input, agg_method, node_tree, is_below, all_below, order_below, children_below, grow, trees_in, IsArena}
use Rattle.px_arena.specs.declared.node.AExpr.{AExpr}
use Rattle.px_arena.specs.declared.node.AExpr.TheVariants.{Column, Literal, Alias, BinaryExpr, Ternary, Cast, Function, Explode, Filter, Slice, Gather, Sort, SortBy, Agg, Len, Window}
use Rattle.px_arena.specs.declared.node.Node.{Node}

-- us has what ts has below n
abbrev pub Agree : ℕ → List Tree → List Tree → Type 0
Agree n ts us = (e : Node) → is_below n e ≡ true → tree_at us e ≡ tree_at ts e

pub and_left : (a b : Bool) → (a && b) ≡ true → a ≡ true
and_left true b h = refl
and_left false b h = h

pub and_right : (a b : Bool) → (a && b) ≡ true → b ≡ true
and_right true b h = h
and_right false b h = absurd (cc h)

pub places_same : (n : ℕ) (ts us : List Tree) (es : List Node) → Agree n ts us → all_below n es ≡ true → map (tree_at us) es ≡ map (tree_at ts) es
places_same n ts us [] h b = refl
places_same n ts us (e ∷ es) h b =
    let first = h e (and_left (is_below n e) (all_below n es) b) in
    let rest = places_same n ts us es h (and_right (is_below n e) (all_below n es) b) in
    cc

pub trees_same : (n : ℕ) (ts us : List Tree) (es : List Node) → Agree n ts us → all_below n es ≡ true → trees_at us es ≡ trees_at ts es
trees_same n ts us es h b = ap trees_of (places_same n ts us es h b)

pub order_same : (n : ℕ) (ts us : List Tree) (o : Option (Node × SortOptions)) → Agree n ts us → order_below n o ≡ true → order_at us o ≡ order_at ts o
order_same n ts us None h b = refl
order_same n ts us (Some o) h b = ap (λ x. ordered x o.1) (h o.0 b)

-- two and three children
two_same : (n : ℕ) (ts us : List Tree) (x y : Node) (make : Tree → Tree → Tree) → Agree n ts us → (is_below n x && is_below n y) ≡ true → make (tree_at us x) (tree_at us y) ≡ make (tree_at ts x) (tree_at ts y)
two_same n ts us x y make h b =
    let p = h x (and_left (is_below n x) (is_below n y) b) in
    let q = h y (and_right (is_below n x) (is_below n y) b) in
    cc

three_same : (n : ℕ) (ts us : List Tree) (x y z : Node) (make : Tree → Tree → Tree → Tree) → Agree n ts us → (is_below n x && (is_below n y && is_below n z)) ≡ true → make (tree_at us x) (tree_at us y) (tree_at us z) ≡ make (tree_at ts x) (tree_at ts y) (tree_at ts z)
three_same n ts us x y z make h b =
    let p = h x (and_left (is_below n x) (is_below n y && is_below n z) b) in
    let more = and_right (is_below n x) (is_below n y && is_below n z) b in
    let q = h y (and_left (is_below n y) (is_below n z) more) in
    let r = h z (and_right (is_below n y) (is_below n z) more) in
    cc

pub node_same : (n : ℕ) (ts us : List Tree) (x : AExpr) → Agree n ts us → children_below n x ≡ true → node_tree us x ≡ node_tree ts x
node_same n ts us (Column m) h b = refl
node_same n ts us (Literal v) h b = refl
node_same n ts us (Alias e m) h b = ap (λ x. t.alias x m) (h e b)
node_same n ts us (BinaryExpr x op y) h b = two_same n ts us x y (λ p q. t.binary p op q) h b
node_same n ts us (Ternary x y z) h b = three_same n ts us x y z t.ternary h b
node_same n ts us (Cast e dtype options) h b = let p = h e b in cc
node_same n ts us (Function es f) h b = ap (λ xs. t.function xs (t.by_name f)) (trees_same n ts us es.items h b)
node_same n ts us (Explode e) h b = let p = h e b in cc
node_same n ts us (Filter x y) h b = two_same n ts us x y t.filter h b
node_same n ts us (Slice x y z) h b = three_same n ts us x y z t.slice h b
node_same n ts us (Gather x y one) h b = two_same n ts us x y (λ p q. t.gather p q one) h b
node_same n ts us (Sort e options) h b = ap (λ x. t.sort x options) (h e b)
node_same n ts us (SortBy e by options) h b =
    let p = h e (and_left (is_below n e) (all_below n by.items) b) in
    let q = trees_same n ts us by.items h (and_right (is_below n e) (all_below n by.items) b) in
    cc
node_same n ts us (Agg a) h b = ap (t.agg (agg_method a)) (h (agg_input a) b)
node_same n ts us Len h b = refl
node_same n ts us (Window f keys order options) h b =
    let p = h f (and_left (is_below n f) (all_below n keys.items && order_below n order) b) in
    let more = and_right (is_below n f) (all_below n keys.items && order_below n order) b in
    let q = trees_same n ts us keys.items h (and_left (all_below n keys.items) (order_below n order) more) in
    let r = order_same n ts us order h (and_right (all_below n keys.items) (order_below n order) more) in
    cc

pub grow_length : (ts : List Tree) (ns : List AExpr) → length (grow ts ns) ≡ length ts + length ns
grow_length ts [] = omega arith
grow_length ts (n ∷ ns) = omega (arith, grow_length (ts ++ node_tree ts n ∷ []) ns, length-append ts (node_tree ts n ∷ []))

-- what stands in front stays
pub Agree-append : (ts us : List Tree) → Agree (length ts) ts (ts ++ us)
Agree-append ts us e b = let l : e.0 < length ts = grind (arith, nat_tests) in get_or_append_left ts us t.len e.0 l

pub grow_keeps : (ts : List Tree) (ns : List AExpr) → Agree (length ts) ts (grow ts ns)
grow_keeps ts [] e b = refl
grow_keeps ts (n ∷ ns) e b =
    let l : e.0 < length ts = grind (arith, nat_tests) in
    let m : e.0 < length (ts ++ node_tree ts n ∷ []) = omega (arith, length-append ts (node_tree ts n ∷ [])) in
    let b' : is_below (length (ts ++ node_tree ts n ∷ [])) e ≡ true = grind (arith, nat_tests) in
    grow_keeps (ts ++ node_tree ts n ∷ []) ns e b' ∙ Agree-append ts (node_tree ts n ∷ []) e b

pub grow_append : (ts : List Tree) (ns : List AExpr) (x : AExpr) → grow ts (ns ++ x ∷ []) ≡ grow ts ns ++ node_tree (grow ts ns) x ∷ []
grow_append ts [] x = refl
grow_append ts (n ∷ ns) x = grow_append (ts ++ node_tree ts n ∷ []) ns x

pub grow_opens : (ts : List Tree) (ns : List AExpr) (i : ℕ) (j : Node) (x : AExpr) → slice_get ns i ≡ Some x → j.0 ≡ length ts + i → children_below j.0 x ≡ true → tree_at (grow ts ns) j ≡ node_tree (grow ts ns) x
grow_opens ts [] i j x g e b = absurd (cc g)
grow_opens ts (n ∷ ns) zero j x g e b =
    let same : n ≡ x = cc g in
    let at : j.0 ≡ length ts = omega arith in
    let us = ts ++ node_tree ts n ∷ [] in
    let longer : j.0 < length us = omega (arith, length-append ts (node_tree ts n ∷ [])) in
    let inside : is_below (length us) j ≡ true = grind (arith, nat_tests) in
    let seam : slice_index_or us j.0 t.len ≡ node_tree ts n = rw at (get_or-append_seam ts (node_tree ts n) [] t.len) in
    let bx : children_below (length ts) x ≡ true = rw (← at) b in
    let bn : children_below (length ts) n ≡ true = rw same bx in
    let kept : Agree (length ts) ts (grow us ns) = grow_keeps ts (n ∷ ns) in
    grow_keeps us ns j inside ∙ seam ∙ sym (node_same (length ts) ts (grow us ns) n kept bn) ∙ ap (node_tree (grow us ns)) same
grow_opens ts (n ∷ ns) (suc i) j x g e b =
    let us = ts ++ node_tree ts n ∷ [] in
    let at : j.0 ≡ length us + i = omega (arith, length-append ts (node_tree ts n ∷ [])) in
    grow_opens us ns i j x g at b

-- what `trees_in` gives
pub trees_in-length : (ns : List AExpr) → length (trees_in ns) ≡ length ns
unfolding trees_in
trees_in-length ns = omega (arith, grow_length [] ns)

pub trees_in-none : trees_in [] ≡ []
unfolding trees_in
trees_in-none = refl

pub trees_in-add : (ns : List AExpr) (x : AExpr) → trees_in (ns ++ x ∷ []) ≡ trees_in ns ++ node_tree (trees_in ns) x ∷ []
unfolding trees_in
trees_in-add ns x = grow_append [] ns x

pub trees_in-open : (ns : List AExpr) (i : Node) (x : AExpr) → slice_get ns i.0 ≡ Some x → children_below i.0 x ≡ true → tree_at (trees_in ns) i ≡ node_tree (trees_in ns) x
unfolding trees_in
trees_in-open ns i x g b = let e : i.0 ≡ 0 + i.0 = omega arith in grow_opens [] ns i.0 i x g e b

pub ruleset arena_rules = (trees_in-length, trees_in-none, trees_in-add, trees_in-open)

-- a node more, behind its children
pub falls_more : (P : ℕ → AExpr → Bool) (ns : List AExpr) (x : AExpr) → ((i : ℕ) (n : AExpr) → slice_get ns i ≡ Some n → P i n ≡ true) → P (length ns) x ≡ true → (i : ℕ) (n : AExpr) → slice_get (ns ++ x ∷ []) i ≡ Some n → P i n ≡ true
falls_more P [] x f b zero n g = let e : x ≡ n = cc g in rw (← e) b
falls_more P [] x f b (suc i) n g = absurd (cc g)
falls_more P (m ∷ ns) x f b zero n g = f zero n g
falls_more P (m ∷ ns) x f b (suc i) n g = falls_more (λ j. P (suc j)) ns x (λ j k. f (suc j) k) b i n g

pub IsArena-more : (ns : List AExpr) (x : AExpr) → IsArena ns → children_below (length ns) x ≡ true → length ns < 2 ^ 32 - 1 → IsArena (ns ++ x ∷ [])
IsArena-more ns x a b room = record { falls = falls_more children_below ns x a.falls b; short = omega (arith, length-append ns (x ∷ [])) }

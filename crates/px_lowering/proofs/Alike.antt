-- Trees that are made of parts, where the parts are alike.
use Rattle.std.proofs.Common.{◌≡◌, Result, Ok}
use Rattle.px_tree.specs.Tree.{Tree}

-- a tree that is made of parts as another one is, where these are alike
pub one_alike : {A E : Type 0} (make : A → Tree) {t s : Tree} {a p : A} → t ≡ make a → s ≡ make p → ◌≡◌ {A = Result A E} (Ok a) (Ok p) → ◌≡◌ {A = Result Tree E} (Ok t) (Ok s)
one_alike make e d h = cc (e, d, h)

pub two_alike : {A B E : Type 0} (make : A → B → Tree) {t s : Tree} {a p : A} {b q : B} → t ≡ make a b → s ≡ make p q → ◌≡◌ {A = Result A E} (Ok a) (Ok p) → ◌≡◌ {A = Result B E} (Ok b) (Ok q) → ◌≡◌ {A = Result Tree E} (Ok t) (Ok s)
two_alike make e d h k = cc (e, d, h, k)

pub three_alike : {A B C E : Type 0} (make : A → B → C → Tree) {t s : Tree} {a p : A} {b q : B} {c r : C} → t ≡ make a b c → s ≡ make p q r → ◌≡◌ {A = Result A E} (Ok a) (Ok p) → ◌≡◌ {A = Result B E} (Ok b) (Ok q) → ◌≡◌ {A = Result C E} (Ok c) (Ok r) → ◌≡◌ {A = Result Tree E} (Ok t) (Ok s)
three_alike make e d h k l = cc (e, d, h, k, l)

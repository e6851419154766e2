-- What equal answers hold is equal.
use Rattle.std.proofs.Common.{◌≡◌, Result, Ok}

pub ok_same : {A E : Type 0} (x y : A) → ◌≡◌ {A = Result A E} (Ok x) (Ok y) → y ≡ x
ok_same x y e = cc

-- Steps that may be refused.
use Rattle.std.specs.Prelude.{Result, Ok, Err}

-- what comes next, where nothing was refused
infixl 10 ◌>>=◌
abbrev pub ◌>>=◌ : {A B E : Type 0} → Result A E → (A → Result B E) → Result B E
Ok a >>= f = f a
Err e >>= f = Err e

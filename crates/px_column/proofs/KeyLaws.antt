-- Laws: the keys of one more row.
use Rattle.std.proofs.Common.{◌≡◌, ℕ, zero, suc, ◌+◌, List, [], ◌∷◌, ◌++◌, map, refl, ◌∙◌, ap, arith, add-zero, add-one}
use Rattle.std.specs.List.{range_with_len}
use Rattle.std.proofs.lemmas.List.{map_push}
use Rattle.px_column.specs.Key.{key_at, keys_of}
use Rattle.px_value.specs.Series.{Series}

-- the same in the logic's own form
range_more : (a n : ℕ) → range_with_len a (suc n) ≡ range_with_len a n ++ (a + n) ∷ []
range_more a zero = rw (add-zero a) refl
range_more a (suc n) = ap (λ ns. a ∷ ns) (range_more (a + 1) n ∙ ap (λ m. range_with_len (a + 1) n ++ m ∷ []) (let e : a + 1 + n ≡ a + suc n = omega arith in e))

-- one more number after those from a on
pub range_next : (a n : ℕ) → range_with_len a (n + 1) ≡ range_with_len a n ++ (a + n) ∷ []
range_next a n = ap (range_with_len a) (add-one n) ∙ range_more a n

-- one more number after those from 0 on
pub range_push : (n : ℕ) → range_with_len 0 (n + 1) ≡ range_with_len 0 n ++ n ∷ []
range_push n = ap (range_with_len 0) (add-one n) ∙ range_more 0 n ∙ ap (λ m. range_with_len 0 n ++ m ∷ []) (let e : 0 + n ≡ n = omega arith in e)

-- the keys of n + 1 rows are those of n rows and the last
pub keys_push : (by : List Series) (n : ℕ) → keys_of by (n + 1) ≡ keys_of by n ++ key_at by n ∷ []
keys_push by n = ap (map (key_at by)) (range_push n) ∙ map_push (key_at by) (range_with_len 0 n) n

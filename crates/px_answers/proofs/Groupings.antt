-- How often rows are grouped at a node, from how often they are at its inputs.
use Rattle.std.proofs.Common.{◌≡◌, ℕ, ◌+◌, Bool, List, refl, arith}
use Rattle.px_column.specs.Prelude.{Kind}
use Rattle.px_value.specs.declared.cast_options.CastOptions.{CastOptions}
use Rattle.px_value.specs.declared.method.GroupByMethod.{GroupByMethod}
use Rattle.px_value.specs.declared.operator.Operator.{Operator}
use Rattle.px_value.specs.declared.sort_options.SortMultipleOptions.{SortMultipleOptions}
use Rattle.px_value.specs.declared.sort_options.SortOptions.{SortOptions}
use Rattle.px_tree.specs.Cost.{all_windows_in, windows_in}
use Rattle.px_tree.specs.Tree.{Tree, Trees, Call, one_tree, alias, binary, ternary, cast, function, filter, slice, gather, sort, sort_by, agg}
use Rattle.px_answers.specs.Counted.{GroupedAllAtMost, GroupedAtMost}

-- nothing was grouped
pub none_grouped : (e : Tree) (i j : ℕ) → j ≡ i → GroupedAtMost e i j
none_grouped e i j s = record { rises = omega (arith, s); most = omega (arith, s) }

-- a first input, and then more
one_grouped : (a e : Tree) (n i j : ℕ) → windows_in e ≡ windows_in a + n → GroupedAtMost a i j → GroupedAtMost e i j
one_grouped a e n i j s x = record { rises = x.rises; most = omega (arith, s, x.most) }

two_grouped : (a b e : Tree) (n i j k : ℕ) → windows_in e ≡ windows_in a + windows_in b + n → GroupedAtMost a i j → GroupedAtMost b j k → GroupedAtMost e i k
two_grouped a b e n i j k s x y = record { rises = omega (arith, x.rises, y.rises); most = omega (arith, s, x.most, y.most) }

three_grouped : (a b d e : Tree) (i j k l : ℕ) → windows_in e ≡ windows_in a + windows_in b + windows_in d → GroupedAtMost a i j → GroupedAtMost b j k → GroupedAtMost d k l → GroupedAtMost e i l
three_grouped a b d e i j k l s x y z = record { rises = omega (arith, x.rises, y.rises, z.rises); most = omega (arith, s, x.most, y.most, z.most) }

pub binary_grouped_left : (l r : Tree) (op : Operator) (i j : ℕ) → GroupedAtMost l i j → GroupedAtMost (binary l op r) i j
binary_grouped_left l r op i j x = one_grouped l (binary l op r) (windows_in r) i j refl x

pub binary_grouped : (l r : Tree) (op : Operator) (i j k : ℕ) → GroupedAtMost l i j → GroupedAtMost r j k → GroupedAtMost (binary l op r) i k
binary_grouped l r op i j k x y = two_grouped l r (binary l op r) 0 i j k (omega arith) x y

pub ternary_grouped_one : (p a b : Tree) (i j : ℕ) → GroupedAtMost p i j → GroupedAtMost (ternary p a b) i j
ternary_grouped_one p a b i j x = one_grouped p (ternary p a b) (windows_in a + windows_in b) i j (omega arith) x

pub ternary_grouped_two : (p a b : Tree) (i j k : ℕ) → GroupedAtMost p i j → GroupedAtMost a j k → GroupedAtMost (ternary p a b) i k
ternary_grouped_two p a b i j k x y = two_grouped p a (ternary p a b) (windows_in b) i j k refl x y

pub ternary_grouped : (p a b : Tree) (i j k l : ℕ) → GroupedAtMost p i j → GroupedAtMost a j k → GroupedAtMost b k l → GroupedAtMost (ternary p a b) i l
ternary_grouped p a b i j k l x y z = three_grouped p a b (ternary p a b) i j k l refl x y z

pub cast_grouped : (e : Tree) (to : Kind) (o : CastOptions) (i j : ℕ) → GroupedAtMost e i j → GroupedAtMost (cast e to o) i j
cast_grouped e to o i j x = record { rises = x.rises; most = x.most }

pub function_grouped : (es : Trees) (call : Call) (i j : ℕ) → GroupedAllAtMost es i j → GroupedAtMost (function es call) i j
function_grouped es call i j x = record { rises = x.rises; most = x.most }

pub filter_grouped_input : (e by : Tree) (i j : ℕ) → GroupedAtMost e i j → GroupedAtMost (filter e by) i j
filter_grouped_input e by i j x = one_grouped e (filter e by) (windows_in by) i j refl x

pub filter_grouped : (e by : Tree) (i j k : ℕ) → GroupedAtMost e i j → GroupedAtMost by j k → GroupedAtMost (filter e by) i k
filter_grouped e by i j k x y = two_grouped e by (filter e by) 0 i j k (omega arith) x y

pub slice_grouped_one : (e o l : Tree) (i j : ℕ) → GroupedAtMost e i j → GroupedAtMost (slice e o l) i j
slice_grouped_one e o l i j x = one_grouped e (slice e o l) (windows_in o + windows_in l) i j (omega arith) x

pub slice_grouped_two : (e o l : Tree) (i j k : ℕ) → GroupedAtMost e i j → GroupedAtMost o j k → GroupedAtMost (slice e o l) i k
slice_grouped_two e o l i j k x y = two_grouped e o (slice e o l) (windows_in l) i j k refl x y

pub slice_grouped : (e o l : Tree) (i j k m : ℕ) → GroupedAtMost e i j → GroupedAtMost o j k → GroupedAtMost l k m → GroupedAtMost (slice e o l) i m
slice_grouped e o l i j k m x y z = three_grouped e o l (slice e o l) i j k m refl x y z

pub gather_grouped_input : (e idx : Tree) (one : Bool) (i j : ℕ) → GroupedAtMost e i j → GroupedAtMost (gather e idx one) i j
gather_grouped_input e idx one i j x = one_grouped e (gather e idx one) (windows_in idx) i j refl x

pub gather_grouped : (e idx : Tree) (one : Bool) (i j k : ℕ) → GroupedAtMost e i j → GroupedAtMost idx j k → GroupedAtMost (gather e idx one) i k
gather_grouped e idx one i j k x y = two_grouped e idx (gather e idx one) 0 i j k (omega arith) x y

pub sort_grouped : (e : Tree) (o : SortOptions) (i j : ℕ) → GroupedAtMost e i j → GroupedAtMost (sort e o) i j
sort_grouped e o i j x = record { rises = x.rises; most = x.most }

-- the keys of a sort come before its rows
pub sort_by_grouped_keys : (e : Tree) (by : Trees) (o : SortMultipleOptions) (i j : ℕ) → GroupedAllAtMost by i j → GroupedAtMost (sort_by e by o) i j
sort_by_grouped_keys e by o i j x = record { rises = x.rises; most = omega (arith, x.most) }

pub sort_by_grouped : (e : Tree) (by : Trees) (o : SortMultipleOptions) (i j k : ℕ) → GroupedAllAtMost by i j → GroupedAtMost e j k → GroupedAtMost (sort_by e by o) i k
sort_by_grouped e by o i j k x y = record { rises = omega (arith, x.rises, y.rises); most = omega (arith, x.most, y.most) }

pub reduction_grouped : (e : Tree) (m : GroupByMethod) (i j : ℕ) → GroupedAtMost e i j → GroupedAtMost (agg m e) i j
reduction_grouped e m i j x = record { rises = x.rises; most = x.most }

pub alias_grouped : (p e : Tree) (name : List ℕ) (i j : ℕ) → p ≡ alias e name → GroupedAtMost e i j → GroupedAtMost p i j
alias_grouped p e name i j s x = rw s (record { rises = x.rises; most = x.most })

-- one more expression's, and then those of the others
pub grouped_before : (t : Tree) (ts : Trees) (i j k : ℕ) → GroupedAtMost t i j → GroupedAllAtMost ts j k → GroupedAllAtMost (one_tree t ts) i k
grouped_before t ts i j k x y = record { rises = omega (arith, x.rises, y.rises); most = omega (arith, x.most, y.most) }

pub none_of_all : (ts : Trees) (i : ℕ) → GroupedAllAtMost ts i i
none_of_all ts i = record { rises = omega arith; most = omega arith }

use Rattle.std.proofs.Common.{◌≡◌, ◌∙◌, Ok, length, map, ap, subst, sym, arith}
use Rattle.std.proofs.lemmas.Result.{err_from_is_err_and}
use Rattle.px_column.specs.Order.{sort_keys, sorted_rows}
use Rattle.px_column.specs.Prelude.{Answers, Refuses, Series}
use Rattle.px_column.specs.Result.{◌>>=◌}
use Rattle.px_frame.specs.Frame.{are_below}
use Rattle.px_nodes.specs.Named.{sorted_column_by}
use Rattle.px_value.proofs.Refusing.{refuses_then}
use Rattle.px_nodes.proofs.Ordering.{below_sorted, keys_order, length_sorted, no_key, unsorted}
use Rattle.px_nodes.proofs.sort_by.sort_column_by.Goals as goal

pub returns-in-empty-clause-answer : goal.returns-in-empty-clause-answer
returns-in-empty-clause-answer g c =
    let s = c.args.column.now in
    let o = c.args.options.now in
    subst (Answers c.try_clone.result) (sym (ap Ok (ap (sorted_column_by o s) (no_key c.args.keys.now c.in-empty.len_below) ∙ unsorted o s))) c.try_clone.ensures

pub returns-in_err-rows-in-len1-up-clause-answer : goal.returns-in_err-rows-in-len1-up-clause-answer
returns-in_err-rows-in-len1-up-clause-answer g c =
    let s = c.args.column.now in
    let o = c.args.options.now in
    let keys = c.args.keys.now in
    let order = keys_order o keys c.first-item.result (length s.slots) c.in-len1-up.len_at_least c.first-item.is c.requires.kinds c.requires.lengths in
    let p = err_from_is_err_and c.from_residual.result c.from_residual.ensures.1 in
    let e = c.in_err-rows-in-len1-up.field-0.0 in
    rw (p.1, p.2) (subst (Refuses e) (ap (λ r. r >>= λ found. Ok (sorted_column_by o s keys)) order) (refuses_then e _ (λ found. Ok (sorted_column_by o s keys)) c.in_err-rows-in-len1-up.ensures.answer))

pub take_rows-requires-clause-few : goal.take_rows-requires-clause-few
take_rows-requires-clause-few g c =
    let s = c.args.column.now in
    let o = c.args.options.now in
    let keys = c.args.keys.now in
    let order = keys_order o keys c.first-item.result (length s.slots) c.in-len1-up.len_at_least c.first-item.is c.requires.kinds c.requires.lengths in
    let sorted = sort_keys o (map (λ (k : Series). k.slots) keys) in
    let found : c.in_ok-rows-in-len1-up.rows.items ≡ sorted_rows sorted (length s.slots) = cc (order, c.in_ok-rows-in-len1-up.ensures.answer) in
    let all = ap length (c.deref.ensures.value ∙ found) ∙ length_sorted sorted (length s.slots) in
    omega (arith, all, c.rows.ensures.short)

pub take_rows-requires-clause-below : goal.take_rows-requires-clause-below
take_rows-requires-clause-below g c =
    let s = c.args.column.now in
    let o = c.args.options.now in
    let keys = c.args.keys.now in
    let order = keys_order o keys c.first-item.result (length s.slots) c.in-len1-up.len_at_least c.first-item.is c.requires.kinds c.requires.lengths in
    let sorted = sort_keys o (map (λ (k : Series). k.slots) keys) in
    let found : c.in_ok-rows-in-len1-up.rows.items ≡ sorted_rows sorted (length s.slots) = cc (order, c.in_ok-rows-in-len1-up.ensures.answer) in
    ap (are_below (length s.slots)) (c.deref.ensures.value ∙ found) ∙ below_sorted sorted (length s.slots)

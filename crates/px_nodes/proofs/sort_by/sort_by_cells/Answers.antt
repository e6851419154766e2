use Rattle.std.proofs.Common.{◌≡◌, ◌∙◌, ◌==◌, ℕ, false, Ok, List, length, map, ap, subst, sym, refl}
use Rattle.std.specs.List.{list_all, list_any}
use Rattle.std.proofs.lemmas.Result.{err_from_is_err_and}
use Rattle.px_column.specs.Prelude.{Refuses, Series, is_list_kind}
use Rattle.px_frame.specs.Cell.{count_of}
use Rattle.px_frame.specs.CellView.{named_cell}
use Rattle.px_frame.specs.Spread.{column_of_cell, spread_all}
use Rattle.px_frame.specs.declared.cell.Cell.{Cell}
use Rattle.px_nodes.specs.Named.{kinds_of, sort_by_named, sorted_column_by}
use Rattle.px_nodes.proofs.Answering.{made_cell}
use Rattle.px_nodes.proofs.Ordering.{sort_by_made, sort_by_refuses, spread_kinds, spread_lengths}
use Rattle.px_nodes.proofs.sort_by.sort_by_cells.Goals as goal

pub returns-in_err-keys-clause-answer : goal.returns-in_err-keys-clause-answer
returns-in_err-keys-clause-answer g c =
    let a = named_cell c.args.input in
    let by = map named_cell c.args.by.items in
    let none : list_any is_list_kind (kinds_of by) ≡ false = ap (λ (cs : List Cell). list_any is_list_kind (kinds_of (map named_cell cs))) (sym c.deref.ensures.value) ∙ sym c.has_lists.ensures ∙ c.if-has_lists.false in
    let height : c.len.result ≡ count_of a.cell = c.len.ensures ∙ ap (λ (s : Series). length s.slots) c.as_column-column.ensures in
    let p = err_from_is_err_and c.from_residual.result c.from_residual.ensures.1 in
    let e = c.in_err-keys.field-0.0 in
    rw (p.1, p.2) (sort_by_refuses c.args.sort_options.now a by e none (subst (λ n. Refuses e (spread_all n by)) height c.in_err-keys.ensures))

pub sort_column_by-requires-clause-kinds : goal.sort_column_by-requires-clause-kinds
sort_column_by-requires-clause-kinds g c =
    let by = map named_cell c.args.by.items in
    let none : list_any is_list_kind (kinds_of by) ≡ false = ap (λ (cs : List Cell). list_any is_list_kind (kinds_of (map named_cell cs))) (sym c.deref.ensures.value) ∙ sym c.has_lists.ensures ∙ c.if-has_lists.false in
    ap (list_any (λ (s : Series). is_list_kind s.kind)) c.deref-2.ensures.value ∙ spread_kinds c.len.result by c.in_ok-keys.keys.items c.in_ok-keys.ensures ∙ none

pub sort_column_by-requires-clause-lengths : goal.sort_column_by-requires-clause-lengths
sort_column_by-requires-clause-lengths g c =
    let by = map named_cell c.args.by.items in
    ap (list_all (λ (s : Series). length s.slots == length c.as_column-column.result.now.slots)) c.deref-2.ensures.value
    ∙ ap (λ (n : ℕ). list_all (λ (s : Series). length s.slots == n) c.in_ok-keys.keys.items) (sym c.len.ensures)
    ∙ spread_lengths c.len.result by c.in_ok-keys.keys.items c.in_ok-keys.ensures

pub returns-clause-answer : goal.returns-clause-answer
returns-clause-answer g c =
    let a = named_cell c.args.input in
    let o = c.args.sort_options.now in
    let by = map named_cell c.args.by.items in
    let none : list_any is_list_kind (kinds_of by) ≡ false = ap (λ (cs : List Cell). list_any is_list_kind (kinds_of (map named_cell cs))) (sym c.deref.ensures.value) ∙ sym c.has_lists.ensures ∙ c.if-has_lists.false in
    let height : c.len.result ≡ count_of a.cell = c.len.ensures ∙ ap (λ (s : Series). length s.slots) c.as_column-column.ensures in
    let keys : spread_all (count_of a.cell) by ≡ Ok c.in_ok-keys.keys.items = ap (λ (n : ℕ). spread_all n by) (sym height) ∙ c.in_ok-keys.ensures in
    made_cell c.into_cell.result c.sort_column_by.result false false
    (Ok (sorted_column_by o c.as_column-column.result.now c.deref-2.result.now)) (Ok (sorted_column_by o (column_of_cell a) c.in_ok-keys.keys.items)) (sort_by_named o a by)
    refl (λ i. Ok (sorted_column_by o (c.as_column-column.ensures i) (c.deref-2.ensures.value i))) (sort_by_made o a by c.in_ok-keys.keys.items none keys) c.sort_column_by.ensures.answer c.into_cell.ensures.answer

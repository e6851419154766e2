use Rattle.std.proofs.Common.{◌≡◌, Ok, ◌∙◌, sym, ap, subst, length}
use Rattle.std.proofs.lemmas.Result.{err_from_is_err_and}
use Rattle.px_column.specs.Column.{taken}
use Rattle.px_column.specs.Prelude.{Answers, Refuses}
use Rattle.px_column.specs.Result.{◌>>=◌}
use Rattle.px_frame.specs.Unsigned.{places_of}
use Rattle.px_value.proofs.Refusing.{refuses_then}
use Rattle.px_nodes.proofs.Gathered.{gathered_places}
use Rattle.px_nodes.proofs.gather.rows_named.Goals as goal

pub returns-in_err-places : goal.returns-in_err-places
returns-in_err-places c =
    let s = c.args.column.now in
    let idx = c.args.index.now in
    let p = err_from_is_err_and c.from_residual.result c.from_residual.ensures.1 in
    let e = c.in_err-places.field-0.0 in
    let all = gathered_places s idx c.requires c.rows.ensures.fit in
    rw (p.1, p.2) (subst (Refuses e) all (refuses_then e (places_of (length s.slots) idx) (taken s) (rw c.len.ensures at c.in_err-places.ensures)))

pub returns : goal.returns
returns c =
    let s = c.args.column.now in
    let idx = c.args.index.now in
    let all = gathered_places s idx c.requires c.rows.ensures.fit in
    let places : places_of (length s.slots) idx ≡ Ok c.in_ok-places.places.items = ap (λ n. places_of n idx) (sym c.len.ensures) ∙ c.in_ok-places.ensures in
    subst (Answers c.take.result) (sym (ap (λ r. r >>= taken s) places) ∙ all) (rw c.deref.ensures.value at c.take.ensures)

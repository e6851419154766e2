use Rattle.std.proofs.Common.{◌≡◌, ◌∙◌, [], length, ap, arith}
use Rattle.std.proofs.lemmas.List.{length_push}
use Rattle.std.proofs.lemmas.Result.{err_from_is_err_and}
use Rattle.px_value.specs.Kind.{slot_fits}
use Rattle.px_value.specs.KindView.{kind_of}
use Rattle.px_value.specs.Series.{Series}
use Rattle.px_value.specs.View.{slot_of}
use Rattle.px_operation.proofs.CastLaws.{fits_cast}
use Rattle.px_column.proofs.Casting.{cast_all, cast_next, cast_refused, cast_start}
use Rattle.px_column.proofs.Building.{made_is}
use Rattle.px_column.proofs.column.Column.cast_rows.Goals as goal

pub loop-row-init : goal.loop-row-init
loop-row-init c =
    let built = made_is _ c.in_ok-rows.rows c.in_ok-rows.ensures in
    let none : c.in_ok-rows.rows.slots ≡ [] = ap (λ (s : Series). s.slots) built in
    let all : c.into_iter-row-iterator.result ≡ c.args.self.now.slots = c.into_iter-row-iterator.ensures.into_iter_gives ∙ c.rows-row-items.ensures.value in
    record {
      can = tt;
      ends = tt;
      short = omega (arith, ap length none, ap length all, c.rows-row-items.ensures.short);
      name = ap (λ (s : Series). s.name) built ∙ cc (c.in_ok-name.ensures, c.name.ensures);
      kind = ap (λ (s : Series). s.kind) built ∙ cc (c.in_ok-try_clone.ensures);
      same = cast_start (kind_of c.args.dtype.now) c.args.options _ _ _ none all;
    }

pub returns-in_err-cast_value : goal.returns-in_err-cast_value
returns-in_err-cast_value c =
    let p = err_from_is_err_and c.from_residual-in_err-cast_value.result c.from_residual-in_err-cast_value.ensures.1 in
    let to = kind_of c.args.dtype.now in
    rw (p.1, p.2) (cast_refused to c.args.options c.loop-row.rows.slots c.args.self.now.slots c.loop-row.row-iterator c.loop-row.invariant.same c.in_err-cast_value.field-0.0 c.args.self.now.name c.args.self.now.kind _ _ c.in-Some.ensures.steps (c.in_err-cast_value.ensures to))

pub push-requires-clause-fits : goal.push-requires-clause-fits
push-requires-clause-fits c =
    let to = kind_of c.args.dtype.now in
    (λ i. slot_fits (c.loop-row.invariant.kind i) (slot_of c.in_ok-cast_value.field-0)) ∙ fits_cast to to c.args.options _ (slot_of c.in_ok-cast_value.field-0) (c.in_ok-cast_value.ensures to)

pub loop-row-preserved : goal.loop-row-preserved
loop-row-preserved c =
    let to = kind_of c.args.dtype.now in
    record {
      can = tt;
      ends = tt;
      short = omega (arith, length_push c.loop-row.rows.slots (slot_of c.in_ok-cast_value.field-0), ap (λ (s : Series). length s.slots) c.in_ok-push.ensures.ok, ap length c.in-Some.ensures.steps, c.loop-row.invariant.short);
      name = ap (λ (s : Series). s.name) c.in_ok-push.ensures.ok ∙ c.loop-row.invariant.name;
      kind = ap (λ (s : Series). s.kind) c.in_ok-push.ensures.ok ∙ c.loop-row.invariant.kind;
      same = cast_next to c.args.options c.loop-row.rows.slots c.args.self.now.slots c.loop-row.row-iterator c.loop-row.invariant.same _ _ _ _ c.in-Some.ensures.steps (c.in_ok-cast_value.ensures to) (ap (λ (s : Series). s.slots) c.in_ok-push.ensures.ok);
    }

pub returns : goal.returns
returns c =
    cast_all (kind_of c.args.dtype.now) c.args.options c.loop-row.rows.slots c.args.self.now.slots c.loop-row.row-iterator c.loop-row.invariant.same c.args.self.now.name c.args.self.now.kind c.loop-row.rows _ c.in-None.ensures.steps.0 (λ i. record { name = c.loop-row.invariant.name i; kind = c.loop-row.invariant.kind i; slots = c.loop-row.rows.slots }) c.finish.ensures

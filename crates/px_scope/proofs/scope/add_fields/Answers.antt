use Rattle.px_scope.proofs.Fields.{fields_next, known, none_found, not_refused, pushed, some_found}
use Rattle.px_frame.specs.Schema.{FieldKind, column_field}
use Rattle.px_frame.specs.SchemaView.{field_kind}
use Rattle.std.proofs.Common.{◌≡◌, ◌∙◌, ap}
use Rattle.std.proofs.lemmas.Result.{err_from_is_err_and}
use Rattle.px_scope.proofs.scope.add_fields.Goals.{then-is_none+in_ok-field_of+in_ok-push, else-is_none}
use Rattle.px_scope.proofs.scope.add_fields.Goals as goal

pub returns-in_err-push-clause-memory : goal.returns-in_err-push-clause-memory
returns-in_err-push-clause-memory c =
    let p = err_from_is_err_and c.from_residual-in_err-push.result c.from_residual-in_err-push.ensures.1 in
    let s = c.column-item.result in
    let field : field_kind c.in_ok-field_of.field-0 ≡ column_field s = cc (c.in_ok-field_of.ensures) in
    let none = none_found _ c.get_full.result _ c.is_none.result (rw c.name.ensures at c.get_full.ensures.field) c.is_none.ensures c.if-is_none.true in
    rw (p.1, p.2) (not_refused c.loop-column.schema s c.in_err-push.field-0.0 c.in_ok-field_of.field-0.name none (ap (λ (x : FieldKind). x.name) field) c.in_err-push.ensures.answer)

pub loop-column-preserved : goal.loop-column-preserved
loop-column-preserved c =
    let s = c.column-item.result in
    let fields = c.loop-column.schema in
    let found = rw c.name.ensures at c.get_full.ensures.field in
    fields_next c.args.columns.now c.loop-column.column-index s c.loop-column-test.true c.column-item.is fields c.if-is_none.schema _ c.loop-column.invariant
    (elim c.if-is_none.branch [
      | then-is_none+in_ok-field_of+in_ok-push w ↦
          let field : field_kind w.in_ok-field_of.field-0 ≡ column_field s = cc (w.in_ok-field_of.ensures) in
          w.schema-is ∙ pushed fields s w.push.new.self (field_kind w.in_ok-field_of.field-0) (none_found _ c.get_full.result _ c.is_none.result found c.is_none.ensures w.if-is_none.true) field w.in_ok-push.ensures.added
      | else-is_none w ↦ w.schema-is ∙ known fields s (some_found _ c.get_full.result _ c.is_none.result found c.is_none.ensures w.if-is_none.false)
    ])

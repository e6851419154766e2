use Rattle.std.proofs.Common.{◌∙◌, ap, sym, position}
use Rattle.px_frame.specs.Frame.{name_eq}
use Rattle.px_frame.proofs.Fields.{entry_names, full_field}
use Rattle.px_frame.proofs.schema.Schema.get_full.Goals as goal

pub returns-clause-place : goal.returns-clause-place
returns-clause-place c =
    rw (← c.self.view_is) (c.get_full.ensures.index ∙ ap (position (name_eq c.args.name.now)) (sym (entry_names c.self.inside.fields.entries)))

pub returns-clause-field : goal.returns-clause-field
returns-clause-field c =
    rw (← c.self.view_is) (full_field c.args.name.now c.self.inside.fields.entries c.get_full.result c.get_full.ensures.key c.get_full.ensures.value)

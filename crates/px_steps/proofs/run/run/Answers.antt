use Rattle.px_steps.proofs.Endings.{valid_ended}
use Rattle.px_steps.proofs.run.run.Goals as goal

pub returns-then-is_command-clause-complete : goal.returns-then-is_command-clause-complete
returns-then-is_command-clause-complete g c =
    λ b doc tells is valid word calm still.
    valid_ended c.run_command.result (g.S.Source.left c.args.source.now) b doc
    (g.S.Source.left c.run_command.new.source) (g.K.Sink.taken c.args.sink.now) (g.K.Sink.taken c.run_command.new.sink)
    (g.S.Source.faults c.args.source.now) (g.S.Source.faults c.run_command.new.source) (g.K.Sink.faults c.args.sink.now) (g.K.Sink.faults c.run_command.new.sink)
    tells is valid c.run_command.ensures.ends c.run_command.ensures.command c.run_command.ensures.read_fault c.run_command.ensures.write_fault calm still

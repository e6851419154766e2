use Rattle.std.proofs.Common.{codes}
use Rattle.std.proofs.lemmas.Slice.Eq.{slice_eq-Decides}
use Rattle.std.proofs.lemmas.Bool.Decides.{Decides-eqb}
use Rattle.px_steps.proofs.Command.{only-word}
use Rattle.px_steps.proofs.run.is_command.Goals as goal

pub returns-in-len1 : goal.returns-in-len1
returns-in-len1 c =
    let test = slice_eq-Decides Decides-eqb c.as_str.result.now (codes "run") c.eq.result c.eq.ensures in
    only-word c.args.words.now c.word-item.result c.eq.result c.in-len1.len_at_least c.in-len1.len_below c.word-item.is (rw c.as_str.ensures.value at test)

use Rattle.std.proofs.Common.{◌++◌, ◌∷◌, [], ap, refl, subst}
use Rattle.std.specs.Fmt.{decimal}
use Rattle.std.specs.Io.KnownBytes.{Appends}
use Rattle.px_batch.proofs.Written.{empty, told}
use Rattle.px_batch.proofs.write_reply.Goals as goal

pub returns : goal.returns
returns g c =
    let line = subst (λ n. Appends (g.W.Write.contents c.args.out.now) (g.W.Write.contents c.writeln.new.self) (decimal n ++ 10 ∷ [])) c.number.ensures c.in_ok-writeln.ensures.bytes in
    let text = subst (Appends (g.W.Write.contents c.writeln.new.self) (g.W.Write.contents c.write_all.new.self)) c.bytes.ensures c.in_ok-write_all.ensures.bytes in
    told c.args.document.items _ _ _ _ c.in_ok-status.status _ _ _ (ap (λ s. s.rest) c.new-source.ensures) (empty _ _ c.in_ok-sink.ensures refl) c.in_ok-status.ensures.ends line text

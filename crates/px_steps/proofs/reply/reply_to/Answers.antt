use Rattle.std.proofs.Common.{◌≡◌, false, sym, subst}
use Rattle.std.proofs.lemmas.Result.{IfOk-weaker}
use Rattle.px_document.specs.DocumentView.{document_view}
use Rattle.px_window.specs.State.{new_state}
use Rattle.px_steps.specs.Replies.{Bounded, Grouped, Replies, Ticked}
use Rattle.px_steps.proofs.Held.{ok_same}
use Rattle.px_steps.proofs.Replied.{bounded_by, document_unchunked, is_result, is_refusal, grouped_by, ticked_by, with_cause}
use Rattle.px_steps.proofs.reply.reply_to.Goals as goal

pub run_steps-requires : goal.run_steps-requires
run_steps-requires g c = record { unchunked = rw c.deref.ensures.value (document_unchunked c.args.bytes.now (document_view c.in-Ok.document) c.in-Ok.ensures.found) }

pub returns-in-Ok-run_steps-clause-grouped : goal.returns-in-Ok-run_steps-clause-grouped
returns-in-Ok-run_steps-clause-grouped g c =
    let doc = document_view c.in-Ok.document in
    let count = rw c.deref.ensures.value at c.in-Ok-run_steps.ensures.grouped in
    IfOk-weaker c.frame_reply.result _ _
    (λ r e. subst (λ x. Grouped c.args.bytes.now x c.args.groupings.now c.run_steps.new.groupings) (sym e.1) (grouped_by c.args.bytes.now doc c.args.groupings.now c.run_steps.new.groupings c.in-Ok.ensures.found count))
    c.frame_reply.ensures

pub returns-in-Ok-run_steps-clause-ticks : goal.returns-in-Ok-run_steps-clause-ticks
returns-in-Ok-run_steps-clause-ticks g c =
    let doc = document_view c.in-Ok.document in
    let count = rw c.deref.ensures.value at c.in-Ok-run_steps.ensures.ticks in
    IfOk-weaker c.frame_reply.result _ _
    (λ r e. subst (λ x. Ticked c.args.bytes.now x c.args.kernels.now c.run_steps.new.kernels) (sym e.1) (ticked_by c.args.bytes.now doc c.args.kernels.now c.run_steps.new.kernels c.in-Ok.ensures.found count))
    c.frame_reply.ensures

pub returns-in-Ok-run_steps-clause-most : goal.returns-in-Ok-run_steps-clause-most
returns-in-Ok-run_steps-clause-most g c =
    let doc = document_view c.in-Ok.document in
    let state : c.in-Ok-new.state ≡ new_state false = ok_same _ _ c.in-Ok-new.ensures in
    let bound = rw (c.deref.ensures.value, state) at c.in-Ok-run_steps.ensures.most in
    IfOk-weaker c.frame_reply.result _ _
    (λ r e. subst (λ x. Bounded c.args.bytes.now x c.args.kernels.now c.run_steps.new.kernels) (sym e.1) (bounded_by c.args.bytes.now doc c.args.kernels.now c.run_steps.new.kernels c.in-Ok.ensures.found bound))
    c.frame_reply.ensures

pub returns-in-Ok-run_steps-clause-reply : goal.returns-in-Ok-run_steps-clause-reply
returns-in-Ok-run_steps-clause-reply g c =
    let doc = document_view c.in-Ok.document in
    let state : c.in-Ok-new.state ≡ new_state false = ok_same _ _ c.in-Ok-new.ensures in
    let run = rw (c.deref.ensures.value, state) at c.in-Ok-run_steps.ensures.run in
    let plain = rw (c.deref.ensures.value, state) at c.in-Ok-run_steps.ensures.plain in
    IfOk-weaker c.frame_reply.result _ _
    (λ r e. subst (Replies c.args.bytes.now) (sym e.1) (is_result c.args.bytes.now e.0 doc c.in-Ok-run_steps.frame c.in-Ok.ensures.found run plain e.2))
    c.frame_reply.ensures

pub returns : goal.returns
returns g c =
    let doc = document_view c.in-Ok.document in
    let state : c.in-Ok-new.state ≡ new_state false = ok_same _ _ c.in-Ok-new.ensures in
    let cause = rw (c.deref.ensures.value, state) at c.in-Err.ensures.causes in
    record {
      reply = with_cause c.fault_reply.result _ _ _ c.fault_reply.ensures.line c.fault_reply.ensures.cause
          (λ r e k. subst (Replies c.args.bytes.now) (sym e.1) (is_refusal c.args.bytes.now e.0 doc c.in-Err.fault c.in-Ok.ensures.found cause k e.2));
      ticks = IfOk-weaker c.fault_reply.result _ _ (λ r e. subst (λ x. Ticked c.args.bytes.now x c.args.kernels.now c.run_steps.new.kernels) (sym e.1) tt) c.fault_reply.ensures.line;
      most = IfOk-weaker c.fault_reply.result _ _ (λ r e. subst (λ x. Bounded c.args.bytes.now x c.args.kernels.now c.run_steps.new.kernels) (sym e.1) tt) c.fault_reply.ensures.line;
      grouped = IfOk-weaker c.fault_reply.result _ _ (λ r e. subst (λ x. Grouped c.args.bytes.now x c.args.groupings.now c.run_steps.new.groupings) (sym e.1) tt) c.fault_reply.ensures.line;
    }

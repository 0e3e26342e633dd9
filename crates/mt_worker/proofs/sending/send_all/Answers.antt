use Rattle.std.proofs.Common.{◌≡◌, ◌∙◌, ◌+◌, ◌∷◌, ap, drop, rules, sym}
use Rattle.std.proofs.lemmas.List.{drop_more}
use Rattle.mt_model.specs.declared.texts.recording.Sent.{Sent}
use Rattle.mt_worker.proofs.Giving.{sent_more}
use Rattle.mt_worker.proofs.sending.send_all.Goals as goal

pub loop-message-preserved : goal.loop-message-preserved
loop-message-preserved g c =
    let messages = c.args.messages.now in
    let at = c.loop-message.message-index in
    let message : Sent = c.message-item.result in
    let next : drop at messages ≡ message ∷ drop (at + 1) messages = drop_more messages at message c.loop-message-test.true ∙ ap (λ (m : Sent). m ∷ drop (at + 1) messages) (sym (c.message-item.is)) in
    let so_far = c.loop-message.invariant.given in
    record {
      given = sent_more (g.O.Outlet.given c.args.outlet.now) (g.O.Outlet.given c.loop-message.outlet) (g.O.Outlet.given c.send.new.outlet) so_far.0 messages at message next so_far.1 c.in-Ok.ensures.gave so_far.2;
      faults = search rules;
    }

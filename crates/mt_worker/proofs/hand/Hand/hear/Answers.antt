use Rattle.std.proofs.Common.{◌≡◌, ◌∙◌, ◌∷◌, [], Err, List, ap, refl, rules, subst, sym}
use Rattle.mt_worker.specs.Accounts.{Account, ends_of}
use Rattle.mt_worker.specs.Due.{Hears, call_heard}
use Rattle.mt_worker.specs.Gots.{Goes, Got}
use Rattle.mt_worker.specs.Works.{WentOver, got_by}
use Rattle.mt_worker.specs.declared.fault.WorkFault.TheVariants.{Memory}
use Rattle.mt_layer.specs.Answering.{answer_by}
use Rattle.mt_layer.specs.Saying.{heard_as_live}
use Rattle.mt_layer.specs.mt_shared.Call.{Call}
use Rattle.mt_worker.proofs.Calls.{heard_got, heard_sent, heard_stands, hears}
use Rattle.mt_worker.proofs.Few.{few_heard}
use Rattle.mt_worker.proofs.Made.{heard_made}
use Rattle.mt_worker.proofs.Works.{went_denied, went_nowhere, went_sent, went_unsaid}
use Rattle.mt_worker.proofs.hand.Hand.hear.Goals as goal

pub returns-in_err-call-clause-went : goal.returns-in_err-call-clause-went
returns-in_err-call-clause-went g c a is named =
    let Due = λ (b : Account) (gots : List Got). Hears b c.args.now c.args.from c.args.bytes gots in
    let same : c.from_residual.result ≡ Err Memory = search rules in
    subst (λ r. WentOver g.O.Outlet.given g.O.Outlet.faults Due 1 0 c.args.self.now c.args.self.now c.listen.new.self r a) (sym same)
    (went_nowhere g.O.Outlet.given g.O.Outlet.faults _ Due 1 0 c.args.self.now c.args.self.now c.listen.new.self a c.requires.own.2 refl refl)

pub returns-in_err-stamped-clause-went : goal.returns-in_err-stamped-clause-went
returns-in_err-stamped-clause-went g c a is named =
    let Due = λ (b : Account) (gots : List Got). Hears b c.args.now c.args.from c.args.bytes gots in
    let call : c.in_ok-call.call ≡ call_heard a c.args.now c.args.from c.args.bytes = c.in_ok-call.ensures.call a is in
    let same : c.from_residual-in_err-stamped.result ≡ Err c.in_err-stamped.field-0.0 = search rules in
    subst (λ r. WentOver g.O.Outlet.given g.O.Outlet.faults Due 1 0 c.args.self.now c.act.new.self c.listen.new.self r a) (sym same)
    (went_denied g.O.Outlet.given g.O.Outlet.faults _ Due 1 0 c.args.self.now c.act.new.self c.listen.new.self a c.in_ok-call.call c.in_err-stamped.field-0.0 (heard_made a c.args.now c.args.from c.args.bytes c.in_ok-call.call named call) (c.in_err-stamped.ensures.acted a.row.session).refused c.in_err-stamped.ensures.outlet)

pub returns-in_err-sent-clause-went : goal.returns-in_err-sent-clause-went
returns-in_err-sent-clause-went g c a is named =
    let Due = λ (b : Account) (gots : List Got). Hears b c.args.now c.args.from c.args.bytes gots in
    let stamped = c.in_ok-stamped.stamped in
    let call : c.in_ok-call.call ≡ call_heard a c.args.now c.args.from c.args.bytes = c.in_ok-call.ensures.call a is in
    let goes : Goes c.args.self.now.pass c.act.new.self.pass (heard_got a c.args.now stamped c.args.from c.args.bytes ∷ []) =
    subst (λ (k : Call). Goes c.args.self.now.pass c.act.new.self.pass (got_by a.row.session k stamped ∷ [])) call (c.in_ok-stamped.ensures.acted a.row.session).answered in
    let made = heard_made a c.args.now c.args.from c.args.bytes (call_heard a c.args.now c.args.from c.args.bytes) named refl in
    let same : c.from_residual-in_err-sent.result ≡ Err Memory = search rules in
    subst (λ r. WentOver g.O.Outlet.given g.O.Outlet.faults Due 1 0 c.args.self.now c.act.new.self c.answer.new.self r a) (sym same)
    (went_unsaid g.O.Outlet.given g.O.Outlet.faults _ Due 1 0 c.args.self.now c.act.new.self c.answer.new.self a (heard_got a c.args.now stamped c.args.from c.args.bytes) goes refl made (few_heard (heard_got a c.args.now stamped c.args.from c.args.bytes) refl) c.in_ok-stamped.ensures.outlet)

pub returns-clause-went : goal.returns-clause-went
returns-clause-went g c a is named =
    let Due = λ (b : Account) (gots : List Got). Hears b c.args.now c.args.from c.args.bytes gots in
    let stamped = c.in_ok-stamped.stamped in
    let pending = c.in_ok-call.pending in
    let b : Account = record a { talk = heard_as_live a.row c.args.from c.args.bytes a.talk } in
    let heard = c.in_ok-call.ensures.stands a is in
    let call : c.in_ok-call.call ≡ call_heard a c.args.now c.args.from c.args.bytes = c.in_ok-call.ensures.call a is in
    let goes : Goes c.args.self.now.pass c.act.new.self.pass (heard_got a c.args.now stamped c.args.from c.args.bytes ∷ []) =
    subst (λ (k : Call). Goes c.args.self.now.pass c.act.new.self.pass (got_by a.row.session k stamped ∷ [])) call (c.in_ok-stamped.ensures.acted a.row.session).answered in
    let those : c.as_slice.result.now ≡ c.in_ok-sent.sent = search rules in
    let made = heard_made a c.args.now c.args.from c.args.bytes (call_heard a c.args.now c.args.from c.args.bytes) named refl in
    let said = answer_by stamped.ms stamped.answer.reply pending.answering in
    let its = c.in_ok-call.ensures.answer a is stamped.ms stamped.answer.reply in
    let ends = c.in_ok-call.ensures.at ∙ ap (λ (k : Call). ends_of k.deed) call in
    went_sent g.O.Outlet.given g.O.Outlet.faults _ Due 1 0 c.args.self.now (record { pass = c.act.new.self.pass; outlet = c.send_all.new.outlet }) c.answer.new.self a (heard_got a c.args.now stamped c.args.from c.args.bytes) c.as_slice.result.now c.in_ok-sent.sent c.act.new.self.outlet c.send_all.result
    goes refl made (few_heard (heard_got a c.args.now stamped c.args.from c.args.bytes) refl) c.in_ok-stamped.ensures.outlet those (heard_sent a c.args.now stamped c.args.from c.args.bytes said c.in_ok-sent.sent its (c.in_ok-sent.ensures.sent b heard))
    c.send_all.ensures.all c.send_all.ensures.part c.send_all.ensures.link c.send_all.ensures.cause
    (hears a c.args.now stamped c.args.from c.args.bytes) (heard_stands a c.args.now stamped c.args.from c.args.bytes said pending.at.items c.answer.new.self its ends (c.in_ok-sent.ensures.stands b heard))

use Rattle.std.proofs.Common.{◌≡◌, ◌∙◌, ◌∷◌, [], Err, List, ap, refl, rules, subst, sym}
use Rattle.mt_worker.specs.Accounts.{Account, ends_of}
use Rattle.mt_worker.specs.Due.{Resends, call_again}
use Rattle.mt_worker.specs.Gots.{Goes, Got}
use Rattle.mt_worker.specs.Works.{WentOver, got_by}
use Rattle.mt_worker.specs.declared.fault.WorkFault.TheVariants.{Memory}
use Rattle.mt_layer.specs.mt_shared.Call.{Call}
use Rattle.mt_worker.proofs.Calls.{again_got, again_sent, again_stands, resends}
use Rattle.mt_worker.proofs.Few.{few_step}
use Rattle.mt_worker.proofs.Made.{again_made}
use Rattle.mt_worker.proofs.Works.{went_denied, went_nowhere, went_sent, went_unsaid}
use Rattle.mt_worker.proofs.hand.Hand.resend.Goals as goal

pub returns-in_err-call-clause-went : goal.returns-in_err-call-clause-went
returns-in_err-call-clause-went g c a is =
    let Due = λ (b : Account) (gots : List Got). Resends b c.args.now gots in
    let same : c.from_residual.result ≡ Err Memory = search rules in
    subst (λ r. WentOver g.O.Outlet.given g.O.Outlet.faults Due 0 1 c.args.self.now c.args.self.now c.args.seat.now r a) (sym same)
    (went_nowhere g.O.Outlet.given g.O.Outlet.faults _ Due 0 1 c.args.self.now c.args.self.now c.args.seat.now a c.requires.own.2 refl refl)

pub returns-in_err-stamped-clause-went : goal.returns-in_err-stamped-clause-went
returns-in_err-stamped-clause-went g c a is =
    let Due = λ (b : Account) (gots : List Got). Resends b c.args.now gots in
    let call : c.in_ok-call.call ≡ call_again a c.args.now = c.in_ok-call.ensures.call a is in
    let same : c.from_residual-in_err-stamped.result ≡ Err c.in_err-stamped.field-0.0 = search rules in
    subst (λ r. WentOver g.O.Outlet.given g.O.Outlet.faults Due 0 1 c.args.self.now c.act.new.self c.args.seat.now r a) (sym same)
    (went_denied g.O.Outlet.given g.O.Outlet.faults _ Due 0 1 c.args.self.now c.act.new.self c.args.seat.now a c.in_ok-call.call c.in_err-stamped.field-0.0 (again_made a c.args.now c.in_ok-call.call call) (c.in_err-stamped.ensures.acted a.row.session).refused c.in_err-stamped.ensures.outlet)

pub returns-in_err-sent-clause-went : goal.returns-in_err-sent-clause-went
returns-in_err-sent-clause-went g c a is =
    let Due = λ (b : Account) (gots : List Got). Resends b c.args.now gots in
    let stamped = c.in_ok-stamped.stamped in
    let call : c.in_ok-call.call ≡ call_again a c.args.now = c.in_ok-call.ensures.call a is in
    let goes : Goes c.args.self.now.pass c.act.new.self.pass (again_got a c.args.now stamped ∷ []) =
    subst (λ (k : Call). Goes c.args.self.now.pass c.act.new.self.pass (got_by a.row.session k stamped ∷ [])) call (c.in_ok-stamped.ensures.acted a.row.session).answered in
    let same : c.from_residual-in_err-sent.result ≡ Err Memory = search rules in
    subst (λ r. WentOver g.O.Outlet.given g.O.Outlet.faults Due 0 1 c.args.self.now c.act.new.self c.resend.new.self r a) (sym same)
    (went_unsaid g.O.Outlet.given g.O.Outlet.faults _ Due 0 1 c.args.self.now c.act.new.self c.resend.new.self a (again_got a c.args.now stamped) goes refl (again_made a c.args.now (call_again a c.args.now) refl) (few_step (again_got a c.args.now stamped) refl) c.in_ok-stamped.ensures.outlet)

pub returns-clause-went : goal.returns-clause-went
returns-clause-went g c a is =
    let Due = λ (b : Account) (gots : List Got). Resends b c.args.now gots in
    let stamped = c.in_ok-stamped.stamped in
    let call : c.in_ok-call.call ≡ call_again a c.args.now = c.in_ok-call.ensures.call a is in
    let goes : Goes c.args.self.now.pass c.act.new.self.pass (again_got a c.args.now stamped ∷ []) =
    subst (λ (k : Call). Goes c.args.self.now.pass c.act.new.self.pass (got_by a.row.session k stamped ∷ [])) call (c.in_ok-stamped.ensures.acted a.row.session).answered in
    let those : c.as_slice.result.now ≡ c.in_ok-sent.sent = search rules in
    let at : c.deref.result.now ≡ c.in_ok-call.at.items = search rules in
    let ends = at ∙ c.in_ok-call.ensures.at ∙ ap (λ (k : Call). ends_of k.deed) call in
    went_sent g.O.Outlet.given g.O.Outlet.faults _ Due 0 1 c.args.self.now (record { pass = c.act.new.self.pass; outlet = c.send_all.new.outlet }) c.resend.new.self a (again_got a c.args.now stamped) c.as_slice.result.now c.in_ok-sent.sent c.act.new.self.outlet c.send_all.result
    goes refl (again_made a c.args.now (call_again a c.args.now) refl) (few_step (again_got a c.args.now stamped) refl) c.in_ok-stamped.ensures.outlet those (again_sent a c.args.now stamped c.in_ok-sent.sent (c.in_ok-sent.ensures.sent a is))
    c.send_all.ensures.all c.send_all.ensures.part c.send_all.ensures.link c.send_all.ensures.cause
    (resends a c.args.now stamped) (again_stands a c.args.now stamped c.deref.result.now c.resend.new.self ends (c.in_ok-sent.ensures.stands a is))

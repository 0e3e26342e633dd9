use Rattle.std.proofs.Common.{◌≡◌, ◌∷◌, [], Err, List, refl, rules, subst, sym}
use Rattle.mt_worker.specs.Accounts.{Account}
use Rattle.mt_worker.specs.Due.{Reports, call_report}
use Rattle.mt_worker.specs.Gots.{Got}
use Rattle.mt_worker.specs.Works.{WentOver}
use Rattle.mt_worker.specs.declared.fault.WorkFault.TheVariants.{Memory}
use Rattle.mt_worker.proofs.Calls.{report_got, report_sent, report_stands, reports}
use Rattle.mt_worker.proofs.Few.{few_step}
use Rattle.mt_worker.proofs.Made.{report_made}
use Rattle.mt_worker.proofs.Works.{went_denied, went_sent, went_unsaid}
use Rattle.mt_worker.proofs.hand.Hand.report.Goals as goal

pub returns-in_err-stamped-clause-went : goal.returns-in_err-stamped-clause-went
returns-in_err-stamped-clause-went g c a is there =
    let Due = λ (b : Account) (gots : List Got). Reports b.row.session c.args.now (c.args.subscription ∷ []) gots in
    let same : c.from_residual.result ≡ Err c.in_err-stamped.field-0.0 = search rules in
    subst (λ r. WentOver g.O.Outlet.given g.O.Outlet.faults Due 0 1 c.args.self.now c.act.new.self c.args.seat.now r a) (sym same)
    (went_denied g.O.Outlet.given g.O.Outlet.faults _ Due 0 1 c.args.self.now c.act.new.self c.args.seat.now a (call_report c.args.now c.args.subscription) c.in_err-stamped.field-0.0 (report_made a c.args.now c.args.subscription there) (c.in_err-stamped.ensures.acted a.row.session).refused c.in_err-stamped.ensures.outlet)

pub returns-in_err-sent-clause-went : goal.returns-in_err-sent-clause-went
returns-in_err-sent-clause-went g c a is there =
    let Due = λ (b : Account) (gots : List Got). Reports b.row.session c.args.now (c.args.subscription ∷ []) gots in
    let stamped = c.in_ok-stamped.stamped in
    let same : c.from_residual-in_err-sent.result ≡ Err Memory = search rules in
    subst (λ r. WentOver g.O.Outlet.given g.O.Outlet.faults Due 0 1 c.args.self.now c.act.new.self c.report.new.self r a) (sym same)
    (went_unsaid g.O.Outlet.given g.O.Outlet.faults _ Due 0 1 c.args.self.now c.act.new.self c.report.new.self a (report_got a c.args.now stamped c.args.subscription) (c.in_ok-stamped.ensures.acted a.row.session).answered refl (report_made a c.args.now c.args.subscription there) (few_step (report_got a c.args.now stamped c.args.subscription) refl) c.in_ok-stamped.ensures.outlet)

pub returns-clause-went : goal.returns-clause-went
returns-clause-went g c a is there =
    let Due = λ (b : Account) (gots : List Got). Reports b.row.session c.args.now (c.args.subscription ∷ []) gots in
    let stamped = c.in_ok-stamped.stamped in
    let got = report_got a c.args.now stamped c.args.subscription in
    let those : c.as_slice.result.now ≡ c.in_ok-sent.sent = search rules in
    went_sent g.O.Outlet.given g.O.Outlet.faults _ Due 0 1 c.args.self.now (record { pass = c.act.new.self.pass; outlet = c.send_all.new.outlet }) c.report.new.self a got c.as_slice.result.now c.in_ok-sent.sent c.act.new.self.outlet c.send_all.result
    (c.in_ok-stamped.ensures.acted a.row.session).answered refl (report_made a c.args.now c.args.subscription there) (few_step (report_got a c.args.now stamped c.args.subscription) refl) c.in_ok-stamped.ensures.outlet those (report_sent a c.args.now stamped c.args.subscription c.in_ok-sent.sent (c.in_ok-sent.ensures.sent a is))
    c.send_all.ensures.all c.send_all.ensures.part c.send_all.ensures.link c.send_all.ensures.cause
    (reports a c.args.now stamped c.args.subscription) (report_stands a c.args.now stamped c.args.subscription c.report.new.self (c.in_ok-sent.ensures.stands a is))

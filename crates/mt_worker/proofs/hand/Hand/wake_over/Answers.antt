use Rattle.std.proofs.Common.{arith, ◌≡◌, ◌∙◌, ◌-◌, Err, List, ap, drop, length, rules, subst, sym, ℕ}
use Rattle.mt_worker.specs.Accounts.{Account, account_over}
use Rattle.mt_worker.specs.Due.{Reports, Resends, Wakes}
use Rattle.mt_worker.specs.Gots.{Got}
use Rattle.mt_worker.specs.Works.{WentOver}
use Rattle.mt_worker.proofs.Calls.{wakes_both}
use Rattle.mt_worker.proofs.Works.{over_failed, over_on}
use Rattle.mt_worker.proofs.hand.Hand.wake_over.Goals as goal

pub returns-in_err-resend-clause-went : goal.returns-in_err-resend-clause-went
returns-in_err-resend-clause-went g c a is =
    let Due = λ (b : Account) (gots : List Got). Wakes b c.args.now gots in
    let same : c.from_residual.result ≡ Err c.in_err-resend.field-0.0 = search rules in
    subst (λ r. WentOver g.O.Outlet.given g.O.Outlet.faults Due 0 4 c.args.self.now c.resend.new.self c.resend.new.seat r a) (sym same)
    (over_failed g.O.Outlet.given g.O.Outlet.faults _ _ (λ (b : Account) (gots : List Got). Resends b c.args.now gots) Due 0 1 0 4 c.args.self.now c.resend.new.self c.resend.new.seat c.resend.new.seat c.in_err-resend.field-0.0 a (omega arith) (omega arith) (c.in_err-resend.ensures.went a is))

pub returns-clause-went : goal.returns-clause-went
returns-clause-went g c a is =
    let first = c.in_ok-resend.ensures.went a is in
    let b = account_over a first.gots in
    let standing : c.standing.result ≡ length b.subscriptions = c.standing.ensures b first.stands in
    let at : c.saturating_sub-first.result ≡ length b.subscriptions - 3 = c.saturating_sub-first.ensures ∙ ap (λ (n : ℕ). n - 3) standing in
    over_on g.O.Outlet.given g.O.Outlet.faults _ (λ (d : Account) (gots : List Got). Resends d c.args.now gots) (λ (d : Account) (gots : List Got). Reports d.row.session c.args.now (drop c.saturating_sub-first.result d.subscriptions) gots) (λ (d : Account) (gots : List Got). Wakes d c.args.now gots)
    0 1 0 (length b.subscriptions - c.saturating_sub-first.result) 0 4 c.args.self.now c.resend.new.self c.report_from.new.self c.resend.new.seat c.report_from.new.seat c.report_from.result a first (c.report_from.ensures.went b first.stands) (omega arith) (omega (arith, at)) (λ ys rest. wakes_both a c.args.now c.saturating_sub-first.result first.gots ys first.did at rest)

use Rattle.std.proofs.Common.{arith, ap, length, ◌≡◌, ◌∙◌, ◌-◌, ◌+◌, ◌∷◌, [], Err, List, drop, refl, rules, subst, sym}
use Rattle.mt_worker.specs.Accounts.{Account, account_over}
use Rattle.mt_worker.specs.Due.{Reports}
use Rattle.mt_worker.specs.Gots.{Got}
use Rattle.mt_worker.specs.Works.{WentOver}
use Rattle.mt_worker.specs.declared.seat.Subscription.{Subscription}
use Rattle.mt_worker.proofs.Calls.{reports_both}
use Rattle.mt_worker.proofs.Made.{found_there}
use Rattle.mt_worker.proofs.Works.{over_failed, over_on, went_idle}
use Rattle.mt_worker.proofs.hand.Hand.+report_from.Goals as goal

pub returns-in_default-clause-went : goal.returns-in_default-clause-went
returns-in_default-clause-went g t c a is =
    let none : drop c.args.at a.subscriptions ≡ [] = c.in_default.ensures.found a is in
    went_idle g.O.Outlet.given g.O.Outlet.faults _ (λ (b : Account) (gots : List Got). Reports b.row.session c.args.now (drop c.args.at b.subscriptions) gots) 0 (length a.subscriptions - c.args.at) c.args.self.now c.args.seat.now a c.requires.own.2
    (subst (λ (l : List Subscription). Reports a.row.session c.args.now l []) (sym none) refl) is

pub returns-in_err-report-clause-went : goal.returns-in_err-report-clause-went
returns-in_err-report-clause-went g t c a is =
    let same : c.from_residual.result ≡ Err c.in_err-report.field-0.0 = search rules in
    let Due = λ (b : Account) (gots : List Got). Reports b.row.session c.args.now (drop c.args.at b.subscriptions) gots in
    let there = found_there a.subscriptions c.args.at c.in-Some.subscription (drop (c.args.at + 1) a.subscriptions) (c.in-Some.ensures.found a is) in
    let inside = c.in-Some.ensures.inside in
    let kept = ap length is.subscriptions in
    subst (λ r. WentOver g.O.Outlet.given g.O.Outlet.faults Due 0 (length a.subscriptions - c.args.at) c.args.self.now c.report.new.self c.report.new.seat r a) (sym same)
    (over_failed g.O.Outlet.given g.O.Outlet.faults _ _ _ Due 0 1 0 (length a.subscriptions - c.args.at) c.args.self.now c.report.new.self c.report.new.seat c.report.new.seat c.in_err-report.field-0.0 a (omega arith) (omega (arith, inside, kept)) (c.in_err-report.ensures.went a is there))

pub overflow_add-at : goal.overflow_add-at
overflow_add-at g t c =
    let inside = c.in-Some.ensures.inside in
    let small = c.args.seat.now.subscriptions.small in
    search (rules, inside, small)

pub returns-clause-went : goal.returns-clause-went
returns-clause-went g t c a is =
    let there = found_there a.subscriptions c.args.at c.in-Some.subscription (drop (c.args.at + 1) a.subscriptions) (c.in-Some.ensures.found a is) in
    let first = c.in_ok-report.ensures.went a is there in
    let b = account_over a first.gots in
    let inside = c.in-Some.ensures.inside in
    let kept = ap length is.subscriptions in
    let items : c.report.new.seat.subscriptions.items ≡ c.args.seat.now.subscriptions.items = search rules in
    let same : length b.subscriptions ≡ length a.subscriptions = ap length (sym first.stands.subscriptions ∙ items ∙ is.subscriptions) in
    over_on g.O.Outlet.given g.O.Outlet.faults _ (λ (d : Account) (gots : List Got). Reports d.row.session c.args.now (c.in-Some.subscription ∷ []) gots) (λ (d : Account) (gots : List Got). Reports d.row.session c.args.now (drop (c.args.at + 1) d.subscriptions) gots)
    (λ (d : Account) (gots : List Got). Reports d.row.session c.args.now (drop c.args.at d.subscriptions) gots)
    0 1 0 (length b.subscriptions - (c.args.at + 1)) 0 (length a.subscriptions - c.args.at) c.args.self.now c.report.new.self c.report_from.new.self c.report.new.seat c.report_from.new.seat c.report_from.result a first (c.report_from.ensures.went b first.stands) (omega arith) (omega (arith, inside, kept, same))
    (λ ys rest. reports_both a c.args.now c.args.at c.in-Some.subscription first.gots ys (c.in-Some.ensures.found a is) first.did rest)

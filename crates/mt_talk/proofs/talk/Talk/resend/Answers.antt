use Rattle.std.proofs.Common.{◌≡◌, List, IfOk, refl, subst, sym}
use Rattle.mt_exchange.specs.declared.exchange.Exchange.{Exchange}
use Rattle.mt_exchange.specs.Resending.{due_again, ended_by}
use Rattle.mt_talk.specs.declared.talk.Talk as code
use Rattle.mt_talk.proofs.Standing.{again_behind}
use Rattle.mt_talk.proofs.talk.Talk.resend.Goals as goal

pub returns-clause-datagrams : goal.returns-clause-datagrams
returns-clause-datagrams c = λ row t s.
    subst (λ (xs : List Exchange). IfOk c.resend.result (λ x. x.0 ≡ due_again c.args.now xs)) (sym s.open_ones) (c.resend.ensures.datagrams row s.happenings s.exchanges)

pub returns-clause-ends : goal.returns-clause-ends
returns-clause-ends c = λ row t s.
    subst (λ (xs : List Exchange). IfOk c.resend.result (λ x. x.1 ≡ ended_by c.args.now xs)) (sym s.open_ones) (c.resend.ensures.ends row s.happenings s.exchanges)

pub returns-clause-stands : goal.returns-clause-stands
returns-clause-stands c = λ row t s.
    let law = c.shown_runs.ensures in
    let later : code.Talk = record c.args.self.now { exchanges = c.resend.new.self } in
    again_behind law.arrivals law.messages law.more law.run_more c.resend.result c.args.self.now later row t c.args.now s refl refl (c.resend.ensures.stands row s.happenings s.exchanges)

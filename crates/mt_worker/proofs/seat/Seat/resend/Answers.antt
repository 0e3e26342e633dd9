use Rattle.std.proofs.Common.{◌∙◌, sym, subst}
use Rattle.mt_layer.specs.Keeping.{IsKeptOf}
use Rattle.mt_layer.specs.declared.session_talk.SessionTalk.{SessionTalk}
use Rattle.mt_worker.specs.Accounts.{still_standing}
use Rattle.mt_worker.proofs.Seats.{ok_is}
use Rattle.mt_worker.proofs.seat.Seat.resend.Goals as goal

pub returns-clause-stands : goal.returns-clause-stands
returns-clause-stands c a is =
    let kept : IsKeptOf c.end.new.self.talk a.row a.talk = subst (λ (t : SessionTalk). IsKeptOf t a.row a.talk) (sym c.end.ensures.same.0) is.talk in
    ok_is c.resend.result _ _
    (λ stands. record {
      session = c.end.ensures.same.1 ∙ is.session;
      talk = stands;
      subscriptions = c.end.ensures.standing ∙ (λ i. still_standing c.args.answer.now.fabric c.args.at.now c.args.ms (is.subscriptions i));
    })
    (c.resend.ensures.stands a.row a.talk kept)

pub returns-clause-sent : goal.returns-clause-sent
returns-clause-sent c a is =
    let kept : IsKeptOf c.end.new.self.talk a.row a.talk = subst (λ (t : SessionTalk). IsKeptOf t a.row a.talk) (sym c.end.ensures.same.0) is.talk in
    c.resend.ensures.sent a.row a.talk kept

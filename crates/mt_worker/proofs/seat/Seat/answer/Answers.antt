use Rattle.std.proofs.Common.{◌≡◌, ◌∙◌, ◌++◌, ap, sym, subst, List, Option, rules}
use Rattle.mt_layer.specs.Answering.{answer_by}
use Rattle.mt_layer.specs.Keeping.{IsKeptOf}
use Rattle.mt_layer.specs.Saying.{talk_answering}
use Rattle.mt_layer.specs.declared.answering.Answering.{Answering}
use Rattle.mt_layer.specs.declared.session_talk.SessionTalk.{SessionTalk}
use Rattle.mt_worker.specs.Accounts.{gained, still_standing}
use Rattle.mt_worker.specs.declared.seat.Subscription.{Subscription}
use Rattle.mt_worker.proofs.Seats.{ok_is}
use Rattle.mt_worker.proofs.seat.Seat.answer.Goals as goal

pub returns-clause-stands : goal.returns-clause-stands
returns-clause-stands c a is =
    let answer = c.args.answer.now in
    let ms = c.args.ms in
    let talk : c.gain.new.self.talk ≡ c.args.self.now.talk = c.in_ok-gain.ensures.same.0 ∙ c.end.ensures.same.0 in
    let session : c.gain.new.self.session ≡ a.row.session = c.in_ok-gain.ensures.same.1 ∙ c.end.ensures.same.1 ∙ is.session in
    let kept : IsKeptOf c.gain.new.self.talk a.row a.talk = subst (λ (t : SessionTalk). IsKeptOf t a.row a.talk) (sym talk) is.talk in
    let answering : c.into_parts-answering.result.0 ≡ c.args.pending.answering = search rules in
    let at : c.deref.result.now ≡ c.args.pending.at.items = search rules in
    let standing : c.gain.new.self.subscriptions.items ≡ still_standing answer.fabric c.args.pending.at.items ms a.subscriptions ++ gained answer.fabric answer.reply =
    c.in_ok-gain.ensures.gained ∙ ap (λ (l : List Subscription). l ++ gained answer.fabric answer.reply) (c.end.ensures.standing ∙ (λ i. still_standing answer.fabric (at i) ms (is.subscriptions i))) in
    ok_is c.answer.result _ _
    (λ stands. record {
      session = session;
      talk = subst (λ (o : Option Answering). IsKeptOf c.answer.new.self a.row (talk_answering a.row ms answer (answer_by ms answer.reply o) a.talk)) answering stands;
      subscriptions = standing;
    })
    (c.answer.ensures.stands a.row a.talk kept)

pub returns-clause-sent : goal.returns-clause-sent
returns-clause-sent c a is =
    let answer = c.args.answer.now in
    let talk : c.gain.new.self.talk ≡ c.args.self.now.talk = c.in_ok-gain.ensures.same.0 ∙ c.end.ensures.same.0 in
    let kept : IsKeptOf c.gain.new.self.talk a.row a.talk = subst (λ (t : SessionTalk). IsKeptOf t a.row a.talk) (sym talk) is.talk in
    let gives = c.answer.ensures.sent a.row a.talk kept in
    search (rules, gives)

use Rattle.std.proofs.Common.{◌≡◌, Ok, Err, ap, subst, sym}
use Rattle.mt_session.specs.declared.fault.SealFault.TheVariants.{Exhausted, TooLong}
use Rattle.mt_session.specs.declared.kept.Session.{Session}
use Rattle.mt_exchange.specs.declared.exchanges.Exchanges.{Exchanges}
use Rattle.mt_exchange.specs.Runs.{IsRunOf, IsSessionOf, answer_of, run}
use Rattle.mt_talk.specs.Talks.{refusal_in}
use Rattle.mt_talk.proofs.Standing.{answer_is}
use Rattle.mt_talk.proofs.talk.Talk.answer_refusal.Goals as goal

pub returns-in-Ok : goal.returns-in-Ok
returns-in-Ok c = λ row t s.
    let law = c.shown_runs.ensures in
    let runs : IsRunOf c.in_ok-exchanges.exchanges row s.happenings = subst (λ (x : Exchanges). IsRunOf x row s.happenings) (sym c.in_ok-exchanges.ensures) s.exchanges in
    let stands : IsSessionOf c.in_ok-session.session row s.happenings = subst (λ (x : Session). IsSessionOf x row s.happenings) (sym c.in_ok-session.ensures) s.session in
    ap refusal_in (answer_is law.arrivals law.messages c.args.self.now row t s c.args.key c.args.acknowledge c.args.payloads (Ok c.in-Ok.field-0) (c.in-Ok.ensures.sent row s.happenings runs stands))

pub returns-in-Err-Exhausted : goal.returns-in-Err-Exhausted
returns-in-Err-Exhausted c = λ row t s.
    let law = c.shown_runs.ensures in
    let runs : IsRunOf c.in_ok-exchanges.exchanges row s.happenings = subst (λ (x : Exchanges). IsRunOf x row s.happenings) (sym c.in_ok-exchanges.ensures) s.exchanges in
    let stands : IsSessionOf c.in_ok-session.session row s.happenings = subst (λ (x : Session). IsSessionOf x row s.happenings) (sym c.in_ok-session.ensures) s.session in
    let got : answer_of row (run row s.happenings) c.args.key c.args.acknowledge c.args.payloads ≡ Err c.in-Err-Exhausted.field-0 = c.in-Err-Exhausted.ensures.refused row s.happenings runs stands (λ q. cc) in
    let told : answer_of row (run row s.happenings) c.args.key c.args.acknowledge c.args.payloads ≡ Err Exhausted = cc in
    ap refusal_in (answer_is law.arrivals law.messages c.args.self.now row t s c.args.key c.args.acknowledge c.args.payloads (Err Exhausted) told)

pub returns-in-Err-TooLong : goal.returns-in-Err-TooLong
returns-in-Err-TooLong c = λ row t s.
    let law = c.shown_runs.ensures in
    let runs : IsRunOf c.in_ok-exchanges.exchanges row s.happenings = subst (λ (x : Exchanges). IsRunOf x row s.happenings) (sym c.in_ok-exchanges.ensures) s.exchanges in
    let stands : IsSessionOf c.in_ok-session.session row s.happenings = subst (λ (x : Session). IsSessionOf x row s.happenings) (sym c.in_ok-session.ensures) s.session in
    let got : answer_of row (run row s.happenings) c.args.key c.args.acknowledge c.args.payloads ≡ Err c.in-Err-TooLong.field-0 = c.in-Err-TooLong.ensures.refused row s.happenings runs stands (λ q. cc) in
    let told : answer_of row (run row s.happenings) c.args.key c.args.acknowledge c.args.payloads ≡ Err TooLong = cc in
    ap refusal_in (answer_is law.arrivals law.messages c.args.self.now row t s c.args.key c.args.acknowledge c.args.payloads (Err TooLong) told)

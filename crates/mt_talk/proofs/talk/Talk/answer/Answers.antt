use Rattle.std.proofs.Common.{◌≡◌, Ok, Err, ap, refl}
use Rattle.mt_session.specs.declared.fault.SealFault.TheVariants.{Exhausted, TooLong}
use Rattle.mt_exchange.specs.Runs.{answer_of, run}
use Rattle.mt_talk.specs.Talks.{sent_by}
use Rattle.mt_talk.specs.declared.talk.Talk as code
use Rattle.mt_talk.proofs.Standing.{answer_is, answered_behind, too_long_behind}
use Rattle.mt_talk.proofs.talk.Talk.answer.Goals as goal

pub returns-in-Ok-clause-sent : goal.returns-in-Ok-clause-sent
returns-in-Ok-clause-sent c = λ row t s.
    let law = c.shown_runs.ensures in
    ap sent_by (answer_is law.arrivals law.messages c.args.self.now row t s c.args.key c.args.acknowledge c.args.payloads (Ok c.in-Ok.sent) (c.in-Ok.ensures.sent row s.happenings s.exchanges s.session))

pub returns-in-Ok-clause-stands : goal.returns-in-Ok-clause-stands
returns-in-Ok-clause-stands c = λ row t s.
    let law = c.shown_runs.ensures in
    let later : code.Talk = record c.args.self.now { session = c.answer.new.session; exchanges = c.answer.new.self } in
    answered_behind law.arrivals law.messages law.more law.run_more c.args.self.now later row t c.args.key c.args.acknowledge c.args.payloads c.args.now (Ok c.in-Ok.sent) s
    (c.in-Ok.ensures.sent row s.happenings s.exchanges s.session) (λ q. cc)
    (c.in-Ok.ensures.session_stands row s.happenings s.exchanges s.session (λ q. cc) (λ q. cc)) (c.in-Ok.ensures.stands row s.happenings s.exchanges s.session (λ q. cc) (λ q. cc)) refl

pub returns-in-Err-Exhausted-clause-sent : goal.returns-in-Err-Exhausted-clause-sent
returns-in-Err-Exhausted-clause-sent c = λ row t s.
    let law = c.shown_runs.ensures in
    let got : answer_of row (run row s.happenings) c.args.key c.args.acknowledge c.args.payloads ≡ Err c.in-Err-Exhausted.field-0 = c.in-Err-Exhausted.ensures.refused row s.happenings s.exchanges s.session (λ q. cc) in
    let told : answer_of row (run row s.happenings) c.args.key c.args.acknowledge c.args.payloads ≡ Err Exhausted = cc in
    ap sent_by (answer_is law.arrivals law.messages c.args.self.now row t s c.args.key c.args.acknowledge c.args.payloads (Err Exhausted) told)

pub returns-in-Err-Exhausted-clause-stands : goal.returns-in-Err-Exhausted-clause-stands
returns-in-Err-Exhausted-clause-stands c = λ row t s.
    let law = c.shown_runs.ensures in
    let got : answer_of row (run row s.happenings) c.args.key c.args.acknowledge c.args.payloads ≡ Err c.in-Err-Exhausted.field-0 = c.in-Err-Exhausted.ensures.refused row s.happenings s.exchanges s.session (λ q. cc) in
    let told : answer_of row (run row s.happenings) c.args.key c.args.acknowledge c.args.payloads ≡ Err Exhausted = cc in
    let later : code.Talk = record c.args.self.now { session = c.answer.new.session; exchanges = c.answer.new.self } in
    answered_behind law.arrivals law.messages law.more law.run_more c.args.self.now later row t c.args.key c.args.acknowledge c.args.payloads c.args.now (Err Exhausted) s told (λ q. cc)
    (c.in-Err-Exhausted.ensures.session_stands row s.happenings s.exchanges s.session (λ q. cc) (λ q. cc)) (c.in-Err-Exhausted.ensures.stands row s.happenings s.exchanges s.session (λ q. cc) (λ q. cc)) refl

pub returns-in-Err-TooLong-clause-sent : goal.returns-in-Err-TooLong-clause-sent
returns-in-Err-TooLong-clause-sent c = λ row t s.
    let law = c.shown_runs.ensures in
    let got : answer_of row (run row s.happenings) c.args.key c.args.acknowledge c.args.payloads ≡ Err c.in-Err-TooLong.field-0 = c.in-Err-TooLong.ensures.refused row s.happenings s.exchanges s.session (λ q. cc) in
    let told : answer_of row (run row s.happenings) c.args.key c.args.acknowledge c.args.payloads ≡ Err TooLong = cc in
    ap sent_by (answer_is law.arrivals law.messages c.args.self.now row t s c.args.key c.args.acknowledge c.args.payloads (Err TooLong) told)

pub returns-in-Err-TooLong-clause-stands : goal.returns-in-Err-TooLong-clause-stands
returns-in-Err-TooLong-clause-stands c = λ row t s.
    let law = c.shown_runs.ensures in
    let got : answer_of row (run row s.happenings) c.args.key c.args.acknowledge c.args.payloads ≡ Err c.in-Err-TooLong.field-0 = c.in-Err-TooLong.ensures.refused row s.happenings s.exchanges s.session (λ q. cc) in
    let told : answer_of row (run row s.happenings) c.args.key c.args.acknowledge c.args.payloads ≡ Err TooLong = cc in
    let later : code.Talk = record c.args.self.now { session = c.answer.new.session; exchanges = c.answer.new.self } in
    too_long_behind law.arrivals law.messages c.args.self.now later row t c.args.key c.args.acknowledge c.args.payloads c.args.now s told
    (λ i. record c.args.self.now { session = c.in-Err-TooLong.ensures.kept i; exchanges = c.in-Err-TooLong.ensures.too_long (cc) i })

use Rattle.std.proofs.Common.{◌≡◌, Ok, Err, ap, refl}
use Rattle.mt_session.specs.declared.fault.SealFault.TheVariants.{Exhausted, TooLong}
use Rattle.mt_exchange.specs.Runs.{report_of, run}
use Rattle.mt_talk.specs.Talks.{sent_by}
use Rattle.mt_talk.specs.declared.talk.Talk as code
use Rattle.mt_talk.proofs.Standing.{refused_behind, report_is, reported_behind}
use Rattle.mt_talk.proofs.talk.Talk.report.Goals as goal

pub returns-in-Ok-clause-sent : goal.returns-in-Ok-clause-sent
returns-in-Ok-clause-sent c = λ row t s.
    let law = c.shown_runs.ensures in
    ap sent_by (report_is law.arrivals law.messages c.args.self.now row t s c.args.payloads (Ok c.in-Ok.sent) (c.in-Ok.ensures.sent row s.happenings s.exchanges s.session))

pub returns-in-Ok-clause-stands : goal.returns-in-Ok-clause-stands
returns-in-Ok-clause-stands c = λ row t s.
    let law = c.shown_runs.ensures in
    let later : code.Talk = record c.args.self.now { session = c.report.new.session; exchanges = c.report.new.self } in
    reported_behind law.arrivals law.messages law.more law.run_more c.args.self.now later row t c.args.subscription c.args.payloads c.args.now c.in-Ok.sent s
    (c.in-Ok.ensures.sent row s.happenings s.exchanges s.session)
    (c.in-Ok.ensures.session_stands row s.happenings s.exchanges s.session) (c.in-Ok.ensures.stands row s.happenings s.exchanges s.session) refl

pub returns-in-Err-Exhausted-clause-sent : goal.returns-in-Err-Exhausted-clause-sent
returns-in-Err-Exhausted-clause-sent c = λ row t s.
    let law = c.shown_runs.ensures in
    let got : report_of row (run row s.happenings) c.args.payloads ≡ Err c.in-Err-Exhausted.field-0 = c.in-Err-Exhausted.ensures.refused row s.happenings s.exchanges s.session (λ q. cc) in
    let told : report_of row (run row s.happenings) c.args.payloads ≡ Err Exhausted = cc in
    ap sent_by (report_is law.arrivals law.messages c.args.self.now row t s c.args.payloads (Err Exhausted) told)

pub returns-in-Err-Exhausted-clause-stands : goal.returns-in-Err-Exhausted-clause-stands
returns-in-Err-Exhausted-clause-stands c = λ row t s.
    let law = c.shown_runs.ensures in
    let got : report_of row (run row s.happenings) c.args.payloads ≡ Err c.in-Err-Exhausted.field-0 = c.in-Err-Exhausted.ensures.refused row s.happenings s.exchanges s.session (λ q. cc) in
    let told : report_of row (run row s.happenings) c.args.payloads ≡ Err Exhausted = cc in
    let later : code.Talk = record c.args.self.now { session = c.report.new.session; exchanges = c.report.new.self } in
    refused_behind law.arrivals law.messages c.args.self.now later row t c.args.subscription c.args.payloads c.args.now Exhausted s told
    (λ i. record c.args.self.now { session = c.in-Err-Exhausted.ensures.session_kept i; exchanges = c.in-Err-Exhausted.ensures.kept i })

pub returns-in-Err-TooLong-clause-sent : goal.returns-in-Err-TooLong-clause-sent
returns-in-Err-TooLong-clause-sent c = λ row t s.
    let law = c.shown_runs.ensures in
    let got : report_of row (run row s.happenings) c.args.payloads ≡ Err c.in-Err-TooLong.field-0 = c.in-Err-TooLong.ensures.refused row s.happenings s.exchanges s.session (λ q. cc) in
    let told : report_of row (run row s.happenings) c.args.payloads ≡ Err TooLong = cc in
    ap sent_by (report_is law.arrivals law.messages c.args.self.now row t s c.args.payloads (Err TooLong) told)

pub returns-in-Err-TooLong-clause-stands : goal.returns-in-Err-TooLong-clause-stands
returns-in-Err-TooLong-clause-stands c = λ row t s.
    let law = c.shown_runs.ensures in
    let got : report_of row (run row s.happenings) c.args.payloads ≡ Err c.in-Err-TooLong.field-0 = c.in-Err-TooLong.ensures.refused row s.happenings s.exchanges s.session (λ q. cc) in
    let told : report_of row (run row s.happenings) c.args.payloads ≡ Err TooLong = cc in
    let later : code.Talk = record c.args.self.now { session = c.report.new.session; exchanges = c.report.new.self } in
    refused_behind law.arrivals law.messages c.args.self.now later row t c.args.subscription c.args.payloads c.args.now TooLong s told
    (λ i. record c.args.self.now { session = c.in-Err-TooLong.ensures.session_kept i; exchanges = c.in-Err-TooLong.ensures.kept i })

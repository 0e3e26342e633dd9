-- What a report sends, and what has happened then.
use Rattle.std.proofs.Common.{◌≡◌, List, None, Ok, ap, sym, subst, ◌∙◌}
use Rattle.mt_session.specs.Opening.{Arrival}
use Rattle.mt_session.specs.Sessions.{Message, StandsFor}
use Rattle.mt_exchange.specs.Sending.{free_id, message, own_key, reliably, sealing}
use Rattle.mt_exchange.specs.Runs.{Run, after_report, report_of, reported, run}
use Rattle.mt_exchange.proofs.Reported.{arrivals-are, messages-are, next-is, open-is, report-is}
use Rattle.mt_exchange.proofs.Sealings.{run-more}
use Rattle.mt_exchange.proofs.exchanges.Exchanges.report.Goals as goal

pub returns-clause-sent : goal.returns-clause-sent
returns-clause-sent c = λ row happenings s t.
    let found = message (own_key c.in-Some.id) None (reliably c.in-Some-first.first c.first_and_rest-first.result.1) in
    let got : sealing row (run row happenings).messages found ≡ Ok c.in_ok-sent.sent = c.in_ok-sent.ensures.sent row (run row happenings).arrivals (run row happenings).messages t in
    let e : report_of row (run row happenings) c.args.payloads ≡ Ok c.in_ok-sent.sent =
    report-is row (run row happenings) c.args.subscription c.args.payloads c.args.now c.in-Some.id c.in-Some-first.first c.first_and_rest-first.result.1
    (c.in-Some.ensures ∙ (λ i. free_id (s.next_id i) (s.open_ones i))) (sym c.in-Some-first.is ∙ c.first_and_rest-first.ensures.first)
    c.first_and_rest-first.ensures.rest (Ok c.in_ok-sent.sent) got in
    e

pub returns-clause-stands : goal.returns-clause-stands
returns-clause-stands c = λ row happenings s t.
    let found = message (own_key c.in-Some.id) None (reliably c.in-Some-first.first c.first_and_rest-first.result.1) in
    let got : sealing row (run row happenings).messages found ≡ Ok c.in_ok-sent.sent = c.in_ok-sent.ensures.sent row (run row happenings).arrivals (run row happenings).messages t in
    let e : report_of row (run row happenings) c.args.payloads ≡ Ok c.in_ok-sent.sent =
    report-is row (run row happenings) c.args.subscription c.args.payloads c.args.now c.in-Some.id c.in-Some-first.first c.first_and_rest-first.result.1
    (c.in-Some.ensures ∙ (λ i. free_id (s.next_id i) (s.open_ones i))) (sym c.in-Some-first.is ∙ c.first_and_rest-first.ensures.first)
    c.first_and_rest-first.ensures.rest (Ok c.in_ok-sent.sent) got in
    let more = run-more row happenings (reported c.args.subscription c.args.payloads c.args.now) in
    record {
      open_ones =
          open-is row (run row happenings) c.args.subscription c.args.payloads c.args.now c.in-Some.id c.in-Some-first.first c.first_and_rest-first.result.1
          (c.in-Some.ensures ∙ (λ i. free_id (s.next_id i) (s.open_ones i))) (sym c.in-Some-first.is ∙ c.first_and_rest-first.ensures.first)
          c.first_and_rest-first.ensures.rest c.in_ok-sent.sent c.next_counter-counter.result c.args.self.now.table c.put.new.self c.fresh_exchange-x.result c.in_ok-x.x e
          s.open_ones (c.next_counter-counter.ensures row (run row happenings).arrivals (run row happenings).messages t)
          c.fresh_exchange-x.ensures c.in_ok-x.ensures c.in_ok-put.ensures.placed
          ∙ sym (ap (λ (z : Run). z.open_ones) more);
      next_id = next-is row (run row happenings) c.args.subscription c.args.payloads c.args.now c.in-Some.id c.in-Some-first.first c.first_and_rest-first.result.1
          (c.in-Some.ensures ∙ (λ i. free_id (s.next_id i) (s.open_ones i))) (sym c.in-Some-first.is ∙ c.first_and_rest-first.ensures.first)
          c.first_and_rest-first.ensures.rest c.in_ok-sent.sent c.id_after-self.result e c.id_after-self.ensures ∙ sym (ap (λ (z : Run). z.next_id) more);
    }

pub returns-clause-session_stands : goal.returns-clause-session_stands
returns-clause-session_stands c = λ row happenings s t.
    let found = message (own_key c.in-Some.id) None (reliably c.in-Some-first.first c.first_and_rest-first.result.1) in
    let got : sealing row (run row happenings).messages found ≡ Ok c.in_ok-sent.sent = c.in_ok-sent.ensures.sent row (run row happenings).arrivals (run row happenings).messages t in
    let e : report_of row (run row happenings) c.args.payloads ≡ Ok c.in_ok-sent.sent =
    report-is row (run row happenings) c.args.subscription c.args.payloads c.args.now c.in-Some.id c.in-Some-first.first c.first_and_rest-first.result.1
    (c.in-Some.ensures ∙ (λ i. free_id (s.next_id i) (s.open_ones i))) (sym c.in-Some-first.is ∙ c.first_and_rest-first.ensures.first)
    c.first_and_rest-first.ensures.rest (Ok c.in_ok-sent.sent) got in
    let more = run-more row happenings (reported c.args.subscription c.args.payloads c.args.now) in
    let Q : List Message → Type 0 = λ ms. StandsFor c.count.new.session row (run row happenings).arrivals ms in
    let R : Run → Type 0 = λ z. StandsFor c.count.new.session row z.arrivals z.messages in
    let run2 : Run = after_report row c.args.subscription c.args.payloads c.args.now (run row happenings) in
    let S : List Arrival → Type 0 = λ arrivals. StandsFor c.count.new.session row arrivals run2.messages in
    subst R (sym more) (subst S (arrivals-are row (run row happenings) c.args.subscription c.args.payloads c.args.now c.in-Some.id c.in-Some-first.first c.first_and_rest-first.result.1
    (c.in-Some.ensures ∙ (λ i. free_id (s.next_id i) (s.open_ones i))) (sym c.in-Some-first.is ∙ c.first_and_rest-first.ensures.first)
    c.first_and_rest-first.ensures.rest c.in_ok-sent.sent e)
    (subst Q (messages-are row (run row happenings) c.args.subscription c.args.payloads c.args.now c.in-Some.id c.in-Some-first.first c.first_and_rest-first.result.1
    (c.in-Some.ensures ∙ (λ i. free_id (s.next_id i) (s.open_ones i))) (sym c.in-Some-first.is ∙ c.first_and_rest-first.ensures.first)
    c.first_and_rest-first.ensures.rest (Ok c.in_ok-sent.sent) e) (c.count.ensures row (run row happenings).arrivals (run row happenings).messages found t got)))

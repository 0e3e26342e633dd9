-- What is sent, and what has happened then.
use Rattle.std.proofs.Common.{◌≡◌, List, Ok, Err, ap, sym, subst, ◌∙◌}
use Rattle.mt_session.specs.declared.fault.SealFault.TheVariants.{Exhausted}
use Rattle.mt_session.specs.Sessions.{Message, StandsFor}
use Rattle.mt_exchange.specs.Parts.{sending_by}
use Rattle.mt_exchange.specs.Sending.{message, sealing}
use Rattle.mt_exchange.specs.Runs.{Run, answer_of, answered, run}
use Rattle.mt_exchange.proofs.Answered.{answer-is, exhausted-any, messages-is, open-is, unsealed}
use Rattle.mt_exchange.proofs.Sealings.{run-more}
use Rattle.mt_exchange.proofs.exchanges.Exchanges.answer.Goals as goal

pub returns-in_ok-put-in-Ok-clause-stands : goal.returns-in_ok-put-in-Ok-clause-stands
returns-in_ok-put-in-Ok-clause-stands c = λ row happenings s t _ _.
    let found = message c.args.key c.args.acknowledge (sending_by c.chosen-sending.result.0) in
    let got : sealing row (run row happenings).messages found ≡ Ok c.in-Ok.sent = c.in-Ok.ensures.sent row (run row happenings).arrivals (run row happenings).messages t in
    let e : answer_of row (run row happenings) c.args.key c.args.acknowledge c.args.payloads ≡ Ok c.in-Ok.sent =
    answer-is row (run row happenings) c.args.key c.args.acknowledge c.args.payloads c.args.now c.args.self.now.table
    c.in_ok-x.x c.chosen-sending.result.1 (sending_by c.chosen-sending.result.0) c.next_counter-counter.result s.open_ones c.in_ok-x.ensures
    c.chosen-sending.ensures.sending c.chosen-sending.ensures.rest c.chosen-sending.ensures.kept
    (c.next_counter-counter.ensures row (run row happenings).arrivals (run row happenings).messages t) (Ok c.in-Ok.sent) got in
    let more = run-more row happenings (answered c.args.key c.args.acknowledge c.args.payloads c.args.now) in
    record {
      open_ones = open-is row (run row happenings) c.args.key c.args.acknowledge c.args.payloads c.args.now c.args.self.now.table
          c.in_ok-x.x c.chosen-sending.result.1 (sending_by c.chosen-sending.result.0) c.next_counter-counter.result s.open_ones c.in_ok-x.ensures
          c.chosen-sending.ensures.sending c.chosen-sending.ensures.rest c.chosen-sending.ensures.kept
          (c.next_counter-counter.ensures row (run row happenings).arrivals (run row happenings).messages t) (Ok c.in-Ok.sent) c.in_ok-x-in-Ok.x c.put.new.self tt e c.in_ok-x-in-Ok.ensures c.in_ok-put-in-Ok.ensures.placed ∙ sym (ap (λ (z : Run). z.open_ones) more);
      next_id = s.next_id ∙ sym (ap (λ (z : Run). z.next_id) more);
    }

pub returns-in_ok-put-in-Ok-clause-session_stands : goal.returns-in_ok-put-in-Ok-clause-session_stands
returns-in_ok-put-in-Ok-clause-session_stands c = λ row happenings s t _ _.
    let found = message c.args.key c.args.acknowledge (sending_by c.chosen-sending.result.0) in
    let got : sealing row (run row happenings).messages found ≡ Ok c.in-Ok.sent = c.in-Ok.ensures.sent row (run row happenings).arrivals (run row happenings).messages t in
    let e : answer_of row (run row happenings) c.args.key c.args.acknowledge c.args.payloads ≡ Ok c.in-Ok.sent =
    answer-is row (run row happenings) c.args.key c.args.acknowledge c.args.payloads c.args.now c.args.self.now.table
    c.in_ok-x.x c.chosen-sending.result.1 (sending_by c.chosen-sending.result.0) c.next_counter-counter.result s.open_ones c.in_ok-x.ensures
    c.chosen-sending.ensures.sending c.chosen-sending.ensures.rest c.chosen-sending.ensures.kept
    (c.next_counter-counter.ensures row (run row happenings).arrivals (run row happenings).messages t) (Ok c.in-Ok.sent) got in
    let more = run-more row happenings (answered c.args.key c.args.acknowledge c.args.payloads c.args.now) in
    let Q : List Message → Type 0 = λ ms. StandsFor c.count.new.session row (run row happenings).arrivals ms in
    let R : Run → Type 0 = λ z. StandsFor c.count.new.session row z.arrivals z.messages in
    subst R (sym more)
    (subst Q (messages-is row (run row happenings) c.args.key c.args.acknowledge c.args.payloads c.args.now c.args.self.now.table
    c.in_ok-x.x c.chosen-sending.result.1 (sending_by c.chosen-sending.result.0) c.next_counter-counter.result s.open_ones c.in_ok-x.ensures
    c.chosen-sending.ensures.sending c.chosen-sending.ensures.rest c.chosen-sending.ensures.kept
    (c.next_counter-counter.ensures row (run row happenings).arrivals (run row happenings).messages t) (Ok c.in-Ok.sent) e) (c.count.ensures row (run row happenings).arrivals (run row happenings).messages found t got))

pub returns-in_ok-put-in-Err-Exhausted-clause-stands : goal.returns-in_ok-put-in-Err-Exhausted-clause-stands
returns-in_ok-put-in-Err-Exhausted-clause-stands c = λ row happenings s t _ _.
    let found = message c.args.key c.args.acknowledge (sending_by c.chosen-sending.result.0) in
    let got : sealing row (run row happenings).messages found ≡ Err c.in-Err-Exhausted.field-0 =
    c.in-Err-Exhausted.ensures.refused row (run row happenings).arrivals (run row happenings).messages t (λ q. cc) in
    let told : sealing row (run row happenings).messages found ≡ Err Exhausted = cc in
    let e : answer_of row (run row happenings) c.args.key c.args.acknowledge c.args.payloads ≡ Err Exhausted =
    answer-is row (run row happenings) c.args.key c.args.acknowledge c.args.payloads c.args.now c.args.self.now.table
    c.in_ok-x.x c.chosen-sending.result.1 (sending_by c.chosen-sending.result.0) c.next_counter-counter.result s.open_ones c.in_ok-x.ensures
    c.chosen-sending.ensures.sending c.chosen-sending.ensures.rest c.chosen-sending.ensures.kept
    (c.next_counter-counter.ensures row (run row happenings).arrivals (run row happenings).messages t) (Err Exhausted) told in
    let more = run-more row happenings (answered c.args.key c.args.acknowledge c.args.payloads c.args.now) in
    record {
      open_ones =
          open-is row (run row happenings) c.args.key c.args.acknowledge c.args.payloads c.args.now c.args.self.now.table
          c.in_ok-x.x c.chosen-sending.result.1 (sending_by c.chosen-sending.result.0) c.next_counter-counter.result s.open_ones c.in_ok-x.ensures
          c.chosen-sending.ensures.sending c.chosen-sending.ensures.rest c.chosen-sending.ensures.kept
          (c.next_counter-counter.ensures row (run row happenings).arrivals (run row happenings).messages t) (Err Exhausted) c.behind_exhausted-x.result c.put-in-Err-Exhausted.new.self tt e
          (c.behind_exhausted-x.ensures ∙ exhausted-any (sending_by c.chosen-sending.result.0) c.next_counter-counter.result c.args.now c.chosen-sending.result.1)
          c.in_ok-put-in-Err-Exhausted.ensures.placed
          ∙ sym (ap (λ (z : Run). z.open_ones) more);
      next_id = s.next_id ∙ sym (ap (λ (z : Run). z.next_id) more);
    }

pub returns-in_ok-put-in-Err-Exhausted-clause-session_stands : goal.returns-in_ok-put-in-Err-Exhausted-clause-session_stands
returns-in_ok-put-in-Err-Exhausted-clause-session_stands c = λ row happenings s t _ _.
    let found = message c.args.key c.args.acknowledge (sending_by c.chosen-sending.result.0) in
    let got : sealing row (run row happenings).messages found ≡ Err c.in-Err-Exhausted.field-0 =
    c.in-Err-Exhausted.ensures.refused row (run row happenings).arrivals (run row happenings).messages t (λ q. cc) in
    let told : sealing row (run row happenings).messages found ≡ Err Exhausted = cc in
    let e : answer_of row (run row happenings) c.args.key c.args.acknowledge c.args.payloads ≡ Err Exhausted =
    answer-is row (run row happenings) c.args.key c.args.acknowledge c.args.payloads c.args.now c.args.self.now.table
    c.in_ok-x.x c.chosen-sending.result.1 (sending_by c.chosen-sending.result.0) c.next_counter-counter.result s.open_ones c.in_ok-x.ensures
    c.chosen-sending.ensures.sending c.chosen-sending.ensures.rest c.chosen-sending.ensures.kept
    (c.next_counter-counter.ensures row (run row happenings).arrivals (run row happenings).messages t) (Err Exhausted) told in
    let more = run-more row happenings (answered c.args.key c.args.acknowledge c.args.payloads c.args.now) in
    let Q : List Message → Type 0 = λ ms. StandsFor c.args.session.now row (run row happenings).arrivals ms in
    let R : Run → Type 0 = λ z. StandsFor c.args.session.now row z.arrivals z.messages in
    subst R (sym more)
    (subst Q (sym (unsealed (run row happenings).messages found Exhausted) ∙ messages-is row (run row happenings) c.args.key c.args.acknowledge c.args.payloads c.args.now c.args.self.now.table
    c.in_ok-x.x c.chosen-sending.result.1 (sending_by c.chosen-sending.result.0) c.next_counter-counter.result s.open_ones c.in_ok-x.ensures
    c.chosen-sending.ensures.sending c.chosen-sending.ensures.rest c.chosen-sending.ensures.kept
    (c.next_counter-counter.ensures row (run row happenings).arrivals (run row happenings).messages t) (Err Exhausted) e) t)

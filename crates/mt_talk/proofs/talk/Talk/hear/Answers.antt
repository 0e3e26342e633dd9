use Rattle.std.proofs.Common.{◌≡◌, false, true, List, Some, Result, Ok, Err, OnErr, ap, subst, sym, ◌∙◌}
use Rattle.mt_session.specs.declared.kept.Session.{Session}
use Rattle.mt_session.specs.declared.opening.Dropped.{Dropped}
use Rattle.mt_session.specs.Opening.{Arrival, arrival}
use Rattle.mt_exchange.specs.declared.exchange.Exchange.{Exchange}
use Rattle.mt_exchange.specs.Receiving.{taken, taken_by}
use Rattle.mt_exchange.specs.Runs.{run}
use Rattle.mt_talk.specs.Hearing.{IsHeardInPart, after_received, fresh_by, received_in, said_by}
use Rattle.mt_talk.specs.Talks.{IsTalkOf}
use Rattle.mt_talk.specs.declared.talk.Talk as code
use Rattle.mt_talk.proofs.Standing.{again_is, heard_live, heard_waiting, received_is, said_is, taken_in_part, waits_in_part}
use Rattle.mt_talk.proofs.talk.Talk.hear.Goals as goal

pub returns-then-not-live-clause-stands : goal.returns-then-not-live-clause-stands
returns-then-not-live-clause-stands c = λ row t s.
    let law = c.shown_runs.ensures in
    let r = run row s.happenings in
    let waits : c.args.live ≡ false = cc in
    heard_waiting law.arrivals law.messages law.more law.run_more c.args.self.now c.unseal.new.self row t c.args.live c.args.from (arrival c.in-Ok.opened) (received_in row t c.args.datagram.now) s
    waits (received_is law.arrivals law.messages c.args.self.now row t s c.args.datagram.now (Ok (arrival c.in-Ok.opened)) (c.in-Ok.ensures.answer row r.arrivals r.messages s.session))
    (c.in-Ok.ensures.stands row r.arrivals r.messages s.session)

pub returns-then-not-live-clause-fresh : goal.returns-then-not-live-clause-fresh
returns-then-not-live-clause-fresh c = λ row t s.
    let law = c.shown_runs.ensures in
    let r = run row s.happenings in
    ap fresh_by (received_is law.arrivals law.messages c.args.self.now row t s c.args.datagram.now (Ok (arrival c.in-Ok.opened)) (c.in-Ok.ensures.answer row r.arrivals r.messages s.session))

pub returns-in_ok-heard-in-Ok-clause-heard : goal.returns-in_ok-heard-in-Ok-clause-heard
returns-in_ok-heard-in-Ok-clause-heard c = λ row t s.
    let law = c.shown_runs.ensures in
    let r = run row s.happenings in
    let lives : c.args.live ≡ true = cc in
    said_is row t c.args.live (arrival c.in-Ok.opened) (received_in row t c.args.datagram.now) (said_by c.in_ok-heard-in-Ok.heard) (taken_by c.in_ok-turn-in-Ok.turn) lives
    (received_is law.arrivals law.messages c.args.self.now row t s c.args.datagram.now (Ok (arrival c.in-Ok.opened)) (c.in-Ok.ensures.answer row r.arrivals r.messages s.session))
    c.in_ok-heard-in-Ok.ensures
    (c.in_ok-turn-in-Ok.ensures.turn row s.happenings s.exchanges ∙ ap (λ (xs : List Exchange). taken xs (arrival c.in-Ok.opened)) (sym s.open_ones))

pub returns-in_ok-heard-in-Ok-clause-fresh : goal.returns-in_ok-heard-in-Ok-clause-fresh
returns-in_ok-heard-in-Ok-clause-fresh c = λ row t s.
    let law = c.shown_runs.ensures in
    let r = run row s.happenings in
    ap fresh_by (received_is law.arrivals law.messages c.args.self.now row t s c.args.datagram.now (Ok (arrival c.in-Ok.opened)) (c.in-Ok.ensures.answer row r.arrivals r.messages s.session))

pub returns-in-Err-clause-heard : goal.returns-in-Err-clause-heard
returns-in-Err-clause-heard c = λ row t s.
    let law = c.shown_runs.ensures in
    let r = run row s.happenings in
    again_is row t c.args.live c.in-Err.dropped (received_in row t c.args.datagram.now) (said_by c.heard_again.result)
    (received_is law.arrivals law.messages c.args.self.now row t s c.args.datagram.now (Err c.in-Err.dropped) (c.in-Err.ensures.answer row r.arrivals r.messages s.session)) c.heard_again.ensures

pub returns-in-Err-clause-fresh : goal.returns-in-Err-clause-fresh
returns-in-Err-clause-fresh c = λ row t s.
    let law = c.shown_runs.ensures in
    let r = run row s.happenings in
    ap fresh_by (received_is law.arrivals law.messages c.args.self.now row t s c.args.datagram.now (Err c.in-Err.dropped) (c.in-Err.ensures.answer row r.arrivals r.messages s.session))

pub returns-in-Err-clause-stands : goal.returns-in-Err-clause-stands
returns-in-Err-clause-stands c = λ row t s.
    let law = c.shown_runs.ensures in
    let r = run row s.happenings in
    let later : code.Talk = record c.args.self.now { session = c.unseal.new.self } in
    subst (λ (x : Result Arrival Dropped). IsTalkOf later row (after_received c.args.live c.args.from x t))
    (received_is law.arrivals law.messages c.args.self.now row t s c.args.datagram.now (Err c.in-Err.dropped) (c.in-Err.ensures.answer row r.arrivals r.messages s.session))
    (subst (λ (x : Session). IsTalkOf (record c.args.self.now { session = x }) row t) (sym c.in-Err.ensures.dropped) s)

pub returns-in_ok-heard-in-Ok-clause-stands : goal.returns-in_ok-heard-in-Ok-clause-stands
returns-in_ok-heard-in-Ok-clause-stands c = λ row t s.
    let law = c.shown_runs.ensures in
    let r = run row s.happenings in
    let lives : c.args.live ≡ true = cc in
    heard_live law.arrivals law.messages law.more law.run_more c.args.self.now c.unseal.new.self c.receive.new.self row t c.args.live c.args.from (arrival c.in-Ok.opened) (received_in row t c.args.datagram.now) s
    lives (received_is law.arrivals law.messages c.args.self.now row t s c.args.datagram.now (Ok (arrival c.in-Ok.opened)) (c.in-Ok.ensures.answer row r.arrivals r.messages s.session))
    (c.in-Ok.ensures.stands row r.arrivals r.messages s.session) (c.in_ok-turn-in-Ok.ensures.stands row s.happenings s.exchanges)

on_err : {A E : Type 0} (result : Result A E) (P : Type 0) → P → OnErr result P
on_err (Ok x) P p = tt
on_err (Err e) P p = p

pub returns-in_err-turn-in-Ok-clause-counts : goal.returns-in_err-turn-in-Ok-clause-counts
returns-in_err-turn-in-Ok-clause-counts c = λ row t s.
    let law = c.shown_runs.ensures in
    let r = run row s.happenings in
    let later : code.Talk = record c.args.self.now { session = c.unseal.new.self; exchanges = c.receive.new.self; latest = Some c.args.from } in
    on_err c.from_residual.result (IsHeardInPart later row c.args.from c.args.datagram.now t)
    (waits_in_part law.arrivals law.messages law.more law.run_more c.args.self.now c.unseal.new.self c.receive.new.self row t c.args.from c.args.datagram.now (arrival c.in-Ok.opened) s
    (received_is law.arrivals law.messages c.args.self.now row t s c.args.datagram.now (Ok (arrival c.in-Ok.opened)) (c.in-Ok.ensures.answer row r.arrivals r.messages s.session))
    (c.in-Ok.ensures.stands row r.arrivals r.messages s.session) c.in_err-turn-in-Ok.ensures.kept)

pub returns-in_err-heard-in-Ok-clause-counts : goal.returns-in_err-heard-in-Ok-clause-counts
returns-in_err-heard-in-Ok-clause-counts c = λ row t s.
    let law = c.shown_runs.ensures in
    let r = run row s.happenings in
    let later : code.Talk = record c.args.self.now { session = c.unseal.new.self; exchanges = c.receive.new.self; latest = Some c.args.from } in
    on_err c.from_residual-in_err-heard-in-Ok.result (IsHeardInPart later row c.args.from c.args.datagram.now t)
    (taken_in_part law.arrivals law.messages law.more law.run_more c.args.self.now c.unseal.new.self c.receive.new.self row t c.args.from c.args.datagram.now (arrival c.in-Ok.opened) s
    (received_is law.arrivals law.messages c.args.self.now row t s c.args.datagram.now (Ok (arrival c.in-Ok.opened)) (c.in-Ok.ensures.answer row r.arrivals r.messages s.session))
    (c.in-Ok.ensures.stands row r.arrivals r.messages s.session) (c.in_ok-turn-in-Ok.ensures.stands row s.happenings s.exchanges))

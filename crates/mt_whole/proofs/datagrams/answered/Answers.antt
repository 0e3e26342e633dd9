use Rattle.std.proofs.Common.{None, Some, Result, refl, sym, ap, subst, ◌∙◌}
use Rattle.mt_im.specs.declared.fault.ImFault.{ImFault}
use Rattle.mt_model.specs.declared.messages.message.Request.{Request}
use Rattle.mt_talk.specs.Hearing.{answers, asks, confirms, ends, said_by}
use Rattle.mt_talk.specs.declared.hearing.Heard.{Heard}
use Rattle.mt_interactions.specs.mt_machine.Lines.{action_of}
use Rattle.mt_interactions.specs.mt_ledger.Behind.{acts}
use Rattle.mt_interactions.specs.mt_runs.Datagrams.{actor_on, payloads_over}
use Rattle.mt_interactions.specs.Plan.{IsDone}
use Rattle.mt_whole.specs.Plan.{IsAnswered, given_to}
use Rattle.mt_whole.proofs.Planned.{answered_with, answering}
use Rattle.mt_whole.proofs.datagrams.answered.Goals as goal

pub returns-in_ok-pass-in-Nothing : goal.returns-in_ok-pass-in-Nothing
returns-in_ok-pass-in-Nothing g c =
    let verdicts = c.args.verdicts.now in
    let whole = c.args.whole.now in
    let given = given_to whole (g.V.Verdicts.roots verdicts) (g.V.Verdicts.csrs verdicts) (g.V.Verdicts.joins verdicts) in
    let plan = c.in_ok-pass-in-Nothing.ensures in
    subst (λ (heard : Heard). IsAnswered given whole.interactions.state whole.interactions.ledger c.args.id c.args.ms (said_by heard) (None, c.in_ok-pass-in-Nothing.field-0)) (sym c.in-Nothing.is)
    (record { answer = refl; state = plan.state; ledger = plan.ledger; planned = plan.planned })

pub returns-in_ok-payloads-in-Asks : goal.returns-in_ok-payloads-in-Asks
returns-in_ok-payloads-in-Asks g c =
    let verdicts = c.args.verdicts.now in
    let whole = c.args.whole.now in
    let given = given_to whole (g.V.Verdicts.roots verdicts) (g.V.Verdicts.csrs verdicts) (g.V.Verdicts.joins verdicts) in
    let ms = c.args.ms in
    let s = whole.interactions.state in
    let l = whole.interactions.ledger in
    let id = c.args.id in
    let key = c.in-Asks.key in
    let acknowledge = c.in-Asks.acknowledge in
    let timed = c.in-Asks.timed in
    let outcome = c.in_ok-payloads-in-Asks.outcome in
    let payloads = c.in_ok-payloads-in-Asks.payloads in
    let asked = c.in_ok-asked-in-Asks.ensures.asks in
    let made = c.in_ok-payloads-in-Asks.ensures in
    subst (λ (heard : Heard). IsAnswered given s l id ms (said_by heard) (Some c.answering_with.result, outcome)) (sym c.in-Asks.is)
    (answered_with given s l id ms (asks key acknowledge c.in-Asks.opcode c.in-Asks.payload.now timed) key acknowledge payloads c.answering_with.result outcome c.answering_with.ensures
    (ap (answering key acknowledge) (made.payloads ∙ ap (payloads_over given s.node l id timed ms) asked))
    (subst (λ (x : Result Request ImFault). IsDone given s l (acts (action_of (actor_on id) timed x)) ms outcome) asked made.outcome))

pub returns-in_ok-payloads-in-Confirms : goal.returns-in_ok-payloads-in-Confirms
returns-in_ok-payloads-in-Confirms g c =
    let verdicts = c.args.verdicts.now in
    let whole = c.args.whole.now in
    let given = given_to whole (g.V.Verdicts.roots verdicts) (g.V.Verdicts.csrs verdicts) (g.V.Verdicts.joins verdicts) in
    let ms = c.args.ms in
    let s = whole.interactions.state in
    let l = whole.interactions.ledger in
    let id = c.args.id in
    let key = c.in-Confirms.key in
    let acknowledge = c.in-Confirms.acknowledge in
    let outcome = c.in_ok-payloads-in-Confirms.outcome in
    let made = c.in_ok-payloads-in-Confirms.ensures in
    subst (λ (heard : Heard). IsAnswered given s l id ms (said_by heard) (Some c.answering_with-in-Confirms.result, outcome)) (sym c.in-Confirms.is)
    (answered_with given s l id ms (confirms key acknowledge c.in-Confirms.subscription) key acknowledge c.in_ok-payloads-in-Confirms.payloads c.answering_with-in-Confirms.result outcome c.answering_with-in-Confirms.ensures
    (ap (answering key acknowledge) made.payloads) made.outcome)

pub returns-in_ok-outcome-in-Ends : goal.returns-in_ok-outcome-in-Ends
returns-in_ok-outcome-in-Ends g c =
    let verdicts = c.args.verdicts.now in
    let whole = c.args.whole.now in
    let given = given_to whole (g.V.Verdicts.roots verdicts) (g.V.Verdicts.csrs verdicts) (g.V.Verdicts.joins verdicts) in
    let ms = c.args.ms in
    let s = whole.interactions.state in
    let l = whole.interactions.ledger in
    let id = c.args.id in
    let key = c.in-Ends.key in
    let acknowledge = c.in-Ends.acknowledge in
    let outcome = c.in_ok-outcome-in-Ends.outcome in
    subst (λ (heard : Heard). IsAnswered given s l id ms (said_by heard) (Some c.answering_with-in-Ends.result, outcome)) (sym c.in-Ends.is)
    (answered_with given s l id ms (ends key acknowledge c.in-Ends.subscription) key acknowledge c.new-none.result c.answering_with-in-Ends.result outcome c.answering_with-in-Ends.ensures
    (ap (answering key acknowledge) c.new-none.ensures) c.in_ok-outcome-in-Ends.ensures)

pub returns-in_ok-outcome-in-Answers : goal.returns-in_ok-outcome-in-Answers
returns-in_ok-outcome-in-Answers g c =
    let verdicts = c.args.verdicts.now in
    let whole = c.args.whole.now in
    let given = given_to whole (g.V.Verdicts.roots verdicts) (g.V.Verdicts.csrs verdicts) (g.V.Verdicts.joins verdicts) in
    let ms = c.args.ms in
    let s = whole.interactions.state in
    let l = whole.interactions.ledger in
    let id = c.args.id in
    let key = c.in-Answers.key in
    let acknowledge = c.in-Answers.acknowledge in
    let payloads = c.in-Answers.payloads in
    let outcome = c.in_ok-outcome-in-Answers.outcome in
    subst (λ (heard : Heard). IsAnswered given s l id ms (said_by heard) (Some c.answering_with-in-Answers.result, outcome)) (sym c.in-Answers.is)
    (answered_with given s l id ms (answers key acknowledge payloads) key acknowledge payloads c.answering_with-in-Answers.result outcome c.answering_with-in-Answers.ensures refl c.in_ok-outcome-in-Answers.ensures)

use Rattle.std.proofs.Common.{◌≡◌, sym, subst}
use Rattle.mt_im.specs.Reading.{request_in}
use Rattle.mt_interactions.specs.mt_machine.Lines.{line_actor}
use Rattle.mt_interactions.specs.mt_machine.State.{State}
use Rattle.mt_model.specs.declared.texts.recording.Event.{Event}
use Rattle.mt_interactions.specs.mt_ledger.Ledger.{Ledger}
use Rattle.mt_interactions.specs.mt_runs.Lines.{sent_asked}
use Rattle.mt_interactions.specs.Plan.{IsLine, IsTick}
use Rattle.mt_whole.specs.Plan.{IsPlan, given_to}
use Rattle.mt_whole.proofs.Planned.{asked_as_planned, tick_as_planned}
use Rattle.mt_whole.proofs.whole.Whole.plan.Goals as goal

pub returns-in_ok-sent-in-Ask-clause-plan : goal.returns-in_ok-sent-in-Ask-clause-plan
returns-in_ok-sent-in-Ask-clause-plan g c w is =
    let verdicts = c.args.verdicts.now in
    let whole = c.args.self.now in
    let given = given_to whole (g.V.Verdicts.roots verdicts) (g.V.Verdicts.csrs verdicts) (g.V.Verdicts.joins verdicts) in
    let at = c.in-Ask in
    let actor = line_actor at.fabric at.node at.cats in
    let sent = c.in_ok-sent-in-Ask.sent in
    let interactions = c.in_ok-sent-in-Ask.interactions in
    let sends = subst (λ (x : State × Ledger). sent ≡ sent_asked given x.0 x.1 actor at.ms (request_in at.opcode at.payload)) (λ i. (is.state i, is.ledger i)) c.in_ok-sent-in-Ask.ensures.sent in
    let line = subst (λ (x : State × Ledger). IsLine given x.0 x.1 at.ms actor (request_in at.opcode at.payload) interactions) (λ i. (is.state i, is.ledger i)) c.in_ok-sent-in-Ask.ensures.outcome in
    subst (λ (event : Event). IsPlan given w event c.plainly.result) (sym at.is)
    (asked_as_planned given w at.ms at.fabric at.node at.cats at.opcode at.payload sent interactions c.plainly.result c.plainly.ensures sends line)

pub returns-in_ok-interactions-in-Tick-clause-plan : goal.returns-in_ok-interactions-in-Tick-clause-plan
returns-in_ok-interactions-in-Tick-clause-plan g c w is =
    let verdicts = c.args.verdicts.now in
    let whole = c.args.self.now in
    let given = given_to whole (g.V.Verdicts.roots verdicts) (g.V.Verdicts.csrs verdicts) (g.V.Verdicts.joins verdicts) in
    let at = c.in-Tick in
    let interactions = c.in_ok-interactions-in-Tick.interactions in
    let tick = subst (λ (x : State × Ledger). IsTick given x.0 x.1 at.ms interactions) (λ i. (is.state i, is.ledger i)) c.in_ok-interactions-in-Tick.ensures in
    subst (λ (event : Event). IsPlan given w event c.plainly-in-Tick.result) (sym at.is)
    (tick_as_planned given w at.ms c.new-none.result interactions c.plainly-in-Tick.result c.plainly-in-Tick.ensures c.new-none.ensures tick)

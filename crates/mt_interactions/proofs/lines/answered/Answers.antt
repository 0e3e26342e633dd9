use Rattle.std.proofs.Common.{◌≡◌, ℕ, List, Ok, Option, ap, refl, subst, sym, unwrap_or, ◌∙◌}
use Rattle.mt_model.specs.declared.node.action.Action.TheVariants.{Ask}
use Rattle.mt_model.specs.declared.node.action.PlainDeadline.{PlainDeadline}
use Rattle.mt_node.specs.mt_machine.Lines.{deadline_of}
use Rattle.mt_node.specs.Plan.{IsPlan}
use Rattle.mt_interactions.specs.Configured.{ConfiguredInteractions, given_to}
use Rattle.mt_interactions.specs.Plan.{IsLine, IsPlanned, left_without, told_to_commit}
use Rattle.mt_interactions.specs.declared.outcome.InteractionOutcome.{InteractionOutcome}
use Rattle.mt_interactions.proofs.Planned.{request_line, request_sent}
use Rattle.mt_interactions.proofs.lines.answered.Goals as goal

pub returns-clause-sent : goal.returns-clause-sent
returns-clause-sent g c =
    let verdicts = c.args.verdicts.now in
    let roots = g.V.Verdicts.roots verdicts in
    let csrs = g.V.Verdicts.csrs verdicts in
    let rows = g.V.Verdicts.joins verdicts in
    let kept : ConfiguredInteractions = c.args.interactions.now in
    let ms = c.args.ms in
    let actor = c.args.actor.now in
    let asking = c.args.asking.now in
    let request = c.args.request.now in
    let node = c.in_ok-node.node in
    let inside = c.interactions.inside in
    let timed : c.deadline_of-timed.result ≡ deadline_of asking inside.deadlines = c.deadline_of-timed.ensures ∙ ap (deadline_of asking) c.as_slice.ensures in
    let here : ConfiguredInteractions = record { state = record { node = inside.node.state; deadlines = inside.deadlines }; ledger = record { history = inside.history; subs = inside.subs }; config = inside.node.config; durable = inside.node.durable } in
    let given = given_to kept roots csrs rows in
    let plan : IsPlan given kept.state.node (Ask actor request (deadline_of asking kept.state.deadlines)) ms node =
    subst (λ (k : ConfiguredInteractions). IsPlan (given_to k roots csrs rows) k.state.node (Ask actor request (deadline_of asking k.state.deadlines)) ms node) c.interactions.view_is
    (subst (λ (d : Option ℕ). IsPlan (given_to here roots csrs rows) here.state.node (Ask actor request d) ms node) timed c.in_ok-node.ensures) in
    request_sent given kept.state kept.ledger ms actor asking request c.in_ok-sent.sent node.reply c.requires.asks plan.reply c.in_ok-sent.ensures.sent

pub outcome-requires : goal.outcome-requires
outcome-requires g c =
    let verdicts = c.args.verdicts.now in
    let roots = g.V.Verdicts.roots verdicts in
    let csrs = g.V.Verdicts.csrs verdicts in
    let rows = g.V.Verdicts.joins verdicts in
    let kept : ConfiguredInteractions = c.args.interactions.now in
    let ms = c.args.ms in
    let asking = c.args.asking.now in
    let request = c.args.request.now in
    let node = c.in_ok-node.node in
    let inside = c.interactions.inside in
    let actor = c.args.actor.now in
    let timed : c.deadline_of-timed.result ≡ deadline_of asking inside.deadlines = c.deadline_of-timed.ensures ∙ ap (deadline_of asking) c.as_slice.ensures in
    let here : ConfiguredInteractions = record { state = record { node = inside.node.state; deadlines = inside.deadlines }; ledger = record { history = inside.history; subs = inside.subs }; config = inside.node.config; durable = inside.node.durable } in (
      given_to kept roots csrs rows,
      (
        Ask actor request (deadline_of asking kept.state.deadlines),
        (
          ms,
          subst (λ (k : ConfiguredInteractions). IsPlan (given_to k roots csrs rows) k.state.node (Ask actor request (deadline_of asking k.state.deadlines)) ms node) c.interactions.view_is
              (subst (λ (d : Option ℕ). IsPlan (given_to here roots csrs rows) here.state.node (Ask actor request d) ms node) timed c.in_ok-node.ensures),
        ),
      ),
    )

pub returns-clause-outcome : goal.returns-clause-outcome
returns-clause-outcome g c =
    let verdicts = c.args.verdicts.now in
    let roots = g.V.Verdicts.roots verdicts in
    let csrs = g.V.Verdicts.csrs verdicts in
    let rows = g.V.Verdicts.joins verdicts in
    let kept : ConfiguredInteractions = c.args.interactions.now in
    let ms = c.args.ms in
    let actor = c.args.actor.now in
    let asking = c.args.asking.now in
    let request = c.args.request.now in
    let node = c.in_ok-node.node in
    let inside = c.interactions.inside in
    let timed : c.deadline_of-timed.result ≡ deadline_of asking inside.deadlines = c.deadline_of-timed.ensures ∙ ap (deadline_of asking) c.as_slice.ensures in
    let here : ConfiguredInteractions = record { state = record { node = inside.node.state; deadlines = inside.deadlines }; ledger = record { history = inside.history; subs = inside.subs }; config = inside.node.config; durable = inside.node.durable } in
    let given = given_to kept roots csrs rows in
    let plan : IsPlan given kept.state.node (Ask actor request (deadline_of asking kept.state.deadlines)) ms node =
    subst (λ (k : ConfiguredInteractions). IsPlan (given_to k roots csrs rows) k.state.node (Ask actor request (deadline_of asking k.state.deadlines)) ms node) c.interactions.view_is
    (subst (λ (d : Option ℕ). IsPlan (given_to here roots csrs rows) here.state.node (Ask actor request d) ms node) timed c.in_ok-node.ensures) in
    let ds : c.as_slice-2.result.now ≡ kept.state.deadlines = c.as_slice-2.ensures ∙ ap (λ (k : ConfiguredInteractions). k.state.deadlines) c.interactions.view_is in
    let left : unwrap_or c.in_ok-deadlines.deadlines kept.state.deadlines ≡ left_without node.gone (unwrap_or c.args.deadlines kept.state.deadlines) =
    subst (λ (l : List PlainDeadline). unwrap_or c.in_ok-deadlines.deadlines l ≡ left_without node.gone (unwrap_or c.args.deadlines l)) ds c.in_ok-deadlines.ensures in
    let made : InteractionOutcome = record { ms = ms; node = node; deadlines = c.in_ok-deadlines.deadlines; subs = c.in_ok-sent.subs; change = told_to_commit kept.ledger.history ms node } in
    subst (λ (x : InteractionOutcome). IsLine given kept.state kept.ledger ms actor (Ok request) x) (sym c.in_ok-outcome.ensures.made)
    (request_line given kept.state kept.ledger ms actor asking request made c.requires.asks plan refl (subst (IsPlanned kept.state kept.ledger) c.in_ok-outcome.ensures.made c.in_ok-outcome.ensures.planned) c.in_ok-sent.ensures.subs (left ∙ ap (left_without node.gone) c.requires.next))

use Rattle.std.proofs.Common.{Err, ap, refl, subst, sym, ◌∙◌}
use Rattle.mt_model.specs.declared.node.action.Action.TheVariants.{Nothing}
use Rattle.mt_node.specs.mt_machine.Lines.{sent_as}
use Rattle.mt_node.specs.Plan.{IsPlan}
use Rattle.mt_interactions.specs.Configured.{ConfiguredInteractions, given_to}
use Rattle.mt_interactions.specs.Plan.{IsLine, IsPlanned, told_to_commit}
use Rattle.mt_interactions.specs.declared.behind.SubsBehind.TheVariants.{Same}
use Rattle.mt_interactions.specs.declared.outcome.InteractionOutcome.{InteractionOutcome}
use Rattle.mt_interactions.proofs.Planned.{refused_line, refused_sent}
use Rattle.mt_interactions.proofs.lines.refused.Goals as goal

pub returns-clause-sent : goal.returns-clause-sent
returns-clause-sent g c =
    let verdicts = c.args.verdicts.now in
    let kept : ConfiguredInteractions = c.args.interactions.now in
    let given = given_to kept (g.V.Verdicts.roots verdicts) (g.V.Verdicts.csrs verdicts) (g.V.Verdicts.joins verdicts) in
    refused_sent given kept.state kept.ledger c.args.ms c.args.actor.now c.args.asking.now c.args.fault c.in_ok-sent.sent c.requires.asks
    (c.in_ok-sent.ensures ∙ ap (sent_as c.args.ms c.args.asking.now.fabric) c.fault_reply.ensures)

pub outcome-requires : goal.outcome-requires
outcome-requires g c =
    let verdicts = c.args.verdicts.now in
    let roots = g.V.Verdicts.roots verdicts in
    let csrs = g.V.Verdicts.csrs verdicts in
    let rows = g.V.Verdicts.joins verdicts in
    let node = c.in_ok-node.node in (
      given_to c.args.interactions.now roots csrs rows,
      (
        Nothing,
        (
          c.args.ms,
          subst (λ (k : ConfiguredInteractions). IsPlan (given_to k roots csrs rows) k.state.node Nothing c.args.ms node) c.interactions.view_is c.in_ok-node.ensures,
        ),
      ),
    )

pub returns-clause-outcome : goal.returns-clause-outcome
returns-clause-outcome g c =
    let verdicts = c.args.verdicts.now in
    let roots = g.V.Verdicts.roots verdicts in
    let csrs = g.V.Verdicts.csrs verdicts in
    let rows = g.V.Verdicts.joins verdicts in
    let kept : ConfiguredInteractions = c.args.interactions.now in
    let given = given_to kept roots csrs rows in
    let ms = c.args.ms in
    let actor = c.args.actor.now in
    let node = c.in_ok-node.node in
    let made : InteractionOutcome = record { ms = ms; node = node; deadlines = c.args.deadlines; subs = Same; change = told_to_commit kept.ledger.history ms node } in
    subst (λ (x : InteractionOutcome). IsLine given kept.state kept.ledger ms actor (Err c.args.fault) x) (sym c.in_ok-outcome.ensures.made)
    (refused_line given kept.state kept.ledger ms actor c.args.asking.now c.args.fault made c.requires.asks
    (subst (λ (k : ConfiguredInteractions). IsPlan (given_to k roots csrs rows) k.state.node Nothing ms node) c.interactions.view_is c.in_ok-node.ensures)
    refl (subst (IsPlanned kept.state kept.ledger) c.in_ok-outcome.ensures.made c.in_ok-outcome.ensures.planned) refl c.requires.next)

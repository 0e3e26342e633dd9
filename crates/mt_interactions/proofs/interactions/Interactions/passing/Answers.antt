use Rattle.std.proofs.Common.{◌≡◌, None, refl, subst, sym}
use Rattle.mt_model.specs.declared.node.action.Action.TheVariants.{Nothing}
use Rattle.mt_node.specs.Plan.{IsPlan}
use Rattle.mt_interactions.specs.Configured.{ConfiguredInteractions, given_to}
use Rattle.mt_interactions.specs.Plan.{IsPassing, IsPlanned, told_to_commit}
use Rattle.mt_interactions.specs.declared.outcome.InteractionOutcome.{InteractionOutcome}
use Rattle.mt_interactions.proofs.Planned.{if_both, passes}
use Rattle.mt_interactions.proofs.interactions.Interactions.passing.Goals as goal

pub outcome-requires : goal.outcome-requires
outcome-requires g c =
    let verdicts = c.args.verdicts.now in
    let roots = g.V.Verdicts.roots verdicts in
    let csrs = g.V.Verdicts.csrs verdicts in
    let rows = g.V.Verdicts.joins verdicts in
    let node = c.in_ok-node.node in (
      given_to c.args.self.now roots csrs rows,
      (
        Nothing,
        (
          c.args.ms,
          subst (λ (k : ConfiguredInteractions). IsPlan (given_to k roots csrs rows) k.state.node Nothing c.args.ms node) c.self.view_is c.in_ok-node.ensures,
        ),
      ),
    )

pub returns : goal.returns
returns g c =
    let verdicts = c.args.verdicts.now in
    let roots = g.V.Verdicts.roots verdicts in
    let csrs = g.V.Verdicts.csrs verdicts in
    let rows = g.V.Verdicts.joins verdicts in
    let kept : ConfiguredInteractions = c.args.self.now in
    let given = given_to kept roots csrs rows in
    let node = c.in_ok-node.node in
    let made : InteractionOutcome = record { ms = c.args.ms; node = node; deadlines = None; subs = c.args.subs; change = told_to_commit kept.ledger.history c.args.ms node } in
    if_both c.outcome.result (λ o. o ≡ made) (IsPlanned kept.state kept.ledger) (IsPassing given kept.state kept.ledger c.args.ms c.args.subs)
    (λ o is so. subst (λ (x : InteractionOutcome). IsPassing given kept.state kept.ledger c.args.ms c.args.subs x) (sym is)
    (passes given kept.state kept.ledger c.args.ms c.args.subs made refl refl refl (subst (IsPlanned kept.state kept.ledger) is so)
    (subst (λ (k : ConfiguredInteractions). IsPlan (given_to k roots csrs rows) k.state.node Nothing c.args.ms node) c.self.view_is c.in_ok-node.ensures)))
    c.outcome.ensures.made c.outcome.ensures.planned

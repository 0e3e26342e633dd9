use Rattle.std.proofs.Common.{◌≡◌, List, None, ap, refl, subst, sym, unwrap_or, ◌∙◌}
use Rattle.mt_model.specs.declared.node.action.Action.TheVariants.{Expire}
use Rattle.mt_model.specs.declared.node.action.PlainDeadline.{PlainDeadline}
use Rattle.mt_node.specs.mt_machine.State.{IsValid}
use Rattle.mt_runs.specs.mt_ledger.Behind.{acts}
use Rattle.mt_node.specs.Plan.{IsPlan}
use Rattle.mt_interactions.specs.Configured.{ConfiguredInteractions, given_to}
use Rattle.mt_interactions.specs.Plan.{IsDone, IsPlanned, IsTick, left_without, told_to_commit}
use Rattle.mt_interactions.specs.declared.behind.SubsBehind.TheVariants.{Same}
use Rattle.mt_interactions.specs.declared.outcome.InteractionOutcome.{InteractionOutcome}
use Rattle.mt_interactions.proofs.Planned.{acted, if_both, tick_of}
use Rattle.mt_interactions.proofs.ticks.planned_tick.Goals as goal

pub outcome-requires : goal.outcome-requires
outcome-requires g c =
    let verdicts = c.args.verdicts.now in
    let roots = g.V.Verdicts.roots verdicts in
    let csrs = g.V.Verdicts.csrs verdicts in
    let rows = g.V.Verdicts.joins verdicts in
    let kept : ConfiguredInteractions = c.args.interactions.now in
    let node = c.in_ok-node.node in (
      given_to kept roots csrs rows,
      (
        Expire,
        (
          c.args.ms,
          subst (λ (k : ConfiguredInteractions). IsPlan (given_to k roots csrs rows) k.state.node Expire c.args.ms node) c.interactions.view_is c.in_ok-node.ensures,
        ),
      ),
    )

pub returns : goal.returns
returns g c =
    let verdicts = c.args.verdicts.now in
    let roots = g.V.Verdicts.roots verdicts in
    let csrs = g.V.Verdicts.csrs verdicts in
    let rows = g.V.Verdicts.joins verdicts in
    let kept : ConfiguredInteractions = c.args.interactions.now in
    let node = c.in_ok-node.node in
    let ds : c.as_slice.result.now ≡ kept.state.deadlines = c.as_slice.ensures ∙ ap (λ (k : ConfiguredInteractions). k.state.deadlines) c.interactions.view_is in
    let given = given_to kept roots csrs rows in
    let ms = c.args.ms in
    let made : InteractionOutcome = record { ms = ms; node = node; deadlines = c.in_ok-deadlines.deadlines; subs = Same; change = told_to_commit kept.ledger.history ms node } in
    let valid : IsValid kept.state.node = subst (λ (k : ConfiguredInteractions). IsValid k.state.node) c.interactions.view_is c.state_is_valid.ensures in
    let plan : IsPlan given kept.state.node Expire ms node = subst (λ (k : ConfiguredInteractions). IsPlan (given_to k roots csrs rows) k.state.node Expire ms node) c.interactions.view_is c.in_ok-node.ensures in
    let left : unwrap_or c.in_ok-deadlines.deadlines kept.state.deadlines ≡ left_without node.gone kept.state.deadlines =
    subst (λ (l : List PlainDeadline). unwrap_or c.in_ok-deadlines.deadlines l ≡ left_without node.gone (unwrap_or None l)) ds c.in_ok-deadlines.ensures in
    record {
      tick = if_both c.outcome.result (λ o. o ≡ made) (IsPlanned kept.state kept.ledger) (IsTick given kept.state kept.ledger ms)
          (λ o is so. subst (λ (x : InteractionOutcome). IsTick given kept.state kept.ledger ms x) (sym is)
          (tick_of c.ticks_let_the_failsafe_expire.ensures.gone given kept.state kept.ledger ms made valid refl (subst (IsPlanned kept.state kept.ledger) is so) refl plan left))
          c.outcome.ensures.made c.outcome.ensures.planned;
      done = if_both c.outcome.result (λ o. o ≡ made) (IsPlanned kept.state kept.ledger) (IsDone given kept.state kept.ledger (acts Expire) ms)
          (λ o is so. subst (λ (x : InteractionOutcome). IsDone given kept.state kept.ledger (acts Expire) ms x) (sym is)
          (acted given kept.state kept.ledger ms Expire made refl (subst (IsPlanned kept.state kept.ledger) is so) plan refl left))
          c.outcome.ensures.made c.outcome.ensures.planned;
    }

use Rattle.std.proofs.Common.{◌≡◌, List, None, Some, ap, refl, subst, sym, unwrap_or, ◌∙◌}
use Rattle.mt_model.specs.declared.node.action.Action.TheVariants.{Ask}
use Rattle.mt_model.specs.declared.node.action.PlainDeadline.{PlainDeadline}
use Rattle.mt_model.specs.declared.tables.access.Actor.{Actor}
use Rattle.mt_node.specs.mt_machine.Step.{asker}
use Rattle.mt_runs.specs.mt_ledger.Behind.{acts}
use Rattle.mt_runs.specs.Datagrams.{actor_on}
use Rattle.mt_node.specs.Plan.{IsPlan}
use Rattle.mt_interactions.specs.Configured.{ConfiguredInteractions, given_to}
use Rattle.mt_interactions.specs.Plan.{IsDone, IsPlanned, left_without, told_to_commit}
use Rattle.mt_interactions.specs.declared.outcome.InteractionOutcome.{InteractionOutcome}
use Rattle.mt_interactions.proofs.Planned.{asked_over, nobody_over, nobody_replied, replied}
use Rattle.mt_interactions.proofs.interactions.Interactions.asked_over.Goals as goal

pub returns-in_default-clause-outcome : goal.returns-in_default-clause-outcome
returns-in_default-clause-outcome g c =
    let verdicts = c.args.verdicts.now in
    let kept : ConfiguredInteractions = c.args.self.now in
    let given = given_to kept (g.V.Verdicts.roots verdicts) (g.V.Verdicts.csrs verdicts) (g.V.Verdicts.joins verdicts) in
    let actor = actor_on c.args.session in
    let none : asker kept.state.node actor ≡ None =
    ap (λ (k : ConfiguredInteractions). asker k.state.node actor) (sym c.self.view_is) ∙ ap (λ (a : Actor). asker c.self.inside.node.state a) (sym c.actor_on-actor.ensures) ∙ sym c.asker.ensures ∙ c.in_default.is in
    nobody_over given kept.state kept.ledger c.args.ms actor c.args.request.now c.args.timed c.in_ok-outcome.outcome none c.in_ok-outcome.ensures

pub returns-in_default-clause-reply : goal.returns-in_default-clause-reply
returns-in_default-clause-reply g c =
    let verdicts = c.args.verdicts.now in
    let kept : ConfiguredInteractions = c.args.self.now in
    let given = given_to kept (g.V.Verdicts.roots verdicts) (g.V.Verdicts.csrs verdicts) (g.V.Verdicts.joins verdicts) in
    let actor = actor_on c.args.session in
    let none : asker kept.state.node actor ≡ None =
    ap (λ (k : ConfiguredInteractions). asker k.state.node actor) (sym c.self.view_is) ∙ ap (λ (a : Actor). asker c.self.inside.node.state a) (sym c.actor_on-actor.ensures) ∙ sym c.asker.ensures ∙ c.in_default.is in
    sym (nobody_replied given kept.state.node kept.ledger c.args.ms actor c.args.request.now c.args.timed none)

pub returns-clause-reply : goal.returns-clause-reply
returns-clause-reply g c =
    let verdicts = c.args.verdicts.now in
    let roots = g.V.Verdicts.roots verdicts in
    let csrs = g.V.Verdicts.csrs verdicts in
    let rows = g.V.Verdicts.joins verdicts in
    let kept : ConfiguredInteractions = c.args.self.now in
    let given = given_to kept roots csrs rows in
    let inside = c.self.inside in
    let request = c.args.request.now in
    let actor = actor_on c.args.session in
    let here : ConfiguredInteractions = record { state = record { node = inside.node.state; deadlines = inside.deadlines }; ledger = record { history = inside.history; subs = inside.subs }; config = inside.node.config; durable = inside.node.durable } in
    let asks : asker kept.state.node actor ≡ Some c.in-Some.asking =
    ap (λ (k : ConfiguredInteractions). asker k.state.node actor) (sym c.self.view_is) ∙ ap (λ (a : Actor). asker inside.node.state a) (sym c.actor_on-actor.ensures) ∙ sym c.asker.ensures ∙ c.in-Some.is in
    let plan : IsPlan given kept.state.node (Ask actor request c.args.timed) c.args.ms c.in_ok-node.node = subst (λ (k : ConfiguredInteractions). IsPlan (given_to k roots csrs rows) k.state.node (Ask actor request c.args.timed) c.args.ms c.in_ok-node.node) c.self.view_is
    (subst (λ (a : Actor). IsPlan (given_to here roots csrs rows) here.state.node (Ask a request c.args.timed) c.args.ms c.in_ok-node.node) c.actor_on-actor.ensures c.in_ok-node.ensures) in
    ap (λ (o : InteractionOutcome). unwrap_or c.in_ok-full.full o.node.reply) c.in_ok-outcome-2.ensures.made
    ∙ c.in_ok-full.ensures.reply
    ∙ replied given kept.state.node kept.ledger c.args.ms actor c.in-Some.asking request c.args.timed c.in_ok-node.node.reply asks plan.reply

pub outcome-requires : goal.outcome-requires
outcome-requires g c =
    let verdicts = c.args.verdicts.now in
    let roots = g.V.Verdicts.roots verdicts in
    let csrs = g.V.Verdicts.csrs verdicts in
    let rows = g.V.Verdicts.joins verdicts in
    let inside = c.self.inside in
    let request = c.args.request.now in
    let actor = actor_on c.args.session in
    let ms = c.args.ms in
    let node = c.in_ok-node.node in
    let here : ConfiguredInteractions = record { state = record { node = inside.node.state; deadlines = inside.deadlines }; ledger = record { history = inside.history; subs = inside.subs }; config = inside.node.config; durable = inside.node.durable } in (
      given_to c.args.self.now roots csrs rows,
      (
        Ask actor request c.args.timed,
        (
          ms,
          subst (λ (k : ConfiguredInteractions). IsPlan (given_to k roots csrs rows) k.state.node (Ask actor request c.args.timed) ms node) c.self.view_is
              (subst (λ (a : Actor). IsPlan (given_to here roots csrs rows) here.state.node (Ask a request c.args.timed) ms node) c.actor_on-actor.ensures c.in_ok-node.ensures),
        ),
      ),
    )

pub returns-clause-outcome : goal.returns-clause-outcome
returns-clause-outcome g c =
    let verdicts = c.args.verdicts.now in
    let roots = g.V.Verdicts.roots verdicts in
    let csrs = g.V.Verdicts.csrs verdicts in
    let rows = g.V.Verdicts.joins verdicts in
    let kept : ConfiguredInteractions = c.args.self.now in
    let given = given_to kept roots csrs rows in
    let inside = c.self.inside in
    let request = c.args.request.now in
    let actor = actor_on c.args.session in
    let ms = c.args.ms in
    let node = c.in_ok-node.node in
    let here : ConfiguredInteractions = record { state = record { node = inside.node.state; deadlines = inside.deadlines }; ledger = record { history = inside.history; subs = inside.subs }; config = inside.node.config; durable = inside.node.durable } in
    let asks : asker kept.state.node actor ≡ Some c.in-Some.asking =
    ap (λ (k : ConfiguredInteractions). asker k.state.node actor) (sym c.self.view_is) ∙ ap (λ (a : Actor). asker inside.node.state a) (sym c.actor_on-actor.ensures) ∙ sym c.asker.ensures ∙ c.in-Some.is in
    let plan : IsPlan given kept.state.node (Ask actor request c.args.timed) ms node = subst (λ (k : ConfiguredInteractions). IsPlan (given_to k roots csrs rows) k.state.node (Ask actor request c.args.timed) ms node) c.self.view_is
    (subst (λ (a : Actor). IsPlan (given_to here roots csrs rows) here.state.node (Ask a request c.args.timed) ms node) c.actor_on-actor.ensures c.in_ok-node.ensures) in
    let ds : c.as_slice.result.now ≡ kept.state.deadlines = c.as_slice.ensures ∙ ap (λ (k : ConfiguredInteractions). k.state.deadlines) c.self.view_is in
    let left : unwrap_or c.in_ok-deadlines.deadlines kept.state.deadlines ≡ left_without node.gone kept.state.deadlines =
    subst (λ (l : List PlainDeadline). unwrap_or c.in_ok-deadlines.deadlines l ≡ left_without node.gone l) ds c.in_ok-deadlines.ensures in
    let made : InteractionOutcome = record { ms = ms; node = node; deadlines = c.in_ok-deadlines.deadlines; subs = c.in_ok-full.subs; change = told_to_commit kept.ledger.history ms node } in
    subst (λ (x : InteractionOutcome). IsDone given kept.state kept.ledger (acts (Ask actor request c.args.timed)) ms x) (sym c.in_ok-outcome-2.ensures.made)
    (asked_over given kept.state kept.ledger ms actor c.in-Some.asking request c.args.timed made asks refl (subst (IsPlanned kept.state kept.ledger) c.in_ok-outcome-2.ensures.made c.in_ok-outcome-2.ensures.planned) plan c.in_ok-full.ensures.subs left)

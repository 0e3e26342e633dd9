use Rattle.std.proofs.Common.{◌≡◌, ◌∙◌, Result, subst, sym}
use Rattle.std.specs.Result.{IfOk}
use Rattle.mt_meta.specs.declared.meta.CommandMeta.{CommandMeta}
use Rattle.mt_model.specs.declared.messages.status.Status.{Status}
use Rattle.mt_machine.specs.Commands.{unless_refused}
use Rattle.mt_machine.specs.Observation.{observation}
use Rattle.mt_machine.specs.Step.{at_time}
use Rattle.mt_node.specs.Configured.{given_to}
use Rattle.mt_node.proofs.commands.effect.Goals as goal

pub returns-in-Ok : goal.returns-in-Ok
returns-in-Ok g c =
    let actor = c.args.asking.now in
    let o = observation actor.fabric (at_time c.args.now c.args.node.now.state) in
    let verdicts = c.args.verdicts.now in
    let given = given_to c.args.node.now (g.V.Verdicts.roots verdicts) (g.V.Verdicts.csrs verdicts) (g.V.Verdicts.joins verdicts) in
    subst (λ (may : Result CommandMeta Status). IfOk c.well_formed-in-Ok.result (λ effect. effect ≡ unless_refused given o actor c.args.command.now c.args.fields.now may))
    (sym c.in-Ok.is ∙ c.checked.ensures) (c.well_formed-in-Ok.ensures c.in-Ok.field-0)

use Rattle.std.proofs.Common.{[], List, Option, ap, sym, unwrap_or, ◌∙◌}
use Rattle.mt_model.specs.declared.messages.message.Item.{Item}
use Rattle.mt_runs.specs.mt_ledger.Subscribing.{attributes_for}
use Rattle.mt_interactions.specs.Configured.{ConfiguredInteractions}
use Rattle.mt_interactions.proofs.telling.attributes_for.Goals as goal

pub returns-in-Ok : goal.returns-in-Ok
returns-in-Ok c =
    sym (ap (λ (o : Option (List Item)). unwrap_or o []) c.in-Ok.ensures.exact)
    ∙ ap (λ (k : ConfiguredInteractions). attributes_for k.state.node c.args.actor.now c.args.paths.now c.args.filtered c.args.versions.now) c.interactions.view_is

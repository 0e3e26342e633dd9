use Rattle.std.proofs.Common.{◌≡◌, subst, true}
use Rattle.mt_model.specs.declared.node.action.NodeStep.{NodeStep}
use Rattle.mt_machine.specs.Taking.{may_take}
use Rattle.mt_steps.proofs.Valid.{entries_ascend, takes_stored}
use Rattle.mt_steps.proofs.make.Goals as goal

pub set_row-requires : goal.set_row-requires
set_row-requires c =
    let s = c.args.state.now in
    takes_stored c.stored_places_are_those_of_the_model.ensures s c.in-SetRow.place c.in-SetRow.fabric c.in-SetRow.values
    (subst (λ (step : NodeStep). may_take s step ≡ true) c.in-SetRow.is c.requires.taken)

pub put_entries-requires : goal.put_entries-requires
put_entries-requires c = entries_ascend c.args.state.now c.requires.valid

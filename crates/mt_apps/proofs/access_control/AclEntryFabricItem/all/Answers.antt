use Rattle.mt_apps.proofs.access_control.AclEntryFabricItem.all.Goals as goal

pub returns-clause-ascending : goal.returns-clause-ascending
returns-clause-ascending c = λ value place. c.entries_are_in_order.ensures.ascending c.args.view.now.entries.now place value c.args.view.now.entries_ascend

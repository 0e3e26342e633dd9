use Rattle.mt_apps.proofs.operational_credentials.FabricFabricItem.all.Goals as goal

pub returns-clause-ascending : goal.returns-clause-ascending
returns-clause-ascending c = λ value place. c.fabrics_are_in_order.ensures.ascending c.args.view.now.fabrics.now place value c.args.view.now.fabrics_ascend

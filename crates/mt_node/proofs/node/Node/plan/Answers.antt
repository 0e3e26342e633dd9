use Rattle.std.proofs.Common.{sym}
use Rattle.mt_node.specs.Configured.{given_to}
use Rattle.mt_node.proofs.Plans.{nobody_asks}
use Rattle.mt_node.proofs.node.Node.plan.Goals as goal

pub returns-in-None : goal.returns-in-None
returns-in-None g c =
    let verdicts = c.args.verdicts.now in
    let given = given_to c.args.self.now (g.V.Verdicts.roots verdicts) (g.V.Verdicts.csrs verdicts) (g.V.Verdicts.joins verdicts) in
    rw c.in-Ask.is (nobody_asks given c.args.self.now.state c.in-Ask.actor c.in-Ask.request c.in-Ask.timed c.args.now c.quiet.result (sym c.in-None.ensures) (c.quiet.ensures given))

pub returns-in-Nothing : goal.returns-in-Nothing
returns-in-Nothing g c =
    let verdicts = c.args.verdicts.now in
    let given = given_to c.args.self.now (g.V.Verdicts.roots verdicts) (g.V.Verdicts.csrs verdicts) (g.V.Verdicts.joins verdicts) in
    rw c.in-Nothing.is (c.quiet-in-Nothing.ensures given)

use Rattle.mt_worker.proofs.Works.{acts_of}
use Rattle.mt_worker.proofs.hand.Hand.act.Goals as goal

pub returns-clause-acted : goal.returns-clause-acted
returns-clause-acted g c session =
    acts_of c.args.desk.now.node.now.origin session c.args.call c.args.self.now (record { pass = c.act.new.pass; outlet = c.args.self.now.outlet }) c.act.result c.requires.own.1 c.act.ensures.outside c.act.ensures.seen c.act.ensures.answered c.act.ensures.refused

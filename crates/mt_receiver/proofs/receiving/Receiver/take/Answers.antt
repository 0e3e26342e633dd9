use Rattle.mt_receiver.proofs.Once.{both_put}
use Rattle.mt_receiver.proofs.receiving.Receiver.take.Goals as goal

pub returns-then-not-handed-clause-put : goal.returns-then-not-handed-clause-put
returns-then-not-handed-clause-put g c = both_put c.args.self.now.ids.now c.args.self.now.woken c.args.now c.args.from c.args.bytes.now c.args.senders.now c.wake-self.new.senders c.hand.new.senders c.wake-self.ensures.put c.in-Ok.ensures.put

pub returns-else-not-handed-clause-put : goal.returns-else-not-handed-clause-put
returns-else-not-handed-clause-put g c = both_put c.args.self.now.ids.now c.args.self.now.woken c.args.now c.args.from c.args.bytes.now c.args.senders.now c.wake-self.new.senders c.hand.new.senders c.wake-self.ensures.put c.in-Ok.ensures.put

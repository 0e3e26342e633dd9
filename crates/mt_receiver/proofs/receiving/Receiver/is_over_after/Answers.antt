use Rattle.std.proofs.Common.{rules, ap, refl, take}
use Rattle.mt_receiver.specs.declared.receiving.Receiver.{Receiver}
use Rattle.mt_receiver.proofs.Once.{went_datagram, went_ended, went_quiet}
use Rattle.mt_receiver.proofs.receiving.Receiver.is_over_after.Goals as goal

pub returns-in-Ended-clause-went : goal.returns-in-Ended-clause-went
returns-in-Ended-clause-went g c = went_ended c.args.self.now c.args.senders.now _ _ _ _ c.in-Ok.taken c.in-Ended.is c.in-Ok.ensures.time c.in-Ok.ensures.told c.in-Ok.ensures.rest

pub returns-in-Quiet-clause-went : goal.returns-in-Quiet-clause-went
returns-in-Quiet-clause-went g c = went_quiet c.args.self.now _ c.args.senders.now c.wake-self.new.senders _ _ _ _ c.in-Quiet.now c.in-Ok.taken c.in-Quiet.is (ap (λ w. record c.args.self.now { woken = w }) c.wake-self.ensures.woken) c.requires.goes_on c.in-Ok.ensures.time c.in-Ok.ensures.told c.in-Ok.ensures.rest c.wake-self.ensures.put

pub returns-in_ok-take-in-Datagram-clause-went : goal.returns-in_ok-take-in-Datagram-clause-went
returns-in_ok-take-in-Datagram-clause-went g c = went_datagram c.args.self.now c.take.new.self c.args.senders.now c.take.new.senders _ _ _ _ c.in-Datagram.now c.in-Datagram.from c.in-Datagram.length c.in-Ok.taken (take c.in-Datagram.length c.recv.new.into) c.recv.new.into c.args.into.now c.in-Datagram.is
    (ap (λ (r : Receiver). r.woken) c.in_ok-take-in-Datagram.ensures.counted) (ap (λ (r : Receiver). r.datagrams) c.in_ok-take-in-Datagram.ensures.counted) c.in_ok-take-in-Datagram.ensures.ids.1 c.requires.goes_on c.in-Ok.ensures.time (search rules) (search rules) c.in-Ok.ensures.told c.in-Ok.ensures.filled c.in-Ok.ensures.rest c.in_ok-take-in-Datagram.ensures.put

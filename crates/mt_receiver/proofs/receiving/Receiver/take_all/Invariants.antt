use Rattle.std.proofs.Common.{◌≡◌, ◌<◌, length}
use Rattle.mt_outside.specs.declared.datagrams.TheConstants.{DATAGRAM_BYTES}
use Rattle.mt_receiver.specs.Receives.{AreSame}
use Rattle.mt_receiver.proofs.Taking.{Stands}
use Rattle.mt_receiver.proofs.receiving.Receiver.take_all.Given as goal

abbrev pub invariant-loop : goal.invariant-loop
invariant-loop g l = record {
  room : length l.into ≡ DATAGRAM_BYTES;
  same : AreSame l.fn.senders l.senders;
  ids : (l.self.ids ≡ l.fn.self.ids) × (l.self.limit ≡ l.fn.self.limit);
  stands : Stands l.fn.self.ids.now l.fn.self.limit l.self l.fn.senders l.senders (g.I.Intake.held l.fn.intake) (g.I.Intake.held l.intake) (g.I.Intake.clock l.fn.intake) (g.I.Intake.clock l.intake);
  faults : g.I.Intake.faults l.intake ≡ g.I.Intake.faults l.fn.intake;
}

use Rattle.std.proofs.Common.{refl}
use Rattle.mt_endings.specs.Faults.{fault_line, fault_text}
use Rattle.mt_endings.specs.Parts.{told_line, whole_line}
use Rattle.mt_endings.proofs.Rows.{took_nothing}
use Rattle.mt_endings.proofs.finishing.finish.Goals as goal

pub tell-requires-clause-line : goal.tell-requires-clause-line
unfolding fault_line fault_text
tell-requires-clause-line g c = rw c.in-ReadFault.is refl

pub tell-requires-in-DiskFault-clause-line : goal.tell-requires-in-DiskFault-clause-line
unfolding fault_line fault_text
tell-requires-in-DiskFault-clause-line g c = rw c.in-DiskFault.is refl

pub returns-in-Differ : goal.returns-in-Differ
unfolding fault_line
returns-in-Differ g c = rw c.in-Differ.is (told_line refl refl (whole_line refl refl (took_nothing (g.W.Sink.written c.args.out.now))))

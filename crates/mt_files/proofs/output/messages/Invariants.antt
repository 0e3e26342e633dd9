use Rattle.std.proofs.Common.{◌≡◌, ◌+◌, ◌≤◌, length}
use Rattle.mt_model.specs.declared.limits.TheConstants.{RECORDING_LINES}
use Rattle.mt_files.specs.Lines.{lines_of}
use Rattle.mt_files.specs.Output.{messages_from}
use Rattle.mt_files.proofs.Readings.{onto_all}
use Rattle.mt_files.proofs.output.messages.Given as goal

abbrev pub invariant-loop-rest : goal.invariant-loop-rest
invariant-loop-rest l = record {
  told : messages_from 1 0 (lines_of l.lines) ≡ onto_all l.messages.items (messages_from l.number l.before (lines_of l.rest));
  counted : l.number ≤ RECORDING_LINES + 1;
}

abbrev pub decreases-loop-rest : goal.decreases-loop-rest
decreases-loop-rest l = length l.rest

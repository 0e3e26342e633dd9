use Rattle.std.proofs.Common.{◌≡◌, ◌≤◌, length}
use Rattle.mt_files.specs.Lines.{lines_of}
use Rattle.mt_ctl.specs.Script.{steps_from}
use Rattle.mt_ctl.specs.Steps.{AreShort}
use Rattle.mt_ctl.proofs.Readings.{onto_all}
use Rattle.mt_ctl.proofs.reading.steps_behind_head.Given as goal

abbrev pub invariant-loop-rest : goal.invariant-loop-rest
invariant-loop-rest l = record {
  told : steps_from 2 0 (lines_of l.lines) ≡ onto_all l.steps.items (steps_from l.number l.before (lines_of l.rest));
  counted : l.number ≤ 65537;
  short : AreShort l.steps.items;
}

abbrev pub decreases-loop-rest : goal.decreases-loop-rest
decreases-loop-rest l = length l.rest

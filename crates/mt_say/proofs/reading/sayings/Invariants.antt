-- the lines so far and those to come are those of the text, and each saying stands in one so far
use Rattle.std.proofs.Common.{◌≡◌, ◌≤◌, ◌+◌, ◌<◌, All, length}
use Rattle.mt_files.specs.Lines.{lines_of}
use Rattle.mt_say.specs.Places.{StandsIn}
use Rattle.mt_say.proofs.reading.sayings.Given as goal

abbrev pub invariant-loop-rest : goal.invariant-loop-rest
invariant-loop-rest l = record {
  counted : l.number + length (lines_of l.rest) ≡ 1 + length (lines_of l.text);
  few : l.number ≤ 2097153;
  placed : All (λ saying. StandsIn saying.line (length (lines_of l.text))) l.all.items;
  some : 1 ≤ l.number;
}

abbrev pub decreases-loop-rest : goal.decreases-loop-rest
decreases-loop-rest l = length l.rest

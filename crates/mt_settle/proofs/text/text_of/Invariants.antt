-- the lines so far and those of the entries to come are those of all
use Rattle.std.proofs.Common.{◌≡◌, ◌++◌, drop}
use Rattle.mt_files.specs.Lines.{text_of}
use Rattle.mt_settle.specs.Settled.{settled_lines}
use Rattle.mt_settle.proofs.text.text_of.Given as goal

abbrev pub invariant-loop-entry : goal.invariant-loop-entry
invariant-loop-entry l = l.text.items ++ text_of (settled_lines (drop l.entry-index l.entry-items)) ≡ text_of (settled_lines l.fn.map)

-- the lines so far and those of the messages to come are those of all
use Rattle.std.proofs.Common.{◌≡◌, ◌++◌, drop}
use Rattle.mt_files.specs.Output.{output_text}
use Rattle.mt_soak.proofs.tally.write_lines.Given as goal

abbrev pub invariant-each : goal.invariant-each
invariant-each l = l.text.items ++ output_text (drop l.message-index l.sent) ≡ output_text l.sent

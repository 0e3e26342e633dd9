use Rattle.std.proofs.Common.{◌≡◌, ◌++◌, drop}
use Rattle.mt_files.specs.Output.{output_text}
use Rattle.mt_top.proofs.playing.text_of.Given as goal

-- what was written so far, and the lines of the messages that are left
abbrev pub invariant-loop-message : goal.invariant-loop-message
invariant-loop-message l = l.text.items ++ output_text (drop l.message-index l.sent) ≡ output_text l.sent

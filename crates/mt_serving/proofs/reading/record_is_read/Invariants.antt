use Rattle.std.specs.Prelude.{All, take}
use Rattle.mt_files.specs.Form.{IsEvent}
use Rattle.mt_starting.specs.mt_shared.Entry.{Entry}
use Rattle.mt_serving.proofs.reading.record_is_read.Given as goal

-- each call so far is of its types
abbrev pub invariant-loop-entry : goal.invariant-loop-entry
invariant-loop-entry l = All (λ (entry : Entry). IsEvent entry.call.event) (take l.entry-index l.fn.book)

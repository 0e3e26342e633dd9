use Rattle.std.proofs.Common.{◌≡◌, drop}
use Rattle.mt_serving.proofs.Records.{SoFar, book_lines}
use Rattle.mt_serving.proofs.recording.write_lines.Given as goal

-- what was written so far, and the lines of the entries to come
abbrev pub invariant-loop-entry : goal.invariant-loop-entry
invariant-loop-entry g l = record {
  so_far : SoFar (book_lines l.fn.book) (book_lines (drop l.entry-index l.fn.book)) (g.W.Sink.written l.fn.out) (g.W.Sink.written l.out);
  calm : g.W.Sink.faults l.out ≡ g.W.Sink.faults l.fn.out;
}

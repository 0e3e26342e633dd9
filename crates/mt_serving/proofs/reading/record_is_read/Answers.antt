use Rattle.std.proofs.Math.Logic.{∥∥₁_elim}
use Rattle.std.proofs.lemmas.List.Elements.{All-weaker}
use Rattle.mt_files.specs.Form.{HasForm, IsEvent}
use Rattle.mt_starting.specs.mt_shared.Book.{lines_in}
use Rattle.mt_serving.proofs.Readings.{IsLine, lines_are_told, readings_are_a_set, times_rise, typed_to_end}
use Rattle.mt_serving.proofs.reading.record_is_read.Goals as goal

pub returns-clause-read : goal.returns-clause-read
returns-clause-read c =
    let book = c.args.book.now in
    ∥∥₁_elim c.requires.formed (readings_are_a_set _ _) (λ formed.
    let told = lines_are_told c.lines_are_short.ensures book c.requires.in_time (typed_to_end book c.loop-entry.entry-index c.loop-entry-test.false c.loop-entry.invariant) formed in
    c.written_recordings_are_read.ensures (lines_in book) (All-weaker IsLine IsEvent (λ event is. is.0) (lines_in book) told) (All-weaker IsLine HasForm (λ event is. is.1) (lines_in book) told)
    (times_rise 0 book c.requires.timed) c.requires.few c.requires.short)

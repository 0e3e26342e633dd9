use Rattle.std.proofs.Common.{ap, sym, ◌∙◌}
use Rattle.mt_files.specs.Recording.{recording_of}
use Rattle.mt_endings.specs.Moments.{input}
use Rattle.mt_endings.proofs.Rows.{unread_recording}
use Rattle.mt_endings.proofs.reading.read_recording.Goals as goal

pub returns-in-Err-clause-err : goal.returns-in-Err-clause-err
returns-in-Err-clause-err g c =
    let left = g.A.Source.left in
    let reads = g.A.Source.faults in
    unread_recording c.in-Err.fault (input (left c.args.source.now) (reads c.args.source.now)) (input (left c.read_text.new.source) (reads c.read_text.new.source)) c.in-Err.ensures.err

pub returns-in-Ok-events-clause-ok : goal.returns-in-Ok-events-clause-ok
returns-in-Ok-events-clause-ok g c =
    (c.in-Ok.recording.items, c.in-Ok.ensures.ok, ap recording_of (sym c.deref.ensures.value) ∙ c.in-Ok-events.ensures.read)

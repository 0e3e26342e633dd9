use Rattle.std.proofs.Common.{Some}
use Rattle.mt_model.specs.texts.Contents.{contents_of}
use Rattle.mt_endings.specs.Endings.{in_hand_of}
use Rattle.mt_endings.specs.Moments.{in_hand, input, moment}
use Rattle.mt_top.specs.Asked.{played, replayed}
use Rattle.mt_top.specs.Begun.{begun_with}
use Rattle.mt_top.proofs.Faults.{is_no_fault, not_read, not_written}
use Rattle.mt_top.proofs.replaying.replay_with.Goals as goal

pub returns-in_default-clause-ends : goal.returns-in_default-clause-ends
returns-in_default-clause-ends g c second =
    let left = g.A.Source.left in
    let reads = g.A.Source.faults in
    let written = g.W.Sink.written in
    let faults = g.W.Sink.faults in
    rw c.tell_memory.ensures.status (c.endings_add_up.ensures.no_memory (Some (in_hand_of (replayed (contents_of c.args.config.now))))
    (moment in_hand (input (left c.args.first.now) (reads c.args.first.now)) second (written c.args.out.now) (faults c.args.out.now))
    (written c.tell_memory.new.out) (faults c.tell_memory.new.out) c.tell_memory.ensures.tells)

pub returns-in-Ok-play-clause-ends : goal.returns-in-Ok-play-clause-ends
returns-in-Ok-play-clause-ends g c second =
    let left = g.A.Source.left in
    let reads = g.A.Source.faults in
    let written = g.W.Sink.written in
    let faults = g.W.Sink.faults in
    let begun = begun_with (contents_of c.args.config.now) in
    c.endings_add_up.ensures.played (played begun) c.in-Ok-read_recording.events
    (input (left c.args.first.now) (reads c.args.first.now)) (input (left c.read_recording.new.source) (reads c.read_recording.new.source)) second
    (written c.args.out.now) (written c.play.new.out) (faults c.args.out.now) (faults c.play.new.out)
    c.in-Ok-read_recording.ensures.ok (c.read_recording.ensures.calm (is_no_fault c.read_recording.result c.in-Ok-read_recording.is)) (c.in-Ok-play.ensures.ok begun c.in-Ok.ensures.plays) (c.play.ensures.calm (is_no_fault c.play.result c.in-Ok-play.is))

pub returns-in-Ok-read_recording-clause-ends : goal.returns-in-Ok-read_recording-clause-ends
returns-in-Ok-read_recording-clause-ends g c second =
    let left = g.A.Source.left in
    let reads = g.A.Source.faults in
    let written = g.W.Sink.written in
    let faults = g.W.Sink.faults in
    let begun = begun_with (contents_of c.args.config.now) in
    c.endings_add_up.ensures.stopped (played begun) c.in-Ok-read_recording.events c.in-Err-play.fault c.finish.result
    (input (left c.args.first.now) (reads c.args.first.now)) (input (left c.read_recording.new.source) (reads c.read_recording.new.source)) second
    (written c.args.out.now) (written c.play.new.out) (written c.finish.new.out) (faults c.args.out.now) (faults c.play.new.out) (faults c.finish.new.out)
    c.in-Ok-read_recording.ensures.ok (c.read_recording.ensures.calm (is_no_fault c.read_recording.result c.in-Ok-read_recording.is)) (c.in-Err-play.ensures.err begun c.in-Ok.ensures.plays)
    (λ quiet. c.play.ensures.calm (not_written c.play.result c.in-Err-play.fault c.in-Err-play.is quiet)) c.finish.ensures

pub returns-clause-ends : goal.returns-clause-ends
returns-clause-ends g c second =
    let left = g.A.Source.left in
    let reads = g.A.Source.faults in
    let written = g.W.Sink.written in
    let faults = g.W.Sink.faults in
    c.endings_add_up.ensures.unrecorded (played (begun_with (contents_of c.args.config.now))) c.in-Err.fault c.finish-in-Err.result
    (input (left c.args.first.now) (reads c.args.first.now)) (input (left c.read_recording.new.source) (reads c.read_recording.new.source)) second
    (written c.args.out.now) (written c.finish-in-Err.new.out) (faults c.args.out.now) (faults c.finish-in-Err.new.out)
    c.in-Err.ensures.err (λ quiet. c.read_recording.ensures.calm (not_read c.read_recording.result c.in-Err.fault c.in-Err.is quiet)) c.finish-in-Err.ensures

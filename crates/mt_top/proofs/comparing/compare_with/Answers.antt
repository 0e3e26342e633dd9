use Rattle.std.proofs.Common.{ap₂, subst}
use Rattle.mt_model.specs.texts.Contents.{contents_of}
use Rattle.mt_endings.specs.Endings.{Played}
use Rattle.mt_endings.specs.Moments.{input}
use Rattle.mt_endings.specs.Parts.{PlayedTo, StopsPlaying}
use Rattle.mt_top.specs.Asked.{compared_by}
use Rattle.mt_top.specs.Begun.{begun_with}
use Rattle.mt_top.proofs.Faults.{is_no_fault, not_read, not_written}
use Rattle.mt_top.proofs.comparing.compare_with.Goals as goal

pub returns-in-Err : goal.returns-in-Err
returns-in-Err g c =
    let left = g.A.Source.left in
    let reads = g.A.Source.faults in
    let written = g.W.Sink.written in
    let faults = g.W.Sink.faults in
    c.endings_add_up.ensures.first_unrecorded (compared_by c.args.fabric (begun_with (contents_of c.args.config.now))) c.in-Err.fault c.finish.result
    (input (left c.args.first.now) (reads c.args.first.now)) (input (left c.read_recording.new.source) (reads c.read_recording.new.source))
    (input (g.B.Source.left c.args.second.now) (g.B.Source.faults c.args.second.now))
    (written c.args.out.now) (written c.finish.new.out) (faults c.args.out.now) (faults c.finish.new.out)
    c.in-Err.ensures.err (λ quiet. c.read_recording.ensures.calm (not_read c.read_recording.result c.in-Err.fault c.in-Err.is quiet)) c.finish.ensures

pub returns-in-Err-read_recording : goal.returns-in-Err-read_recording
returns-in-Err-read_recording g c =
    let left = g.A.Source.left in
    let reads = g.A.Source.faults in
    let written = g.W.Sink.written in
    let faults = g.W.Sink.faults in
    c.endings_add_up.ensures.second_unrecorded (compared_by c.args.fabric (begun_with (contents_of c.args.config.now))) c.in-Ok.events c.in-Err-read_recording.fault c.finish-in-Err-read_recording.result
    (input (left c.args.first.now) (reads c.args.first.now)) (input (left c.read_recording.new.source) (reads c.read_recording.new.source))
    (input (g.B.Source.left c.args.second.now) (g.B.Source.faults c.args.second.now)) (input (g.B.Source.left c.read_recording-2.new.source) (g.B.Source.faults c.read_recording-2.new.source))
    (written c.args.out.now) (written c.finish-in-Err-read_recording.new.out) (faults c.args.out.now) (faults c.finish-in-Err-read_recording.new.out)
    c.in-Ok.ensures.ok (c.read_recording.ensures.calm (is_no_fault c.read_recording.result c.in-Ok.is))
    c.in-Err-read_recording.ensures.err (λ quiet. c.read_recording-2.ensures.calm (not_read c.read_recording-2.result c.in-Err-read_recording.fault c.in-Err-read_recording.is quiet)) c.finish-in-Err-read_recording.ensures

pub returns-in-Ok-tell_difference : goal.returns-in-Ok-tell_difference
returns-in-Ok-tell_difference g c =
    let left = g.A.Source.left in
    let reads = g.A.Source.faults in
    let written = g.W.Sink.written in
    let faults = g.W.Sink.faults in
    c.endings_add_up.ensures.both_played (compared_by c.args.fabric (begun_with (contents_of c.args.config.now))) c.in-Ok.events c.in-Ok-read_recording.others
    (input (left c.args.first.now) (reads c.args.first.now)) (input (left c.read_recording.new.source) (reads c.read_recording.new.source))
    (input (g.B.Source.left c.args.second.now) (g.B.Source.faults c.args.second.now)) (input (g.B.Source.left c.read_recording-2.new.source) (g.B.Source.faults c.read_recording-2.new.source))
    (written c.args.out.now) (written c.tell_difference.new.out) (faults c.args.out.now) (faults c.tell_difference.new.out)
    c.in-Ok.ensures.ok (c.read_recording.ensures.calm (is_no_fault c.read_recording.result c.in-Ok.is)) c.in-Ok-read_recording.ensures.ok (c.read_recording-2.ensures.calm (is_no_fault c.read_recording-2.result c.in-Ok-read_recording.is))
    (subst (λ (all : Played). PlayedTo all (written c.args.out.now) (written c.tell_difference.new.out)) (ap₂ (compared_by c.args.fabric (begun_with (contents_of c.args.config.now))) c.as_slice.ensures c.as_slice-2.ensures) c.in-Ok-tell_difference.ensures.ok)
    (c.tell_difference.ensures.calm (is_no_fault c.tell_difference.result c.in-Ok-tell_difference.is))

pub returns : goal.returns
returns g c =
    let left = g.A.Source.left in
    let reads = g.A.Source.faults in
    let written = g.W.Sink.written in
    let faults = g.W.Sink.faults in
    c.endings_add_up.ensures.both_stopped (compared_by c.args.fabric (begun_with (contents_of c.args.config.now))) c.in-Ok.events c.in-Ok-read_recording.others c.in-Err-tell_difference.fault c.finish-in-Err-tell_difference.result
    (input (left c.args.first.now) (reads c.args.first.now)) (input (left c.read_recording.new.source) (reads c.read_recording.new.source))
    (input (g.B.Source.left c.args.second.now) (g.B.Source.faults c.args.second.now)) (input (g.B.Source.left c.read_recording-2.new.source) (g.B.Source.faults c.read_recording-2.new.source))
    (written c.args.out.now) (written c.tell_difference.new.out) (written c.finish-in-Err-tell_difference.new.out) (faults c.args.out.now) (faults c.tell_difference.new.out) (faults c.finish-in-Err-tell_difference.new.out)
    c.in-Ok.ensures.ok (c.read_recording.ensures.calm (is_no_fault c.read_recording.result c.in-Ok.is)) c.in-Ok-read_recording.ensures.ok (c.read_recording-2.ensures.calm (is_no_fault c.read_recording-2.result c.in-Ok-read_recording.is))
    (subst (λ (all : Played). StopsPlaying c.in-Err-tell_difference.fault all (written c.args.out.now) (written c.tell_difference.new.out) (faults c.args.out.now) (faults c.tell_difference.new.out))
    (ap₂ (compared_by c.args.fabric (begun_with (contents_of c.args.config.now))) c.as_slice.ensures c.as_slice-2.ensures) c.in-Err-tell_difference.ensures.err)
    (λ quiet. c.tell_difference.ensures.calm (not_written c.tell_difference.result c.in-Err-tell_difference.fault c.in-Err-tell_difference.is quiet)) c.finish-in-Err-tell_difference.ensures

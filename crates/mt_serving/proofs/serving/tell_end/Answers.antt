use Rattle.std.proofs.Common.{◌∙◌, sym}
use Rattle.mt_serving.specs.Ending.{unwritten}
use Rattle.mt_serving.specs.Record.{record_of}
use Rattle.mt_serving.specs.declared.recording.RecordFault.TheVariants.{Memory, Write}
use Rattle.mt_serving.proofs.Ends.{fault_writes, told_behind, told_wanting}
use Rattle.mt_serving.proofs.serving.tell_end.Goals as goal

pub returns-in-Some : goal.returns-in-Some
returns-in-Some g c =
    let written = g.W.Sink.written in
    let faults = g.W.Sink.faults in
    told_behind c.args.book.now c.args.status c.finish_serving.result (written c.args.out.now) (written c.write_record.new.out) (written c.finish_serving.new.out) (faults c.args.out.now) (faults c.write_record.new.out) (faults c.finish_serving.new.out)
    c.in-Some.fault (sym c.of_status.ensures ∙ c.in-Some.is) c.in-Ok.ensures.0 c.in-Ok.ensures.1 c.finish_serving.ensures

pub returns-in-7 : goal.returns-in-7
returns-in-7 g c =
    let written = g.W.Sink.written in
    let faults = g.W.Sink.faults in
    let writes = fault_writes c.write_record.result c.in-Err-Write.field-0 Write (record_of c.args.book.now) (written c.args.out.now) (written c.write_record.new.out) (faults c.args.out.now) (faults c.write_record.new.out) c.in-Err-Write.is c.in-Err-Write.field-0-is c.write_record.ensures in
    unwritten (written c.write_record.new.out) (faults c.write_record.new.out) c.in-7.is writes.0 writes.1 c.finish_serving-in-7.ensures

pub returns-in-Err-Memory : goal.returns-in-Err-Memory
returns-in-Err-Memory g c =
    let written = g.W.Sink.written in
    let faults = g.W.Sink.faults in
    let writes = fault_writes c.write_record.result c.in-Err-Memory.field-0 Memory (record_of c.args.book.now) (written c.args.out.now) (written c.write_record.new.out) (faults c.args.out.now) (faults c.write_record.new.out) c.in-Err-Memory.is c.in-Err-Memory.field-0-is c.write_record.ensures in
    told_wanting c.args.book.now c.args.status c.finish_serving-in-Err-Memory.result (written c.args.out.now) (written c.write_record.new.out) (written c.finish_serving-in-Err-Memory.new.out) (faults c.args.out.now) (faults c.write_record.new.out) (faults c.finish_serving-in-Err-Memory.new.out)
    writes.0 writes.1 c.finish_serving-in-Err-Memory.ensures

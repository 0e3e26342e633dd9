use Rattle.std.proofs.Common.{rules}
use Rattle.std.specs.Prelude.{codes}
use Rattle.mt_starting.specs.mt_shared.Book.{lines_in}
use Rattle.mt_serving.specs.Record.{event_lines}
use Rattle.mt_serving.proofs.Records.{writes-behind}
use Rattle.mt_serving.proofs.recording.write_record.Goals as goal

pub returns-in_default : goal.returns-in_default
returns-in_default g c =
    let written = g.W.Sink.written in (
      c.writings_add_up.ensures.less_of_more (written c.args.out.now) (written c.write_all.new.sink) (codes "matter-record 1\n") (event_lines (lines_in c.args.book.now)) c.in_default.ensures.less,
      c.write_all.ensures.cause.rose (search rules),
    )

pub returns : goal.returns
returns g c =
    let written = g.W.Sink.written in
    let faults = g.W.Sink.faults in
    writes-behind c.writings_add_up.ensures (codes "matter-record 1\n") (event_lines (lines_in c.args.book.now)) (written c.args.out.now) (written c.write_all.new.sink) (written c.write_lines.new.out) (faults c.args.out.now) (faults c.write_all.new.sink) (faults c.write_lines.new.out)
    c.in-Ok.ensures.took (c.write_all.ensures.cause.stays (search rules)) c.write_lines.result c.write_lines.ensures

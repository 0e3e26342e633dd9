use Rattle.std.proofs.Common.{rules}
use Rattle.mt_endings.specs.Moments.{input}
use Rattle.mt_endings.proofs.Rows.{unread_too_long}
use Rattle.mt_endings.proofs.reading.read_text.Goals as goal

pub returns-in-Err-TooLong-clause-err : goal.returns-in-Err-TooLong-clause-err
returns-in-Err-TooLong-clause-err g c =
    let left = g.A.Source.left in
    let reads = g.A.Source.faults in
    unread_too_long (input (left c.args.source.now) (reads c.args.source.now)) (input (left c.read_all.new.source) (reads c.read_all.new.source)) (c.read_all.ensures.too_long (search rules))

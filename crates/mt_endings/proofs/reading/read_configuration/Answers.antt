use Rattle.std.proofs.Common.{rules}
use Rattle.mt_model.specs.declared.limits.TheConstants.{CONFIGURATION_BYTES}
use Rattle.mt_endings.specs.Moments.{too_many}
use Rattle.mt_endings.proofs.Rows.{too_many_left, configuration_too_long}
use Rattle.mt_endings.proofs.reading.read_configuration.Goals as goal

pub returns-in-Err-TooLong-clause-err : goal.returns-in-Err-TooLong-clause-err
returns-in-Err-TooLong-clause-err g c =
    let l = too_many_left CONFIGURATION_BYTES (g.C.Source.left c.args.source.now) (c.read_all.ensures.too_long (search rules)) in
    (l.0, too_many l.1 l.2, configuration_too_long l.0 l.2)

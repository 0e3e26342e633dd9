use Rattle.std.proofs.Common.{take}
use Rattle.mt_outside.proofs.Streams.{GavePart-then}
use Rattle.mt_outside.proofs.whole.read_all.Goals as goal

pub returns-then-limit-len-clause-part : goal.returns-then-limit-len-clause-part
returns-then-limit-len-clause-part g c =
    let left = g.A.Source.left in
    GavePart-then (left c.args.source.now) (left c.pieces.source) (left c.read.new.self) c.pieces.all.items (take c.in-Ok.count c.read.new.into) c.pieces.invariant.gave c.in-Ok.ensures.gave

pub returns-then-is_err-clause-part : goal.returns-then-is_err-clause-part
returns-then-is_err-clause-part g c =
    let left = g.A.Source.left in
    GavePart-then (left c.args.source.now) (left c.pieces.source) (left c.read.new.self) c.pieces.all.items (take c.in-Ok.count c.read.new.into) c.pieces.invariant.gave c.in-Ok.ensures.gave

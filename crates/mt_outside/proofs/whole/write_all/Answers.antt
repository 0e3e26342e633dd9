use Rattle.std.proofs.Common.{arith, refl}
use Rattle.std.proofs.lemmas.Result.{err_from_is_err_and}
use Rattle.std.proofs.lemmas.Grind.{common_steps}
use Rattle.mt_outside.proofs.Streams.{Took-next, Took-stopped}
use Rattle.mt_outside.proofs.whole.write_all.Goals as goal

pub returns-in_err-at-clause-less : goal.returns-in_err-at-clause-less
returns-in_err-at-clause-less g c =
    let written = g.W.Sink.written in
    let p = err_from_is_err_and c.from_residual.result c.from_residual.ensures.1 in
    rw p.1 (Took-stopped (written c.args.sink.now) (written c.pieces.sink) (written c.write.new.self) c.pieces.at c.args.bytes.now (omega arith) c.pieces.invariant.took c.in_err-at.ensures.kept)

pub pieces-preserved : goal.pieces-preserved
pieces-preserved g c =
    let written = g.W.Sink.written in
    let e = c.in_ok-at.ensures in
    let i = c.pieces.invariant in
    record {
      took = Took-next (written c.args.sink.now) (written c.pieces.sink) (written c.write.new.self) c.pieces.at c.in_ok-at.field-0 c.args.bytes.now i.took e.took;
      calm = grind (arith, i.calm, e.cause.stays refl);
      within = grind (arith, common_steps, e.within, i.within);
    }

use Rattle.mt_tlv.specs.View.{tree}
use Rattle.mt_soak.proofs.Totals.{counts-read}
use Rattle.mt_soak.proofs.tally.count_payload.Goals as goal

pub returns-in-Ok : goal.returns-in-Ok
returns-in-Ok c = λ statuses are.
    counts-read c.args.opcode c.args.payload.now statuses c.args.counts.now c.count_codes.new.counts c.in-Ok._tag (tree c.in-Ok._value) c.in-Ok._length
    c.in-Ok.ensures.found.1 c.in-Ok.ensures.exact c.count_codes.ensures.counted are

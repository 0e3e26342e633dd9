use Rattle.std.proofs.Common.{◌≡◌, arith, length, ap}
use Rattle.mt_interactions.proofs.Dating.{one_more_dated}
use Rattle.mt_interactions.proofs.sessions.all_dated.Goals as goal

pub loop-payload-preserved : goal.loop-payload-preserved
loop-payload-preserved c =
    let all : length c.deref_mut-payload-items.result.now ≡ length c.args.payloads.items = ap length c.deref_mut-payload-items.ensures.value in
    one_more_dated c.args.until c.args.payloads.items c.loop-payload.payload-items c.loop-payload.payload-index _ _ (omega arith) (omega arith) c.loop-payload.invariant c.date.ensures

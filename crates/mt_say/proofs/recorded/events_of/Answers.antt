use Rattle.std.proofs.Common.{arith}
use Rattle.mt_say.proofs.Heard.{heard_all, heard_more, said_more}
use Rattle.mt_say.proofs.recorded.events_of.Goals as goal

pub loop-saying-preserved : goal.loop-saying-preserved
loop-saying-preserved c =
    let all = c.args.sayings.now in
    let i = c.loop-saying.saying-index in
    let x = c.saying-item.result in record {
      said = rw c.in_ok-push.ensures.items (said_more c.loop-saying.events.items c.in_ok-event_of.field-0 all i x c.loop-saying-test.true c.saying-item.is c.in_ok-event_of.ensures.said c.loop-saying.invariant.said);
      heard = heard_more all i x c.loop-saying-test.true c.saying-item.is c.loop-saying.invariant.heard c.in_ok-event_of.ensures.decoded;
    }

pub returns-clause-heard : goal.returns-clause-heard
returns-clause-heard c = heard_all c.args.sayings.now c.loop-saying.saying-index (omega (arith, c.loop-saying-test.false)) c.loop-saying.invariant.heard

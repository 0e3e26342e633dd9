use Rattle.std.proofs.Common.{◌++◌, take, subst}
use Rattle.std.proofs.lemmas.List.{take_all}
use Rattle.mt_soak.specs.Summary.{AreCountsOf, codes_sent}
use Rattle.mt_soak.proofs.Totals.{codes-step}
use Rattle.mt_soak.proofs.tally.count.Goals as goal

pub each-preserved : goal.each-preserved
each-preserved c = λ statuses are.
    let step = codes-step statuses c.args.sent.now c.each.message-index c.message-item.result c.each-test.true c.message-item.is in
    let told = c.in_ok-count_message.ensures (statuses ++ codes_sent (take c.each.message-index c.args.sent.now)) (c.each.invariant statuses are) in
    subst (λ s. AreCountsOf s c.count_message.new.counts) step told

pub returns : goal.returns
returns c = λ statuses are.
    subst (λ s. AreCountsOf (statuses ++ codes_sent s) c.each.counts) (take_all c.each.message-index c.args.sent.now c.each-test.false) (c.each.invariant statuses are)

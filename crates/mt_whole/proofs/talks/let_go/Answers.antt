use Rattle.std.proofs.Common.{ℕ, arith, set, subst}
use Rattle.mt_whole.specs.Talks.{AreTalks}
use Rattle.mt_whole.proofs.Listed.{all_without, first_without, one_more, one_more_without}
use Rattle.mt_whole.proofs.talks.let_go.Goals as goal

pub loop-talk-preserved : goal.loop-talk-preserved
loop-talk-preserved c ts are =
    subst (λ (n : ℕ). AreTalks (set c.loop-talk.talks c.loop-talk.talk-index c.let_go_if_ended.new.talk) (first_without c.args.closed.now n ts)) (one_more c.loop-talk.talk-index)
    (one_more_without c.args.closed.now c.loop-talk.talk-index c.loop-talk.talks ts c.talk-item.result c.let_go_if_ended.new.talk
    (omega (arith, c.loop-talk-test.true, c.loop-talk.auto.talks))
    (c.loop-talk.invariant ts are) c.let_go_if_ended.ensures)

pub returns : goal.returns
returns c ts are =
    all_without c.args.closed.now c.loop-talk.talk-index c.loop-talk.talks ts (c.loop-talk.invariant ts are)
    (omega (arith, c.loop-talk-test.false, c.loop-talk.auto.talks, c.loop-talk.auto.talk-index-end))

use Rattle.std.proofs.Common.{suc, List, ap, sym, ◌∙◌, arith, get_or, set}
use Rattle.std.proofs.lemmas.Bool.{eq-eqb, ne_eqb}
use Rattle.std.proofs.lemmas.List.{set-get_or}
use Rattle.mt_whole.specs.declared.talks.SessionTalk as code
use Rattle.mt_whole.proofs.Listed.{one_more, put_from, put_here, put_nowhere, put_passed}
use Rattle.mt_whole.proofs.talks.put.Goals as goal

pub loop-talk-preserved : goal.loop-talk-preserved
loop-talk-preserved c =
    let at = c.loop-talk in
    let i = at.talk-index in
    let new = c.args.new in
    ap (λ n. put_from n new (set at.talks i (get_or at.talks i c.talk-item.result))) (sym (one_more i))
    ∙ ap (λ (talks : List code.SessionTalk). put_from (suc i) new talks) (set-get_or at.talks i c.talk-item.result)
    ∙ put_passed new c.talk-item.result i at.talks (omega (arith, c.loop-talk-test.true, at.auto.talks)) (ne_eqb _ _ c.if-talk-new.false)
    ∙ at.invariant

pub returns : goal.returns
returns c = sym (put_nowhere c.args.new c.loop-talk.talk-index c.loop-talk.talks (omega (arith, c.loop-talk-test.false, c.loop-talk.auto.talks))) ∙ c.loop-talk.invariant

pub returns-then-talk-new : goal.returns-then-talk-new
returns-then-talk-new c =
    put_here c.args.new c.talk-item.result c.loop-talk.talk-index c.loop-talk.talks (omega (arith, c.loop-talk-test.true, c.loop-talk.auto.talks)) (eq-eqb _ _ c.if-talk-new.true)
    ∙ c.loop-talk.invariant

use Rattle.std.proofs.Common.{◌≡◌, ℕ, ◌+◌, ◌-◌, ◌∙◌, ap, subst, sym, arith}
use Rattle.mt_model.specs.declared.texts.recording.Event.{Event}
use Rattle.mt_soak.specs.Generated.{State, events_from}
use Rattle.mt_soak.specs.Summary.{IsTallyOf}
use Rattle.mt_top.specs.Begun.{Tells}
use Rattle.mt_top.proofs.Soaks.{Soaking, soak_end, soak_on}
use Rattle.mt_top.proofs.soaking.tell_all.Goals as goal

pub loop-done-preserved : goal.loop-done-preserved
loop-done-preserved g c =
    let l = c.loop-done in
    let all = events_from c.args.generator.now c.args.count in
    let state = l.generator in
    let left = c.args.count - (l.done + 1) in
    let more : c.args.count - l.done ≡ left + 1 = omega (arith, c.loop-done-test.true) in
    record {
      soaking = λ begun stands tallied.
          let here = subst (λ (n : ℕ). Soaking begun all l.player l.tally state n) more (l.invariant.soaking begun stands tallied) in
          let tells = subst (λ (e : Event). Tells here.at here.told c.tell.new.player c.tell.new.tally e) c.in_ok-event.ensures.event (c.in_ok-tell.ensures.tells here.at here.told here.stands here.tallied) in
          subst (λ (s : State). Soaking begun all c.tell.new.player c.tell.new.tally s left) (sym c.in_ok-event.ensures.behind)
          (soak_on begun all l.player c.tell.new.player l.tally c.tell.new.tally state left (c.events_come_one_by_one.ensures.first state left) here tells);
      journal = c.in_ok-tell.ensures.journal;
      answered = c.in_ok-event.ensures.counted ∙ ap (λ (n : ℕ). n + 1) l.invariant.answered;
    }

pub returns : goal.returns
returns g c = λ begun stands tallied.
    let l = c.loop-done in
    let all = events_from c.args.generator.now c.args.count in
    let none : c.args.count - l.done ≡ 0 = omega arith in
    let end = subst (λ (n : ℕ). Soaking begun all l.player l.tally l.generator n) none (l.invariant.soaking begun stands tallied) in
    subst (IsTallyOf l.tally) (sym (soak_end begun all l.player l.tally l.generator end)) end.tallied

use Rattle.std.proofs.Common.{◌≡◌, ℕ, ◌+◌, ◌-◌, ◌^◌, min, ap, map, sym, ◌∙◌}
use Rattle.mt_whole.specs.mt_machine.State.{State}
use Rattle.mt_whole.specs.mt_runs.Course.{Going}
use Rattle.mt_whole.specs.mt_runs.Whole.{begun_in}
use Rattle.mt_whole.specs.mt_marks.Remembered.{remembered}
use Rattle.mt_play.proofs.Begins.{next_is, reopens, surviving_boot}
use Rattle.mt_play.proofs.remembering.Remembering.begin_again.Goals as goal

pub returns-clause-steps : goal.returns-clause-steps
returns-clause-steps c given sessions g event is plan =
    let next = c.saturating_add-next.result in
    let new = c.carry_out.new.self in
    let boot = g.whole.state.node.boot in
    let steps = c.in_ok-sent.ensures.steps given sessions g event is.playing plan in
    let reopens_to = reopens given sessions g event c.args.planned.course plan.course c.requires.stops in
    let was : c.boot.result ≡ boot = c.boot.ensures given sessions g is.playing in
    let survives = surviving_boot c.raised_ceilings_come_first.ensures.boot given g.whole event reopens_to.survived in
    let later : new.whole.interactions.state.node.boot ≡ boot + 1 =
    ap (λ (s : State). s.node.boot) steps.stands.whole.state
    ∙ ap (λ (h : Going). h.whole.state.node.boot) reopens_to.stepped_is
    ∙ ap (λ (n : ℕ). n + 1) survives in
    let number : next ≡ boot + 1 =
    next_is boot new.whole.interactions.state.node.boot next (c.saturating_add-next.ensures ∙ ap (λ (n : ℕ). min (n + 1) (2 ^ 32 - 1)) was) later c.in_ok-sent.ensures.journal.valid.boot_fits in
    let rows = c.as_slice.ensures ∙ is.playing.rows in
    record {
      sent = steps.sent;
      stands = record {
        playing = steps.stands;
        told =
            c.in_ok-told.ensures
            ∙ (λ i. map remembered (begun_in (number i) (rows i)))
            ∙ ap (λ (n : ℕ). map remembered (begun_in (n + 1) sessions)) (sym survives)
            ∙ ap (λ (h : Going). map remembered h.whole.talks) (sym reopens_to.stepped_is);
      };
    }

use Rattle.std.proofs.Common.{sym, ◌∙◌}
use Rattle.mt_model.specs.declared.texts.recording.Event.TheVariants.{Tick}
use Rattle.mt_runs.specs.Isolation.{own_part, seen_whole}
use Rattle.mt_runs.specs.LineLaws.{WholeTicksOnTheVeil}
use Rattle.mt_runs.specs.Lines.{next}
use Rattle.mt_runs.proofs.Keeping.{ticks_spare}
use Rattle.mt_runs.proofs.Leaving.{ticks_on_veil}
use Rattle.mt_runs.proofs.lines.ticks_see_the_mark_alone.Goals as goal

pub returns-clause-others : goal.returns-clause-others
returns-clause-others c = λ given fabric w ms valid some added updated.
    ticks_spare c.sessions_keep_their_ids.ensures given fabric w valid c.ticks_let_the_failsafe_expire.ensures.others c.others_ledgers_are_kept.ensures.tick ms some added updated

pub returns-clause-veil : goal.returns-clause-veil
returns-clause-veil c = λ given fabric w ms valid.
    ticks_on_veil c.sessions_keep_their_ids.ensures given w valid c.ticks_let_the_failsafe_expire.ensures.veil c.ledgers_are_left_on_the_veil.ensures.tick fabric ms

pub returns-clause-mark : goal.returns-clause-mark
returns-clause-mark c = λ given fabric w v ms valid_w valid_v own public.
    let on_veil : WholeTicksOnTheVeil = returns-clause-veil c in
    sym (on_veil given fabric w ms valid_w)
    ∙ (λ i. own_part fabric (next given (seen_whole fabric (own i) (public i)) (Tick ms)))
    ∙ on_veil given fabric v ms valid_v

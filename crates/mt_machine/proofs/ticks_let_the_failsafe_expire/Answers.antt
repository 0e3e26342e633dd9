use Rattle.std.proofs.Common.{arith, sym, ◌∙◌}
use Rattle.mt_model.specs.declared.texts.recording.Event.TheVariants.{Tick}
use Rattle.mt_machine.specs.Isolation.{own_of_whole, whole_of}
use Rattle.mt_machine.specs.Lines.{plain_next}
use Rattle.mt_machine.proofs.Expired.{gone_by_expiry, passes, rolls, ticks_spare}
use Rattle.mt_machine.proofs.Ticks.{ticks_on_veil}
use Rattle.mt_machine.proofs.ticks_let_the_failsafe_expire.Goals as goal

pub returns-clause-due : goal.returns-clause-due
returns-clause-due c = rolls

pub returns-clause-otherwise : goal.returns-clause-otherwise
returns-clause-otherwise c = passes

pub returns-clause-gone : goal.returns-clause-gone
returns-clause-gone c = gone_by_expiry

pub returns-clause-others : goal.returns-clause-others
returns-clause-others c = λ given fabric.
    ticks_spare c.what_stays_stands_in_order.ensures.rows c.what_stays_stands_in_order.ensures.entries
    c.set_rows_stand_in_order.ensures.ascending c.set_rows_stand_in_order.ensures.others
    (λ es new whose. c.set_entries_stand_in_order.ensures.ascending es new 0 whose (omega arith)) c.set_entries_stand_in_order.ensures.others fabric given

pub returns-clause-veil : goal.returns-clause-veil
returns-clause-veil c = λ given fabric s ms valid. ticks_on_veil fabric given s ms valid

pub returns-clause-mark : goal.returns-clause-mark
returns-clause-mark c = λ given fabric s t ms valid_s valid_t own public.
    sym (ticks_on_veil fabric given s ms valid_s)
    ∙ (λ i. own_of_whole fabric (plain_next given (whole_of fabric (own i) (public i)) (Tick ms)))
    ∙ ticks_on_veil fabric given t ms valid_t

use Rattle.std.proofs.Common.{◌≡◌, Option, Some, None, map, sym, ap, subst, ◌∙◌}
use Rattle.std.specs.List.{find}
use Rattle.std.specs.Option.{option_copied}
use Rattle.mt_interactions.specs.mt_runs.Datagrams.{resent_talk}
use Rattle.mt_interactions.specs.mt_runs.Lines.{talks_behind, with_next}
use Rattle.mt_interactions.specs.mt_runs.Whole.{SessionTalk}
use Rattle.mt_interactions.specs.mt_machine.State.{State}
use Rattle.mt_model.specs.declared.texts.recording.Event.TheVariants.{Resend}
use Rattle.mt_marks.specs.Noted.{noted_if}
use Rattle.mt_marks.specs.Remembered.{remembered}
use Rattle.mt_marks.specs.declared.shown.Note.{Note}
use Rattle.mt_whole.specs.Noting.{IsNoteOf}
use Rattle.mt_whole.specs.Talks.{is_code_of}
use Rattle.mt_whole.proofs.Noted.{noted_over}
use Rattle.mt_whole.proofs.Planned.{if_ok, one_found}
use Rattle.mt_whole.proofs.noting.noted_resend.Goals as goal

pub returns-in-Some : goal.returns-in-Some
returns-in-Some c given w is =
    let whole = c.args.whole.now in
    let ms = c.args.ms in
    let id = c.args.session in
    let found = one_found id (Some c.in-Some.talk.now) whole.talks.items w.talks (ap option_copied (sym c.in-Some.is) ∙ c.talk_of.ensures ∙ ap (find (is_code_of id)) c.deref.ensures.value) is.talks in
    if_ok c.noted_again.result (λ (note : Option Note). IsNoteOf note found.0 (resent_talk whole.interactions.state.node ms found.0)) (λ (note : Option Note). noted_if note (map remembered w.talks) ≡ map remembered (talks_behind given w (Resend ms id)))
    (λ note noted. noted_over id found.0 w.talks note (resent_talk w.state.node ms) found.1 (subst (λ (s : State). IsNoteOf note found.0 (resent_talk s.node ms found.0)) is.state noted))
    (c.noted_again.ensures found.0 found.2)

pub returns-in-None : goal.returns-in-None
returns-in-None c given w is =
    let whole = c.args.whole.now in
    let ms = c.args.ms in
    let id = c.args.session in
    let none = one_found id None whole.talks.items w.talks (ap option_copied (sym c.in-None.is) ∙ c.talk_of.ensures ∙ ap (find (is_code_of id)) c.deref.ensures.value) is.talks in
    sym (ap (λ (o : Option SessionTalk). map remembered (with_next (resent_talk w.state.node ms) o w.talks)) none)

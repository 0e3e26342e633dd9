use Rattle.std.proofs.Common.{◌≡◌, ℕ, List, Option, Some, None, map, sym, ap, subst, ◌∙◌}
use Rattle.std.specs.List.{find}
use Rattle.std.specs.Option.{option_copied}
use Rattle.mt_interactions.specs.mt_machine.State.{State}
use Rattle.mt_interactions.specs.mt_ledger.Ledger.{Ledger}
use Rattle.mt_interactions.specs.mt_ledger.Reporting.{due_now}
use Rattle.mt_talk.specs.Talks.{after_report}
use Rattle.mt_interactions.specs.mt_runs.Lines.{talks_behind}
use Rattle.mt_model.specs.declared.messages.message.Payload.{Payload}
use Rattle.mt_model.specs.declared.texts.recording.Event.TheVariants.{Report}
use Rattle.mt_interactions.specs.Reporting.{reported_over}
use Rattle.mt_marks.specs.Noted.{noted_if}
use Rattle.mt_marks.specs.Remembered.{remembered}
use Rattle.mt_marks.specs.declared.shown.Note.{Note}
use Rattle.mt_whole.specs.Noting.{IsNoteOf}
use Rattle.mt_whole.specs.Plan.{given_to}
use Rattle.mt_whole.specs.Talks.{is_code_of}
use Rattle.mt_whole.proofs.Noted.{nobody_told, none_reported, told_noted}
use Rattle.mt_whole.proofs.Planned.{if_ok, one_found}
use Rattle.mt_whole.proofs.noting.noted_report.Goals as goal

-- what is due of the written state and ledger
due_as : (s t : State) (l k : Ledger) (ms fabric id : ℕ) (over : Option (ℕ × List Payload)) → s ≡ t → l ≡ k → reported_over s.node l.history fabric id (due_now s.node l ms fabric id) ≡ over
    → reported_over t.node k.history fabric id (due_now t.node k ms fabric id) ≡ over
due_as s t l k ms fabric id over state ledger due =
    subst (λ (x : State × Ledger). reported_over x.0.node x.1.history fabric id (due_now x.0.node x.1 ms fabric id) ≡ over) (λ i. (state i, ledger i)) due

pub returns-in_default : goal.returns-in_default
returns-in_default g c w is =
    let verdicts = c.args.verdicts.now in
    let whole = c.args.whole.now in
    let given = given_to whole (g.V.Verdicts.roots verdicts) (g.V.Verdicts.csrs verdicts) (g.V.Verdicts.joins verdicts) in
    let due = due_as whole.interactions.state w.state whole.interactions.ledger w.ledger c.args.ms c.args.fabric c.args.subscription None is.state is.ledger (sym c.in_ok-over.ensures.over ∙ c.in_default.is) in
    none_reported given w c.args.ms c.args.fabric c.args.subscription due

pub returns-in-Some-talk_of : goal.returns-in-Some-talk_of
returns-in-Some-talk_of g c w is =
    let verdicts = c.args.verdicts.now in
    let whole = c.args.whole.now in
    let given = given_to whole (g.V.Verdicts.roots verdicts) (g.V.Verdicts.csrs verdicts) (g.V.Verdicts.joins verdicts) in
    let ms = c.args.ms in
    let fabric = c.args.fabric in
    let id = c.args.subscription in
    let session = c.in-Some.session in
    let payloads = c.in-Some.payloads in
    let due = due_as whole.interactions.state w.state whole.interactions.ledger w.ledger ms fabric id (Some (session, payloads)) is.state is.ledger (sym c.in_ok-over.ensures.over ∙ c.in-Some.is) in
    let talk = c.in-Some-talk_of.talk.now in
    let looked : Some talk ≡ find (is_code_of session) whole.talks.items = ap option_copied (sym c.in-Some-talk_of.is) ∙ c.talk_of.ensures ∙ ap (find (is_code_of session)) c.deref.ensures.value in
    let found = one_found session (Some talk) whole.talks.items w.talks looked is.talks in
    if_ok c.noted_over.result (λ (note : Option Note). IsNoteOf note found.0 (after_report found.0.row id payloads ms found.0.talk)) (λ (note : Option Note). noted_if note (map remembered w.talks) ≡ map remembered (talks_behind given w (Report ms fabric id)))
    (λ note noted. told_noted given w ms fabric id session payloads found.0 note due found.1 noted) (c.noted_over.ensures found.0 found.2)

pub returns-in-None : goal.returns-in-None
returns-in-None g c w is =
    let verdicts = c.args.verdicts.now in
    let whole = c.args.whole.now in
    let given = given_to whole (g.V.Verdicts.roots verdicts) (g.V.Verdicts.csrs verdicts) (g.V.Verdicts.joins verdicts) in
    let ms = c.args.ms in
    let fabric = c.args.fabric in
    let id = c.args.subscription in
    let session = c.in-Some.session in
    let payloads = c.in-Some.payloads in
    let due = due_as whole.interactions.state w.state whole.interactions.ledger w.ledger ms fabric id (Some (session, payloads)) is.state is.ledger (sym c.in_ok-over.ensures.over ∙ c.in-Some.is) in
    let looked : None ≡ find (is_code_of session) whole.talks.items = ap option_copied (sym c.in-None.is) ∙ c.talk_of.ensures ∙ ap (find (is_code_of session)) c.deref.ensures.value in
    nobody_told given w ms fabric id session payloads due (one_found session None whole.talks.items w.talks looked is.talks)

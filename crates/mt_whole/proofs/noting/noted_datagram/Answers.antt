use Rattle.std.proofs.Common.{◌≡◌, ℕ, Option, Some, None, map, sym, ap, subst, ◌∙◌}
use Rattle.std.specs.List.{find}
use Rattle.std.specs.Option.{option_copied}
use Rattle.mt_interactions.specs.mt_machine.State.{State}
use Rattle.mt_interactions.specs.mt_ledger.Ledger.{Ledger}
use Rattle.mt_interactions.specs.mt_runs.Datagrams.{session_named, talked}
use Rattle.mt_interactions.specs.mt_runs.Lines.{with_next}
use Rattle.mt_interactions.specs.mt_runs.Whole.{SessionTalk, talk_of}
use Rattle.mt_marks.specs.Remembered.{remembered}
use Rattle.mt_whole.specs.Noting.{IsNoteOf}
use Rattle.mt_whole.specs.Plan.{given_to}
use Rattle.mt_whole.specs.Talks.{is_code_of}
use Rattle.mt_whole.proofs.Noted.{noted_over}
use Rattle.mt_whole.proofs.Planned.{one_found}
use Rattle.mt_whole.proofs.noting.noted_datagram.Goals as goal

pub returns-in_default : goal.returns-in_default
returns-in_default g c w is =
    let verdicts = c.args.verdicts.now in
    let whole = c.args.whole.now in
    let given = given_to whole (g.V.Verdicts.roots verdicts) (g.V.Verdicts.csrs verdicts) (g.V.Verdicts.joins verdicts) in
    let bytes = c.args.bytes.now in
    let none : talk_of (session_named bytes) w.talks ≡ None = ap (λ (n : Option ℕ). talk_of n w.talks) (ap session_named (sym c.as_slice.ensures) ∙ sym c.session_named.ensures.exact ∙ c.in_default.is) in
    sym (ap (λ (o : Option SessionTalk). map remembered (with_next (talked given w.state.node w.ledger c.args.ms c.args.from bytes) o w.talks)) none)

pub returns-in_ok-noted_heard-in-Some-talk_of : goal.returns-in_ok-noted_heard-in-Some-talk_of
returns-in_ok-noted_heard-in-Some-talk_of g c w is =
    let verdicts = c.args.verdicts.now in
    let whole = c.args.whole.now in
    let given = given_to whole (g.V.Verdicts.roots verdicts) (g.V.Verdicts.csrs verdicts) (g.V.Verdicts.joins verdicts) in
    let ms = c.args.ms in
    let bytes = c.args.bytes.now in
    let from = c.args.from in
    let id = c.in-Some.id in
    let named : session_named bytes ≡ Some id = ap session_named (sym c.as_slice.ensures) ∙ sym c.session_named.ensures.exact ∙ c.in-Some.is in
    let looked : Some c.in-Some-talk_of.talk.now ≡ find (is_code_of id) whole.talks.items = ap option_copied (sym c.in-Some-talk_of.is) ∙ c.talk_of.ensures ∙ ap (find (is_code_of id)) c.deref.ensures.value in
    let found = one_found id (Some c.in-Some-talk_of.talk.now) whole.talks.items w.talks looked is.talks in
    let note = Some c.in_ok-noted_heard-in-Some-talk_of.field-0 in
    let noted : IsNoteOf note found.0 (talked given w.state.node w.ledger ms from bytes found.0) =
    subst (λ (x : State × Ledger). IsNoteOf note found.0 (talked given x.0.node x.1 ms from bytes found.0)) (λ i. (is.state i, is.ledger i)) (c.in_ok-noted_heard-in-Some-talk_of.ensures found.0 found.2) in
    noted_over id found.0 w.talks note (talked given w.state.node w.ledger ms from bytes) found.1 noted
    ∙ ap (λ (n : Option ℕ). map remembered (with_next (talked given w.state.node w.ledger ms from bytes) (talk_of n w.talks) w.talks)) (sym named)

pub returns-in-None : goal.returns-in-None
returns-in-None g c w is =
    let verdicts = c.args.verdicts.now in
    let whole = c.args.whole.now in
    let given = given_to whole (g.V.Verdicts.roots verdicts) (g.V.Verdicts.csrs verdicts) (g.V.Verdicts.joins verdicts) in
    let bytes = c.args.bytes.now in
    let id = c.in-Some.id in
    let looked : None ≡ find (is_code_of id) whole.talks.items = ap option_copied (sym c.in-None.is) ∙ c.talk_of.ensures ∙ ap (find (is_code_of id)) c.deref.ensures.value in
    let none : talk_of (session_named bytes) w.talks ≡ None =
    ap (λ (n : Option ℕ). talk_of n w.talks) (ap session_named (sym c.as_slice.ensures) ∙ sym c.session_named.ensures.exact ∙ c.in-Some.is) ∙ one_found id None whole.talks.items w.talks looked is.talks in
    sym (ap (λ (o : Option SessionTalk). map remembered (with_next (talked given w.state.node w.ledger c.args.ms c.args.from bytes) o w.talks)) none)

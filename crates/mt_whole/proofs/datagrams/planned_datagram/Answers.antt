use Rattle.std.proofs.Common.{◌≡◌, ℕ, Option, Some, None, sym, ap, subst, ◌∙◌}
use Rattle.std.specs.List.{find}
use Rattle.std.specs.Option.{option_copied}
use Rattle.mt_interactions.specs.mt_machine.State.{State}
use Rattle.mt_interactions.specs.mt_ledger.Ledger.{Ledger}
use Rattle.mt_model.specs.declared.texts.recording.Event.TheVariants.{Datagram}
use Rattle.mt_interactions.specs.mt_runs.Datagrams.{session_named}
use Rattle.mt_interactions.specs.mt_runs.Whole.{talk_of}
use Rattle.mt_whole.specs.Plan.{IsHeard, IsQuiet, IsPlan, given_to}
use Rattle.mt_whole.specs.Talks.{is_code_of}
use Rattle.mt_whole.proofs.Planned.{heard_as_planned, if_ok, one_found, unheard}
use Rattle.mt_whole.proofs.datagrams.planned_datagram.Goals as goal

pub returns-in_default-clause-plan : goal.returns-in_default-clause-plan
returns-in_default-clause-plan g c w is =
    let verdicts = c.args.verdicts.now in
    let whole = c.args.whole.now in
    let given = given_to whole (g.V.Verdicts.roots verdicts) (g.V.Verdicts.csrs verdicts) (g.V.Verdicts.joins verdicts) in
    let ms = c.args.ms in
    let bytes = c.args.bytes.now in
    let from = c.args.from in
    let none : talk_of (session_named bytes) w.talks ≡ None = ap (λ (n : Option ℕ). talk_of n w.talks) (ap session_named (sym c.as_slice.ensures) ∙ sym c.session_named.ensures.exact ∙ c.in_default.is) in
    if_ok c.quiet.result (IsQuiet given whole.interactions.state whole.interactions.ledger ms) (IsPlan given w (Datagram ms from bytes))
    (λ outcome quiet. unheard given w ms from bytes outcome none (subst (λ (x : State × Ledger). IsQuiet given x.0 x.1 ms outcome) (λ i. (is.state i, is.ledger i)) quiet))
    c.quiet.ensures

pub returns-in-Some-talk_of-clause-plan : goal.returns-in-Some-talk_of-clause-plan
returns-in-Some-talk_of-clause-plan g c w is =
    let verdicts = c.args.verdicts.now in
    let whole = c.args.whole.now in
    let given = given_to whole (g.V.Verdicts.roots verdicts) (g.V.Verdicts.csrs verdicts) (g.V.Verdicts.joins verdicts) in
    let ms = c.args.ms in
    let bytes = c.args.bytes.now in
    let from = c.args.from in
    let id = c.in-Some.id in
    let named : session_named bytes ≡ Some id = ap session_named (sym c.as_slice.ensures) ∙ sym c.session_named.ensures.exact ∙ c.in-Some.is in
    let looked : Some c.in-Some-talk_of.talk.now ≡ find (is_code_of id) whole.talks.items = ap option_copied (sym c.in-Some-talk_of.is) ∙ c.talk_of.ensures ∙ ap (find (is_code_of id)) c.deref.ensures.value in
    let found = one_found id (Some c.in-Some-talk_of.talk.now) whole.talks.items w.talks looked is.talks in
    if_ok c.planned_heard.result (IsHeard given whole.interactions.state whole.interactions.ledger ms from bytes found.0) (IsPlan given w (Datagram ms from bytes))
    (λ outcome hears. heard_as_planned given w ms from bytes id found.0 outcome named found.1 (subst (λ (x : State × Ledger). IsHeard given x.0 x.1 ms from bytes found.0 outcome) (λ i. (is.state i, is.ledger i)) hears))
    (c.planned_heard.ensures.heard found.0 found.2)

pub returns-in-None-clause-plan : goal.returns-in-None-clause-plan
returns-in-None-clause-plan g c w is =
    let verdicts = c.args.verdicts.now in
    let whole = c.args.whole.now in
    let given = given_to whole (g.V.Verdicts.roots verdicts) (g.V.Verdicts.csrs verdicts) (g.V.Verdicts.joins verdicts) in
    let ms = c.args.ms in
    let bytes = c.args.bytes.now in
    let from = c.args.from in
    let id = c.in-Some.id in
    let looked : None ≡ find (is_code_of id) whole.talks.items = ap option_copied (sym c.in-None.is) ∙ c.talk_of.ensures ∙ ap (find (is_code_of id)) c.deref.ensures.value in
    let none : talk_of (session_named bytes) w.talks ≡ None =
    ap (λ (n : Option ℕ). talk_of n w.talks) (ap session_named (sym c.as_slice.ensures) ∙ sym c.session_named.ensures.exact ∙ c.in-Some.is) ∙ one_found id None whole.talks.items w.talks looked is.talks in
    if_ok c.quiet-in-None.result (IsQuiet given whole.interactions.state whole.interactions.ledger ms) (IsPlan given w (Datagram ms from bytes))
    (λ outcome quiet. unheard given w ms from bytes outcome none (subst (λ (x : State × Ledger). IsQuiet given x.0 x.1 ms outcome) (λ i. (is.state i, is.ledger i)) quiet))
    c.quiet-in-None.ensures

use Rattle.std.proofs.Common.{Some, None, sym, ap, subst, ◌∙◌}
use Rattle.std.specs.List.{find}
use Rattle.std.specs.Option.{option_copied}
use Rattle.mt_whole.specs.Talks.{is_code_of}
use Rattle.mt_interactions.specs.mt_machine.State.{State}
use Rattle.mt_interactions.specs.mt_ledger.Ledger.{Ledger}
use Rattle.mt_model.specs.declared.texts.recording.Event.TheVariants.{Resend}
use Rattle.mt_whole.specs.Plan.{IsAgain, IsQuiet, IsPlan, given_to}
use Rattle.mt_whole.proofs.Planned.{again_as_planned, if_ok, one_found, unsent}
use Rattle.mt_whole.proofs.resends.planned_resend.Goals as goal

pub returns-in-Some-clause-plan : goal.returns-in-Some-clause-plan
returns-in-Some-clause-plan g c w is =
    let verdicts = c.args.verdicts.now in
    let whole = c.args.whole.now in
    let given = given_to whole (g.V.Verdicts.roots verdicts) (g.V.Verdicts.csrs verdicts) (g.V.Verdicts.joins verdicts) in
    let ms = c.args.ms in
    let id = c.args.session in
    let found = one_found id (Some c.in-Some.talk.now) whole.talks.items w.talks (ap option_copied (sym c.in-Some.is) ∙ c.talk_of.ensures ∙ ap (find (is_code_of id)) c.deref.ensures.value) is.talks in
    if_ok c.planned_again.result (IsAgain given whole.interactions.state whole.interactions.ledger ms found.0) (IsPlan given w (Resend ms id))
    (λ outcome again. again_as_planned given w ms id found.0 outcome found.1 (subst (λ (x : State × Ledger). IsAgain given x.0 x.1 ms found.0 outcome) (λ i. (is.state i, is.ledger i)) again))
    (c.planned_again.ensures.again found.0 found.2)

pub returns-in-None-clause-plan : goal.returns-in-None-clause-plan
returns-in-None-clause-plan g c w is =
    let verdicts = c.args.verdicts.now in
    let whole = c.args.whole.now in
    let given = given_to whole (g.V.Verdicts.roots verdicts) (g.V.Verdicts.csrs verdicts) (g.V.Verdicts.joins verdicts) in
    let ms = c.args.ms in
    let id = c.args.session in
    let found = one_found id None whole.talks.items w.talks (ap option_copied (sym c.in-None.is) ∙ c.talk_of.ensures ∙ ap (find (is_code_of id)) c.deref.ensures.value) is.talks in
    if_ok c.quiet.result (IsQuiet given whole.interactions.state whole.interactions.ledger ms) (IsPlan given w (Resend ms id))
    (λ outcome quiet. unsent given w ms id outcome found (subst (λ (x : State × Ledger). IsQuiet given x.0 x.1 ms outcome) (λ i. (is.state i, is.ledger i)) quiet))
    c.quiet.ensures

use Rattle.std.proofs.Common.{◌≡◌, Some, None, sym, ap, subst, ◌∙◌}
use Rattle.std.specs.List.{find}
use Rattle.std.specs.Option.{option_copied}
use Rattle.mt_interactions.specs.mt_machine.State.{State}
use Rattle.mt_interactions.specs.mt_ledger.Ledger.{Ledger}
use Rattle.mt_model.specs.declared.texts.recording.Event.TheVariants.{Report}
use Rattle.mt_whole.specs.declared.outcome.WholeOutcome.{WholeOutcome}
use Rattle.mt_whole.specs.Plan.{IsPlan, IsPlanned, IsToldOver, given_to}
use Rattle.mt_whole.specs.Talks.{is_code_of}
use Rattle.mt_whole.proofs.Planned.{IsReported, if_ok, if_ok_both, one_found, planned_so, reported_as_planned, reported_at_once, reported_to_nobody}
use Rattle.mt_whole.proofs.reports.planned_report.Goals as goal

pub returns-in_default : goal.returns-in_default
returns-in_default g c =
    let verdicts = c.args.verdicts.now in
    let whole = c.args.whole.now in
    let given = given_to whole (g.V.Verdicts.roots verdicts) (g.V.Verdicts.csrs verdicts) (g.V.Verdicts.joins verdicts) in
    let ms = c.args.ms in
    let fabric = c.args.fabric in
    let id = c.args.subscription in
    let sent = c.in_ok-over.sent in
    let interactions = c.in_ok-over.interactions in
    let made : IsReported given whole.interactions.state whole.interactions.ledger ms fabric id None sent interactions = record {
      due = sym c.in_default.is ∙ c.in_ok-over.ensures.over;
      sent = c.in_ok-over.ensures.sent;
      done = c.in_ok-over.ensures.outcome;
    } in
    record {
      planned = planned_so whole.interactions.state whole.interactions.ledger interactions c.plainly.result c.plainly.ensures.interactions made.done.planned;
      plan = λ w is. reported_at_once given w ms fabric id sent interactions c.plainly.result (subst (λ (x : State × Ledger). IsReported given x.0 x.1 ms fabric id None sent interactions) (λ i. (is.state i, is.ledger i)) made) c.plainly.ensures;
    }

pub returns-in-Some-talk_of : goal.returns-in-Some-talk_of
returns-in-Some-talk_of g c =
    let verdicts = c.args.verdicts.now in
    let whole = c.args.whole.now in
    let given = given_to whole (g.V.Verdicts.roots verdicts) (g.V.Verdicts.csrs verdicts) (g.V.Verdicts.joins verdicts) in
    let s = whole.interactions.state in
    let l = whole.interactions.ledger in
    let ms = c.args.ms in
    let fabric = c.args.fabric in
    let id = c.args.subscription in
    let sent = c.in_ok-over.sent in
    let interactions = c.in_ok-over.interactions in
    let session = c.in-Some.session in
    let payloads = c.in-Some.payloads in
    let made : IsReported given s l ms fabric id (Some (session, payloads)) sent interactions = record {
      due = sym c.in-Some.is ∙ c.in_ok-over.ensures.over;
      sent = c.in_ok-over.ensures.sent;
      done = c.in_ok-over.ensures.outcome;
    } in
    let talk = c.in-Some-talk_of.talk.now in
    let looked : Some talk ≡ find (is_code_of session) whole.talks.items = ap option_copied (sym c.in-Some-talk_of.is) ∙ c.talk_of.ensures ∙ ap (find (is_code_of session)) c.deref.ensures.value in
    record {
      planned = if_ok c.told_over.result (λ (outcome : WholeOutcome). outcome.interactions ≡ interactions) (IsPlanned s l) (λ outcome same. planned_so s l interactions outcome same made.done.planned) c.told_over.ensures.interactions;
      plan = λ w is.
          let found = one_found session (Some talk) whole.talks.items w.talks looked is.talks in
          if_ok_both c.told_over.result (λ (outcome : WholeOutcome). outcome.interactions ≡ interactions) (IsToldOver ms id payloads found.0) (IsPlan given w (Report ms fabric id))
          (λ outcome same told. reported_as_planned given w ms fabric id session payloads sent interactions found.0 outcome (subst (λ (x : State × Ledger). IsReported given x.0 x.1 ms fabric id (Some (session, payloads)) sent interactions) (λ i. (is.state i, is.ledger i)) made) found.1 same told)
          c.told_over.ensures.interactions (c.told_over.ensures.over found.0 found.2);
    }

pub returns-in-None : goal.returns-in-None
returns-in-None g c =
    let verdicts = c.args.verdicts.now in
    let whole = c.args.whole.now in
    let given = given_to whole (g.V.Verdicts.roots verdicts) (g.V.Verdicts.csrs verdicts) (g.V.Verdicts.joins verdicts) in
    let s = whole.interactions.state in
    let l = whole.interactions.ledger in
    let ms = c.args.ms in
    let fabric = c.args.fabric in
    let id = c.args.subscription in
    let sent = c.in_ok-over.sent in
    let interactions = c.in_ok-over.interactions in
    let session = c.in-Some.session in
    let payloads = c.in-Some.payloads in
    let made : IsReported given s l ms fabric id (Some (session, payloads)) sent interactions = record {
      due = sym c.in-Some.is ∙ c.in_ok-over.ensures.over;
      sent = c.in_ok-over.ensures.sent;
      done = c.in_ok-over.ensures.outcome;
    } in
    let looked : None ≡ find (is_code_of session) whole.talks.items = ap option_copied (sym c.in-None.is) ∙ c.talk_of.ensures ∙ ap (find (is_code_of session)) c.deref.ensures.value in
    record {
      planned = planned_so s l interactions c.plainly-in-None.result c.plainly-in-None.ensures.interactions made.done.planned;
      plan = λ w is. reported_to_nobody given w ms fabric id session payloads sent interactions c.plainly-in-None.result (subst (λ (x : State × Ledger). IsReported given x.0 x.1 ms fabric id (Some (session, payloads)) sent interactions) (λ i. (is.state i, is.ledger i)) made)
          c.plainly-in-None.ensures (one_found session None whole.talks.items w.talks looked is.talks);
    }

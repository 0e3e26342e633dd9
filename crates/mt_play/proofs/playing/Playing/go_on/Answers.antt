use Rattle.std.proofs.Common.{◌≡◌, ◌≤◌, ◌^◌, ◌∙◌, ℕ, List, Option, Some, ap, refl, subst, sym}
use Rattle.std.specs.Prelude.{IfSome}
use Rattle.mt_durable.specs.Keeping.{WasOrCommitted}
use Rattle.mt_keeping.specs.States.{told_map}
use Rattle.mt_whole.specs.mt_lasting.Contents.{durable}
use Rattle.mt_whole.specs.mt_machine.State.{IsValid}
use Rattle.mt_whole.specs.mt_interactions.Configured as configured
use Rattle.mt_whole.specs.mt_interactions.Configured.{ConfiguredInteractions}
use Rattle.mt_whole.specs.mt_interactions.Plan.{applied_ledger, applied_state}
use Rattle.mt_whole.specs.Plan.{IsPlanned}
use Rattle.mt_whole.specs.Talks.{IsWholeOf}
use Rattle.mt_whole.specs.declared.outcome.WholeOutcome.{WholeOutcome}
use Rattle.mt_play.specs.Journal.{Keeps}
use Rattle.mt_play.specs.Plays.{Brings, HasChangeOrNot}
use Rattle.mt_play.proofs.Committing.{fits_behind, keeps_behind, may_commit, valid_behind}
use Rattle.mt_play.proofs.Coursing.{no_outcome, none_is, on_err, sends_nothing}
use Rattle.mt_play.proofs.playing.Playing.go_on.Goals as goal

pub commit_if_any-requires : goal.commit_if_any-requires
commit_if_any-requires c =
    let self = c.args.self.now in
    let interactions = self.whole.interactions in
    let planned = subst (λ (o : Option WholeOutcome). IfSome o (IsPlanned interactions.state interactions.ledger)) c.in-Some.is c.requires.made in
    may_commit c.commits_lead_on.ensures c.states_may_be_committed.ensures.may c.maps_are_maps.ensures interactions.state interactions.ledger c.in-Some.outcome.interactions planned
    c.change.result.now c.change.ensures self.store c.requires.journal.keeps

pub apply-requires : goal.apply-requires
apply-requires c =
    let interactions = c.args.self.now.whole.interactions in
    let planned = subst (λ (o : Option WholeOutcome). IfSome o (IsPlanned interactions.state interactions.ledger)) c.in-Some.is c.requires.made in
    subst (IsPlanned interactions.state interactions.ledger) (sym c.take_sent-sent.ensures.stays) planned

pub returns-clause-journal : goal.returns-clause-journal
returns-clause-journal c =
    let self = c.args.self.now in
    let interactions = self.whole.interactions in
    let outcome = c.in-Some.outcome in
    let planned = subst (λ (o : Option WholeOutcome). IfSome o (IsPlanned interactions.state interactions.ledger)) c.in-Some.is c.requires.made in
    let lead = c.commits_lead_on.ensures in
    let may = c.states_may_be_committed.ensures.may in
    let are_maps = c.maps_are_maps.ensures in
    let put : c.apply.new.self.interactions ≡ configured.behind (applied_state outcome.interactions interactions.state) (applied_ledger outcome.interactions interactions.state interactions.ledger) interactions =
    c.apply.ensures.interactions
    ∙ ap (λ (o : WholeOutcome). configured.behind (applied_state o.interactions interactions.state) (applied_ledger o.interactions interactions.state interactions.ledger) interactions) c.take_sent-sent.ensures.stays in
    record {
      keeps = subst (λ (k : ConfiguredInteractions). Keeps c.commit_if_any.new.store (durable k.state.node k.ledger.history.numbers.ceiling)) (sym put)
          (keeps_behind lead may are_maps interactions.state interactions.ledger outcome.interactions planned c.change.result.now c.change.ensures self.store c.commit_if_any.new.store c.requires.journal.keeps
          c.commit_if_any.ensures.none c.in_ok-commit_if_any.ensures.some);
      valid = subst (λ (k : ConfiguredInteractions). IsValid k.state.node) (sym put) (valid_behind lead may are_maps interactions.state interactions.ledger outcome.interactions planned);
      within = subst (λ (k : ConfiguredInteractions). k.ledger.history.numbers.ceiling ≤ 2 ^ 62) (sym put) (fits_behind lead may are_maps interactions.state interactions.ledger outcome.interactions planned);
      given = ap (λ (k : ConfiguredInteractions). configured.given_to k self.verdicts.roots self.verdicts.csrs self.verdicts.joins) put ∙ c.requires.journal.given;
    }

pub returns-clause-goes : goal.returns-clause-goes
returns-clause-goes c given sessions g event is brings =
    let its = subst (λ (o : Option WholeOutcome). Brings given g event o) c.in-Some.is brings in
    record {
      sent = c.take_sent-sent.ensures.sent ∙ its.outcome_is.sent;
      stands = record {
        by = is.by;
        rows = is.rows;
        whole = c.apply.ensures.stands given g.whole event is.whole (c.take_sent-sent.ensures.brings given g.whole event its.outcome_is.brings);
        stop = refl;
      };
    }

pub returns-in_default-clause-goes : goal.returns-in_default-clause-goes
returns-in_default-clause-goes c given sessions g event is brings =
    let none = subst (Brings given g event) (none_is c.args.outcome c.in_default.not-Some) brings in
    let stops = no_outcome given g event none in
    record {
      sent = c.new.ensures ∙ sym (sends_nothing given g.whole event stops);
      stands = record {
        by = is.by;
        rows = is.rows;
        whole = subst (IsWholeOf c.args.self.now.whole) (sym (c.stops_leave_all.ensures given g.whole event stops)) is.whole;
        stop = refl;
      };
    }

pub returns-in_err-commit_if_any-clause-left : goal.returns-in_err-commit_if_any-clause-left
returns-in_err-commit_if_any-clause-left c =
    let old = c.args.self.now.store in
    let new = c.commit_if_any.new.store in
    on_err c.from_residual.result (HasChangeOrNot c.args.outcome old new)
    (subst (λ (o : Option WholeOutcome). HasChangeOrNot o old new) (sym c.in-Some.is)
    (subst (λ (bytes : List ℕ). WasOrCommitted bytes (Some (told_map old)) (Some (told_map new))) c.change.ensures c.in_err-commit_if_any.ensures.part))

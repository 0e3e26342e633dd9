use Rattle.std.proofs.Common.{◌∙◌, List, Option, Some, subst, sym}
use Rattle.std.specs.Prelude.{IfSome, OnOk}
use Rattle.mt_durable.specs.declared.durable.Entry.{Entry}
use Rattle.mt_keeping.specs.Laws.{MayCommit}
use Rattle.mt_keeping.specs.Recovered.{RecoversFrom}
use Rattle.mt_keeping.specs.States.{told_map}
use Rattle.mt_outside.specs.MemoryDisk.{contents_of}
use Rattle.mt_whole.specs.mt_runs.Course.{survives}
use Rattle.mt_whole.specs.Plan.{IsPlanned}
use Rattle.mt_whole.specs.declared.outcome.WholeOutcome.{WholeOutcome}
use Rattle.mt_whole.specs.mt_interactions.Plan.{applied_ledger, applied_state}
use Rattle.mt_whole.specs.mt_lasting.Contents.{durable}
use Rattle.mt_play.specs.Courses.{stop_in}
use Rattle.mt_play.specs.Journal.{Rests}
use Rattle.mt_play.specs.Plays.{IsAtRest, StopsAt, ceiling_in, left_ceiling, left_node, node_of}
use Rattle.mt_play.specs.declared.playing.Playing.{Playing}
use Rattle.mt_play.proofs.Committing.{either_fits, either_valid, fits_behind, may_commit, on_ok_then, rests_behind, valid_behind}
use Rattle.mt_play.proofs.playing.Playing.lose_power.Goals as goal

pub commit_stopped-requires : goal.commit_stopped-requires
commit_stopped-requires c =
    let self = c.args.self.now in
    let interactions = self.whole.interactions in
    let outcome = c.in-Some.outcome in
    let planned = subst (λ (o : Option WholeOutcome). IfSome o (IsPlanned interactions.state interactions.ledger)) c.in-Some.is c.requires.made in
    let stops = subst (λ (o : Option WholeOutcome). IfSome o (StopsAt c.args.by)) c.in-Some.is c.requires.stops in
    let commits : MayCommit c.change.result.now (told_map self.store) =
    may_commit c.commits_lead_on.ensures c.states_may_be_committed.ensures.may c.maps_are_maps.ensures interactions.state interactions.ledger outcome.interactions planned
    c.change.result.now c.change.ensures self.store c.requires.journal.keeps (λ empty. stops.0 (sym c.change.ensures ∙ empty)) in
    record { form = commits.form; room = commits.room; admitted = commits.admitted; within = stops.1 }

pub returns-in-Some-clause-rests : goal.returns-in-Some-clause-rests
returns-in-Some-clause-rests c =
    let self = c.args.self.now in
    let interactions = self.whole.interactions in
    let outcome = c.in-Some.outcome in
    let by = c.args.by in
    let planned = subst (λ (o : Option WholeOutcome). IfSome o (IsPlanned interactions.state interactions.ledger)) c.in-Some.is c.requires.made in
    let stops = subst (λ (o : Option WholeOutcome). IfSome o (StopsAt by)) c.in-Some.is c.requires.stops in
    let lead = c.commits_lead_on.ensures in
    let may = c.states_may_be_committed.ensures.may in
    let are_maps = c.maps_are_maps.ensures in
    let valid = valid_behind lead may are_maps interactions.state interactions.ledger outcome.interactions planned in
    let fits = fits_behind lead may are_maps interactions.state interactions.ledger outcome.interactions planned in
    let result = c.commit_stopped.result in
    let store = c.commit_stopped.new.store in
    let new : Playing = record self { store = store } in
    let rests = rests_behind lead may are_maps interactions.state interactions.ledger outcome.interactions planned result c.change.result.now c.change.ensures self.store store by c.requires.journal.keeps stops.0
    (c.states_may_be_committed.ensures.some (node_of self) (ceiling_in self)) c.commit_stopped.ensures in
    subst (λ (o : Option WholeOutcome). OnOk result (IsAtRest new (left_node self o by) (left_ceiling self o by))) (sym c.in-Some.is)
    (on_ok_then result (Rests store (durable (left_node self (Some outcome) by) (left_ceiling self (Some outcome) by))) (IsAtRest new (left_node self (Some outcome) by) (left_ceiling self (Some outcome) by))
    (λ rests. record {
      rests = rests;
      valid = either_valid (survives (stop_in by)) (node_of self) (applied_state outcome.interactions interactions.state).node c.requires.journal.valid valid;
      within = either_fits (survives (stop_in by)) (ceiling_in self) (applied_ledger outcome.interactions interactions.state interactions.ledger).history.numbers.ceiling c.requires.journal.within fits;
      given = c.requires.journal.given;
    })
    rests)

pub returns-in-None-clause-rests : goal.returns-in-None-clause-rests
returns-in-None-clause-rests c =
    let self = c.args.self.now in
    let keeps = c.requires.journal.keeps in
    let journal = self.store.store.journal in
    let here : IsAtRest self (node_of self) (ceiling_in self) = record {
      rests = record {
        runs = keeps.runs;
        recovers = λ contents. subst (λ (map : List Entry). RecoversFrom contents map (contents_of journal.disk)) keeps.image (c.journals_are_recovered.ensures.kept contents journal.disk journal.place self.store.store.image keeps.is.keeps);
      };
      valid = c.requires.journal.valid;
      within = c.requires.journal.within;
      given = c.requires.journal.given;
    } in
    subst (λ (o : Option WholeOutcome). IsAtRest self (left_node self o c.args.by) (left_ceiling self o c.args.by)) (sym c.in-None.is) here

-- The next boot: with which map it begins, what it commits first, and the run that it stands for.
use Rattle.std.proofs.Common.{◌≡◌, ◌∙◌, refl, sym, ap, subst, inl, inr, ℕ, ◌+◌, ◌^◌, ◌<◌, ◌≤◌, Bool, true, false, List, [], Option, Some, None, nat_lt, if◌then◌else◌, arith}
use Rattle.std.proofs.lemmas.Bool.{cases_Bool, leb-true, le-leb}
use Rattle.std.specs.Prelude.{IsTrue, Result, Ok}
use Rattle.mt_durable.specs.Maps.{have_values, keys_ascend}
use Rattle.mt_durable.specs.Reading.{Says}
use Rattle.mt_durable.specs.Setting.{with_all}
use Rattle.mt_durable.specs.declared.durable.Entry.{Entry}
use Rattle.mt_grammar.specs.Decoding.{kept_in}
use Rattle.mt_grammar.specs.Facts.{facts_hold}
use Rattle.mt_grammar.specs.declared.kept.MapContents.{MapContents}
use Rattle.mt_whole.specs.mt_lasting.Contents.{durable}
use Rattle.mt_whole.specs.mt_lasting.Laws.{MapsAreMaps}
use Rattle.mt_whole.specs.mt_ledger.Ledger.{Ledger, opened_at}
use Rattle.mt_whole.specs.mt_machine.Environment.{Environment, given_by}
use Rattle.mt_whole.specs.mt_machine.Laws.{OpensValid}
use Rattle.mt_whole.specs.mt_machine.Opened as machine
use Rattle.mt_whole.specs.mt_machine.Rollback.{rollback}
use Rattle.mt_whole.specs.mt_machine.State.{IsValid, State}
use Rattle.mt_model.specs.declared.node.state.NodeState.{NodeState}
use Rattle.mt_model.specs.declared.texts.config.Config.{Config}
use Rattle.mt_model.specs.declared.texts.config.CsrRow.{CsrRow}
use Rattle.mt_model.specs.declared.texts.config.JoinRow.{JoinRow}
use Rattle.mt_model.specs.declared.texts.config.RootRow.{RootRow}
use Rattle.mt_model.specs.declared.texts.config.SessionRow.{SessionRow}
use Rattle.mt_model.specs.declared.texts.recording.Event.{Event}
use Rattle.mt_model.specs.texts.Contents.{Contents, contents_of}
use Rattle.mt_outside.specs.MemoryDisk.{DiskState}
use Rattle.mt_whole.specs.mt_regained.Begun.{boot_in, ceiling_in, first_change}
use Rattle.mt_whole.specs.mt_regained.Regained.{state_of}
use Rattle.mt_whole.specs.mt_regained.Reopened.{NewNodesBegin, new_map, reopened_map}
use Rattle.mt_whole.specs.mt_regained.Reopening.{ReopensValid, reopened_node}
use Rattle.mt_whole.specs.mt_regained.Rolled.{ceiling_of, rolled_if, rolled_map_of}
use Rattle.mt_whole.specs.mt_runs.Course.{Going, surviving, survives}
use Rattle.mt_whole.specs.mt_runs.Laws.{StopsLeaveAll}
use Rattle.mt_whole.specs.mt_runs.Lines.{next}
use Rattle.mt_whole.specs.mt_runs.Reopening as runs
use Rattle.mt_whole.specs.mt_runs.Reopening.{reopened}
use Rattle.mt_whole.specs.mt_runs.Whole.{Whole}
use Rattle.mt_whole.specs.mt_interactions.Configured.{ConfiguredInteractions, IsFirst, IsStarted, given_to}
use Rattle.mt_whole.specs.mt_interactions.Plan.{applied_ledger, applied_state}
use Rattle.mt_whole.specs.Plan.{whole_from}
use Rattle.mt_whole.specs.Talks.{IsWholeOf}
use Rattle.mt_whole.specs.declared.outcome.WholeOutcome.{WholeOutcome}
use Rattle.mt_keeping.specs.Laws.{BeginsReopened, FirstChangesAreSaid, MayCommit, StatesAreReopened, StatesMayBeCommitted}
use Rattle.mt_keeping.specs.Recovered.{RecoversFrom, recovered, reopened_if, states_at}
use Rattle.mt_keeping.specs.States.{KeepingState, told_map}
use Rattle.mt_play.specs.Courses.{stop_in}
use Rattle.mt_play.specs.Journal.{IsReady, Keeps}
use Rattle.mt_play.specs.Plays.{Brings, MayBoot, left_ceiling, left_node, node_of}
use Rattle.mt_play.specs.declared.course.ComingStop.{ComingStop}
use Rattle.mt_play.specs.declared.playing.Playing.{Playing}
use Rattle.mt_play.proofs.Coursing.{no_outcome}

some_same : {X : Type 0} (a b : X) → Some a ≡ Some b → a ≡ b
some_same a b same = cc

ok_same : {X E : Type 0} (a b : X) → ◌≡◌ {A = Result X E} (Ok a) (Ok b) → a ≡ b
ok_same a b same = cc

-- WHAT IS RECOVERED.

-- A journal of no bytes leads to nothing yet: a new node goes on with it.

no_list : states_at [] ≡ Ok []
no_list = refl

pub new_found : (contents : Contents) (found : List Entry) → recovered contents [] ≡ Ok (Some found) → found ≡ new_map contents
new_found contents found is = sym (some_same (new_map contents) found (ok_same (Some (new_map contents)) (Some found) (sym (ap (reopened_if contents) no_list) ∙ is)))

-- of a file that holds what a node goes on with behind a map, that is recovered
found_is : (contents : Contents) (kept found : List Entry) (file : List ℕ) → RecoversFrom contents kept file → recovered contents file ≡ Ok (Some found) → reopened_map contents kept ≡ Some found
found_is contents kept found file from is = ok_same (reopened_map contents kept) (Some found) (sym from ∙ is)

-- THE NEXT BOOT MAY BEGIN.

-- what was recovered of a valid state begins its reopening
pub begins_with : StatesAreReopened → (config : Config) (s : NodeState) (ceiling : ℕ) (found : List Entry) (file : List ℕ) → IsValid s → ceiling ≤ 2 ^ 62
    → RecoversFrom (contents_of config) (durable s ceiling) file → recovered (contents_of config) file ≡ Ok (Some found) → BeginsReopened config s ceiling found
begins_with reopen config s ceiling found file valid fits from is = reopen config s ceiling found valid fits (found_is (contents_of config) (durable s ceiling) found file from is)

pub may_boot : StatesAreReopened → ReopensValid → (config : Config) (s : NodeState) (ceiling : ℕ) (found : List Entry) (file : List ℕ) → IsValid s → ceiling ≤ 2 ^ 62
    → RecoversFrom (contents_of config) (durable s ceiling) file → recovered (contents_of config) file ≡ Ok (Some found) → MayBoot config found
may_boot reopen reopens config s ceiling found file valid fits from is =
    let begins = begins_with reopen config s ceiling found file valid fits from is in
    record {
      starts = λ few low. begins.may (subst (λ (boot : ℕ). boot < 2 ^ 31) begins.boot_is few) (subst (λ (next : ℕ). next ≤ 2 ^ 61) begins.ceiling_is low);
      valid = λ node next few.
          (let room : s.boot < 2 ^ 31 = subst (λ (boot : ℕ). boot < 2 ^ 31) begins.boot_is few in
          subst IsValid (some_same (reopened_node config.sessions ceiling s) node (sym begins.state ∙ next))
          (reopens config.sessions ceiling s valid (le-leb (s.boot + 1) (2 ^ 31) (omega arith))));
    }

-- and with what a new node goes on with
pub may_boot_new : OpensValid → NewNodesBegin → (config : Config) (map : List Entry) → map ≡ new_map (contents_of config) → MayBoot config map
may_boot_new opens new config map is = subst (MayBoot config) (sym is) (record {
  starts = λ few low. (new config).may;
  valid = λ node next few.
      subst IsValid (some_same (machine.opened config) node (sym (new config).state ∙ next))
      (opens 1 config.fabrics config.entries config.sessions refl config.fabrics_are_valid config.entries_are_valid);
})

-- what is given to a node is given to it again, where its configuration is this one
pub given_again : (one other : ConfiguredInteractions) (contents : Contents) (roots : List RootRow) (csrs : List CsrRow) (joins : List JoinRow) → given_to one roots csrs joins ≡ given_by contents → other.config ≡ contents
    → given_to other roots csrs joins ≡ given_by contents
given_again one other contents roots csrs joins is same = λ i. record { judged = (is i).judged; reachable = (same i).reachable }

-- WHAT A BOOT COMMITS FIRST.

-- the ceiling that is set aside for a boot is one that there may be
opened_fits : (ceiling : ℕ) → ceiling ≤ 2 ^ 61 → (opened_at ceiling).history.numbers.ceiling ≤ 2 ^ 62
opened_fits ceiling low = elim (cases_Bool (nat_lt ceiling (ceiling + 1024))) [
  | inl under ↦ rw under (omega arith)
  | inr over ↦ rw over (omega arith)
]

-- A map that is rolled back is that of a state.
rolled_is_map : MapsAreMaps → (kept : Option MapContents) (map : List Entry) → rolled_if kept ≡ Some map → (keys_ascend map ≡ true) × (have_values map ≡ true)
rolled_is_map are_maps None map is = absurd cc
rolled_is_map are_maps (Some kept) map is = elim (cases_Bool (facts_hold kept)) [
  | inl facts ↦
      let same : Some (rolled_map_of kept) ≡ Some map = rw facts at is in
      subst (λ (m : List Entry). (keys_ascend m ≡ true) × (have_values m ≡ true)) (some_same (rolled_map_of kept) map same) (are_maps (rollback (state_of kept)) (ceiling_of kept))
  | inr none ↦
      let wrong : None ≡ Some map = rw none at is in
      absurd cc
]

-- of a node that is started with a map, and of the bytes that it commits first
module _ (config : Config) (map : List Entry) (one : ConfiguredInteractions) (boots : MayBoot config map) (few : boot_in map < 2 ^ 31) (low : ceiling_in map ≤ 2 ^ 61) (begun : IsStarted map config one) where
  pub valid_begun : IsValid one.state.node
  valid_begun = boots.valid one.state.node begun.node.state few

  pub fits_begun : one.ledger.history.numbers.ceiling ≤ 2 ^ 62
  fits_begun = subst (λ (l : Ledger). l.history.numbers.ceiling ≤ 2 ^ 62) (sym begun.ledger) (opened_fits (ceiling_in map) low)

  module _ (may : StatesMayBeCommitted) (said : FirstChangesAreSaid) (are_maps : MapsAreMaps) (bytes : List ℕ) (first : IsFirst map one bytes) (old : KeepingState DiskState) (told : told_map old ≡ map) where
    is_map : (keys_ascend (told_map old) ≡ true) × (have_values (told_map old) ≡ true)
    is_map = subst (λ (m : List Entry). (keys_ascend m ≡ true) × (have_values m ≡ true)) (sym told) (rolled_is_map are_maps (kept_in map) map (boots.starts few low).rolled)

    says : Says (first_change one.state.node.boot one.ledger.history.numbers.ceiling) bytes
    says = subst (Says (first_change one.state.node.boot one.ledger.history.numbers.ceiling)) (sym first.said)
        (said one.state.node.boot one.ledger.history.numbers.ceiling (leb-true one.state.node.boot (2 ^ 31) valid_begun.boot_fits) fits_begun)

    leads : with_all (first_change one.state.node.boot one.ledger.history.numbers.ceiling) (told_map old) ≡ durable one.state.node one.ledger.history.numbers.ceiling
    leads = ap (with_all (first_change one.state.node.boot one.ledger.history.numbers.ceiling)) told ∙ first.leads

    pub may_commit_first : MayCommit bytes (told_map old)
    may_commit_first = may (first_change one.state.node.boot one.ledger.history.numbers.ceiling) (told_map old) bytes one.state.node one.ledger.history.numbers.ceiling is_map.0 is_map.1 says leads valid_begun fits_begun

    pub keeps_first : (new : KeepingState DiskState) → IsReady old
        → ((entries : List Entry) → IsReady old → IsTrue (keys_ascend (told_map old)) → IsTrue (have_values (told_map old)) → Says entries bytes → Keeps new (with_all entries (told_map old)))
        → Keeps new (durable one.state.node one.ledger.history.numbers.ceiling)
    keeps_first new ready committed = subst (Keeps new) leads
        (committed (first_change one.state.node.boot one.ledger.history.numbers.ceiling) ready is_map.0 is_map.1 says)

-- THE RUN THAT IT STANDS FOR.

either : {A B : Type 0} (f : B → A) (b : Bool) (x y : A) (p q : B) → x ≡ f p → y ≡ f q → (if b then x else y) ≡ f (if b then p else q)
either f true x y p q is too = is
either f false x y p q is too = too

stays : (b : Bool) (v w : Whole) → v ≡ w → (if b then v else w) ≡ w
stays true v w same = same
stays false v w same = refl

-- What the disk has behind a stop is what is kept of the whole that survives it.

module _ (leave : StopsLeaveAll) (given : Environment) (g : Going) (event : Event) (playing : Playing) (by : ComingStop) (is : IsWholeOf playing.whole g.whole) where
  left_node_is : (outcome : Option WholeOutcome) → Brings given g event outcome → left_node playing outcome by ≡ (surviving given g.whole event (survives (stop_in by))).state.node
  left_node_is None brings =
      ap (λ (s : State). s.node) is.state
      ∙ sym (ap (λ (w : Whole). w.state.node) (stays (survives (stop_in by)) (next given g.whole event) g.whole (leave given g.whole event (no_outcome given g event brings))))
  left_node_is (Some outcome) brings =
      either (λ (w : Whole). w.state.node) (survives (stop_in by)) (applied_state outcome.interactions playing.whole.interactions.state).node (node_of playing) (next given g.whole event) g.whole
      (ap (λ (s : State). (applied_state outcome.interactions s).node) is.state ∙ ap (λ (s : State). s.node) brings.outcome_is.brings.state)
      (ap (λ (s : State). s.node) is.state)

  left_ceiling_is : (outcome : Option WholeOutcome) → Brings given g event outcome → left_ceiling playing outcome by ≡ runs.ceiling_of (surviving given g.whole event (survives (stop_in by)))
  left_ceiling_is None brings =
      ap (λ (l : Ledger). l.history.numbers.ceiling) is.ledger
      ∙ sym (ap runs.ceiling_of (stays (survives (stop_in by)) (next given g.whole event) g.whole (leave given g.whole event (no_outcome given g event brings))))
  left_ceiling_is (Some outcome) brings =
      either runs.ceiling_of (survives (stop_in by)) (applied_ledger outcome.interactions playing.whole.interactions.state playing.whole.interactions.ledger).history.numbers.ceiling playing.whole.interactions.ledger.history.numbers.ceiling
      (next given g.whole event) g.whole
      (ap (λ (x : State × Ledger). (applied_ledger outcome.interactions x.0 x.1).history.numbers.ceiling) (λ i. (is.state i, is.ledger i)) ∙ ap (λ (l : Ledger). l.history.numbers.ceiling) brings.outcome_is.brings.ledger)
      (ap (λ (l : Ledger). l.history.numbers.ceiling) is.ledger)

  -- the node that is reopened with that is the whole that is reopened
  pub reopened_whole : (sessions : List SessionRow) (outcome : Option WholeOutcome) → Brings given g event outcome
      → whole_from (reopened_node sessions (left_ceiling playing outcome by) (left_node playing outcome by)) (left_ceiling playing outcome by) sessions ≡ reopened sessions (surviving given g.whole event (survives (stop_in by)))
  reopened_whole sessions outcome brings =
      let node = left_node_is outcome brings in
      let ceiling = left_ceiling_is outcome brings in
      λ i. whole_from (reopened_node sessions (ceiling i) (node i)) (ceiling i) sessions

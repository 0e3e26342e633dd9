-- Commits of what a planned line changes: what may be committed, and what the journal has behind it.
use Rattle.std.proofs.Common.{◌≡◌, ◌≢◌, ◌⊎◌, ◌∙◌, refl, sym, ap, subst, inl, inr, ℕ, ◌+◌, ◌^◌, ◌<◌, ◌≤◌, Bool, true, false, true≢false, List, [], ◌∷◌, Option, Some, nat_lt, nat_le, if◌then◌else◌, unwrap_or, arith}
use Rattle.std.proofs.lemmas.Bool.{cases_Bool, leb-false, leb-true, le-ltb, lt-ltb}
use Rattle.std.specs.Prelude.{IsTrue, OnErr, OnOk, Result, Ok, Err}
use Rattle.mt_durable.specs.Keeping.{Committed, WasOrCommitted}
use Rattle.mt_durable.specs.Maps.{have_values, keys_ascend}
use Rattle.mt_durable.specs.Reading.{Says}
use Rattle.mt_durable.specs.Setting.{with_all}
use Rattle.mt_durable.specs.declared.durable.Entry.{Entry}
use Rattle.mt_journal.specs.Stopping as journals
use Rattle.mt_whole.specs.mt_lasting.Changes.{change_between}
use Rattle.mt_whole.specs.mt_lasting.Contents.{durable}
use Rattle.mt_whole.specs.mt_lasting.Laws.{MapsAreMaps}
use Rattle.mt_whole.specs.mt_ledger.Ledger.{Ledger}
use Rattle.mt_whole.specs.mt_machine.State.{IsValid, State}
use Rattle.mt_model.specs.declared.node.state.NodeState.{NodeState}
use Rattle.mt_model.specs.declared.texts.recording.Event.{Event}
use Rattle.mt_model.specs.declared.texts.recording.Event.TheVariants as events
use Rattle.mt_outside.specs.MemoryDisk.{DiskState}
use Rattle.mt_outside.specs.declared.fate.Fate.{Fate}
use Rattle.mt_outside.specs.declared.fate.Fate.TheVariants.{Kept, Lost, Torn}
use Rattle.mt_whole.specs.mt_runs.Course.{survives}
use Rattle.mt_store.specs.Leading.{map_left}
use Rattle.mt_whole.specs.mt_node.Plan.{applied}
use Rattle.mt_whole.specs.mt_interactions.Committing.{CommitsLeadOn, LeadsOn}
use Rattle.mt_whole.specs.mt_interactions.Plan.{IsPlanned, applied_history}
use Rattle.mt_whole.specs.mt_interactions.InteractionOutcome.{InteractionOutcome}
use Rattle.mt_keeping.specs.Laws.{MayCommit, StatesMayBeCommitted}
use Rattle.mt_keeping.specs.States.{KeepingState, told_map}
use Rattle.mt_play.specs.Courses.{stop_in}
use Rattle.mt_play.specs.Journal.{IsReady, Keeps, Rests}
use Rattle.mt_play.specs.Plays.{has_some}
use Rattle.mt_play.specs.declared.course.ComingStop.{ComingStop}

-- a journal in use tells its map
pub told_is : (store : KeepingState DiskState) (map : List Entry) → Keeps store map → told_map store ≡ map
told_is store map keeps = ap (λ (rolled : Option (List Entry)). unwrap_or rolled store.store.image) keeps.in_use ∙ keeps.image

empty_or_not : (bytes : List ℕ) → (bytes ≡ []) ⊎ (bytes ≢ [])
empty_or_not [] = inl refl
empty_or_not (byte ∷ bytes) = inr (λ is. true≢false (ap has_some is))

-- Behind a commit, or where there is none, the journal has the map to which it leads.
keeps_by : (change : List Entry) (bytes : List ℕ) (map behind : List Entry) (old new : KeepingState DiskState) → Keeps old map → with_all change map ≡ behind → ((bytes ≡ []) → map ≡ behind)
    → ((bytes ≡ []) → new ≡ old) → ((bytes ≢ []) → Keeps new (with_all change (told_map old))) → Keeps new behind
keeps_by change bytes map behind old new keeps leads same none some = elim (empty_or_not bytes) [
  | inl empty ↦ subst (Keeps new) (same empty) (subst (λ (store : KeepingState DiskState). Keeps store map) (sym (none empty)) keeps)
  | inr full ↦ subst (Keeps new) (ap (with_all change) (told_is old map keeps) ∙ leads) (some full)
]

-- What a stop in a commit leaves is what survives of the line, told in two ways.

in_time : (calls : ℕ) → nat_lt 4 (calls + 2) ≡ nat_le 3 calls
in_time calls = elim (cases_Bool (nat_le 3 calls)) [
  | inl late ↦
      let third : 3 ≤ calls = leb-true 3 calls late in
      lt-ltb 4 (calls + 2) (omega arith) ∙ sym late
  | inr soon ↦
      let before : calls < 3 = leb-false 3 calls soon in
      le-ltb 4 (calls + 2) (omega arith) ∙ sym soon
]

itself : (b : Bool) → b ≡ (if b then true else false)
itself true = refl
itself false = refl

never : (b : Bool) → false ≡ (if b then false else false)
never true = refl
never false = refl

same_survival : (calls : ℕ) (fate : Fate) (line : Event) → journals.survives 4 (record { calls = calls; fate = fate }) ≡ survives (record { calls = calls; fate = fate; line = line })
same_survival calls Kept line = in_time calls ∙ itself (nat_le 3 calls)
same_survival calls Lost line = never (nat_le 3 calls)
same_survival calls Torn line = never (nat_le 3 calls)

-- one of two states, with its ceiling

map_of_either : (b : Bool) (s t : NodeState) (ceiling next : ℕ) (map behind : List Entry) → map ≡ durable s ceiling → behind ≡ durable t next
    → (if b then behind else map) ≡ durable (if b then t else s) (if b then next else ceiling)
map_of_either true s t ceiling next map behind is too = too
map_of_either false s t ceiling next map behind is too = is

pub either_valid : (b : Bool) (s t : NodeState) → IsValid s → IsValid t → IsValid (if b then t else s)
either_valid true s t is too = too
either_valid false s t is too = is

pub either_fits : (b : Bool) (ceiling next : ℕ) → ceiling ≤ 2 ^ 62 → next ≤ 2 ^ 62 → (if b then next else ceiling) ≤ 2 ^ 62
either_fits true ceiling next is too = too
either_fits false ceiling next is too = is

-- a commit of these bytes from one store to another, and one in which the disk stops

abbrev Commits : KeepingState DiskState → KeepingState DiskState → List ℕ → Type 0
Commits old new bytes = (entries : List Entry) → bytes ≢ [] → IsReady old → IsTrue (keys_ascend (told_map old)) → IsTrue (have_values (told_map old)) → Says entries bytes → Keeps new (with_all entries (told_map old))

abbrev StopsIn : {T E : Type 0} → Result T E → KeepingState DiskState → KeepingState DiskState → ComingStop → List ℕ → Type 0
StopsIn result old new by bytes = (entries map : List Entry) → Keeps old map → map ≢ [] → Says entries bytes
    → OnOk result (Rests new (map_left 4 (record { calls = by.calls; fate = by.fate }) map (with_all entries map)))

-- Of a planned line.
module _ (lead : CommitsLeadOn) (may : StatesMayBeCommitted) (are_maps : MapsAreMaps) (s : State) (l : Ledger) (outcome : InteractionOutcome) (planned : IsPlanned s l outcome) where
  -- the state behind it, and the ceiling before and behind

  abbrev behind : NodeState
  behind = applied outcome.node s.node

  abbrev ceiling : ℕ
  ceiling = l.history.numbers.ceiling

  abbrev next : ℕ
  next = (applied_history outcome l.history).numbers.ceiling

  abbrev change : List Entry
  change = change_between s.node ceiling behind next

  leads : LeadsOn s l outcome
  leads = lead s l outcome planned

  pub valid_behind : IsValid behind
  valid_behind = planned.node.1.1.1.valid

  pub fits_behind : next ≤ 2 ^ 62
  fits_behind = leads.within

  says : outcome.change ≢ [] → Says change outcome.change
  says some = leads.says (λ equal. some (leads.nothing.1 equal))

  -- what it changes may be committed
  pub may_commit : (bytes : List ℕ) → bytes ≡ outcome.change → (store : KeepingState DiskState) → Keeps store (durable s.node ceiling) → bytes ≢ [] → MayCommit bytes (told_map store)
  may_commit bytes is store keeps some =
      let maps = are_maps s.node ceiling in
      let full : outcome.change ≢ [] = subst (λ (b : List ℕ). b ≢ []) is some in
      let commits : MayCommit outcome.change (durable s.node ceiling) = may change (durable s.node ceiling) outcome.change behind next maps.0 maps.1 (says full) leads.leads valid_behind fits_behind in
      subst (λ (b : List ℕ). MayCommit b (told_map store)) (sym is) (subst (MayCommit outcome.change) (sym (told_is store (durable s.node ceiling) keeps)) commits)

  -- behind its commit the journal has what lasts of the state behind it
  pub keeps_behind : (bytes : List ℕ) → bytes ≡ outcome.change → (old new : KeepingState DiskState) → Keeps old (durable s.node ceiling) → (bytes ≡ [] → new ≡ old) → Commits old new bytes → Keeps new (durable behind next)
  keeps_behind bytes is old new keeps none some =
      let maps = are_maps s.node ceiling in
      let told = sym (told_is old (durable s.node ceiling) keeps) in
      let commits : Commits old new outcome.change = subst (Commits old new) is some in
      keeps_by change outcome.change (durable s.node ceiling) (durable behind next) old new keeps leads.leads leads.nothing.0 (λ empty. none (is ∙ empty))
      (λ full. commits change full keeps.is
      (subst (λ (map : List Entry). keys_ascend map ≡ true) told maps.0)
      (subst (λ (map : List Entry). have_values map ≡ true) told maps.1)
      (says full))

  -- where the disk stops in it, it rests with what lasts of that state, or of the one before it
  pub rests_behind : {T E : Type 0} (result : Result T E) (bytes : List ℕ) → bytes ≡ outcome.change → (old new : KeepingState DiskState) (by : ComingStop) → Keeps old (durable s.node ceiling) → outcome.change ≢ [] → durable s.node ceiling ≢ []
      → StopsIn result old new by bytes → OnOk result (Rests new (durable (if survives (stop_in by) then behind else s.node) (if survives (stop_in by) then next else ceiling)))
  rests_behind result bytes is old new by keeps full has stops =
      let map : List Entry = durable s.node ceiling in
      let left = ap (λ (b : Bool). if b then with_all change map else map) (same_survival by.calls by.fate (events.Stop by.asked by.fate)) in
      let stopped : StopsIn result old new by outcome.change = subst (StopsIn result old new by) is stops in
      subst (λ (m : List Entry). OnOk result (Rests new m))
      (left ∙ map_of_either (survives (stop_in by)) s.node behind ceiling next map (with_all change map) refl leads.leads)
      (stopped change map keeps has (says full))

pub on_ok_then : {T E : Type 0} (result : Result T E) (P Q : Type 0) → (P → Q) → OnOk result P → OnOk result Q
on_ok_then (Ok x) P Q weaker p = weaker p
on_ok_then (Err e) P Q weaker p = tt

pub on_err_then : {T E : Type 0} (result : Result T E) (P Q : Type 0) → (P → Q) → OnErr result P → OnErr result Q
on_err_then (Ok x) P Q weaker p = tt
on_err_then (Err e) P Q weaker p = weaker p

-- what is committed is so while the map is still told
pub still_committed : {T E : Type 0} (result : Result T E) (bytes : List ℕ) (before : Option (List Entry)) (between now : List Entry) → Committed bytes before (Some between) → OnErr result (now ≡ between)
    → OnErr result (WasOrCommitted bytes before (Some now))
still_committed (Ok x) bytes before between now done told = tt
still_committed (Err e) bytes before between now done told = inr (subst (λ (map : List Entry). Committed bytes before (Some map)) (sym told) done)

-- A fabric's own part of the ledger behind whatever is done: on its veil, and where others do it.
use Rattle.std.proofs.Common.{◌≡◌, ℕ, false, List, [], length, Option, Some, None, Result, refl, ap, sym, ◌∙◌, subst}
use Rattle.mt_failsafe.specs.Notes.{was_added, was_updated}
use Rattle.mt_im.specs.declared.fault.ImFault.{ImFault}
use Rattle.mt_model.specs.declared.messages.message.Request.{Request}
use Rattle.mt_model.specs.declared.node.action.Action.TheVariants.{Expire, Nothing}
use Rattle.mt_model.specs.declared.node.state.NodeState.{NodeState}
use Rattle.mt_model.specs.declared.tables.access.Actor.{Actor}
use Rattle.mt_opcreds.specs.Laws.{KeepsRules}
use Rattle.mt_subs.specs.Leaving.{is_none_of}
use Rattle.mt_subs.specs.Subscriptions.{confirmed, first_ids, reported}
use Rattle.mt_machine.specs.Environment.{Environment}
use Rattle.mt_machine.specs.Isolation.{OwnOfWhole, own, veil}
use Rattle.mt_machine.specs.Laws as laws
use Rattle.mt_machine.specs.Lines.{action_of}
use Rattle.mt_machine.specs.State.{IsValid}
use Rattle.mt_machine.specs.Step.{after_action, asker}
use Rattle.mt_machine.specs.Touching.{StaysThere}
use Rattle.mt_ledger.specs.history.Behind.{history_behind}
use Rattle.mt_ledger.specs.history.History.{History}
use Rattle.mt_ledger.specs.history.Isolation.{own_events, veiled_history}
use Rattle.mt_ledger.specs.history.Laws as histories
use Rattle.mt_ledger.specs.Behind.{Activity, acts, action_in, confirms, ends, ledger_behind, reports, state_done, subs_done}
use Rattle.mt_ledger.specs.Isolation.{own_ledger, veiled_ledger}
use Rattle.mt_ledger.specs.Ledger.{IsLedger, Ledger}
use Rattle.mt_ledger.specs.Reporting.{Due, behind_report, due_now, told_now}
use Rattle.mt_ledger.specs.Subscribing.{at_once, last_told}
use Rattle.mt_ledger.proofs.Alike.{Alike, changed_alike, changed_apart, ids_apart, same_alike, staying_alike, veiled_alike}
use Rattle.mt_ledger.proofs.Standing.{left_alike, left_apart}
use Rattle.mt_ledger.proofs.Told.{due_events_same, due_same}
use Rattle.mt_ledger.proofs.Wishes.{asked_alike, asked_apart}

-- The own part is the events, the subscriptions and the next id.
own_from : (fabric : ℕ) (l k : Ledger) → own_events fabric l.history ≡ own_events fabric k.history → Alike fabric l.subs k.subs → own_ledger fabric l ≡ own_ledger fabric k
own_from fabric l k events alike = λ i. record { events = events i; subs = alike.mine i; next = alike.next i }

pub veiled_subs : length first_ids ≡ 256 → (s : NodeState) (l : Ledger) → IsLedger s l → (fabric : ℕ) → Alike fabric (veiled_ledger fabric l).subs l.subs
veiled_subs first s l is fabric = veiled_alike fabric l.subs first is.subs

pub keeps_own_ledger : histories.KeepsItsEvents → length first_ids ≡ 256 → (fabric : ℕ) (s : NodeState) (l : Ledger) → IsLedger s l → own_ledger fabric (veiled_ledger fabric l) ≡ own_ledger fabric l
keeps_own_ledger keeps_events first fabric s l is = own_from fabric (veiled_ledger fabric l) l (keeps_events fabric l.history is.history) (veiled_subs first s l is fabric)

-- Behind what is done on the veil and on the state.
module _ (given : Environment) (fabric : ℕ) (s t : NodeState) (k l : Ledger) (activity : Activity) (now : ℕ) (again : own fabric (state_done given t activity now) ≡ own fabric (state_done given s activity now))
    (events : own_events fabric (history_behind given t (action_in activity) now k.history) ≡ own_events fabric (history_behind given s (action_in activity) now l.history))
    (alike : Alike fabric (subs_done t k now activity) (subs_done s l now activity)) where
  pub left_on_both : own_ledger fabric (ledger_behind given t activity now k) ≡ own_ledger fabric (ledger_behind given s activity now l)
  left_on_both =
      own_from fabric (ledger_behind given t activity now k) (ledger_behind given s activity now l) events
      (left_alike fabric (state_done given t activity now) (state_done given s activity now) again (subs_done t k now activity) (subs_done s l now activity) alike)

-- Behind what others do.
module _ (given : Environment) (fabric : ℕ) (s : NodeState) (l : Ledger) (activity : Activity) (now : ℕ) (is : IsLedger s l) (stays : own fabric (state_done given s activity now) ≡ own fabric s)
    (events : own_events fabric (history_behind given s (action_in activity) now l.history) ≡ own_events fabric l.history)
    (alike : Alike fabric (subs_done s l now activity) l.subs) where
  pub kept_aside : own_ledger fabric (ledger_behind given s activity now l) ≡ own_ledger fabric l
  kept_aside =
      own_from fabric (ledger_behind given s activity now l) l events
      (left_apart fabric (state_done given s activity now) s stays (subs_done s l now activity) l.subs is.there alike)

-- What an actor asks.

pub asked_on_veil : laws.SeesTheVeil → laws.KeepsItsOwnPart → laws.ActionsLeaveTheOwnOnTheVeil → histories.KeepsItsEvents → histories.KeepsRecentEvents → histories.LeavesItsEventsOnTheVeil → length first_ids ≡ 256
    → (given : Environment) (s : NodeState) (l : Ledger) (actor asking : Actor) (asked : Result Request ImFault) (deadline : Option ℕ) (now : ℕ) → KeepsRules given.judged → IsValid s → IsLedger s l
    → asker s actor ≡ Some asking → asker (veil asking.fabric s) actor ≡ Some asking
    → own_ledger asking.fabric (ledger_behind given (veil asking.fabric s) (acts (action_of actor deadline asked)) now (veiled_ledger asking.fabric l))
    ≡ own_ledger asking.fabric (ledger_behind given s (acts (action_of actor deadline asked)) now l)
asked_on_veil sees keeps_own leaves_own keeps_events keeps_recent leaves_events first given s l actor asking asked deadline now rules valid is on_state on_veil =
    let fabric = asking.fabric in
    left_on_both given fabric s (veil fabric s) (veiled_ledger fabric l) l (acts (action_of actor deadline asked)) now
    (ap (λ (o : OwnOfWhole). o.node) (leaves_own given (record { node = s; deadlines = [] }) actor asking asked deadline now rules valid on_state on_veil))
    (leaves_events given s l.history actor asking asked deadline now rules valid is.history on_state on_veil)
    (asked_alike sees keeps_own keeps_events keeps_recent s l valid is (veiled_subs first s l is) actor asking deadline now asked on_state on_veil)

pub asked_aside : laws.ActionsKeepTheOwn → histories.KeepsOthersEvents → (given : Environment) (fabric : ℕ) (s : NodeState) (l : Ledger) (actor asking : Actor) (asked : Result Request ImFault) (deadline : Option ℕ) (now : ℕ)
    → KeepsRules given.judged → IsValid s → IsLedger s l → asker s actor ≡ Some asking → (fabric ≡ asking.fabric → ⊥) → StaysThere fabric s (after_action given s (action_of actor deadline asked) now)
    → own_ledger fabric (ledger_behind given s (acts (action_of actor deadline asked)) now l) ≡ own_ledger fabric l
asked_aside keeps keeps_events given fabric s l actor asking asked deadline now rules valid is on_state apart there =
    kept_aside given fabric s l (acts (action_of actor deadline asked)) now is
    (ap (λ (o : OwnOfWhole). o.node) (keeps given fabric (record { node = s; deadlines = [] }) actor asking asked deadline now rules valid on_state apart there))
    (keeps_events given fabric s l.history actor asking asked deadline now rules valid is.history on_state apart there)
    (asked_apart fabric s l now actor asking deadline asked on_state apart)

-- A time step.

pub ticks_on_veil : laws.TicksOnTheVeil → histories.TicksLeaveEventsOnTheVeil → length first_ids ≡ 256 → (given : Environment) (fabric : ℕ) (s : NodeState) (l : Ledger) (now : ℕ) → KeepsRules given.judged → IsValid s → IsLedger s l
    → own_ledger fabric (ledger_behind given (veil fabric s) (acts Expire) now (veiled_ledger fabric l)) ≡ own_ledger fabric (ledger_behind given s (acts Expire) now l)
ticks_on_veil ticks tick_events first given fabric s l now rules valid is =
    left_on_both given fabric s (veil fabric s) (veiled_ledger fabric l) l (acts Expire) now
    (ap (λ (o : OwnOfWhole). o.node) (ticks given fabric (record { node = s; deadlines = [] }) now valid))
    (tick_events given fabric s l.history now rules valid is.history)
    (veiled_subs first s l is fabric)

pub ticks_aside : laws.TicksSpareOthers → histories.TicksSpareEvents → (given : Environment) (fabric : ℕ) (s : NodeState) (l : Ledger) (now : ℕ) → KeepsRules given.judged → IsValid s → IsLedger s l → (fabric ≡ 0 → ⊥) → was_added fabric s.armed ≡ false → was_updated fabric s.armed ≡ false
    → own_ledger fabric (ledger_behind given s (acts Expire) now l) ≡ own_ledger fabric l
ticks_aside spares spare_events given fabric s l now rules valid is somebody added updated =
    kept_aside given fabric s l (acts Expire) now is
    (ap (λ (o : OwnOfWhole). o.node) (spares given fabric (record { node = s; deadlines = [] }) now valid somebody added updated))
    (spare_events given fabric s l.history now rules valid is.history added)
    (same_alike fabric l.subs)

-- What is done with subscriptions while time passes.

module _ (time : laws.TimeKeepsTheOwn) (no_events : histories.TimeTellsNothing) (given : Environment) (fabric : ℕ) (s : NodeState) (l : Ledger) (now : ℕ) (is : IsLedger s l) where
  time_own : (t : NodeState) → own fabric (after_action given t Nothing now) ≡ own fabric t
  time_own t = ap (λ (o : OwnOfWhole). o.node) (time given fabric (record { node = t; deadlines = [] }) now)

  time_events : (t : NodeState) (h : History) → own_events fabric (history_behind given t Nothing now h) ≡ own_events fabric h
  time_events t h = ap (λ (k : History). own_events fabric k) (no_events given t h now)

  pub confirms_aside : (other id : ℕ) → (fabric ≡ other → ⊥) → own_ledger fabric (ledger_behind given s (confirms other id) now l) ≡ own_ledger fabric l
  confirms_aside other id apart = kept_aside given fabric s l (confirms other id) now is (time_own s) (time_events s l.history) (changed_apart fabric other id confirmed l.subs apart)

  pub ends_aside : (other : ℕ) (ids : List ℕ) → (fabric ≡ other → ⊥) → own_ledger fabric (ledger_behind given s (ends other ids) now l) ≡ own_ledger fabric l
  ends_aside other ids apart = kept_aside given fabric s l (ends other ids) now is (time_own s) (time_events s l.history) (ids_apart fabric other ids l.subs apart)

  report_apart : (other id : ℕ) (due : Option Due) → (fabric ≡ other → ⊥) → Alike fabric (behind_report s l now other id due) l.subs
  report_apart other id None apart = same_alike fabric l.subs
  report_apart other id (Some due) apart = changed_apart fabric other id (told_now s l.history now other due) l.subs apart

  pub reports_aside : (other id : ℕ) → (fabric ≡ other → ⊥) → own_ledger fabric (ledger_behind given s (reports other id) now l) ≡ own_ledger fabric l
  reports_aside other id apart = kept_aside given fabric s l (reports other id) now is (time_own s) (time_events s l.history) (report_apart other id (due_now s l now other id) apart)

  -- on the veil
  module _ (sees : laws.SeesTheVeil) (keeps_own : laws.KeepsItsOwnPart) (keeps_events : histories.KeepsItsEvents) (keeps_recent : histories.KeepsRecentEvents) (first : length first_ids ≡ 256) (valid : IsValid s) where
    time_own_same : own fabric (after_action given (veil fabric s) Nothing now) ≡ own fabric (after_action given s Nothing now)
    time_own_same = time_own (veil fabric s) ∙ keeps_own fabric s valid ∙ sym (time_own s)

    time_events_same : own_events fabric (history_behind given (veil fabric s) Nothing now (veiled_history fabric l.history)) ≡ own_events fabric (history_behind given s Nothing now l.history)
    time_events_same = time_events (veil fabric s) (veiled_history fabric l.history) ∙ keeps_events fabric l.history is.history ∙ sym (time_events s l.history)

    abbrev veiled : Ledger
    veiled = veiled_ledger fabric l

    subs_same : Alike fabric (veiled_ledger fabric l).subs l.subs
    subs_same = veiled_subs first s l is fabric

    pub confirms_on_veil : (id : ℕ) → own_ledger fabric (ledger_behind given (veil fabric s) (confirms fabric id) now (veiled_ledger fabric l)) ≡ own_ledger fabric (ledger_behind given s (confirms fabric id) now l)
    confirms_on_veil id =
        left_on_both given fabric s (veil fabric s) veiled l (confirms fabric id) now time_own_same time_events_same
        (changed_alike fabric fabric id id confirmed confirmed veiled.subs l.subs refl refl subs_same)

    pub ends_on_veil : (ids : List ℕ) → own_ledger fabric (ledger_behind given (veil fabric s) (ends fabric ids) now (veiled_ledger fabric l)) ≡ own_ledger fabric (ledger_behind given s (ends fabric ids) now l)
    ends_on_veil ids =
        left_on_both given fabric s (veil fabric s) veiled l (ends fabric ids) now time_own_same time_events_same
        (staying_alike fabric (is_none_of fabric ids) (is_none_of fabric ids) veiled.subs l.subs (λ x its. refl) subs_same)

    told_now_same : (due : Due) → told_now (veil fabric s) (veiled_history fabric l.history) now fabric due ≡ told_now s l.history now fabric due
    told_now_same due =
        let events = due_events_same sees keeps_own keeps_events keeps_recent s l.history valid is.history fabric due.kept in
        λ i kept. at_once due.kept.sub.actor (reported now (valid.newest_counts i) (last_told due.kept.event (events i)) kept)

    report_alike : (id : ℕ) (due : Option Due) → Alike fabric (behind_report (veil fabric s) (veiled_ledger fabric l) now fabric id due) (behind_report s l now fabric id due)
    report_alike id None = subs_same
    report_alike id (Some due) =
        changed_alike fabric fabric id id (told_now (veil fabric s) (veiled_history fabric l.history) now fabric due) (told_now s l.history now fabric due) veiled.subs l.subs refl (told_now_same due) subs_same

    pub reports_on_veil : (id : ℕ) → own_ledger fabric (ledger_behind given (veil fabric s) (reports fabric id) now (veiled_ledger fabric l)) ≡ own_ledger fabric (ledger_behind given s (reports fabric id) now l)
    reports_on_veil id =
        left_on_both given fabric s (veil fabric s) veiled l (reports fabric id) now time_own_same time_events_same
        (subst (λ (due : Option Due). Alike fabric (behind_report (veil fabric s) veiled now fabric id due) (behind_report s l now fabric id (due_now s l now fabric id)))
        (sym (due_same sees keeps_own keeps_events keeps_recent fabric id now s l valid is.history))
        (report_alike id (due_now s l now fabric id)))

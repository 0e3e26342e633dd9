-- Laws of ledgers.
use Rattle.std.specs.Prelude.{◌≡◌, ◌≢◌, ℕ, List, Option, None, Some, false, Result}
use Rattle.mt_failsafe.specs.Notes.{was_added, was_updated}
use Rattle.mt_im.specs.declared.fault.ImFault.{ImFault}
use Rattle.mt_model.specs.declared.messages.message.Request.{Request}
use Rattle.mt_model.specs.declared.node.action.Action.TheVariants.{Ask, Expire, Nothing}
use Rattle.mt_model.specs.declared.node.state.NodeState.{NodeState}
use Rattle.mt_model.specs.declared.tables.access.Actor.{Actor}
use Rattle.mt_opcreds.specs.Laws.{KeepsRules}
use Rattle.mt_subs.specs.Subscriptions.{kept_at}
use Rattle.mt_machine.specs.Environment.{Environment}
use Rattle.mt_machine.specs.Isolation.{veil, veil_of_whole}
use Rattle.mt_machine.specs.Lines.{action_of}
use Rattle.mt_machine.specs.State.{IsValid, State}
use Rattle.mt_machine.specs.Step.{after_action, asker}
use Rattle.mt_machine.specs.Touching.{StaysThere}
use Rattle.mt_ledger.specs.history.Isolation.{recent}
use Rattle.mt_ledger.specs.Asking.{full_line_reply, full_reply, line_response}
use Rattle.mt_ledger.specs.Behind.{Activity, acts, confirms, ends, ledger_behind, reports, state_done}
use Rattle.mt_ledger.specs.Isolation.{own_ledger, veiled_ledger}
use Rattle.mt_ledger.specs.Ledger.{IsLedger, Ledger, opened_at}
use Rattle.mt_ledger.specs.Reporting.{due_now, due_report, Due}

-- What every ledger keeps: that of a boot, whatever ceiling was stored before it, and what is left by whatever is done.

abbrev pub OpensLedger : Type 0
OpensLedger = (s : NodeState) (ceiling : ℕ) → IsLedger s (opened_at ceiling)

abbrev pub StaysLedger : Type 0
StaysLedger = (given : Environment) (s : NodeState) (activity : Activity) (now : ℕ) (l : Ledger) → KeepsRules given.judged → IsValid s → IsLedger s l → IsLedger (state_done given s activity now) (ledger_behind given s activity now l)

-- The veil has a fabric's own part, and what is public, as the ledger has them.

abbrev pub KeepsItsLedger : Type 0
KeepsItsLedger = (fabric : ℕ) (s : NodeState) (l : Ledger) → IsLedger s l → own_ledger fabric (veiled_ledger fabric l) ≡ own_ledger fabric l

abbrev pub KeepsTheRecent : Type 0
KeepsTheRecent = (fabric : ℕ) (l : Ledger) → recent (veiled_ledger fabric l).history ≡ recent l.history

-- What an actor is replied on the veils of its fabric is what it is replied; so it is on a line of a plain actor, and so is what follows at
-- once.

abbrev pub RepliesOnTheVeil : Type 0
RepliesOnTheVeil = (given : Environment) (s : NodeState) (l : Ledger) (actor asking : Actor) (request : Request) (deadline : Option ℕ) (now : ℕ) → IsValid s → IsLedger s l
    → asker s actor ≡ Some asking → asker (veil asking.fabric s) actor ≡ Some asking
    → full_reply given (veil asking.fabric s) (veiled_ledger asking.fabric l) (Ask actor request deadline) now ≡ full_reply given s l (Ask actor request deadline) now

abbrev pub LineRepliesOnTheVeil : Type 0
LineRepliesOnTheVeil = (given : Environment) (s : State) (l : Ledger) (actor asking : Actor) (now : ℕ) (asked : Result Request ImFault) → IsValid s.node → IsLedger s.node l
    → asker s.node actor ≡ Some asking → asker (veil asking.fabric s.node) actor ≡ Some asking
    → full_line_reply given (veil_of_whole asking.fabric s) (veiled_ledger asking.fabric l) actor asking now asked ≡ full_line_reply given s l actor asking now asked

abbrev pub RespondsOnTheVeil : Type 0
RespondsOnTheVeil = (s : State) (l : Ledger) (asking : Actor) (now : ℕ) (asked : Result Request ImFault) → IsValid s.node → IsLedger s.node l
    → line_response (veil_of_whole asking.fabric s) (veiled_ledger asking.fabric l) asking now asked ≡ line_response s l asking now asked

-- On the veils of its fabric a subscription is there as it is, it is due where it is, and it is told the same.

abbrev pub FindsItsOwn : Type 0
FindsItsOwn = (fabric id : ℕ) (l : Ledger) → kept_at fabric id (veiled_ledger fabric l).subs ≡ kept_at fabric id l.subs

abbrev pub DueOnTheVeil : Type 0
DueOnTheVeil = (fabric id now : ℕ) (s : NodeState) (l : Ledger) → IsValid s → IsLedger s l → due_now (veil fabric s) (veiled_ledger fabric l) now fabric id ≡ due_now s l now fabric id

abbrev pub ReportsOnTheVeil : Type 0
ReportsOnTheVeil = (fabric id : ℕ) (s : NodeState) (l : Ledger) (due : Due) → IsValid s → IsLedger s l
    → due_report (veil fabric s) (veiled_ledger fabric l).history fabric id due ≡ due_report s l.history fabric id due

-- What an actor asks leaves on the veils of its fabric the same own part of the ledger.
abbrev pub LeavesItsLedgerOnTheVeil : Type 0
LeavesItsLedgerOnTheVeil = (given : Environment) (s : NodeState) (l : Ledger) (actor asking : Actor) (asked : Result Request ImFault) (deadline : Option ℕ) (now : ℕ) → KeepsRules given.judged → IsValid s → IsLedger s l
    → asker s actor ≡ Some asking → asker (veil asking.fabric s) actor ≡ Some asking
    → own_ledger asking.fabric (ledger_behind given (veil asking.fabric s) (acts (action_of actor deadline asked)) now (veiled_ledger asking.fabric l))
    ≡ own_ledger asking.fabric (ledger_behind given s (acts (action_of actor deadline asked)) now l)

-- So does what is done with subscriptions of the fabric itself, and a time step, for every fabric.

abbrev pub LeavesAlikeOnTheVeil : ℕ → Activity → Type 0
LeavesAlikeOnTheVeil fabric activity = (given : Environment) (s : NodeState) (l : Ledger) (now : ℕ) → KeepsRules given.judged → IsValid s → IsLedger s l
    → own_ledger fabric (ledger_behind given (veil fabric s) activity now (veiled_ledger fabric l)) ≡ own_ledger fabric (ledger_behind given s activity now l)

abbrev pub ConfirmsOnTheVeil : Type 0
ConfirmsOnTheVeil = (fabric id : ℕ) → LeavesAlikeOnTheVeil fabric (confirms fabric id)

abbrev pub EndsOnTheVeil : Type 0
EndsOnTheVeil = (fabric : ℕ) (ids : List ℕ) → LeavesAlikeOnTheVeil fabric (ends fabric ids)

abbrev pub ReportedOnTheVeil : Type 0
ReportedOnTheVeil = (fabric id : ℕ) → LeavesAlikeOnTheVeil fabric (reports fabric id)

abbrev pub TicksLeaveLedgersOnTheVeil : Type 0
TicksLeaveLedgersOnTheVeil = (fabric : ℕ) → LeavesAlikeOnTheVeil fabric (acts Expire)

-- What an actor asks changes nothing of another fabric's own part, unless that enters the table or leaves it.
abbrev pub KeepsOthersLedgers : Type 0
KeepsOthersLedgers = (given : Environment) (fabric : ℕ) (s : NodeState) (l : Ledger) (actor asking : Actor) (asked : Result Request ImFault) (deadline : Option ℕ) (now : ℕ) → KeepsRules given.judged → IsValid s → IsLedger s l
    → asker s actor ≡ Some asking → fabric ≢ asking.fabric → StaysThere fabric s (after_action given s (action_of actor deadline asked) now)
    → own_ledger fabric (ledger_behind given s (acts (action_of actor deadline asked)) now l) ≡ own_ledger fabric l

-- Nor does what is done with the subscriptions of another.

abbrev pub KeepsItAside : ℕ → Activity → Type 0
KeepsItAside fabric activity = (given : Environment) (s : NodeState) (l : Ledger) (now : ℕ) → IsLedger s l → own_ledger fabric (ledger_behind given s activity now l) ≡ own_ledger fabric l

abbrev pub ConfirmsAside : Type 0
ConfirmsAside = (fabric other id : ℕ) → fabric ≢ other → KeepsItAside fabric (confirms other id)

abbrev pub EndsAside : Type 0
EndsAside = (fabric other : ℕ) (ids : List ℕ) → fabric ≢ other → KeepsItAside fabric (ends other ids)

abbrev pub ReportsAside : Type 0
ReportsAside = (fabric other id : ℕ) → fabric ≢ other → KeepsItAside fabric (reports other id)

-- A time step leaves a fabric that was neither added nor updated under the fail-safe its own part.
abbrev pub TicksSpareLedgers : Type 0
TicksSpareLedgers = (given : Environment) (fabric : ℕ) (s : NodeState) (l : Ledger) (now : ℕ) → KeepsRules given.judged → IsValid s → IsLedger s l → fabric ≢ 0 → was_added fabric s.armed ≡ false → was_updated fabric s.armed ≡ false
    → own_ledger fabric (ledger_behind given s (acts Expire) now l) ≡ own_ledger fabric l

-- Where nobody is taken as asking, and where time passes, nothing changes.

abbrev pub NobodyChangesIt : Type 0
NobodyChangesIt = (given : Environment) (s : NodeState) (l : Ledger) (actor : Actor) (asked : Result Request ImFault) (deadline : Option ℕ) (now : ℕ) → IsLedger s l → asker s actor ≡ None
    → ledger_behind given s (acts (action_of actor deadline asked)) now l ≡ l

abbrev pub TimeChangesNothing : Type 0
TimeChangesNothing = (given : Environment) (s : NodeState) (l : Ledger) (now : ℕ) → IsLedger s l → ledger_behind given s (acts Nothing) now l ≡ l

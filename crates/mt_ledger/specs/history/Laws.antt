-- Laws of histories.
use Rattle.std.specs.Prelude.{◌≡◌, ◌≢◌, ◌≤◌, ℕ, Option, None, Some, false, Result}
use Rattle.mt_failsafe.specs.Notes.{was_added}
use Rattle.mt_tlv.specs.declared.value.Value.{Value}
use Rattle.mt_im.specs.declared.fault.ImFault.{ImFault}
use Rattle.mt_model.specs.declared.limits.TheConstants.{FABRICS}
use Rattle.mt_model.specs.declared.messages.message.Request.{Request}
use Rattle.mt_model.specs.declared.node.action.Action.{Action}
use Rattle.mt_model.specs.declared.node.action.Action.TheVariants.{Ask, Expire, Nothing}
use Rattle.mt_model.specs.declared.node.state.NodeState.{NodeState}
use Rattle.mt_model.specs.declared.rows.place.Place.{Place}
use Rattle.mt_model.specs.declared.tables.access.Actor.{Actor}
use Rattle.mt_opcreds.specs.Laws.{KeepsRules}
use Rattle.mt_machine.specs.Environment.{Environment}
use Rattle.mt_machine.specs.Isolation.{veil, veil_of_whole}
use Rattle.mt_machine.specs.Lines.{action_of}
use Rattle.mt_machine.specs.State.{IsValid, State}
use Rattle.mt_machine.specs.Step.{after_action, asker}
use Rattle.mt_machine.specs.Touching.{StaysThere}
use Rattle.mt_ledger.specs.history.Asking.{full_line_reply, full_reply}
use Rattle.mt_ledger.specs.history.Behind.{history_behind}
use Rattle.mt_ledger.specs.history.History.{History, IsHistory, begun_at, happened, with_event, without_left}
use Rattle.mt_ledger.specs.history.Isolation.{own_events, recent, veiled_history}

-- What every history keeps: that of a boot, whatever ceiling was stored before it (0 where the node is new), and what an action leaves.

abbrev pub OpensHistory : Type 0
OpensHistory = (ceiling : ℕ) → IsHistory (begun_at ceiling)

abbrev pub StaysHistory : Type 0
StaysHistory = (given : Environment) (s : NodeState) (action : Action) (now : ℕ) (h : History) → KeepsRules given.judged → IsValid s → IsHistory h → IsHistory (history_behind given s action now h)

-- One more event, of a fabric that there may be, leaves it so, and so does a fabric that leaves.

abbrev pub RecordsOne : Type 0
RecordsOne = (now : ℕ) (place : Place) (priority fabric : ℕ) (value : Value) (h : History) → fabric ≤ FABRICS → IsHistory h → IsHistory (with_event (happened h.numbers.next place priority now fabric value) h)

abbrev pub ForgetsLeft : Type 0
ForgetsLeft = (gone : Option ℕ) (h : History) → IsHistory h → IsHistory (without_left gone h)

-- The veil has a fabric's own events, and what is public, as the history has them.

abbrev pub KeepsItsEvents : Type 0
KeepsItsEvents = (fabric : ℕ) (h : History) → IsHistory h → own_events fabric (veiled_history fabric h) ≡ own_events fabric h

abbrev pub KeepsRecentEvents : Type 0
KeepsRecentEvents = (fabric : ℕ) (h : History) → recent (veiled_history fabric h) ≡ recent h

-- What an actor is replied on the veils of its fabric is what it is replied, events among it; so it is on a line of a plain actor.

abbrev pub RepliesWithEventsOnTheVeil : Type 0
RepliesWithEventsOnTheVeil = (given : Environment) (s : NodeState) (h : History) (actor asking : Actor) (request : Request) (deadline : Option ℕ) (now : ℕ) → IsValid s → IsHistory h
    → asker s actor ≡ Some asking → asker (veil asking.fabric s) actor ≡ Some asking
    → full_reply given (veil asking.fabric s) (veiled_history asking.fabric h) (Ask actor request deadline) now ≡ full_reply given s h (Ask actor request deadline) now

abbrev pub LineRepliesWithEventsOnTheVeil : Type 0
LineRepliesWithEventsOnTheVeil = (given : Environment) (s : State) (h : History) (actor asking : Actor) (now : ℕ) (asked : Result Request ImFault) → IsValid s.node → IsHistory h
    → asker s.node actor ≡ Some asking → asker (veil asking.fabric s.node) actor ≡ Some asking
    → full_line_reply given (veil_of_whole asking.fabric s) (veiled_history asking.fabric h) actor asking now asked ≡ full_line_reply given s h actor asking now asked

-- What an actor asks leaves on the veils of its fabric the same events of its own.
abbrev pub LeavesItsEventsOnTheVeil : Type 0
LeavesItsEventsOnTheVeil = (given : Environment) (s : NodeState) (h : History) (actor asking : Actor) (asked : Result Request ImFault) (deadline : Option ℕ) (now : ℕ) → KeepsRules given.judged → IsValid s → IsHistory h
    → asker s actor ≡ Some asking → asker (veil asking.fabric s) actor ≡ Some asking
    → own_events asking.fabric (history_behind given (veil asking.fabric s) (action_of actor deadline asked) now (veiled_history asking.fabric h))
    ≡ own_events asking.fabric (history_behind given s (action_of actor deadline asked) now h)

-- So does a time step, for every fabric.
abbrev pub TicksLeaveEventsOnTheVeil : Type 0
TicksLeaveEventsOnTheVeil = (given : Environment) (fabric : ℕ) (s : NodeState) (h : History) (now : ℕ) → KeepsRules given.judged → IsValid s → IsHistory h
    → own_events fabric (history_behind given (veil fabric s) Expire now (veiled_history fabric h)) ≡ own_events fabric (history_behind given s Expire now h)

-- It changes none of another fabric's events, unless that enters the table or leaves it.
abbrev pub KeepsOthersEvents : Type 0
KeepsOthersEvents = (given : Environment) (fabric : ℕ) (s : NodeState) (h : History) (actor asking : Actor) (asked : Result Request ImFault) (deadline : Option ℕ) (now : ℕ) → KeepsRules given.judged → IsValid s → IsHistory h
    → asker s actor ≡ Some asking → fabric ≢ asking.fabric → StaysThere fabric s (after_action given s (action_of actor deadline asked) now)
    → own_events fabric (history_behind given s (action_of actor deadline asked) now h) ≡ own_events fabric h

-- A time step leaves a fabric that was not added under the fail-safe its events.
abbrev pub TicksSpareEvents : Type 0
TicksSpareEvents = (given : Environment) (fabric : ℕ) (s : NodeState) (h : History) (now : ℕ) → KeepsRules given.judged → IsValid s → IsHistory h → was_added fabric s.armed ≡ false
    → own_events fabric (history_behind given s Expire now h) ≡ own_events fabric h

-- Where nobody is taken as asking, and where time passes, nothing happens.

abbrev pub NobodyTells : Type 0
NobodyTells = (given : Environment) (s : NodeState) (h : History) (actor : Actor) (asked : Result Request ImFault) (deadline : Option ℕ) (now : ℕ) → asker s actor ≡ None
    → history_behind given s (action_of actor deadline asked) now h ≡ h

abbrev pub TimeTellsNothing : Type 0
TimeTellsNothing = (given : Environment) (s : NodeState) (h : History) (now : ℕ) → history_behind given s Nothing now h ≡ h

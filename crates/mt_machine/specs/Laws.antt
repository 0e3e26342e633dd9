-- Laws of the written machine.
use Rattle.std.specs.Prelude.{◌≡◌, ◌≢◌, ℕ, ◌^◌, ◌==◌, ◌||◌, nat_le, List, [], ◌∷◌, None, Option, Result, Some, false, map, true, unwrap_or, if◌then◌else◌}
use Rattle.std.specs.List.{list_all}
use Rattle.mt_failsafe.specs.Notes.{was_added, was_updated}
use Rattle.mt_model.specs.Optional.{is_that}
use Rattle.mt_model.specs.texts.Config.{are_entries, are_fabrics}
use Rattle.mt_model.specs.rows.Seen.{seen_as}
use Rattle.mt_model.specs.declared.tables.access.AclEntry.{AclEntry}
use Rattle.mt_model.specs.declared.texts.config.SessionRow.{SessionRow}
use Rattle.mt_model.specs.declared.tables.fabric.Credentials.{Credentials}
use Rattle.mt_model.specs.declared.tables.fabric.Fabric.{Fabric}
use Rattle.mt_model.specs.declared.tables.network.Armed.{Armed}
use Rattle.mt_model.specs.declared.tables.network.Network.{Network}
use Rattle.mt_model.specs.declared.texts.recording.Event.{Event}
use Rattle.mt_model.specs.declared.node.state.NodeState.{NodeState}
use Rattle.mt_model.specs.declared.node.action.Action.{Action}
use Rattle.mt_machine.specs.Changes.{changed_at, settled}
use Rattle.mt_fabrics.specs.Table.{credentials_at}
use Rattle.mt_model.specs.declared.node.action.NodeStep.{NodeStep}
use Rattle.mt_model.specs.declared.node.action.NodeStep.TheVariants.{RemoveFabric, UpdateFabric}
use Rattle.mt_model.specs.declared.tables.access.Actor.{Actor}
use Rattle.mt_machine.specs.Effects.{after, after_all, events_in, is_setting_step, is_sound_step, may_update, sets_values}
use Rattle.mt_machine.specs.Taking.{may_take, may_take_all}
use Rattle.mt_machine.specs.Touching.{StaysThere, is_its_step, may_touch}
use Rattle.mt_machine.specs.Environment.{Environment}
use Rattle.mt_machine.specs.Isolation.{own, own_of_whole, public_view, veil, veil_of_whole}
use Rattle.mt_model.specs.declared.node.action.NodeStep.TheVariants as steps
use Rattle.mt_machine.specs.Leaving.{has_left}
use Rattle.mt_model.specs.declared.texts.recording.Event.TheVariants.{Tick}
use Rattle.mt_machine.specs.Lines.{action_of, behind_action, deadline_of, fabric_of, is_tick, line_actor, line_reply, plain_next, plain_sent}
use Rattle.mt_machine.specs.Observation.{observation}
use Rattle.mt_machine.specs.Opened.{begun_with, opened_with}
use Rattle.mt_machine.specs.Rollback.{added_in, deadlines_left, is_due, rollback}
use Rattle.mt_model.specs.declared.node.action.Action.TheVariants.{Expire, Nothing}
use Rattle.mt_im.specs.declared.fault.ImFault.{ImFault}
use Rattle.mt_model.specs.declared.messages.message.Request.{Request}
use Rattle.mt_model.specs.declared.node.state.NodeSession.{NodeSession}
use Rattle.mt_machine.specs.State.{IsValid, State, is_member, rows_of}
use Rattle.mt_machine.specs.Telling.{is_told_as, told_between}
use Rattle.mt_opcreds.specs.Laws.{KeepsRules}
use Rattle.mt_machine.specs.Step.{after_action, after_steps, asker, aside_between, aside_of, asker_of, at_time, gone_between, steps_of, window_steps}

-- What a fabric observes of a state is what it observes of the veil, which is made of its own part and of what is
-- public to it.
abbrev pub SeesTheVeil : Type 0
SeesTheVeil = (fabric : ℕ) (s : NodeState) → IsValid s → observation fabric (veil fabric s) ≡ observation fabric s

-- The veil has the own part of its fabric, and what is public to it, as the state has them: it takes nothing
-- away from either, and neither has more than the veil can be built of.
abbrev pub KeepsItsOwnPart : Type 0
KeepsItsOwnPart = (fabric : ℕ) (s : NodeState) → IsValid s → own fabric (veil fabric s) ≡ own fabric s

abbrev pub KeepsItsPublicView : Type 0
KeepsItsPublicView = (fabric : ℕ) (s : NodeState) → IsValid s → public_view fabric (veil fabric s) ≡ public_view fabric s

-- What an expiry gives back is public to nobody: neither saved credentials nor saved networks are.
abbrev pub HidesWhatIsSaved : Type 0
HidesWhatIsSaved = (fabric : ℕ) (s : NodeState) (armed : Armed) (credentials : Option Credentials) (networks : List Network)
    → public_view fabric (record s { armed = Some (record armed { saved_credentials = credentials; saved_networks = networks }) }) ≡ public_view fabric (record s { armed = Some armed })

-- What an event sends on the veil of its fabric is what it sends on the state.
abbrev pub SendsOnTheVeil : Type 0
SendsOnTheVeil = (given : Environment) (s : State) (e : Event) → IsValid s.node → plain_sent given (veil_of_whole (fabric_of s.node e) s) e ≡ plain_sent given s e

-- What an event sends is determined by the own part of its fabric and by what is public to it.
abbrev pub SeesItsViewAlone : Type 0
SeesItsViewAlone = (given : Environment) (s t : State) (e : Event) → IsValid s.node → IsValid t.node
    → fabric_of s.node e ≡ fabric_of t.node e
    → own_of_whole (fabric_of s.node e) s ≡ own_of_whole (fabric_of t.node e) t
    → public_view (fabric_of s.node e) s.node ≡ public_view (fabric_of t.node e) t.node
    → plain_sent given s e ≡ plain_sent given t e

-- And so is the own part that an event leaves to its fabric.
abbrev pub LeavesItsOwnByItsView : Type 0
LeavesItsOwnByItsView = (given : Environment) (s t : State) (e : Event) → KeepsRules given.judged → IsValid s.node → IsValid t.node
    → fabric_of s.node e ≡ fabric_of t.node e
    → own_of_whole (fabric_of s.node e) s ≡ own_of_whole (fabric_of t.node e) t
    → public_view (fabric_of s.node e) s.node ≡ public_view (fabric_of t.node e) t.node
    → own_of_whole (fabric_of s.node e) (plain_next given s e) ≡ own_of_whole (fabric_of t.node e) (plain_next given t e)

-- On the veil of its fabric an event leaves the same own part as on the state.
abbrev pub LeavesTheOwnOnTheVeil : Type 0
LeavesTheOwnOnTheVeil = (given : Environment) (s : State) (e : Event) → KeepsRules given.judged → IsValid s.node
    → own_of_whole (fabric_of s.node e) (plain_next given (veil_of_whole (fabric_of s.node e) s) e) ≡ own_of_whole (fabric_of s.node e) (plain_next given s e)

-- What an actor asks leaves on the veil of its fabric the same own part as on the state, where it is taken as the same one on both.
abbrev pub ActionsLeaveTheOwnOnTheVeil : Type 0
ActionsLeaveTheOwnOnTheVeil = (given : Environment) (s : State) (actor asking : Actor) (asked : Result Request ImFault) (deadline : Option ℕ) (ms : ℕ) → KeepsRules given.judged → IsValid s.node
    → asker s.node actor ≡ Some asking → asker (veil asking.fabric s.node) actor ≡ Some asking
    → own_of_whole asking.fabric (behind_action given (veil_of_whole asking.fabric s) (action_of actor deadline asked) ms) ≡ own_of_whole asking.fabric (behind_action given s (action_of actor deadline asked) ms)

-- It changes nothing that is the own of another fabric, unless that enters the table or leaves it.
abbrev pub ActionsKeepTheOwn : Type 0
ActionsKeepTheOwn = (given : Environment) (fabric : ℕ) (s : State) (actor asking : Actor) (asked : Result Request ImFault) (deadline : Option ℕ) (ms : ℕ) → KeepsRules given.judged → IsValid s.node
    → asker s.node actor ≡ Some asking → fabric ≢ asking.fabric
    → StaysThere fabric s.node (behind_action given s (action_of actor deadline asked) ms).node
    → own_of_whole fabric (behind_action given s (action_of actor deadline asked) ms) ≡ own_of_whole fabric s

-- Where time alone passes every own part stays.
abbrev pub TimeKeepsTheOwn : Type 0
TimeKeepsTheOwn = (given : Environment) (fabric : ℕ) (s : State) (ms : ℕ) → own_of_whole fabric (behind_action given s Nothing ms) ≡ own_of_whole fabric s

-- No action takes a session from its place or gives it another id.
abbrev pub SessionsKeepTheirIds : Type 0
SessionsKeepTheirIds = (given : Environment) (s : NodeState) (action : Action) (now : ℕ)
    → map (λ (session : NodeSession). session.session) (after_action given s action now).sessions ≡ map (λ (session : NodeSession). session.session) s.sessions

-- An event changes nothing that is the own of another fabric, unless that enters the table or leaves it. (A time step is nobody's event:
-- the next laws say what it changes.)
abbrev pub KeepsTheOwn : Type 0
KeepsTheOwn = (given : Environment) (fabric : ℕ) (s : State) (e : Event) → KeepsRules given.judged → IsValid s.node → is_tick e ≡ false → fabric ≢ fabric_of s.node e
    → StaysThere fabric s.node (plain_next given s e).node
    → own_of_whole fabric (plain_next given s e) ≡ own_of_whole fabric s

-- A time step lets the fail-safe expire exactly where it is armed and the time of its end has come. Then the state is the rollback of the
-- state before, at that time; otherwise the time alone is new. Behind that the commissioning window is closed whose end has come, and
-- versions and change numbers follow.
abbrev pub ExpiresWhereDue : Type 0
ExpiresWhereDue = (given : Environment) (s : State) (ms : ℕ) → is_due s.node.armed ms ≡ true
    → plain_next given s (Tick ms) ≡ record { node = settled (at_time ms s.node) (after_all None (window_steps s.node ms) (rollback (at_time ms s.node))); deadlines = deadlines_left s.node.armed s.deadlines }

abbrev pub PassesOtherwise : Type 0
PassesOtherwise = (given : Environment) (s : State) (ms : ℕ) → is_due s.node.armed ms ≡ false → plain_next given s (Tick ms) ≡ record s { node = settled (at_time ms s.node) (after_all None (window_steps s.node ms) (at_time ms s.node)) }

-- The fabric that it takes out of the table is the one that was added, where one was.
abbrev pub TakesTheAddedAway : Type 0
TakesTheAddedAway = (given : Environment) (s : NodeState) (now : ℕ) → IsValid s → (aside_of given s Expire now).gone ≡ (if is_due s.armed now then added_in s.armed else None)

-- A time step leaves a fabric that was neither added nor updated under the fail-safe its own part.
abbrev pub TicksSpareOthers : Type 0
TicksSpareOthers = (given : Environment) (fabric : ℕ) (s : State) (ms : ℕ) → IsValid s.node → fabric ≢ 0 → was_added fabric s.node.armed ≡ false → was_updated fabric s.node.armed ≡ false
    → own_of_whole fabric (plain_next given s (Tick ms)) ≡ own_of_whole fabric s

-- The own part that a time step leaves to any fabric is what it leaves on the veil of that fabric, and so it is determined by that part and
-- by what is public to it, as both were before.
abbrev pub TicksOnTheVeil : Type 0
TicksOnTheVeil = (given : Environment) (fabric : ℕ) (s : State) (ms : ℕ) → IsValid s.node → own_of_whole fabric (plain_next given (veil_of_whole fabric s) (Tick ms)) ≡ own_of_whole fabric (plain_next given s (Tick ms))

abbrev pub TicksSeeTheMarkAlone : Type 0
TicksSeeTheMarkAlone = (given : Environment) (fabric : ℕ) (s t : State) (ms : ℕ) → IsValid s.node → IsValid t.node
    → own_of_whole fabric s ≡ own_of_whole fabric t → public_view fabric s.node ≡ public_view fabric t.node
    → own_of_whole fabric (plain_next given s (Tick ms)) ≡ own_of_whole fabric (plain_next given t (Tick ms))

-- A new node's state is valid, in whatever boot there may be.
abbrev pub OpensValid : Type 0
OpensValid = (boot : ℕ) (fabrics : List Fabric) (entries : List AclEntry) (sessions : List SessionRow) → nat_le boot (2 ^ 31) ≡ true → are_fabrics fabrics ≡ true → are_entries fabrics entries ≡ true
    → IsValid (opened_with boot fabrics entries sessions)

-- A boot begins in a valid state, where what was kept is that of one in which no fail-safe is armed.
abbrev pub BeginsValid : Type 0
BeginsValid = (boot : ℕ) (sessions : List SessionRow) (kept : NodeState) → nat_le boot (2 ^ 31) ≡ true → IsValid kept → kept.armed ≡ None → IsValid (begun_with boot sessions kept)

-- It takes the steps of each action, one after the other, where the verdicts keep the rules of their kinds.
abbrev pub TakesItsSteps : Type 0
TakesItsSteps = (given : Environment) (s : NodeState) (action : Action) (now : ℕ) → KeepsRules given.judged → IsValid s → may_take_all (asker_of s action) (steps_of given s action now) (at_time now s) ≡ true

-- the time of a state may be any
abbrev pub TimesStayValid : Type 0
TimesStayValid = (s : NodeState) (now : ℕ) → IsValid s → IsValid (at_time now s)

-- An action leaves it so.
abbrev pub StaysValid : Type 0
StaysValid = (given : Environment) (s : NodeState) (action : Action) (now : ℕ) → KeepsRules given.judged → IsValid s → IsValid (after_action given s action now)

-- What an expiry of the fail-safe leaves of a valid state is valid.
abbrev pub RollsBackValid : Type 0
RollsBackValid = (s : NodeState) → IsValid s → IsValid (rollback s)

-- A fabric that was neither added nor updated under the fail-safe keeps its own part as it is. (What fabric 0 owns are the sessions of PASE
-- without a fabric, which end.)
abbrev pub SparesOthers : Type 0
SparesOthers = (fabric : ℕ) (s : NodeState) → IsValid s → fabric ≢ 0 → was_added fabric s.armed ≡ false → was_updated fabric s.armed ≡ false → own fabric (rollback s) ≡ own fabric s

-- Each step that a valid state takes leaves it valid, whether it sets values or is on networks, the fail-safe or the fabric table: the limits
-- hold, and the facts of the fail-safe. So do all that it takes one after the other.
abbrev pub StepsStayValid : Type 0
StepsStayValid = (asker : Option Actor) (step : NodeStep) (s : NodeState) → IsValid s → may_take s step ≡ true → IsValid (after asker step s)

abbrev pub AllStayValid : Type 0
AllStayValid = (asker : Option Actor) (steps : List NodeStep) (s : NodeState) → IsValid s → may_take_all asker steps s ≡ true → IsValid (after_all asker steps s)

-- A step of commissioning changes nothing that is another fabric's own.
abbrev pub StepsSpareOthers : Type 0
StepsSpareOthers = (fabric : ℕ) (asker : Option Actor) (step : NodeStep) (s : NodeState) → IsValid s → is_sound_step step ≡ true → may_touch s step fabric ≡ false
    → own fabric (after asker step s) ≡ own fabric s

-- A fabric that gets new credentials sees as its own those that it had, which an expiry gives back.
abbrev pub SavesWhatItHad : Type 0
SavesWhatItHad = (asker : Option Actor) (index : ℕ) (given : Credentials) (s : NodeState) → may_update index given s ≡ true
    → (own index (after asker (UpdateFabric index given) s)).saved ≡ credentials_at index s.fabrics

-- On the veil of the fabric that makes it, a step of commissioning leaves the same own part as on the state. So does a removal behind an
-- expiry, by which a fabric leaves for which commissioning goes on.
abbrev pub StepsSeeTheVeil : Type 0
StepsSeeTheVeil = (fabric : ℕ) (asker : Option Actor) (step : NodeStep) (s : NodeState) → IsValid s → is_sound_step step ≡ true → is_its_step s step fabric ≡ true
    → own fabric (after asker step (veil fabric s)) ≡ own fabric (after asker step s)

abbrev pub RemovalsSeeTheVeil : Type 0
RemovalsSeeTheVeil = (fabric : ℕ) (asker : Option Actor) (index : ℕ) (s : NodeState) → IsValid s
    → own fabric (after asker (RemoveFabric index) (rollback (veil fabric s))) ≡ own fabric (after asker (RemoveFabric index) (rollback s))

-- By a step at most one fabric leaves the table, which is the first that is not there any more. So it is with a removal behind an expiry
-- that takes none away.
abbrev pub LeftIsGone : Type 0
LeftIsGone = (fabric : ℕ) (asker : Option Actor) (step : NodeStep) (s : NodeState)
    → has_left s (after asker step s) fabric ≡ is_that fabric (gone_between s.fabrics (after asker step s).fabrics)

abbrev pub LeftIsGoneBehindAnExpiry : Type 0
LeftIsGoneBehindAnExpiry = (fabric : ℕ) (asker : Option Actor) (index : ℕ) (s : NodeState) → added_in s.armed ≡ None
    → has_left s (after_all asker (steps.Expire ∷ RemoveFabric index ∷ []) s) fabric ≡ is_that fabric (gone_between s.fabrics (after_all asker (steps.Expire ∷ RemoveFabric index ∷ []) s).fabrics)

-- So it is with a time step, of whatever state.
abbrev pub TicksTakeOne : Type 0
TicksTakeOne = (given : Environment) (s : NodeState) (now fabric : ℕ) → has_left s (after_action given s Expire now) fabric ≡ is_that fabric (gone_between s.fabrics (after_action given s Expire now).fabrics)

-- An action that makes no step sets the time, and nothing else: no version moves, and no change is counted.
abbrev pub SetsTheTime : Type 0
SetsTheTime = (given : Environment) (s : NodeState) (action : Action) (now : ℕ) → steps_of given s action now ≡ [] → after_action given s action now ≡ record s { clock = now }

-- Compared with itself, a state stays as it is: where nothing differs no version and no change number moves.
abbrev pub StaysSettled : Type 0
StaysSettled = (s : NodeState) → settled s s ≡ s

-- Where no attribute has changed, neither does any version or change number.
abbrev pub ChangesNowhere : Type 0
ChangesNowhere = (s : NodeState) → changed_at [] s s ≡ s

-- The steps that a state takes and that set values set rows of stored places, and entries of the fabric that they name, or tell of events.
abbrev pub TakenValuesFit : Type 0
TakenValuesFit = (asker : Option Actor) (steps : List NodeStep) (s : NodeState) → may_take_all asker steps s ≡ true → list_all sets_values steps ≡ true → list_all is_setting_step steps ≡ true

-- Steps that set rows of stored places, and entries of the fabric that they name, or tell of events, end no session and take no fabric away.
abbrev pub EndsNothing : Type 0
EndsNothing = (session : Option ℕ) (asker : Option Actor) (steps : List NodeStep) (s : NodeState) (now : ℕ) → list_all is_setting_step steps ≡ true
    → aside_between session s (after_steps asker steps (at_time now s)) ≡ record { session = session; closed = []; gone = None }

-- By an action at most one fabric leaves the table, which is the one that is told as gone.
abbrev pub OneLeaves : Type 0
OneLeaves = (given : Environment) (s : NodeState) (action : Action) (now fabric : ℕ) → KeepsRules given.judged → IsValid s
    → has_left s (after_action given s action now) fabric ≡ is_that fabric (aside_of given s action now).gone

-- So it is on the veil of whoever asks, whether or not that is valid.
abbrev pub OneLeavesOnTheVeil : Type 0
OneLeavesOnTheVeil = (given : Environment) (s : NodeState) (actor asking : Actor) (asked : Result Request ImFault) (deadline : Option ℕ) (now fabric : ℕ) → KeepsRules given.judged → IsValid s
    → asker s actor ≡ Some asking → asker (veil asking.fabric s) actor ≡ Some asking
    → has_left (veil asking.fabric s) (after_action given (veil asking.fabric s) (action_of actor deadline asked) now) fabric
    ≡ is_that fabric (aside_of given (veil asking.fabric s) (action_of actor deadline asked) now).gone

-- Each event among an action's steps is told to the asker's fabric alone, or to all; where nobody asks, to all.
abbrev pub TellsItsOwn : Type 0
TellsItsOwn = (given : Environment) (s : NodeState) (action : Action) (now : ℕ) → KeepsRules given.judged → IsValid s → list_all (is_told_as (asker_of s action)) (steps_of given s action now) ≡ true

-- Steps that set values tell the events among them, and nothing besides.
abbrev pub SettingStepsTell : Type 0
SettingStepsTell = (asker : Option Actor) (steps : List NodeStep) (s : NodeState) (now : ℕ) → list_all is_setting_step steps ≡ true
    → told_between asker steps s (after_steps asker steps (at_time now s)) ≡ events_in steps

-- The actor of a line is taken as the same one on the veil of the fabric for which the line acts, or as nobody on both; whoever it is taken
-- as is of that fabric.
abbrev pub LinesAskOnTheVeil : Type 0
LinesAskOnTheVeil = (s : NodeState) (fabric node : ℕ) (cats : List ℕ) → IsValid s
    → (asker (veil (if fabric == 0 then unwrap_or s.plain 0 else fabric) s) (line_actor fabric node cats) ≡ asker s (line_actor fabric node cats))
    × ((asking : Actor) → asker s (line_actor fabric node cats) ≡ Some asking → asking.fabric ≡ (if fabric == 0 then unwrap_or s.plain 0 else fabric))

-- Whoever is taken as asking is of a fabric of the table, or of none.
abbrev pub AskersAreKnown : Type 0
AskersAreKnown = (s : NodeState) (actor asking : Actor) → IsValid s → asker s actor ≡ Some asking → (asking.fabric == 0 || is_member asking.fabric s) ≡ true

-- Where an actor is taken as the same one on the veil of its fabric, a line of it is replied the same there, its deadline is the same, and
-- the steps of what it asks are.

abbrev pub LinesReplyOnTheVeil : Type 0
LinesReplyOnTheVeil = (given : Environment) (s : State) (actor asking : Actor) (ms : ℕ) (asked : Result Request ImFault) → IsValid s.node → asker s.node actor ≡ Some asking → asker (veil asking.fabric s.node) actor ≡ Some asking
    → line_reply given (veil_of_whole asking.fabric s) actor asking ms asked ≡ line_reply given s actor asking ms asked

abbrev pub DeadlinesOnTheVeil : Type 0
DeadlinesOnTheVeil = (s : State) (asking : Actor) → deadline_of asking (veil_of_whole asking.fabric s).deadlines ≡ deadline_of asking s.deadlines

abbrev pub StepsOnTheVeil : Type 0
StepsOnTheVeil = (given : Environment) (s : NodeState) (actor asking : Actor) (asked : Result Request ImFault) (deadline : Option ℕ) (ms : ℕ) → IsValid s → asker s actor ≡ Some asking → asker (veil asking.fabric s) actor ≡ Some asking
    → steps_of given (veil asking.fabric s) (action_of actor deadline asked) ms ≡ steps_of given s (action_of actor deadline asked) ms

-- The rows of each place stand in the order in which a fabric sees them.
abbrev pub StandsInOrder : Type 0
StandsInOrder = (fabric : ℕ) (s : NodeState) → IsValid s → seen_as fabric (rows_of s) s.versions s.entries ≡ (observation fabric s).seen

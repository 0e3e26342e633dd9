-- Laws of whole runs, through every stop.
use Rattle.std.specs.Prelude.{◌≡◌, ◌≢◌, ◌+◌, ◌≤◌, ◌^◌, ◌&&◌, ℕ, true, false, not, List, [], Some, length, map}
use Rattle.std.specs.List.{list_all}
use Rattle.mt_failsafe.specs.Notes.{was_added}
use Rattle.mt_regained.specs.mt_lasting.Contents.{durable, kept_of}
use Rattle.mt_model.specs.texts.Config.{are_sessions}
use Rattle.mt_model.specs.declared.texts.config.SessionRow.{SessionRow}
use Rattle.mt_model.specs.declared.texts.recording.Event.{Event}
use Rattle.mt_model.specs.declared.texts.recording.Event.TheVariants.{Tick}
use Rattle.mt_opcreds.specs.Laws.{KeepsRules}
use Rattle.mt_regained.specs.Rolled.{rolled}
use Rattle.mt_machine.specs.Environment.{Environment}
use Rattle.mt_runs.specs.Course.{Going, call_by_call, course, goes}
use Rattle.mt_runs.specs.Isolation.{IsValidWhole, own_part}
use Rattle.mt_runs.specs.Lines.{fabric_of, is_stop, next, sent}
use Rattle.mt_runs.specs.Marks.{is_in, marks}
use Rattle.mt_runs.specs.Messages.{Message, behind, messages, messages_at, messages_to, names_its_fabric, run}
use Rattle.mt_runs.specs.Replay.{ends, ends_by, held, held_after, replayed}
use Rattle.mt_runs.specs.Reopening.{ceiling_of, reopened, reopened_own}
use Rattle.mt_runs.specs.Whole.{Whole}

-- One line.

-- Each message to a plain actor names the fabric to which it is sent.
abbrev pub LinesNameTheirFabric : Type 0
LinesNameTheirFabric = (given : Environment) (w : Whole) (e : Event) → list_all names_its_fabric (messages_at given w e) ≡ true

-- Who is not in the table is sent nothing.
abbrev pub StrangersAreSentNothing : Type 0
StrangersAreSentNothing = (given : Environment) (fabric : ℕ) (w : Whole) (e : Event) → IsValidWhole w → fabric ≢ 0 → is_in fabric w ≡ false → fabric_of w.state.node e ≡ fabric → sent given w e ≡ []

-- A line that stops the disk leaves the whole as it is.
abbrev pub StopsLeaveAll : Type 0
StopsLeaveAll = (given : Environment) (w : Whole) (e : Event) → is_stop e ≡ true → next given w e ≡ w

-- One reopening.

-- The whole that is reopened is valid, where its boot is one that there may be.
abbrev pub WholeReopensValid : Type 0
WholeReopensValid = (sessions : List SessionRow) (w : Whole) → are_sessions sessions ≡ true → IsValidWhole w → w.state.node.boot + 1 ≤ 2 ^ 31 → IsValidWhole (reopened sessions w)

-- In its table are the fabrics that were there, but for the one that was added under the fail-safe.
abbrev pub WholeReopeningsTakeTheAdded : Type 0
WholeReopeningsTakeTheAdded = (sessions : List SessionRow) (fabric : ℕ) (w : Whole) → IsValidWhole w → is_in fabric (reopened sessions w) ≡ (is_in fabric w && not (was_added fabric w.state.node.armed))

-- A reopening sees the own part and the boot alone.
abbrev pub WholeReopeningsSeeTheOwn : Type 0
WholeReopeningsSeeTheOwn = (sessions : List SessionRow) (fabric : ℕ) (w : Whole) → IsValidWhole w → fabric ≢ 0 → is_in fabric w ≡ true → was_added fabric w.state.node.armed ≡ false
    → own_part fabric (reopened sessions w) ≡ reopened_own sessions (w.state.node.boot + 1) fabric (own_part fabric w)

-- What a time step gives back is given back once: reopened behind it or before it, the own part is the same.
abbrev pub TicksGiveBackOnce : Type 0
TicksGiveBackOnce = (given : Environment) (sessions : List SessionRow) (boot fabric ms : ℕ) (w : Whole) → KeepsRules given.judged → IsValidWhole w → fabric ≢ 0 → is_in fabric w ≡ true → was_added fabric w.state.node.armed ≡ false
    → reopened_own sessions boot fabric (own_part fabric (next given w (Tick ms))) ≡ reopened_own sessions boot fabric (own_part fabric w)

-- Nobody joins by a line and stays through a reopening behind it, since who joins was added under the fail-safe.
abbrev pub NobodyIsBornInStops : Type 0
NobodyIsBornInStops = (given : Environment) (sessions : List SessionRow) (fabric : ℕ) (w : Whole) (e : Event) → KeepsRules given.judged → IsValidWhole w → is_in fabric w ≡ false → is_in fabric (reopened sessions (next given w e)) ≡ false

-- THE ROLLBACK IS EXACT: what is kept behind a reopening is the rollback of what was kept before, but for the number of the boot.
abbrev pub ReopeningsAreRollbacks : Type 0
ReopeningsAreRollbacks = (sessions : List SessionRow) (w : Whole) → IsValidWhole w
    → kept_of (reopened sessions w).state.node (ceiling_of w) ≡ record (rolled (kept_of w.state.node (ceiling_of w))) { boot = Some (w.state.node.boot + 1) }

-- Calls of the disk.

-- the durable map behind a line is the one before it
abbrev pub LastsTheSame : Environment → Whole → Event → Type 0
LastsTheSame given w e = durable w.state.node (ceiling_of w) ≡ durable (next given w e).state.node (ceiling_of (next given w e))

-- A line that leaves what lasts as it was makes none: it goes on, and the stop that is to come stays.
abbrev pub LinesThatKeepMakeNone : Type 0
LinesThatKeepMakeNone = (given : Environment) (g : Going) (e : Event) → is_stop e ≡ false → LastsTheSame given g.whole e → course given g e ≡ goes g.stop

-- Any other line makes four, in one of which the stop may come.
abbrev pub LinesThatChangeMakeCalls : Type 0
LinesThatChangeMakeCalls = (given : Environment) (g : Going) (e : Event) → is_stop e ≡ false → (LastsTheSame given g.whole e → ⊥) → course given g e ≡ call_by_call g.stop

-- Runs, in which there is room for the boots that may come.

abbrev pub HasRoom : Going → List Event → Type 0
HasRoom g events = g.whole.state.node.boot + length events ≤ 2 ^ 31

-- A run leaves a valid whole.
abbrev pub RunsStayValid : Type 0
RunsStayValid = (given : Environment) (sessions : List SessionRow) (g : Going) (events : List Event) → KeepsRules given.judged → are_sessions sessions ≡ true → IsValidWhole g.whole → HasRoom g events
    → IsValidWhole (behind given sessions g events).whole

-- What a fabric is sent in a run is what its own part and its marks make of it, and so is what it holds at the end.

abbrev pub RunsAreReplayed : Type 0
RunsAreReplayed = (given : Environment) (sessions : List SessionRow) (fabric : ℕ) (g : Going) (events : List Event) → KeepsRules given.judged → are_sessions sessions ≡ true → IsValidWhole g.whole → HasRoom g events → fabric ≢ 0
    → messages_to fabric (messages given sessions g events) ≡ replayed given sessions fabric (held fabric g.whole) (marks given sessions fabric g events)

abbrev pub RunsLeaveWhatIsReplayed : Type 0
RunsLeaveWhatIsReplayed = (given : Environment) (sessions : List SessionRow) (fabric : ℕ) (g : Going) (events : List Event) → KeepsRules given.judged → are_sessions sessions ≡ true → IsValidWhole g.whole → HasRoom g events → fabric ≢ 0
    → held fabric (behind given sessions g events).whole ≡ held_after given sessions fabric (held fabric g.whole) (marks given sessions fabric g events)

-- EQUAL MARKS, EQUAL MESSAGES, through every stop: two runs from valid wholes that have the same own part of a fabric, with the same marks of it,
-- send it the same, and leave it the same. Which stops are to come at first may differ too.

abbrev pub EqualMarksEqualMessages : Type 0
EqualMarksEqualMessages = (given : Environment) (sessions : List SessionRow) (fabric : ℕ) (g h : Going) (events others : List Event) → KeepsRules given.judged → are_sessions sessions ≡ true → fabric ≢ 0
    → IsValidWhole g.whole → HasRoom g events → IsValidWhole h.whole → HasRoom h others
    → own_part fabric g.whole ≡ own_part fabric h.whole → marks given sessions fabric g events ≡ marks given sessions fabric h others
    → messages_to fabric (messages given sessions g events) ≡ messages_to fabric (messages given sessions h others)

abbrev pub EqualMarksEqualParts : Type 0
EqualMarksEqualParts = (given : Environment) (sessions : List SessionRow) (fabric : ℕ) (g h : Going) (events others : List Event) → KeepsRules given.judged → are_sessions sessions ≡ true → fabric ≢ 0
    → IsValidWhole g.whole → HasRoom g events → IsValidWhole h.whole → HasRoom h others
    → own_part fabric g.whole ≡ own_part fabric h.whole → marks given sessions fabric g events ≡ marks given sessions fabric h others
    → held fabric (behind given sessions g events).whole ≡ held fabric (behind given sessions h others).whole

-- And the own parts with which the lives of the fabric end are made of its own part and its marks too, so that they are the same in both.

abbrev pub EndsAreReplayed : Type 0
EndsAreReplayed = (given : Environment) (sessions : List SessionRow) (fabric : ℕ) (g : Going) (events : List Event) → KeepsRules given.judged → are_sessions sessions ≡ true → IsValidWhole g.whole → HasRoom g events → fabric ≢ 0
    → ends given sessions fabric g events ≡ ends_by given sessions fabric (held fabric g.whole) (marks given sessions fabric g events)

abbrev pub EqualMarksEqualEnds : Type 0
EqualMarksEqualEnds = (given : Environment) (sessions : List SessionRow) (fabric : ℕ) (g h : Going) (events others : List Event) → KeepsRules given.judged → are_sessions sessions ≡ true → fabric ≢ 0
    → IsValidWhole g.whole → HasRoom g events → IsValidWhole h.whole → HasRoom h others
    → own_part fabric g.whole ≡ own_part fabric h.whole → marks given sessions fabric g events ≡ marks given sessions fabric h others
    → ends given sessions fabric g events ≡ ends given sessions fabric h others

-- What is written of a run is its messages, each without its fabric, in their order; and each message to a plain actor names the fabric to which
-- it is sent.

abbrev pub RunsAreTheirMessages : Type 0
RunsAreTheirMessages = (given : Environment) (sessions : List SessionRow) (g : Going) (events : List Event) → run given sessions g events ≡ map (λ (message : Message). message.sent) (messages given sessions g events)

abbrev pub RunsNameTheirFabrics : Type 0
RunsNameTheirFabrics = (given : Environment) (sessions : List SessionRow) (g : Going) (events : List Event) → list_all names_its_fabric (messages given sessions g events) ≡ true

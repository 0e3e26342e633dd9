-- For which written run on its way a node stands that plays, and what a line makes of it.
use Rattle.std.specs.Prelude.{◌≡◌, ◌≢◌, ◌<◌, ◌≤◌, ◌⊎◌, ◌^◌, ℕ, Bool, true, false, not, List, [], ◌∷◌, Option, Some, None, IfSome, is_some, if◌then◌else◌}
use Rattle.mt_durable.specs.Keeping.{WasOrCommitted}
use Rattle.mt_durable.specs.declared.durable.Entry.{Entry}
use Rattle.mt_keeping.specs.States.{KeepingState, told_map}
use Rattle.mt_outside.specs.MemoryDisk.{DiskState}
use Rattle.mt_whole.specs.mt_lasting.Contents.{durable}
use Rattle.mt_model.specs.declared.node.state.NodeState.{NodeState}
use Rattle.mt_model.specs.declared.texts.config.Config.{Config}
use Rattle.mt_model.specs.declared.texts.config.SessionRow.{SessionRow}
use Rattle.mt_model.specs.declared.texts.recording.Event.{Event}
use Rattle.mt_model.specs.declared.texts.recording.Sent.{Sent}
use Rattle.mt_model.specs.texts.Contents.{contents_of}
use Rattle.mt_whole.specs.mt_machine.Environment.{Environment, given_by}
use Rattle.mt_whole.specs.mt_machine.State.{IsValid}
use Rattle.mt_whole.specs.mt_regained.Begun.{MayStart, boot_in, next_boot}
use Rattle.mt_whole.specs.mt_regained.Begun as begun
use Rattle.mt_whole.specs.mt_regained.Reopening.{reopened_node}
use Rattle.mt_whole.specs.mt_runs.Course.{Going, Stop, course, going_on, stepped, surviving, survives}
use Rattle.mt_whole.specs.mt_runs.Lines.{is_stop, next, sent}
use Rattle.mt_whole.specs.mt_runs.Messages.{sent_on_way}
use Rattle.mt_whole.specs.mt_runs.Reopening.{reopened}
use Rattle.mt_whole.specs.mt_interactions.Plan.{applied_ledger, applied_state}
use Rattle.mt_whole.specs.Plan.{IsPlan, IsPlanned, given_to, whole_from}
use Rattle.mt_whole.specs.Talks.{IsWholeOf}
use Rattle.mt_whole.specs.declared.outcome.WholeOutcome.{WholeOutcome}
use Rattle.mt_play.specs.Courses.{IsTold, coming, course_in, stop_in}
use Rattle.mt_play.specs.Journal.{Keeps, Rests}
use Rattle.mt_play.specs.declared.course.ComingStop.{ComingStop}
use Rattle.mt_play.specs.declared.course.Course as code
use Rattle.mt_play.specs.declared.course.Course.TheVariants as codes
use Rattle.mt_play.specs.declared.playing.Planned.{Planned}
use Rattle.mt_play.specs.declared.playing.Playing.{Playing}

-- THE NODE IS ON ITS JOURNAL: what lasts of its state is what the journal has, all of it safe. The state is valid, and what was given to it is what
-- its configuration gives.

abbrev pub node_of : Playing → NodeState
node_of playing = playing.whole.interactions.state.node

abbrev pub ceiling_in : Playing → ℕ
ceiling_in playing = playing.whole.interactions.ledger.history.numbers.ceiling

abbrev pub IsGiven : Playing → Type 0
IsGiven playing = given_to playing.whole playing.verdicts.roots playing.verdicts.csrs playing.verdicts.joins ≡ given_by (contents_of playing.config.now)

pub record IsOnJournal (playing : Playing) : Type 0 where
  pub keeps : Keeps playing.store (durable (node_of playing) (ceiling_in playing))
  pub valid : IsValid (node_of playing)
  pub within : ceiling_in playing ≤ 2 ^ 62
  pub given : IsGiven playing

-- Behind a loss of power: the disk rests, and holds what a node goes on with that kept what lasts of this state.
pub record IsAtRest (playing : Playing) (s : NodeState) (ceiling : ℕ) : Type 0 where
  pub rests : Rests playing.store (durable s ceiling)
  pub valid : IsValid s
  pub within : ceiling ≤ 2 ^ 62
  pub given : IsGiven playing

-- The node stands for the whole of this run, and the stop that is to come is the one of it; this is given to it, and these are its sessions.
pub record IsPlaying (playing : Playing) (given : Environment) (sessions : List SessionRow) (g : Going) : Type 0 where
  pub by : given_by (contents_of playing.config.now) ≡ given
  pub rows : playing.config.now.sessions ≡ sessions
  pub whole : IsWholeOf playing.whole g.whole
  pub stop : coming playing.stop ≡ g.stop

-- A LINE THAT IS PLANNED: what becomes of it, and, unless it stops the disk, what it brings.
pub record IsPlannedLine (given : Environment) (g : Going) (event : Event) (planned : Planned) : Type 0 where
  pub course : course_in planned.course ≡ course given g event
  pub has : is_some planned.outcome ≡ not (is_stop event)
  pub outcome : IfSome planned.outcome (IsPlan given g.whole event)

-- a stop comes in a line that has something to commit, at one of the four calls of that
abbrev pub StopsAt : ComingStop → WholeOutcome → Type 0
StopsAt by outcome = (outcome.interactions.change ≢ []) × (by.calls ≤ 4)

abbrev pub StopsInCommit : code.Course → WholeOutcome → Type 0
StopsInCommit (codes.Goes stop) outcome = Unit {0}
StopsInCommit (codes.Stops by survives) outcome = StopsAt by outcome

-- whether a line has something to commit
abbrev pub has_some : List ℕ → Bool
has_some [] = false
has_some (byte ∷ bytes) = true

abbrev pub has_change : Option WholeOutcome → Bool
has_change None = false
has_change (Some outcome) = has_some outcome.interactions.change

-- it was planned on this node
pub record IsMade (playing : Playing) (planned : Planned) : Type 0 where
  pub outcome : IfSome planned.outcome (IsPlanned playing.whole.interactions.state playing.whole.interactions.ledger)
  pub stops : IfSome planned.outcome (StopsInCommit planned.course)
  pub told : IsTold planned.course

-- WHAT A LINE MAKES OF IT: this is sent, and the node stands for the run behind it.
pub record StepsTo (given : Environment) (sessions : List SessionRow) (g : Going) (event : Event) (new : Playing) (told : List Sent) : Type 0 where
  pub sent : told ≡ sent_on_way given g event
  pub stands : IsPlaying new given sessions (stepped given sessions g event)

-- In two parts. What is planned is what this line brings, unless that stops the disk.
pub record Brings (given : Environment) (g : Going) (event : Event) (outcome : Option WholeOutcome) : Type 0 where
  pub has : is_some outcome ≡ not (is_stop event)
  pub outcome_is : IfSome outcome (IsPlan given g.whole event)

-- a line that is carried out, behind which this stop is to come
pub record GoesTo (given : Environment) (sessions : List SessionRow) (g : Going) (event : Event) (stop : Option Stop) (new : Playing) (told : List Sent) : Type 0 where
  pub sent : told ≡ sent given g.whole event
  pub stands : IsPlaying new given sessions (record { whole = next given g.whole event; stop = stop })

-- one in which the disk stops
pub record ReopensTo (given : Environment) (sessions : List SessionRow) (g : Going) (event : Event) (survived : Bool) (new : Playing) (told : List Sent) : Type 0 where
  pub sent : told ≡ []
  pub stands : IsPlaying new given sessions (going_on (reopened sessions (surviving given g.whole event survived)))

-- The state that the disk has behind a stop: that behind the line where its change survives, and else that before it.

abbrev pub left_node : Playing → Option WholeOutcome → ComingStop → NodeState
left_node playing None by = node_of playing
left_node playing (Some outcome) by = if survives (stop_in by) then (applied_state outcome.interactions playing.whole.interactions.state).node else node_of playing

abbrev pub left_ceiling : Playing → Option WholeOutcome → ComingStop → ℕ
left_ceiling playing None by = ceiling_in playing
left_ceiling playing (Some outcome) by =
    if survives (stop_in by) then (applied_ledger outcome.interactions playing.whole.interactions.state playing.whole.interactions.ledger).history.numbers.ceiling else ceiling_in playing

abbrev pub RestsSomehow : Playing → Type 0
RestsSomehow playing = (s : NodeState) × (ceiling : ℕ) × IsAtRest playing s ceiling

-- With this map the next boot may begin: where it may be counted, and there is room for event numbers, a node may start with it, in a valid state.
pub record MayBoot (config : Config) (map : List Entry) : Type 0 where
  pub starts : boot_in map < 2 ^ 31 → begun.ceiling_in map ≤ 2 ^ 61 → MayStart map
  pub valid : (s : NodeState) → next_boot config map ≡ Some s → boot_in map < 2 ^ 31 → IsValid s

-- the node that was reopened with it
pub record IsReopened (s : NodeState) (ceiling : ℕ) (new : Playing) : Type 0 where
  pub whole : IsWholeOf new.whole (whole_from (reopened_node new.config.now.sessions ceiling s) ceiling new.config.now.sessions)
  pub none : new.stop ≡ None

-- WHERE MEMORY IS WANTING the journal has the map from before, or the one with what the line changes.
abbrev pub HasChangeOrNot : Option WholeOutcome → KeepingState DiskState → KeepingState DiskState → Type 0
HasChangeOrNot None old new = new ≡ old
HasChangeOrNot (Some outcome) old new = WasOrCommitted outcome.interactions.change (Some (told_map old)) (Some (told_map new))

-- So it is unless the disk was to stop in the line: then nothing is said, since the node may have begun to be reopened.
abbrev pub IsLeft : code.Course → Option WholeOutcome → KeepingState DiskState → KeepingState DiskState → Type 0
IsLeft (codes.Goes stop) outcome old new = HasChangeOrNot outcome old new
IsLeft (codes.Stops by survives) outcome old new = Unit {0}

-- of a line that could be planned; else nothing has changed
pub record IsLeftInPart (old : Playing) (event : Event) (new : Playing) : Type 0 where
  pub planned : Planned
  pub line : (given : Environment) (sessions : List SessionRow) (g : Going) → IsPlaying old given sessions g → IsPlannedLine given g event planned
  pub journal : IsLeft planned.course planned.outcome old.store new.store

abbrev pub IsLeftBy : Playing → Event → Playing → Type 0
IsLeftBy old event new = (new ≡ old) ⊎ IsLeftInPart old event new

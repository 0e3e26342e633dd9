-- Behind a line that is carried out stands what that line brings, and behind a reopening nothing is shown yet.
use Rattle.std.proofs.Common.{◌≡◌, ℕ, ◌+◌, ◌-◌, ◌^◌, min, Bool, true, false, List, refl, sym, ap, arith}
use Rattle.std.specs.Prelude.{nat_le}
use Rattle.std.proofs.lemmas.Bool.Decides.{nat_tests}
use Rattle.mt_whole.specs.mt_lasting.Laws.{ActionsKeepTheBoot}
use Rattle.mt_model.specs.declared.node.action.Action.TheVariants as actions
use Rattle.mt_model.specs.declared.texts.config.SessionRow.{SessionRow}
use Rattle.mt_model.specs.declared.texts.recording.Event.{Event}
use Rattle.mt_model.specs.declared.texts.recording.Event.TheVariants as events
use Rattle.mt_im.specs.Reading.{request_in}
use Rattle.mt_whole.specs.mt_machine.Environment.{Environment}
use Rattle.mt_whole.specs.mt_machine.Lines.{line_actor}
use Rattle.mt_whole.specs.mt_ledger.Behind.{action_in}
use Rattle.mt_whole.specs.mt_runs.Course.{Course, Going, behind_course, course, going_on, stepped, surviving}
use Rattle.mt_whole.specs.mt_runs.Datagrams.{session_named}
use Rattle.mt_whole.specs.mt_runs.Lines.{action_asked, activity_named, next}
use Rattle.mt_whole.specs.mt_runs.Reopening.{reopened}
use Rattle.mt_whole.specs.mt_runs.Whole.{Whole, talk_of}
use Rattle.mt_play.specs.Courses.{IsGoing, IsStopping, course_in}
use Rattle.mt_play.specs.declared.course.Course as code
use Rattle.mt_play.specs.declared.course.Course.TheVariants as codes

pub goes_next : (given : Environment) (sessions : List SessionRow) (g : Going) (event : Event) (becomes : code.Course) → course_in becomes ≡ course given g event → IsGoing becomes
    → (stepped given sessions g event).whole ≡ next given g.whole event
goes_next given sessions g event (codes.Goes stop) is goes = ap (λ (on : Course). (behind_course given sessions g.whole event on).whole) (sym is)
goes_next given sessions g event (codes.Stops by survived) is goes = absurd goes

-- the disk stops in the line, and the node is reopened with what survived
pub record ReopenedWith (given : Environment) (sessions : List SessionRow) (g : Going) (event : Event) : Type 0 where
  pub survived : Bool
  pub stepped_is : stepped given sessions g event ≡ going_on (reopened sessions (surviving given g.whole event survived))

pub reopens : (given : Environment) (sessions : List SessionRow) (g : Going) (event : Event) (becomes : code.Course) → course_in becomes ≡ course given g event → IsStopping becomes → ReopenedWith given sessions g event
reopens given sessions g event (codes.Goes stop) is stops = absurd stops
reopens given sessions g event (codes.Stops by survived) is stops = record { survived = survived; stepped_is = ap (behind_course given sessions g.whole event) (sym is) }

-- No line begins another boot.

boot_stays : ActionsKeepTheBoot → (given : Environment) (w : Whole) (event : Event) → (next given w event).state.node.boot ≡ w.state.node.boot
boot_stays boots given w (events.Ask ms fabric node cats opcode payload) = boots given w.state.node (action_asked w.state (line_actor fabric node cats) (request_in opcode payload)) ms
boot_stays boots given w (events.Datagram ms from bytes) = boots given w.state.node (action_in (activity_named w.state.node bytes (talk_of (session_named bytes) w.talks))) ms
boot_stays boots given w (events.Tick ms) = boots given w.state.node actions.Expire ms
boot_stays boots given w (events.Report ms fabric subscription) = boots given w.state.node actions.Nothing ms
boot_stays boots given w (events.Resend ms session) = boots given w.state.node actions.Nothing ms
boot_stays boots given w (events.Stop calls fate) = refl

pub surviving_boot : ActionsKeepTheBoot → (given : Environment) (w : Whole) (event : Event) (survived : Bool) → (surviving given w event survived).state.node.boot ≡ w.state.node.boot
surviving_boot boots given w event true = boot_stays boots given w event
surviving_boot boots given w event false = refl

-- Where the next boot is one that there may be, its number is the next.
pub next_is : (boot later next : ℕ) → next ≡ min (boot + 1) (2 ^ 32 - 1) → later ≡ boot + 1 → nat_le later (2 ^ 31) ≡ true → next ≡ boot + 1
next_is boot later next saturates is fits = grind (arith, nat_tests)

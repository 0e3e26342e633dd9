-- Reopenings in lines: whatever line the disk stops in, the node behind it is the next boot of what was kept, rolled back.
use Rattle.std.specs.Prelude.{◌≡◌, ◌+◌, Bool, List, Some}
use Rattle.mt_regained.specs.mt_lasting.Contents.{kept_of}
use Rattle.mt_model.specs.declared.texts.config.SessionRow.{SessionRow}
use Rattle.mt_model.specs.declared.texts.recording.Event.{Event}
use Rattle.mt_opcreds.specs.Laws.{KeepsRules}
use Rattle.mt_regained.specs.Laws.{other_keys, values_under}
use Rattle.mt_machine.specs.Environment.{Environment}
use Rattle.mt_machine.specs.Expiries.{RollbacksLeave}
use Rattle.mt_machine.specs.Rollback.{rollback}
use Rattle.mt_runs.specs.Course.{Going, course, going_on, stepped, stops, surviving}
use Rattle.mt_runs.specs.Isolation.{IsValidWhole}
use Rattle.mt_runs.specs.Reopening.{ceiling_of, reopened}
use Rattle.mt_runs.specs.Whole.{Whole}

-- The whole that survives is that before the line, or behind it where its change survived. In it are all changes of lines that were answered.

-- What is kept behind the reopening of a whole: what was kept, rolled back, with the number of the next boot; and under each key that the
-- rollback does not name what was there.
pub record IsReopened (sessions : List SessionRow) (w : Whole) : Type 0 where
  pub kept : kept_of (reopened sessions w).state.node (ceiling_of w) ≡ record (kept_of (rollback w.state.node) (ceiling_of w)) { boot = Some (w.state.node.boot + 1) }
  pub others : values_under (other_keys w.state.node.armed) (rollback w.state.node) (ceiling_of w) ≡ values_under (other_keys w.state.node.armed) w.state.node (ceiling_of w)

pub record IsRestart (given : Environment) (sessions : List SessionRow) (g : Going) (event : Event) (survived : Bool) : Type 0 where
  pub behind : stepped given sessions g event ≡ going_on (reopened sessions (surviving given g.whole event survived))
  pub reopened : IsReopened sessions (surviving given g.whole event survived)

abbrev pub StopsReopen : Type 0
StopsReopen = (given : Environment) (sessions : List SessionRow) (g : Going) (event line : Event) (survived : Bool) → KeepsRules given.judged → IsValidWhole g.whole → course given g event ≡ stops line survived
    → IsRestart given sessions g event survived

-- EVERY REOPENING IS AN EXACT ROLLBACK, whichever line the disk stops in.
pub record ReopeningsAreExact : Type 0 where
  pub stops : StopsReopen
  -- and what a rollback leaves of each field
  pub leaves : RollbacksLeave

-- Whichever line the disk stops in, the node behind it is the next boot of what survived, rolled back.
use Rattle.std.proofs.Common.{◌+◌, Bool, true, false, List, Some, ap, ◌∙◌}
use Rattle.mt_model.specs.declared.texts.config.SessionRow.{SessionRow}
use Rattle.mt_model.specs.declared.texts.recording.Event.{Event}
use Rattle.mt_opcreds.specs.Laws.{KeepsRules}
use Rattle.mt_regained.specs.Laws.{KeepsOtherKeys}
use Rattle.mt_regained.specs.Reopening.{ReopeningsRollBack, RolledIsRollback}
use Rattle.mt_machine.specs.Environment.{Environment}
use Rattle.mt_runs.specs.Course.{Course, behind_course, surviving}
use Rattle.mt_runs.specs.Isolation.{IsValidWhole}
use Rattle.mt_runs.specs.LineLaws.{WholeStaysValid}
use Rattle.mt_runs.specs.Reopening.{ceiling_of}
use Rattle.mt_runs.specs.Restarts.{IsReopened, StopsReopen}
use Rattle.mt_runs.specs.Whole.{Whole}

module _ (stays : WholeStaysValid) (back : ReopeningsRollBack) (rolled : RolledIsRollback) (keeps : KeepsOtherKeys) where
  survivor_valid : (given : Environment) (w : Whole) (event : Event) (survived : Bool) → KeepsRules given.judged → IsValidWhole w → IsValidWhole (surviving given w event survived)
  survivor_valid given w event true rules valid = stays given w event rules valid
  survivor_valid given w event false rules valid = valid

  reopens : (sessions : List SessionRow) (w : Whole) → IsValidWhole w → IsReopened sessions w
  reopens sessions w valid = record {
    kept = back sessions (ceiling_of w) w.state.node valid.node ∙ (λ i. record (rolled (ceiling_of w) w.state.node valid.node i) { boot = Some (w.state.node.boot + 1) });
    others = keeps w.state.node (ceiling_of w) valid.node;
  }

  pub stops_reopen : StopsReopen
  stops_reopen given sessions g event line survived rules valid stopped = record {
    behind = ap (λ (c : Course). behind_course given sessions g.whole event c) stopped;
    reopened = reopens sessions (surviving given g.whole event survived) (survivor_valid given g.whole event survived rules valid);
  }

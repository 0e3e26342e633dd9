use Rattle.std.proofs.Common.{◌≡◌, Err, sym, subst, rules}
use Rattle.mt_queue.specs.declared.job.Job.TheVariants.{Wake}
use Rattle.mt_worker.specs.Due.{Ticks}
use Rattle.mt_worker.specs.Works.{TickedBy}
use Rattle.mt_worker.proofs.Works.{ticked_denied, ticked_once}
use Rattle.mt_worker.proofs.reporting.tick.Goals as goal

pub returns-in_err-act_watched-clause-ticked : goal.returns-in_err-act_watched-clause-ticked
returns-in_err-act_watched-clause-ticked g c =
    let same : c.from_residual.result ≡ Err c.in_err-act_watched.field-0.0 = search rules in
    subst (TickedBy (Ticks (Wake c.args.now)) 1 c.args.pass.now c.act_watched.new.pass) (sym same)
    (ticked_denied _ (Ticks (Wake c.args.now)) 1 c.args.pass.now c.act_watched.new.pass c.args.now c.in_err-act_watched.field-0.0 c.in_err-act_watched.ensures.outside c.in_err-act_watched.ensures.seen c.in_err-act_watched.ensures.refused)

pub returns-clause-ticked : goal.returns-clause-ticked
returns-clause-ticked g c =
    ticked_once _ _ c.args.desk.now.node.now.origin c.args.pass.now c.act_watched.new.pass c.args.now c.in_ok-act_watched.field-0 c.requires.own.1 c.in_ok-act_watched.ensures.outside c.in_ok-act_watched.ensures.seen c.in_ok-act_watched.ensures.answered

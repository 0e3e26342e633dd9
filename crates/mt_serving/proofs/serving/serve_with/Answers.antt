use Rattle.std.proofs.Common.{sym, ap, subst, ℕ}
use Rattle.mt_starting.specs.Starts.{HasFailedFor}
use Rattle.mt_serving.specs.Ending.{Finishes}
use Rattle.mt_serving.specs.Serves.{IsOrigin, started, unstarted}
use Rattle.mt_serving.specs.declared.ending.ServeFault.{ServeFault}
use Rattle.mt_serving.proofs.Ends.{was_served}
use Rattle.mt_serving.proofs.serving.serve_with.Goals as goal

pub returns-in-Ok-clause-served : goal.returns-in-Ok-clause-served
returns-in-Ok-clause-served g c = λ zero.
    let result = c.serve_started.result in
    let begun : IsOrigin c.args.config.now (g.D.Disk.contents c.args.disk) c.in-Ok.started.node = record { config_is = c.in-Ok.ensures.config; may = c.in-Ok.ensures.serves; started = λ file is. c.in-Ok.ensures.started file is } in
    was_served g.I.Intake.held g.I.Intake.clock g.I.Intake.faults g.O.Outlet.given g.O.Outlet.faults g.D.Disk.contents g.D.Disk.images g.D.Disk.faults c.args.config.now (g.D.Disk.contents c.args.disk) c.args.limit c.args.outlets.items result.outlets.items
    c.args.intake result.intake result.disk result.status (g.W.Sink.written c.args.out.now) (g.W.Sink.written c.serve_started.new.out) (g.W.Sink.faults c.args.out.now) (g.W.Sink.faults c.serve_started.new.out) c.in-Ok.started.node begun c.serve_started.ensures.ran zero

pub returns-in-Ok-clause-course : goal.returns-in-Ok-clause-course
returns-in-Ok-clause-course g c =
    started c.in-Ok.started.node (record { config_is = c.in-Ok.ensures.config; may = c.in-Ok.ensures.serves; started = λ file is. c.in-Ok.ensures.started file is }) c.serve_started.ensures.ran

pub returns-in-Err-clause-course : goal.returns-in-Err-clause-course
returns-in-Err-clause-course g c =
    let written = g.W.Sink.written in
    let faults = g.W.Sink.faults in
    let now = c.finish_serving-status.new.out in
    let told = subst (λ (fault : ServeFault). Finishes fault c.new.result.status (written c.args.out.now) (written now) (faults c.args.out.now) (faults now)) c.of_start.ensures
    (subst (λ (status : ℕ). Finishes c.of_start.result status (written c.args.out.now) (written now) (faults c.args.out.now) (faults now)) (sym c.new.ensures.status) c.finish_serving-status.ensures) in
    unstarted c.in-Err.fault (λ file is. c.in-Err.ensures.cause file is) (subst (λ back. HasFailedFor c.in-Err.fault (g.D.Disk.faults c.args.disk) (g.D.Disk.faults back)) (sym c.new.ensures.disk) c.in-Err.ensures.failed) (ap (λ outlets. outlets.items) c.new.ensures.outlets) c.new.ensures.intake told

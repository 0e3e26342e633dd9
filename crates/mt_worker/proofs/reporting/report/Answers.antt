use Rattle.std.proofs.Common.{◌≡◌, ◌∙◌, ◌++◌, ◌∷◌, [], Err, List, ap, refl, rules, subst, sym}
use Rattle.mt_queue.specs.Ends.{Taken}
use Rattle.mt_queue.specs.declared.job.Job.{Job}
use Rattle.mt_worker.specs.Due.{TicksAll}
use Rattle.mt_worker.specs.Few.{wake_count}
use Rattle.mt_worker.specs.Works.{TickedBy}
use Rattle.mt_worker.proofs.Ticks.{tick_on, ticked_failed, ticked_fine, ticked_none}
use Rattle.mt_worker.proofs.Passes.{outside_on}
use Rattle.mt_worker.proofs.Works.{ok}
use Rattle.mt_worker.proofs.reporting.report.Goals as goal

pub loop-init : goal.loop-init
loop-init g c = record {
  own = c.requires.own;
  outside = (refl, c.requires.own.2, refl, refl);
  queue = refl;
  ticked = subst (λ (jobs : List Job). TickedBy (TicksAll jobs) (wake_count jobs) c.args.pass.now c.args.pass.now (ok (Unit {0}) tt)) (sym c.requires.fresh) (ticked_none (Unit {0}) tt c.args.pass.now c.requires.own.2);
}

pub returns-in_err-is_end_after-clause-ticked : goal.returns-in_err-is_end_after-clause-ticked
returns-in_err-is_end_after-clause-ticked g c =
    let fault = c.in_err-is_end_after.field-0.0 in
    let same : c.from_residual.result ≡ Err fault = search rules in
    let taken : c.take-job.new.self.taken ≡ c.loop.jobs.taken ++ c.take-job.result ∷ [] = ap (λ (j : Taken). j.taken) c.take-job.ensures.taken in
    let all = tick_on _ _ _ c.args.pass.now c.loop.pass c.is_end_after.new.pass c.loop.jobs.taken c.take-job.result _ c.loop.invariant.ticked c.in_err-is_end_after.ensures.ticked in
    subst (λ r. TickedBy (TicksAll c.take-job.new.self.taken) (wake_count c.take-job.new.self.taken) c.args.pass.now c.is_end_after.new.pass r) (sym same)
    (subst (λ (jobs : List Job). TickedBy (TicksAll jobs) (wake_count jobs) c.args.pass.now c.is_end_after.new.pass (Err fault)) (sym taken) (ticked_failed _ _ fault _ _ c.args.pass.now c.is_end_after.new.pass all))

pub returns-then-branch-clause-ticked : goal.returns-then-branch-clause-ticked
returns-then-branch-clause-ticked g c =
    let taken : c.take-job.new.self.taken ≡ c.loop.jobs.taken ++ c.take-job.result ∷ [] = ap (λ (j : Taken). j.taken) c.take-job.ensures.taken in
    let all = tick_on _ _ _ c.args.pass.now c.loop.pass c.is_end_after.new.pass c.loop.jobs.taken c.take-job.result _ c.loop.invariant.ticked c.in_ok-is_end_after.ensures.ticked in
    subst (λ (jobs : List Job). TickedBy (TicksAll jobs) (wake_count jobs) c.args.pass.now c.is_end_after.new.pass (ok (Unit {0}) tt)) (sym taken) (ticked_fine _ (Unit {0}) _ tt _ _ c.args.pass.now c.is_end_after.new.pass all)

pub loop-preserved-else-branch : goal.loop-preserved-else-branch
loop-preserved-else-branch g c =
    let taken : c.take-job.new.self.taken ≡ c.loop.jobs.taken ++ c.take-job.result ∷ [] = ap (λ (j : Taken). j.taken) c.take-job.ensures.taken in
    let all = tick_on _ _ _ c.args.pass.now c.loop.pass c.is_end_after.new.pass c.loop.jobs.taken c.take-job.result _ c.loop.invariant.ticked c.in_ok-is_end_after.ensures.ticked in
    record {
      own = c.is_end_after.ensures.own;
      outside = outside_on c.args.pass.now c.loop.pass c.is_end_after.new.pass c.loop.invariant.outside c.is_end_after.ensures.outside;
      queue = ap (λ (j : Taken). j.queue) c.take-job.ensures.taken ∙ c.loop.invariant.queue;
      ticked = subst (λ (jobs : List Job). TickedBy (TicksAll jobs) (wake_count jobs) c.args.pass.now c.is_end_after.new.pass (ok (Unit {0}) tt)) (sym taken) (ticked_fine _ (Unit {0}) _ tt _ _ c.args.pass.now c.is_end_after.new.pass all);
    }

pub loop-preserved : goal.loop-preserved
loop-preserved g c =
    let taken : c.take-job.new.self.taken ≡ c.loop.jobs.taken ++ c.take-job.result ∷ [] = ap (λ (j : Taken). j.taken) c.take-job.ensures.taken in
    let all = tick_on _ _ _ c.args.pass.now c.loop.pass c.is_end_after.new.pass c.loop.jobs.taken c.take-job.result _ c.loop.invariant.ticked c.in_ok-is_end_after.ensures.ticked in
    record {
      own = c.is_end_after.ensures.own;
      outside = outside_on c.args.pass.now c.loop.pass c.is_end_after.new.pass c.loop.invariant.outside c.is_end_after.ensures.outside;
      queue = ap (λ (j : Taken). j.queue) c.take-job.ensures.taken ∙ c.loop.invariant.queue;
      ticked = subst (λ (jobs : List Job). TickedBy (TicksAll jobs) (wake_count jobs) c.args.pass.now c.is_end_after.new.pass (ok (Unit {0}) tt)) (sym taken) (ticked_fine _ (Unit {0}) _ tt _ _ c.args.pass.now c.is_end_after.new.pass all);
    }

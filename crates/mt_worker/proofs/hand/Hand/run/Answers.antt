use Rattle.std.proofs.Common.{◌≡◌, ◌∙◌, ◌*◌, length, ◌++◌, ◌∷◌, [], Err, List, ap, refl, rules, subst, sym}
use Rattle.mt_queue.specs.Ends.{Taken}
use Rattle.mt_queue.specs.declared.job.Job.{Job}
use Rattle.mt_worker.specs.Accounts.{Accounts, all_behind}
use Rattle.mt_worker.specs.Due.{DoesAll}
use Rattle.mt_worker.specs.Few.{take_count, wake_count}
use Rattle.mt_worker.specs.Gots.{Got}
use Rattle.mt_worker.specs.Works.{WentOn, WentThrough}
use Rattle.mt_worker.proofs.Sweeps.{job_on, on_failed, on_fine, on_idle, through}
use Rattle.mt_worker.proofs.Passes.{outside_on}
use Rattle.mt_worker.proofs.Works.{err, ok}
use Rattle.mt_worker.proofs.hand.Hand.run.Goals as goal

pub loop-init : goal.loop-init
loop-init g c = record {
  own = c.requires.own;
  outside = (refl, c.requires.own.2, refl, refl);
  queue = refl;
  went = λ ids accounts are rising. on_idle g.O.Outlet.given g.O.Outlet.faults (Unit {0}) tt (λ (f : Accounts) (gots : List Got). DoesAll ids f c.args.jobs.now.taken gots) (take_count c.args.jobs.now.taken) (4 * length ids * wake_count c.args.jobs.now.taken) ids c.args.self.now c.args.seats.now accounts c.requires.own.2
      (subst (λ (jobs : List Job). DoesAll ids accounts jobs []) (sym c.requires.fresh) refl) are;
}

pub returns-in_err-is_end_after-clause-worked : goal.returns-in_err-is_end_after-clause-worked
returns-in_err-is_end_after-clause-worked g c ids accounts are rising =
    let fault = c.in_err-is_end_after.field-0.0 in
    let same : c.from_residual.result ≡ Err fault = search rules in
    let taken : c.take-job.new.self.taken ≡ c.loop.jobs.taken ++ c.take-job.result ∷ [] = ap (λ (j : Taken). j.taken) c.take-job.ensures.taken in
    let first = c.loop.invariant.went ids accounts are rising in
    let all = job_on g.O.Outlet.given g.O.Outlet.faults _ ids c.loop.jobs.taken c.take-job.result c.args.self.now c.loop.self c.is_end_after.new.self c.loop.seats c.is_end_after.new.seats _ accounts first (c.in_err-is_end_after.ensures.went ids (all_behind accounts first.gots) first.stands rising) in
    subst (λ r. WentThrough g.O.Outlet.given g.O.Outlet.faults ids c.take-job.new.self.taken c.args.self.now c.is_end_after.new.self r accounts) (sym same)
    (subst (λ (jobs : List Job). WentThrough g.O.Outlet.given g.O.Outlet.faults ids jobs c.args.self.now c.is_end_after.new.self (err (Unit {0}) fault) accounts) (sym taken)
    (through g.O.Outlet.given g.O.Outlet.faults ids (c.loop.jobs.taken ++ c.take-job.result ∷ []) c.args.self.now c.is_end_after.new.self c.is_end_after.new.seats _ accounts
    (on_failed g.O.Outlet.given g.O.Outlet.faults _ (Unit {0}) _ (λ (f : Accounts) (gots : List Got). DoesAll ids f (c.loop.jobs.taken ++ c.take-job.result ∷ []) gots) (take_count (c.loop.jobs.taken ++ c.take-job.result ∷ [])) (4 * length ids * wake_count (c.loop.jobs.taken ++ c.take-job.result ∷ [])) ids c.args.self.now c.is_end_after.new.self c.is_end_after.new.seats c.is_end_after.new.seats fault accounts all)))

pub returns-then-branch-clause-worked : goal.returns-then-branch-clause-worked
returns-then-branch-clause-worked g c ids accounts are rising =
    let taken : c.take-job.new.self.taken ≡ c.loop.jobs.taken ++ c.take-job.result ∷ [] = ap (λ (j : Taken). j.taken) c.take-job.ensures.taken in
    let first = c.loop.invariant.went ids accounts are rising in
    let all = job_on g.O.Outlet.given g.O.Outlet.faults _ ids c.loop.jobs.taken c.take-job.result c.args.self.now c.loop.self c.is_end_after.new.self c.loop.seats c.is_end_after.new.seats _ accounts first (c.in_ok-is_end_after.ensures.went ids (all_behind accounts first.gots) first.stands rising) in
    subst (λ (jobs : List Job). WentThrough g.O.Outlet.given g.O.Outlet.faults ids jobs c.args.self.now c.is_end_after.new.self (ok (Unit {0}) tt) accounts) (sym taken)
    (through g.O.Outlet.given g.O.Outlet.faults ids (c.loop.jobs.taken ++ c.take-job.result ∷ []) c.args.self.now c.is_end_after.new.self c.is_end_after.new.seats _ accounts
    (on_fine g.O.Outlet.given g.O.Outlet.faults _ (Unit {0}) _ tt (λ (f : Accounts) (gots : List Got). DoesAll ids f (c.loop.jobs.taken ++ c.take-job.result ∷ []) gots) (take_count (c.loop.jobs.taken ++ c.take-job.result ∷ [])) (4 * length ids * wake_count (c.loop.jobs.taken ++ c.take-job.result ∷ [])) ids c.args.self.now c.is_end_after.new.self c.is_end_after.new.seats accounts all))

pub loop-preserved : goal.loop-preserved
loop-preserved g c =
    let taken : c.take-job.new.self.taken ≡ c.loop.jobs.taken ++ c.take-job.result ∷ [] = ap (λ (j : Taken). j.taken) c.take-job.ensures.taken in
    record {
      own = c.is_end_after.ensures.own;
      outside = outside_on c.args.self.now.pass c.loop.self.pass c.is_end_after.new.self.pass c.loop.invariant.outside c.is_end_after.ensures.outside;
      queue = ap (λ (j : Taken). j.queue) c.take-job.ensures.taken ∙ c.loop.invariant.queue;
      went = λ ids accounts are rising.
          let first = c.loop.invariant.went ids accounts are rising in
          let all = job_on g.O.Outlet.given g.O.Outlet.faults _ ids c.loop.jobs.taken c.take-job.result c.args.self.now c.loop.self c.is_end_after.new.self c.loop.seats c.is_end_after.new.seats _ accounts first (c.in_ok-is_end_after.ensures.went ids (all_behind accounts first.gots) first.stands rising) in
          subst (λ (jobs : List Job). WentOn g.O.Outlet.given g.O.Outlet.faults (λ (f : Accounts) (gots : List Got). DoesAll ids f jobs gots) (take_count jobs) (4 * length ids * wake_count jobs) ids c.args.self.now c.is_end_after.new.self c.is_end_after.new.seats (ok (Unit {0}) tt) accounts) (sym taken)
          (on_fine g.O.Outlet.given g.O.Outlet.faults _ (Unit {0}) _ tt (λ (f : Accounts) (gots : List Got). DoesAll ids f (c.loop.jobs.taken ++ c.take-job.result ∷ []) gots) (take_count (c.loop.jobs.taken ++ c.take-job.result ∷ [])) (4 * length ids * wake_count (c.loop.jobs.taken ++ c.take-job.result ∷ [])) ids c.args.self.now c.is_end_after.new.self c.is_end_after.new.seats accounts all);
    }

-- The reporter's work, one job after another.
use Rattle.std.proofs.Common.{◌≡◌, ◌∙◌, refl, false, sym, ap, ℕ, arith, List, [], ◌∷◌, ◌++◌, Result, append-nil, append_assoc}
use Rattle.mt_queue.specs.declared.job.Job.{Job}
use Rattle.mt_layer.specs.mt_shared.Shared.{NodePass}
use Rattle.mt_worker.specs.Due.{Ticks, TicksAll}
use Rattle.mt_worker.specs.Few.{ticks_for, wake_count}
use Rattle.mt_worker.specs.Gots.{Got}
use Rattle.mt_worker.specs.Works.{TickedBy}
use Rattle.mt_worker.specs.declared.fault.WorkFault.{WorkFault}
use Rattle.mt_worker.proofs.Few.{few_none, few_on, wakes_push}
use Rattle.mt_worker.proofs.Made.{ticks_on}
use Rattle.mt_worker.proofs.Passes.{goes_none, goes_on}
use Rattle.mt_worker.proofs.Seats.{ok_is}
use Rattle.mt_worker.proofs.Works.{err, ok}

ticks_push : (jobs : List Job) (job : Job) (xs ys : List Got) → TicksAll jobs xs → Ticks job ys → TicksAll (jobs ++ job ∷ []) (xs ++ ys)
ticks_push [] job xs ys all its = (ys, [], ap (λ (gots : List Got). gots ++ ys) all ∙ sym (append-nil ys), its, refl)
ticks_push (first ∷ jobs) job xs ys all its = (all.0, all.1 ++ ys, ap (λ (gots : List Got). gots ++ ys) all.2 ∙ append_assoc all.0 all.1 ys, all.3, ticks_push jobs job all.1 ys all.4 its)

pub ticked_none : (T : Type 0) (t : T) (v : NodePass) → v.inside ≡ false → TickedBy (TicksAll []) 0 v v (ok T t)
ticked_none T t v outside = record { gots = []; goes = goes_none v outside; ticks = tt; few = few_none 0 0; did = refl; not_link = tt; cause = tt }

pub tick_on : (T U : Type 0) (t : T) (v u w : NodePass) (jobs : List Job) (job : Job) (result : Result U WorkFault) → TickedBy (TicksAll jobs) (wake_count jobs) v u (ok T t) → TickedBy (Ticks job) (ticks_for job) u w result → TickedBy (TicksAll (jobs ++ job ∷ [])) (wake_count (jobs ++ job ∷ [])) v w result
tick_on T U t v u w jobs job result first then = record {
  gots = first.gots ++ then.gots;
  goes = goes_on v u w first.gots then.gots first.goes then.goes;
  ticks = ticks_on first.gots then.gots first.ticks then.ticks;
  few = few_on 0 (wake_count jobs) 0 (ticks_for job) 0 (wake_count (jobs ++ job ∷ [])) first.gots then.gots (omega arith) (let more = wakes_push jobs job in omega (arith, more)) first.few then.few;
  did = ok_is result (Ticks job then.gots) (TicksAll (jobs ++ job ∷ []) (first.gots ++ then.gots)) (ticks_push jobs job first.gots then.gots first.did) then.did;
  not_link = then.not_link;
  cause = then.cause;
}

pub ticked_fine : (T U : Type 0) (t : T) (other : U) (Due : List Got → Type 0) (steps : ℕ) (v u : NodePass) → TickedBy Due steps v u (ok T t) → TickedBy Due steps v u (ok U other)
ticked_fine T U t other Due steps v u its = record { gots = its.gots; goes = its.goes; ticks = its.ticks; few = its.few; did = its.did; not_link = tt; cause = tt }

pub ticked_failed : (T U : Type 0) (fault : WorkFault) (Due : List Got → Type 0) (steps : ℕ) (v u : NodePass) → TickedBy Due steps v u (err T fault) → TickedBy Due steps v u (err U fault)
ticked_failed T U fault Due steps v u its = record { gots = its.gots; goes = its.goes; ticks = its.ticks; few = its.few; did = tt; not_link = its.not_link; cause = its.cause }

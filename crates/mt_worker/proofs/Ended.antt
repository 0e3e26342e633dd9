-- What is left of a worker, of what it did.
use Rattle.std.proofs.Common.{◌≡◌, ◌≢◌, ◌∙◌, refl, ap, length, sym, subst, ℕ, suc, arith, true, true≢false, List, [], ◌∷◌, Option, Result, Ok, Err, IfErr, OnOk, map}
use Rattle.std.specs.Prelude.{is_err, ⊤}
use mathlib.Core.List.{IsPrefix}
use Rattle.mt_model.specs.declared.texts.config.SessionRow.{SessionRow}
use Rattle.mt_outside.specs.declared.network.Parcel.{Parcel}
use Rattle.mt_queue.specs.declared.job.Job.{Job}
use Rattle.mt_layer.specs.mt_shared.Shared.{NodePass}
use Rattle.mt_worker.specs.Accounts.{Accounts, all_sent}
use Rattle.mt_worker.specs.Due.{DoesAll, TicksAll, id_of}
use Rattle.mt_worker.specs.Faults.{Counts, IsCause, status_of}
use Rattle.mt_worker.specs.Giving.{Gave, GavePart, parcels_in}
use Rattle.mt_worker.specs.Gots.{Goes}
use Rattle.mt_worker.specs.Works.{Reported, TickedThrough, WentThrough, Worked}
use Rattle.mt_worker.specs.declared.fault.WorkFault.{WorkFault}
use Rattle.mt_worker.specs.declared.fault.WorkFault.TheVariants.{Memory, Stopped, Link, Full}
use Rattle.mt_worker.specs.declared.hand.Hand.{Hand}
use Rattle.mt_worker.specs.declared.working.Done.{Done}
use Rattle.mt_worker.proofs.Few.{few_longer, few_ticks}

pub ok_unless_failed : {T : Type 0} (result : Result T WorkFault) (P : Type 0) → is_err result ≡ true → OnOk result P
ok_unless_failed (Ok x) P failed = absurd (true≢false (sym failed))
ok_unless_failed (Err fault) P failed = tt

pub ok_always : {T : Type 0} (result : Result T WorkFault) (P : Type 0) → P → OnOk result P
ok_always (Ok x) P p = p
ok_always (Err fault) P p = tt

ok_both : {T : Type 0} (result : Result T WorkFault) (P Q R : Type 0) → (P → Q → R) → OnOk result P → OnOk result Q → OnOk result R
ok_both (Ok x) P Q R joins p q = joins p q
ok_both (Err fault) P Q R joins p q = tt

cause_as : (v u : NodePass) (result : Result ⊤ WorkFault) → v ≡ u → IfErr result (IsCause v.seen) → IfErr result (IsCause u.seen)
cause_as v u (Ok x) same cause = tt
cause_as v u (Err fault) same cause = subst (λ (p : NodePass). IsCause p.seen fault) same cause

ids_length : (rows : List SessionRow) → length (map id_of rows) ≡ length rows
ids_length [] = refl
ids_length (row ∷ rows) = ap suc (ids_length rows)

-- THE REPORTER.

not_twelve : (result : Result ⊤ WorkFault) → IfErr result (λ fault. fault ≢ Link) → status_of result ≢ 12
not_twelve (Ok x) not = λ same. omega (arith, same)
not_twelve (Err Memory) not = λ same. omega (arith, same)
not_twelve (Err Stopped) not = λ same. omega (arith, same)
not_twelve (Err Link) not = absurd (not refl)
not_twelve (Err Full) not = λ same. omega (arith, same)

pub reported_as : (x y : NodePass) (jobs : List Job) (result : Result ⊤ WorkFault) (done : Done ⊤) → TickedThrough jobs x y result → done.status ≡ status_of result → done.pass ≡ y → OnOk result (done.queue.taken ≡ jobs) → IsPrefix jobs done.queue.taken → Reported x done
reported_as x y jobs result done its status pass taken longer = record {
  result = result;
  gots = its.gots;
  status = status;
  goes = subst (λ (p : NodePass). Goes x p its.gots) (sym pass) its.goes;
  ticks = its.ticks;
  did = ok_both result _ _ _ (λ (same : done.queue.taken ≡ jobs) (did : TicksAll jobs its.gots). subst (λ (js : List Job). TicksAll js its.gots) (sym same) did) taken its.did;
  cause = cause_as y done.pass result (sym pass) its.cause;
  no_link = λ same. not_twelve result its.not_link (sym status ∙ same);
  few = few_ticks jobs done.queue.taken its.gots longer its.few;
}

-- A WORKER.

module _ {O : Type 0} (given : O → Option (List Parcel)) (faults : O → ℕ) where
  pub worked_as : (rows : List SessionRow) (accounts : Accounts) (x y : Hand O) (jobs : List Job) (result : Result ⊤ WorkFault) (done : Done O) → WentThrough given faults (map id_of rows) jobs x y result accounts → done.status ≡ status_of result → done.pass ≡ y.pass → done.outlet ≡ y.outlet
      → OnOk result (done.queue.taken ≡ jobs) → IsPrefix jobs done.queue.taken → Worked given faults rows accounts x.pass x.outlet done
  worked_as rows accounts x y jobs result done its status pass outlet taken longer = record {
    result = result;
    gots = its.gots;
    status = status;
    goes = subst (λ (p : NodePass). Goes x.pass p its.gots) (sym pass) its.went.goes;
    over = its.over;
    made = its.made;
    all = subst (λ (o : O). OnOk result (Gave (given x.outlet) (given o) (parcels_in (all_sent accounts its.gots)))) (sym outlet) its.went.all;
    part = subst (λ (o : O). GavePart (given x.outlet) (given o) (parcels_in (all_sent accounts its.gots))) (sym outlet) its.went.part;
    did = ok_both result _ _ _ (λ (same : done.queue.taken ≡ jobs) (did : DoesAll (map id_of rows) accounts jobs its.gots). subst (λ (js : List Job). DoesAll (map id_of rows) accounts js its.gots) (sym same) did) taken its.did;
    counts = subst (λ (o : O). Counts result (faults x.outlet) (faults o)) (sym outlet) its.went.counts;
    cause = cause_as y.pass done.pass result (sym pass) its.went.cause;
    few = few_longer (length (map id_of rows)) (length rows) jobs done.queue.taken its.gots (ids_length rows) longer its.few;
  }

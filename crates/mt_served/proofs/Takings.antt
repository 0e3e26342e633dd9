-- How many jobs the answers of an intake give: over all workers a datagram is taken once at most, and each thread is waked at most once at an answer.
use Rattle.std.proofs.Common.{◌≡◌, ℕ, ◌+◌, ◌≤◌, ◌==◌, ◌&&◌, Bool, true, false, cond, List, [], ◌∷◌, ◌++◌, Option, Some, None, length, arith}
use Rattle.std.specs.List.{list_any}
use Rattle.mt_outside.specs.Network.{time_of}
use Rattle.mt_outside.specs.declared.network.Arrival.{Arrival}
use Rattle.mt_outside.specs.declared.network.Arrival.TheVariants.{Datagram, Quiet}
use Rattle.mt_queue.specs.declared.job.Job.{Job}
use Rattle.mt_queue.specs.declared.job.Job.TheVariants.{End, Take, Wake}
use Rattle.mt_rounds.specs.mt_receiver.Rounds.{is_for, jobs_for, jobs_of, owner_of, take_jobs, take_named, wake_jobs, wakes, woken_behind}
use Rattle.mt_rounds.specs.mt_runs.Datagrams.{session_named}
use Rattle.mt_rounds.specs.mt_worker.Few.{take_count, wake_count}
use Rattle.mt_served.proofs.Sums.{once_most, only_at, sum_below, sums_add, sums_most, sums_none}

-- COUNTS OF JOBS add up.

takes_both : (first second : List Job) → take_count (first ++ second) ≡ take_count first + take_count second
takes_both [] second = omega arith
takes_both (Take now from bytes ∷ first) second = let rest = takes_both first second in omega (arith, rest)
takes_both (Wake now ∷ first) second = takes_both first second
takes_both (End ∷ first) second = takes_both first second

wakes_both : (first second : List Job) → wake_count (first ++ second) ≡ wake_count first + wake_count second
wakes_both [] second = omega arith
wakes_both (Take now from bytes ∷ first) second = wakes_both first second
wakes_both (Wake now ∷ first) second = let rest = wakes_both first second in omega (arith, rest)
wakes_both (End ∷ first) second = wakes_both first second

-- the end is none
pub takes_ended : (jobs : List Job) → take_count (jobs ++ End ∷ []) ≡ take_count jobs
takes_ended jobs = let both = takes_both jobs (End ∷ []) in omega (arith, both)

pub wakes_ended : (jobs : List Job) → wake_count (jobs ++ End ∷ []) ≡ wake_count jobs
wakes_ended jobs = let both = wakes_both jobs (End ∷ []) in omega (arith, both)

-- ONE ANSWER.

no_takes : (now : ℕ) (b : Bool) → take_count (cond b (Wake now ∷ []) []) ≡ 0
no_takes now true = omega arith
no_takes now false = omega arith

one_wake : (now : ℕ) (b : Bool) → wake_count (cond b (Wake now ∷ []) []) ≤ 1
one_wake now true = omega arith
one_wake now false = omega arith

module _ (workers : ℕ) (ids : List ℕ) where
  no_wakes : (worker : ℕ) (arrival : Arrival) → wake_count (take_jobs workers worker ids arrival) ≡ 0
  no_wakes worker (Quiet now) = omega arith
  no_wakes worker (Datagram now from bytes) = named (session_named bytes)
    where
      by : (b : Bool) → wake_count (cond b (Take now from bytes ∷ []) []) ≡ 0
      by true = omega arith
      by false = omega arith

      named : (found : Option ℕ) → wake_count (take_named workers worker ids now from bytes found) ≡ 0
      named None = omega arith
      named (Some session) = by (is_for workers worker ids session)

  -- whose it is, takes it
  one_take : (arrival : Arrival) → sum_below workers (λ worker. take_count (take_jobs workers worker ids arrival)) ≤ 1
  one_take (Quiet now) = let none = sums_none workers in omega (arith, none)
  one_take (Datagram now from bytes) = named (session_named bytes)
    where
      by : (b c : Bool) → take_count (cond (b && c) (Take now from bytes ∷ []) []) ≤ cond c 1 0
      by true true = omega arith
      by true false = omega arith
      by false true = omega arith
      by false false = omega arith

      named : (found : Option ℕ) → sum_below workers (λ worker. take_count (take_named workers worker ids now from bytes found)) ≤ 1
      named None = let none = sums_none workers in omega (arith, none)
      named (Some session) =
          let owner = owner_of workers session in
          let each = sums_most workers (λ worker. take_count (take_named workers worker ids now from bytes (Some session))) (only_at 1 owner)
          (λ worker less. by (list_any (λ (id : ℕ). id == session) ids) (owner == worker)) in
          let once = once_most workers 1 owner in
          omega (arith, each, once)

  -- ALL ANSWERS.

  pub all_takes : (woken : ℕ) (arrivals : List Arrival) → sum_below workers (λ worker. take_count (jobs_for workers worker ids woken arrivals)) ≤ length arrivals
  all_takes woken [] = let none = sums_none workers in omega (arith, none)
  all_takes woken (arrival ∷ arrivals) =
      let Here = λ (worker : ℕ). take_count (take_jobs workers worker ids arrival) in
      let Later = λ (worker : ℕ). take_count (jobs_for workers worker ids (woken_behind woken arrival) arrivals) in
      let each = sums_most workers (λ worker. take_count (jobs_for workers worker ids woken (arrival ∷ arrivals))) (λ worker. Here worker + Later worker) (λ worker less. parts worker) in
      let both = sums_add workers Here Later in
      let first = one_take arrival in
      let rest = all_takes (woken_behind woken arrival) arrivals in
      omega (arith, each, both, first, rest)
    where
      parts : (worker : ℕ) → take_count (jobs_for workers worker ids woken (arrival ∷ arrivals)) ≤ take_count (take_jobs workers worker ids arrival) + take_count (jobs_for workers worker ids (woken_behind woken arrival) arrivals)
      parts worker =
          let all = takes_both (jobs_of workers worker ids woken arrival) (jobs_for workers worker ids (woken_behind woken arrival) arrivals) in
          let here = takes_both (wake_jobs woken arrival) (take_jobs workers worker ids arrival) in
          let none = no_takes (time_of arrival) (wakes woken arrival) in
          omega (arith, all, here, none)

  pub all_wakes : (worker woken : ℕ) (arrivals : List Arrival) → wake_count (jobs_for workers worker ids woken arrivals) ≤ length arrivals
  all_wakes worker woken [] = omega arith
  all_wakes worker woken (arrival ∷ arrivals) =
      let all = wakes_both (jobs_of workers worker ids woken arrival) (jobs_for workers worker ids (woken_behind woken arrival) arrivals) in
      let here = wakes_both (wake_jobs woken arrival) (take_jobs workers worker ids arrival) in
      let one = one_wake (time_of arrival) (wakes woken arrival) in
      let none = no_wakes worker arrival in
      let rest = all_wakes worker (woken_behind woken arrival) arrivals in
      omega (arith, all, here, one, none, rest)

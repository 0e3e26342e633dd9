-- How many calls all threads made: their shares are added up.
use Rattle.std.proofs.Common.{◌≡◌, ℕ, suc, ◌+◌, ◌*◌, ◌<◌, ◌≤◌, List, filter, length, arith}
use Rattle.std.proofs.lemmas.Nat.{mul-le}
use Rattle.mt_legal.specs.mt_shares.Threads.{calls_of, thread_of}
use Rattle.mt_model.specs.declared.texts.config.SessionRow.{SessionRow}
use Rattle.mt_outside.specs.declared.network.Arrival.{Arrival}
use Rattle.mt_rounds.specs.mt_owners.Rows.{is_own}
use Rattle.mt_rounds.specs.mt_receiver.Rounds.{jobs_for}
use Rattle.mt_rounds.specs.mt_worker.Few.{heard_count, is_heard, is_step, step_count, take_count}
use Rattle.mt_rounds.specs.mt_worker.Gots.{Got}
use Rattle.mt_served.proofs.Owning.{all_rows}
use Rattle.mt_served.proofs.Sums.{counted_by_thread, sum_below, sums_four, sums_most, sums_times}
use Rattle.mt_served.proofs.Takings.{all_takes}

module _ (workers : ℕ) (one : (got : Got) → thread_of workers got ≤ workers) (arrivals : List Arrival) (all : List Got) where
  below : (got : Got) → thread_of workers got < suc workers
  below got = let last = one got in omega (arith, last)

  pub few_heard : (ids : List ℕ) → ((worker : ℕ) → worker < workers → heard_count (calls_of workers worker all) ≤ take_count (jobs_for workers worker ids 0 arrivals)) → heard_count (calls_of workers workers all) ≤ 0
      → heard_count all ≤ length arrivals
  few_heard ids each last =
      let parts : heard_count all ≤ sum_below workers (λ worker. heard_count (calls_of workers worker all)) + heard_count (calls_of workers workers all) = counted_by_thread (thread_of workers) (suc workers) is_heard below all in
      let front : sum_below workers (λ worker. heard_count (calls_of workers worker all)) ≤ sum_below workers (λ worker. take_count (jobs_for workers worker ids 0 arrivals)) = sums_most workers _ _ each in
      let most = all_takes workers ids 0 arrivals in
      omega (arith, parts, front, most, last)

  pub few_steps : (boot : ℕ) (sessions : List SessionRow)
      → ((worker : ℕ) → worker < workers → step_count (calls_of workers worker all) ≤ 4 * length (filter (is_own boot workers worker) sessions) * length arrivals)
      → step_count (calls_of workers workers all) ≤ length arrivals → length sessions ≤ 64 → step_count all ≤ 257 * length arrivals
  few_steps boot sessions each last few =
      let parts : step_count all ≤ sum_below workers (λ worker. step_count (calls_of workers worker all)) + step_count (calls_of workers workers all) = counted_by_thread (thread_of workers) (suc workers) is_step below all in
      let own : ℕ → ℕ = λ worker. length (filter (is_own boot workers worker) sessions) in
      let front : sum_below workers (λ worker. step_count (calls_of workers worker all)) ≤ sum_below workers (λ worker. 4 * own worker * length arrivals) = sums_most workers _ _ each in
      let times : sum_below workers (λ worker. 4 * own worker * length arrivals) ≡ sum_below workers (λ worker. 4 * own worker) * length arrivals = sums_times workers (λ worker. 4 * own worker) (length arrivals) in
      let four : sum_below workers (λ worker. 4 * own worker) ≡ 4 * sum_below workers own = sums_four workers own in
      let rows : sum_below workers own ≤ length sessions = all_rows boot workers sessions in
      let most : sum_below workers (λ worker. 4 * own worker) * length arrivals ≤ 256 * length arrivals = mul-le (sum_below workers (λ worker. 4 * own worker)) (length arrivals) 256 (length arrivals) (omega (arith, four, rows, few)) (omega arith) in
      omega (arith, parts, front, times, most, last)

-- What the receiver took from the intake, and what it put into the queues.
use Rattle.std.specs.Prelude.{◌≡◌, ◌<◌, ◌⊎◌, ℕ, ◌+◌, ◌-◌, Bool, true, false, List, [], ◌∷◌, ◌++◌, Option, Some, None, Result, Ok, Err, length, slice_index_or, ⊤}
use Rattle.mt_outside.specs.Network.{AreInOrder, time_of}
use Rattle.mt_outside.specs.Stream.{one_more}
use Rattle.mt_outside.specs.declared.network.Arrival.{Arrival}
use Rattle.mt_queue.specs.Ends.{Put}
use Rattle.mt_queue.specs.declared.job.Job.{Job}
use Rattle.mt_queue.specs.declared.job.Job.TheVariants.{End}
use Rattle.mt_receiver.specs.Rounds.{datagram_count, jobs_for, woken_over}
use Rattle.mt_receiver.specs.declared.receiving.Receiver.{Receiver}
use Rattle.mt_receiver.specs.declared.receiving.ReceiveFault.{ReceiveFault}
use Rattle.mt_receiver.specs.declared.receiving.ReceiveFault.TheVariants.{Memory, Link}

-- WHAT CAME. Of an intake that can tell what it holds these answers were the first, and it holds the rest.
abbrev pub Came : Option (List Arrival) → List Arrival → Option (List Arrival) → Type 0
Came None given after = ⊤
Came (Some held) given after = (rest : List Arrival) × (held ≡ given ++ rest) × (after ≡ Some rest)

-- Nothing of what it held is left, where it can tell.
abbrev pub IsSpent : Option (List Arrival) → Option (List Arrival) → Type 0
IsSpent None left = ⊤
IsSpent (Some held) left = left ≡ Some []

-- WHAT WAS PUT into each queue, behind what it had.

abbrev pub with_jobs : Put → List Job → Put
with_jobs one jobs = record one { put = one.put ++ jobs }

abbrev pub AllPut : (ℕ → List Job) → List Put → List Put → Type 0
AllPut jobs before after = (length after ≡ length before) × ((k : ℕ) (d : Put) → k < length before → slice_index_or after k d ≡ with_jobs (slice_index_or before k d) (jobs k))

-- the last queue is the reporter's
abbrev pub workers_of : List Put → ℕ
workers_of queues = length queues - 1

-- Each is the queue that it was.
abbrev pub AreSame : List Put → List Put → Type 0
AreSame before after = (length after ≡ length before) × ((k : ℕ) (d : Put) → k < length before → (slice_index_or after k d).queue ≡ (slice_index_or before k d).queue)

-- the time of the last of these answers, this one where there is none
abbrev pub clock_over : ℕ → List Arrival → ℕ
clock_over clock [] = clock
clock_over clock (arrival ∷ arrivals) = clock_over (time_of arrival) arrivals

-- These answers came, and their jobs were put.
pub record Took (ids : List ℕ) (woken : ℕ) (before after : List Put) (held left : Option (List Arrival)) (clock : ℕ) (given : List Arrival) : Type 0 where
  pub came : Came held given left
  pub in_order : AreInOrder clock given
  pub put : AllPut (λ (k : ℕ). jobs_for (workers_of before) k ids woken given) before after

-- One answer, or none where the intake had ended.
pub record Went (old new : Receiver) (before after : List Put) (held left : Option (List Arrival)) (clock now : ℕ) (is_over : Bool) : Type 0 where
  pub given : List Arrival
  pub took : Took old.ids.now old.woken before after held left clock given
  pub woken : new.woken ≡ woken_over old.woken given
  pub count : new.datagrams ≡ old.datagrams + datagram_count given
  pub clock_is : now ≡ clock_over clock given
  pub over : is_over ≡ true → (new.datagrams ≡ new.limit) ⊎ IsSpent held left
  pub goes_on : is_over ≡ false → new.datagrams < new.limit

-- All answers, up to that of the last datagram that was to come, or to the end of the intake.
pub record TookAll (ids : List ℕ) (limit : ℕ) (before after : List Put) (held left : Option (List Arrival)) (clock : ℕ) : Type 0 where
  pub given : List Arrival
  pub took : Took ids 0 before after held left clock given
  pub ended : (datagram_count given ≡ limit) ⊎ IsSpent held left

-- ALL THAT WAS RECEIVED, where the receiver met no fault: these, and then each queue has its end.
pub record Received (ids : List ℕ) (limit : ℕ) (before after : List Put) (held left : Option (List Arrival)) (clock : ℕ) : Type 0 where
  pub given : List Arrival
  pub came : Came held given left
  pub in_order : AreInOrder clock given
  pub put : AllPut (λ (k : ℕ). jobs_for (workers_of before) k ids 0 given ++ End ∷ []) before after
  pub ended : (datagram_count given ≡ limit) ⊎ IsSpent held left

-- the intake's count of faults rose by one, or is as it was
abbrev pub Counts : {T : Type 0} → Result T ReceiveFault → ℕ → ℕ → Type 0
Counts (Ok x) before now = now ≡ before
Counts (Err Link) before now = now ≡ one_more before
Counts (Err Memory) before now = now ≡ before

-- Which jobs the answers of an intake give to each thread.
use Rattle.std.specs.Prelude.{ℕ, ◌+◌, ◌/◌, ◌%◌, ◌==◌, ◌&&◌, nat_lt, Bool, List, [], ◌∷◌, ◌++◌, Option, Some, None, if◌then◌else◌}
use Rattle.std.specs.List.{list_any}
use Rattle.mt_outside.specs.Network.{time_of}
use Rattle.mt_outside.specs.declared.network.Arrival.{Arrival}
use Rattle.mt_outside.specs.declared.network.Arrival.TheVariants.{Datagram, Quiet}
use Rattle.mt_outside.specs.declared.network.Peer.{Peer}
use Rattle.mt_queue.specs.declared.job.Job.{Job}
use Rattle.mt_queue.specs.declared.job.Job.TheVariants.{Take, Wake}
use Rattle.mt_talk.specs.Naming.{session_named}

-- WAKES. An answer whose time has more whole seconds than that of every earlier one brings a wake, and so does the first. The seconds count
-- from 1, and 0 stands before all answers.

abbrev pub second_of : Arrival → ℕ
second_of arrival = time_of arrival / 1000 + 1

abbrev pub wakes : ℕ → Arrival → Bool
wakes woken arrival = nat_lt woken (second_of arrival)

abbrev pub woken_behind : ℕ → Arrival → ℕ
woken_behind woken arrival = if wakes woken arrival then second_of arrival else woken

abbrev pub wake_jobs : ℕ → Arrival → List Job
wake_jobs woken arrival = if wakes woken arrival then Wake (time_of arrival) ∷ [] else []

-- DATAGRAMS. One whose header names a session of the boot (these are their ids) goes to the worker of that session.

abbrev pub owner_of : ℕ → ℕ → ℕ
owner_of workers session = session % workers

abbrev pub is_for : ℕ → ℕ → List ℕ → ℕ → Bool
is_for workers worker ids session = list_any (λ (id : ℕ). id == session) ids && (owner_of workers session == worker)

abbrev pub take_named : ℕ → ℕ → List ℕ → ℕ → Peer → List ℕ → Option ℕ → List Job
take_named workers worker ids now from bytes None = []
take_named workers worker ids now from bytes (Some session) = if is_for workers worker ids session then Take now from bytes ∷ [] else []

abbrev pub take_jobs : ℕ → ℕ → List ℕ → Arrival → List Job
take_jobs workers worker ids (Quiet now) = []
take_jobs workers worker ids (Datagram now from bytes) = take_named workers worker ids now from bytes (session_named bytes)

-- what one answer gives
abbrev pub jobs_of : ℕ → ℕ → List ℕ → ℕ → Arrival → List Job
jobs_of workers worker ids woken arrival = wake_jobs woken arrival ++ take_jobs workers worker ids arrival

-- ALL JOBS of the worker of this number, in their order. The number of the workers is the reporter's, which has wakes alone.
abbrev pub jobs_for : ℕ → ℕ → List ℕ → ℕ → List Arrival → List Job
jobs_for workers worker ids woken [] = []
jobs_for workers worker ids woken (arrival ∷ arrivals) =
    jobs_of workers worker ids woken arrival ++ jobs_for workers worker ids (woken_behind woken arrival) arrivals

-- the latest second behind these answers
abbrev pub woken_over : ℕ → List Arrival → ℕ
woken_over woken [] = woken
woken_over woken (arrival ∷ arrivals) = woken_over (woken_behind woken arrival) arrivals

-- how many wakes there are
abbrev pub wake_count : ℕ → List Arrival → ℕ
wake_count woken [] = 0
wake_count woken (arrival ∷ arrivals) = (if wakes woken arrival then 1 else 0) + wake_count (woken_behind woken arrival) arrivals

-- how many datagrams
abbrev pub datagram_count : List Arrival → ℕ
datagram_count [] = 0
datagram_count (Quiet now ∷ arrivals) = datagram_count arrivals
datagram_count (Datagram now from bytes ∷ arrivals) = datagram_count arrivals + 1

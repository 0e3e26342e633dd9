-- How many lines the calls of a thread made, whether or not its work went on to its end. An entry that is a stop is no line.
use Rattle.std.specs.Prelude.{◌≤◌, ℕ, ◌+◌, ◌*◌, ◌&&◌, Bool, true, false, not, List, [], ◌∷◌, filter, is_some, length}
use Rattle.mt_model.specs.declared.texts.recording.Event.{Event}
use Rattle.mt_model.specs.declared.texts.recording.Event.TheVariants as events
use Rattle.mt_queue.specs.declared.job.Job.{Job}
use Rattle.mt_queue.specs.declared.job.Job.TheVariants.{Take, Wake, End}
use Rattle.mt_worker.specs.Gots.{Got}

abbrev pub is_line : Got → Bool
is_line got = not (is_some got.told.0.stop)

abbrev pub is_datagram : Event → Bool
is_datagram (events.Datagram now from bytes) = true
is_datagram event = false

-- the line of a datagram, and that of a step
abbrev pub is_heard : Got → Bool
is_heard got = is_line got && is_datagram got.told.0.call.event

abbrev pub is_step : Got → Bool
is_step got = is_line got && not (is_datagram got.told.0.call.event)

abbrev pub heard_count : List Got → ℕ
heard_count gots = length (filter is_heard gots)

abbrev pub step_count : List Got → ℕ
step_count gots = length (filter is_step gots)

-- at most so many of these
pub record AreAtMost (heard steps : ℕ) (gots : List Got) : Type 0 where
  pub heard_lines : heard_count gots ≤ heard
  pub step_lines : step_count gots ≤ steps

-- A JOB of a worker with so many sessions: how many lines of datagrams it gives at most, and how many of steps

abbrev pub heard_for : Job → ℕ
heard_for (Take now from bytes) = 1
heard_for (Wake now) = 0
heard_for End = 0

abbrev pub steps_for : ℕ → Job → ℕ
steps_for sessions (Take now from bytes) = 0
steps_for sessions (Wake now) = 4 * sessions
steps_for sessions End = 0

-- and one of the reporter
abbrev pub ticks_for : Job → ℕ
ticks_for (Take now from bytes) = 0
ticks_for (Wake now) = 1
ticks_for End = 0

-- THE JOBS of a thread: how many datagrams, and how many wakes

abbrev pub take_count : List Job → ℕ
take_count [] = 0
take_count (Take now from bytes ∷ jobs) = take_count jobs + 1
take_count (Wake now ∷ jobs) = take_count jobs
take_count (End ∷ jobs) = take_count jobs

abbrev pub wake_count : List Job → ℕ
wake_count [] = 0
wake_count (Take now from bytes ∷ jobs) = wake_count jobs
wake_count (Wake now ∷ jobs) = wake_count jobs + 1
wake_count (End ∷ jobs) = wake_count jobs

-- A worker with so many sessions makes a line at most for each datagram that it takes, and at each wake four at most over each of its sessions.
pub record AreFew (sessions : ℕ) (jobs : List Job) (gots : List Got) : Type 0 where
  pub heard : heard_count gots ≤ take_count jobs
  pub steps : step_count gots ≤ 4 * sessions * wake_count jobs

-- The reporter makes one at most at each wake, and none of a datagram.
pub record AreFewTicks (jobs : List Job) (gots : List Got) : Type 0 where
  pub heard : heard_count gots ≤ 0
  pub steps : step_count gots ≤ wake_count jobs

-- Laws of the lines that the jobs of a thread give.
use Rattle.std.specs.Prelude.{◌≡◌, ◌≤◌, ◌+◌, ◌*◌, ◌==◌, ℕ, Bool, true, List, [], ◌∷◌, ◌++◌, filter, length}
use Rattle.mt_outside.specs.declared.network.Arrival.{Arrival}
use Rattle.mt_queue.specs.declared.job.Job.TheVariants.{End}
use Rattle.mt_owners.specs.mt_receiver.Rounds.{datagram_count, is_for, jobs_for, wake_count}
use Rattle.mt_owners.specs.mt_worker.Accounts.{Account, Accounts}
use Rattle.mt_owners.specs.mt_worker.Due.{AreRising, DoesAll, TicksAll, is_in}
use Rattle.mt_owners.specs.mt_worker.Gots.{Got}
use Rattle.mt_rounds.specs.Following.{Follows}

-- the session over which it was made
abbrev pub is_over : ℕ → Got → Bool
is_over session got = got.session == session

-- these are the ids of this worker, of those of all sessions of the boot
abbrev pub AreOfWorker : ℕ → ℕ → List ℕ → List ℕ → Type 0
AreOfWorker workers worker ids own = (id : ℕ) → is_in own id ≡ is_for workers worker ids id

-- the account of each session is its own
abbrev pub AreTheirOwn : Accounts → Type 0
AreTheirOwn accounts = (id : ℕ) → (accounts id).row.session ≡ id

-- THE LINES OF EACH SESSION FOLLOW THE ANSWERS, where its worker did what the jobs of these answers ask.
abbrev pub SessionsFollow : Type 0
SessionsFollow = (workers worker session woken : ℕ) (ids own : List ℕ) (accounts : Accounts) (arrivals : List Arrival) (gots : List Got) → AreRising own → AreOfWorker workers worker ids own → AreTheirOwn accounts
    → is_in own session ≡ true → DoesAll own accounts (jobs_for workers worker ids woken arrivals ++ End ∷ []) gots
    → Follows woken (accounts session) arrivals (filter (is_over session) gots)

-- The time steps are as many as the wakes.
abbrev pub TicksAreWakes : Type 0
TicksAreWakes = (workers woken : ℕ) (ids : List ℕ) (arrivals : List Arrival) (gots : List Got) → TicksAll (jobs_for workers workers ids woken arrivals ++ End ∷ []) gots → length gots ≡ wake_count woken arrivals

-- A session has at most four lines at a wake, and one at a datagram.
abbrev pub LinesAreFew : Type 0
LinesAreFew = (woken : ℕ) (a : Account) (arrivals : List Arrival) (gots : List Got) → Follows woken a arrivals gots → length gots ≤ 4 * wake_count woken arrivals + datagram_count arrivals

-- Which thread a call is of, over which session it is, and what is said of the calls of several threads in one list.
use Rattle.std.specs.Prelude.{◌≡◌, ◌⊎◌, ℕ, ◌==◌, ◌%◌, Bool, true, false, List, [], ◌∷◌, filter, if◌then◌else◌, ⊤}
use Rattle.mt_model.specs.declared.texts.recording.Sent.{Sent}
use Rattle.mt_model.specs.declared.texts.recording.To.{To}
use Rattle.mt_model.specs.declared.texts.recording.To.TheVariants.{Session, Plain}
use Rattle.mt_worker.specs.Accounts.{Accounts, behind}
use Rattle.mt_worker.specs.Due.{is_in}
use Rattle.mt_worker.specs.Gots.{Got, place_of}
use Rattle.mt_worker.specs.Made.{IsMade, IsTick}
use Rattle.mt_shares.specs.Merging.{is_of_thread}

-- OVER WHICH SESSIONS calls are.

abbrev pub is_over : ℕ → Got → Bool
is_over session got = got.session == session

abbrev pub is_over_such : (ℕ → Bool) → Got → Bool
is_over_such passes got = passes got.session

-- THE THREADS: this many workers, with the numbers from 0 on, among whom the sessions are dealt out by their ids; and the reporter behind them, whose
-- calls are over none (0).

abbrev pub thread_over : ℕ → ℕ → ℕ
thread_over workers session = if session == 0 then workers else session % workers

abbrev pub thread_of : ℕ → Got → ℕ
thread_of workers got = thread_over workers got.session

-- what there is of a thread among the calls of all
abbrev pub calls_of : ℕ → ℕ → List Got → List Got
calls_of workers thread all = filter (is_of_thread place_of (thread_of workers) thread) all

-- whether a message goes over a session of this worker
abbrev pub is_over_its : ℕ → ℕ → To → Bool
is_over_its workers worker (Session session peer) = session % workers == worker
is_over_its workers worker (Plain fabric opcode) = false

abbrev pub is_to_worker : ℕ → ℕ → Sent → Bool
is_to_worker workers worker message = is_over_its workers worker message.to

-- THE CALLS OF ALL: each is over one of these sessions, made as its account then has it, or a time step of nobody.

abbrev pub IsMadeOrTick : List ℕ → Accounts → Got → Type 0
IsMadeOrTick ids accounts got = ((is_in ids got.session ≡ true) × IsMade (accounts got.session) got) ⊎ IsTick got

abbrev pub AreMadeOrTicks : List ℕ → Accounts → List Got → Type 0
AreMadeOrTicks ids accounts [] = ⊤
AreMadeOrTicks ids accounts (got ∷ gots) = IsMadeOrTick ids accounts got × AreMadeOrTicks ids (behind accounts got) gots

-- The account of each session is that of its row.
abbrev pub HaveTheirIds : Accounts → Type 0
HaveTheirIds accounts = (id : ℕ) → (accounts id).row.session ≡ id

-- What follows of that: the book of a served node is a run of the written machine, which sends what the outlets were given.
use Rattle.std.specs.Prelude.{◌≡◌, ℕ, true, List, Option, All, filter, length}
use Rattle.mt_legal.specs.Laws.{IsWholeBook}
use Rattle.mt_legal.specs.Lines.{begun_whole, ids_of_boot}
use Rattle.mt_legal.specs.mt_interactions.Configured.{ConfiguredInteractions}
use Rattle.mt_legal.specs.mt_runs.Course.{going_on}
use Rattle.mt_legal.specs.mt_runs.Messages as runs
use Rattle.mt_rounds.specs.mt_shared.Book.{lines_in}
use Rattle.mt_rounds.specs.mt_shared.Replay.{given_in}
use Rattle.mt_rounds.specs.mt_shared.Entry.{Entry}
use Rattle.mt_rounds.specs.mt_worker.Accounts.{Accounts}
use Rattle.mt_rounds.specs.mt_worker.Due.{is_in}
use Rattle.mt_rounds.specs.mt_worker.Giving.{Gave, GavePart, parcels_in}
use Rattle.mt_rounds.specs.mt_worker.Gots.{Got}
use Rattle.mt_model.specs.declared.texts.recording.Sent.{Sent}
use Rattle.mt_outside.specs.declared.network.Arrival.{Arrival}
use Rattle.mt_outside.specs.declared.network.Parcel.{Parcel}
use Rattle.mt_rounds.specs.Following.{Follows}
use Rattle.mt_rounds.specs.Laws.{is_over}
use Rattle.mt_rounds.specs.mt_receiver.Rounds.{wake_count}
use Rattle.mt_legal.specs.mt_shares.Threads.{is_to_worker}
use Rattle.mt_served.specs.Crews.{Service}

-- what the written run sends over the lines of a book, from the node with which that began
abbrev pub run_over : ConfiguredInteractions → List Entry → List Sent
run_over origin book = runs.run (given_in origin) origin.config.sessions (going_on (begun_whole origin)) (lines_in book)

-- and of that what goes over the sessions of one worker
abbrev pub run_to : ConfiguredInteractions → ℕ → ℕ → List Entry → List Parcel
run_to origin workers worker book = parcels_in (filter (is_to_worker workers worker) (run_over origin book))

module _ {O : Type 0} (given : O → Option (List Parcel)) where
  -- A worker's outlet was given the first of what the run sends over its sessions; at status 0 all.
  pub record SendsTheRun (origin : ConfiguredInteractions) (workers : ℕ) (book : List Entry) (service : Service O) : Type 0 where
    pub part : GavePart (given service.lent) (given service.left.outlet) (run_to origin workers service.number book)
    pub all : service.left.status ≡ 0 → Gave (given service.lent) (given service.left.outlet) (run_to origin workers service.number book)

  -- THE BOOK IS A RUN, and each outlet was given what that sends over its worker's sessions.
  pub record IsServedRun (origin : ConfiguredInteractions) (accounts : Accounts) (book : List Entry) (gots : List Got) (services : List (Service O)) : Type 0 where
    pub whole : IsWholeBook origin accounts book gots
    pub sends : All (SendsTheRun origin (length services) book) services

-- ITS LINES follow the answers of the intake: those of each session, and a time step for each wake; there is no other.
pub record FollowsAnswers (origin : ConfiguredInteractions) (accounts : Accounts) (arrivals : List Arrival) (gots : List Got) : Type 0 where
  pub sessions : (id : ℕ) → is_in (ids_of_boot origin) id ≡ true → Follows 0 (accounts id) arrivals (filter (is_over id) gots)
  pub ticks : length (filter (is_over 0) gots) ≡ wake_count 0 arrivals

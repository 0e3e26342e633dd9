-- Places, before anybody has taken one.
use Rattle.std.specs.Prelude.{◌≡◌, ◌<◌, ◌+◌, ℕ, List, [], ◌∷◌, ◌++◌, All, length, map, slice_index_or, vec_capacity}
use Rattle.mt_model.specs.declared.texts.config.SessionRow.{SessionRow}
use Rattle.mt_queue.specs.Ends.{Put, QueueId, Taken}
use Rattle.mt_owners.specs.Rows.{AreRowsOf, rows_in}
use Rattle.mt_owners.specs.mt_worker.Due.{id_of}
use Rattle.mt_owners.specs.mt_shared.Shared.{NodePass, SharedView}
use Rattle.mt_served.specs.mt_shares.Merging.{upto}
use Rattle.mt_crew.specs.Members.{BeginsWith, IsOfThread, MayHave, MayWork, jobs_in, number_of, outlets_in, rows_of}
use Rattle.mt_crew.specs.declared.seating.Places.{Places}
use Rattle.mt_crew.specs.declared.seating.Seated.{Seated}

-- which queue it is an end of
abbrev pub queue_put : Put → QueueId
queue_put sender = sender.queue

abbrev pub queue_taken : Taken → QueueId
queue_taken jobs = jobs.queue

-- nothing was put into it
abbrev pub IsUnput : Put → Type 0
IsUnput sender = sender.put ≡ []

-- nothing was taken of it
abbrev pub IsFresh : Taken → Type 0
IsFresh jobs = jobs.taken ≡ []

-- A queue for each worker, and for the reporter one: both ends of it, and nothing has gone through it. And the rows of each, and room for the workers.
pub record AreReady {O : Type 0} (workers : ℕ) (places : Places O) : Type 0 where
  pub senders : length places.senders.items ≡ workers + 1
  pub jobs : length places.jobs.items ≡ workers + 1
  pub queues : map queue_taken places.jobs.items ≡ map queue_put places.senders.items
  pub unput : All IsUnput places.senders.items
  pub fresh : All IsFresh places.jobs.items
  pub rows : length places.rows.items ≡ workers
  pub served : All MayHave places.rows.items
  pub nobody : places.members.items ≡ []
  pub room : vec_capacity places.members ≡ workers

-- Their sessions are those of a boot: each worker has its rows of these, and there are the ids of all.
pub record HaveSessions {O : Type 0} (boot workers : ℕ) (sessions : List SessionRow) (places : Places O) : Type 0 where
  pub rows : (worker : ℕ) (d : List SessionRow) → worker < workers → AreRowsOf boot workers worker sessions (slice_index_or places.rows.items worker d)
  pub ids : places.ids.items ≡ map id_of (rows_in boot sessions)

-- Everybody has taken a place, with this pass: the workers, by rising number, have these outlets, the rows and all queues but the last; that is the
-- reporter's.
pub record AreSeated {O : Type 0} (node : SharedView) (pass : NodePass) (places : Places O) (outlets : List O) (seated : Seated O) : Type 0 where
  pub pass_is : seated.pass ≡ pass
  pub own : IsOfThread node seated.pass
  pub fresh : IsFresh seated.ticks
  pub length_is : length seated.members.items ≡ length outlets
  pub numbers : map number_of seated.members.items ≡ upto (length outlets)
  pub rows : map rows_of seated.members.items ≡ places.rows.items
  pub outlets_are : outlets_in seated.members.items ≡ outlets
  pub jobs : jobs_in seated.members.items ++ seated.ticks ∷ [] ≡ places.jobs.items
  pub begins : All (BeginsWith pass) seated.members.items
  pub ready : All (MayWork node) seated.members.items
  pub senders : seated.senders ≡ places.senders
  pub ids : seated.ids ≡ places.ids

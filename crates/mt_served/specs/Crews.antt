-- What all threads of a served node did.
use Rattle.std.specs.Prelude.{◌≡◌, ◌≤◌, ◌<◌, ℕ, ◌+◌, List, ◌∷◌, ◌++◌, [], Option, All, length, map, ⊤}
use mathlib.Core.List.{IsPrefix}
use Rattle.atomic_table.specs.Seated.{TableId}
use Rattle.mt_legal.specs.mt_interactions.Configured.{ConfiguredInteractions}
use Rattle.mt_rounds.specs.mt_shared.Shared.{NodePass}
use Rattle.mt_rounds.specs.mt_shared.Entry.{Entry}
use Rattle.mt_rounds.specs.mt_worker.Accounts.{Accounts}
use Rattle.mt_rounds.specs.mt_worker.Due.{HaveBegun}
use Rattle.mt_rounds.specs.mt_worker.Done.{Done}
use Rattle.mt_rounds.specs.mt_worker.Works.{Reported, Worked}
use Rattle.mt_model.specs.declared.texts.config.SessionRow.{SessionRow}
use Rattle.mt_outside.specs.declared.network.Arrival.{Arrival}
use Rattle.mt_outside.specs.declared.network.Parcel.{Parcel}
use Rattle.mt_queue.specs.declared.job.Job.TheVariants.{End}
use Rattle.mt_rounds.specs.mt_owners.Rows.{AreRowsOf}
use Rattle.mt_rounds.specs.mt_receiver.Rounds.{jobs_for}
use Rattle.mt_legal.specs.mt_shares.Merging.{upto}
use Rattle.mt_turn.specs.Counts.{how_often, total}
use Rattle.mt_turn.specs.Known.{first_pass, part_given}

-- the pass with which each thread begins: it has seen nothing, and has no place
abbrev pub begun_pass : TableId → ConfiguredInteractions → NodePass
begun_pass lock origin = part_given (first_pass lock origin)

-- A worker from its beginning to its end: its number, its rows, its outlet as it was lent, and what it left.
pub record Service (O : Type 0) : Type 0 where
  pub number : ℕ
  pub rows : List SessionRow
  pub lent : O
  pub left : Done O

abbrev pub number_of : {O : Type 0} → Service O → ℕ
number_of service = service.number

abbrev pub lent_of : {O : Type 0} → Service O → O
lent_of service = service.lent

abbrev pub returned_of : {O : Type 0} → Service O → O
returned_of service = service.left.outlet

abbrev pub places_of : {O : Type 0} → Service O → List ℕ
places_of service = service.left.pass.places

-- how often a place stands among those of a thread
abbrev pub times_got : {O : Type 0} → ℕ → Service O → ℕ
times_got k service = how_often k (places_of service)

module _ {O : Type 0} (given : O → Option (List Parcel)) (faults : O → ℕ) where
  -- it did its work, from this pass on
  abbrev pub DidItsWork : NodePass → Service O → Type 0
  DidItsWork pass service = (accounts : Accounts) → HaveBegun service.rows accounts → Worked given faults service.rows accounts pass service.lent service.left

  -- ALL THREADS of a node that was served, with this lock, from this node on, with these sessions: its workers and the reporter. Each did its work; each
  -- has seen a beginning of the book; and each place of the book is one of one of them.
  pub record IsCrew (lock : TableId) (origin : ConfiguredInteractions) (boot : ℕ) (sessions : List SessionRow) (book : List Entry) (services : List (Service O)) (clerk : Done ⊤) : Type 0 where
    pub numbers : map number_of services ≡ upto (length services)
    pub rows : All (λ (service : Service O). AreRowsOf boot (length services) service.number sessions service.rows) services
    pub worked : All (DidItsWork (begun_pass lock origin)) services
    pub reported : Reported (begun_pass lock origin) clerk
    pub heard : All (λ (service : Service O). IsPrefix service.left.pass.seen book) services
    pub clerk_heard : IsPrefix clerk.pass.seen book
    pub once : (k : ℕ) → k < length book → how_often k clerk.pass.places + total (times_got k) services ≡ 1
    pub no_other : (k : ℕ) → length book ≤ k → how_often k clerk.pass.places + total (times_got k) services ≡ 0

-- WHAT THEY TOOK is what these answers of the intake give each of them, and then the end.
pub record TookTheirJobs {O : Type 0} (ids : List ℕ) (arrivals : List Arrival) (services : List (Service O)) (clerk : Done ⊤) : Type 0 where
  pub each : All (λ (service : Service O). service.left.queue.taken ≡ jobs_for (length services) service.number ids 0 arrivals ++ End ∷ []) services
  pub waked : clerk.queue.taken ≡ jobs_for (length services) (length services) ids 0 arrivals ++ End ∷ []

-- The laws of a served node.
use Rattle.std.specs.Prelude.{◌≡◌, ◌<◌, ℕ, true, List, Option, All, length, ⊤}
use Rattle.atomic_table.specs.Seated.{TableId}
use Rattle.mt_legal.specs.Laws.{IsServable}
use Rattle.mt_legal.specs.Lines.{ids_of_boot}
use Rattle.mt_legal.specs.mt_interactions.Configured.{ConfiguredInteractions}
use Rattle.mt_rounds.specs.mt_shared.Book.{are_in_time}
use Rattle.mt_rounds.specs.mt_shared.Entry.{Entry}
use Rattle.mt_rounds.specs.mt_worker.Accounts.{Accounts}
use Rattle.mt_rounds.specs.mt_worker.Done.{Done}
use Rattle.mt_rounds.specs.mt_worker.Gots.{Got}
use Rattle.mt_model.specs.texts.Config.{are_sessions}
use Rattle.mt_outside.specs.declared.network.Arrival.{Arrival}
use Rattle.mt_outside.specs.declared.network.Parcel.{Parcel}
use Rattle.mt_served.specs.Crews.{IsCrew, Service, TookTheirJobs}
use Rattle.mt_served.specs.Few.{HasFewLines}
use Rattle.mt_served.specs.Served.{FollowsAnswers, IsServedRun}

-- What the crew of a node that may be served leaves: a run, by some accounts of its sessions and some list of all that its calls got; and where each of
-- its threads ended with status 0, and took what these answers give it, the lines follow these answers.
pub record IsServed {O : Type 0} (given : O → Option (List Parcel)) (origin : ConfiguredInteractions) (book : List Entry) (services : List (Service O)) (clerk : Done ⊤) : Type 0 where
  pub accounts : Accounts
  pub gots : List Got
  pub run : IsServedRun given origin accounts book gots services
  pub follows : (arrivals : List Arrival) → All (λ (service : Service O). service.left.status ≡ 0) services → clerk.status ≡ 0 → TookTheirJobs (ids_of_boot origin) arrivals services clerk
      → FollowsAnswers origin accounts arrivals gots

-- WHAT A CREW DID IS SERVING.
abbrev pub CrewsServe : (O : Type 0) (given : O → Option (List Parcel)) (faults : O → ℕ) → Type 0
CrewsServe O given faults = (lock : TableId) (origin : ConfiguredInteractions) (book : List Entry) (services : List (Service O)) (clerk : Done ⊤)
    → IsServable origin → are_sessions origin.config.sessions ≡ true → are_in_time book ≡ true → 0 < length services
    → IsCrew given faults lock origin origin.state.node.boot origin.config.sessions book services clerk
    → IsServed given origin book services clerk

-- AND ITS BOOK HAS FEW LINES, at whatever statuses its threads ended, where they took what these answers give them.
abbrev pub CrewsAreFew : (O : Type 0) (given : O → Option (List Parcel)) (faults : O → ℕ) → Type 0
CrewsAreFew O given faults = (lock : TableId) (origin : ConfiguredInteractions) (book : List Entry) (services : List (Service O)) (clerk : Done ⊤) (arrivals : List Arrival)
    → are_sessions origin.config.sessions ≡ true → 0 < length services
    → IsCrew given faults lock origin origin.state.node.boot origin.config.sessions book services clerk
    → TookTheirJobs (ids_of_boot origin) arrivals services clerk
    → HasFewLines book arrivals

-- What threads have left, taken in again.
use Rattle.std.specs.Prelude.{◌≡◌, ℕ, ◌+◌, ◌==◌, List, [], ◌∷◌, ◌++◌, All, if◌then◌else◌, ⊤}
use Rattle.std.specs.List.{AllZip}
use mathlib.Core.List.{IsPrefix}
use Rattle.mt_queue.specs.Ends.{Put, QueueId}
use Rattle.mt_queue.specs.Jobs.{HasNoEnd}
use Rattle.mt_queue.specs.declared.job.Job.{Job}
use Rattle.mt_queue.specs.declared.job.Job.TheVariants.{End}
use Rattle.mt_owners.specs.mt_shared.Shared.{NodePass}
use Rattle.mt_owners.specs.mt_worker.Done.{Done}
use Rattle.mt_turn.specs.Counts.{how_often, total}

abbrev pub outlet_left : {O : Type 0} → Done O → O
outlet_left ended = ended.outlet

abbrev pub queue_left : {O : Type 0} → Done O → QueueId
queue_left ended = ended.queue.queue

abbrev pub status_left : {O : Type 0} → Done O → ℕ
status_left ended = ended.status

abbrev pub times_left : {O : Type 0} → ℕ → Done O → ℕ
times_left k ended = how_often k ended.pass.places

-- The pass took in what a thread has left.
pub record TookIn {O : Type 0} (before after : NodePass) (ended : Done O) : Type 0 where
  pub share : after.share ≡ before.share + ended.pass.share
  pub places : after.places ≡ before.places ++ ended.pass.places
  pub begins : IsPrefix before.seen after.seen
  pub heard : IsPrefix ended.pass.seen after.seen

-- It took in what several have left.
pub record Gathered {O : Type 0} (before after : NodePass) (ended : List (Done O)) : Type 0 where
  pub places : (k : ℕ) → how_often k after.places ≡ how_often k before.places + total (times_left k) ended
  pub begins : IsPrefix before.seen after.seen
  pub heard : All (λ (one : Done O). IsPrefix one.pass.seen after.seen) ended

-- It took in what the workers have left, and the reporter.
pub record GatheredAll {O : Type 0} (before after : NodePass) (ended : List (Done O)) (clerk : Done ⊤) : Type 0 where
  pub places : (k : ℕ) → how_often k after.places ≡ how_often k before.places + (how_often k clerk.pass.places + total (times_left k) ended)
  pub heard : All (λ (one : Done O). IsPrefix one.pass.seen after.seen) ended
  pub clerk_heard : IsPrefix clerk.pass.seen after.seen

-- Where the end was put last, all was taken that was put.
pub record TookAll {O : Type 0} (sender : Put) (ended : Done O) : Type 0 where
  pub whole : (jobs : List Job) → sender.put ≡ jobs ++ End ∷ [] → HasNoEnd jobs → ended.queue.taken ≡ sender.put

-- So did each of its queue, the reporter of the last one.
pub record TookOfAll {O : Type 0} (senders : List Put) (ended : List (Done O)) (clerk : Done ⊤) : Type 0 where
  pub front : List Put
  pub last : Put
  pub senders_are : senders ≡ front ++ last ∷ []
  pub each : AllZip TookAll front ended
  pub of_clerk : TookAll last clerk

-- THE FIRST STATUS that is not 0

abbrev pub first_of : ℕ → ℕ → ℕ
first_of status later = if status == 0 then later else status

abbrev pub first_fault : List ℕ → ℕ
first_fault [] = 0
first_fault (status ∷ statuses) = first_of status (first_fault statuses)

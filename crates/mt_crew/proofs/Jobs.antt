-- What a queue was given and what was taken of it.
use Rattle.std.proofs.Common.{◌≡◌, ◌<◌, ◌∙◌, ℕ, ◌+◌, Bool, true, false, List, [], ◌∷◌, ◌++◌, Option, Some, None, map, length, get_or, refl, sym, ap, arith, if◌then◌else◌, length-append}
use Rattle.std.specs.Prelude.{⊤}
use Rattle.std.proofs.lemmas.List.{get_or_append_left, get_or_push}
use Rattle.std.proofs.lemmas.List.Elements.{All-append, All-cons, All-nil}
use Rattle.std.specs.List.{All}
use Rattle.mt_outside.specs.declared.network.Arrival.{Arrival}
use Rattle.mt_outside.specs.declared.network.Arrival.TheVariants.{Datagram, Quiet}
use Rattle.mt_outside.specs.declared.network.Peer.{Peer}
use Rattle.mt_outside.specs.Network.{time_of}
use Rattle.mt_queue.specs.Ends.{Put}
use Rattle.mt_queue.specs.Jobs.{HasNoEnd, is_end}
use Rattle.mt_queue.specs.declared.job.Job.{Job}
use Rattle.mt_queue.specs.declared.job.Job.TheVariants.{End, Take, Wake}
use Rattle.mt_owners.specs.mt_receiver.Receives.{AllPut, AreSame, with_jobs}
use Rattle.mt_owners.specs.mt_runs.Datagrams.{session_named}
use Rattle.mt_owners.specs.mt_receiver.Rounds.{is_for, jobs_for, take_jobs, take_named, wake_jobs, wakes, woken_behind}
use Rattle.mt_owners.specs.mt_worker.Done.{Done}
use Rattle.mt_crew.specs.Gathering.{TookAll, TookOfAll}
use Rattle.mt_crew.specs.Ready.{IsUnput, queue_put}
use Rattle.mt_crew.proofs.Lists.{map_same, zip_at}

-- NO END is among the jobs that answers give.

one_if : (test : Bool) (job : Job) → is_end job ≡ false → HasNoEnd (if test then job ∷ [] else [])
one_if true job none = All-cons (λ (job : Job). is_end job ≡ false) job [] none (All-nil (λ (job : Job). is_end job ≡ false))
one_if false job none = All-nil (λ (job : Job). is_end job ≡ false)

named_no_end : (workers worker : ℕ) (ids : List ℕ) (now : ℕ) (from : Peer) (bytes : List ℕ) (session : Option ℕ) → HasNoEnd (take_named workers worker ids now from bytes session)
named_no_end workers worker ids now from bytes None = All-nil (λ (job : Job). is_end job ≡ false)
named_no_end workers worker ids now from bytes (Some session) = one_if (is_for workers worker ids session) (Take now from bytes) refl

take_no_end : (workers worker : ℕ) (ids : List ℕ) (arrival : Arrival) → HasNoEnd (take_jobs workers worker ids arrival)
take_no_end workers worker ids (Quiet now) = All-nil (λ (job : Job). is_end job ≡ false)
take_no_end workers worker ids (Datagram now from bytes) = named_no_end workers worker ids now from bytes (session_named bytes)

pub jobs_no_end : (workers worker : ℕ) (ids : List ℕ) (woken : ℕ) (arrivals : List Arrival) → HasNoEnd (jobs_for workers worker ids woken arrivals)
jobs_no_end workers worker ids woken [] = All-nil (λ (job : Job). is_end job ≡ false)
jobs_no_end workers worker ids woken (arrival ∷ arrivals) =
    All-append (λ (job : Job). is_end job ≡ false) (wake_jobs woken arrival ++ take_jobs workers worker ids arrival) (jobs_for workers worker ids (woken_behind woken arrival) arrivals)
    (All-append (λ (job : Job). is_end job ≡ false) (wake_jobs woken arrival) (take_jobs workers worker ids arrival) (one_if (wakes woken arrival) (Wake (time_of arrival)) refl) (take_no_end workers worker ids arrival))
    (jobs_no_end workers worker ids (woken_behind woken arrival) arrivals)

-- ALL WAS TAKEN that was put into a new queue, where the end was put last.
pub took_put : {O : Type 0} (before after : Put) (ended : Done O) (jobs : List Job) → IsUnput before → after ≡ with_jobs before (jobs ++ End ∷ []) → HasNoEnd jobs → TookAll after ended → ended.queue.taken ≡ jobs ++ End ∷ []
took_put before after ended jobs unput puts none took =
    let put : after.put ≡ jobs ++ End ∷ [] = ap (λ (one : Put). one.put) puts ∙ ap (λ (l : List Job). l ++ (jobs ++ End ∷ [])) unput in
    took.whole jobs put none ∙ put

-- THE SAME QUEUES are there behind the receiver.
pub same_queues : (before after : List Put) → AreSame before after → map queue_put after ≡ map queue_put before
same_queues before after same = map_same queue_put before after same.0 (λ k d lt. same.1 k d lt)

-- what all threads took of new queues
pub record TookEach {O : Type 0} (jobs : ℕ → List Job) (count : ℕ) (ended : List (Done O)) (clerk : Done ⊤) : Type 0 where
  pub each : (k : ℕ) (d : Done O) → k < count → (get_or ended k d).queue.taken ≡ jobs k ++ End ∷ []
  pub of_clerk : clerk.queue.taken ≡ jobs count ++ End ∷ []

pub took_each : {O : Type 0} (jobs : ℕ → List Job) (before after : List Put) (ended : List (Done O)) (clerk : Done ⊤) (count : ℕ) → length before ≡ count + 1 → length ended ≡ count
    → ((k : ℕ) → HasNoEnd (jobs k)) → All IsUnput before → AllPut (λ (k : ℕ). jobs k ++ End ∷ []) before after → TookOfAll after ended clerk → TookEach jobs count ended clerk
took_each {O} jobs before after ended clerk count len many none unput put took =
    let len_after = put.0 in
    let len_front : length took.front ≡ count = let push = ap length took.senders_are ∙ length-append took.front (took.last ∷ []) in omega arith in
    let last_is : get_or after count took.last ≡ took.last = ap (λ (l : List Put). get_or l count took.last) took.senders_are ∙ get_or_push took.front took.last took.last count len_front in
    record {
      each = λ k d lt.
          let at : k < length before = omega arith in
          let here : k < length took.front = omega arith in
          let is : get_or after k took.last ≡ get_or took.front k took.last = ap (λ (l : List Put). get_or l k took.last) took.senders_are ∙ get_or_append_left took.front (took.last ∷ []) took.last k here in
          took_put (get_or before k took.last) (get_or took.front k took.last) (get_or ended k d) (jobs k) (unput k took.last at) (sym is ∙ put.1 k took.last at) (none k)
          (zip_at TookAll took.front ended took.each k took.last d here);
      of_clerk =
          let at : count < length before = omega arith in
          took_put (get_or before count took.last) took.last clerk (jobs count) (unput count took.last at) (sym last_is ∙ put.1 count took.last at) (none count) took.of_clerk;
    }

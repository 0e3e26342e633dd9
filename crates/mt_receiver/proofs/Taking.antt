-- One answer after another.
use Rattle.std.proofs.Common.{◌≡◌, ◌<◌, ◌≤◌, ◌⊎◌, ◌∙◌, ℕ, ◌+◌, ◌-◌, Bool, true, false, List, [], ◌∷◌, ◌++◌, Option, Some, None, length, refl, sym, ap, subst, append-nil, append_assoc, arith, inl, inr}
use Rattle.mt_outside.specs.Network.{AreInOrder, time_of, bytes_of}
use Rattle.mt_outside.specs.declared.network.Arrival.{Arrival}
use Rattle.mt_outside.specs.declared.network.Arrival.TheVariants.{Datagram, Quiet}
use Rattle.mt_queue.specs.Ends.{Put}
use Rattle.mt_queue.specs.declared.job.Job.{Job}
use Rattle.mt_queue.specs.declared.job.Job.TheVariants.{End}
use Rattle.mt_receiver.specs.Receives.{AllPut, Came, IsSpent, Received, Took, TookAll, Went, clock_over, workers_of}
use Rattle.mt_receiver.specs.Rounds.{datagram_count, jobs_for, jobs_of, woken_behind, woken_over}
use Rattle.mt_receiver.specs.declared.receiving.Receiver.{Receiver}
use Rattle.mt_receiver.proofs.Puts.{all_as, all_none, all_on}

-- LISTS OF ANSWERS.

pub jobs_on : (workers worker : ℕ) (ids : List ℕ) (woken : ℕ) (xs ys : List Arrival) → jobs_for workers worker ids woken (xs ++ ys) ≡ jobs_for workers worker ids woken xs ++ jobs_for workers worker ids (woken_over woken xs) ys
jobs_on workers worker ids woken [] ys = refl
jobs_on workers worker ids woken (x ∷ xs) ys =
    ap (λ (jobs : List Job). jobs_of workers worker ids woken x ++ jobs) (jobs_on workers worker ids (woken_behind woken x) xs ys)
    ∙ sym (append_assoc (jobs_of workers worker ids woken x) (jobs_for workers worker ids (woken_behind woken x) xs) (jobs_for workers worker ids (woken_over (woken_behind woken x) xs) ys))

pub woken_on : (woken : ℕ) (xs ys : List Arrival) → woken_over woken (xs ++ ys) ≡ woken_over (woken_over woken xs) ys
woken_on woken [] ys = refl
woken_on woken (x ∷ xs) ys = woken_on (woken_behind woken x) xs ys

pub clock_on : (clock : ℕ) (xs ys : List Arrival) → clock_over clock (xs ++ ys) ≡ clock_over (clock_over clock xs) ys
clock_on clock [] ys = refl
clock_on clock (x ∷ xs) ys = clock_on (time_of x) xs ys

pub count_on : (xs ys : List Arrival) → datagram_count (xs ++ ys) ≡ datagram_count xs + datagram_count ys
count_on [] ys = omega arith
count_on (Quiet now ∷ xs) ys = count_on xs ys
count_on (Datagram now from bytes ∷ xs) ys = let rest = count_on xs ys in omega arith

pub order_on : (clock : ℕ) (xs ys : List Arrival) → AreInOrder clock xs → AreInOrder (clock_over clock xs) ys → AreInOrder clock (xs ++ ys)
order_on clock [] ys first then = then
order_on clock (x ∷ xs) ys first then = (first.0, first.1, first.2, order_on (time_of x) xs ys first.3 then)

came_on : (before held left : Option (List Arrival)) (xs ys : List Arrival) → Came before xs held → Came held ys left → Came before (xs ++ ys) left
came_on None held left xs ys first then = tt
came_on (Some all) held left xs ys first then =
    let rest : List Arrival = first.0 in
    let second : Came (Some rest) ys left = subst (λ (h : Option (List Arrival)). Came h ys left) first.2 then in
    (second.0, first.1 ∙ (ap (λ (l : List Arrival). xs ++ l) second.1 ∙ sym (append_assoc xs ys second.0)), second.2)

came_none : (held : Option (List Arrival)) → Came held [] held
came_none None = tt
came_none (Some all) = (all, refl, refl)

-- what is spent of what was left of a list is spent of the list
pub spent_on : (start held left : Option (List Arrival)) (xs : List Arrival) → Came start xs held → IsSpent held left → IsSpent start left
spent_on None held left xs came spent = tt
spent_on (Some all) held left xs came spent = subst (λ (h : Option (List Arrival)). IsSpent h left) came.2 spent

-- WHAT WAS TAKEN.

pub took_none : (ids : List ℕ) (woken : ℕ) (queues : List Put) (held : Option (List Arrival)) (clock : ℕ) → Took ids woken queues queues held held clock []
took_none ids woken queues held clock = record { came = came_none held; in_order = tt; put = all_none queues }

pub took_on : (ids : List ℕ) (woken clock : ℕ) (before middle after : List Put) (start held left : Option (List Arrival)) (xs ys : List Arrival)
    → Took ids woken before middle start held clock xs → Took ids (woken_over woken xs) middle after held left (clock_over clock xs) ys → Took ids woken before after start left clock (xs ++ ys)
took_on ids woken clock before middle after start held left xs ys first then =
    let workers : workers_of middle ≡ workers_of before = ap (λ (n : ℕ). n - 1) first.put.0 in
    let put : AllPut (λ (k : ℕ). jobs_for (workers_of before) k ids (woken_over woken xs) ys) middle after = subst (λ (n : ℕ). AllPut (λ (k : ℕ). jobs_for n k ids (woken_over woken xs) ys) middle after) workers then.put in
    record {
      came = came_on start held left xs ys first.came then.came;
      in_order = order_on clock xs ys first.in_order then.in_order;
      put = all_as _ (λ (k : ℕ). jobs_for (workers_of before) k ids woken (xs ++ ys)) before after (λ k. sym (jobs_on (workers_of before) k ids woken xs ys)) (all_on _ _ before middle after first.put put);
    }

-- how far the receiver is behind these answers
pub record Stands (ids : List ℕ) (limit : ℕ) (receiver : Receiver) (before now : List Put) (held left : Option (List Arrival)) (clock time : ℕ) : Type 0 where
  pub given : List Arrival
  pub took : Took ids 0 before now held left clock given
  pub ids_are : receiver.ids.now ≡ ids
  pub limit_is : receiver.limit ≡ limit
  pub woken : receiver.woken ≡ woken_over 0 given
  pub count : receiver.datagrams ≡ datagram_count given
  pub clock_is : time ≡ clock_over clock given
  pub goes_on : receiver.datagrams < receiver.limit

pub took_more : (ids : List ℕ) (limit : ℕ) (old new : Receiver) (before now after : List Put) (start held left : Option (List Arrival)) (clock time later : ℕ) (over : Bool)
    → (its : Stands ids limit old before now start held clock time) → (went : Went old new now after held left time later over) → Took ids 0 before after start left clock (its.given ++ went.given)
took_more ids limit old new before now after start held left clock time later over its went =
    let same : Took ids (woken_over 0 its.given) now after held left (clock_over clock its.given) went.given =
    subst (λ (c : ℕ). Took ids (woken_over 0 its.given) now after held left c went.given) its.clock_is
    (subst (λ (w : ℕ). Took ids w now after held left time went.given) its.woken
    (subst (λ (is : List ℕ). Took is old.woken now after held left time went.given) its.ids_are went.took)) in
    took_on ids 0 clock before now after start held left its.given went.given its.took same

pub stands_on : (ids : List ℕ) (limit : ℕ) (old new : Receiver) (before now after : List Put) (start held left : Option (List Arrival)) (clock time later : ℕ)
    → new.ids ≡ old.ids → new.limit ≡ old.limit → Stands ids limit old before now start held clock time → Went old new now after held left time later false → Stands ids limit new before after start left clock later
stands_on ids limit old new before now after start held left clock time later same_ids same_limit its went = record {
  given = its.given ++ went.given;
  took = took_more ids limit old new before now after start held left clock time later false its went;
  ids_are = ap (λ r. r.now) same_ids ∙ its.ids_are;
  limit_is = same_limit ∙ its.limit_is;
  woken = went.woken ∙ (ap (λ (w : ℕ). woken_over w went.given) its.woken ∙ sym (woken_on 0 its.given went.given));
  count = went.count ∙ (ap (λ (n : ℕ). n + datagram_count went.given) its.count ∙ sym (count_on its.given went.given));
  clock_is = went.clock_is ∙ (ap (λ (c : ℕ). clock_over c went.given) its.clock_is ∙ sym (clock_on clock its.given went.given));
  goes_on = went.goes_on refl;
}

pub ended_with : (ids : List ℕ) (limit : ℕ) (old new : Receiver) (before now after : List Put) (start held left : Option (List Arrival)) (clock time later : ℕ)
    → new.limit ≡ old.limit → Stands ids limit old before now start held clock time → Went old new now after held left time later true → TookAll ids limit before after start left clock
ended_with ids limit old new before now after start held left clock time later same_limit its went =
    let count : new.datagrams ≡ datagram_count (its.given ++ went.given) = went.count ∙ (ap (λ (n : ℕ). n + datagram_count went.given) its.count ∙ sym (count_on its.given went.given)) in
    let bound : new.limit ≡ limit = same_limit ∙ its.limit_is in
    let Goal : Type 0 = (datagram_count (its.given ++ went.given) ≡ limit) ⊎ IsSpent start left in
    let by : ((new.datagrams ≡ new.limit) ⊎ IsSpent held left) → Goal = elim [ inl is ↦ inl (sym count ∙ (is ∙ bound)) | inr spent ↦ inr (spent_on start held left its.given its.took.came spent) ] in
    record {
      given = its.given ++ went.given;
      took = took_more ids limit old new before now after start held left clock time later true its went;
      ended = by (went.over refl);
    }

pub received_with : (ids : List ℕ) (limit : ℕ) (before now after : List Put) (held left : Option (List Arrival)) (clock : ℕ) → TookAll ids limit before now held left clock → AllPut (λ (k : ℕ). End ∷ []) now after → Received ids limit before after held left clock
received_with ids limit before now after held left clock its ends = record {
  given = its.given;
  came = its.took.came;
  in_order = its.took.in_order;
  put = all_on (λ (k : ℕ). jobs_for (workers_of before) k ids 0 its.given) (λ (k : ℕ). End ∷ []) before now after its.took.put ends;
  ended = its.ended;
}

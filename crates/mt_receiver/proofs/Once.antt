-- One answer of the intake.
use Rattle.std.proofs.Common.{◌≡◌, ◌<◌, ◌≤◌, ◌⊎◌, ◌∙◌, ℕ, ◌+◌, ◌-◌, Bool, true, false, true≢false, List, [], ◌∷◌, ◌++◌, Option, Some, None, IfSome, length, take, drop, nat_eq, refl, sym, ap, subst, append-nil, arith, inl, inr}
use Rattle.std.proofs.lemmas.Bool.{eqb-false, eqb-true}
use Rattle.mt_outside.specs.Network.{AreInOrder, IsTimely, bytes_of, bytes_of_first, first_told, time_of, told}
use Rattle.mt_outside.specs.declared.datagrams.Taken.{Taken}
use Rattle.mt_outside.specs.declared.datagrams.Taken.TheVariants as takes
use Rattle.mt_outside.specs.declared.datagrams.TheConstants.{DATAGRAM_BYTES, LATEST_NOW}
use Rattle.mt_outside.specs.declared.network.Arrival.{Arrival}
use Rattle.mt_outside.specs.declared.network.Arrival.TheVariants.{Datagram, Quiet}
use Rattle.mt_outside.specs.declared.network.Peer.{Peer}
use Rattle.mt_queue.specs.Ends.{Put}
use Rattle.mt_queue.specs.declared.job.Job.{Job}
use Rattle.mt_receiver.specs.Receives.{AllPut, Came, IsSpent, Took, Went, clock_over, workers_of}
use Rattle.mt_receiver.specs.Rounds.{datagram_count, jobs_for, jobs_of, take_jobs, wake_jobs, woken_behind, woken_over}
use Rattle.mt_receiver.specs.declared.receiving.Receiver.{Receiver}
use Rattle.mt_receiver.proofs.Puts.{all_as, all_none, all_on}

-- the wake of a datagram, and then itself
pub both_put : (ids : List ℕ) (woken now : ℕ) (from : Peer) (bytes : List ℕ) (xs ys zs : List Put) → AllPut (λ (k : ℕ). wake_jobs woken (Quiet now)) xs ys → AllPut (λ (k : ℕ). take_jobs (workers_of ys) k ids (Datagram now from bytes)) ys zs
    → AllPut (λ (k : ℕ). jobs_of (workers_of xs) k ids woken (Datagram now from bytes)) xs zs
both_put ids woken now from bytes xs ys zs first then =
    let same : workers_of ys ≡ workers_of xs = ap (λ (n : ℕ). n - 1) first.0 in
    all_on (λ (k : ℕ). wake_jobs woken (Quiet now)) (λ (k : ℕ). take_jobs (workers_of xs) k ids (Datagram now from bytes)) xs ys zs first
    (subst (λ (n : ℕ). AllPut (λ (k : ℕ). take_jobs n k ids (Datagram now from bytes)) ys zs) same then)

-- of one answer alone
pub one_put : (ids : List ℕ) (woken : ℕ) (arrival : Arrival) (xs ys : List Put) → AllPut (λ (k : ℕ). jobs_of (workers_of xs) k ids woken arrival) xs ys → AllPut (λ (k : ℕ). jobs_for (workers_of xs) k ids woken (arrival ∷ [])) xs ys
one_put ids woken arrival xs ys put = all_as _ _ xs ys (λ k. sym (append-nil (jobs_of (workers_of xs) k ids woken arrival))) put

quiet_put : (ids : List ℕ) (woken now : ℕ) (xs ys : List Put) → AllPut (λ (k : ℕ). wake_jobs woken (Quiet now)) xs ys → AllPut (λ (k : ℕ). jobs_for (workers_of xs) k ids woken (Quiet now ∷ [])) xs ys
quiet_put ids woken now xs ys put = one_put ids woken (Quiet now) xs ys (all_as _ _ xs ys (λ k. sym (append-nil (wake_jobs woken (Quiet now)))) put)

-- WHAT CAME, by what was told of it.

take_front : (xs ys : List ℕ) → take (length xs) (xs ++ ys) ≡ xs
take_front [] ys = refl
take_front (x ∷ xs) ys = ap (λ (l : List ℕ). x ∷ l) (take_front xs ys)

came_ended : (held left : Option (List Arrival)) → IfSome held (λ arrivals. takes.Ended ≡ first_told arrivals) → IfSome held (λ arrivals. left ≡ Some (drop 1 arrivals)) → Came held [] left × IsSpent held left
came_ended None left is rest = (tt, tt)
came_ended (Some []) left is rest = (([], refl, rest), rest)
came_ended (Some (Datagram now from bytes ∷ others)) left is rest = absurd cc
came_ended (Some (Quiet now ∷ others)) left is rest = absurd cc

came_quiet : (now : ℕ) (held left : Option (List Arrival)) → IfSome held (λ arrivals. takes.Quiet now ≡ first_told arrivals) → IfSome held (λ arrivals. left ≡ Some (drop 1 arrivals)) → Came held (Quiet now ∷ []) left
came_quiet now None left is rest = tt
came_quiet now (Some []) left is rest = absurd cc
came_quiet now (Some (Datagram later from bytes ∷ others)) left is rest = absurd cc
came_quiet now (Some (Quiet later ∷ others)) left is rest =
    let same : later ≡ now = cc in
    (others, ap (λ (n : ℕ). Quiet n ∷ others) same, rest)

came_datagram : (now : ℕ) (from : Peer) (count : ℕ) (bytes into : List ℕ) (held left : Option (List Arrival)) → bytes ≡ take count into → IfSome held (λ arrivals. takes.Datagram now from count ≡ first_told arrivals)
    → (before : List ℕ) → IfSome held (λ arrivals. into ≡ bytes_of_first arrivals ++ drop (length (bytes_of_first arrivals)) before) → IfSome held (λ arrivals. left ≡ Some (drop 1 arrivals)) → Came held (Datagram now from bytes ∷ []) left
came_datagram now from count bytes into None left are is before filled rest = tt
came_datagram now from count bytes into (Some []) left are is before filled rest = absurd cc
came_datagram now from count bytes into (Some (Quiet later ∷ others)) left are is before filled rest = absurd cc
came_datagram now from count bytes into (Some (Datagram later peer told_bytes ∷ others)) left are is before filled rest =
    let time : later ≡ now = cc in
    let who : peer ≡ from = cc in
    let long : length told_bytes ≡ count = cc in
    let same : told_bytes ≡ bytes = sym (are ∙ (ap (take count) filled ∙ (ap (λ (n : ℕ). take n (told_bytes ++ drop (length told_bytes) before)) (sym long) ∙ take_front told_bytes (drop (length told_bytes) before)))) in
    (others, λ i. Datagram (time i) (who i) (same i) ∷ others, rest)

-- ONE ANSWER of each kind.

went_ended_so : (r : Receiver) (queues : List Put) (held left : Option (List Arrival)) (clock now : ℕ) → IsTimely clock now takes.Ended → IfSome held (λ arrivals. takes.Ended ≡ first_told arrivals) → IfSome held (λ arrivals. left ≡ Some (drop 1 arrivals))
    → Went r r queues queues held left clock now true
went_ended_so r queues held left clock now time is rest =
    let both = came_ended held left is rest in
    record {
      given = [];
      took = record { came = both.0; in_order = tt; put = all_none queues };
      woken = refl;
      count = omega arith;
      clock_is = time;
      over = λ yes. inr both.1;
      goes_on = λ no. absurd (true≢false no);
    }

went_quiet_so : (r new : Receiver) (before after : List Put) (held left : Option (List Arrival)) (clock later now : ℕ) → new ≡ record r { woken = woken_behind r.woken (Quiet now) } → r.datagrams < r.limit → IsTimely clock later (takes.Quiet now)
    → IfSome held (λ arrivals. takes.Quiet now ≡ first_told arrivals) → IfSome held (λ arrivals. left ≡ Some (drop 1 arrivals)) → AllPut (λ (k : ℕ). wake_jobs r.woken (Quiet now)) before after → Went r new before after held left clock later false
went_quiet_so r new before after held left clock later now same under time is rest put = record {
  given = Quiet now ∷ [];
  took = record { came = came_quiet now held left is rest; in_order = (time.0, time.1, omega arith, tt); put = quiet_put r.ids.now r.woken now before after put };
  woken = ap (λ (x : Receiver). x.woken) same;
  count = ap (λ (x : Receiver). x.datagrams) same ∙ omega arith;
  clock_is = time.2;
  over = λ yes. absurd (true≢false (sym yes));
  goes_on = λ no. (let count = ap (λ (x : Receiver). x.datagrams) same in let bound = ap (λ (x : Receiver). x.limit) same in omega arith);
}

went_datagram_so : (r new : Receiver) (before after : List Put) (held left : Option (List Arrival)) (clock later now : ℕ) (from : Peer) (count : ℕ) (bytes into old_into : List ℕ)
    → new.woken ≡ woken_behind r.woken (Datagram now from bytes) → new.datagrams ≡ r.datagrams + 1 → new.limit ≡ r.limit → r.datagrams < r.limit → IsTimely clock later (takes.Datagram now from count) → length bytes ≤ DATAGRAM_BYTES
    → bytes ≡ take count into → IfSome held (λ arrivals. takes.Datagram now from count ≡ first_told arrivals) → IfSome held (λ arrivals. into ≡ bytes_of_first arrivals ++ drop (length (bytes_of_first arrivals)) old_into) → IfSome held (λ arrivals. left ≡ Some (drop 1 arrivals))
    → AllPut (λ (k : ℕ). jobs_of (workers_of before) k r.ids.now r.woken (Datagram now from bytes)) before after
    → Went r new before after held left clock later (nat_eq new.datagrams new.limit)
went_datagram_so r new before after held left clock later now from count bytes into old_into woken one same_limit under time short are is filled rest put = record {
  given = Datagram now from bytes ∷ [];
  took = record { came = came_datagram now from count bytes into held left are is old_into filled rest; in_order = (time.0, time.1, short, tt); put = one_put r.ids.now r.woken (Datagram now from bytes) before after put };
  woken = woken;
  count = one;
  clock_is = time.2;
  over = λ yes. inl (eqb-true new.datagrams new.limit yes);
  goes_on = λ no. (let other = eqb-false new.datagrams new.limit no in omega arith);
}

-- the same, told by what the call gave

pub went_ended : (r : Receiver) (queues : List Put) (held left : Option (List Arrival)) (clock now : ℕ) (taken : Taken) → taken ≡ takes.Ended → IsTimely clock now taken → IfSome held (λ arrivals. taken ≡ first_told arrivals) → IfSome held (λ arrivals. left ≡ Some (drop 1 arrivals))
    → Went r r queues queues held left clock now true
went_ended r queues held left clock now taken same time is rest =
    went_ended_so r queues held left clock now (subst (IsTimely clock now) same time) (subst (λ (t : Taken). IfSome held (λ arrivals. t ≡ first_told arrivals)) same is) rest

pub went_quiet : (r new : Receiver) (before after : List Put) (held left : Option (List Arrival)) (clock later now : ℕ) (taken : Taken) → taken ≡ takes.Quiet now → new ≡ record r { woken = woken_behind r.woken (Quiet now) } → r.datagrams < r.limit → IsTimely clock later taken
    → IfSome held (λ arrivals. taken ≡ first_told arrivals) → IfSome held (λ arrivals. left ≡ Some (drop 1 arrivals)) → AllPut (λ (k : ℕ). wake_jobs r.woken (Quiet now)) before after → Went r new before after held left clock later false
went_quiet r new before after held left clock later now taken same is_new under time is rest put =
    went_quiet_so r new before after held left clock later now is_new under (subst (IsTimely clock later) same time) (subst (λ (t : Taken). IfSome held (λ arrivals. t ≡ first_told arrivals)) same is) rest put

pub went_datagram : (r new : Receiver) (before after : List Put) (held left : Option (List Arrival)) (clock later now : ℕ) (from : Peer) (count : ℕ) (taken : Taken) (bytes into old_into : List ℕ) → taken ≡ takes.Datagram now from count
    → new.woken ≡ woken_behind r.woken (Datagram now from bytes) → new.datagrams ≡ r.datagrams + 1 → new.limit ≡ r.limit → r.datagrams < r.limit → IsTimely clock later taken → length bytes ≤ DATAGRAM_BYTES
    → bytes ≡ take count into → IfSome held (λ arrivals. taken ≡ first_told arrivals) → IfSome held (λ arrivals. into ≡ bytes_of_first arrivals ++ drop (length (bytes_of_first arrivals)) old_into) → IfSome held (λ arrivals. left ≡ Some (drop 1 arrivals))
    → AllPut (λ (k : ℕ). jobs_of (workers_of before) k r.ids.now r.woken (Datagram now from bytes)) before after
    → Went r new before after held left clock later (nat_eq new.datagrams new.limit)
went_datagram r new before after held left clock later now from count taken bytes into old_into same woken one same_limit under time short are is filled rest put =
    went_datagram_so r new before after held left clock later now from count bytes into old_into woken one same_limit under (subst (IsTimely clock later) same time) short are (subst (λ (t : Taken). IfSome held (λ arrivals. t ≡ first_told arrivals)) same is) filled rest put

-- What is done for some jobs and then for others, and which jobs an answer gives.
use Rattle.std.proofs.Common.{◌≡◌, ◌∙◌, refl, sym, ap, subst, ℕ, Bool, true, false, List, [], ◌∷◌, ◌++◌, Option, Some, None, MatchBool, if◌then◌else◌, append_assoc, append-nil}
use Rattle.mt_outside.specs.declared.network.Arrival.{Arrival}
use Rattle.mt_outside.specs.declared.network.Peer.{Peer}
use Rattle.mt_queue.specs.declared.job.Job.{Job}
use Rattle.mt_queue.specs.declared.job.Job.TheVariants.{Take, Wake}
use Rattle.mt_owners.specs.mt_receiver.Rounds.{is_for, jobs_for, take_jobs, take_named, wake_jobs, woken_behind}
use Rattle.mt_owners.specs.mt_runs.Datagrams.{session_named}
use Rattle.mt_owners.specs.mt_worker.Accounts.{Accounts, all_behind}
use Rattle.mt_owners.specs.mt_worker.Due.{Does, DoesAll, Hears, Sweeps, Takes, Ticks, TicksAll, is_in}
use Rattle.mt_owners.specs.mt_worker.Gots.{Got}
use Rattle.mt_rounds.specs.Laws.{AreOfWorker}
use Rattle.mt_rounds.proofs.Over.{accounts_both}

-- NOTHING among two lists.

pub only_first : (gots first later : List Got) → gots ≡ first ++ later → later ≡ [] → first ≡ gots
only_first gots first later is none = sym (is ∙ ap (λ (l : List Got). first ++ l) none ∙ append-nil first)

pub both_none : (gots first later : List Got) → gots ≡ first ++ later → first ≡ [] → later ≡ [] → gots ≡ []
both_none gots first later is nothing none = sym (only_first gots first later is none) ∙ nothing

-- A WORKER'S.

-- one job alone
pub does_one : (own : List ℕ) (accounts : Accounts) (job : Job) (gots : List Got) → DoesAll own accounts (job ∷ []) gots → Does own accounts job gots
does_one own accounts job gots does = subst (Does own accounts job) (only_first gots does.0 does.1 does.2 does.4) does.3

-- these and then those
pub record DoesBoth (own : List ℕ) (accounts : Accounts) (jobs others : List Job) (gots : List Got) : Type 0 where
  pub first : List Got
  pub second : List Got
  pub both : gots ≡ first ++ second
  pub earlier : DoesAll own accounts jobs first
  pub later : DoesAll own (all_behind accounts first) others second

pub does_both : (own : List ℕ) (accounts : Accounts) (jobs others : List Job) (gots : List Got) → DoesAll own accounts (jobs ++ others) gots → DoesBoth own accounts jobs others gots
does_both own accounts [] others gots does = record { first = []; second = gots; both = refl; earlier = refl; later = does }
does_both own accounts (job ∷ jobs) others gots does =
    let mine : List Got = does.0 in
    let rest : DoesBoth own (all_behind accounts mine) jobs others does.1 = does_both own (all_behind accounts mine) jobs others does.1 does.4 in
    record {
      first = mine ++ rest.first;
      second = rest.second;
      both = does.2 ∙ ap (λ (l : List Got). mine ++ l) rest.both ∙ sym (append_assoc mine rest.first rest.second);
      earlier = (mine, rest.first, refl, does.3, rest.earlier);
      later = subst (λ (f : Accounts). DoesAll own f others rest.second) (sym (accounts_both accounts mine rest.first)) rest.later;
    }

-- WHAT ONE ANSWER GIVES: a wake, a datagram, and then all that later answers do.
pub record DoesRound (workers worker : ℕ) (ids own : List ℕ) (woken : ℕ) (accounts : Accounts) (arrival : Arrival) (later : List Job) (gots : List Got) : Type 0 where
  pub woke : List Got
  pub took : List Got
  pub rest : List Got
  pub all : gots ≡ woke ++ (took ++ rest)
  pub wake : DoesAll own accounts (wake_jobs woken arrival) woke
  pub take : DoesAll own (all_behind accounts woke) (take_jobs workers worker ids arrival) took
  pub others : DoesAll own (all_behind (all_behind accounts woke) took) later rest

pub in_rounds : (wake take later ending : List Job) → ((wake ++ take) ++ later) ++ ending ≡ wake ++ (take ++ (later ++ ending))
in_rounds wake take later ending = simp append_assoc

pub round : (workers worker : ℕ) (ids own : List ℕ) (woken : ℕ) (accounts : Accounts) (arrival : Arrival) (arrivals : List Arrival) (ending : List Job) (gots : List Got) → DoesAll own accounts (jobs_for workers worker ids woken (arrival ∷ arrivals) ++ ending) gots
    → DoesRound workers worker ids own woken accounts arrival (jobs_for workers worker ids (woken_behind woken arrival) arrivals ++ ending) gots
round workers worker ids own woken accounts arrival arrivals ending gots does =
    let wake : List Job = wake_jobs woken arrival in
    let take : List Job = take_jobs workers worker ids arrival in
    let later : List Job = jobs_for workers worker ids (woken_behind woken arrival) arrivals ++ ending in
    let one : DoesBoth own accounts wake (take ++ later) gots = does_both own accounts wake (take ++ later) gots
    (subst (λ (jobs : List Job). DoesAll own accounts jobs gots) (in_rounds wake take (jobs_for workers worker ids (woken_behind woken arrival) arrivals) ending) does) in
    let two : DoesBoth own (all_behind accounts one.first) take later one.second = does_both own (all_behind accounts one.first) take later one.second one.later in
    record { woke = one.first; took = two.first; rest = two.second; all = one.both ∙ ap (λ (l : List Got). one.first ++ l) two.both; wake = one.earlier; take = two.earlier; others = two.later }

-- a wake is a sweep
pub wake_is : (own : List ℕ) (accounts : Accounts) (now : ℕ) (gots : List Got) (b : Bool) → DoesAll own accounts (if b then Wake now ∷ [] else []) gots → MatchBool b (Sweeps now own accounts gots) (gots ≡ [])
wake_is own accounts now gots = elim [ true ↦ λ does. does_one own accounts (Wake now) gots does | false ↦ λ none. none ]

-- a datagram is taken by the worker to whom it goes, and by no other
pub take_is : (workers worker : ℕ) (ids own : List ℕ) (accounts : Accounts) (now : ℕ) (from : Peer) (bytes : List ℕ) (gots : List Got) → AreOfWorker workers worker ids own → (o : Option ℕ) → session_named bytes ≡ o
    → DoesAll own accounts (take_named workers worker ids now from bytes o) gots → Takes own accounts now from bytes o gots
take_is workers worker ids own accounts now from bytes gots mine None named does = does
take_is workers worker ids own accounts now from bytes gots mine (Some id) named does =
    let Goal : Bool → Type 0 = λ b. is_in own id ≡ b → DoesAll own accounts (if b then Take now from bytes ∷ [] else []) gots → Takes own accounts now from bytes (Some id) gots in
    let each : (b : Bool) → Goal b = elim [
      | true ↦ λ is it. subst (λ (o : Option ℕ). Takes own accounts now from bytes o gots) named (does_one own accounts (Take now from bytes) gots it)
      | false ↦ λ is none. subst (λ (b : Bool). MatchBool b (Hears (accounts id) now from bytes gots) (gots ≡ [])) (sym is) none
    ] in
    each (is_for workers worker ids id) (mine id) does

-- THE REPORTER'S.

pub ticks_one : (job : Job) (gots : List Got) → TicksAll (job ∷ []) gots → Ticks job gots
ticks_one job gots ticks = subst (Ticks job) (only_first gots ticks.0 ticks.1 ticks.2 ticks.4) ticks.3

pub record TicksBoth (jobs others : List Job) (gots : List Got) : Type 0 where
  pub first : List Got
  pub second : List Got
  pub both : gots ≡ first ++ second
  pub earlier : TicksAll jobs first
  pub later : TicksAll others second

pub ticks_both : (jobs others : List Job) (gots : List Got) → TicksAll (jobs ++ others) gots → TicksBoth jobs others gots
ticks_both [] others gots ticks = record { first = []; second = gots; both = refl; earlier = refl; later = ticks }
ticks_both (job ∷ jobs) others gots ticks =
    let mine : List Got = ticks.0 in
    let rest : TicksBoth jobs others ticks.1 = ticks_both jobs others ticks.1 ticks.4 in
    record {
      first = mine ++ rest.first;
      second = rest.second;
      both = ticks.2 ∙ ap (λ (l : List Got). mine ++ l) rest.both ∙ sym (append_assoc mine rest.first rest.second);
      earlier = (mine, rest.first, refl, ticks.3, rest.earlier);
      later = rest.later;
    }

-- The lines of each session of a worker follow the answers.
use Rattle.std.proofs.Common.{◌≡◌, ◌∙◌, refl, sym, ap, subst, ℕ, Bool, true, false, List, [], ◌∷◌, ◌++◌, MatchBool, filter, append_assoc}
use Rattle.std.proofs.lemmas.List.Elements.{filter-append}
use Rattle.mt_outside.specs.Network.{time_of}
use Rattle.mt_outside.specs.declared.network.Arrival.{Arrival}
use Rattle.mt_outside.specs.declared.network.Arrival.TheVariants.{Datagram, Quiet}
use Rattle.mt_queue.specs.declared.job.Job.TheVariants.{End}
use Rattle.mt_owners.specs.mt_receiver.Rounds.{jobs_for, take_jobs, wakes, woken_behind}
use Rattle.mt_owners.specs.mt_runs.Datagrams.{session_named}
use Rattle.mt_owners.specs.mt_worker.Accounts.{Account, Accounts, account_over, all_behind}
use Rattle.mt_owners.specs.mt_worker.Due.{AreRising, DoesAll, Sweeps, is_in}
use Rattle.mt_owners.specs.mt_worker.Gots.{Got}
use Rattle.mt_rounds.specs.Following.{Answers, Follows, HearsIf, WakesIf}
use Rattle.mt_rounds.specs.Laws.{AreOfWorker, AreTheirOwn, SessionsFollow, is_over}
use Rattle.mt_rounds.proofs.Over.{account_both, account_of, own_all}
use Rattle.mt_rounds.proofs.Parts.{DoesRound, both_none, round, take_is, wake_is}
use Rattle.mt_rounds.proofs.Sweeps.{heard, swept}

-- The account behind two parts, seen from one session.
behind_two : (accounts : Accounts) (session : ℕ) (first second : List Got)
    → all_behind (all_behind accounts first) second session ≡ account_over (account_over (accounts session) (filter (is_over session) first)) (filter (is_over session) second)
behind_two accounts session first second =
    account_of (all_behind accounts first) session second ∙ ap (λ (a : Account). account_over a (filter (is_over session) second)) (account_of accounts session first)

module _ (workers worker session : ℕ) (ids own : List ℕ) (rising : AreRising own) (mine : AreOfWorker workers worker ids own) (is : is_in own session ≡ true) where
  wake_seen : (accounts : Accounts) (now : ℕ) (gots : List Got) → AreTheirOwn accounts → (b : Bool) → MatchBool b (Sweeps now own accounts gots) (gots ≡ []) → WakesIf b (accounts session) now (filter (is_over session) gots)
  wake_seen accounts now gots theirs = elim [
    | true ↦ λ sweeps. swept now session own accounts gots rising theirs is sweeps
    | false ↦ λ none. ap (filter (is_over session)) none
  ]

  datagram_seen : (accounts : Accounts) (arrival : Arrival) (gots : List Got) → AreTheirOwn accounts → DoesAll own accounts (take_jobs workers worker ids arrival) gots → HearsIf (accounts session) arrival (filter (is_over session) gots)
  datagram_seen accounts (Quiet now) gots theirs none = ap (filter (is_over session)) none
  datagram_seen accounts (Datagram now from bytes) gots theirs does =
      heard session now from bytes own accounts theirs gots (session_named bytes) is (take_is workers worker ids own accounts now from bytes gots mine (session_named bytes) refl does)

  pub follow : (woken : ℕ) (accounts : Accounts) (arrivals : List Arrival) (gots : List Got) → AreTheirOwn accounts → DoesAll own accounts (jobs_for workers worker ids woken arrivals ++ End ∷ []) gots
      → Follows woken (accounts session) arrivals (filter (is_over session) gots)
  follow woken accounts [] gots theirs does = ap (filter (is_over session)) (both_none gots does.0 does.1 does.2 does.3 does.4)
  follow woken accounts (arrival ∷ arrivals) gots theirs does =
      let it : DoesRound workers worker ids own woken accounts arrival (jobs_for workers worker ids (woken_behind woken arrival) arrivals ++ End ∷ []) gots = round workers worker ids own woken accounts arrival arrivals (End ∷ []) gots does in
      let mid : Accounts = all_behind accounts it.woke in
      let first : List Got = filter (is_over session) it.woke in
      let second : List Got = filter (is_over session) it.took in
      let all : filter (is_over session) gots ≡ (first ++ second) ++ filter (is_over session) it.rest = every it.woke it.took it.rest gots it.all in
      let heard_then : HearsIf (account_over (accounts session) first) arrival second =
      subst (λ (a : Account). HearsIf a arrival second) (account_of accounts session it.woke) (datagram_seen mid arrival it.took (own_all accounts it.woke theirs) it.take) in
      let woke : WakesIf (wakes woken arrival) (accounts session) (time_of arrival) first = wake_seen accounts (time_of arrival) it.woke theirs (wakes woken arrival) (wake_is own accounts (time_of arrival) it.woke (wakes woken arrival) it.wake) in
      let answers : Answers woken (accounts session) arrival (first ++ second) = record { first = first; second = second; both = refl; wake = woke; datagram = heard_then } in
      let rest : Follows (woken_behind woken arrival) (all_behind mid it.took session) arrivals (filter (is_over session) it.rest) =
      follow (woken_behind woken arrival) (all_behind mid it.took) arrivals it.rest (own_all mid it.took (own_all accounts it.woke theirs)) it.others in
      let same : all_behind mid it.took session ≡ account_over (accounts session) (first ++ second) = behind_two accounts session it.woke it.took ∙ sym (account_both (accounts session) first second) in
      (first ++ second, filter (is_over session) it.rest, all, answers, subst (λ (a : Account). Follows (woken_behind woken arrival) a arrivals (filter (is_over session) it.rest)) same rest)
    where
      every : (xs ys zs gots : List Got) → gots ≡ xs ++ (ys ++ zs) → filter (is_over session) gots ≡ (filter (is_over session) xs ++ filter (is_over session) ys) ++ filter (is_over session) zs
      every xs ys zs gots parts = ap (filter (is_over session)) parts ∙ simp (filter-append, append_assoc)

pub sessions : SessionsFollow
sessions workers worker session woken ids own accounts arrivals gots rising mine theirs is does = follow workers worker session ids own rising mine is woken accounts arrivals gots theirs does

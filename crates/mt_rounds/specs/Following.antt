-- How the lines of one session follow the answers of the intake.
use Rattle.std.specs.Prelude.{◌≡◌, ℕ, ◌==◌, Bool, true, false, MatchBool, List, [], ◌∷◌, ◌++◌, Option, Some, None}
use Rattle.mt_outside.specs.Network.{time_of}
use Rattle.mt_outside.specs.declared.network.Arrival.{Arrival}
use Rattle.mt_outside.specs.declared.network.Arrival.TheVariants.{Datagram, Quiet}
use Rattle.mt_owners.specs.mt_receiver.Rounds.{wakes, woken_behind}
use Rattle.mt_owners.specs.mt_runs.Datagrams.{session_named}
use Rattle.mt_owners.specs.mt_worker.Accounts.{Account, account_over}
use Rattle.mt_owners.specs.mt_worker.Due.{Hears, Wakes}
use Rattle.mt_owners.specs.mt_worker.Gots.{Got}

-- At a wake a session's lines are a resend step, and then a report step to each of the last three subscriptions that stand behind it.
abbrev pub WakesIf : Bool → Account → ℕ → List Got → Type 0
WakesIf true a now gots = Wakes a now gots
WakesIf false a now gots = gots ≡ []

-- A datagram that names the session is one line of it.

abbrev pub names_it : ℕ → Option ℕ → Bool
names_it session None = false
names_it session (Some id) = id == session

abbrev pub HearsIf : Account → Arrival → List Got → Type 0
HearsIf a (Quiet now) gots = gots ≡ []
HearsIf a (Datagram now from bytes) gots = MatchBool (names_it a.row.session (session_named bytes)) (Hears a now from bytes gots) (gots ≡ [])

-- One answer: first the wake, where it brings one, and then its datagram.
pub record Answers (woken : ℕ) (a : Account) (arrival : Arrival) (gots : List Got) : Type 0 where
  pub first : List Got
  pub second : List Got
  pub both : gots ≡ first ++ second
  pub wake : WakesIf (wakes woken arrival) a (time_of arrival) first
  pub datagram : HearsIf (account_over a first) arrival second

-- ALL LINES OF THE SESSION, answer by answer, from this account on.
abbrev pub Follows : ℕ → Account → List Arrival → List Got → Type 0
Follows woken a [] gots = gots ≡ []
Follows woken a (arrival ∷ arrivals) gots =
    (mine : List Got) × (rest : List Got) × (gots ≡ mine ++ rest) × Answers woken a arrival mine × Follows (woken_behind woken arrival) (account_over a mine) arrivals rest

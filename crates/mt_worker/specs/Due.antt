-- Which calls a worker makes for the jobs that it takes, and the reporter.
use Rattle.std.specs.Prelude.{◌≡◌, ◌≢◌, ◌<◌, ℕ, ◌-◌, ◌==◌, Bool, List, [], ◌∷◌, ◌++◌, Option, Some, None, MatchBool, drop, length, ⊤}
use Rattle.std.specs.List.{list_any}
use Rattle.mt_layer.specs.mt_interactions.TheVariants as deeds
use Rattle.mt_layer.specs.Deeds.{deed_again, deed_heard}
use Rattle.mt_model.specs.declared.tables.access.Auth.TheVariants.{Group}
use Rattle.mt_model.specs.declared.texts.config.SessionRow.{SessionRow}
use Rattle.mt_model.specs.declared.texts.recording.Event.TheVariants as events
use Rattle.mt_outside.specs.declared.network.Peer.{Peer}
use Rattle.mt_queue.specs.declared.job.Job.{Job}
use Rattle.mt_queue.specs.declared.job.Job.TheVariants.{Take, Wake, End}
use Rattle.mt_layer.specs.mt_runs.Datagrams.{session_named}
use Rattle.mt_layer.specs.mt_shared.Call.{Call}
use Rattle.mt_worker.specs.Accounts.{Account, Accounts, account_behind, all_behind, begun_account}
use Rattle.mt_worker.specs.Gots.{Each, Got}
use Rattle.mt_worker.specs.declared.seat.Subscription.{Subscription}

-- THE ROWS of a worker: of unicast sessions, whose two ids are not 0, by rising id.

pub record IsServed (row : SessionRow) : Type 0 where
  pub auth : row.auth ≢ Group
  pub session : row.session ≢ 0
  pub peer_session : row.peer_session ≢ 0

abbrev pub id_of : SessionRow → ℕ
id_of row = row.session

abbrev pub AreRising : List ℕ → Type 0
AreRising [] = ⊤
AreRising (id ∷ ids) = Each (λ (later : ℕ). id < later) ids × AreRising ids

-- nothing has been said over them
abbrev pub HaveBegun : List SessionRow → Accounts → Type 0
HaveBegun rows accounts = Each (λ (row : SessionRow). accounts row.session ≡ begun_account row) rows

-- THE CALLS.

-- for a datagram
abbrev pub call_heard : Account → ℕ → Peer → List ℕ → Call
call_heard a now from bytes = record { event = events.Datagram now from bytes; deed = deed_heard a.row bytes a.talk }

-- a resend step
abbrev pub call_again : Account → ℕ → Call
call_again a now = record { event = events.Resend now a.row.session; deed = deed_again a.row a.talk }

-- a report step to a subscription
abbrev pub call_report : ℕ → Subscription → Call
call_report now subscription = record { event = events.Report now subscription.fabric subscription.id; deed = deeds.Report subscription.fabric subscription.id }

-- a time step
abbrev pub call_tick : ℕ → Call
call_tick now = record { event = events.Tick now; deed = deeds.Expire }

-- it was this call, over this session, and its entry is a line
pub record IsOf (session : ℕ) (call : Call) (got : Got) : Type 0 where
  pub session_is : got.session ≡ session
  pub call_is : got.told.0.call ≡ call
  pub line : got.told.0.stop ≡ None

-- these are all, in this order: this one, and then those
abbrev pub Then : (Got → Type 0) → (Got → List Got → Type 0) → List Got → Type 0
Then First Rest gots = (got : Got) × (rest : List Got) × (gots ≡ got ∷ rest) × First got × Rest got rest

abbrev pub IsNone : Got → List Got → Type 0
IsNone got gots = gots ≡ []

-- FOR A DATAGRAM: one call
abbrev pub Hears : Account → ℕ → Peer → List ℕ → List Got → Type 0
Hears a now from bytes gots = Then (IsOf a.row.session (call_heard a now from bytes)) IsNone gots

-- a resend step: one call
abbrev pub Resends : Account → ℕ → List Got → Type 0
Resends a now gots = Then (IsOf a.row.session (call_again a now)) IsNone gots

-- FOR A WAKE, over one session: a resend step, and then a report step to each of the last three subscriptions that stand behind it, oldest first

abbrev pub last_three : List Subscription → List Subscription
last_three subscriptions = drop (length subscriptions - 3) subscriptions

abbrev pub Reports : ℕ → ℕ → List Subscription → List Got → Type 0
Reports session now [] gots = gots ≡ []
Reports session now (subscription ∷ subscriptions) gots = Then (IsOf session (call_report now subscription)) (λ got rest. Reports session now subscriptions rest) gots

abbrev pub Wakes : Account → ℕ → List Got → Type 0
Wakes a now gots = Then (IsOf a.row.session (call_again a now)) (λ got rest. Reports a.row.session now (last_three (account_behind a got.told).subscriptions) rest) gots

-- and so over each of these sessions, in this order
abbrev pub Sweeps : ℕ → List ℕ → Accounts → List Got → Type 0
Sweeps now [] accounts gots = gots ≡ []
Sweeps now (id ∷ ids) accounts gots = (mine : List Got) × (rest : List Got) × (gots ≡ mine ++ rest) × Wakes (accounts id) now mine × Sweeps now ids (all_behind accounts mine) rest

-- A WORKER'S JOBS. A datagram is heard by the session that its header names, where that is one of the worker's.

abbrev pub is_in : List ℕ → ℕ → Bool
is_in ids id = list_any (λ (other : ℕ). other == id) ids

abbrev pub Takes : List ℕ → Accounts → ℕ → Peer → List ℕ → Option ℕ → List Got → Type 0
Takes ids accounts now from bytes None gots = gots ≡ []
Takes ids accounts now from bytes (Some id) gots = MatchBool (is_in ids id) (Hears (accounts id) now from bytes gots) (gots ≡ [])

abbrev pub Does : List ℕ → Accounts → Job → List Got → Type 0
Does ids accounts (Take now from bytes) gots = Takes ids accounts now from bytes (session_named bytes) gots
Does ids accounts (Wake now) gots = Sweeps now ids accounts gots
Does ids accounts End gots = gots ≡ []

abbrev pub DoesAll : List ℕ → Accounts → List Job → List Got → Type 0
DoesAll ids accounts [] gots = gots ≡ []
DoesAll ids accounts (job ∷ jobs) gots = (mine : List Got) × (rest : List Got) × (gots ≡ mine ++ rest) × Does ids accounts job mine × DoesAll ids (all_behind accounts mine) jobs rest

-- THE REPORTER'S: one time step for each wake

abbrev pub Ticks : Job → List Got → Type 0
Ticks (Take now from bytes) gots = gots ≡ []
Ticks (Wake now) gots = Then (IsOf 0 (call_tick now)) IsNone gots
Ticks End gots = gots ≡ []

abbrev pub TicksAll : List Job → List Got → Type 0
TicksAll [] gots = gots ≡ []
TicksAll (job ∷ jobs) gots = (mine : List Got) × (rest : List Got) × (gots ≡ mine ++ rest) × Ticks job mine × TicksAll jobs rest

-- That each call was one to be made then, whether or not the work went on to its end.
use Rattle.std.specs.Prelude.{◌≡◌, ℕ, List, [], ◌∷◌, Some, Contains, ⊤}
use Rattle.mt_model.specs.declared.texts.recording.Event.{Event}
use Rattle.mt_model.specs.declared.texts.recording.Event.TheVariants as events
use Rattle.mt_layer.specs.mt_runs.Datagrams.{session_named}
use Rattle.mt_layer.specs.mt_shared.Call.{Call}
use Rattle.mt_worker.specs.Accounts.{Account, Accounts, account_behind, behind}
use Rattle.mt_worker.specs.Due.{call_again, call_heard, call_report, call_tick}
use Rattle.mt_worker.specs.Gots.{Each, Got}
use Rattle.mt_worker.specs.declared.seat.Subscription.{Subscription}

abbrev pub subscription_named : ℕ → ℕ → Subscription
subscription_named fabric id = record { fabric = fabric; id = id }

-- The call is made over this session, where this is its account: to a datagram that names it; in a resend step; in a report step to one of its
-- subscriptions.
abbrev pub Makes : ℕ → Account → Call → Event → Type 0
Makes session a call (events.Datagram now from bytes) = (session_named bytes ≡ Some session) × (call ≡ call_heard a now from bytes)
Makes session a call (events.Resend now id) = call ≡ call_again a now
Makes session a call (events.Report now fabric id) = Contains a.subscriptions (subscription_named fabric id) × (call ≡ call_report now (subscription_named fabric id))
Makes session a call event = ⊥

abbrev pub IsMade : Account → Got → Type 0
IsMade a got = Makes got.session a got.told.0.call got.told.0.call.event

-- each over its session, with the account that this then has
abbrev pub AreMade : Accounts → List Got → Type 0
AreMade accounts [] = ⊤
AreMade accounts (got ∷ gots) = IsMade (accounts got.session) got × AreMade (behind accounts got) gots

-- the same over one session
abbrev pub AreMadeOver : Account → List Got → Type 0
AreMadeOver a [] = ⊤
AreMadeOver a (got ∷ gots) = IsMade a got × AreMadeOver (account_behind a got.told) gots

-- each is a time step, of nobody
pub record IsTick (got : Got) : Type 0 where
  pub nobody : got.session ≡ 0
  pub now : ℕ
  pub call_is : got.told.0.call ≡ call_tick now

abbrev pub AreTicks : List Got → Type 0
AreTicks gots = Each IsTick gots

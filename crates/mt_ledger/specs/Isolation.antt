-- What of a ledger is a fabric's own, what is public, and the ledger that is built of both.
use Rattle.std.specs.Prelude.{ℕ, List, filter, slice_set}
use Rattle.mt_model.specs.declared.messages.message.Happened.{Happened}
use Rattle.mt_subs.specs.Subscriptions.{first_ids, is_of, next_id}
use Rattle.mt_subs.specs.declared.subscription.SubState.{SubState}
use Rattle.mt_subs.specs.declared.subscription.Subscription.{Subscription}
use Rattle.mt_ledger.specs.history.Isolation.{Recent, own_events, recent, seen_history}
use Rattle.mt_ledger.specs.Ledger.{Ledger}

-- the events that are private to it, its subscriptions, and the id of its next one
pub record OwnLedger : Type 0 where
  pub events : List Happened
  pub subs : List Subscription
  pub next : ℕ

abbrev pub own_ledger : ℕ → Ledger → OwnLedger
own_ledger fabric l = record { events = own_events fabric l.history; subs = filter (is_of fabric) l.subs.subscriptions; next = next_id fabric l.subs }

-- Public is what is public of events, and nothing of subscriptions: others have none, and their next ids are their first ones.

abbrev pub seen_subs : ℕ → List Subscription → ℕ → SubState
seen_subs fabric mine next = record { subscriptions = mine; next_ids = slice_set first_ids fabric next }

abbrev pub seen_ledger : ℕ → OwnLedger → Recent → Ledger
seen_ledger fabric o r = record { history = seen_history fabric o.events r; subs = seen_subs fabric o.subs o.next }

abbrev pub veiled_ledger : ℕ → Ledger → Ledger
veiled_ledger fabric l = seen_ledger fabric (own_ledger fabric l) (recent l.history)

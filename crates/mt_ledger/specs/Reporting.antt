-- What a report step tells a subscriber, where that is due.
use Rattle.std.specs.Prelude.{ℕ, ◌+◌, Bool, false, List, [], ◌++◌, Option, Some, None, map}
use Rattle.std.specs.List.{list_any}
use Rattle.mt_events.specs.Reading.{Asking, asking, is_told}
use Rattle.mt_events.specs.Telling.{events_for, told}
use Rattle.mt_model.specs.messages.Blocks.{path_of}
use Rattle.mt_model.specs.rows.Seen.{own_entries}
use Rattle.mt_model.specs.declared.messages.message.Item.{Item}
use Rattle.mt_model.specs.declared.messages.message.Reply.{Reply}
use Rattle.mt_model.specs.declared.messages.message.Reply.TheVariants as replies
use Rattle.mt_model.specs.declared.node.state.NodeState.{NodeState}
use Rattle.mt_model.specs.declared.rows.place.Place.{Place}
use Rattle.mt_model.specs.declared.tables.access.Actor.{Actor}
use Rattle.mt_subs.specs.Owed.{due_of}
use Rattle.mt_subs.specs.Subscriptions.{changed, kept_at, reported}
use Rattle.mt_subs.specs.declared.subscription.Kept.{Kept}
use Rattle.mt_subs.specs.declared.subscription.SubState.{SubState}
use Rattle.mt_ledger.specs.history.History.{History}
use Rattle.mt_ledger.specs.Ledger.{Ledger}
use Rattle.mt_ledger.specs.Subscribing.{at_once, attributes_for, last_told}

-- A subscription that is due, and the places that it is owed.
pub record Due : Type 0 where
  pub kept : Kept
  pub places : List Place

-- who subscribed, as an actor of the subscription's fabric
abbrev pub subscriber : ℕ → Kept → Actor
subscriber fabric kept = record kept.sub.actor { fabric = fabric }

-- the events behind the last that was told
abbrev pub unreported : NodeState → ℕ → Kept → Asking
unreported s fabric kept = asking s.entries (subscriber fabric kept) (kept.event + 1) kept.sub.events

abbrev pub has_unreported : NodeState → History → ℕ → Kept → Bool
has_unreported s h fabric kept = list_any (is_told (unreported s fabric kept)) (events_for fabric h.rings)

-- What is due now.

abbrev pub with_places : Kept → Option (List Place) → Option Due
with_places kept None = None
with_places kept (Some places) = Some (record { kept = kept; places = places })

abbrev pub due_kept : NodeState → History → ℕ → ℕ → Option Kept → Option Due
due_kept s h now fabric None = None
due_kept s h now fabric (Some kept) = with_places kept (due_of (own_entries fabric s.entries) (Some kept) now s.changes (has_unreported s h fabric kept))

abbrev pub due_now : NodeState → Ledger → ℕ → ℕ → ℕ → Option Due
due_now s l now fabric id = due_kept s l.history now fabric (kept_at fabric id l.subs)

-- What it is told: the places that are owed, and the events that fit.

abbrev pub due_events : NodeState → History → ℕ → Kept → List Item
due_events s h fabric kept = told (unreported s fabric kept) h.rings

abbrev pub due_items : NodeState → History → ℕ → Due → List Item
due_items s h fabric due = attributes_for s (subscriber fabric due.kept) (map path_of due.places) due.kept.sub.filtered [] ++ due_events s h fabric due.kept

abbrev pub due_report : NodeState → History → ℕ → ℕ → Due → Reply
due_report s h fabric id due = replies.Report (Some id) (due_items s h fabric due) false

-- The subscriptions behind it: this is what that one was told last. An event that did not fit is owed still.

abbrev pub told_now : NodeState → History → ℕ → ℕ → Due → Kept → Kept
told_now s h now fabric due kept = at_once due.kept.sub.actor (reported now s.changed (last_told due.kept.event (due_events s h fabric due.kept)) kept)

abbrev pub behind_report : NodeState → Ledger → ℕ → ℕ → ℕ → Option Due → SubState
behind_report s l now fabric id None = l.subs
behind_report s l now fabric id (Some due) = changed fabric id (told_now s l.history now fabric due) l.subs

-- What a subscriber of a fabric is told is the same on the veil: it is made of what the fabric observes, of its own entries, of its own
-- events, and of those that all may see.
use Rattle.std.proofs.Common.{◌≡◌, ℕ, ◌+◌, ◌-◌, ◌++◌, Bool, false, List, [], Option, Some, None, filter, map, unwrap_or, option_map, refl, ap, ◌∙◌}
use Rattle.std.specs.List.{list_any}
use Rattle.mt_events.specs.Reading.{Asking, is_told, refusals}
use Rattle.mt_events.specs.Rings.{ring_of}
use Rattle.mt_events.specs.Telling.{bytes_of, fitting, merged}
use Rattle.mt_model.specs.messages.Blocks.{path_of}
use Rattle.mt_model.specs.rows.Seen.{own_entries}
use Rattle.mt_model.specs.declared.messages.message.Happened.{Happened}
use Rattle.mt_model.specs.declared.messages.message.Item.{Item}
use Rattle.mt_model.specs.declared.messages.message.Path.{Path}
use Rattle.mt_model.specs.declared.messages.message.Reply.TheVariants as replies
use Rattle.mt_model.specs.declared.node.state.NodeState.{NodeState}
use Rattle.mt_model.specs.declared.node.state.Version.{Version}
use Rattle.mt_model.specs.declared.tables.access.AclEntry.{AclEntry}
use Rattle.mt_model.specs.declared.tables.access.Actor.{Actor}
use Rattle.mt_read.specs.Reading.{read_answer}
use Rattle.mt_subs.specs.Owed.{due_of}
use Rattle.mt_subs.specs.Subscriptions.{kept_at}
use Rattle.mt_subs.specs.declared.subscription.Kept.{Kept}
use Rattle.mt_subs.specs.declared.subscription.Subscription.{Subscription}
use Rattle.mt_machine.specs.Isolation.{Own, veil}
use Rattle.mt_machine.specs.Laws as laws
use Rattle.mt_machine.specs.State.{IsValid}
use Rattle.mt_ledger.specs.history.History.{History, IsHistory}
use Rattle.mt_ledger.specs.history.Isolation.{Recent, veiled_history}
use Rattle.mt_ledger.specs.history.Laws as histories
use Rattle.mt_ledger.specs.Isolation.{veiled_ledger}
use Rattle.mt_ledger.specs.Ledger.{Ledger}
use Rattle.mt_ledger.specs.Reporting.{Due, due_events, due_kept, due_now, due_report, has_unreported, subscriber, with_places}
use Rattle.mt_ledger.specs.Subscribing.{Wish, attributes_for, first_events, first_items}
use Rattle.mt_ledger.proofs.Alike.{kept_of_own}

-- what is answered, and what is told, of these lists
abbrev answered_of : Asking → List Happened → List Happened → List Item
answered_of asking shared mine = refusals asking ++ fitting (1176 - bytes_of (refusals asking)) (filter (is_told asking) (merged shared mine))

abbrev told_of : Asking → List Happened → List Happened → List Item
told_of asking shared mine = fitting 1176 (filter (is_told asking) (merged shared mine))

abbrev any_of : Asking → List Happened → List Happened → Bool
any_of asking shared mine = list_any (is_told asking) (merged shared mine)

abbrev with_entries : List AclEntry → Actor → ℕ → List Path → Asking
with_entries entries actor minimum paths = record { entries = entries; actor = actor; minimum = minimum; paths = paths }

-- a subscription is there on the veil as it is
pub found_same : (fabric id : ℕ) (l : Ledger) → kept_at fabric id (veiled_ledger fabric l).subs ≡ kept_at fabric id l.subs
found_same fabric id l = ap (λ (found : Option Subscription). option_map (λ (x : Subscription). x.kept) found) (kept_of_own fabric id l.subs.subscriptions)

module _ (sees : laws.SeesTheVeil) (keeps_own : laws.KeepsItsOwnPart) (keeps_events : histories.KeepsItsEvents) (keeps_recent : histories.KeepsRecentEvents) (s : NodeState) (h : History) (valid : IsValid s) (is : IsHistory h) where
  entries_same : (fabric : ℕ) → own_entries fabric (veil fabric s).entries ≡ own_entries fabric s.entries
  entries_same fabric = ap (λ (o : Own). o.entries) (keeps_own fabric s valid)

  shared_same : (fabric : ℕ) → ring_of 0 (veiled_history fabric h).rings ≡ ring_of 0 h.rings
  shared_same fabric = ap (λ (r : Recent). r.shared) (keeps_recent fabric h)

  attributes_same : (actor : Actor) (paths : List Path) (filtered : Bool) (versions : List Version) → attributes_for (veil actor.fabric s) actor paths filtered versions ≡ attributes_for s actor paths filtered versions
  attributes_same actor paths filtered versions = λ i. unwrap_or (read_answer (sees actor.fabric s valid i).seen actor paths filtered versions) []

  -- the first report
  pub first_events_same : (wish : Wish) → first_events (veil wish.sub.actor.fabric s) (veiled_history wish.sub.actor.fabric h) wish ≡ first_events s h wish
  first_events_same wish =
      let fabric = wish.sub.actor.fabric in
      λ i. answered_of (with_entries (entries_same fabric i) wish.sub.actor wish.minimum wish.sub.events) (shared_same fabric i) (keeps_events fabric h is i)

  pub first_items_same : (wish : Wish) → first_items (veil wish.sub.actor.fabric s) (veiled_history wish.sub.actor.fabric h) wish ≡ first_items s h wish
  first_items_same wish = λ i. attributes_same wish.sub.actor wish.sub.paths wish.sub.filtered wish.versions i ++ first_events_same wish i

  -- later ones
  pub due_events_same : (fabric : ℕ) (kept : Kept) → due_events (veil fabric s) (veiled_history fabric h) fabric kept ≡ due_events s h fabric kept
  due_events_same fabric kept = λ i. told_of (with_entries (entries_same fabric i) (subscriber fabric kept) (kept.event + 1) kept.sub.events) (shared_same fabric i) (keeps_events fabric h is i)

  unreported_same : (fabric : ℕ) (kept : Kept) → has_unreported (veil fabric s) (veiled_history fabric h) fabric kept ≡ has_unreported s h fabric kept
  unreported_same fabric kept = λ i. any_of (with_entries (entries_same fabric i) (subscriber fabric kept) (kept.event + 1) kept.sub.events) (shared_same fabric i) (keeps_events fabric h is i)

  due_kept_same : (fabric now : ℕ) (kept : Option Kept) → due_kept (veil fabric s) (veiled_history fabric h) now fabric kept ≡ due_kept s h now fabric kept
  due_kept_same fabric now None = refl
  due_kept_same fabric now (Some kept) = λ i. with_places kept (due_of (entries_same fabric i) (Some kept) now s.changes (unreported_same fabric kept i))

  pub report_same : (fabric id : ℕ) (due : Due) → due_report (veil fabric s) (veiled_history fabric h) fabric id due ≡ due_report s h fabric id due
  report_same fabric id due =
      λ i. replies.Report (Some id) (attributes_same (subscriber fabric due.kept) (map path_of due.places) due.kept.sub.filtered [] i ++ due_events_same fabric due.kept i) false

-- a subscription is due on the veil where it is
pub due_same : laws.SeesTheVeil → laws.KeepsItsOwnPart → histories.KeepsItsEvents → histories.KeepsRecentEvents → (fabric id now : ℕ) (s : NodeState) (l : Ledger) → IsValid s → IsHistory l.history
    → due_now (veil fabric s) (veiled_ledger fabric l) now fabric id ≡ due_now s l now fabric id
due_same sees keeps_own keeps_events keeps_recent fabric id now s l valid is =
    ap (λ (kept : Option Kept). due_kept (veil fabric s) (veiled_history fabric l.history) now fabric kept) (found_same fabric id l)
    ∙ due_kept_same sees keeps_own keeps_events keeps_recent s l.history valid is fabric now (kept_at fabric id l.subs)

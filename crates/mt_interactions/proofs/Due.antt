-- What a wish, and a report that is due, make of the subscriptions.
use Rattle.std.proofs.Common.{◌≡◌, ℕ, ◌-◌, Bool, true, false, List, [], Option, Some, None, refl, ap, sym, ◌∙◌, is_none, is_some, not, if◌then◌else◌}
use Rattle.mt_model.specs.declared.node.state.NodeState.{NodeState}
use Rattle.mt_model.specs.declared.node.state.ChangeNumber.{ChangeNumber}
use Rattle.mt_model.specs.declared.rows.place.Place.{Place}
use Rattle.mt_model.specs.rows.Seen.{own_entries}
use Rattle.mt_model.specs.declared.messages.message.Payload.{Payload}
use Rattle.mt_model.specs.declared.messages.message.Reply.{Reply}
use Rattle.mt_model.specs.declared.texts.recording.Sent.{Sent}
use Rattle.mt_im_out.specs.Chunks.{chunks_of}
use Rattle.mt_node.specs.mt_machine.Lines.{sent_as}
use Rattle.mt_runs.specs.mt_ledger.History.{History}
use Rattle.mt_runs.specs.mt_ledger.Behind.{reports, subs_done}
use Rattle.mt_runs.specs.mt_ledger.Ledger.{Ledger}
use Rattle.mt_runs.specs.mt_ledger.Reporting.{Due, behind_report, due_events, due_kept, due_now, due_report, has_unreported, with_places}
use Rattle.mt_runs.specs.mt_ledger.Subscribing.{Wish, at_once, behind_wish, first_events, has_no_room, is_malformed, last_told, left_by, subscribed}
use Rattle.mt_subs.specs.Leaving.{without_node}
use Rattle.mt_subs.specs.Subscriptions.{added, changed, is_full, kept_at, next_id, reported}
use Rattle.mt_subs.specs.Owed.{due_of}
use Rattle.mt_subs.specs.declared.subscription.Kept.{Kept}
use Rattle.mt_subs.specs.declared.subscription.SubState.{SubState}
use Rattle.mt_interactions.specs.Deeds.{reply_due}
use Rattle.mt_interactions.specs.Reporting.{payloads_if_session, reported_over, sent_if_plain, sent_plainly, session_due}
use Rattle.mt_interactions.specs.Subscribing.{confirmed_if, told_at}
use Rattle.mt_interactions.proofs.Subscribed.{confirms_at_once}

-- Those that stay leave the ids that were given.
same_ids : (keeps : Bool) (fabric node : ℕ) (subs : SubState) → next_id fabric (if keeps then subs else without_node fabric node subs) ≡ next_id fabric subs
same_ids true fabric node subs = refl
same_ids false fabric node subs = refl

-- One more subscription, where there is room.
has_room : (s : NodeState) (l : Ledger) (now : ℕ) (wish : Wish) → is_malformed wish.sub ≡ false → has_no_room wish l.subs ≡ false → behind_wish s l now wish ≡ subscribed s l now wish
has_room s l now wish sound room =
    ap (λ (b : Bool). if b then l.subs else if has_no_room wish l.subs then left_by wish l.subs else subscribed s l now wish) sound
    ∙ ap (λ (b : Bool). if b then left_by wish l.subs else subscribed s l now wish) room

pub subscribes : (s : NodeState) (l : Ledger) (now : ℕ) (wish : Wish) (subs : SubState) (id change event : ℕ) → is_malformed wish.sub ≡ false → subs ≡ left_by wish l.subs → is_full wish.sub.actor.fabric subs ≡ false
    → id ≡ next_id wish.sub.actor.fabric subs → change ≡ s.changed → event ≡ last_told (wish.minimum - 1) (first_events s l.history wish)
    → confirmed_if (is_none wish.sub.actor.session) wish.sub.actor.fabric id (changed wish.sub.actor.fabric id (reported now change event) (added wish.sub.actor.fabric wish.sub subs)) ≡ behind_wish s l now wish
subscribes s l now wish subs id change event sound left room given to up =
    let fabric : ℕ = wish.sub.actor.fabric in
    let its : id ≡ next_id fabric l.subs = given ∙ ap (next_id fabric) left ∙ same_ids wish.keeps fabric wish.sub.actor.node l.subs in
    confirms_at_once fabric id wish.sub.actor (reported now change event) (added fabric wish.sub subs)
    ∙ (λ i. changed fabric (its i) (λ (kept : Kept). at_once wish.sub.actor (reported now (to i) (up i) kept)) (added fabric wish.sub (left i)))
    ∙ sym (has_room s l now wish sound (ap (is_full fabric) (sym left) ∙ room))

-- Whether there is no session, as the code tests it.
pub none_is : (is : Bool) (session : Option ℕ) → is_some session ≡ not is → is ≡ is_none session
none_is true None says = refl
none_is true (Some id) says = absurd (cc)
none_is false None says = absurd (cc)
none_is false (Some id) says = refl

-- What is due now, as the code asks for it.
pub is_due_now : (s : NodeState) (l : Ledger) (now fabric id : ℕ) (kept : Kept) (changes : List ChangeNumber) (some : Bool) (places : Option (List Place)) → Some kept ≡ kept_at fabric id l.subs → changes ≡ s.changes → some ≡ has_unreported s l.history fabric kept
    → places ≡ due_of (own_entries fabric s.entries) (kept_at fabric id l.subs) now changes some → with_places kept places ≡ due_now s l now fabric id
is_due_now s l now fabric id kept changes some places at to tells exact =
    ap (with_places kept) (exact ∙ (λ i. due_of (own_entries fabric s.entries) (sym at i) now (to i) (tells i)))
    ∙ ap (due_kept s l.history now fabric) at

-- One was reported to.
pub reports_due : (s : NodeState) (l : Ledger) (now fabric id : ℕ) (due : Due) (change event : ℕ) (none : Bool) → due_now s l now fabric id ≡ Some due → change ≡ s.changed → event ≡ last_told due.kept.event (due_events s l.history fabric due.kept)
    → none ≡ is_none due.kept.sub.actor.session → told_at fabric id change event none now l.subs ≡ subs_done s l now (reports fabric id)
reports_due s l now fabric id due change event none is to up interactions =
    ap (λ (b : Bool). told_at fabric id change event b now l.subs) interactions
    ∙ confirms_at_once fabric id due.kept.sub.actor (reported now change event) l.subs
    ∙ (λ i. changed fabric id (λ (kept : Kept). at_once due.kept.sub.actor (reported now (to i) (up i) kept)) l.subs)
    ∙ sym (ap (behind_report s l now fabric id) is)

-- What a report step sends, by over which session it tells.

pub over_session : (s : NodeState) (h : History) (fabric id : ℕ) (due : Option Due) (session : ℕ) (report : Reply) (payloads : List Payload) → report ≡ reply_due s h fabric id due → Some session ≡ session_due due → payloads ≡ chunks_of report
    → Some (session, payloads) ≡ reported_over s h fabric id due
over_session s h fabric id None session report payloads is over cut = absurd (cc)
over_session s h fabric id (Some due) session report payloads is over cut = (λ i. Some (session, (cut ∙ ap chunks_of is) i)) ∙ ap (payloads_if_session (due_report s h fabric id due)) over

pub not_plainly : (s : NodeState) (h : History) (ms fabric id : ℕ) (due : Option Due) (session : ℕ) → Some session ≡ session_due due → [] ≡ sent_plainly s h ms fabric id due
not_plainly s h ms fabric id None session over = refl
not_plainly s h ms fabric id (Some due) session over = ap (sent_if_plain ms fabric (due_report s h fabric id due)) over

pub over_none : (s : NodeState) (h : History) (fabric id : ℕ) (due : Option Due) → None ≡ session_due due → None ≡ reported_over s h fabric id due
over_none s h fabric id None over = refl
over_none s h fabric id (Some due) over = ap (payloads_if_session (due_report s h fabric id due)) over

pub plainly : (s : NodeState) (h : History) (ms fabric id : ℕ) (due : Option Due) (report : Reply) (messages : List Sent) → report ≡ reply_due s h fabric id due → None ≡ session_due due → messages ≡ sent_as ms fabric report
    → messages ≡ sent_plainly s h ms fabric id due
plainly s h ms fabric id None report messages is over sends = sends ∙ ap (sent_as ms fabric) is
plainly s h ms fabric id (Some due) report messages is over sends = sends ∙ ap (sent_as ms fabric) is ∙ ap (sent_if_plain ms fabric (due_report s h fabric id due)) over

-- What is due is told over a session that is live.
use Rattle.std.proofs.Common.{◌≡◌, ℕ, ◌==◌, ◌&&◌, ◌||◌, inl, inr, Bool, true, false, List, [], ◌∷◌, Option, Some, None, refl, sym, ap, subst, ◌∙◌, is_some, if◌then◌else◌}
use Rattle.std.proofs.lemmas.Bool.{and_parts, cases_Bool}
use Rattle.std.specs.List.{find, list_all, list_any}
use Rattle.std.specs.Option.{option_and_then, option_map}
use Rattle.mt_model.specs.rows.Seen.{own_entries}
use Rattle.mt_model.specs.texts.Config.{none_alike}
use Rattle.mt_model.specs.declared.node.state.NodeSession.{NodeSession}
use Rattle.mt_model.specs.declared.node.state.NodeState.{NodeState}
use Rattle.mt_model.specs.declared.node.state.Standing.{Standing}
use Rattle.mt_model.specs.declared.node.state.Standing.TheVariants.{Waits, Live, Ended}
use Rattle.mt_model.specs.declared.rows.place.Place.{Place}
use Rattle.mt_subs.specs.Leaving.{is_live_as, is_live_over, is_there, stands_in}
use Rattle.mt_subs.specs.Owed.{due_of}
use Rattle.mt_subs.specs.Subscriptions.{is_named as is_subscription, kept_at}
use Rattle.mt_subs.specs.declared.subscription.Kept.{Kept}
use Rattle.mt_subs.specs.declared.subscription.Subscription.{Subscription}
use Rattle.mt_shared.specs.mt_machine.Step.{live_actor}
use Rattle.mt_shared.specs.mt_ledger.History.{History}
use Rattle.mt_shared.specs.mt_ledger.Ledger.{IsLedger, Ledger}
use Rattle.mt_shared.specs.mt_ledger.Reporting.{Due, due_kept, due_now, has_unreported, with_places}
use Rattle.mt_shared.specs.mt_runs.Isolation.{have_one_id}
use Rattle.mt_shared.specs.mt_runs.Whole.{is_live}
use Rattle.mt_layer.proofs.Ending.{is_named, none_behind, rest_differ}

contradiction : {A : Type 0} → false ≡ true → A
contradiction is = absurd (cc)

-- A session that is live for a fabric is live.

abbrev live_in : Option NodeSession → Bool
live_in found = is_some (option_and_then (λ (session : NodeSession). live_actor session session.standing) found)

live_for : (fabric : ℕ) (session : NodeSession) (standing : Standing) → is_live_as fabric standing ≡ true → is_some (live_actor session standing) ≡ true
live_for fabric session Waits live = contradiction live
live_for fabric session (Live other) live = refl
live_for fabric session Ended live = contradiction live

-- none is where none has the id
none_over : (fabric id : ℕ) (sessions : List NodeSession) → list_any (is_named id) sessions ≡ false → list_any (is_live_over fabric id) sessions ≡ true → ⊥
none_over fabric id [] none there = contradiction there
none_over fabric id (session ∷ sessions) none there = elim (cases_Bool (session.session == id)) [
  | inl its ↦ contradiction (sym (subst (λ (b : Bool). (b || list_any (is_named id) sessions) ≡ false) its none))
  | inr other ↦
      none_over fabric id sessions (subst (λ (b : Bool). (b || list_any (is_named id) sessions) ≡ false) other none)
      (subst (λ (b : Bool). ((b && is_live_as fabric session.standing) || list_any (is_live_over fabric id) sessions) ≡ true) other there)
]

found_live : (fabric id : ℕ) (sessions : List NodeSession) → none_alike have_one_id sessions ≡ true → list_any (is_live_over fabric id) sessions ≡ true → live_in (find (is_named id) sessions) ≡ true
found_live fabric id [] apart there = contradiction there
found_live fabric id (session ∷ sessions) apart there = elim (cases_Bool (session.session == id)) [
  | inl its ↦ rw its (by_test its (is_live_as fabric session.standing) refl)
  | inr other ↦
      rw other (found_live fabric id sessions (rest_differ session sessions apart)
      (subst (λ (b : Bool). ((b && is_live_as fabric session.standing) || list_any (is_live_over fabric id) sessions) ≡ true) other there))
]
  where
    by_test : (session.session == id) ≡ true → (live : Bool) → is_live_as fabric session.standing ≡ live → is_some (live_actor session session.standing) ≡ true
    by_test its true live = live_for fabric session session.standing live
    by_test its false off = absurd (none_over fabric id sessions (none_behind id session sessions apart its)
        (subst (λ (b : Bool). ((true && b) || list_any (is_live_over fabric id) sessions) ≡ true) off (subst (λ (b : Bool). ((b && is_live_as fabric session.standing) || list_any (is_live_over fabric id) sessions) ≡ true) its there)))

-- A subscription of a list of those that stand stands itself.

some_same : {A : Type 0} (a b : A) → Some a ≡ Some b → a ≡ b
some_same a b is = cc

not_none : {A : Type 0} (a : A) → None ≡ Some a → ⊥
not_none a is = absurd (cc)

found_stands : (s : NodeState) (fabric id : ℕ) (kept : Kept) (xs : List Subscription) → list_all (stands_in s) xs ≡ true → option_map (λ (x : Subscription). x.kept) (find (is_subscription fabric id) xs) ≡ Some kept
    → (x : Subscription) × (x.kept ≡ kept) × (stands_in s x ≡ true)
found_stands s fabric id kept [] stand found = absurd (not_none kept found)
found_stands s fabric id kept (x ∷ xs) stand found =
    let both = and_parts (stands_in s x) (list_all (stands_in s) xs) stand in
    elim (cases_Bool (is_subscription fabric id x)) [
      | inl its ↦ (x, some_same x.kept kept (subst (λ (b : Bool). option_map (λ (y : Subscription). y.kept) (if b then Some x else find (is_subscription fabric id) xs) ≡ Some kept) its found), both.0)
      | inr other ↦ found_stands s fabric id kept xs both.1 (subst (λ (b : Bool). option_map (λ (y : Subscription). y.kept) (if b then Some x else find (is_subscription fabric id) xs) ≡ Some kept) other found)
    ]

-- What is due is of a subscription that is there.

places_kept : (kept : Kept) (places : Option (List Place)) (due : Due) → with_places kept places ≡ Some due → kept ≡ due.kept
places_kept kept None due is = absurd (not_none due is)
places_kept kept (Some places) due is = ap (λ (d : Due). d.kept) (some_same (record { kept = kept; places = places }) due is)

due_is_kept : (s : NodeState) (h : History) (now fabric : ℕ) (found : Option Kept) (due : Due) → due_kept s h now fabric found ≡ Some due → found ≡ Some due.kept
due_is_kept s h now fabric None due is = absurd (not_none due is)
due_is_kept s h now fabric (Some kept) due is =
    ap (λ (k : Kept). Some k) (places_kept kept (due_of (own_entries fabric s.entries) (Some kept) now s.changes (has_unreported s h fabric kept)) due is)

pub due_there : (s : NodeState) (l : Ledger) (now fabric id : ℕ) (due : Due) → due_now s l now fabric id ≡ Some due → kept_at fabric id l.subs ≡ Some due.kept
due_there s l now fabric id due is = due_is_kept s l.history now fabric (kept_at fabric id l.subs) due is

pub due_live : (s : NodeState) (l : Ledger) → IsLedger s l → none_alike have_one_id s.sessions ≡ true → (now fabric id : ℕ) (due : Due) → due_now s l now fabric id ≡ Some due → (session : ℕ) → due.kept.sub.actor.session ≡ Some session → is_live s session ≡ true
due_live s l is apart now fabric id due now_due session over =
    let found = found_stands s fabric id due.kept l.subs.subscriptions is.there (due_there s l now fabric id due now_due) in
    let x : Subscription = found.0 in
    let its : x.kept.sub.actor.session ≡ Some session = ap (λ (k : Kept). k.sub.actor.session) found.1 ∙ over in
    found_live x.fabric session s.sessions apart (subst (λ (o : Option ℕ). is_there s x.fabric x.kept.sub.actor.auth o ≡ true) its found.2)

-- Over which session a subscriber is told: one that is live for the fabric of the subscription.
use Rattle.std.proofs.Common.{◌≡◌, ℕ, ◌==◌, ◌||◌, inl, inr, Bool, true, false, List, [], ◌∷◌, Option, Some, None, refl, sym, ap, subst, ◌∙◌, filter, is_some, unwrap_or, if◌then◌else◌}
use Rattle.std.proofs.lemmas.Bool.{and_parts, cases_Bool, eqb-true}
use Rattle.std.specs.List.{find, list_all, list_any}
use Rattle.std.specs.Option.{option_map}
use Rattle.mt_model.specs.rows.Seen.{own_entries}
use Rattle.mt_model.specs.declared.node.state.NodeSession.{NodeSession}
use Rattle.mt_model.specs.declared.node.state.NodeState.{NodeState}
use Rattle.mt_model.specs.declared.rows.place.Place.{Place}
use Rattle.mt_model.specs.declared.tables.access.Actor.{Actor}
use Rattle.mt_model.specs.texts.Config.{none_alike}
use Rattle.mt_subs.specs.Leaving.{is_live_as, is_live_over, is_there, stands_in}
use Rattle.mt_subs.specs.Owed.{due_of}
use Rattle.mt_subs.specs.Subscriptions.{is_named as is_subscription, kept_at}
use Rattle.mt_subs.specs.declared.subscription.Kept.{Kept}
use Rattle.mt_subs.specs.declared.subscription.Subscription.{Subscription}
use Rattle.mt_machine.specs.Isolation.{own}
use Rattle.mt_machine.specs.Step.{session_actor}
use Rattle.mt_ledger.specs.history.History.{History}
use Rattle.mt_ledger.specs.Ledger.{IsLedger, Ledger}
use Rattle.mt_ledger.specs.Reporting.{Due, due_kept, due_now, has_unreported, with_places}
use Rattle.mt_runs.specs.Isolation.{IsValidWhole, have_one_id}
use Rattle.mt_runs.specs.Whole.{Whole, fabric_over, is_live}
use Rattle.mt_runs.proofs.Ids.{is_named}
use Rattle.mt_runs.proofs.Sessions.{is_its, is_mine, own_named}

contradiction : true ≡ false → ⊥
contradiction is = absurd (cc)

-- A session that is live for a fabric is among its own.

or_with_first : (a b : Bool) → a ≡ true → (a || b) ≡ true
or_with_first true b is = refl
or_with_first false b is = absurd (contradiction (sym is))

or_with_second : (a b : Bool) → b ≡ true → (a || b) ≡ true
or_with_second true b is = refl
or_with_second false b is = is

live_among : (fabric id : ℕ) (sessions : List NodeSession) → list_any (is_live_over fabric id) sessions ≡ true → list_any (is_named id) (filter (is_mine fabric) sessions) ≡ true
live_among fabric id [] there = there
live_among fabric id (session ∷ sessions) there = elim (cases_Bool (is_live_over fabric id session)) [
  | inl its ↦
      let both = and_parts (session.session == id) (is_live_as fabric session.standing) its in
      let mine : is_mine fabric session ≡ true = both.1 in
      rw mine (or_with_first (is_named id session) (list_any (is_named id) (filter (is_mine fabric) sessions)) both.0)
  | inr other ↦
      let rest = live_among fabric id sessions (subst (λ (b : Bool). (b || list_any (is_live_over fabric id) sessions) ≡ true) other there) in
      elim (cases_Bool (is_mine fabric session)) [
        | inl mine ↦ rw mine (or_with_second (is_named id session) (list_any (is_named id) (filter (is_mine fabric) sessions)) rest)
        | inr gone ↦ rw gone rest
      ]
]

-- A subscription of a list of those that stand stands itself.

kept_in : Kept → Option Kept → Kept
kept_in kept None = kept
kept_in kept (Some other) = other

same_kept : (a b : Kept) → Some a ≡ Some b → a ≡ b
unfolding kept_in
same_kept a b same = ap (kept_in a) same

no_kept : (kept : Kept) → None ≡ Some kept → ⊥
no_kept kept same = absurd (cc)

found_stands : (s : NodeState) (fabric id : ℕ) (kept : Kept) (xs : List Subscription) → list_all (stands_in s) xs ≡ true → option_map (λ (x : Subscription). x.kept) (find (is_subscription fabric id) xs) ≡ Some kept
    → is_there s fabric kept.sub.actor.auth kept.sub.actor.session ≡ true
found_stands s fabric id kept [] stand found = absurd (no_kept kept found)
found_stands s fabric id kept (x ∷ xs) stand found = elim (cases_Bool (is_subscription fabric id x)) [
  | inl its ↦
      let named = and_parts (x.fabric == fabric) (x.id == id) its in
      let here = and_parts (stands_in s x) (list_all (stands_in s) xs) stand in
      let same : x.kept ≡ kept = same_kept x.kept kept (subst (λ (b : Bool). option_map (λ (y : Subscription). y.kept) (if b then Some x else find (is_subscription fabric id) xs) ≡ Some kept) its found) in
      subst (λ (k : Kept). is_there s fabric k.sub.actor.auth k.sub.actor.session ≡ true) same
      (subst (λ (f : ℕ). is_there s f x.kept.sub.actor.auth x.kept.sub.actor.session ≡ true) (eqb-true x.fabric fabric named.0) here.0)
  | inr other ↦
      found_stands s fabric id kept xs (and_parts (stands_in s x) (list_all (stands_in s) xs) stand).1
      (subst (λ (b : Bool). option_map (λ (y : Subscription). y.kept) (if b then Some x else find (is_subscription fabric id) xs) ≡ Some kept) other found)
]

-- What is due is of a subscription that is there.

kept_of : Due → Option Due → Kept
kept_of due None = due.kept
kept_of due (Some other) = other.kept

same_due : (a b : Due) → Some a ≡ Some b → a.kept ≡ b.kept
unfolding kept_of
same_due a b same = ap (kept_of a) same

no_due : (due : Due) → None ≡ Some due → ⊥
no_due due same = absurd (cc)

with_places_kept : (kept : Kept) (places : Option (List Place)) (due : Due) → with_places kept places ≡ Some due → kept ≡ due.kept
with_places_kept kept None due is = absurd (no_due due is)
with_places_kept kept (Some places) due is = same_due (record { kept = kept; places = places }) due is

due_is_kept : (s : NodeState) (h : History) (now fabric : ℕ) (found : Option Kept) (due : Due) → due_kept s h now fabric found ≡ Some due → found ≡ Some due.kept
due_is_kept s h now fabric None due is = absurd (no_due due is)
due_is_kept s h now fabric (Some kept) due is =
    ap (λ (k : Kept). Some k) (with_places_kept kept (due_of (own_entries fabric s.entries) (Some kept) now s.changes (has_unreported s h fabric kept)) due is)

-- THE SESSION of a subscriber to which something is due is one of the fabric's own.
pub subscriber_among : (s : NodeState) (l : Ledger) → IsLedger s l → (now fabric id : ℕ) (due : Due) → due_now s l now fabric id ≡ Some due → (session : ℕ) → due.kept.sub.actor.session ≡ Some session
    → list_any (is_named session) (own fabric s).sessions ≡ true
subscriber_among s l is now fabric id due now_due session over =
    let kept : kept_at fabric id l.subs ≡ Some due.kept = due_is_kept s l.history now fabric (kept_at fabric id l.subs) due now_due in
    let stands : is_there s fabric due.kept.sub.actor.auth due.kept.sub.actor.session ≡ true = found_stands s fabric id due.kept l.subs.subscriptions is.there kept in
    live_among fabric session s.sessions (subst (λ (o : Option ℕ). is_there s fabric due.kept.sub.actor.auth o ≡ true) over stands)

-- It is live.

its_live : (fabric : ℕ) (found : Option Actor) → is_its fabric found ≡ true → is_some found ≡ true
its_live fabric None its = its
its_live fabric (Some a) its = refl

-- Such a session is live for that fabric.

its_fabric : (fabric : ℕ) (found : Option Actor) → is_its fabric found ≡ true → unwrap_or (option_map (λ (actor : Actor). actor.fabric) found) 0 ≡ fabric
its_fabric fabric None its = absurd (contradiction (sym its))
its_fabric fabric (Some a) its = eqb-true a.fabric fabric its

pub own_over : (w : Whole) → IsValidWhole w → (fabric id : ℕ) → list_any (is_named id) (own fabric w.state.node).sessions ≡ true → fabric_over w.state.node id ≡ fabric
own_over w valid fabric id there = its_fabric fabric (session_actor w.state.node id) (sym (own_named fabric w.state.node id valid.sessions_differ) ∙ there)

pub subscriber_live : (s : NodeState) (l : Ledger) → IsLedger s l → none_alike have_one_id s.sessions ≡ true → (now fabric id : ℕ) (due : Due) → due_now s l now fabric id ≡ Some due → (session : ℕ) → due.kept.sub.actor.session ≡ Some session
    → is_live s session ≡ true
subscriber_live s l is apart now fabric id due now_due session over =
    its_live fabric (session_actor s session) (sym (own_named fabric s session apart) ∙ subscriber_among s l is now fabric id due now_due session over)

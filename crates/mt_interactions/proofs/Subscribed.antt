-- The last event among items, one item after the other, and two changes of one subscription.
use Rattle.std.proofs.Common.{◌≡◌, ℕ, List, [], ◌∷◌, Option, Some, None, refl, ap, map, inl, inr, is_none}
use Rattle.std.proofs.lemmas.Bool.{cases_Bool}
use Rattle.mt_model.specs.declared.messages.message.Item.{Item}
use Rattle.mt_model.specs.declared.messages.message.Item.TheVariants as items
use Rattle.mt_model.specs.declared.tables.access.Actor.{Actor}
use Rattle.mt_runs.specs.mt_ledger.Subscribing.{at_once, last_told}
use Rattle.mt_subs.specs.Subscriptions.{changed, changed_at, confirmed, is_named}
use Rattle.mt_subs.specs.declared.subscription.Kept.{Kept}
use Rattle.mt_subs.specs.declared.subscription.SubState.{SubState}
use Rattle.mt_subs.specs.declared.subscription.Subscription.{Subscription}
use Rattle.mt_interactions.specs.Subscribing.{confirmed_if}

-- Two changes of the same subscription are one.

both_at : (fabric id : ℕ) (first second : Kept → Kept) (x : Subscription) → changed_at fabric id second (changed_at fabric id first x) ≡ changed_at fabric id (λ (kept : Kept). second (first kept)) x
both_at fabric id first second x = elim (cases_Bool (is_named fabric id x)) [
  | inl its ↦ rw (its, its) refl
  | inr other ↦ rw (other, other) refl
]

both_all : (fabric id : ℕ) (first second : Kept → Kept) (xs : List Subscription) → map (changed_at fabric id second) (map (changed_at fabric id first) xs) ≡ map (changed_at fabric id (λ (kept : Kept). second (first kept))) xs
both_all fabric id first second [] = refl
both_all fabric id first second (x ∷ xs) = λ i. both_at fabric id first second x i ∷ both_all fabric id first second xs i

pub changed_twice : (fabric id : ℕ) (first second : Kept → Kept) (subs : SubState) → changed fabric id second (changed fabric id first subs) ≡ changed fabric id (λ (kept : Kept). second (first kept)) subs
changed_twice fabric id first second subs = ap (λ (xs : List Subscription). record subs { subscriptions = xs }) (both_all fabric id first second subs.subscriptions)

-- A plain actor confirms at once.
pub confirms_at_once : (fabric id : ℕ) (actor : Actor) (change : Kept → Kept) (subs : SubState) → confirmed_if (is_none actor.session) fabric id (changed fabric id change subs) ≡ changed fabric id (λ (kept : Kept). at_once actor (change kept)) subs
confirms_at_once fabric id actor change subs = by_session actor.session
  where
    by_session : (session : Option ℕ) → confirmed_if (is_none session) fabric id (changed fabric id change subs) ≡ changed fabric id (λ (kept : Kept). at_once (record actor { session = session }) (change kept)) subs
    by_session None = changed_twice fabric id change confirmed subs
    by_session (Some s) = refl

-- One item after the other.
pub told_step : (number : ℕ) (item : Item) (rest : List Item) → last_told (last_told number (item ∷ [])) rest ≡ last_told number (item ∷ rest)
told_step number (items.Event e) rest = refl
told_step number (items.Attribute path version value) rest = refl
told_step number (items.Refused path code) rest = refl
told_step number (items.EventRefused path code) rest = refl

-- Where a subscription stands among all, and what follows for what is changed there.
use Rattle.std.specs.Prelude.{◌≡◌, ℕ, ◌<◌, true, false, List, length, get_or, slice_set, remove, filter, map, Option, Some, None}
use Rattle.std.specs.List.{list_any}
use Rattle.mt_subs.specs.declared.subscription.Kept.{Kept}
use Rattle.mt_subs.specs.declared.subscription.Subscription.{Subscription}
use Rattle.mt_subs.specs.Subscriptions.{changed_at, is_named, is_other}

-- The subscription of this fabric and id stands at this place, and nowhere else.
pub record IsAt (fabric id : ℕ) (subs : List Subscription) (place : ℕ) : Type 0 where
  pub within : place < length subs
  pub used : list_any (is_named fabric id) subs ≡ true
  pub changes : (change : Kept → Kept) (d : Subscription) → slice_set subs place (record (get_or subs place d) { kept = change (get_or subs place d).kept }) ≡ map (changed_at fabric id change) subs
  pub removes : remove subs place ≡ filter (is_other fabric id) subs

-- It stands there, or there is none.
abbrev pub IsPlace : ℕ → ℕ → List Subscription → Option ℕ → Type 0
IsPlace fabric id subs (Some place) = IsAt fabric id subs place
IsPlace fabric id subs None = list_any (is_named fabric id) subs ≡ false

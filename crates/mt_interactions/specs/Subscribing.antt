-- What a planned line makes of the subscriptions.
use Rattle.std.specs.Prelude.{ℕ, Option, Some, None, Bool, if◌then◌else◌}
use Rattle.mt_subs.specs.Leaving.{without_ids}
use Rattle.mt_subs.specs.Subscriptions.{changed, confirmed, reported}
use Rattle.mt_subs.specs.declared.subscription.SubState.{SubState}
use Rattle.mt_runs.specs.mt_ledger.Subscribing.{Wish}
use Rattle.mt_interactions.specs.declared.behind.SubsBehind.{SubsBehind}
use Rattle.mt_interactions.specs.declared.behind.SubsBehind.TheVariants.{Same, Other, Confirmed, Ended, Told}
use Rattle.mt_interactions.specs.declared.wishes.Wish as code

-- one was reported to, which a plain actor confirms at once

abbrev pub confirmed_if : Bool → ℕ → ℕ → SubState → SubState
confirmed_if at_once fabric id subs = if at_once then changed fabric id confirmed subs else subs

abbrev pub told_at : ℕ → ℕ → ℕ → ℕ → Bool → ℕ → SubState → SubState
told_at fabric id change event at_once ms subs = confirmed_if at_once fabric id (changed fabric id (reported ms change event) subs)

abbrev pub applied_subs : SubsBehind → ℕ → SubState → SubState
applied_subs Same ms subs = subs
applied_subs (Other other) ms subs = other.value
applied_subs (Confirmed fabric id) ms subs = changed fabric id confirmed subs
applied_subs (Ended fabric ids) ms subs = without_ids fabric ids.items subs
applied_subs (Told fabric id change event at_once) ms subs = told_at fabric id change event at_once ms subs

-- A wish as the code has it.

abbrev pub wish_by : code.Wish → Wish
wish_by wish = record { sub = wish.sub; keeps = wish.keeps; minimum = wish.minimum; versions = wish.versions }

abbrev pub wish_as : Option code.Wish → Option Wish
wish_as None = None
wish_as (Some wish) = Some (wish_by wish)

-- Over which session a subscription is told.
use Rattle.std.specs.Prelude.{◌≡◌, ℕ, nat_lt, true, Some}
use Rattle.mt_shared.specs.mt_interactions.Deed.{Deed}
use Rattle.mt_shared.specs.mt_interactions.TheVariants.{Ask, Confirm, Ends, Report, Expire, Nothing}
use Rattle.mt_subs.specs.Subscriptions.{kept_at, next_id}
use Rattle.mt_subs.specs.declared.subscription.Kept.{Kept}
use Rattle.mt_subs.specs.declared.subscription.SubState.{SubState}

-- Where it is there, it is told over this session. Its id was given, so that no other of its fabric will have it.
pub record IsOver (fabric id session : ℕ) (subs : SubState) : Type 0 where
  pub given : nat_lt id (next_id fabric subs) ≡ true
  pub over : (kept : Kept) → kept_at fabric id subs ≡ Some kept → kept.sub.actor.session ≡ Some session

-- the deed is done over this session
abbrev pub IsDoneOver : ℕ → Deed → Type 0
IsDoneOver session (Ask id request timed) = id ≡ session
IsDoneOver session (Confirm id subscription) = id ≡ session
IsDoneOver session (Ends id at) = id ≡ session
IsDoneOver session (Report fabric subscription) = ⊥
IsDoneOver session Expire = ⊥
IsDoneOver session (Nothing id) = id ≡ session

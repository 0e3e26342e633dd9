-- Subscriptions that are told over one session.
use Rattle.std.proofs.Common.{◌≡◌, refl, subst, ℕ, zero, suc, ◌<◌, ◌≤◌, arith, get_or, length, nat_le, ◌&&◌, Bool, true, false, cond, List, [], ◌∷◌, ◌++◌, Contains, Option, Some, None, filter, if◌then◌else◌}
use Rattle.std.proofs.lemmas.Bool.{and_parts, leb-true}
use Rattle.mt_exchange.specs.declared.lists.EndTime.{EndTime}
use Rattle.mt_model.specs.declared.limits.TheConstants.{LAST_FABRIC}
use Rattle.mt_model.specs.declared.messages.message.Item.{Item}
use Rattle.mt_model.specs.declared.messages.message.Reply.{Reply}
use Rattle.mt_model.specs.declared.messages.message.Reply.TheVariants as replies
use Rattle.mt_subs.specs.declared.subscription.SubState.{SubState}
use Rattle.mt_subscribers.specs.Over.{IsOver}
use Rattle.mt_shares.specs.mt_worker.Accounts.{gained, gained_by, stands_unless, still_standing}
use Rattle.mt_shares.specs.mt_worker.Gots.{Each}
use Rattle.mt_shares.specs.mt_worker.Subscription.{Subscription}

-- WHAT HOLDS OF EACH of a list

pub each_on : {A : Type 0} (P Q : A → Type 0) → ((x : A) → P x → Q x) → (xs : List A) → Each P xs → Each Q xs
each_on P Q goes [] each = tt
each_on P Q goes (x ∷ xs) each = (goes x each.0, each_on P Q goes xs each.1)

each_both : {A : Type 0} (P : A → Type 0) (xs ys : List A) → Each P xs → Each P ys → Each P (xs ++ ys)
each_both P [] ys these those = those
each_both P (x ∷ xs) ys these those = (these.0, each_both P xs ys these.1 those)

each_kept : {A : Type 0} (P : A → Type 0) (keep : A → Bool) (xs : List A) → Each P xs → Each P (filter keep xs)
each_kept P keep [] each = tt
each_kept P keep (x ∷ xs) each =
    let rest : Each P (filter keep xs) = each_kept P keep xs each.1 in
    let by_test : (b : Bool) → Each P (cond b (x ∷ filter keep xs) (filter keep xs)) = elim [ true ↦ (each.0, rest) | false ↦ rest ] in
    by_test (keep x)

each_if : {A : Type 0} (P : A → Type 0) (x : A) (b : Bool) → (b ≡ true → P x) → Each P (if b then x ∷ [] else [])
each_if P x true holds = (holds refl, tt)
each_if P x false holds = tt

none_below : (n : ℕ) → n < 0 → ⊥
none_below n less = omega (arith, less)

pub each_there : {A : Type 0} (P : A → Type 0) (xs : List A) (x : A) → Each P xs → Contains xs x → P x
each_there {A = A} P xs x each there = at xs there.0 each there.1 there.2
  where
    at : (ys : List A) (k : ℕ) → Each P ys → k < length ys → get_or ys k x ≡ x → P x
    at [] k each less is = absurd (none_below k less)
    at (y ∷ ys) zero each less is = subst P is each.0
    at (y ∷ ys) (suc k) each less is = at ys k each.1 (omega (arith, less)) is

-- A SUBSCRIPTION is told over this session, and its fabric is one of those that there may be.
pub record IsTold (session : ℕ) (subs : SubState) (subscription : Subscription) : Type 0 where
  pub fabric : subscription.fabric < 256
  pub over : IsOver subscription.fabric subscription.id session subs

-- They stay, where each stays.
pub told_on : (session : ℕ) (before after : SubState) → ((fabric id : ℕ) → fabric < 256 → IsOver fabric id session before → IsOver fabric id session after)
    → (subscriptions : List Subscription) → Each (IsTold session before) subscriptions → Each (IsTold session after) subscriptions
told_on session before after stays subscriptions each =
    each_on (IsTold session before) (IsTold session after) (λ subscription told. record { fabric = told.fabric; over = stays subscription.fabric subscription.id told.fabric told.over }) subscriptions each

-- those that still stand
pub told_still : (session : ℕ) (subs : SubState) (fabric : Option ℕ) (at : List EndTime) (ms : ℕ) (subscriptions : List Subscription) → Each (IsTold session subs) subscriptions → Each (IsTold session subs) (still_standing fabric at ms subscriptions)
told_still session subs None at ms subscriptions each = each
told_still session subs (Some fabric) at ms subscriptions each = each_kept (IsTold session subs) (stands_unless at ms) subscriptions each

-- no fabric that there may be has a number beyond a byte
below_all : (fabric : ℕ) → fabric ≤ LAST_FABRIC → fabric < 256
below_all fabric may = omega (arith, may)

module _ (session : ℕ) (subs : SubState) where
  told_by : (fabric id : ℕ) → (fabric < 256 → IsOver fabric id session subs) → Each (IsTold session subs) (gained_by fabric (Some id))
  told_by fabric id over = each_if (IsTold session subs) (record { fabric = fabric; id = id }) (nat_le fabric LAST_FABRIC && nat_le 1 id) (λ may. told_there (and_parts (nat_le fabric LAST_FABRIC) (nat_le 1 id) may).0)
    where
      told_there : nat_le fabric LAST_FABRIC ≡ true → IsTold session subs (record { fabric = fabric; id = id })
      told_there may =
          let below : fabric < 256 = below_all fabric (leb-true fabric LAST_FABRIC may) in
          record { fabric = below; over = over below }

  -- those that are gained, where the answer that tells one does
  pub told_gained : (fabric : Option ℕ) (reply : Reply) → ((of id : ℕ) (items : List Item) (suppress : Bool) → of < 256 → fabric ≡ Some of → reply ≡ replies.Report (Some id) items suppress → IsOver of id session subs)
      → Each (IsTold session subs) (gained fabric reply)
  told_gained None reply over = tt
  told_gained (Some fabric) (replies.Report None items suppress) over = tt
  told_gained (Some fabric) (replies.Report (Some id) items suppress) over = told_by fabric id (λ below. over fabric id items suppress below refl refl)
  told_gained (Some fabric) reply over = tt

  -- and so do all behind an answer to a datagram
  pub told_heard : (fabric : Option ℕ) (reply : Reply) (at : List EndTime) (ms : ℕ) (subscriptions : List Subscription) → ((of id : ℕ) (items : List Item) (suppress : Bool) → of < 256 → fabric ≡ Some of → reply ≡ replies.Report (Some id) items suppress → IsOver of id session subs)
      → Each (IsTold session subs) subscriptions → Each (IsTold session subs) (still_standing fabric at ms subscriptions ++ gained fabric reply)
  told_heard fabric reply at ms subscriptions over each =
      each_both (IsTold session subs) (still_standing fabric at ms subscriptions) (gained fabric reply) (told_still session subs fabric at ms subscriptions each) (told_gained fabric reply over)

-- The subscriptions of a node (Matter Core Specification, section 8.5, Subscribe Interaction): what holds of them, and what
-- each call makes of them.
use Rattle.std.specs.Prelude.{◌≡◌, ℕ, ◌+◌, ◌≤◌, ◌==◌, ◌&&◌, ◌||◌, nat_le, nat_lt, not, Bool, true, false, List, [], ◌∷◌, ◌++◌, length, count_by, map, filter, find, slice_index, slice_set, replicate, Option, option_map, if◌then◌else◌}
use Rattle.std.specs.List.{list_all, list_any}
use Rattle.mt_model.specs.declared.limits.TheConstants.{SUBSCRIPTIONS}
use Rattle.mt_subs.specs.declared.fault.SubFault.{SubFault}
use Rattle.mt_subs.specs.declared.fault.SubFault.TheVariants.{Full, Memory}
use Rattle.mt_subs.specs.declared.subscription.Kept.{Kept}
use Rattle.mt_subs.specs.declared.subscription.Sub.{Sub}
use Rattle.mt_subs.specs.declared.subscription.SubState.{SubState}
use Rattle.mt_subs.specs.declared.subscription.Subscription.{Subscription}

-- Names.

abbrev pub is_of : ℕ → Subscription → Bool
is_of fabric s = s.fabric == fabric

abbrev pub is_named : ℕ → ℕ → Subscription → Bool
is_named fabric id s = s.fabric == fabric && s.id == id

abbrev pub is_used : ℕ → ℕ → SubState → Bool
is_used fabric id subs = list_any (is_named fabric id) subs.subscriptions

-- the subscription of this fabric and id
abbrev pub kept_at : ℕ → ℕ → SubState → Option Kept
kept_at fabric id subs = option_map (λ (s : Subscription). s.kept) (find (is_named fabric id) subs.subscriptions)

-- the ids of a fabric, in the order in which they were given
abbrev pub ids_of : ℕ → List Subscription → List ℕ
ids_of fabric subs = map (λ (s : Subscription). s.id) (filter (is_of fabric) subs)

-- Ids. Those of a fabric rise from 1, and those of whoever has no fabric from 2,147,483,649, so that nobody has one number
-- twice when a fabric comes to be theirs.

unfoldable pub first_ids : List ℕ
first_ids = slice_set (replicate 256 1) 0 2147483649

-- the first number that is no id of a fabric
abbrev pub id_end : ℕ → ℕ
id_end fabric = if fabric == 0 then 4294967295 else 2147483648

abbrev pub next_id : ℕ → SubState → ℕ
next_id fabric subs = slice_index subs.next_ids fabric

-- What holds of all subscriptions.

-- the second may come after the first: it is another fabric's, or its id is higher
abbrev pub may_come_after : Subscription → Subscription → Bool
may_come_after s t = not (s.fabric == t.fabric) || nat_lt s.id t.id

-- the ids of each fabric ascend
abbrev pub ids_ascend : List Subscription → Bool
ids_ascend [] = true
ids_ascend (s ∷ ss) = list_all (may_come_after s) ss && ids_ascend ss

-- the id is lower than the next one of its fabric
abbrev pub was_given : List ℕ → Subscription → Bool
was_given next_ids s = nat_lt s.id (slice_index next_ids s.fabric)

pub record IsSubs (subs : SubState) : Type 0 where
  -- no fabric has more than three
  pub few : (fabric : ℕ) → count_by (is_of fabric) subs.subscriptions ≤ SUBSCRIPTIONS
  pub ascend : ids_ascend subs.subscriptions ≡ true
  pub given : list_all (was_given subs.next_ids) subs.subscriptions ≡ true
  -- each fabric index has a next id
  pub indexed : length subs.next_ids ≡ 256

-- What the calls make of them.

abbrev pub none : SubState
none = record { subscriptions = []; next_ids = first_ids }

-- one that was not reported to: it is pending
abbrev pub begun : Sub → Kept
begun sub = record { sub = sub; primed = false; live = false; time = 0; change = 0; event = 0 }

abbrev pub is_full : ℕ → SubState → Bool
is_full fabric subs = nat_le SUBSCRIPTIONS (count_by (is_of fabric) subs.subscriptions)

-- with one more, under the next id of its fabric
abbrev pub added : ℕ → Sub → SubState → SubState
added fabric sub subs = record {
  subscriptions = subs.subscriptions ++ record { fabric = fabric; id = next_id fabric subs; kept = begun sub } ∷ [];
  next_ids = slice_set subs.next_ids fabric (next_id fabric subs + 1);
}

-- with a change to the one of this fabric and id
abbrev pub changed_at : ℕ → ℕ → (Kept → Kept) → Subscription → Subscription
changed_at fabric id change s = if is_named fabric id s then record s { kept = change s.kept } else s

abbrev pub changed : ℕ → ℕ → (Kept → Kept) → SubState → SubState
changed fabric id change subs = record subs { subscriptions = map (changed_at fabric id change) subs.subscriptions }

-- its report was confirmed
abbrev pub confirmed : Kept → Kept
confirmed kept = record kept { primed = true; live = true }

-- it was reported to, which is not confirmed yet
abbrev pub reported : ℕ → ℕ → ℕ → Kept → Kept
reported now change event kept = record kept { live = false; time = now; change = change; event = event }

-- without the one of this fabric and id
abbrev pub is_other : ℕ → ℕ → Subscription → Bool
is_other fabric id s = not (is_named fabric id s)

abbrev pub ended : ℕ → ℕ → SubState → SubState
ended fabric id subs = record subs { subscriptions = filter (is_other fabric id) subs.subscriptions }

-- What an addition refuses: a fourth one of a fabric, and otherwise nothing but for want of memory.
abbrev pub IsFullOrMemory : ℕ → SubState → SubFault → Type 0
IsFullOrMemory fabric subs fault = fault ≡ (if is_full fabric subs then Full else Memory)

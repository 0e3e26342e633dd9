-- What holds of every history holds as events are recorded and where a fabric leaves.
use Rattle.std.proofs.Common.{◌≡◌, ℕ, zero, suc, ◌+◌, ◌-◌, ◌≤◌, ◌==◌, ◌⊎◌, nat_lt, if◌then◌else◌, Bool, true, false, List, [], ◌∷◌, ◌++◌, length, drop, get_or, slice_set, Option, Some, None, refl, ◌∙◌, inl, inr, arith}
use Rattle.std.specs.List.{list_all}
use Rattle.std.proofs.lemmas.Bool.{and_from, and_parts, cond_both, lt-ltb, ltb-true}
use Rattle.std.proofs.lemmas.List.Folds.{list_all-append}
use Rattle.mt_tlv.specs.declared.value.Value.{Value}
use Rattle.mt_model.specs.declared.messages.message.Happened.{Happened}
use Rattle.mt_model.specs.declared.node.action.NodeStep.{NodeStep}
use Rattle.mt_model.specs.declared.rows.place.Place.{Place}
use Rattle.mt_model.specs.declared.tables.access.Actor.{Actor}
use Rattle.mt_events.specs.Numbers.{begun, taken}
use Rattle.mt_events.specs.Rings.{AreRings, capacity_of, empty, forgotten, is_below, is_new, pushed, ring_of}
use Rattle.mt_events.specs.declared.numbers.Numbers.{Numbers}
use Rattle.mt_machine.specs.Telling.{is_told_as}
use Rattle.mt_ledger.specs.history.History.{History, IsHistory, begun_at, happened, recorded_all, start_up, with_event, without_left}
use Rattle.mt_ledger.proofs.Recording.{all_keep, fabric_for, told_cases}

-- Numbers are above those of the events that are kept.

all_drop : {X : Type 0} (p : X → Bool) (k : ℕ) (xs : List X) → list_all p xs ≡ true → list_all p (drop k xs) ≡ true
all_drop p zero xs all = all
all_drop p (suc k) [] all = all
all_drop p (suc k) (x ∷ xs) all = all_drop p k xs (and_parts (p x) (list_all p xs) all).1

all_get : {X : Type 0} (p : X → Bool) (xs : List X) (i : ℕ) (d : X) → list_all p xs ≡ true → p d ≡ true → p (get_or xs i d) ≡ true
all_get p [] i d all default = default
all_get p (x ∷ xs) zero d all default = (and_parts (p x) (list_all p xs) all).0
all_get p (x ∷ xs) (suc i) d all default = all_get p xs i d (and_parts (p x) (list_all p xs) all).1 default

all_set : {X : Type 0} (p : X → Bool) (xs : List X) (i : ℕ) (y : X) → list_all p xs ≡ true → p y ≡ true → list_all p (slice_set xs i y) ≡ true
all_set p [] i y all its = all
all_set p (x ∷ xs) zero y all its = and_from _ _ its (and_parts (p x) (list_all p xs) all).1
all_set p (x ∷ xs) (suc i) y all its =
    let both = and_parts (p x) (list_all p xs) all in
    and_from _ _ both.0 (all_set p xs i y both.1 its)

below_more : (n : ℕ) (es : List Happened) → list_all (is_below n) es ≡ true → list_all (is_below (n + 1)) es ≡ true
below_more n [] below = refl
below_more n (e ∷ es) below =
    let both = and_parts (is_below n e) (list_all (is_below n) es) below in
    and_from _ _ (lt-ltb e.number (n + 1) (omega (arith, ltb-true e.number n both.0))) (below_more n es both.1)

fresh_more : (n : ℕ) (rings : List (List Happened)) → is_new n rings ≡ true → is_new (n + 1) rings ≡ true
fresh_more n [] fresh = refl
fresh_more n (ring ∷ rings) fresh =
    let both = and_parts (list_all (is_below n) ring) (is_new n rings) fresh in
    and_from _ _ (below_more n ring both.0) (fresh_more n rings both.1)

-- the next number is above that of an event that is pushed
fresh_pushed : (event : Happened) (rings : List (List Happened)) → is_new event.number rings ≡ true → is_new (event.number + 1) (pushed event rings) ≡ true
fresh_pushed event rings fresh =
    let test = is_below (event.number + 1) in
    let ring = ring_of event.fabric rings in
    let below : list_all (is_below event.number) ring ≡ true = all_get (λ (r : List Happened). list_all (is_below event.number) r) rings event.fabric [] fresh refl in
    let more : list_all test (ring ++ event ∷ []) ≡ true = list_all-append test ring (event ∷ []) ∙ and_from _ _ (below_more event.number ring below) (and_from _ _ (lt-ltb event.number (event.number + 1) (omega arith)) refl) in
    all_set (λ (r : List Happened). list_all test r) rings event.fabric _ (fresh_more event.number rings fresh) (all_drop test (length (ring ++ event ∷ []) - capacity_of event.fabric) (ring ++ event ∷ []) more)

fresh_forgot : (n gone : ℕ) (rings : List (List Happened)) (b : Bool) → is_new n rings ≡ true → is_new n (if b then rings else slice_set rings gone []) ≡ true
fresh_forgot n gone rings true fresh = fresh
fresh_forgot n gone rings false fresh = all_set (λ (r : List Happened). list_all (is_below n) r) rings gone [] fresh refl

-- a number that is taken leaves the next one within the ceiling
within_taken : (numbers : Numbers) → numbers.next ≤ numbers.ceiling → (taken numbers).next ≤ (taken numbers).ceiling
within_taken numbers within =
    cond_both (nat_lt numbers.next numbers.ceiling) numbers.ceiling (numbers.ceiling + 1024) (λ (c : ℕ). numbers.next + 1 ≤ c)
    (λ below. omega (arith, ltb-true numbers.next numbers.ceiling below))
    (λ above. omega (arith, within))

abbrev pub PushedAre : Type 0
PushedAre = (event : Happened) (rings : List (List Happened)) → event.fabric ≤ 16 → is_new event.number rings ≡ true → AreRings rings → AreRings (pushed event rings)

abbrev pub ForgottenAre : Type 0
ForgottenAre = (fabric : ℕ) (rings : List (List Happened)) → AreRings rings → AreRings (forgotten fabric rings)

pub one_more : PushedAre → (place : Place) (priority now fabric : ℕ) (value : Value) (h : History) → fabric ≤ 16 → IsHistory h → IsHistory (with_event (happened h.numbers.next place priority now fabric value) h)
one_more pushed_are place priority now fabric value h low is =
    let event = happened h.numbers.next place priority now fabric value in
    record {
      rings = pushed_are event h.rings low is.past is.rings;
      past = fresh_pushed event h.rings is.past;
      within = within_taken h.numbers is.within;
    }

-- what is told by whoever has a fabric of the table, or none
pub all_more : PushedAre → (asking : Option Actor) (now : ℕ) (steps : List NodeStep) (h : History) → fabric_for asking ≤ 16 → list_all (is_told_as asking) steps ≡ true → IsHistory h → IsHistory (recorded_all now steps h)
all_more pushed_are asking now steps h low told is =
    all_keep (is_told_as asking) now (λ h1 h2. IsHistory h1)
    (λ place priority fabric value h1 h2 its so. one_more pushed_are place priority now fabric value h1 (low_fabric fabric (told_cases asking place priority fabric value its)) so)
    steps h h told is
  where
    low_fabric : (fabric : ℕ) → (fabric ≡ 0) ⊎ (fabric ≡ fabric_for asking) → fabric ≤ 16
    low_fabric fabric (inl shared) = omega (arith, shared)
    low_fabric fabric (inr own) = omega (arith, own, low)

pub left_still : ForgottenAre → (gone : Option ℕ) (h : History) → IsHistory h → IsHistory (without_left gone h)
left_still forgotten_are None h is = is
left_still forgotten_are (Some fabric) h is = record {
  rings = forgotten_are fabric h.rings is.rings;
  past = fresh_forgot h.numbers.next fabric h.rings (fabric == 0) is.past;
  within = is.within;
}

-- That of a boot, whatever ceiling was stored.

pub opens : AreRings empty → PushedAre → (ceiling : ℕ) → IsHistory (begun_at ceiling)
opens empty_are pushed_are ceiling = one_more pushed_are start_up 2 0 0 _ (record { rings = empty; numbers = begun ceiling }) (omega arith) (record { rings = empty_are; past = refl; within = omega arith })

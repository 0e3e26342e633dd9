-- A ring stays one as an event is pushed.
use Rattle.std.proofs.Common.{◌≡◌, ℕ, zero, suc, ◌-◌, ◌<◌, ◌≤◌, ◌==◌, nat_lt, if◌then◌else◌, Bool, true, false, List, [], ◌∷◌, ◌++◌, length, drop, get_or, slice_set, refl, ap, sym, ◌∙◌, subst, inl, inr, arith, eqb-true, nat_eq}
use Rattle.std.specs.List.{list_all}
use Rattle.std.proofs.lemmas.Bool.{and_from, and_parts, cases_Bool, eq-eqb, lt-ltb, ltb-true, eqb-false}
use Rattle.std.proofs.lemmas.List.{get_or-set_other, get_or-set_same, length-drop, length-set}
use Rattle.std.proofs.lemmas.List.Folds.{list_all-append}
use Rattle.circular_buffer.specs.Buffer.{keep_last}
use Rattle.mt_events.specs.Rings.{AreRings, IsRing, capacity_of, forgotten, is_below, is_new, is_of, pushed, ring_of, rise, rise_above}
use Rattle.mt_model.specs.declared.messages.message.Happened.{Happened}

all_drop : {X : Type 0} (p : X → Bool) (k : ℕ) (xs : List X) → list_all p xs ≡ true → list_all p (drop k xs) ≡ true
all_drop p zero xs all = all
all_drop p (suc k) [] all = all
all_drop p (suc k) (x ∷ xs) all = all_drop p k xs (and_parts (p x) (list_all p xs) all).1

pub all_get : {X : Type 0} (p : X → Bool) (xs : List X) (i : ℕ) (d : X) → list_all p xs ≡ true → p d ≡ true → p (get_or xs i d) ≡ true
all_get p [] i d all default = default
all_get p (x ∷ xs) zero d all default = (and_parts (p x) (list_all p xs) all).0
all_get p (x ∷ xs) (suc i) d all default = all_get p xs i d (and_parts (p x) (list_all p xs) all).1 default

rise_from : (n : ℕ) (es : List Happened) → rise_above n es ≡ true → rise es ≡ true
rise_from n [] up = refl
rise_from n (e ∷ es) up = (and_parts (nat_lt n e.number) (rise_above e.number es) up).1

rise_drop : (k : ℕ) (es : List Happened) → rise es ≡ true → rise (drop k es) ≡ true
rise_drop zero es up = up
rise_drop (suc k) [] up = up
rise_drop (suc k) (e ∷ es) up = rise_drop k es (rise_from e.number es up)

rise_above_more : (n : ℕ) (es : List Happened) (e : Happened) → rise_above n es ≡ true → n < e.number → list_all (is_below e.number) es ≡ true → rise_above n (es ++ e ∷ []) ≡ true
rise_above_more n [] e up low below = and_from _ _ (lt-ltb n e.number low) refl
rise_above_more n (x ∷ es) e up low below =
    let parts = and_parts (nat_lt n x.number) (rise_above x.number es) up in
    let belows = and_parts (nat_lt x.number e.number) (list_all (is_below e.number) es) below in
    and_from _ _ parts.0 (rise_above_more x.number es e parts.1 (ltb-true x.number e.number belows.0) belows.1)

rise_more : (es : List Happened) (e : Happened) → rise es ≡ true → list_all (is_below e.number) es ≡ true → rise (es ++ e ∷ []) ≡ true
rise_more [] e up below = refl
rise_more (x ∷ es) e up below =
    let belows = and_parts (nat_lt x.number e.number) (list_all (is_below e.number) es) below in
    rise_above_more x.number es e up (ltb-true x.number e.number belows.0) belows.1

-- the latest of a ring and one more event are a ring
pub ring_pushed : (fabric : ℕ) (ring : List Happened) (e : Happened) → IsRing fabric ring → e.fabric ≡ fabric → list_all (is_below e.number) ring ≡ true → IsRing fabric (keep_last (capacity_of fabric) (ring ++ e ∷ []))
ring_pushed fabric ring e is its below = record {
  own = all_drop (is_of fabric) _ (ring ++ e ∷ []) (list_all-append (is_of fabric) ring (e ∷ []) ∙ and_from _ _ is.own (and_from _ _ (eq-eqb e.fabric fabric its) refl));
  rises = rise_drop _ (ring ++ e ∷ []) (rise_more ring e is.rises below);
  within = omega (arith, length-drop (length (ring ++ e ∷ []) - capacity_of fabric) (ring ++ e ∷ []));
}

pub no_ring : (fabric : ℕ) → IsRing fabric []
no_ring fabric = record { own = refl; rises = refl; within = omega arith }

-- rings, of which one is set
pub set_rings : (fabric : ℕ) (ring : List Happened) (rings : List (List Happened)) → AreRings rings → IsRing fabric ring → AreRings (slice_set rings fabric ring)
set_rings fabric ring rings are is = record {
  all = length-set rings fabric ring ∙ are.all;
  each = λ f low. each f low;
}
  where
    each : (f : ℕ) → f ≤ 16 → IsRing f (ring_of f (slice_set rings fabric ring))
    each f low = elim (cases_Bool (nat_eq f fabric)) [
      | inl same ↦
          let here : f ≡ fabric = eqb-true f fabric same in
          let all = are.all in
          let within : fabric < length rings = omega (arith, here, low, all) in
          let at : get_or (slice_set rings fabric ring) f [] ≡ ring = ap (λ g. get_or (slice_set rings fabric ring) g []) here ∙ get_or-set_same rings fabric ring [] within in
          subst (λ (l : List Happened). IsRing f l) (sym at) (subst (λ g. IsRing g ring) (sym here) is)
      | inr other ↦
          let at : get_or (slice_set rings fabric ring) f [] ≡ get_or rings f [] = get_or-set_other rings fabric f ring [] (eqb-false f fabric other) in
          subst (λ (l : List Happened). IsRing f l) (sym at) (are.each f low)
    ]

pub pushed_are : (event : Happened) (rings : List (List Happened)) → event.fabric ≤ 16 → is_new event.number rings ≡ true → AreRings rings → AreRings (pushed event rings)
pushed_are event rings low fresh are =
    let below : list_all (is_below event.number) (ring_of event.fabric rings) ≡ true = all_get (λ (ring : List Happened). list_all (is_below event.number) ring) rings event.fabric [] fresh refl in
    set_rings event.fabric _ rings are (ring_pushed event.fabric (ring_of event.fabric rings) event (are.each event.fabric low) refl below)

pub forgotten_are : (fabric : ℕ) (rings : List (List Happened)) → AreRings rings → AreRings (forgotten fabric rings)
forgotten_are fabric rings are = elim (fabric == 0) as (λ b. AreRings (if b then rings else slice_set rings fabric [])) [ true ↦ are | false ↦ set_rings fabric [] rings are (no_ring fabric) ]

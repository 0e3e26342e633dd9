-- The buffers of rings, of which one is set, and new ones.
use Rattle.std.proofs.Common.{◌≡◌, ℕ, suc, ◌<◌, ◌≤◌, ◌++◌, true, List, [], ◌∷◌, length, get_or, slice_set, replicate, refl, ap, sym, ◌∙◌, subst, inl, inr, arith, eqb-true, nat_eq}
use Rattle.std.specs.List.{list_all}
use Rattle.std.proofs.lemmas.Bool.{cases_Bool, eqb-false}
use Rattle.std.proofs.lemmas.List.{get_or_read, get_or-map, get_or-set_other, get_or-set_same, length-map, length-set, map-set}
use Rattle.circular_buffer.specs.Buffer.{Buffer, buffer, keep_last}
use Rattle.mt_events.specs.Kept.{AreKept, items_of}
use Rattle.mt_events.specs.Rings.{AreRings, IsRing, capacity_of, empty, is_below, is_new, pushed, ring_of}
use Rattle.mt_events.proofs.Rising.{all_get, no_ring, ring_pushed, set_rings}
use Rattle.mt_model.specs.declared.messages.message.Happened.{Happened}

-- its events are those of the ring
pub items_at : (buffers : List (Buffer Happened)) (fabric : ℕ) (d : Buffer Happened) → fabric < length buffers → ring_of fabric (items_of buffers) ≡ (get_or buffers fabric d).items
items_at buffers fabric d within = get_or-map (λ (b : Buffer Happened). b.items) buffers fabric d [] within

pub items_set : (buffers : List (Buffer Happened)) (fabric : ℕ) (b : Buffer Happened) → items_of (slice_set buffers fabric b) ≡ slice_set (items_of buffers) fabric b.items
items_set buffers fabric b = map-set (λ (b : Buffer Happened). b.items) buffers fabric b

pub set_kept : (buffers : List (Buffer Happened)) (fabric : ℕ) (b : Buffer Happened) → AreKept buffers → fabric < length buffers → IsRing fabric b.items → b.capacity ≡ capacity_of fabric → AreKept (slice_set buffers fabric b)
set_kept buffers fabric b kept within ring places = record {
  rings = subst (λ (rings : List (List Happened)). AreRings rings) (sym (items_set buffers fabric b)) (set_rings fabric b.items (items_of buffers) kept.rings ring);
  places = λ f low. at f low;
}
  where
    at : (f : ℕ) → f < length (slice_set buffers fabric b) → (get_or (slice_set buffers fabric b) f (buffer [] 0)).capacity ≡ capacity_of f
    at f low = elim (cases_Bool (nat_eq f fabric)) [
      | inl same ↦
          let here : f ≡ fabric = eqb-true f fabric same in
          subst (λ g. (get_or (slice_set buffers fabric b) g (buffer [] 0)).capacity ≡ capacity_of g) (sym here)
          (ap (λ (c : Buffer Happened). c.capacity) (get_or-set_same buffers fabric b (buffer [] 0) within) ∙ places)
      | inr other ↦
          ap (λ (c : Buffer Happened). c.capacity) (get_or-set_other buffers fabric f b (buffer [] 0) (eqb-false f fabric other))
          ∙ kept.places f (omega (arith, low, length-set buffers fabric b))
    ]

-- An event is pushed, or a ring is emptied: into the buffer at its place.

module _ (buffers : List (Buffer Happened)) (i : ℕ) (d new : Buffer Happened) (kept : AreKept buffers) (within : i < length buffers) (here : d ≡ get_or buffers i d) where
  is_place : d.capacity ≡ capacity_of i
  is_place = ap (λ (b : Buffer Happened). b.capacity) (get_or_read buffers i d within here (buffer [] 0)) ∙ kept.places i within

  are_items : d.items ≡ ring_of i (items_of buffers)
  are_items = ap (λ (b : Buffer Happened). b.items) here ∙ sym (items_at buffers i d within)

  pub pushed_items : (event : Happened) → i ≡ event.fabric → new ≡ buffer (keep_last d.capacity (d.items ++ event ∷ [])) d.capacity → items_of (slice_set buffers i new) ≡ pushed event (items_of buffers)
  pushed_items event its is =
      let same : new.items ≡ keep_last (capacity_of i) (ring_of i (items_of buffers) ++ event ∷ []) =
      ap (λ (b : Buffer Happened). b.items) is ∙ (λ k. keep_last (is_place k) (are_items k ++ event ∷ [])) in
      items_set buffers i new
      ∙ ap (λ (ring : List Happened). slice_set (items_of buffers) i ring) same
      ∙ ap (λ f. slice_set (items_of buffers) f (keep_last (capacity_of f) (ring_of f (items_of buffers) ++ event ∷ []))) its

  pub pushed_kept : (event : Happened) → i ≡ event.fabric → event.fabric ≤ 16 → is_new event.number (items_of buffers) ≡ true → new ≡ buffer (keep_last d.capacity (d.items ++ event ∷ [])) d.capacity → AreKept (slice_set buffers i new)
  pushed_kept event its low fresh is =
      let same : new.items ≡ keep_last (capacity_of i) (ring_of i (items_of buffers) ++ event ∷ []) =
      ap (λ (b : Buffer Happened). b.items) is ∙ (λ k. keep_last (is_place k) (are_items k ++ event ∷ [])) in
      let ring : IsRing i (ring_of i (items_of buffers)) = kept.rings.each i (omega (arith, its, low)) in
      let below : list_all (is_below event.number) (ring_of i (items_of buffers)) ≡ true = all_get (λ (r : List Happened). list_all (is_below event.number) r) (items_of buffers) i [] fresh refl in
      set_kept buffers i new kept within
      (subst (λ (r : List Happened). IsRing i r) (sym same) (ring_pushed i (ring_of i (items_of buffers)) event ring (sym its) below))
      (ap (λ (b : Buffer Happened). b.capacity) is ∙ is_place)

  pub emptied_items : new ≡ buffer [] d.capacity → items_of (slice_set buffers i new) ≡ slice_set (items_of buffers) i []
  emptied_items is = items_set buffers i new ∙ ap (λ (b : Buffer Happened). slice_set (items_of buffers) i b.items) is

  pub emptied_kept : new ≡ buffer [] d.capacity → AreKept (slice_set buffers i new)
  emptied_kept is = set_kept buffers i new kept within (subst (λ (r : List Happened). IsRing i r) (sym (ap (λ (b : Buffer Happened). b.items) is)) (no_ring i)) (ap (λ (b : Buffer Happened). b.capacity) is ∙ is_place)

-- New buffers.

all_empty : (rings : List (List Happened)) → ((k : ℕ) → k < length rings → get_or rings k [] ≡ []) → rings ≡ replicate (length rings) []
all_empty [] none = refl
all_empty (ring ∷ rings) none = λ i. none 0 (omega arith) i ∷ all_empty rings (λ k lt. none (suc k) (omega (arith, lt))) i

module _ (buffers : List (Buffer Happened)) (all : length buffers ≡ 17) (made : (k : ℕ) → k < length buffers → get_or buffers k (buffer [] 0) ≡ buffer [] (capacity_of k)) where
  no_items : (k : ℕ) → k < length buffers → ring_of k (items_of buffers) ≡ []
  no_items k lt = items_at buffers k (buffer [] 0) lt ∙ ap (λ (b : Buffer Happened). b.items) (made k lt)

  pub made_empty : items_of buffers ≡ empty
  made_empty =
      let long = length-map buffers (λ (b : Buffer Happened). b.items) in
      all_empty (items_of buffers) (λ k lt. no_items k (omega (arith, lt, long))) ∙ ap (λ n. replicate n []) (long ∙ all)

  pub made_kept : AreKept buffers
  made_kept = record {
    rings = record {
      all = length-map buffers (λ (b : Buffer Happened). b.items) ∙ all;
      each = λ f low. subst (λ (ring : List Happened). IsRing f ring) (sym (no_items f (omega (arith, low, all)))) (no_ring f);
    };
    places = λ f low. ap (λ (b : Buffer Happened). b.capacity) (made f low);
  }

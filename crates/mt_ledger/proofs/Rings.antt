-- A fabric's own events in the rings: as one is set, pushed or forgotten, and as the veil has them.
use Rattle.std.proofs.Common.{◌≡◌, ℕ, zero, suc, ◌==◌, nat_lt, if◌then◌else◌, Bool, true, false, List, [], ◌∷◌, ◌++◌, length, slice_set, refl, ap, sym, ◌∙◌, subst, inl, inr, arith, eqb-true}
use Rattle.std.proofs.lemmas.Bool.{cases_Bool, cases_lt, cond-true, cond-false, eqb-false, le-ltb, lt-ltb}
use Rattle.std.proofs.lemmas.List.{get_or-set_other, get_or-set_same, get_or_past, length-set, set_past}
use Rattle.circular_buffer.specs.Buffer.{keep_last}
use Rattle.mt_events.specs.Rings.{capacity_of, empty, forgotten, pushed, ring_of}
use Rattle.mt_events.specs.Telling.{own_of}
use Rattle.mt_ledger.specs.history.History.{History, IsHistory}
use Rattle.mt_ledger.specs.history.Isolation.{own_events, recent, veiled_history, veiled_rings}
use Rattle.mt_model.specs.declared.messages.message.Happened.{Happened}

-- One ring is set.

-- whoever has no fabric has nothing private
pub nobodys : (fabric : ℕ) (rings : List (List Happened)) → (fabric == 0) ≡ true → own_of fabric rings ≡ []
nobodys fabric rings nobody = cond-true (fabric == 0) [] (ring_of fabric rings) nobody

pub somebodys : (fabric : ℕ) (rings : List (List Happened)) → (fabric == 0) ≡ false → own_of fabric rings ≡ ring_of fabric rings
somebodys fabric rings somebody = cond-false (fabric == 0) [] (ring_of fabric rings) somebody

set_there : (fabric : ℕ) (ring : List Happened) (rings : List (List Happened)) → ring_of fabric (slice_set rings fabric ring) ≡ (if nat_lt fabric (length rings) then ring else [])
set_there fabric ring rings = elim (cases_lt fabric (length rings)) [
  | inl within ↦ get_or-set_same rings fabric ring [] within ∙ sym (cond-true (nat_lt fabric (length rings)) ring [] (lt-ltb fabric (length rings) within))
  | inr past ↦
      ap (λ (rs : List (List Happened)). ring_of fabric rs) (set_past rings fabric ring past)
      ∙ get_or_past rings fabric [] past
      ∙ sym (cond-false (nat_lt fabric (length rings)) ring [] (le-ltb fabric (length rings) past))
]

set_elsewhere : (fabric place : ℕ) (ring : List Happened) (rings : List (List Happened)) → (place == fabric) ≡ false → ring_of fabric (slice_set rings place ring) ≡ ring_of fabric rings
set_elsewhere fabric place ring rings apart = get_or-set_other rings place fabric ring [] (λ e. eqb-false place fabric apart (sym e))

own_set : (fabric place : ℕ) (ring : List Happened) (rings : List (List Happened)) → (place == fabric) ≡ false → own_of fabric (slice_set rings place ring) ≡ own_of fabric rings
own_set fabric place ring rings apart = ap (λ (l : List Happened). if fabric == 0 then [] else l) (set_elsewhere fabric place ring rings apart)

none_left : (place : ℕ) (rings : List (List Happened)) → ring_of place (slice_set rings place []) ≡ []
none_left place [] = refl
none_left zero (ring ∷ rings) = refl
none_left (suc place) (ring ∷ rings) = none_left place rings

-- An event is pushed.

pub pushed_elsewhere : (fabric : ℕ) (event : Happened) (rings : List (List Happened)) → (event.fabric == fabric) ≡ false → own_of fabric (pushed event rings) ≡ own_of fabric rings
pushed_elsewhere fabric event rings apart = own_set fabric event.fabric _ rings apart

-- one that is private to the fabric, or to another
pub pushed_alike : (fabric : ℕ) (event : Happened) (rings others : List (List Happened)) → length rings ≡ length others → own_of fabric rings ≡ own_of fabric others → own_of fabric (pushed event rings) ≡ own_of fabric (pushed event others)
pushed_alike fabric event rings others many own = elim (cases_Bool (event.fabric == fabric)) [
  | inl same ↦ elim (cases_Bool (fabric == 0)) [
    | inl nobody ↦ nobodys fabric (pushed event rings) nobody ∙ sym (nobodys fabric (pushed event others) nobody)
    | inr somebody ↦
        let here : event.fabric ≡ fabric = eqb-true event.fabric fabric same in
        let ring : ring_of fabric rings ≡ ring_of fabric others = sym (somebodys fabric rings somebody) ∙ own ∙ somebodys fabric others somebody in
        ap (λ (l : List Happened). if fabric == 0 then [] else l) (subst (λ g. ring_of g (pushed event rings) ≡ ring_of g (pushed event others)) here (both (subst (λ g. ring_of g rings ≡ ring_of g others) (sym here) ring)))
  ]
  | inr apart ↦ pushed_elsewhere fabric event rings apart ∙ own ∙ sym (pushed_elsewhere fabric event others apart)
]
  where
    both : ring_of event.fabric rings ≡ ring_of event.fabric others → ring_of event.fabric (pushed event rings) ≡ ring_of event.fabric (pushed event others)
    both ring =
        set_there event.fabric _ rings
        ∙ (λ i. if nat_lt event.fabric (many i) then keep_last (capacity_of event.fabric) (ring i ++ event ∷ []) else [])
        ∙ sym (set_there event.fabric _ others)

pub pushed_many : (event : Happened) (rings : List (List Happened)) → length (pushed event rings) ≡ length rings
pushed_many event rings = length-set rings event.fabric _

-- What is private to a fabric is forgotten.

forgot : (fabric gone : ℕ) (rings : List (List Happened)) (b : Bool) → (gone == 0) ≡ b → own_of fabric (if b then rings else slice_set rings gone []) ≡ (if gone == fabric then [] else own_of fabric rings)
forgot fabric gone rings true nobody = elim (cases_Bool (gone == fabric)) [
  | inl same ↦ nobodys fabric rings (subst (λ g. (g == 0) ≡ true) (eqb-true gone fabric same) nobody) ∙ sym (cond-true (gone == fabric) [] (own_of fabric rings) same)
  | inr apart ↦ sym (cond-false (gone == fabric) [] (own_of fabric rings) apart)
]
forgot fabric gone rings false somebody = elim (cases_Bool (gone == fabric)) [
  | inl same ↦
      let is : ring_of fabric (slice_set rings gone []) ≡ [] = subst (λ g. ring_of g (slice_set rings gone []) ≡ []) (eqb-true gone fabric same) (none_left gone rings) in
      somebodys fabric (slice_set rings gone []) (subst (λ g. (g == 0) ≡ false) (eqb-true gone fabric same) somebody) ∙ is ∙ sym (cond-true (gone == fabric) [] (own_of fabric rings) same)
  | inr apart ↦ own_set fabric gone [] rings apart ∙ sym (cond-false (gone == fabric) [] (own_of fabric rings) apart)
]

pub forgotten_own : (fabric gone : ℕ) (rings : List (List Happened)) → own_of fabric (forgotten gone rings) ≡ (if gone == fabric then [] else own_of fabric rings)
forgotten_own fabric gone rings = forgot fabric gone rings (gone == 0) refl

forgot_many : (gone : ℕ) (rings : List (List Happened)) (b : Bool) → length (if b then rings else slice_set rings gone []) ≡ length rings
forgot_many gone rings true = refl
forgot_many gone rings false = length-set rings gone []

pub forgotten_many : (gone : ℕ) (rings : List (List Happened)) → length (forgotten gone rings) ≡ length rings
forgotten_many gone rings = forgot_many gone rings (gone == 0)

-- The veil.

veiled_shared : (fabric : ℕ) (own shared : List Happened) (b : Bool) → (fabric == 0) ≡ b → ring_of 0 (if b then slice_set empty 0 shared else slice_set (slice_set empty 0 shared) fabric own) ≡ shared
veiled_shared fabric own shared true nobody = refl
veiled_shared fabric own shared false somebody = set_elsewhere 0 fabric own (slice_set empty 0 shared) somebody

pub shared_again : (fabric : ℕ) (own shared : List Happened) → ring_of 0 (veiled_rings fabric own shared) ≡ shared
shared_again fabric own shared = veiled_shared fabric own shared (fabric == 0) refl

veiled_all : (fabric : ℕ) (own shared : List Happened) (b : Bool) → length (if b then slice_set empty 0 shared else slice_set (slice_set empty 0 shared) fabric own) ≡ 17
veiled_all fabric own shared true = refl
veiled_all fabric own shared false = length-set (slice_set empty 0 shared) fabric own

pub veiled_many : (fabric : ℕ) (own shared : List Happened) → length (veiled_rings fabric own shared) ≡ 17
veiled_many fabric own shared = veiled_all fabric own shared (fabric == 0)

veiled_own : (fabric : ℕ) (rings : List (List Happened)) (shared : List Happened) → length rings ≡ 17 → own_of fabric (veiled_rings fabric (own_of fabric rings) shared) ≡ own_of fabric rings
veiled_own fabric rings shared all = elim (cases_Bool (fabric == 0)) [
  | inl nobody ↦ nobodys fabric (veiled_rings fabric (own_of fabric rings) shared) nobody ∙ sym (nobodys fabric rings nobody)
  | inr somebody ↦
      let is : veiled_rings fabric (own_of fabric rings) shared ≡ slice_set (slice_set empty 0 shared) fabric (own_of fabric rings) =
      cond-false (fabric == 0) (slice_set empty 0 shared) (slice_set (slice_set empty 0 shared) fabric (own_of fabric rings)) somebody in
      somebodys fabric (veiled_rings fabric (own_of fabric rings) shared) somebody
      ∙ ap (λ (rs : List (List Happened)). ring_of fabric rs) is
      ∙ elim (cases_lt fabric 17) [
        | inl within ↦ get_or-set_same (slice_set empty 0 shared) fabric (own_of fabric rings) [] within
        | inr past ↦
            let none : own_of fabric rings ≡ [] = somebodys fabric rings somebody ∙ get_or_past rings fabric [] (omega (arith, past, all)) in
            ap (λ (rs : List (List Happened)). ring_of fabric rs) (set_past (slice_set empty 0 shared) fabric (own_of fabric rings) past)
            ∙ get_or_past (slice_set empty 0 shared) fabric [] past
            ∙ sym none
      ]
]

pub own_again : (fabric : ℕ) (h : History) → IsHistory h → own_events fabric (veiled_history fabric h) ≡ own_events fabric h
own_again fabric h is = veiled_own fabric h.rings (ring_of 0 h.rings) is.rings.all

pub recent_again : (fabric : ℕ) (h : History) → recent (veiled_history fabric h) ≡ recent h
recent_again fabric h = λ i. record { shared = shared_again fabric (own_of fabric h.rings) (ring_of 0 h.rings) i; next = h.numbers.next }

-- Rings go on standing for what has happened.
use Rattle.std.proofs.Common.{◌≡◌, ℕ, ◌+◌, ◌-◌, ◌<◌, ◌≤◌, ◌==◌, ◌||◌, not, cond, Bool, true, false, List, [], ◌∷◌, ◌++◌, length, drop, filter, get_or, slice_set, refl, ap, sym, ◌∙◌, subst, inl, inr, arith, eqb-true, nat_eq}
use Rattle.std.proofs.lemmas.Bool.{cases_Bool, cond-true, cond-false, eq-eqb, eqb-false, ne_eqb, not_from_false, not_from_true}
use Rattle.std.proofs.lemmas.List.{append-nil, drop_all, drop-append-le, drop-drop, get_or-set_other, get_or-set_same, length-append, length-drop}
use Rattle.std.proofs.lemmas.List.Elements.{filter-append}
use Rattle.circular_buffer.specs.Buffer.{keep_last}
use Rattle.mt_events.specs.Rings.{StandFor, capacity_of, forgotten, is_of, is_remembered, latest, pushed, remembered, ring_of}
use Rattle.mt_model.specs.declared.messages.message.Happened.{Happened}

keep_last_more : (n : ℕ) (es : List Happened) (e : Happened) → keep_last n (keep_last n es ++ e ∷ []) ≡ keep_last n (es ++ e ∷ [])
keep_last_more n es e =
    let k = length es - n in
    let m = length (drop k es ++ e ∷ []) - n in
    let joined : drop k es ++ e ∷ [] ≡ drop k (es ++ e ∷ []) = sym (drop-append-le k es (e ∷ []) (omega arith)) in
    let sum : k + m ≡ length (es ++ e ∷ []) - n = omega (arith, length-append (drop k es) (e ∷ []), length-drop k es, length-append es (e ∷ [])) in
    ap (λ (l : List Happened). drop m l) joined ∙ drop-drop m k (es ++ e ∷ []) ∙ ap (λ j. drop j (es ++ e ∷ [])) sum

pub pushed_stand : (event : Happened) (rings : List (List Happened)) (events : List Happened) → event.fabric ≤ 16 → length rings ≡ 17 → StandFor rings events → StandFor (pushed event rings) (events ++ event ∷ [])
pushed_stand event rings events low all stand = record { are = λ f small. at f small }
  where
    one : (f : ℕ) → filter (is_of f) (event ∷ []) ≡ cond (event.fabric == f) (event ∷ []) []
    one f = refl

    at : (f : ℕ) → f ≤ 16 → ring_of f (pushed event rings) ≡ latest f (events ++ event ∷ [])
    at f small = elim (cases_Bool (nat_eq event.fabric f)) [
      | inl same ↦
          let here : event.fabric ≡ f = eqb-true event.fabric f same in
          let within : event.fabric < length rings = omega (arith, low, all) in
          let is : get_or (pushed event rings) event.fabric [] ≡ keep_last (capacity_of event.fabric) (ring_of event.fabric rings ++ event ∷ []) = get_or-set_same rings event.fabric _ [] within in
          let was : ring_of event.fabric rings ≡ latest event.fabric events = stand.are event.fabric low in
          let kept : keep_last (capacity_of event.fabric) (ring_of event.fabric rings ++ event ∷ []) ≡ keep_last (capacity_of event.fabric) (filter (is_of event.fabric) events ++ event ∷ []) =
          ap (λ (l : List Happened). keep_last (capacity_of event.fabric) (l ++ event ∷ [])) was ∙ keep_last_more (capacity_of event.fabric) (filter (is_of event.fabric) events) event in
          let own : filter (is_of event.fabric) (events ++ event ∷ []) ≡ filter (is_of event.fabric) events ++ event ∷ [] =
          filter-append (is_of event.fabric) events (event ∷ []) ∙ ap (λ (l : List Happened). filter (is_of event.fabric) events ++ l) (cond-true (event.fabric == event.fabric) (event ∷ []) [] (eq-eqb event.fabric event.fabric refl)) in
          subst (λ g. ring_of g (pushed event rings) ≡ latest g (events ++ event ∷ [])) here (is ∙ kept ∙ ap (λ (l : List Happened). keep_last (capacity_of event.fabric) l) (sym own))
      | inr other ↦
          let apart : f ≡ event.fabric → ⊥ = λ e. eqb-false event.fabric f other (sym e) in
          let is : get_or (pushed event rings) f [] ≡ ring_of f rings = get_or-set_other rings event.fabric f _ [] apart in
          let none : filter (is_of f) (events ++ event ∷ []) ≡ filter (is_of f) events =
          filter-append (is_of f) events (event ∷ []) ∙ ap (λ (l : List Happened). filter (is_of f) events ++ l) (cond-false (event.fabric == f) (event ∷ []) [] other) ∙ append-nil (filter (is_of f) events) in
          is ∙ stand.are f small ∙ ap (λ (l : List Happened). keep_last (capacity_of f) l) (sym none)
    ]

-- the events of a fabric that is not the one are not forgotten, and of the one none are left
module _ (fabric f : ℕ) where
  others_stay : (es : List Happened) → (f ≡ fabric → ⊥) → filter (is_of f) (filter (is_remembered fabric) es) ≡ filter (is_of f) es
  others_stay [] apart = refl
  others_stay (e ∷ es) apart = elim (cases_Bool (e.fabric == f)) [
    | inl same ↦
        let is : e.fabric ≡ f = eqb-true e.fabric f same in
        let kept : is_remembered fabric e ≡ true = or_second (fabric == 0) (not (e.fabric == fabric)) (not_from_false _ (ne_eqb e.fabric fabric (λ h. apart (sym is ∙ h)))) in
        ap (λ (l : List Happened). filter (is_of f) l) (cond-true (is_remembered fabric e) (e ∷ filter (is_remembered fabric) es) (filter (is_remembered fabric) es) kept)
        ∙ cond-true (e.fabric == f) (e ∷ filter (is_of f) (filter (is_remembered fabric) es)) (filter (is_of f) (filter (is_remembered fabric) es)) same
        ∙ ap (λ (l : List Happened). e ∷ l) (others_stay es apart)
        ∙ sym (cond-true (e.fabric == f) (e ∷ filter (is_of f) es) (filter (is_of f) es) same)
    | inr other ↦
        without (is_remembered fabric e) e (filter (is_remembered fabric) es) other
        ∙ others_stay es apart
        ∙ sym (cond-false (e.fabric == f) (e ∷ filter (is_of f) es) (filter (is_of f) es) other)
  ]
    where
      or_second : (a b : Bool) → b ≡ true → (a || b) ≡ true
      or_second true b e = refl
      or_second false b e = e

      without : (b : Bool) (e : Happened) (es : List Happened) → (e.fabric == f) ≡ false → filter (is_of f) (cond b (e ∷ es) es) ≡ filter (is_of f) es
      without true e es other = cond-false (e.fabric == f) (e ∷ filter (is_of f) es) (filter (is_of f) es) other
      without false e es other = refl

all_remembered : (fabric : ℕ) (es : List Happened) → (fabric == 0) ≡ true → remembered fabric es ≡ es
all_remembered fabric [] nobody = refl
all_remembered fabric (e ∷ es) nobody =
    cond-true (is_remembered fabric e) (e ∷ remembered fabric es) (remembered fabric es) (ap (λ b. b || not (e.fabric == fabric)) nobody)
    ∙ ap (λ (l : List Happened). e ∷ l) (all_remembered fabric es nobody)

none_left : (fabric : ℕ) (es : List Happened) → (fabric == 0) ≡ false → filter (is_of fabric) (remembered fabric es) ≡ []
none_left fabric [] somebody = refl
none_left fabric (e ∷ es) somebody = elim (cases_Bool (e.fabric == fabric)) [
  | inl same ↦
      let goes : is_remembered fabric e ≡ false = (λ i. somebody i || not (e.fabric == fabric)) ∙ not_from_true _ same in
      ap (λ (l : List Happened). filter (is_of fabric) l) (cond-false (is_remembered fabric e) (e ∷ remembered fabric es) (remembered fabric es) goes) ∙ none_left fabric es somebody
  | inr other ↦
      let stays : is_remembered fabric e ≡ true = (λ i. somebody i || not (e.fabric == fabric)) ∙ not_from_false _ other in
      ap (λ (l : List Happened). filter (is_of fabric) l) (cond-true (is_remembered fabric e) (e ∷ remembered fabric es) (remembered fabric es) stays)
      ∙ cond-false (e.fabric == fabric) (e ∷ filter (is_of fabric) (remembered fabric es)) (filter (is_of fabric) (remembered fabric es)) other
      ∙ none_left fabric es somebody
]

set_stand : (fabric : ℕ) (rings : List (List Happened)) (events : List Happened) → (fabric == 0) ≡ false → length rings ≡ 17 → StandFor rings events → StandFor (slice_set rings fabric []) (remembered fabric events)
set_stand fabric rings events somebody all stand = record { are = λ f small. at f small }
  where
    at : (f : ℕ) → f ≤ 16 → ring_of f (slice_set rings fabric []) ≡ latest f (remembered fabric events)
    at f small = elim (cases_Bool (nat_eq f fabric)) [
      | inl same ↦
          let here : f ≡ fabric = eqb-true f fabric same in
          let within : fabric < length rings = omega (arith, here, small, all) in
          subst (λ g. ring_of g (slice_set rings fabric []) ≡ latest g (remembered fabric events)) (sym here)
          (get_or-set_same rings fabric [] [] within ∙ sym (ap (λ (l : List Happened). keep_last (capacity_of fabric) l) (none_left fabric events somebody) ∙ drop_all (0 - capacity_of fabric) [] (omega arith)))
      | inr other ↦
          let apart : f ≡ fabric → ⊥ = eqb-false f fabric other in
          get_or-set_other rings fabric f [] [] apart ∙ stand.are f small ∙ ap (λ (l : List Happened). keep_last (capacity_of f) l) (sym (others_stay fabric f events apart))
    ]

pub forgotten_stand : (fabric : ℕ) (rings : List (List Happened)) (events : List Happened) → length rings ≡ 17 → StandFor rings events → StandFor (forgotten fabric rings) (remembered fabric events)
forgotten_stand fabric rings events all stand = elim (cases_Bool (fabric == 0)) [
  | inl nobody ↦
      let stays : forgotten fabric rings ≡ rings = cond-true (fabric == 0) rings (slice_set rings fabric []) nobody in
      subst (λ (rs : List (List Happened)). StandFor rs (remembered fabric events)) (sym stays) (subst (λ (es : List Happened). StandFor rings es) (sym (all_remembered fabric events nobody)) stand)
  | inr somebody ↦
      let goes : forgotten fabric rings ≡ slice_set rings fabric [] = cond-false (fabric == 0) rings (slice_set rings fabric []) somebody in
      subst (λ (rs : List (List Happened)). StandFor rs (remembered fabric events)) (sym goes) (set_stand fabric rings events somebody all stand)
]

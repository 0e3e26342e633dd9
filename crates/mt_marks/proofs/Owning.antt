-- What two lists of rows have of a fabric, place by place, and the own part of two states, part by part.
use Rattle.std.proofs.Common.{◌≡◌, ◌+◌, ◌<◌, ◌≤◌, Bool, inl, inr, List, [], ◌∷◌, ◌++◌, ℕ, refl, sym, ap, subst, ◌∙◌, add-one, drop, filter, get_or, length}
use Rattle.std.proofs.Math.Seq.{drop-cons}
use Rattle.std.proofs.lemmas.Bool.{cases_Bool}
use Rattle.std.proofs.lemmas.List.{drop_all}
use Rattle.std.proofs.lemmas.List.Elements.{filter-append}
use Rattle.mt_runs.specs.mt_machine.Isolation.{Own, owns}
use Rattle.mt_model.specs.rows.Sight.{stands_at}
use Rattle.mt_model.specs.declared.rows.place.Place.{Place}
use Rattle.mt_model.specs.declared.rows.place.Row.{Row}
use Rattle.mt_marks.specs.Placed.{standing}

filter_twice : {X : Type 0} (p q : X → Bool) (xs : List X) → filter p (filter q xs) ≡ filter q (filter p xs)
filter_twice p q [] = refl
filter_twice {X} p q (x ∷ xs) =
    let rest = filter_twice p q xs in
    elim (cases_Bool (p x)) [
      | inl in_p ↦ elim (cases_Bool (q x)) [
        | inl in_q ↦ rw (in_q, in_p, in_q) (ap (λ (l : List X). x ∷ l) rest)
        | inr off_q ↦ rw (off_q, in_p, off_q) rest
      ]
      | inr off_p ↦ elim (cases_Bool (q x)) [
        | inl in_q ↦ rw (in_q, off_p) rest
        | inr off_q ↦ rw (off_q, off_p) rest
      ]
    ]

module _ (fabric : ℕ) (one other : List Row) where
  -- the same at these places
  abbrev pub AreSameAt : List Place → Type 0
  AreSameAt places = filter (owns fabric) (standing places one) ≡ filter (owns fabric) (standing places other)

  -- the same at one place more
  one_more : (p : Place) (places : List Place) → filter (owns fabric) (filter (stands_at p) one) ≡ filter (owns fabric) (filter (stands_at p) other) → AreSameAt places → AreSameAt (p ∷ places)
  one_more p places here behind =
      filter-append (owns fabric) (filter (stands_at p) one) (standing places one)
      ∙ (λ i. here i ++ behind i)
      ∙ sym (filter-append (owns fabric) (filter (stands_at p) other) (standing places other))

  module _ (places : List Place) (n : ℕ) (all : AreSameAt (drop n places) → filter (owns fabric) one ≡ filter (owns fabric) other) where
    -- where the rows behind the next place are the same, all are
    pub past_next : (d : Place) → n < length places → filter (owns fabric) (filter (stands_at (get_or places n d)) one) ≡ filter (owns fabric) (filter (stands_at (get_or places n d)) other)
        → AreSameAt (drop (n + 1) places) → filter (owns fabric) one ≡ filter (owns fabric) other
    past_next d within here behind =
        let p = get_or places n d in
        let next : p ∷ drop (n + 1) places ≡ drop n places = ap (λ (k : ℕ). p ∷ drop k places) (add-one n) ∙ sym (drop-cons places n d within) in
        all (subst AreSameAt next (one_more p (drop (n + 1) places) here behind))

    -- behind the last place there are none
    pub past_last : length places ≤ n → filter (owns fabric) one ≡ filter (owns fabric) other
    past_last past = all (subst AreSameAt (sym (drop_all n places past)) refl)

  -- where all are the same, those of each place are
  pub at_each : (p : Place) → filter (owns fabric) one ≡ filter (owns fabric) other → filter (owns fabric) (filter (stands_at p) one) ≡ filter (owns fabric) (filter (stands_at p) other)
  at_each p same = filter_twice (owns fabric) (stands_at p) one ∙ ap (filter (stands_at p)) same ∙ sym (filter_twice (owns fabric) (stands_at p) other)

-- own parts that are the same in each field
pub all_same : (one other : Own) → (one.rows ≡ other.rows) × (one.entries ≡ other.entries) × (one.fabrics ≡ other.fabrics)
    → (one.saved ≡ other.saved) × (one.sessions ≡ other.sessions) × (one.is_plain ≡ other.is_plain) → one ≡ other
all_same one other tables sessions = λ i. record {
  rows = tables.0 i;
  entries = tables.1 i;
  fabrics = tables.2 i;
  saved = sessions.0 i;
  sessions = sessions.1 i;
  is_plain = sessions.2 i;
}

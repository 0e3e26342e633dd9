-- What is answered of a counter that was accepted, and how often one is accepted.
use Rattle.std.proofs.Common.{◌≡◌, ℕ, ◌+◌, ◌≤◌, Bool, true, false, cond, List, [], ◌∷◌, ◌++◌, nat_eq, nat_lt, count_by, IsTrue, if◌then◌else◌, ◌⊎◌, ◌↔◌, inl, inr, refl, ap, sym, ◌∙◌, arith}
use Rattle.std.proofs.lemmas.Bool.{ltb-true, ltb-false, le-ltb, both_ways, false_from_ne_true, ne_eqb, eq-eqb, or_parts, cases_eq, cond-true, cond-false}
use Rattle.std.proofs.lemmas.List.Sums.{sum_by-cons, sum_by_push}
use Rattle.mt_window.specs.declared.window.Seen.{Seen}
use Rattle.mt_window.specs.declared.window.Seen.TheVariants.{Fresh, Duplicate, Old}
use Rattle.mt_window.specs.Counters.{greatest_of, reach, was_accepted, seen, accepted_by, accepted_after, accepted_over}
use Rattle.mt_window.proofs.Accepted.{not_accepted_above}

-- the answer by its three tests: whether the counter is above the greatest, too far below it, accepted
abbrev answer_by : Bool → Bool → Bool → Seen
answer_by above far was = if above then Fresh else if far then Old else if was then Duplicate else Fresh

not_fresh : (above far was : Bool) → above ≡ false → was ≡ true → answer_by above far was ≡ Fresh → ⊥
not_fresh true far was low is e = absurd (both_ways true low refl)
not_fresh false true was low is e = cc
not_fresh false false true low is e = cc
not_fresh false false false low is e = absurd (both_ways false refl is)

fresh_near : (greatest counter : ℕ) (above far was : Bool) → nat_lt greatest counter ≡ above → nat_lt (counter + reach) greatest ≡ far
    → answer_by above far was ≡ Fresh → greatest ≤ counter + reach
fresh_near greatest counter true far was a f e = omega (arith, ltb-true greatest counter a)
fresh_near greatest counter false true was a f e = cc
fresh_near greatest counter false false was a f e = ltb-false (counter + reach) greatest f

new_is_fresh : (above far was : Bool) → far ≡ false → was ≡ false → answer_by above far was ≡ Fresh
new_is_fresh true far was near new = refl
new_is_fresh false true was near new = absurd (both_ways true near refl)
new_is_fresh false false true near new = absurd (both_ways true new refl)
new_is_fresh false false false near new = refl

module _ (start : ℕ) (accepted : List ℕ) (counter : ℕ) where
  pub accepted-not_fresh : IsTrue (was_accepted accepted counter) → seen start accepted counter ≡ Fresh → ⊥
  accepted-not_fresh is = not_fresh (nat_lt (greatest_of start accepted) counter) (nat_lt (counter + reach) (greatest_of start accepted)) (was_accepted accepted counter) low is
    where
      low : nat_lt (greatest_of start accepted) counter ≡ false
      low = false_from_ne_true _ (λ over. both_ways (was_accepted accepted counter) (not_accepted_above start accepted counter (ltb-true (greatest_of start accepted) counter over)) is)

  pub fresh_is_new : (seen start accepted counter ≡ Fresh) ↔ ((greatest_of start accepted ≤ counter + reach) × (was_accepted accepted counter ≡ false))
  fresh_is_new = (
    λ e. (fresh_near (greatest_of start accepted) counter _ _ (was_accepted accepted counter) refl refl e, false_from_ne_true _ (λ was. accepted-not_fresh was e)),
    λ new. new_is_fresh (nat_lt (greatest_of start accepted) counter) _ _ (le-ltb _ _ new.0) new.1,
  )

-- 1 for the counter, 0 for any other
abbrev one_at : ℕ → ℕ → ℕ
one_at counter x = cond (nat_eq counter x) 1 0

one_at-same : (counter x : ℕ) → counter ≡ x → one_at counter x ≡ 1
one_at-same counter x same = cond-true (nat_eq counter x) 1 0 (eq-eqb counter x same)

one_at-other : (counter x : ℕ) → nat_eq counter x ≡ false → one_at counter x ≡ 0
one_at-other counter x apart = cond-false (nat_eq counter x) 1 0 apart

-- a counter that is not in the list counts 0 there
count_by-not_accepted : (counter : ℕ) (accepted : List ℕ) → was_accepted accepted counter ≡ false → count_by (nat_eq counter) accepted ≡ 0
count_by-not_accepted counter [] none = refl
count_by-not_accepted counter (x ∷ accepted) none =
    let parts : (nat_eq counter x ≡ false) × (was_accepted accepted counter ≡ false) = or_parts (nat_eq counter x) (was_accepted accepted counter) none in
    omega (arith, sum_by-cons (one_at counter) x accepted, one_at-other counter x parts.0, count_by-not_accepted counter accepted parts.1)

module _ (counter start : ℕ) where
  once_more : (accepted : List ℕ) (next : ℕ) → count_by (nat_eq counter) accepted ≤ 1 → was_accepted accepted next ≡ false
      → (counter ≡ next) ⊎ (counter ≡ next → ⊥) → count_by (nat_eq counter) (accepted ++ next ∷ []) ≤ 1
  once_more accepted next once none (inl same) =
      let before : count_by (nat_eq counter) accepted ≡ 0 = count_by-not_accepted counter accepted (ap (was_accepted accepted) same ∙ none) in
      omega (arith, sum_by_push (one_at counter) accepted next, before, one_at-same counter next same)
  once_more accepted next once none (inr apart) =
      omega (arith, sum_by_push (one_at counter) accepted next, once, one_at-other counter next (ne_eqb counter next apart))

  once_by : (accepted : List ℕ) (next : ℕ) (answer : Seen) → answer ≡ seen start accepted next → count_by (nat_eq counter) accepted ≤ 1
      → count_by (nat_eq counter) (accepted_by answer accepted next) ≤ 1
  once_by accepted next Fresh is once =
      once_more accepted next once (false_from_ne_true _ (λ was. accepted-not_fresh start accepted next was (sym is))) (cases_eq counter next)
  once_by accepted next Duplicate is once = once
  once_by accepted next Old is once = once

  pub once-accepted_over : (accepted counters : List ℕ) → count_by (nat_eq counter) accepted ≤ 1 → count_by (nat_eq counter) (accepted_over start accepted counters) ≤ 1
  once-accepted_over accepted [] once = once
  once-accepted_over accepted (next ∷ counters) once =
      once-accepted_over (accepted_after start accepted next) counters (once_by accepted next (seen start accepted next) refl once)

-- The marks of a window, when the greatest counter rises and when a counter below it is noted.
use Rattle.std.proofs.Common.{◌≡◌, ℕ, ◌+◌, ◌-◌, ◌*◌, ◌%◌, ◌/◌, ◌^◌, ◌≤◌, ◌<◌, ◌⊎◌, inl, inr, List, [], ◌∷◌, ◌++◌, nat_eq, bit_or, ap, sym, ◌∙◌, arith}
use Rattle.std.specs.Int.{bit_at, w64}
use Rattle.std.proofs.lemmas.Nat.{pow_pos, shr_split}
use Rattle.std.proofs.lemmas.Nat.Bits.{bit_at-zero, bit_at_cat_low, bit_at_cat_high, bit_at_set_same, bit_at_set_other}
use Rattle.std.proofs.lemmas.Bool.{cases_eq, cases_lt}
use Rattle.mt_window.specs.declared.window.Window.{Window}
use Rattle.mt_window.specs.Counters.{was_accepted}
use Rattle.mt_window.specs.Standing.{StandsFor}
use Rattle.mt_window.proofs.Accepted.{greatest_of-append, not_accepted_above, was_accepted-append_same, was_accepted-append_other}

-- a bit of what a word keeps of a number
bit_at-word : (x i : ℕ) → i < 64 → bit_at (x % 2 ^ 64) i ≡ bit_at x i
bit_at-word x i low = sym (bit_at_cat_low (x / 2 ^ 64) 64 (x % 2 ^ 64) i low) ∙ ap (λ y. bit_at y i) (shr_split x 64)

pub bit_at-moved_low : (marks rise i : ℕ) → i < rise → i < 64 → bit_at (marks * 2 ^ rise % 2 ^ 64) i ≡ 0
bit_at-moved_low marks rise i below low =
    let plain : marks * 2 ^ rise ≡ marks * 2 ^ rise + 0 = omega arith in
    bit_at-word (marks * 2 ^ rise) i low ∙ ap (λ x. bit_at x i) plain ∙ bit_at_cat_low marks rise 0 i below ∙ bit_at-zero i

pub bit_at-moved_high : (marks rise i : ℕ) → rise ≤ i → i < 64 → bit_at (marks * 2 ^ rise % 2 ^ 64) i ≡ bit_at marks (i - rise)
bit_at-moved_high marks rise i from low =
    let plain : marks * 2 ^ rise ≡ marks * 2 ^ rise + 0 = omega arith in
    bit_at-word (marks * 2 ^ rise) i low ∙ ap (λ x. bit_at x i) plain ∙ bit_at_cat_high marks rise 0 i (pow_pos rise) from

module _ (start : ℕ) (accepted : List ℕ) (window : Window) (stands : StandsFor window start accepted) (counter : ℕ) where
  -- a counter above the greatest is noted at the lowest bit of the marks that were moved
  module _ (above : window.greatest < counter) (word : ℕ)
      (free : (i : ℕ) → i < counter - window.greatest → i < 64 → bit_at word i ≡ 0)
      (kept : (i : ℕ) → counter - window.greatest ≤ i → i < 64 → bit_at word i ≡ bit_at window.marks (i - (counter - window.greatest))) where
    mark_below : (other : ℕ) → other < counter → counter ≤ other + 32 → (window.greatest < other) ⊎ (other ≤ window.greatest)
        → nat_eq (bit_at word (counter - other)) 1 ≡ was_accepted accepted other
    mark_below other below near (inl over) =
        ap (λ d. nat_eq d 1) (free (counter - other) (omega arith) (omega arith))
        ∙ sym (not_accepted_above start accepted other (omega (arith, stands.greatest)))
    mark_below other below near (inr under) =
        let place : counter - other - (counter - window.greatest) ≡ window.greatest - other = omega arith in
        ap (λ d. nat_eq d 1) (kept (counter - other) (omega arith) (omega arith) ∙ ap (bit_at window.marks) place)
        ∙ stands.marks other under (omega arith)

    mark_is : (other : ℕ) → other ≤ counter → counter ≤ other + 32 → (other ≡ counter) ⊎ (other ≡ counter → ⊥)
        → nat_eq (bit_at (bit_or word 1) (counter - other)) 1 ≡ was_accepted (accepted ++ counter ∷ []) other
    mark_is other within near (inl same) =
        let lowest : counter - other ≡ 0 = omega arith in
        ap (λ i. nat_eq (bit_at (bit_or word 1) i) 1) lowest
        ∙ ap (λ d. nat_eq d 1) (bit_at_set_same w64 word 0 (omega arith))
        ∙ sym (ap (was_accepted (accepted ++ counter ∷ [])) same ∙ was_accepted-append_same accepted counter)
    mark_is other within near (inr apart) =
        let below : other < counter = omega arith in
        ap (λ d. nat_eq d 1) (bit_at_set_other w64 word 0 (omega arith) (counter - other) (λ e. omega arith))
        ∙ mark_below other below near (cases_lt window.greatest other)
        ∙ sym (was_accepted-append_other accepted counter other apart)

    pub stands-risen : StandsFor (record { greatest = counter; marks = bit_or word 1 }) start (accepted ++ counter ∷ [])
    stands-risen = record {
      greatest = omega (arith, stands.greatest, greatest_of-append start accepted counter);
      marks = λ other within near. mark_is other within near (cases_eq other counter);
    }

  -- a counter that is not above the greatest is noted at its bit
  module _ (within : counter ≤ window.greatest) (near : window.greatest ≤ counter + 32) where
    noted : ℕ
    noted = bit_or window.marks (1 * 2 ^ (window.greatest - counter) % 2 ^ 64)

    noted_is : (other : ℕ) → other ≤ window.greatest → window.greatest ≤ other + 32 → (other ≡ counter) ⊎ (other ≡ counter → ⊥)
        → nat_eq (bit_at noted (window.greatest - other)) 1 ≡ was_accepted (accepted ++ counter ∷ []) other
    unfolding noted
    noted_is other low close (inl same) =
        ap (λ c. nat_eq (bit_at noted (window.greatest - c)) 1) same
        ∙ ap (λ d. nat_eq d 1) (bit_at_set_same w64 window.marks (window.greatest - counter) (omega arith))
        ∙ sym (ap (was_accepted (accepted ++ counter ∷ [])) same ∙ was_accepted-append_same accepted counter)
    noted_is other low close (inr apart) =
        ap (λ d. nat_eq d 1) (bit_at_set_other w64 window.marks (window.greatest - counter) (omega arith) (window.greatest - other) (λ e. apart (omega arith)))
        ∙ stands.marks other low close
        ∙ sym (was_accepted-append_other accepted counter other apart)

    pub stands-noted : StandsFor (record { greatest = window.greatest; marks = bit_or window.marks (1 * 2 ^ (window.greatest - counter) % 2 ^ 64) }) start (accepted ++ counter ∷ [])
    unfolding noted
    stands-noted = record {
      greatest = omega (arith, stands.greatest, greatest_of-append start accepted counter);
      marks = λ other low close. noted_is other low close (cases_eq other counter);
    }

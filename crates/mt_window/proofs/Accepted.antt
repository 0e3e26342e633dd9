-- The list of accepted counters: its greatest, and what is in it.
use Rattle.std.proofs.Common.{◌≡◌, ℕ, ◌≤◌, ◌<◌, max, true, false, ◌||◌, List, [], ◌∷◌, ◌++◌, nat_eq, refl, ap, ◌∙◌, arith}
use Rattle.std.proofs.lemmas.List.Sums.{fold-append}
use Rattle.std.proofs.lemmas.List.Folds.{list_any-append}
use Rattle.std.proofs.lemmas.Bool.{ne_eqb, eq-eqb, or_right}
use Rattle.std.proofs.Math.Bool.{or-false}
use Rattle.mt_window.specs.Counters.{greatest_of, was_accepted}

-- a counter more
pub greatest_of-append : (start : ℕ) (accepted : List ℕ) (counter : ℕ) → greatest_of start (accepted ++ counter ∷ []) ≡ max (greatest_of start accepted) counter
greatest_of-append start accepted counter = fold-append max start accepted (counter ∷ [])

pub start_le-greatest_of : (start : ℕ) (accepted : List ℕ) → start ≤ greatest_of start accepted
start_le-greatest_of start [] = omega arith
start_le-greatest_of start (c ∷ accepted) = omega (arith, start_le-greatest_of (max start c) accepted)

-- no accepted counter is above the greatest
pub not_accepted_above : (start : ℕ) (accepted : List ℕ) (counter : ℕ) → greatest_of start accepted < counter → was_accepted accepted counter ≡ false
not_accepted_above start [] counter above = refl
not_accepted_above start (c ∷ accepted) counter above =
    let apart : nat_eq counter c ≡ false = ne_eqb counter c (λ e. absurd (omega (arith, start_le-greatest_of (max start c) accepted))) in
    ap (λ b. b || was_accepted accepted counter) apart ∙ not_accepted_above (max start c) accepted counter above

-- the counter that was added is in the list, and of another the list tells what it told before
pub was_accepted-append_same : (accepted : List ℕ) (counter : ℕ) → was_accepted (accepted ++ counter ∷ []) counter ≡ true
was_accepted-append_same accepted counter =
    list_any-append (nat_eq counter) accepted (counter ∷ [])
    ∙ or_right (was_accepted accepted counter) _ (ap (λ b. b || false) (eq-eqb counter counter refl))

pub was_accepted-append_other : (accepted : List ℕ) (counter other : ℕ) → (other ≡ counter → ⊥) → was_accepted (accepted ++ counter ∷ []) other ≡ was_accepted accepted other
was_accepted-append_other accepted counter other apart =
    list_any-append (nat_eq other) accepted (counter ∷ [])
    ∙ ap (λ b. was_accepted accepted other || (b || false)) (ne_eqb other counter apart)
    ∙ or-false (was_accepted accepted other)

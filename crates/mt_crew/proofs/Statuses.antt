-- The first status that is not 0.
use Rattle.std.proofs.Common.{◌≡◌, ◌≢◌, ◌∙◌, ℕ, List, [], ◌∷◌, ◌++◌, sym, ap, cond, ne_eqb}
use mathlib.Core.Logic.{dite}
use native.Mathlib.Decide.{ℕ_discrete}
use Rattle.mt_crew.specs.Gathering.{first_fault, first_of}

of_none : (status later : ℕ) → status ≡ 0 → first_of status later ≡ later
of_none status later none = ap (λ (n : ℕ). first_of n later) none

of_one : (status later : ℕ) → status ≢ 0 → first_of status later ≡ status
of_one status later one = ap (λ b. cond b later status) (ne_eqb status 0 one)

first_of_three : (a b c : ℕ) → first_of a (first_of b c) ≡ first_of (first_of a b) c
first_of_three a b c = dite (ℕ_discrete a 0)
    (λ none. of_none a (first_of b c) none ∙ sym (ap (λ (n : ℕ). first_of n c) (of_none a b none)))
    (λ one. of_one a (first_of b c) one ∙ sym (ap (λ (n : ℕ). first_of n c) (of_one a b one) ∙ of_one a c one))

pub first_push : (statuses : List ℕ) (last : ℕ) → first_fault (statuses ++ last ∷ []) ≡ first_of (first_fault statuses) last
first_push [] last = dite (ℕ_discrete last 0) (λ none. of_none last 0 none ∙ sym none) (λ one. of_one last 0 one)
first_push (status ∷ statuses) last = ap (first_of status) (first_push statuses last) ∙ first_of_three status (first_fault statuses) last

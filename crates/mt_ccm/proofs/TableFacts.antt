-- A table holds what a definition gives for each index: the checker computes both.
use Rattle.std.proofs.Common.{◌≡◌, ℕ, ◌<◌, List, true, nat_eq, get_or}
use Rattle.std.proofs.lemmas.Bool.{agree_below, agree_below_at, eqb-true}
use Rattle.std.proofs.lemmas.Slice.Eq.{bytes_eq-Decides}
use Rattle.std.specs.Str.{bytes_eq}
use Rattle.mt_ccm.specs.Words.{word_bytes}

pub entry_is : (table : List ℕ) (f : ℕ → ℕ) (n : ℕ) → agree_below (λ b. nat_eq (get_or table b 0) (f b)) (λ _. true) n ≡ true
    → (b : ℕ) → b < n → get_or table b 0 ≡ f b
entry_is table f n all b low = eqb-true _ _ (agree_below_at (λ b. nat_eq (get_or table b 0) (f b)) (λ _. true) n b all low)

pub word_is : (table : List ℕ) (f : ℕ → List ℕ) → agree_below (λ b. bytes_eq (word_bytes (get_or table b 0)) (f b)) (λ _. true) 256 ≡ true
    → (b : ℕ) → b < 256 → word_bytes (get_or table b 0) ≡ f b
word_is table f all b low =
    (bytes_eq-Decides (word_bytes (get_or table b 0)) (f b)).0
    (agree_below_at (λ b. bytes_eq (word_bytes (get_or table b 0)) (f b)) (λ _. true) 256 b all low)

-- How many bytes numbers, strings and arrays take at most.
use Rattle.std.proofs.Common.{◌≡◌, inl, inr, ℕ, zero, suc, ◌+◌, ◌≤◌, ◌<◌, ◌^◌, nat_le, nat_lt, if◌then◌else◌, Bool, true, List, [], ◌∷◌, length, arith}
use Rattle.std.proofs.lemmas.Bool.{and_parts, cases_Bool, leb-true, lt-ltb}
use Rattle.std.specs.List.{list_all}
use Rattle.mt_tlv.specs.Tree.{Tree}
use Rattle.mt_model.specs.Trees.{untagged}
use Rattle.mt_lasting.specs.Values.{array_if}
use Rattle.mt_lasting.proofs.TreeSizes.{number_size, size, sizes, string_size, value_size}

-- Numbers.

pub in_one : (n : ℕ) → n < 2 ^ 8 → number_size n ≤ 1
unfolding number_size
in_one n small = rw (lt-ltb n (2 ^ 8) small) (omega arith)

pub in_two : (n : ℕ) → n < 2 ^ 16 → number_size n ≤ 2
unfolding number_size
in_two n small = elim (cases_Bool (nat_lt n (2 ^ 8))) [
  | inl one ↦ rw one (omega arith)
  | inr more ↦ rw (more, lt-ltb n (2 ^ 16) small) (omega arith)
]

pub in_four : (n : ℕ) → n < 2 ^ 32 → number_size n ≤ 4
unfolding number_size
in_four n small = elim (cases_Bool (nat_lt n (2 ^ 8))) [
  | inl one ↦ rw one (omega arith)
  | inr more ↦ elim (cases_Bool (nat_lt n (2 ^ 16))) [
    | inl two ↦ rw (more, two) (omega arith)
    | inr most ↦ rw (more, most, lt-ltb n (2 ^ 32) small) (omega arith)
  ]
]

pub in_eight : (n : ℕ) → number_size n ≤ 8
unfolding number_size
in_eight n = elim (cases_Bool (nat_lt n (2 ^ 8))) [
  | inl one ↦ rw one (omega arith)
  | inr more ↦ elim (cases_Bool (nat_lt n (2 ^ 16))) [
    | inl two ↦ rw (more, two) (omega arith)
    | inr most ↦ elim (cases_Bool (nat_lt n (2 ^ 32))) [
      | inl four ↦ rw (more, most, four) (omega arith)
      | inr eight ↦ rw (more, most, eight) (omega arith)
    ]
  ]
]

-- the bytes of a number of at most this size
abbrev pub most_size : ℕ → ℕ
most_size greatest = if nat_le greatest 0xff then 1
    else if nat_le greatest 0xffff then 2
    else if nat_le greatest 0xffffffff then 4
    else 8

pub within : (greatest n : ℕ) → n ≤ greatest → number_size n ≤ most_size greatest
within greatest n least = elim (cases_Bool (nat_le greatest 0xff)) [
  | inl one ↦ rw one (in_one n (omega (arith, least, leb-true greatest 0xff one)))
  | inr more ↦ elim (cases_Bool (nat_le greatest 0xffff)) [
    | inl two ↦ rw (more, two) (in_two n (omega (arith, least, leb-true greatest 0xffff two)))
    | inr most ↦ elim (cases_Bool (nat_le greatest 0xffffffff)) [
      | inl four ↦ rw (more, most, four) (in_four n (omega (arith, least, leb-true greatest 0xffffffff four)))
      | inr eight ↦ rw (more, most, eight) (in_eight n)
    ]
  ]
]

-- Strings.

pub string_within : (most n : ℕ) → nat_le n most ≡ true → string_size n ≤ most_size most + most
string_within most n fits = omega (arith, within most n (leb-true n most fits), leb-true n most fits)

-- Arrays.

-- so many times a number
abbrev pub times : ℕ → ℕ → ℕ
times zero n = 0
times (suc k) n = n + times k n

pub all_sizes : {X : Type 0} (of : X → Tree) (test : X → Bool) (m : ℕ) → ((x : X) → test x ≡ true → size (of x) ≤ m)
    → (k : ℕ) (xs : List X) → length xs ≤ k → list_all test xs ≡ true → sizes (untagged of xs) ≤ times k (1 + m)
all_sizes of test m each k [] few all = omega arith
all_sizes of test m each zero (x ∷ xs) few all = absurd (omega (arith, few))
all_sizes of test m each (suc k) (x ∷ xs) few all =
    let both = and_parts (test x) (list_all test xs) all in
    omega (arith, each x both.0, all_sizes of test m each k xs (omega (arith, few)) both.1)

pub array_size : {X : Type 0} (of : X → Tree) (test : X → Bool) (m : ℕ) → ((x : X) → test x ≡ true → size (of x) ≤ m)
    → (k : ℕ) (xs : List X) → length xs ≤ k → list_all test xs ≡ true → value_size (array_if of xs) ≤ 3 + times k (1 + m)
array_size of test m each k [] few all = omega arith
array_size of test m each k (x ∷ xs) few all = omega (arith, all_sizes of test m each k (x ∷ xs) few all)

-- The key stream, place by place, and what a mask leaves.
use Rattle.std.proofs.Common.{◌≡◌, ℕ, zero, suc, ◌+◌, ◌-◌, ◌*◌, ◌/◌, ◌%◌, ◌<◌, ◌≤◌, List, ◌++◌, length, take, drop, bit_xor, slice_index, refl, sym, ap, ◌∙◌, arith, inl, inr}
use Rattle.std.proofs.lemmas.Bool.{cases_lt}
use Rattle.std.proofs.lemmas.List.{ext_get_or, get_or-append_right, get_or-drop, get_or-take, get_or_append_left, length-append, length-drop, length-take-le}
use Rattle.mt_ccm.specs.Aes.{cipher, round_key}
use Rattle.mt_ccm.specs.Ccm.{block_count, counter_block, key_stream, masked}
use Rattle.mt_ccm.specs.Steps.{stream_byte}
use Rattle.mt_ccm.proofs.StreamFacts.{length-xored, slice_index-xored}

pub length-cipher : (key block : List ℕ) → length (cipher key block) ≡ 16
unfolding cipher round_key
length-cipher key block = refl

pub length-key_stream : (key nonce : List ℕ) (i n : ℕ) → length (key_stream key nonce i n) ≡ 16 * n
unfolding key_stream
length-key_stream key nonce i zero = refl
length-key_stream key nonce i (suc n) =
    omega (
      arith,
      length-append (cipher key (counter_block nonce i)) (key_stream key nonce (i + 1) n),
      length-cipher key (counter_block nonce i),
      length-key_stream key nonce (i + 1) n,
    )

byte_at : List ℕ → List ℕ → ℕ → ℕ → ℕ
byte_at key nonce i j = slice_index (cipher key (counter_block nonce i)) j

key_stream_at : (key nonce : List ℕ) (i n k : ℕ) → k < 16 * n → slice_index (key_stream key nonce i n) k ≡ byte_at key nonce (k / 16 + i) (k % 16)
unfolding key_stream byte_at
key_stream_at key nonce i zero k low = absurd (omega arith)
key_stream_at key nonce i (suc n) k low =
    let first : List ℕ = cipher key (counter_block nonce i) in
    let rest : List ℕ = key_stream key nonce (i + 1) n in
    let long : length first ≡ 16 = length-cipher key (counter_block nonce i) in
    elim (cases_lt k 16) [
      | inl lt ↦
          let block : i ≡ k / 16 + i = omega arith in
          let place : k ≡ k % 16 = omega arith in
          get_or_append_left first rest 0 k (omega arith) ∙ (λ j. byte_at key nonce (block j) (place j))
      | inr ge ↦
          let block : (k - 16) / 16 + (i + 1) ≡ k / 16 + i = omega arith in
          let place : (k - 16) % 16 ≡ k % 16 = omega arith in
          get_or-append_right first rest 16 k 0 long ge
          ∙ key_stream_at key nonce (i + 1) n (k - 16) (omega arith)
          ∙ (λ j. byte_at key nonce (block j) (place j))
    ]

stream_is : (key nonce : List ℕ) (n k : ℕ) → k < 16 * n → slice_index (key_stream key nonce 1 n) k ≡ stream_byte key nonce k
unfolding stream_byte byte_at
stream_is key nonce n k low = key_stream_at key nonce 1 n k low

pub length-masked : (key nonce plain : List ℕ) → length (masked key nonce plain) ≡ length plain
unfolding masked
length-masked key nonce plain =
    omega (
      arith,
      length-xored plain (key_stream key nonce 1 (block_count (length plain))),
      length-key_stream key nonce 1 (block_count (length plain)),
    )

pub masked_at : (key nonce plain : List ℕ) (k : ℕ) → k < length plain
    → slice_index (masked key nonce plain) k ≡ bit_xor (slice_index plain k) (stream_byte key nonce k)
unfolding masked
masked_at key nonce plain k low =
    let n : ℕ = block_count (length plain) in
    let long : length (key_stream key nonce 1 n) ≡ 16 * n = length-key_stream key nonce 1 n in
    slice_index-xored plain (key_stream key nonce 1 n) k low (omega arith)
    ∙ ap (bit_xor (slice_index plain k)) (stream_is key nonce n k (omega arith))

-- a block of the key stream is added at its place
pub stream_added : (key nonce initial old new stream : List ℕ) (from count i : ℕ) → from ≡ 16 * i → count ≤ 16
    → stream ≡ cipher key (counter_block nonce (i + 1))
    → ((k : ℕ) → k < count → slice_index new (from + k) ≡ bit_xor (slice_index old (from + k)) (slice_index stream k))
    → ((k : ℕ) → k < from → slice_index new k ≡ slice_index old k)
    → ((k : ℕ) → k < 16 * i → slice_index old k ≡ bit_xor (slice_index initial k) (stream_byte key nonce k))
    → ((k : ℕ) → 16 * i ≤ k → slice_index old k ≡ slice_index initial k)
    → (k : ℕ) → k < from + count → slice_index new k ≡ bit_xor (slice_index initial k) (stream_byte key nonce k)
unfolding stream_byte
stream_added key nonce initial old new stream from count i place short is within before done rest k low = elim (cases_lt k from) [
  | inl lt ↦ before k lt ∙ done k (omega arith)
  | inr ge ↦
      let j : ℕ = k - from in
      let at : from + j ≡ k = omega arith in
      let block : i + 1 ≡ k / 16 + 1 = omega arith in
      let byte : j ≡ k % 16 = omega arith in
      let here : slice_index new k ≡ bit_xor (slice_index old k) (slice_index stream j) = rw at at (within j (omega arith)) in
      here ∙ (λ m. bit_xor (rest k (omega arith) m) (slice_index ((is ∙ ap (λ (b : ℕ). cipher key (counter_block nonce b)) block) m) (byte m)))
]

-- the mask by its places
pub mask_is : (key nonce old new : List ℕ) (count : ℕ) → count ≤ length old → length new ≡ length old
    → ((k : ℕ) → k < count → slice_index new k ≡ bit_xor (slice_index old k) (stream_byte key nonce k))
    → ((k : ℕ) → count ≤ k → slice_index new k ≡ slice_index old k)
    → new ≡ masked key nonce (take count old) ++ drop count old
mask_is key nonce old new count room len within after =
    let front : List ℕ = take count old in
    let long : length front ≡ count = length-take-le count old room in
    let size : length (masked key nonce front) ≡ count = length-masked key nonce front ∙ long in
    ext_get_or 0 new (masked key nonce front ++ drop count old)
    (omega (arith, length-append (masked key nonce front) (drop count old), length-drop count old)) (λ k low.
    elim (cases_lt k count) [
      | inl lt ↦
          within k lt ∙ ap (λ (x : ℕ). bit_xor x (stream_byte key nonce k)) (sym (get_or-take count old k 0 lt))
          ∙ sym (get_or_append_left (masked key nonce front) (drop count old) 0 k (omega arith) ∙ masked_at key nonce front k (omega arith))
      | inr ge ↦
          let at : count + (k - count) ≡ k = omega arith in
          after k ge
          ∙ sym (get_or-append_right (masked key nonce front) (drop count old) count k 0 size ge ∙ get_or-drop count old (k - count) 0
          ∙ ap (λ (m : ℕ). slice_index old m) at)
    ])

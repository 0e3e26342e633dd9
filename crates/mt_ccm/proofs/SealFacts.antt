-- Sealing and opening: the mask taken twice is none, and the bytes determine the plaintext.
use Rattle.std.proofs.Common.{◌≡◌, ℕ, ◌+◌, ◌-◌, ◌<◌, ◌≤◌, List, [], ◌∷◌, ◌++◌, length, take, drop, bit_or, bit_xor, slice_index, refl, sym, ap, ◌∙◌, arith, inl, inr}
use Rattle.std.specs.Int.Bits.{xor_assoc, xor_self, xor_zero_l, xor_zero_r}
use Rattle.std.proofs.lemmas.Bool.{cases_lt}
use Rattle.std.proofs.lemmas.Nat.{le_or_l, le_or_r}
use Rattle.std.proofs.lemmas.List.{drop_at, ext_get_or, get_or-append_right, get_or-drop, get_or-take, get_or_append_left, length-append, length-drop, length-take-le, take-append-drop, take_at}
use Rattle.mt_ccm.specs.Aes.{xored}
use Rattle.mt_ccm.specs.Ccm.{Sealed, block_count, key_stream, masked, masked_tag}
use Rattle.mt_ccm.proofs.MaskFacts.{length-key_stream, length-masked}
use Rattle.mt_ccm.proofs.TagFacts.{length-masked_tag}

xor_twice : (a b : ℕ) → bit_xor (bit_xor a b) b ≡ a
xor_twice a b = xor_assoc a b b ∙ ap (bit_xor a) (xor_self b) ∙ xor_zero_r a

pub same_from_xor : (a b : ℕ) → bit_xor a b ≡ 0 → a ≡ b
same_from_xor a b none = sym (xor_twice a b) ∙ ap (λ (x : ℕ). bit_xor x b) none ∙ xor_zero_l b

pub xor_from_same : (a b : ℕ) → a ≡ b → bit_xor a b ≡ 0
xor_from_same a b same = ap (λ (x : ℕ). bit_xor x b) same ∙ xor_self b

xored_twice : (xs ys : List ℕ) → length xs ≤ length ys → xored (xored xs ys) ys ≡ xs
xored_twice [] ys le = refl
xored_twice (x ∷ xs) [] le = absurd (omega arith)
xored_twice (x ∷ xs) (y ∷ ys) le = λ i. xor_twice x y i ∷ xored_twice xs ys (omega arith) i

pub masked_twice : (key nonce plain : List ℕ) → masked key nonce (masked key nonce plain) ≡ plain
unfolding masked
masked_twice key nonce plain =
    let stream : List ℕ = key_stream key nonce 1 (block_count (length plain)) in
    let same : length (xored plain stream) ≡ length plain = length-masked key nonce plain in
    ap (λ (n : ℕ). xored (xored plain stream) (key_stream key nonce 1 (block_count n))) same
    ∙ xored_twice plain stream (omega (arith, length-key_stream key nonce 1 (block_count (length plain))))

-- the last 16 bytes are written over
pub tail_is : (old new tag : List ℕ) (at j : ℕ) → at + 16 ≡ length old → length new ≡ length old → length tag ≡ 16 → 16 ≤ j
    → ((k : ℕ) → k < at → slice_index new k ≡ slice_index old k) → ((k : ℕ) → k < j → slice_index new (at + k) ≡ slice_index tag k)
    → new ≡ take at old ++ tag
tail_is old new tag at j place len size all before written =
    let front : length (take at old) ≡ at = length-take-le at old (omega arith) in
    ext_get_or 0 new (take at old ++ tag) (omega (arith, length-append (take at old) tag)) (λ k low.
    elim (cases_lt k at) [
      | inl lt ↦ before k lt ∙ sym (get_or_append_left (take at old) tag 0 k (omega arith) ∙ get_or-take at old k 0 lt)
      | inr ge ↦
          let e : at + (k - at) ≡ k = omega arith in
          ap (λ (m : ℕ). slice_index new m) (sym e) ∙ written (k - at) (omega arith) ∙ sym (get_or-append_right (take at old) tag at k 0 front ge)
    ])

-- one more byte of the comparison
pub compared_same : (bytes tag : List ℕ) (at j d : ℕ)
    → (d ≡ 0 → (k : ℕ) → k < j → slice_index bytes (at + k) ≡ slice_index tag k)
    → bit_or d (bit_xor (slice_index bytes (at + j)) (slice_index tag j)) ≡ 0
    → (k : ℕ) → k < j + 1 → slice_index bytes (at + k) ≡ slice_index tag k
compared_same bytes tag at j d same none k low =
    let x : ℕ = bit_xor (slice_index bytes (at + j)) (slice_index tag j) in
    let d0 : d ≡ 0 = omega (arith, le_or_l d x) in
    let x0 : x ≡ 0 = omega (arith, le_or_r d x) in
    elim (cases_lt k j) [
      | inl lt ↦ same d0 k lt
      | inr ge ↦
          let e : k ≡ j = omega arith in
          rw e (same_from_xor (slice_index bytes (at + j)) (slice_index tag j) x0)
    ]

pub compared_none : (bytes tag : List ℕ) (at j d : ℕ)
    → (((k : ℕ) → k < j → slice_index bytes (at + k) ≡ slice_index tag k) → d ≡ 0)
    → ((k : ℕ) → k < j + 1 → slice_index bytes (at + k) ≡ slice_index tag k)
    → bit_or d (bit_xor (slice_index bytes (at + j)) (slice_index tag j)) ≡ 0
compared_none bytes tag at j d none same =
    let d0 : d ≡ 0 = none (λ k low. same k (omega arith)) in
    let x0 : bit_xor (slice_index bytes (at + j)) (slice_index tag j) ≡ 0 = xor_from_same _ _ (same j (omega arith)) in
    λ i. bit_or (d0 i) (x0 i)

pub tail_same : (bytes tag : List ℕ) (at j : ℕ) → at + 16 ≡ length bytes → length tag ≡ 16 → 16 ≤ j
    → ((k : ℕ) → k < j → slice_index bytes (at + k) ≡ slice_index tag k) → drop at bytes ≡ tag
tail_same bytes tag at j place size all same =
    let len : length (drop at bytes) ≡ 16 = omega (arith, length-drop at bytes) in
    ext_get_or 0 (drop at bytes) tag (len ∙ sym size) (λ k low. get_or-drop at bytes k 0 ∙ same k (omega arith))

pub tail_at : (bytes tag : List ℕ) (at : ℕ) → drop at bytes ≡ tag → (k : ℕ) → slice_index bytes (at + k) ≡ slice_index tag k
tail_at bytes tag at same k = sym (get_or-drop at bytes k 0) ∙ ap (λ (xs : List ℕ). slice_index xs k) same

module _ (key nonce aad : List ℕ) where
  pub sealed_is : (old middle front tagged new : List ℕ) (n : ℕ) → n ≤ length old → front ≡ take n old
      → middle ≡ masked key nonce (take n old) ++ drop n old → tagged ≡ masked_tag key nonce aad front → new ≡ take n middle ++ tagged
      → Sealed key nonce aad (take n old) new
  unfolding Sealed
  sealed_is old middle front tagged new n le ef em et en =
      let size : length (masked key nonce (take n old)) ≡ n = length-masked key nonce (take n old) ∙ length-take-le n old le in
      let taken : take n middle ≡ masked key nonce (take n old) = ap (take n) em ∙ take_at (masked key nonce (take n old)) (drop n old) n size in
      en ∙ (λ i. taken i ++ (et ∙ ap (masked_tag key nonce aad) ef) i)

  -- the front of the buffer after the mask, and what stays behind it
  pub front_is : (old middle : List ℕ) (n : ℕ) → n ≤ length old → middle ≡ masked key nonce (take n old) ++ drop n old
      → take n middle ≡ masked key nonce (take n old)
  front_is old middle n le em =
      ap (take n) em ∙ take_at (masked key nonce (take n old)) (drop n old) n (length-masked key nonce (take n old) ∙ length-take-le n old le)

  pub back_is : (old middle : List ℕ) (n : ℕ) → n ≤ length old → middle ≡ masked key nonce (take n old) ++ drop n old
      → drop n middle ≡ drop n old
  back_is old middle n le em =
      ap (drop n) em ∙ drop_at (masked key nonce (take n old)) (drop n old) n (length-masked key nonce (take n old) ∙ length-take-le n old le)

  pub opened_is : (old middle front tagged : List ℕ) (n : ℕ) → n ≤ length old → front ≡ take n middle
      → middle ≡ masked key nonce (take n old) ++ drop n old → tagged ≡ masked_tag key nonce aad front → drop n middle ≡ tagged
      → Sealed key nonce aad (take n middle) old
  unfolding Sealed
  opened_is old middle front tagged n le ef em et same =
      let plain : take n old ≡ masked key nonce (take n middle) =
      sym (ap (masked key nonce) (front_is old middle n le em) ∙ masked_twice key nonce (take n old)) in
      let tail : drop n old ≡ masked_tag key nonce aad (take n middle) =
      sym (back_is old middle n le em) ∙ same ∙ et ∙ ap (masked_tag key nonce aad) ef in
      sym (take-append-drop n old) ∙ (λ i. plain i ++ tail i)

  pub length-sealed : (plain bytes : List ℕ) → Sealed key nonce aad plain bytes → length plain + 16 ≡ length bytes
  unfolding Sealed
  length-sealed plain bytes is =
      omega (
        arith,
        ap length is,
        length-append (masked key nonce plain) (masked_tag key nonce aad plain),
        length-masked key nonce plain,
        length-masked_tag key nonce aad plain,
      )

  pub none_in_short : (plain bytes : List ℕ) → length bytes < 16 → Sealed key nonce aad plain bytes → ⊥
  none_in_short plain bytes short is = omega (arith, length-sealed plain bytes is)

  plain_is : (plain bytes : List ℕ) (n : ℕ) → n + 16 ≡ length bytes → Sealed key nonce aad plain bytes → masked key nonce (take n bytes) ≡ plain
  unfolding Sealed
  plain_is plain bytes n len is =
      let size : length (masked key nonce plain) ≡ n = omega (arith, length-masked key nonce plain, length-sealed plain bytes is) in
      ap (masked key nonce) (ap (take n) is ∙ take_at (masked key nonce plain) (masked_tag key nonce aad plain) n size) ∙ masked_twice key nonce plain

  tail_of : (plain bytes : List ℕ) (n : ℕ) → n + 16 ≡ length bytes → Sealed key nonce aad plain bytes → drop n bytes ≡ masked_tag key nonce aad plain
  unfolding Sealed
  tail_of plain bytes n len is =
      let size : length (masked key nonce plain) ≡ n = omega (arith, length-masked key nonce plain, length-sealed plain bytes is) in
      ap (drop n) is ∙ drop_at (masked key nonce plain) (masked_tag key nonce aad plain) n size

  -- where a plaintext is sealed to the bytes, the tags are the same
  pub same_tag : (plain old middle front tagged : List ℕ) (n : ℕ) → n + 16 ≡ length old → front ≡ take n middle
      → middle ≡ masked key nonce (take n old) ++ drop n old → tagged ≡ masked_tag key nonce aad front → Sealed key nonce aad plain old
      → drop n middle ≡ tagged
  same_tag plain old middle front tagged n len ef em et is =
      let le : n ≤ length old = omega arith in
      let found : front ≡ plain = ef ∙ front_is old middle n le em ∙ plain_is plain old n len is in
      back_is old middle n le em ∙ tail_of plain old n len is ∙ sym (et ∙ ap (masked_tag key nonce aad) found)

  pub put_back : (old middle new : List ℕ) (n : ℕ) → n ≤ length old → middle ≡ masked key nonce (take n old) ++ drop n old
      → new ≡ masked key nonce (take n middle) ++ drop n middle → new ≡ old
  put_back old middle new n le em en =
      en ∙ (λ i. (ap (masked key nonce) (front_is old middle n le em) ∙ masked_twice key nonce (take n old)) i ++ back_is old middle n le em i)
      ∙ take-append-drop n old

  -- the bytes determine the plaintext
  pub one_plaintext : (plain other bytes : List ℕ) → Sealed key nonce aad plain bytes → Sealed key nonce aad other bytes → plain ≡ other
  one_plaintext plain other bytes is also =
      let n : ℕ = length plain in
      let len : n + 16 ≡ length bytes = length-sealed plain bytes is in
      sym (plain_is plain bytes n len is) ∙ plain_is other bytes n len also

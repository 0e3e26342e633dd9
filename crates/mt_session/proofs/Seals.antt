-- What is sealed has one plaintext, which is found from the bytes; and how long it all is.
use Rattle.std.proofs.Common.{◌≡◌, ℕ, zero, suc, ◌+◌, ◌-◌, ◌*◌, ◌/◌, ◌≤◌, Bool, true, false, nat_lt, List, [], ◌∷◌, ◌++◌, length, take, drop, replicate, bit_xor, Option, Some, None, refl, sym, ap, ◌∙◌, arith, if◌then◌else◌}
use Rattle.std.specs.Int.Bits.{xor_assoc, xor_self, xor_zero_r}
use Rattle.std.specs.Str.{bytes_eq}
use Rattle.std.proofs.lemmas.Bool.{le-ltb}
use Rattle.std.proofs.lemmas.List.{append_assoc, drop_all, drop_at, take_at, length-append, length-drop, length-replicate, take_all, take-append-drop}
use Rattle.std.proofs.lemmas.Slice.Eq.{bytes_eq-Decides}
use Rattle.mt_ccm.specs.Aes.{cipher, round_key, xored}
use Rattle.mt_ccm.specs.Ccm.{Sealed, block_count, chained, counter_block, formatted, key_stream, masked, masked_tag, tag}
use Rattle.mt_session.specs.Datagrams.{opened, sealed}

length-xored : (xs ys : List ℕ) → length xs ≤ length ys → length (xored xs ys) ≡ length xs
length-xored [] ys le = refl
length-xored (x ∷ xs) [] le = absurd (omega arith)
length-xored (x ∷ xs) (y ∷ ys) le = omega (arith, length-xored xs ys (omega arith))

xored_twice : (xs ys : List ℕ) → length xs ≤ length ys → xored (xored xs ys) ys ≡ xs
xored_twice [] ys le = refl
xored_twice (x ∷ xs) [] le = absurd (omega arith)
xored_twice (x ∷ xs) (y ∷ ys) le = λ i. (xor_assoc x y y ∙ ap (bit_xor x) (xor_self y) ∙ xor_zero_r x) i ∷ xored_twice xs ys (omega arith) i

length-cipher : (key block : List ℕ) → length (cipher key block) ≡ 16
unfolding cipher round_key
length-cipher key block = refl

length-key_stream : (key nonce : List ℕ) (i n : ℕ) → length (key_stream key nonce i n) ≡ 16 * n
unfolding key_stream
length-key_stream key nonce i zero = refl
length-key_stream key nonce i (suc n) =
    omega (
      arith,
      length-append (cipher key (counter_block nonce i)) (key_stream key nonce (i + 1) n),
      length-cipher key (counter_block nonce i),
      length-key_stream key nonce (i + 1) n,
    )

pub length-masked : (key nonce plain : List ℕ) → length (masked key nonce plain) ≡ length plain
unfolding masked
length-masked key nonce plain =
    length-xored plain (key_stream key nonce 1 (block_count (length plain)))
    (omega (arith, length-key_stream key nonce 1 (block_count (length plain))))

masked_twice : (key nonce plain : List ℕ) → masked key nonce (masked key nonce plain) ≡ plain
unfolding masked
masked_twice key nonce plain =
    let stream : List ℕ = key_stream key nonce 1 (block_count (length plain)) in
    let same : length (xored plain stream) ≡ length plain = length-masked key nonce plain in
    ap (λ (n : ℕ). xored (xored plain stream) (key_stream key nonce 1 (block_count n))) same
    ∙ xored_twice plain stream (omega (arith, length-key_stream key nonce 1 (block_count (length plain))))

length-chained : (key y string : List ℕ) (n : ℕ) → length y ≡ 16 → length (chained key y string n) ≡ 16
unfolding chained
length-chained key y string zero whole = whole
length-chained key y string (suc n) whole =
    length-chained key (cipher key (xored y (take 16 string))) (drop 16 string) n (length-cipher key (xored y (take 16 string)))

pub length-masked_tag : (key nonce aad plain : List ℕ) → length (masked_tag key nonce aad plain) ≡ 16
unfolding masked_tag tag
length-masked_tag key nonce aad plain =
    let string : List ℕ = formatted nonce aad plain in
    let y : List ℕ = chained key (replicate 16 0) string (length string / 16) in
    let mask : List ℕ = cipher key (counter_block nonce 0) in
    let long : length y ≡ 16 = length-chained key (replicate 16 0) string (length string / 16) (length-replicate {A = ℕ} 16 0) in
    let wide : length mask ≡ 16 = length-cipher key (counter_block nonce 0) in
    length-xored y mask (omega arith) ∙ long

module _ (key nonce aad : List ℕ) where
  pub length-sealed : (plain : List ℕ) → length (sealed key nonce aad plain) ≡ length plain + 16
  unfolding sealed
  length-sealed plain =
      omega (
        arith,
        length-append (masked key nonce plain) (masked_tag key nonce aad plain),
        length-masked key nonce plain,
        length-masked_tag key nonce aad plain,
      )

  pub sealed_is : (plain bytes : List ℕ) → Sealed key nonce aad plain bytes → bytes ≡ sealed key nonce aad plain
  unfolding Sealed sealed
  sealed_is plain bytes is = is

  pub is_sealed : (plain : List ℕ) → Sealed key nonce aad plain (sealed key nonce aad plain)
  unfolding Sealed sealed
  is_sealed plain = refl

  -- what is opened by its three parts: whether it is too short, whether the tag is right, and the plaintext
  by_parts : Bool → Bool → List ℕ → Option (List ℕ)
  by_parts short same plain = if short then None else if same then Some plain else None

  pub opened-sealed : (plain : List ℕ) → opened key nonce aad (sealed key nonce aad plain) ≡ Some plain
  unfolding opened sealed by_parts
  opened-sealed plain =
      let bytes : List ℕ = masked key nonce plain ++ masked_tag key nonce aad plain in
      let long : length bytes ≡ length plain + 16 = length-sealed plain in
      let count : length bytes - 16 ≡ length plain = omega arith in
      let front : take (length bytes - 16) bytes ≡ masked key nonce plain =
      take_at (masked key nonce plain) (masked_tag key nonce aad plain) (length bytes - 16) (length-masked key nonce plain ∙ sym count) in
      let back : drop (length bytes - 16) bytes ≡ masked_tag key nonce aad plain =
      drop_at (masked key nonce plain) (masked_tag key nonce aad plain) (length bytes - 16) (length-masked key nonce plain ∙ sym count) in
      let found : masked key nonce (take (length bytes - 16) bytes) ≡ plain = ap (masked key nonce) front ∙ masked_twice key nonce plain in
      let enough : nat_lt (length bytes) 16 ≡ false = le-ltb _ _ (omega arith) in
      let right : bytes_eq (drop (length bytes - 16) bytes) (masked_tag key nonce aad (masked key nonce (take (length bytes - 16) bytes))) ≡ true =
      (bytes_eq-Decides _ _).1 (back ∙ ap (masked_tag key nonce aad) (sym found)) in
      λ i. by_parts (enough i) (right i) (found i)

  none_by : (short same : Bool) (plain : List ℕ) → (short ≡ false → same ≡ true → ⊥) → by_parts short same plain ≡ None
  unfolding by_parts
  none_by true same plain apart = refl
  none_by false true plain apart = absurd (apart refl refl)
  none_by false false plain apart = refl

  pub opened-none : (bytes : List ℕ) → ((plain : List ℕ) → Sealed key nonce aad plain bytes → ⊥) → opened key nonce aad bytes ≡ None
  unfolding opened Sealed by_parts
  opened-none bytes none =
      let count : ℕ = length bytes - 16 in
      let plain : List ℕ = masked key nonce (take count bytes) in
      let tail : List ℕ = masked_tag key nonce aad plain in
      none_by (nat_lt (length bytes) 16) (bytes_eq (drop count bytes) tail) plain (λ long right.
      none plain (sym (take-append-drop count bytes)
      ∙ (λ i. sym (masked_twice key nonce (take count bytes)) i ++ (bytes_eq-Decides (drop count bytes) tail).0 right i)))

  pub opened-is : (plain bytes : List ℕ) → Sealed key nonce aad plain bytes → opened key nonce aad bytes ≡ Some plain
  opened-is plain bytes is = ap (opened key nonce aad) (sealed_is plain bytes is) ∙ opened-sealed plain

  parts_of : (short same : Bool) (found plain : List ℕ) → by_parts short same found ≡ Some plain → (same ≡ true) × (found ≡ plain)
  unfolding by_parts
  parts_of true same found plain e = cc
  parts_of false true found plain e = (refl, cc)
  parts_of false false found plain e = cc

  pub opened-only : (plain bytes : List ℕ) → opened key nonce aad bytes ≡ Some plain → Sealed key nonce aad plain bytes
  unfolding opened Sealed by_parts
  opened-only plain bytes is =
      let count : ℕ = length bytes - 16 in
      let found : List ℕ = masked key nonce (take count bytes) in
      let tail : List ℕ = masked_tag key nonce aad found in
      let parts : (bytes_eq (drop count bytes) tail ≡ true) × (found ≡ plain) =
      parts_of (nat_lt (length bytes) 16) (bytes_eq (drop count bytes) tail) found plain is in
      sym (take-append-drop count bytes)
      ∙ (λ i. (sym (masked_twice key nonce (take count bytes)) ∙ ap (masked key nonce) parts.1) i
      ++ ((bytes_eq-Decides (drop count bytes) tail).0 parts.0 ∙ ap (masked_tag key nonce aad) parts.1) i)

-- what stands behind the message header, once it is sealed
pub behind_is : (key nonce head bytes new : List ℕ) → length head ≡ 8 → (plain : List ℕ)
    → (part : List ℕ) → part ≡ drop 8 bytes → Sealed key nonce head (take (length part - 16) part) new
    → bytes ≡ (head ++ plain) ++ replicate 16 0 → take 8 bytes ++ new ≡ head ++ sealed key nonce head plain
behind_is key nonce head bytes new eight plain part is_part is whole =
    let tail : List ℕ = plain ++ replicate 16 0 in
    let parts : bytes ≡ head ++ tail = whole ∙ simp append_assoc in
    let back : part ≡ tail = is_part ∙ ap (drop 8) parts ∙ drop_at head tail 8 eight in
    let zeros : length (replicate {A = ℕ} 16 0) ≡ 16 = length-replicate {A = ℕ} 16 0 in
    let long : length tail ≡ length plain + 16 = omega (arith, length-append plain (replicate 16 0)) in
    let inside : take (length part - 16) part ≡ plain =
    (λ i. take (length (back i) - 16) (back i)) ∙ take_at plain (replicate 16 0) (length tail - 16) (omega arith) in
    λ i. (ap (take 8) parts ∙ take_at head tail 8 eight) i
    ++ (sealed_is key nonce head (take (length part - 16) part) new is ∙ ap (sealed key nonce head) inside) i

-- the rest of some bytes, as a slice is taken
pub rest_of : (n : ℕ) (bytes : List ℕ) → take (length bytes - n) (drop n bytes) ≡ drop n bytes
rest_of n bytes = take_all (length bytes - n) (drop n bytes) (omega (arith, length-drop n bytes))

pub none_behind : (n : ℕ) (bytes : List ℕ) → drop (length bytes - n) (drop n bytes) ≡ []
none_behind n bytes = drop_all (length bytes - n) (drop n bytes) (omega (arith, length-drop n bytes))

-- a vector whose slice was written over
pub written_over : (new items : List ℕ) (len : ℕ) → length new ≡ length items → len ≡ length items
    → take len (new ++ drop (length new) items) ≡ new
written_over new items len same is =
    ap (λ (xs : List ℕ). take len (new ++ xs)) (drop_all (length new) items (omega arith))
    ∙ take_at new [] len (omega arith)

-- AES-CCM (NIST SP 800-38C) with q = 2: a nonce of 13 bytes, a length of 2 bytes and a tag of 16, on lists
-- of numbers. Associated data has fewer than 65,280 bytes and a plaintext fewer than 65,536; section
-- numbers are the standard's.
use Rattle.std.specs.Prelude.{◌≡◌, ℕ, zero, suc, ◌+◌, ◌-◌, ◌*◌, ◌/◌, ◌==◌, List, [], ◌∷◌, ◌++◌, length, take, drop, replicate, if◌then◌else◌}
use Rattle.std.specs.Int.{w16, to_be_bytes}
use Rattle.mt_ccm.specs.Aes.{cipher, xored}

-- how many blocks of 16 bytes hold n bytes
abbrev pub block_count : ℕ → ℕ
block_count n = (n + 15) / 16

-- the bytes, and zeros up to the end of their last block
unfoldable pub padded : List ℕ → List ℕ
padded bytes = bytes ++ replicate (16 * block_count (length bytes) - length bytes) 0

-- B0: the flags, the nonce and the plaintext's length. The flags say whether there is associated data,
-- that a tag has 16 bytes and that the length has 2 (A.2.1).
unfoldable pub first_block : List ℕ → List ℕ → List ℕ → List ℕ
first_block nonce aad plain =
    (if length aad == 0 then 0x39 else 0x79) ∷ nonce ++ to_be_bytes w16 (length plain)

-- the associated data behind its length, padded; nothing where there is none (A.2.2)
unfoldable pub aad_blocks : List ℕ → List ℕ
aad_blocks aad = if length aad == 0 then [] else padded (to_be_bytes w16 (length aad) ++ aad)

-- the formatted blocks B0, B1, .. one after another (A.2)
unfoldable pub formatted : List ℕ → List ℕ → List ℕ → List ℕ
formatted nonce aad plain = first_block nonce aad plain ++ aad_blocks aad ++ padded plain

-- the CBC-MAC of the first n blocks of a string, from the chaining value y on (6.1, steps 2 and 3)
unfoldable pub chained : List ℕ → List ℕ → List ℕ → ℕ → List ℕ
chained key y string zero = y
chained key y string (suc n) = chained key (cipher key (xored y (take 16 string))) (drop 16 string) n

-- T: the CBC-MAC of all formatted blocks (6.1, steps 1 to 4)
unfoldable pub tag : List ℕ → List ℕ → List ℕ → List ℕ → List ℕ
tag key nonce aad plain =
    chained key (replicate 16 0) (formatted nonce aad plain) (length (formatted nonce aad plain) / 16)

-- Ctr i: the flags, the nonce and the index (A.3)
unfoldable pub counter_block : List ℕ → ℕ → List ℕ
counter_block nonce i = 0x01 ∷ nonce ++ to_be_bytes w16 i

-- S i, S (i + 1), .. of n counter blocks, one after another (6.1, steps 5 to 7)
unfoldable pub key_stream : List ℕ → List ℕ → ℕ → ℕ → List ℕ
key_stream key nonce i zero = []
key_stream key nonce i (suc n) = cipher key (counter_block nonce i) ++ key_stream key nonce (i + 1) n

-- the plaintext xor S 1, S 2, .. as far as it goes (6.1, step 8)
unfoldable pub masked : List ℕ → List ℕ → List ℕ → List ℕ
masked key nonce plain = xored plain (key_stream key nonce 1 (block_count (length plain)))

-- T xor S 0 (6.1, step 8)
unfoldable pub masked_tag : List ℕ → List ℕ → List ℕ → List ℕ → List ℕ
masked_tag key nonce aad plain = xored (tag key nonce aad plain) (cipher key (counter_block nonce 0))

-- the plaintext is sealed to these bytes: the masked plaintext followed by the masked tag (6.1, step 8)
unfoldable pub Sealed : List ℕ → List ℕ → List ℕ → List ℕ → List ℕ → Type 0
Sealed key nonce aad plain bytes = bytes ≡ masked key nonce plain ++ masked_tag key nonce aad plain

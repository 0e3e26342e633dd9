-- What the functions below `seal` and `unseal` answer, in the terms of the definitions.
use Rattle.std.specs.Prelude.{ℕ, ◌+◌, ◌-◌, ◌/◌, ◌%◌, List, ◌++◌, length, replicate, slice_index, ◌==◌, if◌then◌else◌}
use Rattle.std.specs.Int.{w16, to_be_bytes}
use Rattle.mt_ccm.specs.Aes.{cipher}
use Rattle.mt_ccm.specs.Ccm.{block_count, chained, counter_block, padded}

-- at most 16 bytes, and zeros up to 16
abbrev pub filled : List ℕ → List ℕ
filled bytes = bytes ++ replicate (16 - length bytes) 0

-- the chaining value after all blocks of a padded string
unfoldable pub chained_all : List ℕ → List ℕ → List ℕ → List ℕ
chained_all key y bytes = chained key y (padded bytes) (block_count (length bytes))

-- the chaining value after the blocks of the associated data
unfoldable pub chained_aad : List ℕ → List ℕ → List ℕ → List ℕ
chained_aad key y aad =
    if length aad == 0 then y else chained_all key y (to_be_bytes w16 (length aad) ++ aad)

-- byte k of the key stream for a plaintext
unfoldable pub stream_byte : List ℕ → List ℕ → ℕ → ℕ
stream_byte key nonce k = slice_index (cipher key (counter_block nonce (k / 16 + 1))) (k % 16)

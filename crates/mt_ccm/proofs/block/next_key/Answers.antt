use Rattle.std.proofs.Common.{◌++◌, ◌∷◌, [], ◌∙◌, ◌/◌, ◌%◌, ◌^◌, ap, ℕ, slice_index, bit_xor}
use Rattle.mt_ccm.specs.Aes.{xored, next_key_byte, s_box}
use Rattle.mt_ccm.specs.Words.{word_bytes}
use Rattle.mt_ccm.proofs.WordFacts.{word_bytes-xor}
use Rattle.mt_ccm.proofs.block.next_key.Goals as goal

pub returns : goal.returns
unfolding next_key_byte
returns c =
    let word : ℕ → ℕ = λ i. slice_index c.args.key i in
    let first : ℕ = bit_xor (word 0) c.turned_word.result in
    let second : ℕ = bit_xor (word 1) first in
    let third : ℕ = bit_xor (word 2) second in
    let turned = c.turned_word.ensures ∙ ap (λ (k : ℕ). bit_xor (s_box (word 3 / 2 ^ 16 % 2 ^ 8)) k ∷ s_box (word 3 / 2 ^ 8 % 2 ^ 8) ∷ s_box (word 3 % 2 ^ 8) ∷ s_box (word 3 / 2 ^ 24 % 2 ^ 8) ∷ []) c.constant_of.ensures in
    let one = word_bytes-xor (word 0) c.turned_word.result ∙ ap (xored (word_bytes (word 0))) turned in
    let two = word_bytes-xor (word 1) first ∙ ap (xored (word_bytes (word 1))) one in
    let three = word_bytes-xor (word 2) second ∙ ap (xored (word_bytes (word 2))) two in
    let four = word_bytes-xor (word 3) third ∙ ap (xored (word_bytes (word 3))) three in
    λ i. one i ++ two i ++ three i ++ four i

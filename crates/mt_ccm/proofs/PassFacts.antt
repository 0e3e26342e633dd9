-- One pass over a text: its blocks and their places, and the chaining value from block to block.
use Rattle.std.proofs.Common.{◌≡◌, ℕ, ◌+◌, ◌*◌, ◌<◌, ◌≤◌, List, length, take, drop, bit_xor, slice_index, sym, ap, ◌∙◌, arith}
use Rattle.std.proofs.lemmas.List.{ext_get_or, get_or-drop, get_or-take, length-drop, length-take-le}
use Rattle.mt_ccm.specs.Aes.{cipher, xored}
use Rattle.mt_ccm.specs.Ccm.{masked}
use Rattle.mt_ccm.specs.Steps.{chained_all, filled, stream_byte}
use Rattle.mt_ccm.proofs.ChainFacts.{filled_whole, last_is, none_left, turn_is}
use Rattle.mt_ccm.proofs.MaskFacts.{masked_at}
use Rattle.mt_ccm.proofs.StreamFacts.{slice_index-xored}

place : (bytes : List ℕ) (at k : ℕ) → k < 16 → slice_index (take 16 (drop at bytes)) k ≡ slice_index bytes (at + k)
place bytes at k low = get_or-take 16 (drop at bytes) k 0 low ∙ get_or-drop at bytes k 0

length-part : (bytes : List ℕ) (at : ℕ) → at + 16 ≤ length bytes → length (take 16 (drop at bytes)) ≡ 16
length-part bytes at le = length-take-le 16 (drop at bytes) (omega (arith, length-drop at bytes))

part_same : (xs ys : List ℕ) (at : ℕ) → at + 16 ≤ length xs → at + 16 ≤ length ys
    → ((k : ℕ) → at ≤ k → k < at + 16 → slice_index xs k ≡ slice_index ys k) → take 16 (drop at xs) ≡ take 16 (drop at ys)
part_same xs ys at lx ly same =
    let a = length-part xs at lx in
    let b = length-part ys at ly in
    ext_get_or 0 (take 16 (drop at xs)) (take 16 (drop at ys)) (a ∙ sym b) (λ k low.
    place xs at k (omega arith) ∙ same (at + k) (omega arith) (omega arith) ∙ sym (place ys at k (omega arith)))

tail_same : (xs ys : List ℕ) (at : ℕ) → length xs ≡ length ys
    → ((k : ℕ) → at ≤ k → k < length xs → slice_index xs k ≡ slice_index ys k) → drop at xs ≡ drop at ys
tail_same xs ys at len same =
    let a = length-drop at xs in
    let b = length-drop at ys in
    ext_get_or 0 (drop at xs) (drop at ys) (omega arith) (λ k low.
    get_or-drop at xs k 0 ∙ same (at + k) (omega arith) (omega arith) ∙ sym (get_or-drop at ys k 0))

-- a block that was xor-ed, by its places
pub block_added : (old new stream : List ℕ) (at : ℕ) → at + 16 ≤ length old → length stream ≡ 16
    → take 16 (drop at new) ≡ xored (take 16 (drop at old)) stream
    → (k : ℕ) → k < 16 → slice_index new (at + k) ≡ bit_xor (slice_index old (at + k)) (slice_index stream k)
block_added old new stream at le len e k low =
    let size = length-part old at le in
    sym (place new at k low) ∙ ap (λ (l : List ℕ). slice_index l k) e
    ∙ slice_index-xored (take 16 (drop at old)) stream k (omega arith) (omega arith)
    ∙ ap (λ (x : ℕ). bit_xor x (slice_index stream k)) (place old at k low)

-- the chaining value after one more block of a text that stands in a buffer
pub text_turn : (key text buffer y next : List ℕ) (i : ℕ) → 16 * i + 16 ≤ length text → 16 * i + 16 ≤ length buffer
    → ((k : ℕ) → 16 * i ≤ k → k < 16 * i + 16 → slice_index buffer k ≡ slice_index text k)
    → next ≡ cipher key (xored y (take 16 (drop (16 * i) buffer)))
    → chained_all key next (drop (16 * (i + 1)) text) ≡ chained_all key y (drop (16 * i) text)
text_turn key text buffer y next i lt lb same e =
    let part : List ℕ = take 16 (drop (16 * i) buffer) in
    turn_is key y text part next i lt (part_same buffer text (16 * i) lb lt same)
    (e ∙ ap (λ (p : List ℕ). cipher key (xored y p)) (sym (filled_whole part (length-part buffer (16 * i) lb))))

-- after the last whole block, where nothing is left of the text
pub text_end : (key text y : List ℕ) (i : ℕ) → length text ≡ 16 * i → y ≡ chained_all key y (drop (16 * i) text)
text_end key text y i len = none_left key y (drop (16 * i) text) (omega (arith, length-drop (16 * i) text))

-- after the last block of a text that stands in a buffer, which is not whole
pub text_last : (key text buffer y next rest : List ℕ) (at : ℕ) → at < length text → length text < at + 16 → length buffer ≡ length text
    → ((k : ℕ) → at ≤ k → k < length buffer → slice_index buffer k ≡ slice_index text k)
    → rest ≡ drop at buffer → next ≡ cipher key (xored y (filled rest)) → next ≡ chained_all key y (drop at text)
text_last key text buffer y next rest at some short len same er e =
    let behind = length-drop at text in
    last_is key y (drop at text) next (omega arith) (omega arith)
    (e ∙ ap (λ (p : List ℕ). cipher key (xored y (filled p))) (er ∙ tail_same buffer text at len same))

-- a byte whose mask was taken away
pub opened_at : (key nonce old : List ℕ) (count k : ℕ) → k < count → count ≤ length old
    → bit_xor (slice_index old k) (stream_byte key nonce k) ≡ slice_index (masked key nonce (take count old)) k
opened_at key nonce old count k low room =
    let size = length-take-le count old room in
    ap (λ (x : ℕ). bit_xor x (stream_byte key nonce k)) (sym (get_or-take count old k 0 low))
    ∙ sym (masked_at key nonce (take count old) k (omega arith))

use Rattle.std.proofs.Common.{◌≡◌, ℕ, ◌*◌, ◌<◌, ◌≤◌, List, take, drop, bit_xor, slice_index}
use Rattle.mt_ccm.specs.Steps.{chained_all, stream_byte}
use Rattle.mt_ccm.specs.Words.{IsScheduleOf, block_at}
use Rattle.mt_ccm.proofs.passing.seal_all.Given as goal

abbrev pub invariant-turns : goal.invariant-turns
invariant-turns l = record {
  within : (key : List ℕ) → IsScheduleOf key l.words → (k : ℕ) → k < 16 * l.i
      → slice_index l.bytes k ≡ bit_xor (slice_index l.fn.bytes k) (stream_byte key l.nonce k);
  after : (k : ℕ) → 16 * l.i ≤ k → slice_index l.bytes k ≡ slice_index l.fn.bytes k;
  rest : (key : List ℕ) → IsScheduleOf key l.words
      → chained_all key (block_at l.state 0) (drop (16 * l.i) (take l.count l.fn.bytes))
      ≡ chained_all key (block_at l.fn.begin 0) (take l.count l.fn.bytes);
}

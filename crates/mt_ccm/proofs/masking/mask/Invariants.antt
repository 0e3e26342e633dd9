use Rattle.std.proofs.Common.{◌≡◌, ℕ, ◌*◌, ◌<◌, ◌≤◌, List, bit_xor, slice_index}
use Rattle.mt_ccm.specs.Steps.{stream_byte}
use Rattle.mt_ccm.specs.Words.{IsScheduleOf}
use Rattle.mt_ccm.proofs.masking.mask.Given as goal

abbrev pub invariant-turns : goal.invariant-turns
invariant-turns l = record {
  within : (key : List ℕ) → IsScheduleOf key l.words → (k : ℕ) → k < 16 * l.i
      → slice_index l.bytes k ≡ bit_xor (slice_index l.fn.bytes k) (stream_byte key l.nonce k);
  after : (k : ℕ) → 16 * l.i ≤ k → slice_index l.bytes k ≡ slice_index l.fn.bytes k;
}

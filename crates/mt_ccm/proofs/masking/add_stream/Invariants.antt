use Rattle.std.proofs.Common.{◌≡◌, ℕ, ◌+◌, ◌<◌, ◌≤◌, bit_xor, slice_index}
use Rattle.mt_ccm.proofs.masking.add_stream.Given as goal

abbrev pub invariant-bytes : goal.invariant-bytes
invariant-bytes l = record {
  within : (k : ℕ) → k < l.j → slice_index l.bytes (l.from + k) ≡ bit_xor (slice_index l.fn.bytes (l.from + k)) (slice_index l.stream k);
  before : (k : ℕ) → k < l.from → slice_index l.bytes k ≡ slice_index l.fn.bytes k;
  after : (k : ℕ) → l.from + l.j ≤ k → slice_index l.bytes k ≡ slice_index l.fn.bytes k;
}

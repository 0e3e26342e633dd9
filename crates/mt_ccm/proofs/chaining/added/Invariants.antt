use Rattle.std.proofs.Common.{◌≡◌, ℕ, ◌<◌, ◌≤◌, length, bit_xor, slice_index}
use Rattle.mt_ccm.proofs.chaining.added.Given as goal

abbrev pub invariant-bytes : goal.invariant-bytes
invariant-bytes l = record {
  size : length l.sum ≡ 16;
  done : (k : ℕ) → k < l.j → slice_index l.sum k ≡ bit_xor (slice_index l.block k) (slice_index l.bytes k);
  rest : (k : ℕ) → l.j ≤ k → slice_index l.sum k ≡ slice_index l.block k;
}

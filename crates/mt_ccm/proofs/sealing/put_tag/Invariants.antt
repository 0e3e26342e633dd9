use Rattle.std.proofs.Common.{◌≡◌, ℕ, ◌+◌, ◌<◌, slice_index}
use Rattle.mt_ccm.proofs.sealing.put_tag.Given as goal

abbrev pub invariant-bytes : goal.invariant-bytes
invariant-bytes l = record {
  before : (k : ℕ) → k < l.at → slice_index l.bytes k ≡ slice_index l.fn.bytes k;
  written : (k : ℕ) → k < l.j → slice_index l.bytes (l.at + k) ≡ slice_index l.tag k;
}

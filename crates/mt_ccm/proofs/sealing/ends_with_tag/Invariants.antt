use Rattle.std.proofs.Common.{◌≡◌, ℕ, ◌+◌, ◌<◌, slice_index}
use Rattle.mt_ccm.proofs.sealing.ends_with_tag.Given as goal

abbrev pub invariant-bytes : goal.invariant-bytes
invariant-bytes l = record {
  same : l.difference ≡ 0 → (k : ℕ) → k < l.j → slice_index l.bytes (l.at + k) ≡ slice_index l.tag k;
  none : ((k : ℕ) → k < l.j → slice_index l.bytes (l.at + k) ≡ slice_index l.tag k) → l.difference ≡ 0;
}

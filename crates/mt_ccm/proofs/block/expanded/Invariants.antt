use Rattle.std.proofs.Common.{◌≡◌, ℕ, ◌*◌, ◌<◌}
use Rattle.mt_ccm.specs.Aes.{round_key}
use Rattle.mt_ccm.specs.Words.{block_at}
use Rattle.mt_ccm.proofs.block.expanded.Given as goal

abbrev pub invariant-rounds : goal.invariant-rounds
invariant-rounds l = record {
  last : block_at l.last 0 ≡ round_key l.key l.round;
  before : (n : ℕ) → n < l.round → block_at l.words (4 * n) ≡ round_key l.key n;
}

use Rattle.std.proofs.Common.{◌≡◌, ℕ, ◌*◌, ◌/◌, List, length, drop}
use Rattle.mt_ccm.specs.Steps.{chained_all}
use Rattle.mt_ccm.specs.Words.{IsScheduleOf}
use Rattle.mt_ccm.proofs.chaining.chained.Given as goal

abbrev pub invariant-turns : goal.invariant-turns
invariant-turns l = record {
  size : l.whole ≡ length l.bytes / 16;
  rest : (key : List ℕ) → IsScheduleOf key l.words → chained_all key l.state (drop (16 * l.i) l.bytes) ≡ chained_all key l.fn.begin l.bytes;
}

use Rattle.std.proofs.Common.{ℕ}
use Rattle.mt_runs.specs.Isolation.{IsValidWhole}
use Rattle.mt_runs.specs.Whole.{Whole}
use Rattle.mt_runs.proofs.Leaving.{part_again}
use Rattle.mt_runs.proofs.lines.veil_keeps_the_own.Goals as goal

pub returns-clause-own : goal.returns-clause-own
returns-clause-own c = part_again c.veil_keeps_both_parts.ensures.own c.veils_keep_ledgers.ensures.own

pub returns-clause-public : goal.returns-clause-public
returns-clause-public c = λ (fabric : ℕ) (w : Whole) (valid : IsValidWhole w) i.
    record { node = c.veil_keeps_both_parts.ensures.view fabric w.state.node valid.node i; events = c.veils_keep_ledgers.ensures.recent fabric w.ledger i }

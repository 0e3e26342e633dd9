-- what is told behind here, from the last one on, is what is told of all
use Rattle.std.proofs.Common.{◌≡◌, drop}
use Rattle.mt_runs.specs.mt_ledger.Subscribing.{last_told}
use Rattle.mt_interactions.proofs.telling.last_told.Given as goal

abbrev pub invariant-loop-item : goal.invariant-loop-item
invariant-loop-item l = last_told l.last (drop l.item-index l.items) ≡ last_told l.number l.items

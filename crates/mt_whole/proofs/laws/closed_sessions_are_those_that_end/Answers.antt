use Rattle.std.proofs.Common.{ℕ, List, sym, ap, map}
use Rattle.mt_interactions.specs.mt_runs.Lines.{talks_behind}
use Rattle.mt_interactions.specs.mt_runs.Whole.{without_ended}
use Rattle.mt_whole.proofs.Planned.{closed_behind}
use Rattle.mt_whole.proofs.laws.closed_sessions_are_those_that_end.Goals as goal

pub returns-clause-closed : goal.returns-clause-closed
returns-clause-closed c = closed_behind

pub returns-clause-talks : goal.returns-clause-talks
returns-clause-talks c given w event outcome planned brings = ap (λ (closed : List ℕ). map (without_ended closed) (talks_behind given w event)) (sym (closed_behind given w event outcome planned brings))

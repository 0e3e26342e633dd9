use Rattle.std.proofs.Common.{◌≡◌, ◌++◌, drop}
use Rattle.mt_machine.specs.Opened.{sessions_of}
use Rattle.mt_regained.proofs.opening.sessions.Given as goal

-- the sessions so far and those of the rows to come are the sessions of all rows
abbrev pub invariant-loop-row : goal.invariant-loop-row
invariant-loop-row l = l.sessions ++ sessions_of l.boot l.fabrics (drop l.row-index l.rows) ≡ sessions_of l.boot l.fabrics l.rows

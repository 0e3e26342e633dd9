use Rattle.std.proofs.Common.{◌≡◌, ◌++◌, drop}
use Rattle.mt_machine.specs.Rollback.{roots_behind}
use Rattle.mt_steps.proofs.expiry.roots_behind.Given as goal

-- those that are used so far, and those among the roots to come
abbrev pub invariant-loop-root : goal.invariant-loop-root
invariant-loop-root l = l.behind ++ roots_behind l.fabrics (drop l.root-index l.roots) ≡ roots_behind l.fabrics l.roots

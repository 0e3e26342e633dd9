use Rattle.std.proofs.Common.{◌≡◌, ◌++◌, drop, filter}
use Rattle.mt_machine.specs.State.{is_used}
use Rattle.mt_steps.proofs.fabrics.roots_in_use.Given as goal

-- those that are used so far, and those among the roots to come
abbrev pub invariant-loop-root : goal.invariant-loop-root
invariant-loop-root l = l.used ++ filter (is_used l.fabrics l.armed) (drop l.root-index l.roots) ≡ filter (is_used l.fabrics l.armed) l.roots

use Rattle.std.proofs.Common.{◌≡◌, [], drop}
use Rattle.mt_machine.specs.Opened.{with_roots_of}
use Rattle.mt_regained.proofs.opening.roots.Given as goal

-- the roots so far, with those of the fabrics to come, are the roots of all fabrics
abbrev pub invariant-loop-fabric : goal.invariant-loop-fabric
invariant-loop-fabric l = with_roots_of l.roots (drop l.fabric-index l.fabrics) ≡ with_roots_of [] l.fabrics

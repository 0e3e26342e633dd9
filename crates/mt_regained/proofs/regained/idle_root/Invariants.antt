use Rattle.std.proofs.Common.{◌≡◌, drop}
use Rattle.std.specs.List.{find}
use Rattle.mt_grammar.specs.Facts.{is_idle}
use Rattle.mt_regained.proofs.regained.idle_root.Given as goal

-- the roots that were looked at are used
abbrev pub invariant-loop-root : goal.invariant-loop-root
invariant-loop-root l = find (is_idle l.fabrics) l.roots ≡ find (is_idle l.fabrics) (drop l.root-index l.roots)

use Rattle.std.proofs.Common.{◌-◌, length}
use Rattle.mt_durable.specs.Lengths.{Begins}
use Rattle.mt_durable.proofs.Lengths.{Counted}
use Rattle.mt_durable.proofs.length.element_length.Given as goal

-- the parts to come take the bytes that were not counted
abbrev pub invariant-parts : goal.invariant-parts
invariant-parts l = (begins : Begins l.bytes) → Counted l.bytes begins l.cursor l.length

abbrev pub decreases-parts : goal.decreases-parts
decreases-parts l = length l.bytes - l.length

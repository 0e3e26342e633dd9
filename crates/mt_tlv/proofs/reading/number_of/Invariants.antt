use Rattle.std.proofs.Common.{◌≡◌, drop}
use Rattle.mt_tlv.specs.Reading.{number_of}
use Rattle.mt_tlv.proofs.reading.number_of.Given as goal

-- the number of the bytes behind the place
abbrev pub invariant-loop-i : goal.invariant-loop-i
invariant-loop-i l = l.number ≡ number_of (drop l.i l.bytes)

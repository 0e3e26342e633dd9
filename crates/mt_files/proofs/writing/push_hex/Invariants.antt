use Rattle.std.proofs.Common.{◌≡◌, ◌++◌, length}
use Rattle.std.specs.Io.{StartsWith}
use Rattle.hex.specs.Hex.{encode_lower}
use Rattle.mt_files.proofs.writing.push_hex.Given as goal

-- what is written, with the digits of the rest
abbrev pub invariant-rest : goal.invariant-rest
invariant-rest l = (l.out.items ++ encode_lower l.rest ≡ l.initial.out.items ++ encode_lower l.bytes)
    × StartsWith l.out.items l.initial.out.items

abbrev pub decreases-rest : goal.decreases-rest
decreases-rest l = length l.rest

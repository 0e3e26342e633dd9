use Rattle.std.proofs.Common.{◌≡◌, ℕ, nat_lt, drop}
use Rattle.std.specs.List.{list_all}
use Rattle.mt_starting.proofs.starting.are_below_256.Given as goal

-- the bytes that were read are below 256
abbrev pub invariant-loop-byte : goal.invariant-loop-byte
invariant-loop-byte l = list_all (λ (byte : ℕ). nat_lt byte 256) l.bytes ≡ list_all (λ (byte : ℕ). nat_lt byte 256) (drop l.byte-index l.bytes)

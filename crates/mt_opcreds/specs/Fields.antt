-- What stands in the fields of more than one command.
use Rattle.std.specs.Prelude.{ℕ, nat_le, List, if◌then◌else◌}
use Rattle.mt_tlv.specs.declared.value.Value.{Value}
use Rattle.mt_meta.specs.Given.{octets_of}

-- a number of 16 bits
abbrev pub short_of : ℕ → ℕ
short_of n = if nat_le n 0xffff then n else 0

-- AddNOC and UpdateNOC: 0 the NOC, 1 the ICAC, no bytes where there is none.

abbrev pub noc_in : Value → List ℕ
noc_in fields = octets_of 0 fields

abbrev pub icac_in : Value → List ℕ
icac_in fields = octets_of 1 fields

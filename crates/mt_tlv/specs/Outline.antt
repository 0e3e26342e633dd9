-- What is left of an element where nothing is told of what stands inside its members.
use Rattle.std.specs.Prelude.{ℕ, List, [], Result, Ok, Err, nat_lt, if◌then◌else◌}
use Rattle.mt_tlv.specs.declared.value.Tag.{Tag}
use Rattle.mt_tlv.specs.declared.fault.TlvFault.{TlvFault}
use Rattle.mt_tlv.specs.Tree.{Tree, int, uint, bool, text, octets, null, bits32, bits64, structure, array, list, Elements, none, more}
use Rattle.mt_tlv.specs.Reading.{container_of, element_at, kind_of}

-- a value with nothing inside: a text, a string of octets and a container are empty
abbrev pub emptied : Tree → Tree
emptied (int z) = int z
emptied (uint n) = uint n
emptied (bool b) = bool b
emptied (text s) = text []
emptied (octets s) = octets []
emptied null = null
emptied (bits32 n) = bits32 n
emptied (bits64 n) = bits64 n
emptied (structure es) = structure none
emptied (array es) = array none
emptied (list es) = list none

-- members, each with nothing inside
abbrev pub outlines : Elements → Elements
outlines none = none
outlines (more tag v es) = more tag (emptied v) (outlines es)

-- the members of a structure, and none of what is no structure
abbrev pub fields_of : Tree → Elements
fields_of (structure es) = es
fields_of _ = none

-- the value of an element of this type, which is no scalar, with nothing inside
abbrev pub empty_of : ℕ → Tree
empty_of type = if nat_lt type 16 then text [] else if nat_lt type 20 then octets [] else container_of (kind_of type) none

-- the bytes behind what is read
abbrev pub behind : {A : Type 0} → Result (A × List ℕ) TlvFault → Result (List ℕ) TlvFault
behind (Ok x) = Ok x.1
behind (Err e) = Err e

-- what is read, with nothing inside
abbrev pub outlined : Result (Tree × List ℕ) TlvFault → Result (Tree × List ℕ) TlvFault
outlined (Ok x) = Ok (emptied x.0, x.1)
outlined (Err e) = Err e

-- the members that are read, each with nothing inside
abbrev pub outlines_in : Result (Elements × List ℕ) TlvFault → Result Elements TlvFault
outlines_in (Ok x) = Ok (outlines x.0)
outlines_in (Err e) = Err e

abbrev pub outlines_of : Result ((Tag × Tree) × List ℕ) TlvFault → Result Elements TlvFault
outlines_of (Ok x) = Ok (outlines (fields_of x.0.1))
outlines_of (Err e) = Err e

-- the outlines of the fields of the structure in front
abbrev pub outlines_at : List ℕ → Result Elements TlvFault
outlines_at bytes = outlines_of (element_at bytes)

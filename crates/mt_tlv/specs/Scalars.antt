-- What a tree is that has no members: a number, a truth value, a text or octets, and None where it is another.
use Rattle.std.specs.Prelude.{ℕ, Bool, List, Option, Some, None}
use Rattle.mt_tlv.specs.Tree.{Tree, uint, bool, text, octets}

-- an unsigned number
abbrev pub unsigned_in : Tree → Option ℕ
unsigned_in (uint n) = Some n
unsigned_in tree = None

abbrev pub truth_in : Tree → Option Bool
truth_in (bool b) = Some b
truth_in tree = None

-- a text's bytes
abbrev pub text_in : Tree → Option (List ℕ)
text_in (text s) = Some s
text_in tree = None

abbrev pub octets_in : Tree → Option (List ℕ)
octets_in (octets s) = Some s
octets_in tree = None

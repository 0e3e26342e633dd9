-- The parts of a whole element, and how a cursor comes over them.
use Rattle.std.specs.Prelude.{◌≡◌, ℕ, List, [], ◌∷◌, ◌++◌, Some, None, Ok, Err, true}
use Rattle.mt_tlv.specs.declared.value.Tag.{Tag}
use Rattle.mt_tlv.specs.declared.fault.TlvFault.{TlvFault}
use Rattle.mt_tlv.specs.Tree.{Tree, int, uint, bool, text, octets, null, bits32, bits64, structure, array, list, Elements, none, more}
use Rattle.mt_tlv.specs.Parts.{Piece, scalar, enter, leave, Place, next_at}
use Rattle.mt_tlv.specs.Parts as parts

-- the parts of an element, in their order
abbrev mutual
  pub parts_of : Tag → Tree → List Piece
  parts_of tag (int z) = scalar tag (int z) ∷ []
  parts_of tag (uint n) = scalar tag (uint n) ∷ []
  parts_of tag (bool b) = scalar tag (bool b) ∷ []
  parts_of tag (text s) = parts.text tag s ∷ []
  parts_of tag (octets s) = parts.octets tag s ∷ []
  parts_of tag null = scalar tag null ∷ []
  parts_of tag (bits32 n) = scalar tag (bits32 n) ∷ []
  parts_of tag (bits64 n) = scalar tag (bits64 n) ∷ []
  parts_of tag (structure es) = enter tag 21 ∷ (parts_inside es ++ leave ∷ [])
  parts_of tag (array es) = enter tag 22 ∷ (parts_inside es ++ leave ∷ [])
  parts_of tag (list es) = enter tag 23 ∷ (parts_inside es ++ leave ∷ [])

  -- the parts of the members of a container
  pub parts_inside : Elements → List Piece
  parts_inside none = []
  parts_inside (more tag v es) = parts_of tag v ++ parts_inside es

-- Comes p xs q: from the place p a cursor comes over these parts to the place q.
abbrev pub Comes : Place → List Piece → Place → Type 0
Comes p [] q = p ≡ q
Comes p (x ∷ xs) q = (m : Place) × (next_at p ≡ Ok (Some x, m)) × Comes m xs q

-- the place behind an element, with these bytes still in front
abbrev pub behind : ℕ → List ℕ → Place
behind whole rest = record { whole = whole; rest = rest; open_kinds = []; begun = true; fault = None }

-- Faults p e: from the place p a cursor comes over some parts, none or more, and then meets this fault.
abbrev pub Faults : Place → TlvFault → Type 0
Faults p e = (xs : List Piece) × (q : Place) × Comes p xs q × (next_at q ≡ Err e)

-- From the place p a cursor comes over some parts to the end of the element.
abbrev pub ComesToTheEnd : Place → Type 0
ComesToTheEnd p = (xs : List Piece) × (rest : List ℕ) × Comes p xs (behind p.whole rest)

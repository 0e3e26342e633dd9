-- How many bytes an element takes in the narrow encoding, part by part.
use Rattle.std.specs.Prelude.{◌≡◌, ℕ, suc, ◌+◌, ◌^◌, List, [], ◌∷◌, ◌++◌, length}
use Rattle.mt_tlv.specs.Limits.{IsElement}
use Rattle.mt_tlv.specs.Narrow.{narrow, signed_width_of, tag_field, width_of}
use Rattle.mt_tlv.specs.Parts.{Piece, scalar, enter, leave}
use Rattle.mt_tlv.specs.Parts as parts
use Rattle.mt_tlv.specs.Tree.{Tree, int, uint, bool, text, octets, null, bits32, bits64, structure, array, list}
use Rattle.mt_tlv.specs.declared.value.Tag.{Tag}

-- a control octet and the tag behind it
abbrev pub opening_length : Tag → ℕ
opening_length tag = suc (length (tag_field tag))

-- a string of so many bytes behind its length
abbrev pub string_length : ℕ → ℕ
string_length n = 2 ^ width_of n + n

-- the value of an element that is no string and no container
abbrev pub scalar_length : Tree → ℕ
scalar_length (int z) = 2 ^ signed_width_of z
scalar_length (uint n) = 2 ^ width_of n
scalar_length (bool b) = 0
scalar_length (text s) = 0
scalar_length (octets s) = 0
scalar_length null = 0
scalar_length (bits32 n) = 4
scalar_length (bits64 n) = 8
scalar_length (structure es) = 0
scalar_length (array es) = 0
scalar_length (list es) = 0

abbrev pub piece_length : Piece → ℕ
piece_length (scalar tag v) = opening_length tag + scalar_length v
piece_length (parts.text tag s) = opening_length tag + string_length (length s)
piece_length (parts.octets tag s) = opening_length tag + string_length (length s)
piece_length (enter tag type) = opening_length tag
piece_length leave = 1

abbrev pub pieces_length : List Piece → ℕ
pieces_length [] = 0
pieces_length (piece ∷ pieces) = piece_length piece + pieces_length pieces

-- Some bytes begin with an element in the narrow encoding.
pub record Begins (bytes : List ℕ) : Type 0 where
  pub tag : Tag
  pub tree : Tree
  pub rest : List ℕ
  pub element : IsElement tag tree (narrow tag tree)
  pub is : bytes ≡ narrow tag tree ++ rest

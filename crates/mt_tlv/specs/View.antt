-- What contracts see of a value and of members: their trees; and the value that has a tree.
use Rattle.std.specs.Prelude.{List, [], ◌∷◌}
use Rattle.mt_tlv.specs.declared.value.Tag.{Tag}
use Rattle.mt_tlv.specs.declared.value.Value.{Value}
use Rattle.mt_tlv.specs.declared.value.Value.TheVariants as values
use Rattle.mt_tlv.specs.Tree.{Tree, int, uint, bool, text, octets, null, bits32, bits64, structure, array, list, Elements, none, more}

-- the tree of a value, whose members are seen as elements already
abbrev pub tree : Value → Tree
tree (values.Int z) = int z
tree (values.Uint n) = uint n
tree (values.Bool b) = bool b
tree (values.Text s) = text s
tree (values.Octets s) = octets s
tree values.Null = null
tree (values.Bits32 n) = bits32 n
tree (values.Bits64 n) = bits64 n
tree (values.Struct es) = structure es
tree (values.Array es) = array es
tree (values.List es) = list es

-- the elements of tagged values
abbrev pub elements : List (Tag × Value) → Elements
elements [] = none
elements (m ∷ ms) = more m.0 (tree m.1) (elements ms)

-- the value that has this tree
abbrev pub value_of : Tree → Value
value_of (int z) = values.Int z
value_of (uint n) = values.Uint n
value_of (bool b) = values.Bool b
value_of (text s) = values.Text s
value_of (octets s) = values.Octets s
value_of null = values.Null
value_of (bits32 n) = values.Bits32 n
value_of (bits64 n) = values.Bits64 n
value_of (structure es) = values.Struct es
value_of (array es) = values.Array es
value_of (list es) = values.List es

-- A change as bytes: an anonymous array of structures, each with the key under 0 and, unless the key goes, its value under 1, in the narrow encoding.
use Rattle.std.specs.Prelude.{ℕ, List, [], ◌∷◌, Option, Some, None}
use Rattle.mt_tlv.specs.Narrow.{narrow}
use Rattle.mt_tlv.specs.Tree.{Tree, octets, structure, array, Elements, none, more}
use Rattle.mt_tlv.specs.View.{tree}
use Rattle.mt_tlv.specs.declared.value.Tag.TheVariants.{Anonymous, Context}
use Rattle.mt_tlv.specs.declared.value.Value.{Value}
use Rattle.mt_durable.specs.declared.durable.Entry.{Entry}

-- the value, if there is one
abbrev pub value_field : Option Value → Elements
value_field (Some value) = more (Context 1) (tree value) none
value_field None = none

abbrev pub entry_tree : Entry → Tree
entry_tree entry = structure (more (Context 0) (octets entry.key) (value_field entry.value))

abbrev pub entry_trees : List Entry → Elements
entry_trees [] = none
entry_trees (entry ∷ entries) = more Anonymous (entry_tree entry) (entry_trees entries)

-- the bytes of a change
abbrev pub change_bytes : List Entry → List ℕ
change_bytes entries = narrow Anonymous (array (entry_trees entries))

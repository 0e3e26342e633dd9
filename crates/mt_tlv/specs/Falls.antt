-- Each member is smaller than its container.
use Rattle.std.specs.Prelude.{◌≤◌, max, List, [], ◌∷◌}
use Rattle.std.proofs.Common.{arith}
use denote.Param.Weighed.{most}
use Rattle.mt_tlv.specs.declared.value.Tag.{Tag}
use Rattle.mt_tlv.specs.declared.value.Value.{Value}
use Rattle.mt_tlv.specs.declared.value.Value.TheVariants as values
use Rattle.mt_tlv.specs.declared.value.Members.TheDeep.{deep-Value}
use Rattle.mt_tlv.specs.declared.value.Members.TheShapes.{weighed-Members-items-at-2}
use Rattle.mt_tlv.specs.Tree.{tree_size, elements_size}
use Rattle.mt_tlv.specs.View.{tree, elements}

deep-tree : (v : Value) → deep-Value v ≤ tree_size (tree v)
deep-tree (values.Int z) = omega arith
deep-tree (values.Uint n) = omega arith
deep-tree (values.Bool b) = omega arith
deep-tree (values.Text s) = omega arith
deep-tree (values.Octets s) = omega arith
deep-tree values.Null = omega arith
deep-tree (values.Bits32 n) = omega arith
deep-tree (values.Bits64 n) = omega arith
deep-tree (values.Struct es) = omega arith
deep-tree (values.Array es) = omega arith
deep-tree (values.List es) = omega arith

pub deepest-elements : (ms : List (Tag × Value)) → max (most (weighed-Members-items-at-2.weight Value deep-Value) ms) 0 ≤ elements_size (elements ms)
deepest-elements [] = omega arith
deepest-elements (m ∷ ms) = omega (arith, deepest-elements ms, deep-tree m.1)

-- Trees that are made of other things: arrays without tags, and numbers that may be missing; and the fields of a structure.
use Rattle.std.specs.Prelude.{ℕ, ◌==◌, Bool, false, if◌then◌else◌, List, [], ◌∷◌, Option, Some, None}
use Rattle.mt_tlv.specs.Tree.{Tree, uint, null, structure, Elements, none, more}
use Rattle.mt_tlv.specs.declared.value.Tag.{Tag}
use Rattle.mt_tlv.specs.declared.value.Tag.TheVariants.{Anonymous, Context, Common, Implicit, Full}
use Rattle.mt_tlv.specs.declared.value.Value.{Value}
use Rattle.mt_tlv.specs.declared.value.Value.TheVariants as values

-- values without tags, one after the other
abbrev pub untagged : {X : Type 0} → (X → Tree) → List X → Elements
untagged of [] = none
untagged of (x ∷ xs) = more Anonymous (of x) (untagged of xs)

abbrev pub array_of : {X : Type 0} → (X → Tree) → List X → Value
array_of of xs = values.Array (untagged of xs)

-- null where there is none
abbrev pub nullable : Option ℕ → Tree
nullable None = null
nullable (Some n) = uint n

-- Fields, by their context tags. Where there is a tag more than once, the first field under it counts.

-- whether a tag is the context tag of this number
abbrev pub is_context : ℕ → Tag → Bool
is_context n Anonymous = false
is_context n (Context k) = k == n
is_context n (Common k) = false
is_context n (Implicit k) = false
is_context n (Full v p k) = false

-- the first field of this number, None where there is none
abbrev pub field_in : ℕ → Elements → Option Tree
field_in n none = None
field_in n (more tag v es) = if is_context n tag then Some v else field_in n es

-- the members of a structure
abbrev pub structure_in : Tree → Option Elements
structure_in (structure es) = Some es
structure_in v = None

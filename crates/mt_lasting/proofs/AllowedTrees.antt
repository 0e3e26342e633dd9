-- What may stand in an element: numbers, strings and arrays of what may.
use Rattle.std.proofs.Common.{◌≡◌, refl, ℕ, suc, ◌≤◌, ◌<◌, ◌^◌, nat_le, nat_lt, Bool, true, false, List, [], ◌∷◌, ◌++◌, length, arith}
use Rattle.std.proofs.lemmas.Bool.{and_parts, leb-true, ltb-true}
use Rattle.std.specs.Prelude.{⊤, Option, Some, None}
use Rattle.std.specs.List.{list_all}
use Rattle.mt_tlv.specs.Limits.{AreAllowed, IsAllowed, longest}
use Rattle.mt_tlv.specs.Tree.{Tree}
use Rattle.mt_tlv.specs.View.{tree}
use Rattle.mt_tlv.specs.declared.reading.Kind.TheVariants as kinds
use Rattle.mt_tlv.specs.declared.value.Tag.{Tag}
use Rattle.mt_tlv.specs.declared.value.Tag.TheVariants.{Anonymous}
use Rattle.mt_tlv.specs.declared.value.Value.{Value}
use Rattle.mt_model.specs.Trees.{untagged}
use Rattle.mt_lasting.specs.Values.{array_if}

-- a string within a limit that is not above that of elements
pub string_allowed : (most : ℕ) (s : List ℕ) → most ≤ longest → nat_le (length s) most ≡ true → length s ≤ longest
string_allowed most s low fits = omega (arith, low, leb-true (length s) most fits)

-- a number within a limit that has 64 bits
pub number_allowed : (most n : ℕ) → most < 2 ^ 64 → nat_le n most ≡ true → n < 2 ^ 64
number_allowed most n low fits = omega (arith, low, leb-true n most fits)

pub all_allowed : {X : Type 0} (of : X → Tree) (test : X → Bool) (room : ℕ) → ((x : X) → test x ≡ true → IsAllowed (of x) room)
    → (xs : List X) (tags : List Tag) → list_all test xs ≡ true → AreAllowed (untagged of xs) kinds.Array tags room
all_allowed of test room each [] tags all = tt
all_allowed of test room each (x ∷ xs) tags all =
    let both = and_parts (test x) (list_all test xs) all in
    (tt, refl, each x both.0, all_allowed of test room each xs (tags ++ Anonymous ∷ []) both.1)

-- a value that there is may stand where this many containers may open inside each other
abbrev pub IsAllowedIf : Option Value → ℕ → Type 0
IsAllowedIf None room = ⊤
IsAllowedIf (Some value) room = IsAllowed (tree value) room

pub array_allowed : {X : Type 0} (of : X → Tree) (test : X → Bool) (room : ℕ) → ((x : X) → test x ≡ true → IsAllowed (of x) room)
    → (xs : List X) → list_all test xs ≡ true → IsAllowedIf (array_if of xs) (suc room)
array_allowed of test room each [] all = tt
array_allowed of test room each (x ∷ xs) all = all_allowed of test room each (x ∷ xs) [] all

-- a field whose tag has 8 bits and is none of those in front of it, with those behind it
pub field : {V B : Type 0} (n : ℕ) → nat_lt n (2 ^ 8) ≡ true → V → B → (n < 2 ^ 8) × ((false ≡ false) × (false ≡ false)) × V × B
field n small value behind = (ltb-true n (2 ^ 8) small, (refl, refl), value, behind)

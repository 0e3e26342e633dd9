-- The fields of a message or a block, which context tags name, in any order. Where a list has a tag more than
-- once, the first field under it counts. Members under other tags are passed over.
use Rattle.std.specs.Prelude.{◌≡◌, ◌≢◌, ℕ, ◌^◌, ◌<◌, max, Bool, true, false, List, [], ◌∷◌, Option, Some, None, ⊤, ◌⊎◌}
use Rattle.mt_tlv.specs.declared.value.Tag.TheVariants.{Context}
use Rattle.mt_tlv.specs.Tree.{Tree, uint, bool, array, Elements, none, more}

-- There is no field of this number.
abbrev pub HasNo : ℕ → Elements → Type 0
HasNo n none = ⊤
HasNo n (more tag v es) = (tag ≢ Context n) × HasNo n es

-- HasField n v es: the first field of this number is v.
abbrev pub HasField : ℕ → Tree → Elements → Type 0
HasField n v none = ⊥
HasField n v (more tag w es) = (tag ≡ Context n) × (w ≡ v) ⊎ (tag ≢ Context n) × HasField n v es

-- HasNumber bits n number es: the field is an unsigned number, spelled in any width, of at most so many bits.
abbrev pub HasNumber : ℕ → ℕ → ℕ → Elements → Type 0
HasNumber bits n number es = HasField n (uint number) es × (number < 2 ^ bits)

-- a number that may be missing
abbrev pub MayHaveNumber : ℕ → ℕ → Option ℕ → Elements → Type 0
MayHaveNumber bits n None es = HasNo n es
MayHaveNumber bits n (Some number) es = HasNumber bits n number es

-- a truth value
abbrev pub HasTruth : ℕ → Bool → Elements → Type 0
HasTruth n b es = HasField n (bool b) es

-- a truth value that may be missing, which is false where it is
abbrev pub MayHaveTruth : ℕ → Bool → Elements → Type 0
MayHaveTruth n true es = HasTruth n true es
MayHaveTruth n false es = HasTruth n false es ⊎ HasNo n es

-- AreBlocks Spells xs es: the members spell these items, one after the other.
abbrev pub AreBlocks : {X : Type 0} → (X → Tree → Type 0) → List X → Elements → Type 0
AreBlocks Spells [] none = ⊤
AreBlocks Spells [] (more tag v es) = ⊥
AreBlocks Spells (x ∷ xs) none = ⊥
AreBlocks Spells (x ∷ xs) (more tag v es) = Spells x v × AreBlocks Spells xs es

-- an array of blocks
abbrev pub HasBlocks : {X : Type 0} → ℕ → (X → Tree → Type 0) → List X → Elements → Type 0
HasBlocks n Spells xs es = (inner : Elements) × HasField n (array inner) es × AreBlocks Spells xs inner

-- an array of blocks that may be missing, which has none where it is
abbrev pub MayHaveBlocks : {X : Type 0} → ℕ → (X → Tree → Type 0) → List X → Elements → Type 0
MayHaveBlocks n Spells xs es = HasBlocks n Spells xs es ⊎ HasNo n es × (xs ≡ [])

-- the greatest of some numbers, 0 where there is none
abbrev pub greatest : List ℕ → ℕ
greatest [] = 0
greatest (n ∷ ns) = max n (greatest ns)

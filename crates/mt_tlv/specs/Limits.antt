-- Which elements may be: numbers that fit their types, texts of UTF-8, tags that may stand where they do,
-- 16 containers inside each other, and 65,535 bytes (Matter Core Specification, Appendix A).
use Rattle.std.specs.Prelude.{◌≡◌, ℕ, zero, suc, ◌≤◌, ◌<◌, ◌^◌, Bool, true, false, List, [], ◌∷◌, ◌++◌, length, ⊤, ◌==◌, ◌||◌, ◌&&◌}
use Rattle.std.specs.Str.{is_utf8}
use Rattle.mt_tlv.specs.declared.value.Tag.{Tag}
use Rattle.mt_tlv.specs.declared.value.Tag.TheVariants.{Anonymous, Context, Common, Implicit, Full}
use Rattle.mt_tlv.specs.declared.reading.Kind.{Kind}
use Rattle.mt_tlv.specs.declared.reading.Kind.TheVariants as kinds
use Rattle.mt_tlv.specs.Tree.{Tree, int, uint, bool, text, octets, null, bits32, bits64, structure, array, list, Elements, none, more}
use Rattle.mt_tlv.specs.Narrow.{fits_beside_sign}
use Rattle.mt_tlv.specs.Spelling.{Spells}

-- the most bytes of an element, and of a text or an octet string
abbrev pub longest : ℕ
longest = 65535

-- the most containers that are open inside each other
abbrev pub deepest : ℕ
deepest = 16

abbrev pub is_anonymous : Tag → Bool
is_anonymous Anonymous = true
is_anonymous (Context n) = false
is_anonymous (Common n) = false
is_anonymous (Implicit n) = false
is_anonymous (Full v p n) = false

-- the kind of a tag, and its numbers: vendor, profile and tag number
abbrev pub kind_and_numbers : Tag → ℕ × ℕ × ℕ × ℕ
kind_and_numbers Anonymous = (0, 0, 0, 0)
kind_and_numbers (Context n) = (1, 0, 0, n)
kind_and_numbers (Common n) = (2, 0, 0, n)
kind_and_numbers (Implicit n) = (3, 0, 0, n)
kind_and_numbers (Full v p n) = (4, v, p, n)

abbrev pub same_numbers : ℕ × ℕ × ℕ × ℕ → ℕ × ℕ × ℕ × ℕ → Bool
same_numbers a b = a.0 == b.0 && (a.1 == b.1 && (a.2 == b.2 && a.3 == b.3))

-- whether tags are the same, by kind and numbers
abbrev pub is_same_tag : Tag → Tag → Bool
is_same_tag s t = same_numbers (kind_and_numbers s) (kind_and_numbers t)

abbrev pub is_tag_in : Tag → List Tag → Bool
is_tag_in tag [] = false
is_tag_in tag (t ∷ ts) = is_same_tag t tag || is_tag_in tag ts

-- A tag whose numbers fit their fields.
abbrev pub IsTag : Tag → Type 0
IsTag Anonymous = ⊤
IsTag (Context n) = n < 2 ^ 8
IsTag (Common n) = n < 2 ^ 32
IsTag (Implicit n) = n < 2 ^ 32
IsTag (Full v p n) = (v < 2 ^ 16) × (p < 2 ^ 16) × (n < 2 ^ 32)

-- Behind members of these tags: a structure's members have tags, and no two the same; an array's have none.
abbrev pub MayStand : Kind → List Tag → Tag → Type 0
MayStand kinds.Struct tags tag = (is_anonymous tag ≡ false) × (is_tag_in tag tags ≡ false)
MayStand kinds.Array tags tag = is_anonymous tag ≡ true
MayStand kinds.List tags tag = ⊤

-- what may be where this many containers may open inside each other
abbrev mutual
  pub IsAllowed : Tree → ℕ → Type 0
  IsAllowed (int z) room = fits_beside_sign 63 z ≡ true
  IsAllowed (uint n) room = n < 2 ^ 64
  IsAllowed (bool b) room = ⊤
  IsAllowed (text s) room = (length s ≤ longest) × (is_utf8 s ≡ true)
  IsAllowed (octets s) room = length s ≤ longest
  IsAllowed null room = ⊤
  IsAllowed (bits32 n) room = n < 2 ^ 32
  IsAllowed (bits64 n) room = n < 2 ^ 64
  IsAllowed (structure es) zero = ⊥
  IsAllowed (structure es) (suc room) = AreAllowed es kinds.Struct [] room
  IsAllowed (array es) zero = ⊥
  IsAllowed (array es) (suc room) = AreAllowed es kinds.Array [] room
  IsAllowed (list es) zero = ⊥
  IsAllowed (list es) (suc room) = AreAllowed es kinds.List [] room

  -- behind members of these tags
  pub AreAllowed : Elements → Kind → List Tag → ℕ → Type 0
  AreAllowed none kind tags room = ⊤
  AreAllowed (more tag v es) kind tags room = IsTag tag × MayStand kind tags tag × IsAllowed v room × AreAllowed es kind (tags ++ tag ∷ []) room

-- These bytes spell the value under the tag, within all limits.
pub record IsElement (tag : Tag) (v : Tree) (bytes : List ℕ) : Type 0 where
  pub spelled : Spells tag v bytes
  pub tag_fits : IsTag tag
  pub allowed : IsAllowed v deepest
  pub short : length bytes ≤ longest

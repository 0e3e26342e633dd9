-- Elements whose structures may have a tag more than once, within all other limits: what a cursor goes over,
-- since it keeps no tags.
use Rattle.std.specs.Prelude.{◌≡◌, ℕ, zero, suc, ◌≤◌, ◌<◌, ◌^◌, true, false, List, length, ⊤}
use Rattle.std.specs.Str.{is_utf8}
use Rattle.mt_tlv.specs.declared.value.Tag.{Tag}
use Rattle.mt_tlv.specs.declared.reading.Kind.{Kind}
use Rattle.mt_tlv.specs.declared.reading.Kind.TheVariants as kinds
use Rattle.mt_tlv.specs.Tree.{Tree, int, uint, bool, text, octets, null, bits32, bits64, structure, array, list, Elements, none, more}
use Rattle.mt_tlv.specs.Narrow.{fits_beside_sign}
use Rattle.mt_tlv.specs.Spelling.{Spells}
use Rattle.mt_tlv.specs.Limits.{longest, deepest, is_anonymous, IsTag}

-- A structure's members have tags, an array's have none.
abbrev pub HasForm : Kind → Tag → Type 0
HasForm kinds.Struct tag = is_anonymous tag ≡ false
HasForm kinds.Array tag = is_anonymous tag ≡ true
HasForm kinds.List tag = ⊤

-- what may be where this many containers may open inside each other, if tags may be repeated
abbrev mutual
  pub MayRepeat : Tree → ℕ → Type 0
  MayRepeat (int z) room = fits_beside_sign 63 z ≡ true
  MayRepeat (uint n) room = n < 2 ^ 64
  MayRepeat (bool b) room = ⊤
  MayRepeat (text s) room = (length s ≤ longest) × (is_utf8 s ≡ true)
  MayRepeat (octets s) room = length s ≤ longest
  MayRepeat null room = ⊤
  MayRepeat (bits32 n) room = n < 2 ^ 32
  MayRepeat (bits64 n) room = n < 2 ^ 64
  MayRepeat (structure es) zero = ⊥
  MayRepeat (structure es) (suc room) = TheyMayRepeat es kinds.Struct room
  MayRepeat (array es) zero = ⊥
  MayRepeat (array es) (suc room) = TheyMayRepeat es kinds.Array room
  MayRepeat (list es) zero = ⊥
  MayRepeat (list es) (suc room) = TheyMayRepeat es kinds.List room

  pub TheyMayRepeat : Elements → Kind → ℕ → Type 0
  TheyMayRepeat none kind room = ⊤
  TheyMayRepeat (more tag v es) kind room = IsTag tag × HasForm kind tag × MayRepeat v room × TheyMayRepeat es kind room

-- These bytes spell the value under the tag, within all limits, but that a structure may have a tag more than once.
pub record IsRepeating (tag : Tag) (v : Tree) (bytes : List ℕ) : Type 0 where
  pub spelled : Spells tag v bytes
  pub tag_fits : IsTag tag
  pub allowed : MayRepeat v deepest
  pub short : length bytes ≤ longest

-- An element has no more parts than bytes.
use Rattle.std.proofs.Common.{◌≡◌, ℕ, suc, ◌+◌, ◌≤◌, List, [], ◌∷◌, ◌++◌, length, ap, arith, length-append}
use Rattle.mt_tlv.specs.declared.value.Tag.{Tag}
use Rattle.mt_tlv.specs.Tree.{Tree, int, uint, bool, text, octets, null, bits32, bits64, structure, array, list, Elements, none, more}
use Rattle.mt_tlv.specs.Parts.{Piece, leave}
use Rattle.mt_tlv.specs.Narrow.{end_of_container}
use Rattle.mt_tlv.specs.Spelling.{IsOpening, IsBody, AreSpelled, Spells}
use Rattle.mt_tlv.specs.Limits.{IsElement}
use Rattle.mt_tlv.specs.Runs.{parts_of, parts_inside}

opening_long : (tag : Tag) (type : ℕ) (opening : List ℕ) → IsOpening tag type opening → 1 ≤ length opening
opening_long tag type opening h = omega (arith, ap length h.3)

wrapped : (inside : List Piece) (inner body : List ℕ) → length inside ≤ length inner → body ≡ inner ++ end_of_container ∷ [] → suc (length (inside ++ leave ∷ [])) ≤ 1 + length body
wrapped inside inner body h e = omega (arith, length-append inside (leave ∷ []), length-append inner (end_of_container ∷ []), ap length e)

joined : (one others : List Piece) (opening body rest bytes : List ℕ) → length one ≤ 1 + length body → length others ≤ length rest → 1 ≤ length opening → bytes ≡ opening ++ (body ++ rest)
    → length (one ++ others) ≤ length bytes
joined one others opening body rest bytes h k l e = omega (arith, length-append one others, length-append opening (body ++ rest), length-append body rest, ap length e)

mutual
  parts_short : (v : Tree) (tag : Tag) (type : ℕ) (body : List ℕ) → IsBody v type body → length (parts_of tag v) ≤ 1 + length body
  parts_short (int z) tag type body h = omega arith
  parts_short (uint n) tag type body h = omega arith
  parts_short (bool b) tag type body h = omega arith
  parts_short (text s) tag type body h = omega arith
  parts_short (octets s) tag type body h = omega arith
  parts_short null tag type body h = omega arith
  parts_short (bits32 n) tag type body h = omega arith
  parts_short (bits64 n) tag type body h = omega arith
  parts_short (structure es) tag type body h = wrapped (parts_inside es) h.0 body (inside_short es h.0 h.2) h.3
  parts_short (array es) tag type body h = wrapped (parts_inside es) h.0 body (inside_short es h.0 h.2) h.3
  parts_short (list es) tag type body h = wrapped (parts_inside es) h.0 body (inside_short es h.0 h.2) h.3

  inside_short : (es : Elements) (bytes : List ℕ) → AreSpelled es bytes → length (parts_inside es) ≤ length bytes
  inside_short none bytes h = omega arith
  inside_short (more tag v es) bytes h =
      joined (parts_of tag v) (parts_inside es) h.1 h.2 h.3 bytes (parts_short v tag h.0 h.2 h.5) (inside_short es h.3 h.6) (opening_long tag h.0 h.1 h.4) h.7

pub element_short : (tag : Tag) (v : Tree) (bytes rest : List ℕ) → IsElement tag v bytes → length (parts_of tag v) ≤ length (bytes ++ rest)
element_short tag v bytes rest h =
    let s : Spells tag v bytes = h.spelled in
    omega (arith, parts_short v tag s.0 s.2 s.4, opening_long tag s.0 s.1 s.3, ap length s.5, length-append s.1 s.2, length-append bytes rest)

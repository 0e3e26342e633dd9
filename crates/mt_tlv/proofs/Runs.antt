-- A cursor comes over the parts of an element.
use Rattle.std.proofs.Common.{◌≡◌, ℕ, zero, suc, ◌+◌, ◌<◌, ◌≤◌, Bool, true, false, ◌&&◌, List, [], ◌∷◌, ◌++◌, length, Option, Some, None, Ok, refl, sym, subst, append_assoc, arith}
use Rattle.std.specs.Prelude.{is_none}
use Rattle.std.specs.Str.{is_utf8}
use Rattle.std.proofs.lemmas.Bool.{lt-ltb}
use Rattle.std.proofs.lemmas.List.{length-append}
use Rattle.mt_tlv.specs.declared.value.Tag.{Tag}
use Rattle.mt_tlv.specs.declared.fault.TlvFault.{TlvFault}
use Rattle.mt_tlv.specs.declared.reading.Kind.{Kind}
use Rattle.mt_tlv.specs.declared.reading.Kind.TheVariants as kinds
use Rattle.mt_tlv.specs.Tree.{Tree, int, uint, bool, text, octets, null, bits32, bits64, structure, array, list, Elements, none, more}
use Rattle.mt_tlv.specs.Spelling.{IsOpening, IsString, IsBody, AreSpelled}
use Rattle.mt_tlv.specs.Limits.{MayStand, IsAllowed, AreAllowed, IsElement}
use Rattle.mt_tlv.specs.Repeats.{HasForm, MayRepeat, TheyMayRepeat, IsRepeating}
use Rattle.mt_tlv.specs.Reading.{kind_of}
use Rattle.mt_tlv.specs.Parts.{Place, Piece, scalar, enter, leave, fits, ends, part_at, piece_in, innermost, kinds_after, next_at, start}
use Rattle.mt_tlv.specs.Parts as parts
use Rattle.mt_tlv.specs.Runs.{parts_of, parts_inside, Comes, behind}
use Rattle.mt_tlv.proofs.Cursors.{place, next_ok, next_ended}
use Rattle.mt_tlv.proofs.Again.{head_again, no_end, IsScalar, scalar_again, string_again, int_scalar, uint_scalar, bool_scalar, null_scalar, bits32_scalar, bits64_scalar, text_type, octets_type, small_type, piece_again, nothing_again, regroup}

abbrev at_place : ℕ → List ℕ → List Kind → Bool → Place
at_place whole rest ks begun = place whole rest ks begun None

no_fault : (f : TlvFault) → None ≡ Some f → ⊥
no_fault f e = cc

pub comes_append : (p m q : Place) (xs ys : List Piece) → Comes p xs m → Comes m ys q → Comes p (xs ++ ys) q
comes_append p m q [] ys h k = subst (λ (x : Place). Comes x ys q) (sym h) k
comes_append p m q (x ∷ xs) ys h k = (h.0, h.1, comes_append h.0 m q xs ys h.2 k)

-- where an element is in front, no container ends
no_end_in : (o : Option Kind) (tag : Tag) (type : ℕ) (opening bytes : List ℕ) → type < 24 → IsOpening tag type opening → ends o (opening ++ bytes) ≡ false
no_end_in None tag type opening bytes lt h = refl
no_end_in (Some kind) tag type opening bytes lt h = no_end tag type opening bytes lt h

fits_again : (kind : Kind) (tag : Tag) → HasForm kind tag → fits (Some kind) tag ≡ Ok tt
fits_again kinds.Struct tag h = rw h refl
fits_again kinds.Array tag h = rw h refl
fits_again kinds.List tag h = refl

-- a step over the part in front
module _ (whole : ℕ) (ks : List Kind) (begun : Bool) (goes : (begun && is_none (innermost ks)) ≡ false) where
  over : (tag : Tag) (type : ℕ) (opening bytes rest : List ℕ) (x : Piece) → type < 24 → IsOpening tag type opening → fits (innermost ks) tag ≡ Ok tt → part_at whole (length ks) type tag bytes ≡ Ok (x, rest)
      → next_at (at_place whole (opening ++ bytes) ks begun) ≡ Ok (Some x, at_place whole rest (kinds_after x ks) true)
  unfolding piece_in
  over tag type opening bytes rest x lt o f p =
      next_ok (at_place whole (opening ++ bytes) ks begun) no_fault goes x rest (length ks) refl (rw (no_end_in (innermost ks) tag type opening bytes lt o, head_again tag type opening bytes lt o, f, p) refl)

out_of : (whole : ℕ) (kind : Kind) (ks : List Kind) (rest : List ℕ) → whole ≤ 65535 + length rest → next_at (at_place whole (24 ∷ rest) (kind ∷ ks) true) ≡ Ok (Some leave, at_place whole rest ks true)
unfolding piece_in
out_of whole kind ks rest short =
    next_ok (at_place whole (24 ∷ rest) (kind ∷ ks) true) no_fault refl leave rest (length (kind ∷ ks)) refl (rw (piece_again whole 1 (24 ∷ []) rest refl (omega arith) short) refl)

scalar_part : (whole depth type : ℕ) (tag : Tag) (body rest : List ℕ) (v : Tree) → IsScalar v type body → whole ≤ 65535 + length rest → part_at whole depth type tag (body ++ rest) ≡ Ok (scalar tag v, rest)
unfolding part_at
scalar_part whole depth type tag body rest v h short = rw (h.known, scalar_again whole type body rest v h short) refl

text_part : (whole depth type : ℕ) (tag : Tag) (s body rest : List ℕ) → IsString 12 s type body → length s ≤ 65535 → is_utf8 s ≡ true → whole ≤ 65535 + length rest → part_at whole depth type tag (body ++ rest) ≡ Ok (parts.text tag s, rest)
unfolding part_at
text_part whole depth type tag s body rest h few utf8 short =
    let t = text_type h.0 h.1 in
    rw (h.2, h.4, t.no_scalar, t.text, string_again whole (12 + h.0) h.0 s rest t.width h.1 h.3 few short, utf8) refl

octets_part : (whole depth type : ℕ) (tag : Tag) (s body rest : List ℕ) → IsString 16 s type body → length s ≤ 65535 → whole ≤ 65535 + length rest → part_at whole depth type tag (body ++ rest) ≡ Ok (parts.octets tag s, rest)
unfolding part_at
octets_part whole depth type tag s body rest h few short =
    let t = octets_type h.0 h.1 in
    rw (h.2, h.4, t.no_scalar, t.text, t.string, string_again whole (16 + h.0) h.0 s rest t.width h.1 h.3 few short) refl

enter_21 : (whole depth : ℕ) (tag : Tag) (rest : List ℕ) → depth < 16 → whole ≤ 65535 + length rest → part_at whole depth 21 tag rest ≡ Ok (enter tag 21, rest)
unfolding part_at
enter_21 whole depth tag rest few short = rw (lt-ltb depth 16 few, nothing_again whole rest short) refl

enter_22 : (whole depth : ℕ) (tag : Tag) (rest : List ℕ) → depth < 16 → whole ≤ 65535 + length rest → part_at whole depth 22 tag rest ≡ Ok (enter tag 22, rest)
unfolding part_at
enter_22 whole depth tag rest few short = rw (lt-ltb depth 16 few, nothing_again whole rest short) refl

enter_23 : (whole depth : ℕ) (tag : Tag) (rest : List ℕ) → depth < 16 → whole ≤ 65535 + length rest → part_at whole depth 23 tag rest ≡ Ok (enter tag 23, rest)
unfolding part_at
enter_23 whole depth tag rest few short = rw (lt-ltb depth 16 few, nothing_again whole rest short) refl

-- a step over an element that is no container
module _ (whole : ℕ) (ks : List Kind) (begun : Bool) (goes : (begun && is_none (innermost ks)) ≡ false) (tag : Tag) (f : fits (innermost ks) tag ≡ Ok tt) (type : ℕ) (opening body rest : List ℕ) (o : IsOpening tag type opening) (short : whole ≤ 65535 + length rest) where
  over_scalar : (v : Tree) → IsScalar v type body → Comes (at_place whole (opening ++ (body ++ rest)) ks begun) (scalar tag v ∷ []) (at_place whole rest ks true)
  over_scalar v h = (at_place whole rest ks true, over whole ks begun goes tag type opening (body ++ rest) rest (scalar tag v) h.small o f (scalar_part whole (length ks) type tag body rest v h short), refl)

  over_text : (s : List ℕ) → IsString 12 s type body → length s ≤ 65535 → is_utf8 s ≡ true → Comes (at_place whole (opening ++ (body ++ rest)) ks begun) (parts.text tag s ∷ []) (at_place whole rest ks true)
  over_text s h few utf8 = (at_place whole rest ks true, over whole ks begun goes tag type opening (body ++ rest) rest (parts.text tag s) (small_type (text s) type body h) o f (text_part whole (length ks) type tag s body rest h few utf8 short), refl)

  over_octets : (s : List ℕ) → IsString 16 s type body → length s ≤ 65535 → Comes (at_place whole (opening ++ (body ++ rest)) ks begun) (parts.octets tag s ∷ []) (at_place whole rest ks true)
  over_octets s h few = (at_place whole rest ks true, over whole ks begun goes tag type opening (body ++ rest) rest (parts.octets tag s) (small_type (octets s) type body h) o f (octets_part whole (length ks) type tag s body rest h few short), refl)

  -- into a container, over its members and out of it
  over_container : (inner : List ℕ) (xs : List Piece) → type < 24 → body ≡ inner ++ 24 ∷ [] → part_at whole (length ks) type tag (inner ++ 24 ∷ rest) ≡ Ok (enter tag type, inner ++ 24 ∷ rest)
      → Comes (at_place whole (inner ++ 24 ∷ rest) (kind_of type ∷ ks) true) xs (at_place whole rest ks true) → Comes (at_place whole (opening ++ (body ++ rest)) ks begun) (enter tag type ∷ xs) (at_place whole rest ks true)
  over_container inner xs lt is part h =
      let bytes : body ++ rest ≡ inner ++ 24 ∷ rest = rw is (append_assoc inner (24 ∷ []) rest) in
      rw bytes (at_place whole (inner ++ 24 ∷ rest) (kind_of type ∷ ks) true, over whole ks begun goes tag type opening (inner ++ 24 ∷ rest) (inner ++ 24 ∷ rest) (enter tag type) lt o f part, h)

mutual
  element_comes : (v : Tree) (tag : Tag) (room whole type : ℕ) (opening body rest : List ℕ) (ks : List Kind) (begun : Bool) → IsOpening tag type opening → IsBody v type body → MayRepeat v room → room + length ks ≡ 16 → whole ≤ 65535 + length rest
      → fits (innermost ks) tag ≡ Ok tt → (begun && is_none (innermost ks)) ≡ false → Comes (at_place whole (opening ++ (body ++ rest)) ks begun) (parts_of tag v) (at_place whole rest ks true)
  element_comes (int z) tag room whole type opening body rest ks begun o h may deep short f goes = over_scalar whole ks begun goes tag f type opening body rest o short (int z) (int_scalar z type body h.0 h.1 h.2)
  element_comes (uint n) tag room whole type opening body rest ks begun o h may deep short f goes = over_scalar whole ks begun goes tag f type opening body rest o short (uint n) (uint_scalar n h.0 type body h.1 h.2 h.3 h.4)
  element_comes (bool b) tag room whole type opening body rest ks begun o h may deep short f goes = over_scalar whole ks begun goes tag f type opening body rest o short (bool b) (bool_scalar b type body h.0 h.1)
  element_comes (text s) tag room whole type opening body rest ks begun o h may deep short f goes = over_text whole ks begun goes tag f type opening body rest o short s h may.0 may.1
  element_comes (octets s) tag room whole type opening body rest ks begun o h may deep short f goes = over_octets whole ks begun goes tag f type opening body rest o short s h may
  element_comes null tag room whole type opening body rest ks begun o h may deep short f goes = over_scalar whole ks begun goes tag f type opening body rest o short null (null_scalar type body h.0 h.1)
  element_comes (bits32 n) tag room whole type opening body rest ks begun o h may deep short f goes = over_scalar whole ks begun goes tag f type opening body rest o short (bits32 n) (bits32_scalar n type body h.0 h.1 h.2)
  element_comes (bits64 n) tag room whole type opening body rest ks begun o h may deep short f goes = over_scalar whole ks begun goes tag f type opening body rest o short (bits64 n) (bits64_scalar n type body h.0 h.1 h.2)
  element_comes (structure es) tag zero whole type opening body rest ks begun o h may deep short f goes = absurd may
  element_comes (structure es) tag (suc room) whole type opening body rest ks begun o h may deep short f goes =
      let wide : whole ≤ 65535 + length (h.0 ++ 24 ∷ rest) = omega (arith, short, length-append h.0 (24 ∷ rest)) in
      over_container whole ks begun goes tag f 21 opening body rest (rw h.1 at o) short h.0 (parts_inside es ++ leave ∷ []) (omega arith) h.3 (enter_21 whole (length ks) tag (h.0 ++ 24 ∷ rest) (omega (arith, deep)) wide) (members_come es kinds.Struct room whole h.0 rest ks h.2 may (omega (arith, deep)) short)
  element_comes (array es) tag zero whole type opening body rest ks begun o h may deep short f goes = absurd may
  element_comes (array es) tag (suc room) whole type opening body rest ks begun o h may deep short f goes =
      let wide : whole ≤ 65535 + length (h.0 ++ 24 ∷ rest) = omega (arith, short, length-append h.0 (24 ∷ rest)) in
      over_container whole ks begun goes tag f 22 opening body rest (rw h.1 at o) short h.0 (parts_inside es ++ leave ∷ []) (omega arith) h.3 (enter_22 whole (length ks) tag (h.0 ++ 24 ∷ rest) (omega (arith, deep)) wide) (members_come es kinds.Array room whole h.0 rest ks h.2 may (omega (arith, deep)) short)
  element_comes (list es) tag zero whole type opening body rest ks begun o h may deep short f goes = absurd may
  element_comes (list es) tag (suc room) whole type opening body rest ks begun o h may deep short f goes =
      let wide : whole ≤ 65535 + length (h.0 ++ 24 ∷ rest) = omega (arith, short, length-append h.0 (24 ∷ rest)) in
      over_container whole ks begun goes tag f 23 opening body rest (rw h.1 at o) short h.0 (parts_inside es ++ leave ∷ []) (omega arith) h.3 (enter_23 whole (length ks) tag (h.0 ++ 24 ∷ rest) (omega (arith, deep)) wide) (members_come es kinds.List room whole h.0 rest ks h.2 may (omega (arith, deep)) short)

  members_come : (es : Elements) (kind : Kind) (room whole : ℕ) (inner rest : List ℕ) (ks : List Kind) → AreSpelled es inner → TheyMayRepeat es kind room → room + length (kind ∷ ks) ≡ 16 → whole ≤ 65535 + length rest
      → Comes (at_place whole (inner ++ 24 ∷ rest) (kind ∷ ks) true) (parts_inside es ++ leave ∷ []) (at_place whole rest ks true)
  members_come none kind room whole inner rest ks h may deep short = rw h (at_place whole rest ks true, out_of whole kind ks rest short, refl)
  members_come (more tag v es) kind room whole inner rest ks h may deep short =
      let type = h.0 in
      let opening = h.1 in
      let body = h.2 in
      let others = h.3 in
      let one : inner ++ 24 ∷ rest ≡ opening ++ (body ++ (others ++ 24 ∷ rest)) = regroup inner opening body others rest h.7 in
      let wide : whole ≤ 65535 + length (others ++ 24 ∷ rest) = omega (arith, short, length-append others (24 ∷ rest)) in
      let first = element_comes v tag room whole type opening body (others ++ 24 ∷ rest) (kind ∷ ks) true h.4 h.5 may.2 deep wide (fits_again kind tag may.1) refl in
      let second = members_come es kind room whole others rest ks h.6 may.3 deep short in
      let both = comes_append (at_place whole (opening ++ (body ++ (others ++ 24 ∷ rest))) (kind ∷ ks) true) (at_place whole (others ++ 24 ∷ rest) (kind ∷ ks) true) (at_place whole rest ks true) (parts_of tag v) (parts_inside es ++ leave ∷ []) first second in
      rw one (subst (λ (xs : List Piece). Comes (at_place whole (opening ++ (body ++ (others ++ 24 ∷ rest))) (kind ∷ ks) true) xs (at_place whole rest ks true)) (sym (append_assoc (parts_of tag v) (parts_inside es) (leave ∷ []))) both)

pub cursor_comes : (tag : Tag) (v : Tree) (bytes rest : List ℕ) → IsRepeating tag v bytes → Comes (start (bytes ++ rest)) (parts_of tag v) (behind (length (bytes ++ rest)) rest)
cursor_comes tag v bytes rest h =
    let s = h.spelled in
    let e : bytes ++ rest ≡ s.1 ++ (s.2 ++ rest) = rw s.5 (append_assoc s.1 s.2 rest) in
    let short : length (bytes ++ rest) ≤ 65535 + length rest = omega (arith, h.short, length-append bytes rest) in
    let c = element_comes v tag 16 (length (bytes ++ rest)) s.0 s.1 s.2 rest [] false s.3 s.4 h.allowed refl short refl refl in
    subst (λ (b : List ℕ). Comes (at_place (length (bytes ++ rest)) b [] false) (parts_of tag v) (behind (length (bytes ++ rest)) rest)) (sym e) c

has_form : (kind : Kind) (tags : List Tag) (tag : Tag) → MayStand kind tags tag → HasForm kind tag
has_form kinds.Struct tags tag h = h.0
has_form kinds.Array tags tag h = h
has_form kinds.List tags tag h = tt

mutual
  may_repeat : (v : Tree) (room : ℕ) → IsAllowed v room → MayRepeat v room
  may_repeat (int z) room h = h
  may_repeat (uint n) room h = h
  may_repeat (bool b) room h = h
  may_repeat (text s) room h = h
  may_repeat (octets s) room h = h
  may_repeat null room h = h
  may_repeat (bits32 n) room h = h
  may_repeat (bits64 n) room h = h
  may_repeat (structure es) zero h = h
  may_repeat (structure es) (suc room) h = they_may_repeat es kinds.Struct [] room h
  may_repeat (array es) zero h = h
  may_repeat (array es) (suc room) h = they_may_repeat es kinds.Array [] room h
  may_repeat (list es) zero h = h
  may_repeat (list es) (suc room) h = they_may_repeat es kinds.List [] room h

  they_may_repeat : (es : Elements) (kind : Kind) (tags : List Tag) (room : ℕ) → AreAllowed es kind tags room → TheyMayRepeat es kind room
  they_may_repeat none kind tags room h = tt
  they_may_repeat (more tag v es) kind tags room h = (h.0, has_form kind tags tag h.1, may_repeat v room h.2, they_may_repeat es kind (tags ++ tag ∷ []) room h.3)

-- an element is one that may repeat tags
pub is_repeating : (tag : Tag) (v : Tree) (bytes : List ℕ) → IsElement tag v bytes → IsRepeating tag v bytes
is_repeating tag v bytes h = record { spelled = h.spelled; tag_fits = h.tag_fits; allowed = may_repeat v 16 h.allowed; short = h.short }

pub cursor_ends : (whole : ℕ) (rest : List ℕ) → next_at (behind whole rest) ≡ Ok (None, behind whole rest)
cursor_ends whole rest = next_ended (behind whole rest) no_fault refl

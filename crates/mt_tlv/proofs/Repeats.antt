-- Bytes that are an element but for repeated tags are an element, or reading stops at such a tag.
use Rattle.std.proofs.Common.{◌≡◌, ℕ, zero, suc, ◌+◌, ◌≤◌, Bool, true, false, List, [], ◌∷◌, ◌++◌, length, Ok, Err, refl, append_assoc, arith, ◌⊎◌, inl, inr}
use Rattle.std.proofs.lemmas.List.{length-append}
use Rattle.mt_tlv.specs.declared.value.Tag.{Tag}
use Rattle.mt_tlv.specs.declared.fault.TlvFault.TheVariants.{SameTag}
use Rattle.mt_tlv.specs.declared.reading.Kind.{Kind}
use Rattle.mt_tlv.specs.declared.reading.Kind.TheVariants as kinds
use Rattle.mt_tlv.specs.Tree.{Tree, int, uint, bool, text, octets, null, bits32, bits64, structure, array, list, Elements, none, more}
use Rattle.mt_tlv.specs.Spelling.{IsOpening, IsBody, AreSpelled}
use Rattle.mt_tlv.specs.Limits.{is_tag_in, MayStand, IsAllowed, AreAllowed, IsElement}
use Rattle.mt_tlv.specs.Repeats.{HasForm, MayRepeat, TheyMayRepeat, IsRepeating}
use Rattle.mt_tlv.specs.Reading.{Reads, allowed, head_at, members_with, body_with, container_at, body_at, element_at}
use Rattle.mt_tlv.proofs.Again.{head_again, no_end, shorter, allowed_again, small_type, nothing_again, regroup, body_again}

is_it : (b : Bool) → (b ≡ true) ⊎ (b ≡ false)
is_it true = inl refl
is_it false = inr refl

stands_or_same : (kind : Kind) (tags : List Tag) (tag : Tag) → HasForm kind tag → MayStand kind tags tag ⊎ (allowed kind tags tag ≡ Err SameTag)
stands_or_same kinds.Struct tags tag h = elim (is_it (is_tag_in tag tags)) [
  | inl e ↦ inr (rw (h, e) refl)
  | inr e ↦ inl (h, e)
]
stands_or_same kinds.Array tags tag h = inl h
stands_or_same kinds.List tags tag h = inl tt

-- a member's tag that is there already, a member in which reading stops, and those behind a member that is read
module _ (f : ℕ → Reads Tree) (whole : ℕ) (kind : Kind) (n : ℕ) (tags : List Tag) (tag : Tag) (type : ℕ) (opening body others : List ℕ) (lt : type ≤ 23) (o : IsOpening tag type opening) where
  tag_stops : allowed kind tags tag ≡ Err SameTag → members_with f whole kind (suc n) tags (opening ++ (body ++ others)) ≡ Err SameTag
  unfolding members_with
  tag_stops e = rw (no_end tag type opening (body ++ others) (omega (arith, lt)) o, head_again tag type opening (body ++ others) (omega (arith, lt)) o, e) refl

  member_stops : MayStand kind tags tag → f type (body ++ others) ≡ Err SameTag → members_with f whole kind (suc n) tags (opening ++ (body ++ others)) ≡ Err SameTag
  unfolding members_with
  member_stops may e = rw (no_end tag type opening (body ++ others) (omega (arith, lt)) o, head_again tag type opening (body ++ others) (omega (arith, lt)) o, allowed_again kind tags tag may, e) refl

  others_stop : (v : Tree) → MayStand kind tags tag → f type (body ++ others) ≡ Ok (v, others) → members_with f whole kind n (tags ++ tag ∷ []) others ≡ Err SameTag → members_with f whole kind (suc n) tags (opening ++ (body ++ others)) ≡ Err SameTag
  unfolding members_with
  others_stop v may b e = rw (no_end tag type opening (body ++ others) (omega (arith, lt)) o, head_again tag type opening (body ++ others) (omega (arith, lt)) o, allowed_again kind tags tag may, b, e) refl

container_stops : (room whole : ℕ) (kind : Kind) (inner rest : List ℕ) → whole ≤ 65535 + length rest
    → members_with (body_at room whole) whole kind (length (inner ++ 24 ∷ rest)) [] (inner ++ 24 ∷ rest) ≡ Err SameTag
    → container_at (suc room) whole kind ((inner ++ 24 ∷ []) ++ rest) ≡ Err SameTag
unfolding container_at
container_stops room whole kind inner rest short h =
    rw (append_assoc inner (24 ∷ []) rest, nothing_again whole (inner ++ 24 ∷ rest) (omega (arith, length-append inner (24 ∷ rest)))) h

structure_stops : (room whole : ℕ) (bytes : List ℕ) → container_at room whole kinds.Struct bytes ≡ Err SameTag → body_at room whole 21 bytes ≡ Err SameTag
unfolding body_with
structure_stops room whole bytes h = rw h refl

array_stops : (room whole : ℕ) (bytes : List ℕ) → container_at room whole kinds.Array bytes ≡ Err SameTag → body_at room whole 22 bytes ≡ Err SameTag
unfolding body_with
array_stops room whole bytes h = rw h refl

list_stops : (room whole : ℕ) (bytes : List ℕ) → container_at room whole kinds.List bytes ≡ Err SameTag → body_at room whole 23 bytes ≡ Err SameTag
unfolding body_with
list_stops room whole bytes h = rw h refl

mutual
  body_stops : (v : Tree) (room whole type : ℕ) (body rest : List ℕ) → IsBody v type body → MayRepeat v room → whole ≤ 65535 + length rest → IsAllowed v room ⊎ (body_at room whole type (body ++ rest) ≡ Err SameTag)
  body_stops (int z) room whole type body rest h may short = inl may
  body_stops (uint n) room whole type body rest h may short = inl may
  body_stops (bool b) room whole type body rest h may short = inl may
  body_stops (text s) room whole type body rest h may short = inl may
  body_stops (octets s) room whole type body rest h may short = inl may
  body_stops null room whole type body rest h may short = inl may
  body_stops (bits32 n) room whole type body rest h may short = inl may
  body_stops (bits64 n) room whole type body rest h may short = inl may
  body_stops (structure es) zero whole type body rest h may short = absurd may
  body_stops (structure es) (suc room) whole type body rest h may short = elim (members_stop es kinds.Struct [] room whole (length (h.0 ++ 24 ∷ rest)) h.0 rest h.2 may short (omega arith)) [
    | inl a ↦ inl a
    | inr e ↦ inr (rw (h.1, h.3) (structure_stops (suc room) whole ((h.0 ++ 24 ∷ []) ++ rest) (container_stops room whole kinds.Struct h.0 rest short e)))
  ]
  body_stops (array es) zero whole type body rest h may short = absurd may
  body_stops (array es) (suc room) whole type body rest h may short = elim (members_stop es kinds.Array [] room whole (length (h.0 ++ 24 ∷ rest)) h.0 rest h.2 may short (omega arith)) [
    | inl a ↦ inl a
    | inr e ↦ inr (rw (h.1, h.3) (array_stops (suc room) whole ((h.0 ++ 24 ∷ []) ++ rest) (container_stops room whole kinds.Array h.0 rest short e)))
  ]
  body_stops (list es) zero whole type body rest h may short = absurd may
  body_stops (list es) (suc room) whole type body rest h may short = elim (members_stop es kinds.List [] room whole (length (h.0 ++ 24 ∷ rest)) h.0 rest h.2 may short (omega arith)) [
    | inl a ↦ inl a
    | inr e ↦ inr (rw (h.1, h.3) (list_stops (suc room) whole ((h.0 ++ 24 ∷ []) ++ rest) (container_stops room whole kinds.List h.0 rest short e)))
  ]

  members_stop : (es : Elements) (kind : Kind) (tags : List Tag) (room whole n : ℕ) (inner rest : List ℕ) → AreSpelled es inner → TheyMayRepeat es kind room → whole ≤ 65535 + length rest
      → length (inner ++ 24 ∷ rest) ≤ n → AreAllowed es kind tags room ⊎ (members_with (body_at room whole) whole kind n tags (inner ++ 24 ∷ rest) ≡ Err SameTag)
  members_stop none kind tags room whole n inner rest h may short le = inl tt
  members_stop (more tag v es) kind tags room whole zero inner rest h may short le = absurd (omega (arith, length-append inner (24 ∷ rest)))
  members_stop (more tag v es) kind tags room whole (suc n) inner rest h may short le =
      let type = h.0 in
      let opening = h.1 in
      let body = h.2 in
      let others = h.3 in
      let one : inner ++ 24 ∷ rest ≡ opening ++ (body ++ (others ++ 24 ∷ rest)) = regroup inner opening body others rest h.7 in
      let fewer : length (others ++ 24 ∷ rest) ≤ n = shorter tag type opening body (others ++ 24 ∷ rest) n h.4 (rw one at le) in
      let wide : whole ≤ 65535 + length (others ++ 24 ∷ rest) = omega (arith, length-append others (24 ∷ rest)) in
      let small : type ≤ 23 = omega (arith, small_type v type body h.5) in
      elim (stands_or_same kind tags tag may.1) [
        | inr e ↦ inr (rw one (tag_stops (body_at room whole) whole kind n tags tag type opening body (others ++ 24 ∷ rest) small h.4 e))
        | inl st ↦ elim (body_stops v room whole type body (others ++ 24 ∷ rest) h.5 may.2 wide) [
          | inr e ↦ inr (rw one (member_stops (body_at room whole) whole kind n tags tag type opening body (others ++ 24 ∷ rest) small h.4 st e))
          | inl b ↦ elim (members_stop es kind (tags ++ tag ∷ []) room whole n others rest h.6 may.3 short fewer) [
            | inl a ↦ inl (may.0, st, b, a)
            | inr e ↦ inr (rw one (others_stop (body_at room whole) whole kind n tags tag type opening body (others ++ 24 ∷ rest) small h.4 v st (body_again v room whole type body (others ++ 24 ∷ rest) h.5 b wide) e))
          ]
        ]
      ]

pub element_or_same_tag : (tag : Tag) (v : Tree) (bytes rest : List ℕ) → IsRepeating tag v bytes → IsElement tag v bytes ⊎ (element_at (bytes ++ rest) ≡ Err SameTag)
unfolding element_at
element_or_same_tag tag v bytes rest h =
    let s = h.spelled in
    let type = s.0 in
    let opening = s.1 in
    let body = s.2 in
    let e : bytes ++ rest ≡ opening ++ (body ++ rest) = rw s.5 (append_assoc opening body rest) in
    let short : length (bytes ++ rest) ≤ 65535 + length rest = omega (arith, h.short, length-append bytes rest) in
    let head : head_at (bytes ++ rest) ≡ Ok ((type, tag), body ++ rest) = rw e (head_again tag type opening (body ++ rest) (small_type v type body s.4) s.3) in
    elim (body_stops v 16 (length (bytes ++ rest)) type body rest s.4 h.allowed short) [
      | inl a ↦ inl (record { spelled = h.spelled; tag_fits = h.tag_fits; allowed = a; short = h.short })
      | inr d ↦ inr (rw (head, d) refl)
    ]

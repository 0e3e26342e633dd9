-- A cursor comes to an end.
use Rattle.std.proofs.Common.{◌≡◌, ℕ, zero, suc, ◌+◌, ◌<◌, ◌≤◌, Bool, true, false, ltb, ◌&&◌, ◌||◌, List, [], ◌∷◌, length, take, drop, Option, Some, None, Result, Ok, Err, refl, ap, subst, ◌∙◌, arith, ◌⊎◌, inl, inr}
use Rattle.std.specs.Prelude.{is_none}
use Rattle.std.proofs.lemmas.List.{length-drop}
use Rattle.mt_tlv.specs.declared.value.Tag.{Tag}
use Rattle.mt_tlv.specs.declared.fault.TlvFault.{TlvFault}
use Rattle.mt_tlv.specs.declared.fault.TlvFault.TheVariants.{Short, TooLong}
use Rattle.mt_tlv.specs.declared.reading.Kind.{Kind}
use Rattle.mt_tlv.specs.Reading.{◌>>=◌, cut_at, head_at, piece_at, is_scalar_type, scalar_at, text_at, string_at}
use Rattle.mt_tlv.specs.Parts.{Place, Piece, fits, ends, part_at, piece_in, innermost, kinds_after, moved, next_at, start}
use Rattle.mt_tlv.specs.Runs.{Comes, Faults, behind, ComesToTheEnd}
use Rattle.mt_tlv.proofs.Cursors.{place}
use Rattle.mt_tlv.proofs.Faults.{Within, bind_within, cond_within, piece_within, head_within, scalar_within, string_within, text_within, goes_in, no_head, nothing_in_front}

part_within : (n whole depth type : ℕ) (tag : Tag) (bytes : List ℕ) → length bytes ≤ n → Within n (part_at whole depth type tag bytes)
unfolding part_at
part_within n whole depth type tag bytes le =
    cond_within n (is_scalar_type type) _ _ (bind_within n (scalar_at whole type bytes) _ (scalar_within n whole type bytes le) (λ x h. h))
    (cond_within n (ltb type 16) _ _ (bind_within n (text_at whole type bytes) _ (text_within n whole type bytes le) (λ x h. h))
    (cond_within n (ltb type 20) _ _ (bind_within n (string_at whole type bytes) _ (string_within n whole type bytes le) (λ x h. h))
    (cond_within n (ltb depth 16) _ _ (bind_within n (piece_at whole 0 bytes) _ (piece_within n whole 0 bytes le) (λ x h. h)) tt)))

fits_within : (n : ℕ) (r : Result (Unit {0}) TlvFault) (s : Result (Piece × List ℕ) TlvFault) → Within n s → Within n (r >>= λ u. s)
fits_within n (Ok u) s h = h
fits_within n (Err e) s h = tt

-- the end of a container is a byte
end_within : (whole b : ℕ) (bytes : List ℕ) → Within (length bytes) (piece_at whole 1 (b ∷ bytes))
end_within whole b bytes =
    cond_within (length bytes) (ltb 65535 1 || ltb (65535 + length (b ∷ bytes)) (whole + 1)) (Err TooLong) (cut_at 1 (b ∷ bytes)) tt
    (cond_within (length bytes) (ltb (length (b ∷ bytes)) 1) (Err Short) (Ok (take 1 (b ∷ bytes), drop 1 (b ∷ bytes))) tt (omega (arith, length-drop 1 (b ∷ bytes))))

-- a part takes a byte or more
piece_in_within : (whole depth b : ℕ) (o : Option Kind) (bytes : List ℕ) → Within (length bytes) (piece_in whole o depth (b ∷ bytes))
unfolding piece_in
piece_in_within whole depth b o bytes =
    cond_within (length bytes) (ends o (b ∷ bytes)) _ _ (bind_within (length bytes) (piece_at whole 1 (b ∷ bytes)) _ (end_within whole b bytes) (λ x h. h))
    (bind_within (length bytes) (head_at (b ∷ bytes)) _ (head_within (length bytes) (b ∷ bytes) (omega arith)) (λ h le. fits_within (length bytes) (fits o h.0.1) _ (part_within (length bytes) whole depth h.0.0 h.0.1 h.1 le)))

nothing_ends : (o : Option Kind) → ends o [] ≡ false
nothing_ends None = refl
nothing_ends (Some kind) = refl

abbrev Outcome : Place → Type 0
Outcome p = ComesToTheEnd p ⊎ ((e : TlvFault) × Faults p e)

after : (p m : Place) (x : Piece) → m.whole ≡ p.whole → next_at p ≡ Ok (Some x, m) → Outcome m → Outcome p
after p m x same e (inl h) = inl (x ∷ h.0, h.1, (m, e, subst (λ w. Comes m h.0 (behind w h.1)) same h.2))
after p m x same e (inr h) = inr (h.0, (x ∷ h.1.0, h.1.1, (m, e, h.1.2), h.1.3))

-- a step where the element has not ended
module _ (whole : ℕ) (ks : List Kind) (begun : Bool) (goes : (begun && is_none (innermost ks)) ≡ false) where
  by_piece : (bytes : List ℕ) (r : Result (Piece × List ℕ) TlvFault) → piece_in whole (innermost ks) (length ks) bytes ≡ r
      → ((x : Piece × List ℕ) → r ≡ Ok x → Outcome (place whole x.1 (kinds_after x.0 ks) true None)) → Outcome (place whole bytes ks begun None)
  by_piece bytes (Err e) is all = inr (e, ([], place whole bytes ks begun None, refl, goes_in whole bytes ks begun goes ∙ ap (moved (place whole bytes ks begun None)) is))
  by_piece bytes (Ok x) is all = after (place whole bytes ks begun None) (place whole x.1 (kinds_after x.0 ks) true None) x.0 refl (goes_in whole bytes ks begun goes ∙ ap (moved (place whole bytes ks begun None)) is) (all x refl)

  steps_on : (bytes : List ℕ) → ((rest : List ℕ) (later : List Kind) → length rest < length bytes → Outcome (place whole rest later true None)) → Outcome (place whole bytes ks begun None)
  steps_on [] all = inr (Short, ([], place whole [] ks begun None, refl, goes_in whole [] ks begun goes ∙ ap (moved (place whole [] ks begun None)) (no_head whole (innermost ks) (length ks) [] (nothing_ends (innermost ks)) Short nothing_in_front)))
  steps_on (b ∷ bytes) all = by_piece (b ∷ bytes) (piece_in whole (innermost ks) (length ks) (b ∷ bytes)) refl
      (λ x is. all x.1 (kinds_after x.0 ks) (let le = subst (Within (length bytes)) is (piece_in_within whole (length ks) b (innermost ks) bytes) in omega (arith, le)))

comes_out : (n whole : ℕ) (bytes : List ℕ) (ks : List Kind) → length bytes ≤ n → Outcome (place whole bytes ks true None)
comes_out n whole bytes [] le = inl ([], bytes, refl)
comes_out zero whole bytes (kind ∷ ks) le = steps_on whole (kind ∷ ks) true refl bytes (λ rest later lt. absurd (omega (arith, le, lt)))
comes_out (suc n) whole bytes (kind ∷ ks) le = steps_on whole (kind ∷ ks) true refl bytes (λ rest later lt. comes_out n whole rest later (omega (arith, le, lt)))

pub ends_or_faults : (bytes : List ℕ) → Outcome (start bytes)
ends_or_faults bytes = steps_on (length bytes) [] false refl bytes (λ rest later lt. comes_out (length rest) (length bytes) rest later (omega arith))

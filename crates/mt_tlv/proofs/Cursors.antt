-- Steps of a cursor.
use Rattle.std.proofs.Common.{◌≡◌, ℕ, ◌+◌, ◌-◌, ◌<◌, ◌≤◌, Bool, true, false, ◌&&◌, List, [], ◌∷◌, ◌++◌, length, get_or, take, Option, Some, None, Ok, Err, refl, ap, ◌∙◌, arith}
use Rattle.std.specs.Prelude.{is_none, reverse}
use Rattle.std.proofs.lemmas.List.{take_more, reverse-append}
use Rattle.mt_tlv.specs.declared.fault.TlvFault.{TlvFault}
use Rattle.mt_tlv.specs.declared.reading.Kind.{Kind}
use Rattle.mt_tlv.specs.declared.reading.Kind.TheVariants as kinds
use Rattle.mt_tlv.specs.Parts.{Place, Piece, leave, kinds_after, innermost, piece_in, next_at}

abbrev pub place : ℕ → List ℕ → List Kind → Bool → Option TlvFault → Place
place whole rest open_kinds begun fault = record { whole = whole; rest = rest; open_kinds = open_kinds; begun = begun; fault = fault }

pub next_fault : (p : Place) (f : TlvFault) → p.fault ≡ Some f → (next_at p ≡ Err f) × (p ≡ place p.whole p.rest p.open_kinds p.begun (Some f))
unfolding next_at
next_fault p f e = (rw e refl, ap (place p.whole p.rest p.open_kinds p.begun) e)

some_none : (o : Option TlvFault) → ((f : TlvFault) → o ≡ Some f → ⊥) → o ≡ None
some_none None h = refl
some_none (Some f) h = absurd (h f refl)

pub next_ended : (p : Place) → ((f : TlvFault) → p.fault ≡ Some f → ⊥) → (p.begun && is_none (innermost p.open_kinds)) ≡ true → next_at p ≡ Ok (None, p)
unfolding next_at
next_ended p h e = let n = some_none p.fault h in rw (n, e) refl

module _ (p : Place) (no_fault : (f : TlvFault) → p.fault ≡ Some f → ⊥) (goes : (p.begun && is_none (innermost p.open_kinds)) ≡ false) where
  pub next_err : (f : TlvFault) (depth : ℕ) → depth ≡ length p.open_kinds → piece_in p.whole (innermost p.open_kinds) depth p.rest ≡ Err f → next_at p ≡ Err f
  unfolding next_at
  next_err f depth d e = let n = some_none p.fault no_fault in rw (n, goes, ← d, e) refl

  pub next_ok : (x : Piece) (rest : List ℕ) (depth : ℕ) → depth ≡ length p.open_kinds → piece_in p.whole (innermost p.open_kinds) depth p.rest ≡ Ok (x, rest) → next_at p ≡ Ok (Some x, place p.whole rest (kinds_after x p.open_kinds) true None)
  unfolding next_at
  next_ok x rest depth d e = let n = some_none p.fault no_fault in rw (n, goes, ← d, e) refl

pub leave_kinds : (xs : List Kind) (depth : ℕ) → 0 < depth → depth ≤ length xs → reverse (take (depth - 1) xs) ≡ kinds_after leave (reverse (take depth xs))
leave_kinds xs depth pos le =
    let d : depth ≡ depth - 1 + 1 = omega arith in
    let more : take depth xs ≡ take (depth - 1) xs ++ get_or xs (depth - 1) kinds.List ∷ [] = ap (λ n. take n xs) d ∙ take_more xs (depth - 1) kinds.List (omega arith) in
    rw (more, reverse-append) refl

-- Reading members one after the other, as a loop does.
use Rattle.std.proofs.Common.{◌≡◌, ℕ, zero, suc, ◌-◌, ◌≤◌, ◌<◌, true, false, List, [], ◌∷◌, ◌++◌, length, map, Result, Ok, Err, refl, sym, ap, arith}
use Rattle.mt_tlv.specs.declared.value.Tag.{Tag}
use Rattle.mt_tlv.specs.declared.value.Value.{Value}
use Rattle.mt_tlv.specs.declared.fault.TlvFault.{TlvFault}
use Rattle.mt_tlv.specs.declared.reading.Kind.{Kind}
use Rattle.mt_tlv.specs.Tree.{Tree, Elements, none, more}
use Rattle.mt_tlv.specs.View.{tree, elements}
use Rattle.mt_tlv.specs.Reading.{◌>>=◌, Reads, allowed, head_at, is_end, piece_at, members_with, body_at, container_at}

abbrev pub tags_of : List (Tag × Value) → List Tag
tags_of ms = map (λ m. m.0) ms

abbrev pub before : List (Tag × Value) → Elements → Elements
before [] es = es
before (m ∷ ms) es = more m.0 (tree m.1) (before ms es)

-- what was read before, and what is still read
abbrev pub in_front : List (Tag × Value) → Result (Elements × List ℕ) TlvFault → Result (Elements × List ℕ) TlvFault
in_front ms (Ok x) = Ok (before ms x.0, x.1)
in_front ms (Err e) = Err e

pub before-none : (ms : List (Tag × Value)) → before ms none ≡ elements ms
before-none [] = refl
before-none (m ∷ ms) = ap (more m.0 (tree m.1)) (before-none ms)

before-push : (ms : List (Tag × Value)) (m : Tag × Value) (es : Elements) → before (ms ++ m ∷ []) es ≡ before ms (more m.0 (tree m.1) es)
before-push [] m es = refl
before-push (x ∷ ms) m es = ap (more x.0 (tree x.1)) (before-push ms m es)

pub in_front-push : (ms : List (Tag × Value)) (m : Tag × Value) (r : Result (Elements × List ℕ) TlvFault) → in_front ms (r >>= λ x. Ok (more m.0 (tree m.1) x.0, x.1)) ≡ in_front (ms ++ m ∷ []) r
in_front-push ms m (Ok x) = ap (λ (es : Elements). Ok (es, x.1)) (sym (before-push ms m x.0))
in_front-push ms m (Err e) = refl

pub in_front-none : (r : Result (Elements × List ℕ) TlvFault) → in_front [] r ≡ r
in_front-none (Ok x) = refl
in_front-none (Err e) = refl

abbrev failed : (A : Type 0) → TlvFault → Result A TlvFault
failed A d = Err d

same_fault : {A B : Type 0} {d e : TlvFault} → failed A d ≡ failed A e → failed B d ≡ failed B e
same_fault p = cc

module _ (f : ℕ → Reads Tree) (whole : ℕ) (kind : Kind) where
  pub ends : (n : ℕ) (tags : List Tag) (bytes : List ℕ) (x : List ℕ × List ℕ) → length bytes ≤ n → is_end bytes ≡ true → piece_at whole 1 bytes ≡ Ok x → members_with f whole kind n tags bytes ≡ Ok (none, x.1)
  unfolding members_with
  ends n tags [] x le e p = absurd cc
  ends zero tags (b ∷ bytes) x le e p = absurd (omega arith)
  ends (suc n) tags (b ∷ bytes) x le e p = rw (e, p) refl

  pub end_fails : (n : ℕ) (tags : List Tag) (bytes : List ℕ) (d : TlvFault) → length bytes ≤ n → is_end bytes ≡ true → piece_at whole 1 bytes ≡ Err d → members_with f whole kind n tags bytes ≡ Err d
  unfolding members_with
  end_fails n tags [] d le e p = absurd cc
  end_fails zero tags (b ∷ bytes) d le e p = absurd (omega arith)
  end_fails (suc n) tags (b ∷ bytes) d le e p = rw (e, p) refl

  pub goes_on : (n : ℕ) (tags : List Tag) (bytes : List ℕ) (h : ℕ × Tag) (after : List ℕ) (v : Tree) (rest : List ℕ)
      → length bytes ≤ n → is_end bytes ≡ false → head_at bytes ≡ Ok (h, after) → allowed kind tags h.1 ≡ Ok tt → f h.0 after ≡ Ok (v, rest) → length rest < length bytes
      → (m : ℕ) × (length rest ≤ m) × (members_with f whole kind n tags bytes ≡ (members_with f whole kind m (tags ++ h.1 ∷ []) rest >>= λ ms. Ok (more h.1 v ms.0, ms.1)))
  unfolding members_with head_at
  goes_on zero tags [] h after v rest le e hd al fv sh = absurd cc
  goes_on zero tags (b ∷ bytes) h after v rest le e hd al fv sh = absurd (omega arith)
  goes_on (suc n) tags bytes h after v rest le e hd al fv sh = (n, omega arith, rw (e, hd, al, fv) refl)

  pub head_fails : (n : ℕ) (tags : List Tag) (bytes : List ℕ) (d : TlvFault) → length bytes ≤ n → is_end bytes ≡ false → head_at bytes ≡ Err d → members_with f whole kind n tags bytes ≡ Err d
  unfolding members_with head_at
  head_fails zero tags [] d le e p = same_fault p
  head_fails zero tags (b ∷ bytes) d le e p = absurd (omega arith)
  head_fails (suc n) tags bytes d le e p = rw (e, p) refl

  pub tag_fails : (n : ℕ) (tags : List Tag) (bytes : List ℕ) (h : ℕ × Tag) (after : List ℕ) (d : TlvFault) → length bytes ≤ n → is_end bytes ≡ false → head_at bytes ≡ Ok (h, after) → allowed kind tags h.1 ≡ Err d → members_with f whole kind n tags bytes ≡ Err d
  unfolding members_with head_at
  tag_fails zero tags [] h after d le e hd p = absurd cc
  tag_fails zero tags (b ∷ bytes) h after d le e hd p = absurd (omega arith)
  tag_fails (suc n) tags bytes h after d le e hd p = rw (e, hd, p) refl

  pub body_fails : (n : ℕ) (tags : List Tag) (bytes : List ℕ) (h : ℕ × Tag) (after : List ℕ) (d : TlvFault) → length bytes ≤ n → is_end bytes ≡ false → head_at bytes ≡ Ok (h, after) → allowed kind tags h.1 ≡ Ok tt → f h.0 after ≡ Err d → members_with f whole kind n tags bytes ≡ Err d
  unfolding members_with head_at
  body_fails zero tags [] h after d le e hd al p = absurd cc
  body_fails zero tags (b ∷ bytes) h after d le e hd al p = absurd (omega arith)
  body_fails (suc n) tags bytes h after d le e hd al p = rw (e, hd, al, p) refl

-- no container where its members are none
pub container_fails : (room whole : ℕ) (kind : Kind) (bytes : List ℕ) (x : List ℕ × List ℕ) (d : TlvFault) → 1 ≤ room → piece_at whole 0 bytes ≡ Ok x
    → members_with (body_at (room - 1) whole) whole kind (length x.1) [] x.1 ≡ Err d → container_at room whole kind bytes ≡ Err d
unfolding container_at
container_fails zero whole kind bytes x d lt p m = absurd (omega arith)
container_fails (suc room) whole kind bytes x d lt p m = let e : suc room - 1 ≡ room = omega arith in rw p (rw e at m)

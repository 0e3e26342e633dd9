-- What is read of bytes, where more bytes follow them.
use Rattle.std.proofs.Common.{◌≡◌, ℕ, zero, suc, ◌+◌, ◌/◌, ◌%◌, ◌^◌, ◌≤◌, Bool, true, false, cond, ltb, eqb, ◌||◌, List, [], ◌∷◌, ◌++◌, length, Result, Ok, Err, refl, sym, ap, ◌∙◌, arith, ◌⊎◌, inl, inr}
use Rattle.std.specs.Prelude.{◌≢◌}
use Rattle.std.proofs.lemmas.Bool.{lt-ltb, le-ltb, ltb-true, ltb-false}
use Rattle.std.proofs.lemmas.List.{length-append, take-append-le, drop-append-le}
use Rattle.mt_tlv.specs.declared.value.Tag.{Tag}
use Rattle.mt_tlv.specs.declared.fault.TlvFault.{TlvFault}
use Rattle.mt_tlv.specs.declared.fault.TlvFault.TheVariants.{Short, TooLong}
use Rattle.mt_tlv.specs.declared.reading.Kind.{Kind}
use Rattle.mt_tlv.specs.Tree.{Tree, Elements}
use Rattle.mt_tlv.specs.Reading.{◌>>=◌, Reads, cut_at, piece_at, number_at, context_at, profile_number_at, full_at, tag_at, head_at, allowed, is_scalar_type, scalar_length, scalar_at, string_at, text_of, text_at, is_end, kind_of, members_with, body_with, container_at, body_at, element_at}

is_it : (b : Bool) → (b ≡ true) ⊎ (b ≡ false)
is_it true = inl refl
is_it false = inr refl

-- the same test of both sides, with the same number more
same_test : (a b m : ℕ) → ltb (a + m) (b + m) ≡ ltb a b
same_test a b m = elim (is_it (ltb a b)) [
  | inl e ↦ let lt = ltb-true a b e in lt-ltb (a + m) (b + m) (omega (arith, lt)) ∙ sym e
  | inr e ↦ let le = ltb-false a b e in le-ltb (a + m) (b + m) (omega (arith, le)) ∙ sym e
]

module _ (later : List ℕ) where
  -- Extends r s: what r read, s read too, and the later bytes are left behind it; a fault of r is one of s, but for Short.
  abbrev Extends : {A : Type 0} → Result (A × List ℕ) TlvFault → Result (A × List ℕ) TlvFault → Type 0
  Extends (Ok x) s = s ≡ Ok (x.0, x.1 ++ later)
  Extends (Err e) s = e ≢ Short → s ≡ Err e

  bind_extends : {A B : Type 0} (r s : Result (A × List ℕ) TlvFault) (f g : A × List ℕ → Result (B × List ℕ) TlvFault) → Extends r s → ((x : A × List ℕ) → Extends (f x) (g (x.0, x.1 ++ later))) → Extends (r >>= f) (s >>= g)
  bind_extends (Ok x) s f g h k = rw h (k x)
  bind_extends (Err e) s f g h k = λ ne. rw (h ne) refl

  -- a step that reads no bytes
  same_extends : {A B : Type 0} (r : Result A TlvFault) (f g : A → Result (B × List ℕ) TlvFault) → ((x : A) → Extends (f x) (g x)) → Extends (r >>= f) (r >>= g)
  same_extends (Ok x) f g k = k x
  same_extends (Err e) f g k = λ ne. refl

  cond_extends : {A : Type 0} (b : Bool) (r s t u : Result (A × List ℕ) TlvFault) → Extends r t → Extends s u → Extends (cond b r s) (cond b t u)
  cond_extends true r s t u h k = h
  cond_extends false r s t u h k = k

  cut_extends : (k : ℕ) (bytes : List ℕ) → Extends (cut_at k bytes) (cut_at k (bytes ++ later))
  cut_extends k bytes = elim (is_it (ltb (length bytes) k)) [
    | inl e ↦ rw e (λ ne. absurd (ne refl))
    | inr e ↦
        let le = ltb-false (length bytes) k e in
        let enough : ltb (length (bytes ++ later)) k ≡ false = le-ltb _ _ (omega (arith, le, length-append bytes later)) in
        rw (e, enough, take-append-le k bytes later le, drop-append-le k bytes later le) refl
  ]

  piece_extends : (whole k : ℕ) (bytes : List ℕ) → Extends (piece_at whole k bytes) (piece_at (whole + length later) k (bytes ++ later))
  piece_extends whole k bytes =
      let left : 65535 + length (bytes ++ later) ≡ 65535 + length bytes + length later = omega (arith, length-append bytes later) in
      let right : whole + length later + k ≡ whole + k + length later = omega arith in
      let same : ltb (65535 + length (bytes ++ later)) (whole + length later + k) ≡ ltb (65535 + length bytes) (whole + k) = ap (λ n. ltb n (whole + length later + k)) left ∙ ap (ltb (65535 + length bytes + length later)) right ∙ same_test (65535 + length bytes) (whole + k) (length later) in
      rw same (cond_extends (ltb 65535 k || ltb (65535 + length bytes) (whole + k)) (Err TooLong) (cut_at k bytes) (Err TooLong) (cut_at k (bytes ++ later)) (λ ne. refl) (cut_extends k bytes))

  number_extends : (k : ℕ) (bytes : List ℕ) → Extends (number_at k bytes) (number_at k (bytes ++ later))
  number_extends k bytes = bind_extends (cut_at k bytes) (cut_at k (bytes ++ later)) _ _ (cut_extends k bytes) (λ x. refl)

  context_extends : (bytes : List ℕ) → Extends (context_at bytes) (context_at (bytes ++ later))
  context_extends [] = λ ne. absurd (ne refl)
  context_extends (b ∷ bytes) = refl

  profile_extends : (control : ℕ) (bytes : List ℕ) → Extends (profile_number_at control bytes) (profile_number_at control (bytes ++ later))
  profile_extends control bytes = number_extends (cond (eqb (control % 2) 0) 2 4) bytes

  full_extends : (control : ℕ) (bytes : List ℕ) → Extends (full_at control bytes) (full_at control (bytes ++ later))
  full_extends control bytes =
      bind_extends (number_at 2 bytes) (number_at 2 (bytes ++ later)) _ _ (number_extends 2 bytes) (λ v.
      bind_extends (number_at 2 v.1) (number_at 2 (v.1 ++ later)) _ _ (number_extends 2 v.1) (λ p.
      bind_extends (profile_number_at control p.1) (profile_number_at control (p.1 ++ later)) _ _ (profile_extends control p.1) (λ x. refl)))

  tag_extends : (control : ℕ) (bytes : List ℕ) → Extends (tag_at control bytes) (tag_at control (bytes ++ later))
  tag_extends control bytes =
      cond_extends (eqb control 0) _ _ _ _ refl
      (cond_extends (eqb control 1) _ _ _ _ (context_extends bytes)
      (cond_extends (ltb control 4) _ _ _ _ (bind_extends (profile_number_at control bytes) (profile_number_at control (bytes ++ later)) _ _ (profile_extends control bytes) (λ x. refl))
      (cond_extends (ltb control 6) _ _ _ _ (bind_extends (profile_number_at control bytes) (profile_number_at control (bytes ++ later)) _ _ (profile_extends control bytes) (λ x. refl))
      (full_extends control bytes))))

  head_extends : (bytes : List ℕ) → Extends (head_at bytes) (head_at (bytes ++ later))
  unfolding head_at
  head_extends [] = λ ne. absurd (ne refl)
  head_extends (c ∷ bytes) = cond_extends (ltb (c % 32) 24) _ _ _ _ (bind_extends (tag_at (c / 32) bytes) (tag_at (c / 32) (bytes ++ later)) _ _ (tag_extends (c / 32) bytes) (λ x. refl)) (λ ne. refl)

  scalar_extends : (whole type : ℕ) (bytes : List ℕ) → Extends (scalar_at whole type bytes) (scalar_at (whole + length later) type (bytes ++ later))
  unfolding scalar_at
  scalar_extends whole type bytes = bind_extends (piece_at whole (scalar_length type) bytes) (piece_at (whole + length later) (scalar_length type) (bytes ++ later)) _ _ (piece_extends whole (scalar_length type) bytes) (λ x. refl)

  string_extends : (whole type : ℕ) (bytes : List ℕ) → Extends (string_at whole type bytes) (string_at (whole + length later) type (bytes ++ later))
  unfolding string_at
  string_extends whole type bytes = bind_extends (number_at (2 ^ (type % 4)) bytes) (number_at (2 ^ (type % 4)) (bytes ++ later)) _ _ (number_extends (2 ^ (type % 4)) bytes) (λ x. piece_extends whole x.0 x.1)

  text_extends : (whole type : ℕ) (bytes : List ℕ) → Extends (text_at whole type bytes) (text_at (whole + length later) type (bytes ++ later))
  text_extends whole type bytes = bind_extends (string_at whole type bytes) (string_at (whole + length later) type (bytes ++ later)) _ _ (string_extends whole type bytes) (λ x. same_extends (text_of x.0) _ _ (λ s. refl))

  -- Behind the later bytes, both readers of members read the same.
  abbrev BothRead : (Kind → Reads Elements) → (Kind → Reads Elements) → Type 0
  BothRead f g = (kind : Kind) (bytes : List ℕ) → Extends (f kind bytes) (g kind (bytes ++ later))

  body_extends : (f g : Kind → Reads Elements) (whole type : ℕ) (bytes : List ℕ) → BothRead f g → Extends (body_with f whole type bytes) (body_with g (whole + length later) type (bytes ++ later))
  unfolding body_with
  body_extends f g whole type bytes both =
      cond_extends (is_scalar_type type) _ _ _ _ (scalar_extends whole type bytes)
      (cond_extends (ltb type 16) _ _ _ _ (bind_extends (text_at whole type bytes) (text_at (whole + length later) type (bytes ++ later)) _ _ (text_extends whole type bytes) (λ x. refl))
      (cond_extends (ltb type 20) _ _ _ _ (bind_extends (string_at whole type bytes) (string_at (whole + length later) type (bytes ++ later)) _ _ (string_extends whole type bytes) (λ x. refl))
      (bind_extends (f (kind_of type) bytes) (g (kind_of type) (bytes ++ later)) _ _ (both (kind_of type) bytes) (λ x. refl))))

  module _ (f g : ℕ → Reads Tree) (both : (type : ℕ) (bytes : List ℕ) → Extends (f type bytes) (g type (bytes ++ later))) (whole : ℕ) (kind : Kind) where
    members_extend : (n m : ℕ) (tags : List Tag) (bytes : List ℕ) → n ≤ m → Extends (members_with f whole kind n tags bytes) (members_with g (whole + length later) kind m tags (bytes ++ later))
    unfolding members_with head_at
    members_extend zero m tags bytes le = λ ne. absurd (ne refl)
    members_extend (suc n) zero tags bytes le = absurd (omega arith)
    members_extend (suc n) (suc m) tags [] le = λ ne. absurd (ne refl)
    members_extend (suc n) (suc m) tags (b ∷ bytes) le =
        cond_extends (is_end (b ∷ bytes)) _ _ _ _ (bind_extends (piece_at whole 1 (b ∷ bytes)) (piece_at (whole + length later) 1 (b ∷ (bytes ++ later))) _ _ (piece_extends whole 1 (b ∷ bytes)) (λ x. refl))
        (bind_extends (head_at (b ∷ bytes)) (head_at (b ∷ (bytes ++ later))) _ _ (head_extends (b ∷ bytes)) (λ h.
        same_extends (allowed kind tags h.0.1) _ _ (λ u.
        bind_extends (f h.0.0 h.1) (g h.0.0 (h.1 ++ later)) _ _ (both h.0.0 h.1) (λ v.
        bind_extends (members_with f whole kind n (tags ++ h.0.1 ∷ []) v.1) (members_with g (whole + length later) kind m (tags ++ h.0.1 ∷ []) (v.1 ++ later)) _ _ (members_extend n m (tags ++ h.0.1 ∷ []) v.1 (omega (arith, le))) (λ es. refl)))))

  container_extends : (room whole : ℕ) → BothRead (container_at room whole) (container_at room (whole + length later))
  unfolding container_at
  container_extends zero whole = λ kind bytes ne. refl
  container_extends (suc room) whole = λ kind bytes.
      bind_extends (piece_at whole 0 bytes) (piece_at (whole + length later) 0 (bytes ++ later)) _ _ (piece_extends whole 0 bytes) (λ x.
      members_extend (body_at room whole) (body_at room (whole + length later)) (λ type inner. body_extends (container_at room whole) (container_at room (whole + length later)) whole type inner (container_extends room whole)) whole kind (length x.1) (length (x.1 ++ later)) [] x.1 (omega (arith, length-append x.1 later)))

  element_extends : (bytes : List ℕ) → Extends (element_at bytes) (element_at (bytes ++ later))
  unfolding element_at
  element_extends bytes =
      rw (length-append bytes later) (bind_extends (head_at bytes) (head_at (bytes ++ later)) _ _ (head_extends bytes) (λ h.
      bind_extends (body_at 16 (length bytes) h.0.0 h.1) (body_at 16 (length bytes + length later) h.0.0 (h.1 ++ later)) _ _ (body_extends (container_at 16 (length bytes)) (container_at 16 (length bytes + length later)) (length bytes) h.0.0 h.1 (container_extends 16 (length bytes))) (λ v. refl)))

abbrev failed : TlvFault → Result ((Tag × Tree) × List ℕ) TlvFault
failed d = Err d

fault_is : (d e : TlvFault) → failed d ≡ failed e → d ≡ e
fault_is d e p = cc

abbrev done : (Tag × Tree) × List ℕ → Result ((Tag × Tree) × List ℕ) TlvFault
done x = Ok x

done_is : (x y : (Tag × Tree) × List ℕ) → done x ≡ done y → x ≡ y
done_is x y p = cc

by_fault : (later : List ℕ) (r s : Result ((Tag × Tree) × List ℕ) TlvFault) (e : TlvFault) → Extends later r s → e ≢ Short → r ≡ Err e → s ≡ Err e
by_fault later (Ok x) s e h ne is = absurd cc
by_fault later (Err d) s e h ne is = let same : d ≡ e = fault_is d e is in h (λ short. ne (sym same ∙ short)) ∙ ap failed same

pub fault_stays : (bytes later : List ℕ) (e : TlvFault) → e ≢ Short → element_at bytes ≡ Err e → element_at (bytes ++ later) ≡ Err e
fault_stays bytes later e ne is = by_fault later (element_at bytes) (element_at (bytes ++ later)) e (element_extends later bytes) ne is

by_element : (later : List ℕ) (r s : Result ((Tag × Tree) × List ℕ) TlvFault) (x : (Tag × Tree) × List ℕ) → Extends later r s → r ≡ Ok x → s ≡ Ok (x.0, x.1 ++ later)
by_element later (Ok y) s x h is = h ∙ ap (λ (z : (Tag × Tree) × List ℕ). done (z.0, z.1 ++ later)) (done_is y x is)
by_element later (Err d) s x h is = absurd cc

pub element_stays : (bytes later : List ℕ) (x : (Tag × Tree) × List ℕ) → element_at bytes ≡ Ok x → element_at (bytes ++ later) ≡ Ok (x.0, x.1 ++ later)
element_stays bytes later x is = by_element later (element_at bytes) (element_at (bytes ++ later)) x (element_extends later bytes) is

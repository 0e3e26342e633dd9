-- What is read is spelled so.
use Rattle.std.proofs.Common.{◌≡◌, ℕ, zero, suc, ◌+◌, ◌*◌, ◌/◌, ◌%◌, ◌^◌, ◌-◌, ◌<◌, ◌≤◌, Bool, true, false, cond, ltb, eqb, ◌||◌, List, [], ◌∷◌, ◌++◌, length, take, drop, Result, Ok, Err, refl, sym, ap, subst, ◌∙◌, append_assoc, arith, ◌⊎◌, inl, inr}
use Rattle.std.specs.Prelude.{ℤ}
use Rattle.std.specs.Str.{is_utf8}
use Rattle.std.proofs.lemmas.Bool.{ltb-false, ltb-true, eqb-true, eqb-false}
use Rattle.std.proofs.lemmas.List.{length-append, length-take, take-append-drop, nil_from_length}
use Rattle.std.proofs.lemmas.Bool.Decides.{nat_tests}
use Rattle.mt_tlv.specs.declared.value.Tag.{Tag}
use Rattle.mt_tlv.specs.declared.value.Tag.TheVariants.{Anonymous, Context, Common, Implicit, Full}
use Rattle.mt_tlv.specs.declared.fault.TlvFault.{TlvFault}
use Rattle.mt_tlv.specs.declared.fault.TlvFault.TheVariants.{Short, Reserved, NotUtf8, TagForm, SameTag, TooLong}
use Rattle.mt_tlv.specs.declared.reading.Kind.{Kind}
use Rattle.mt_tlv.specs.declared.reading.Kind.TheVariants as kinds
use Rattle.mt_tlv.specs.Tree.{Tree, int, text, octets, Elements, none, more}
use Rattle.mt_tlv.specs.Narrow.{little_endian}
use Rattle.mt_tlv.specs.Spelling.{IsProfileNumber, IsTagField, IsOpening, IsString, IsBody, AreSpelled, profile_width}
use Rattle.mt_tlv.specs.Limits.{is_anonymous, is_tag_in, MayStand, IsTag, IsAllowed, AreAllowed, IsElement}
use Rattle.mt_tlv.specs.Reading.{◌>>=◌, Reads, number_of, cut_at, piece_at, number_at, context_at, profile_number_at, full_at, tag_at, head_at, allowed, is_scalar_type, scalar_length, scalar_of, scalar_at, string_at, text_of, text_at, is_end, kind_of, container_of, members_with, body_with, container_at, body_at, element_at}
use Rattle.mt_tlv.proofs.Numbers.{IsBytes, IsBytes-rest, IsBytes-drop, IsBytes-take, number_of-below, little_endian-number_of}
use Rattle.mt_tlv.proofs.Signed.{Signed, signed_1, signed_2, signed_4, signed_8}

-- the value of a step that did not fail
bind_ok : {A B : Type 0} (r : Result A TlvFault) (f : A → Result B TlvFault) (y : B) → (r >>= f) ≡ Ok y → (x : A) × (r ≡ Ok x) × (f x ≡ Ok y)
bind_ok (Ok x) f y e = (x, refl, e)
bind_ok (Err d) f y e = absurd cc

-- a test that did not fail
guard_ok : {A : Type 0} (b : Bool) (d : TlvFault) (r : Result A TlvFault) (x : A) → cond b (Err d) r ≡ Ok x → (b ≡ false) × (r ≡ Ok x)
guard_ok true d r x e = absurd cc
guard_ok false d r x e = (refl, e)

guard_yes : {A : Type 0} (b : Bool) (d : TlvFault) (r : Result A TlvFault) (x : A) → cond b r (Err d) ≡ Ok x → (b ≡ true) × (r ≡ Ok x)
guard_yes true d r x e = (refl, e)
guard_yes false d r x e = absurd cc

chosen : {A : Type 0} (b : Bool) (x y z : A) → cond b x y ≡ z → ((b ≡ true) × (x ≡ z)) ⊎ ((b ≡ false) × (y ≡ z))
chosen true x y z e = inl (refl, e)
chosen false x y z e = inr (refl, e)

abbrev done : {A : Type 0} → A → Result A TlvFault
done x = Ok x

ok_is : {A : Type 0} (x y : A) → done x ≡ done y → x ≡ y
ok_is x y e = cc

or_false : (a b : Bool) → (a || b) ≡ false → (a ≡ false) × (b ≡ false)
or_false true b e = absurd cc
or_false false b e = (refl, e)

or_true : (a b : Bool) → (a || b) ≡ true → (a ≡ true) ⊎ (b ≡ true)
or_true true b e = inl refl
or_true false b e = inr e

-- what a reader took from the front
record Takes (bytes front rest : List ℕ) : Type 0 where
  parts : bytes ≡ front ++ rest
  front_fits : IsBytes front
  rest_fits : IsBytes rest

cut_takes : (k : ℕ) (bytes front rest : List ℕ) → IsBytes bytes → cut_at k bytes ≡ Ok (front, rest) → Takes bytes front rest × (length front ≡ k)
cut_takes k bytes front rest fits e =
    let g = guard_ok (ltb (length bytes) k) Short (Ok (take k bytes, drop k bytes)) (front, rest) e in
    let long : k ≤ length bytes = ltb-false _ _ g.0 in
    let same : (take k bytes, drop k bytes) ≡ (front, rest) = ok_is (take k bytes, drop k bytes) (front, rest) g.1 in
    subst (λ (x : List ℕ × List ℕ). Takes bytes x.0 x.1 × (length x.0 ≡ k)) same
    (record { parts = sym (take-append-drop k bytes); front_fits = IsBytes-take k bytes fits; rest_fits = IsBytes-drop k bytes fits }, omega (arith, length-take k bytes))

piece_takes : (whole k : ℕ) (bytes front rest : List ℕ) → IsBytes bytes → piece_at whole k bytes ≡ Ok (front, rest) → Takes bytes front rest × (length front ≡ k) × (whole ≤ 65535 + length rest) × (k ≤ 65535)
piece_takes whole k bytes front rest fits e =
    let g = guard_ok (ltb 65535 k || ltb (65535 + length bytes) (whole + k)) TooLong (cut_at k bytes) (front, rest) e in
    let o = or_false (ltb 65535 k) (ltb (65535 + length bytes) (whole + k)) g.0 in
    let t = cut_takes k bytes front rest fits g.1 in
    let len : length bytes ≡ length front + length rest = ap length t.0.parts ∙ length-append front rest in
    let small : k ≤ 65535 = ltb-false _ _ o.0 in
    let short : whole + k ≤ 65535 + length bytes = ltb-false _ _ o.1 in
    (t.0, t.1, omega (arith, short, t.1, len), small)

-- digits that were read
digits_back : (k n : ℕ) (bytes : List ℕ) → length bytes ≡ k → number_of bytes ≡ n → IsBytes bytes → (bytes ≡ little_endian k n) × (n < 256 ^ k)
digits_back k n bytes len e fits = rw (← len, ← e) (sym (little_endian-number_of bytes fits), number_of-below bytes fits)

record TakesNumber (k : ℕ) (bytes : List ℕ) (n : ℕ) (rest : List ℕ) : Type 0 where
  parts : bytes ≡ little_endian k n ++ rest
  below : n < 256 ^ k
  rest_fits : IsBytes rest

number_takes : (k : ℕ) (bytes : List ℕ) (n : ℕ) (rest : List ℕ) → IsBytes bytes → number_at k bytes ≡ Ok (n, rest) → TakesNumber k bytes n rest
number_takes k bytes n rest fits e =
    let b = bind_ok (cut_at k bytes) (λ y. Ok (number_of y.0, y.1)) (n, rest) e in
    let t = cut_takes k bytes b.0.0 b.0.1 fits b.1 in
    let same : (number_of b.0.0, b.0.1) ≡ (n, rest) = ok_is (number_of b.0.0, b.0.1) (n, rest) b.2 in
    let rest-is : b.0.1 ≡ rest = ap (λ (y : ℕ × List ℕ). y.1) same in
    let n-is : number_of b.0.0 ≡ n = ap (λ (y : ℕ × List ℕ). y.0) same in
    let back = digits_back k n b.0.0 t.1 n-is t.0.front_fits in
    record {
      parts = t.0.parts ∙ ap (λ (w : List ℕ). b.0.0 ++ w) rest-is ∙ ap (λ (w : List ℕ). w ++ rest) back.0;
      below = back.1;
      rest_fits = subst IsBytes rest-is t.0.rest_fits;
    }

-- a tag field that was read
record TakesTag (control : ℕ) (bytes : List ℕ) (tag : Tag) (rest : List ℕ) : Type 0 where
  field : List ℕ
  parts : bytes ≡ field ++ rest
  spelled : IsTagField tag control field
  tag_fits : IsTag tag
  rest_fits : IsBytes rest

-- whether a tag control has long numbers
abbrev is_long : ℕ → Bool
is_long control = cond (eqb (control % 2) 0) false true

-- the width of a control's numbers, as the field has it
width_is : (control : ℕ) → cond (eqb (control % 2) 0) 2 4 ≡ profile_width (is_long control)
width_is control = by_cases (eqb (control % 2) 0)
  where
    by_cases : (b : Bool) → cond b 2 4 ≡ profile_width (cond b false true)
    by_cases true = refl
    by_cases false = refl

profile_below : (long : Bool) (n : ℕ) → n < 256 ^ profile_width long → n < 2 ^ 32
profile_below true n lt = omega (arith, lt)
profile_below false n lt = omega (arith, lt)

record TakesProfile (control : ℕ) (bytes : List ℕ) (n : ℕ) (rest : List ℕ) : Type 0 where
  number : List ℕ
  parts : bytes ≡ number ++ rest
  spelled : IsProfileNumber (is_long control) n number
  below : n < 2 ^ 32
  rest_fits : IsBytes rest

profile_takes : (control : ℕ) (bytes : List ℕ) (n : ℕ) (rest : List ℕ) → IsBytes bytes → profile_number_at control bytes ≡ Ok (n, rest) → TakesProfile control bytes n rest
profile_takes control bytes n rest fits e =
    let t = number_takes (cond (eqb (control % 2) 0) 2 4) bytes n rest fits e in
    let below : n < 256 ^ profile_width (is_long control) = rw (← width_is control) t.below in
    record {
      number = little_endian (cond (eqb (control % 2) 0) 2 4) n;
      parts = t.parts;
      spelled = (below, ap (λ (k : ℕ). little_endian k n) (width_is control));
      below = profile_below (is_long control) n below;
      rest_fits = t.rest_fits;
    }

-- the control of a tag whose number is long or short
control_23 : (control : ℕ) → 2 ≤ control → control < 4 → control ≡ cond (is_long control) 3 2
control_23 control from to = grind (arith, nat_tests)

control_45 : (control : ℕ) → 4 ≤ control → control < 6 → control ≡ cond (is_long control) 5 4
control_45 control from to = grind (arith, nat_tests)

control_67 : (control : ℕ) → 6 ≤ control → control < 8 → control ≡ cond (is_long control) 7 6
control_67 control from to = grind (arith, nat_tests)

context_takes : (control : ℕ) (bytes : List ℕ) (tag : Tag) (rest : List ℕ) → control ≡ 1 → IsBytes bytes → context_at bytes ≡ Ok (tag, rest) → TakesTag control bytes tag rest
context_takes control [] tag rest one fits e = absurd cc
context_takes control (b ∷ bytes) tag rest one fits e =
    subst (λ (x : Tag × List ℕ). TakesTag control (b ∷ bytes) x.0 x.1) (ok_is (Context b, bytes) (tag, rest) e)
    (record { field = b ∷ []; parts = refl; spelled = (one, refl); tag_fits = fits 0; rest_fits = IsBytes-rest b bytes fits })

full_takes : (control : ℕ) (bytes : List ℕ) (tag : Tag) (rest : List ℕ) → 6 ≤ control → control < 8 → IsBytes bytes → full_at control bytes ≡ Ok (tag, rest) → TakesTag control bytes tag rest
full_takes control bytes tag rest from to fits e =
    let a = bind_ok (number_at 2 bytes) _ (tag, rest) e in
    let v = a.0 in
    let b = bind_ok (number_at 2 v.1) _ (tag, rest) a.2 in
    let p = b.0 in
    let c = bind_ok (profile_number_at control p.1) _ (tag, rest) b.2 in
    let n = c.0 in
    let tv = number_takes 2 bytes v.0 v.1 fits a.1 in
    let tp = number_takes 2 v.1 p.0 p.1 tv.rest_fits b.1 in
    let tn = profile_takes control p.1 n.0 n.1 tp.rest_fits c.1 in
    let parts : bytes ≡ (little_endian 2 v.0 ++ (little_endian 2 p.0 ++ tn.number)) ++ n.1 = full_parts bytes v.1 p.1 n.1 (little_endian 2 v.0) (little_endian 2 p.0) tn.number tv.parts tp.parts tn.parts in
    subst (λ (x : Tag × List ℕ). TakesTag control bytes x.0 x.1) (ok_is (Full v.0 p.0 n.0, n.1) (tag, rest) c.2)
    (record {
      field = little_endian 2 v.0 ++ (little_endian 2 p.0 ++ tn.number);
      parts = parts;
      spelled = (is_long control, tn.number, control_67 control from to, tv.below, tp.below, tn.spelled, refl);
      tag_fits = (tv.below, tp.below, tn.below);
      rest_fits = tn.rest_fits;
    })
  where
    full_parts : (bytes vr pr nr a b c : List ℕ) → bytes ≡ a ++ vr → vr ≡ b ++ pr → pr ≡ c ++ nr → bytes ≡ (a ++ (b ++ c)) ++ nr
    full_parts bytes vr pr nr a b c e1 e2 e3 = e1 ∙ ap (λ (w : List ℕ). a ++ w) (e2 ∙ ap (λ (w : List ℕ). b ++ w) e3 ∙ sym (append_assoc b c nr)) ∙ sym (append_assoc a (b ++ c) nr)

abbrev common_of : ℕ × List ℕ → Result (Tag × List ℕ) TlvFault
common_of n = Ok (Common n.0, n.1)

abbrev implicit_of : ℕ × List ℕ → Result (Tag × List ℕ) TlvFault
implicit_of n = Ok (Implicit n.0, n.1)

common_takes : (control : ℕ) (bytes : List ℕ) (tag : Tag) (rest : List ℕ) → 2 ≤ control → control < 4 → IsBytes bytes → (profile_number_at control bytes >>= common_of) ≡ Ok (tag, rest) → TakesTag control bytes tag rest
common_takes control bytes tag rest from to fits e =
    let b = bind_ok (profile_number_at control bytes) common_of (tag, rest) e in
    let t = profile_takes control bytes b.0.0 b.0.1 fits b.1 in
    subst (λ (x : Tag × List ℕ). TakesTag control bytes x.0 x.1) (ok_is (Common b.0.0, b.0.1) (tag, rest) b.2)
    (record { field = t.number; parts = t.parts; spelled = (is_long control, control_23 control from to, t.spelled); tag_fits = t.below; rest_fits = t.rest_fits })

implicit_takes : (control : ℕ) (bytes : List ℕ) (tag : Tag) (rest : List ℕ) → 4 ≤ control → control < 6 → IsBytes bytes → (profile_number_at control bytes >>= implicit_of) ≡ Ok (tag, rest) → TakesTag control bytes tag rest
implicit_takes control bytes tag rest from to fits e =
    let b = bind_ok (profile_number_at control bytes) implicit_of (tag, rest) e in
    let t = profile_takes control bytes b.0.0 b.0.1 fits b.1 in
    subst (λ (x : Tag × List ℕ). TakesTag control bytes x.0 x.1) (ok_is (Implicit b.0.0, b.0.1) (tag, rest) b.2)
    (record { field = t.number; parts = t.parts; spelled = (is_long control, control_45 control from to, t.spelled); tag_fits = t.below; rest_fits = t.rest_fits })

tag_takes : (control : ℕ) (bytes : List ℕ) (tag : Tag) (rest : List ℕ) → control < 8 → IsBytes bytes → tag_at control bytes ≡ Ok (tag, rest) → TakesTag control bytes tag rest
tag_takes control bytes tag rest small fits e =
    elim (chosen (eqb control 0) _ _ (Ok (tag, rest)) e) [
      | inl a ↦ subst (λ (x : Tag × List ℕ). TakesTag control bytes x.0 x.1) (ok_is (Anonymous, bytes) (tag, rest) a.1)
          (record { field = []; parts = refl; spelled = (eqb-true _ _ a.0, refl); tag_fits = tt; rest_fits = fits })
      | inr a ↦ let n0 = eqb-false _ _ a.0 in elim (chosen (eqb control 1) _ _ (Ok (tag, rest)) a.1) [
        | inl b ↦ context_takes control bytes tag rest (eqb-true _ _ b.0) fits b.1
        | inr b ↦ let n1 = eqb-false _ _ b.0 in elim (chosen (ltb control 4) _ _ (Ok (tag, rest)) b.1) [
          | inl c ↦ common_takes control bytes tag rest (omega (arith, n0, n1)) (ltb-true _ _ c.0) fits c.1
          | inr c ↦ let n4 : 4 ≤ control = ltb-false _ _ c.0 in elim (chosen (ltb control 6) _ _ (Ok (tag, rest)) c.1) [
            | inl d ↦ implicit_takes control bytes tag rest n4 (ltb-true _ _ d.0) fits d.1
            | inr d ↦ full_takes control bytes tag rest (ltb-false _ _ d.0) small fits d.1
          ]
        ]
      ]
    ]

-- an opening that was read
record TakesHead (bytes : List ℕ) (type : ℕ) (tag : Tag) (rest : List ℕ) : Type 0 where
  opening : List ℕ
  parts : bytes ≡ opening ++ rest
  small : type < 24
  spelled : IsOpening tag type opening
  tag_fits : IsTag tag
  rest_fits : IsBytes rest

head_takes : (bytes : List ℕ) (h : ℕ × Tag) (rest : List ℕ) → IsBytes bytes → head_at bytes ≡ Ok (h, rest) → TakesHead bytes h.0 h.1 rest
unfolding head_at
head_takes [] h rest fits e = absurd cc
head_takes (c ∷ bytes) h rest fits e =
    let g = guard_yes (ltb (c % 32) 24) Reserved (tag_at (c / 32) bytes >>= λ tag. Ok ((c % 32, tag.0), tag.1)) (h, rest) e in
    let b = bind_ok (tag_at (c / 32) bytes) (λ tag. Ok ((c % 32, tag.0), tag.1)) (h, rest) g.1 in
    let octet : c < 256 = fits 0 in
    let t = tag_takes (c / 32) bytes b.0.0 b.0.1 (omega (arith, octet)) (IsBytes-rest c bytes fits) b.1 in
    let same : 32 * (c / 32) + c % 32 ≡ c = omega arith in
    subst (λ (x : (ℕ × Tag) × List ℕ). TakesHead (c ∷ bytes) x.0.0 x.0.1 x.1) (ok_is ((c % 32, b.0.0), b.0.1) (h, rest) b.2)
    (record {
      opening = c ∷ t.field;
      parts = ap (λ (w : List ℕ). c ∷ w) t.parts;
      small = ltb-true _ _ g.0;
      spelled = (c / 32, t.field, t.spelled, ap (λ (o : ℕ). o ∷ t.field) (sym same));
      tag_fits = t.tag_fits;
      rest_fits = t.rest_fits;
    })

allowed_takes : (kind : Kind) (tags : List Tag) (tag : Tag) (u : Unit {0}) → allowed kind tags tag ≡ Ok u → MayStand kind tags tag
allowed_takes kinds.Struct tags tag u e =
    let a = guard_ok (is_anonymous tag) TagForm _ u e in
    let b = guard_ok (is_tag_in tag tags) SameTag _ u a.1 in
    (a.0, b.0)
allowed_takes kinds.Array tags tag u e = let a = guard_yes (is_anonymous tag) TagForm _ u e in a.0
allowed_takes kinds.List tags tag u e = tt

record TakesBody (room whole type : ℕ) (bytes : List ℕ) (v : Tree) (rest : List ℕ) : Type 0 where
  body : List ℕ
  parts : bytes ≡ body ++ rest
  spelled : IsBody v type body
  may : IsAllowed v room
  rest_fits : IsBytes rest
  short : whole ≤ 65535 + length rest

record TakesMembers (room whole : ℕ) (kind : Kind) (tags : List Tag) (bytes : List ℕ) (es : Elements) (rest : List ℕ) : Type 0 where
  inner : List ℕ
  parts : bytes ≡ inner ++ 24 ∷ rest
  spelled : AreSpelled es inner
  may : AreAllowed es kind tags room
  rest_fits : IsBytes rest
  short : whole ≤ 65535 + length rest

record TakesContainer (room whole : ℕ) (kind : Kind) (bytes : List ℕ) (es : Elements) (rest : List ℕ) : Type 0 where
  inner : List ℕ
  parts : bytes ≡ (inner ++ 24 ∷ []) ++ rest
  spelled : AreSpelled es inner
  may : IsAllowed (container_of kind es) room
  rest_fits : IsBytes rest
  short : whole ≤ 65535 + length rest

abbrev BodyTakes : ℕ → ℕ → (ℕ → Reads Tree) → Type 0
BodyTakes room whole f = (type : ℕ) (bytes : List ℕ) (x : Tree × List ℕ) → type < 24 → IsBytes bytes → f type bytes ≡ Ok x → TakesBody room whole type bytes x.0 x.1

abbrev ContainerTakes : ℕ → ℕ → (Kind → Reads Elements) → Type 0
ContainerTakes room whole c = (kind : Kind) (bytes : List ℕ) (x : Elements × List ℕ) → IsBytes bytes → c kind bytes ≡ Ok x → TakesContainer room whole kind bytes x.0 x.1

-- a scalar of this type, by its bytes
record ScalarIs (room type : ℕ) (v : Tree) (body : List ℕ) : Type 0 where
  spelled : IsBody v type body
  may : IsAllowed v room

int_is : (room type width x : ℕ) (body : List ℕ) (z : ℤ) → type < 4 → width ≡ 2 ^ type → body ≡ little_endian width x → Signed type x z → ScalarIs room type (int z) body
int_is room type width x body z lt w e s = record { spelled = (lt, s.fits, e ∙ ap (λ (k : ℕ). little_endian k x) w ∙ sym s.same); may = s.small }

null_is : (room type : ℕ) (body : List ℕ) → 12 ≤ type → is_scalar_type type ≡ true → length body ≡ scalar_length type → ScalarIs room type (scalar_of type (number_of body)) body
null_is room type body from known len =
    elim (or_true (ltb type 12) (eqb type 20) known) [
      | inl a ↦ let lt : type < 12 = ltb-true _ _ a in absurd (omega (arith, lt, from))
      | inr a ↦
          let e : type ≡ 20 = eqb-true _ _ a in
          let l : length body ≡ 0 = rw e at len in
          rw e (record { spelled = (refl, nil_from_length body l); may = tt })
    ]

scalar_is : (room type : ℕ) (body : List ℕ) → is_scalar_type type ≡ true → IsBytes body → length body ≡ scalar_length type → ScalarIs room type (scalar_of type (number_of body)) body
scalar_is room zero body known fits len = let b = digits_back 1 (number_of body) body len refl fits in int_is room 0 1 (number_of body) body _ (omega arith) refl b.0 (signed_1 (number_of body) b.1)
scalar_is room (suc zero) body known fits len = let b = digits_back 2 (number_of body) body len refl fits in int_is room 1 2 (number_of body) body _ (omega arith) refl b.0 (signed_2 (number_of body) b.1)
scalar_is room (suc (suc zero)) body known fits len = let b = digits_back 4 (number_of body) body len refl fits in int_is room 2 4 (number_of body) body _ (omega arith) refl b.0 (signed_4 (number_of body) b.1)
scalar_is room (suc (suc (suc zero))) body known fits len = let b = digits_back 8 (number_of body) body len refl fits in int_is room 3 8 (number_of body) body _ (omega arith) refl b.0 (signed_8 (number_of body) b.1)
scalar_is room (suc (suc (suc (suc zero)))) body known fits len = let b = digits_back 1 (number_of body) body len refl fits in let lt = b.1 in record { spelled = (0, omega arith, refl, b.1, b.0); may = omega (arith, lt) }
scalar_is room (suc (suc (suc (suc (suc zero))))) body known fits len = let b = digits_back 2 (number_of body) body len refl fits in let lt = b.1 in record { spelled = (1, omega arith, refl, b.1, b.0); may = omega (arith, lt) }
scalar_is room (suc (suc (suc (suc (suc (suc zero)))))) body known fits len = let b = digits_back 4 (number_of body) body len refl fits in let lt = b.1 in record { spelled = (2, omega arith, refl, b.1, b.0); may = omega (arith, lt) }
scalar_is room (suc (suc (suc (suc (suc (suc (suc zero))))))) body known fits len = let b = digits_back 8 (number_of body) body len refl fits in let lt = b.1 in record { spelled = (3, omega arith, refl, b.1, b.0); may = omega (arith, lt) }
scalar_is room (suc (suc (suc (suc (suc (suc (suc (suc zero)))))))) body known fits len = record { spelled = (refl, nil_from_length body len); may = tt }
scalar_is room (suc (suc (suc (suc (suc (suc (suc (suc (suc zero))))))))) body known fits len = record { spelled = (refl, nil_from_length body len); may = tt }
scalar_is room (suc (suc (suc (suc (suc (suc (suc (suc (suc (suc zero)))))))))) body known fits len = let b = digits_back 4 (number_of body) body len refl fits in record { spelled = (refl, b.1, b.0); may = b.1 }
scalar_is room (suc (suc (suc (suc (suc (suc (suc (suc (suc (suc (suc zero))))))))))) body known fits len = let b = digits_back 8 (number_of body) body len refl fits in record { spelled = (refl, b.1, b.0); may = b.1 }
scalar_is room (suc (suc (suc (suc (suc (suc (suc (suc (suc (suc (suc (suc m)))))))))))) body known fits len = null_is room (suc (suc (suc (suc (suc (suc (suc (suc (suc (suc (suc (suc m)))))))))))) body (omega arith) known len

scalar_takes : (room whole type : ℕ) (bytes : List ℕ) (x : Tree × List ℕ) → is_scalar_type type ≡ true → IsBytes bytes → scalar_at whole type bytes ≡ Ok x → TakesBody room whole type bytes x.0 x.1
unfolding scalar_at
scalar_takes room whole type bytes x known fits e =
    let b = bind_ok (piece_at whole (scalar_length type) bytes) (λ y. Ok (scalar_of type (number_of y.0), y.1)) x e in
    let t = piece_takes whole (scalar_length type) bytes b.0.0 b.0.1 fits b.1 in
    let i = scalar_is room type b.0.0 known t.0.front_fits t.1 in
    subst (λ (y : Tree × List ℕ). TakesBody room whole type bytes y.0 y.1) (ok_is (scalar_of type (number_of b.0.0), b.0.1) x b.2)
    (record { body = b.0.0; parts = t.0.parts; spelled = i.spelled; may = i.may; rest_fits = t.0.rest_fits; short = t.2 })

-- bytes behind a length that were read
record TakesString (whole type : ℕ) (bytes s rest : List ℕ) : Type 0 where
  body : List ℕ
  parts : bytes ≡ body ++ rest
  is : body ≡ little_endian (2 ^ (type % 4)) (length s) ++ s
  counted : length s < 256 ^ (2 ^ (type % 4))
  few : length s ≤ 65535
  rest_fits : IsBytes rest
  short : whole ≤ 65535 + length rest

string_takes : (whole type : ℕ) (bytes : List ℕ) (x : List ℕ × List ℕ) → IsBytes bytes → string_at whole type bytes ≡ Ok x → TakesString whole type bytes x.0 x.1
unfolding string_at
string_takes whole type bytes x fits e =
    let b = bind_ok (number_at (2 ^ (type % 4)) bytes) (λ n. piece_at whole n.0 n.1) x e in
    let n = b.0 in
    let tn = number_takes (2 ^ (type % 4)) bytes n.0 n.1 fits b.1 in
    let tp = piece_takes whole n.0 n.1 x.0 x.1 tn.rest_fits b.2 in
    let len : n.0 ≡ length x.0 = sym tp.1 in
    record {
      body = little_endian (2 ^ (type % 4)) (length x.0) ++ x.0;
      parts = tn.parts ∙ ap (λ (w : List ℕ). little_endian (2 ^ (type % 4)) n.0 ++ w) tp.0.parts ∙ sym (append_assoc (little_endian (2 ^ (type % 4)) n.0) x.0 x.1) ∙ ap (λ (k : ℕ). (little_endian (2 ^ (type % 4)) k ++ x.0) ++ x.1) len;
      is = refl;
      counted = rw len at tn.below;
      few = rw len at tp.3;
      rest_fits = tp.0.rest_fits;
      short = tp.2;
    }

is_string : (first whole type : ℕ) (bytes s rest : List ℕ) → (w : ℕ) → type % 4 ≡ w → w < 4 → type ≡ first + w → (t : TakesString whole type bytes s rest) → IsString first s type t.body
is_string first whole type bytes s rest w low lt is t = (w, lt, is, rw low at t.counted, t.is ∙ ap (λ (k : ℕ). little_endian (2 ^ k) (length s) ++ s) low)

octets_takes : (room whole type : ℕ) (bytes : List ℕ) (x : Tree × List ℕ) → 16 ≤ type → type < 20 → IsBytes bytes → (string_at whole type bytes >>= λ y. Ok (octets y.0, y.1)) ≡ Ok x → TakesBody room whole type bytes x.0 x.1
octets_takes room whole type bytes x from to fits e =
    let b = bind_ok (string_at whole type bytes) (λ y. Ok (octets y.0, y.1)) x e in
    let t = string_takes whole type bytes b.0 fits b.1 in
    subst (λ (y : Tree × List ℕ). TakesBody room whole type bytes y.0 y.1) (ok_is (octets b.0.0, b.0.1) x b.2)
    (record { body = t.body; parts = t.parts; spelled = is_string 16 whole type bytes b.0.0 b.0.1 (type - 16) (omega arith) (omega arith) (omega arith) t; may = t.few; rest_fits = t.rest_fits; short = t.short })

text_takes : (room whole type : ℕ) (bytes : List ℕ) (x : Tree × List ℕ) → 12 ≤ type → type < 16 → IsBytes bytes → (text_at whole type bytes >>= λ y. Ok (text y.0, y.1)) ≡ Ok x → TakesBody room whole type bytes x.0 x.1
text_takes room whole type bytes x from to fits e =
    let a = bind_ok (text_at whole type bytes) (λ y. Ok (text y.0, y.1)) x e in
    let b = bind_ok (string_at whole type bytes) (λ y. text_of y.0 >>= λ s. Ok (s, y.1)) a.0 a.1 in
    let c = bind_ok (text_of b.0.0) (λ s. Ok (s, b.0.1)) a.0 b.2 in
    let g = guard_yes (is_utf8 b.0.0) NotUtf8 (done b.0.0) c.0 c.1 in
    let same : (b.0.0, b.0.1) ≡ a.0 = ap (λ (s : List ℕ). (s, b.0.1)) (ok_is b.0.0 c.0 g.1) ∙ ok_is (c.0, b.0.1) a.0 c.2 in
    let whole-is : (text b.0.0, b.0.1) ≡ x = ap (λ (y : List ℕ × List ℕ). (text y.0, y.1)) same ∙ ok_is (text a.0.0, a.0.1) x a.2 in
    let t = string_takes whole type bytes b.0 fits b.1 in
    subst (λ (y : Tree × List ℕ). TakesBody room whole type bytes y.0 y.1) whole-is
    (record { body = t.body; parts = t.parts; spelled = is_string 12 whole type bytes b.0.0 b.0.1 (type - 12) (omega arith) (omega arith) (omega arith) t; may = (t.few, g.0); rest_fits = t.rest_fits; short = t.short })

one_front : (b : ℕ) (bytes front rest : List ℕ) → length front ≡ 1 → b ∷ bytes ≡ front ++ rest → bytes ≡ rest
one_front b bytes [] rest len e = absurd (omega arith)
one_front b bytes (a ∷ []) rest len e = cc
one_front b bytes (a ∷ c ∷ front) rest len e = absurd (omega arith)

-- the type of a container, by its kind
container_is : (type : ℕ) (es : Elements) (inner : List ℕ) → 21 ≤ type → type < 24 → AreSpelled es inner → IsBody (container_of (kind_of type) es) type (inner ++ 24 ∷ [])
container_is type es inner from to h =
    elim (chosen (eqb type 21) kinds.Struct (cond (eqb type 22) kinds.Array kinds.List) (kind_of type) refl) [
      | inl a ↦ let e : type ≡ 21 = eqb-true _ _ a.0 in rw e (inner, refl, h, refl)
      | inr a ↦ let n21 = eqb-false _ _ a.0 in elim (chosen (eqb type 22) kinds.Array kinds.List (cond (eqb type 22) kinds.Array kinds.List) refl) [
        | inl b ↦ let e : type ≡ 22 = eqb-true _ _ b.0 in rw e (inner, refl, h, refl)
        | inr b ↦ let n22 = eqb-false _ _ b.0 in let e : type ≡ 23 = omega (arith, from, to, n21, n22) in rw e (inner, refl, h, refl)
      ]
    ]

module _ (room whole : ℕ) (c : Kind → Reads Elements) (each : ContainerTakes room whole c) where
  container_value : (type : ℕ) (bytes : List ℕ) (x : Tree × List ℕ) → 21 ≤ type → type < 24 → IsBytes bytes → (c (kind_of type) bytes >>= λ y. Ok (container_of (kind_of type) y.0, y.1)) ≡ Ok x → TakesBody room whole type bytes x.0 x.1
  container_value type bytes x from to fits e =
      let b = bind_ok (c (kind_of type) bytes) (λ y. Ok (container_of (kind_of type) y.0, y.1)) x e in
      let t = each (kind_of type) bytes b.0 fits b.1 in
      subst (λ (y : Tree × List ℕ). TakesBody room whole type bytes y.0 y.1) (ok_is (container_of (kind_of type) b.0.0, b.0.1) x b.2)
      (record { body = t.inner ++ 24 ∷ []; parts = t.parts; spelled = container_is type b.0.0 t.inner from to t.spelled; may = t.may; rest_fits = t.rest_fits; short = t.short })

  body_takes : BodyTakes room whole (body_with c whole)
  unfolding body_with
  body_takes type bytes x lt fits e =
      elim (chosen (is_scalar_type type) _ _ (Ok x) e) [
        | inl a ↦ scalar_takes room whole type bytes x a.0 fits a.1
        | inr a ↦
            let o = or_false (ltb type 12) (eqb type 20) a.0 in
            let n12 : 12 ≤ type = ltb-false _ _ o.0 in
            let n20 = eqb-false _ _ o.1 in elim (chosen (ltb type 16) _ _ (Ok x) a.1) [
              | inl b ↦ text_takes room whole type bytes x n12 (ltb-true _ _ b.0) fits b.1
              | inr b ↦ let n16 : 16 ≤ type = ltb-false _ _ b.0 in elim (chosen (ltb type 20) _ _ (Ok x) b.1) [
                | inl d ↦ octets_takes room whole type bytes x n16 (ltb-true _ _ d.0) fits d.1
                | inr d ↦ let m20 : 20 ≤ type = ltb-false _ _ d.0 in container_value type bytes x (omega (arith, m20, n20)) lt fits d.1
              ]
            ]
      ]

joined_parts : (bytes opening hrest body vrest inner rest : List ℕ) → bytes ≡ opening ++ hrest → hrest ≡ body ++ vrest → vrest ≡ inner ++ 24 ∷ rest → bytes ≡ (opening ++ (body ++ inner)) ++ 24 ∷ rest
joined_parts bytes opening hrest body vrest inner rest a b c =
    a ∙ ap (λ (w : List ℕ). opening ++ w) (b ∙ ap (λ (w : List ℕ). body ++ w) c ∙ sym (append_assoc body inner (24 ∷ rest))) ∙ sym (append_assoc opening (body ++ inner) (24 ∷ rest))

module _ (room whole : ℕ) (kind : Kind) where
  joined : (tags : List Tag) (bytes : List ℕ) (tag : Tag) (type : ℕ) (hrest : List ℕ) (v : Tree × List ℕ) (es : Elements × List ℕ) → TakesHead bytes type tag hrest → MayStand kind tags tag → TakesBody room whole type hrest v.0 v.1
      → TakesMembers room whole kind (tags ++ tag ∷ []) v.1 es.0 es.1 → TakesMembers room whole kind tags bytes (more tag v.0 es.0) es.1
  joined tags bytes tag type hrest v es th may tv tm = record {
    inner = th.opening ++ (tv.body ++ tm.inner);
    parts = joined_parts bytes th.opening hrest tv.body v.1 tm.inner es.1 th.parts tv.parts tm.parts;
    spelled = (type, th.opening, tv.body, tm.inner, th.spelled, tv.spelled, tm.spelled, refl);
    may = (th.tag_fits, may, tv.may, tm.may);
    rest_fits = tm.rest_fits;
    short = tm.short;
  }

  end_takes : (tags : List Tag) (bytes : List ℕ) (x : List ℕ × List ℕ) → IsBytes bytes → is_end bytes ≡ true → piece_at whole 1 bytes ≡ Ok x → TakesMembers room whole kind tags bytes none x.1
  end_takes tags [] x fits e p = absurd cc
  end_takes tags (b ∷ bytes) x fits e p =
      let t = piece_takes whole 1 (b ∷ bytes) x.0 x.1 fits p in
      let is : b ≡ 24 = eqb-true _ _ e in
      record { inner = []; parts = ap (λ c. c ∷ bytes) is ∙ ap (λ (w : List ℕ). 24 ∷ w) (one_front b bytes x.0 x.1 t.1 t.0.parts); spelled = refl; may = tt; rest_fits = t.0.rest_fits; short = t.2 }

module _ (room whole : ℕ) (f : ℕ → Reads Tree) (each : BodyTakes room whole f) (kind : Kind) where
  members_takes : (n : ℕ) (tags : List Tag) (bytes : List ℕ) (x : Elements × List ℕ) → IsBytes bytes → members_with f whole kind n tags bytes ≡ Ok x → TakesMembers room whole kind tags bytes x.0 x.1
  unfolding members_with
  members_takes zero tags bytes x fits e = absurd cc
  members_takes (suc n) tags bytes x fits e =
      elim (chosen (is_end bytes) _ _ (Ok x) e) [
        | inl a ↦
            let b = bind_ok (piece_at whole 1 bytes) (λ y. Ok (none, y.1)) x a.1 in
            subst (λ (y : Elements × List ℕ). TakesMembers room whole kind tags bytes y.0 y.1) (ok_is (none, b.0.1) x b.2) (end_takes room whole kind tags bytes b.0 fits a.0 b.1)
        | inr a ↦
            let b = bind_ok (head_at bytes) _ x a.1 in
            let h = b.0 in
            let c = bind_ok (allowed kind tags h.0.1) _ x b.2 in
            let d = bind_ok (f h.0.0 h.1) _ x c.2 in
            let v = d.0 in
            let g = bind_ok (members_with f whole kind n (tags ++ h.0.1 ∷ []) v.1) _ x d.2 in
            let es = g.0 in
            let th = head_takes bytes h.0 h.1 fits b.1 in
            let tv = each h.0.0 h.1 v th.small th.rest_fits d.1 in
            let tm = members_takes n (tags ++ h.0.1 ∷ []) v.1 es tv.rest_fits g.1 in
            subst (λ (y : Elements × List ℕ). TakesMembers room whole kind tags bytes y.0 y.1) (ok_is (more h.0.1 v.0 es.0, es.1) x g.2) (joined room whole kind tags bytes h.0.1 h.0.0 h.1 v es th (allowed_takes kind tags h.0.1 c.0 c.1) tv tm)
      ]

container_allowed : (kind : Kind) (room : ℕ) (es : Elements) → AreAllowed es kind [] room → IsAllowed (container_of kind es) (suc room)
container_allowed kinds.Struct room es h = h
container_allowed kinds.Array room es h = h
container_allowed kinds.List room es h = h

container_takes : (room whole : ℕ) → ContainerTakes room whole (container_at room whole)
unfolding container_at
container_takes zero whole kind bytes x fits e = absurd cc
container_takes (suc room) whole kind bytes x fits e =
    let a = bind_ok (piece_at whole 0 bytes) (λ y. members_with (body_with (container_at room whole) whole) whole kind (length y.1) [] y.1) x e in
    let t = piece_takes whole 0 bytes a.0.0 a.0.1 fits a.1 in
    let parts : bytes ≡ a.0.1 = t.0.parts ∙ ap (λ (w : List ℕ). w ++ a.0.1) (nil_from_length a.0.0 t.1) in
    let m = members_takes room whole (body_with (container_at room whole) whole) (body_takes room whole (container_at room whole) (container_takes room whole)) kind (length a.0.1) [] a.0.1 x t.0.rest_fits a.2 in
    record { inner = m.inner; parts = parts ∙ m.parts ∙ sym (append_assoc m.inner (24 ∷ []) x.1); spelled = m.spelled; may = container_allowed kind room x.0 m.may; rest_fits = m.rest_fits; short = m.short }

-- what is read is an element in front of the rest
pub element_takes : (bytes : List ℕ) (x : (Tag × Tree) × List ℕ) → IsBytes bytes → element_at bytes ≡ Ok x → (front : List ℕ) × (bytes ≡ front ++ x.1) × IsElement x.0.0 x.0.1 front
unfolding element_at
element_takes bytes x fits e =
    let a = bind_ok (head_at bytes) (λ h. body_at 16 (length bytes) h.0.0 h.1 >>= λ v. Ok ((h.0.1, v.0), v.1)) x e in
    let h = a.0 in
    let b = bind_ok (body_at 16 (length bytes) h.0.0 h.1) (λ v. Ok ((h.0.1, v.0), v.1)) x a.2 in
    let th = head_takes bytes h.0 h.1 fits a.1 in
    let tv = body_takes 16 (length bytes) (container_at 16 (length bytes)) (container_takes 16 (length bytes)) h.0.0 h.1 b.0 th.small th.rest_fits b.1 in
    let parts : bytes ≡ (th.opening ++ tv.body) ++ b.0.1 = th.parts ∙ ap (λ (w : List ℕ). th.opening ++ w) tv.parts ∙ sym (append_assoc th.opening tv.body b.0.1) in
    let short : length (th.opening ++ tv.body) ≤ 65535 = omega (arith, tv.short, ap length parts, length-append (th.opening ++ tv.body) b.0.1) in
    subst (λ (y : (Tag × Tree) × List ℕ). (front : List ℕ) × (bytes ≡ front ++ y.1) × IsElement y.0.0 y.0.1 front) (ok_is ((h.0.1, b.0.0), b.0.1) x b.2)
    (th.opening ++ tv.body, parts, record { spelled = (h.0.0, th.opening, tv.body, th.spelled, tv.spelled, refl); tag_fits = th.tag_fits; allowed = tv.may; short = short })

-- A cursor meets the faults that reading meets.
use Rattle.std.proofs.Common.{◌≡◌, ℕ, zero, suc, ◌+◌, ◌/◌, ◌%◌, ◌^◌, ◌<◌, ◌≤◌, Bool, true, false, cond, ltb, eqb, ◌&&◌, ◌||◌, List, [], ◌∷◌, ◌++◌, length, take, drop, Option, Some, None, Result, Ok, Err, refl, sym, ap, subst, ◌∙◌, arith, ◌⊎◌, inl, inr}
use Rattle.std.specs.Prelude.{is_none, ◌≢◌}
use Rattle.std.specs.Str.{is_utf8}
use Rattle.std.proofs.lemmas.Bool.{lt-ltb, le-ltb}
use Rattle.std.proofs.lemmas.List.{length-drop}
use Rattle.mt_tlv.specs.declared.value.Tag.{Tag}
use Rattle.mt_tlv.specs.declared.value.Tag.TheVariants.{Anonymous, Common, Implicit}
use Rattle.mt_tlv.specs.declared.fault.TlvFault.{TlvFault}
use Rattle.mt_tlv.specs.declared.fault.TlvFault.TheVariants.{Short, Reserved, NotUtf8, TooDeep, SameTag, TagForm, TooLong, Memory}
use Rattle.mt_tlv.specs.declared.reading.Kind.{Kind}
use Rattle.mt_tlv.specs.declared.reading.Kind.TheVariants as kinds
use Rattle.mt_tlv.specs.Tree.{Tree, text, octets, Elements, none, more}
use Rattle.mt_tlv.specs.Limits.{is_anonymous, is_tag_in}
use Rattle.mt_tlv.specs.Reading.{◌>>=◌, Reads, cut_at, piece_at, number_at, context_at, profile_number_at, full_at, tag_at, head_at, allowed, is_scalar_type, scalar_length, scalar_at, string_at, text_of, text_at, is_end, kind_of, container_of, members_with, body_with, container_at, body_at, element_at}
use Rattle.mt_tlv.specs.Parts.{Place, Piece, scalar, enter, leave, fits, ends, enter_at, part_at, piece_in, innermost, kinds_after, moved, unless_fault, next_at, start}
use Rattle.mt_tlv.specs.Parts as parts
use Rattle.mt_tlv.specs.Runs.{Comes, Faults}
use Rattle.mt_tlv.proofs.Cursors.{place}
use Rattle.mt_tlv.proofs.Runs.{comes_append, cursor_ends}

-- No more than this many bytes are left behind what was read.
abbrev pub Within : {A : Type 0} → ℕ → Result (A × List ℕ) TlvFault → Type 0
Within n (Ok x) = length x.1 ≤ n
Within n (Err e) = Unit {0}

pub bind_within : {A B : Type 0} (n : ℕ) (r : Result (A × List ℕ) TlvFault) (f : A × List ℕ → Result (B × List ℕ) TlvFault) → Within n r → ((x : A × List ℕ) → length x.1 ≤ n → Within n (f x)) → Within n (r >>= f)
bind_within n (Ok x) f h k = k x h
bind_within n (Err e) f h k = tt

pub cond_within : {A : Type 0} (n : ℕ) (b : Bool) (r s : Result (A × List ℕ) TlvFault) → Within n r → Within n s → Within n (cond b r s)
cond_within n true r s h k = h
cond_within n false r s h k = k

pub cut_within : (n k : ℕ) (bytes : List ℕ) → length bytes ≤ n → Within n (cut_at k bytes)
cut_within n k bytes le = cond_within n (ltb (length bytes) k) (Err Short) (Ok (take k bytes, drop k bytes)) tt (omega (arith, length-drop k bytes))

pub piece_within : (n whole k : ℕ) (bytes : List ℕ) → length bytes ≤ n → Within n (piece_at whole k bytes)
piece_within n whole k bytes le = cond_within n (ltb 65535 k || ltb (65535 + length bytes) (whole + k)) (Err TooLong) (cut_at k bytes) tt (cut_within n k bytes le)

number_within : (n k : ℕ) (bytes : List ℕ) → length bytes ≤ n → Within n (number_at k bytes)
number_within n k bytes le = bind_within n (cut_at k bytes) _ (cut_within n k bytes le) (λ x h. h)

context_within : (n : ℕ) (bytes : List ℕ) → length bytes ≤ n → Within n (context_at bytes)
context_within n [] le = tt
context_within n (b ∷ bytes) le = omega (arith, le)

profile_within : (n control : ℕ) (bytes : List ℕ) → length bytes ≤ n → Within n (profile_number_at control bytes)
profile_within n control bytes le = number_within n (cond (eqb (control % 2) 0) 2 4) bytes le

full_within : (n control : ℕ) (bytes : List ℕ) → length bytes ≤ n → Within n (full_at control bytes)
full_within n control bytes le =
    bind_within n (number_at 2 bytes) _ (number_within n 2 bytes le) (λ v hv.
    bind_within n (number_at 2 v.1) _ (number_within n 2 v.1 hv) (λ p hp.
    bind_within n (profile_number_at control p.1) _ (profile_within n control p.1 hp) (λ x h. h)))

tag_within : (n control : ℕ) (bytes : List ℕ) → length bytes ≤ n → Within n (tag_at control bytes)
tag_within n control bytes le =
    cond_within n (eqb control 0) (Ok (Anonymous, bytes)) _ le
    (cond_within n (eqb control 1) (context_at bytes) _ (context_within n bytes le)
    (cond_within n (ltb control 4) (profile_number_at control bytes >>= λ x. Ok (Common x.0, x.1)) _ (bind_within n (profile_number_at control bytes) _ (profile_within n control bytes le) (λ x h. h))
    (cond_within n (ltb control 6) (profile_number_at control bytes >>= λ x. Ok (Implicit x.0, x.1)) (full_at control bytes) (bind_within n (profile_number_at control bytes) _ (profile_within n control bytes le) (λ x h. h))
    (full_within n control bytes le))))

pub head_within : (n : ℕ) (bytes : List ℕ) → length bytes ≤ suc n → Within n (head_at bytes)
unfolding head_at
head_within n [] le = tt
head_within n (c ∷ bytes) le =
    let short : length bytes ≤ n = omega (arith, le) in
    cond_within n (ltb (c % 32) 24) (tag_at (c / 32) bytes >>= λ tag. Ok ((c % 32, tag.0), tag.1)) (Err Reserved) (bind_within n (tag_at (c / 32) bytes) _ (tag_within n (c / 32) bytes short) (λ x h. h)) tt

pub scalar_within : (n whole type : ℕ) (bytes : List ℕ) → length bytes ≤ n → Within n (scalar_at whole type bytes)
unfolding scalar_at
scalar_within n whole type bytes le = bind_within n (piece_at whole (scalar_length type) bytes) _ (piece_within n whole (scalar_length type) bytes le) (λ x h. h)

pub string_within : (n whole type : ℕ) (bytes : List ℕ) → length bytes ≤ n → Within n (string_at whole type bytes)
unfolding string_at
string_within n whole type bytes le = bind_within n (number_at (2 ^ (type % 4)) bytes) _ (number_within n (2 ^ (type % 4)) bytes le) (λ x h. piece_within n whole x.0 x.1 h)

utf8_within : (n : ℕ) (b : Bool) (s rest : List ℕ) → length rest ≤ n → Within n (cond {A = Result (List ℕ) TlvFault} b (Ok s) (Err NotUtf8) >>= λ t. Ok (t, rest))
utf8_within n true s rest le = le
utf8_within n false s rest le = tt

pub text_within : (n whole type : ℕ) (bytes : List ℕ) → length bytes ≤ n → Within n (text_at whole type bytes)
text_within n whole type bytes le = bind_within n (string_at whole type bytes) _ (string_within n whole type bytes le) (λ x h. utf8_within n (is_utf8 x.0) x.0 x.1 h)

-- Follows whole len ks p r: where reading answers r, a cursor at the place p comes to the place behind what was
-- read, with these containers open, or it meets the fault.
abbrev Follows : {A : Type 0} → ℕ → ℕ → List Kind → Place → Result (A × List ℕ) TlvFault → Type 0
Follows whole len ks p (Ok x) = (xs : List Piece) × Comes p xs (place whole x.1 ks true None) × (length x.1 ≤ len)
Follows whole len ks p (Err e) = e ≢ SameTag → Faults p e

-- over some parts first
follows_after : {A : Type 0} (whole few len : ℕ) (ks : List Kind) (p m : Place) (xs : List Piece) (r : Result (A × List ℕ) TlvFault) → Comes p xs m → few ≤ len → Follows whole few ks m r → Follows whole len ks p r
follows_after whole few len ks p m xs (Ok x) c le h = (xs ++ h.0, comes_append p m (place whole x.1 ks true None) xs h.0 c h.1, let short = h.2 in omega (arith, le, short))
follows_after whole few len ks p m xs (Err e) c le h = λ ne. let g = h ne in (xs ++ g.0, g.1, comes_append p m g.1 xs g.0 c g.2, g.3)

-- what is made of what was read
follows_map : {A B : Type 0} (whole len : ℕ) (ks : List Kind) (p : Place) (r : Result (A × List ℕ) TlvFault) (f : A → B) → Follows whole len ks p r → Follows whole len ks p (r >>= λ x. Ok (f x.0, x.1))
follows_map whole len ks p (Ok x) f h = h
follows_map whole len ks p (Err e) f h = h

-- over one part, which is all that is read
step_follows : {A B : Type 0} (whole len : ℕ) (bytes : List ℕ) (before ks : List Kind) (begun : Bool) (r : Result (A × List ℕ) TlvFault) (g : A → Piece) (f : A → B)
    → next_at (place whole bytes before begun None) ≡ moved (place whole bytes before begun None) (r >>= λ x. Ok (g x.0, x.1)) → ((a : A) → kinds_after (g a) before ≡ ks) → Within len r
    → Follows whole len ks (place whole bytes before begun None) (r >>= λ x. Ok (f x.0, x.1))
step_follows whole len bytes before ks begun (Ok x) g f e k w = (g x.0 ∷ [], (place whole x.1 ks true None, rw (← k x.0) e, refl), w)
step_follows whole len bytes before ks begun (Err d) g f e k w = λ ne. ([], place whole bytes before begun None, refl, e)

same_read : {A : Type 0} (r : Result (A × List ℕ) TlvFault) → (r >>= λ x. Ok (x.0, x.1)) ≡ r
same_read (Ok x) = refl
same_read (Err e) = refl

pub is_it : (b : Bool) → (b ≡ true) ⊎ (b ≡ false)
is_it true = inl refl
is_it false = inr refl

-- a step where the element has not ended
pub goes_in : (whole : ℕ) (bytes : List ℕ) (ks : List Kind) (begun : Bool) → (begun && is_none (innermost ks)) ≡ false
    → next_at (place whole bytes ks begun None) ≡ moved (place whole bytes ks begun None) (piece_in whole (innermost ks) (length ks) bytes)
unfolding next_at
goes_in whole bytes ks begun g = rw g refl

module _ (whole : ℕ) (o : Option Kind) (depth : ℕ) (bytes : List ℕ) (goes : ends o bytes ≡ false) where
  pub no_head : (e : TlvFault) → head_at bytes ≡ Err e → piece_in whole o depth bytes ≡ Err e
  unfolding piece_in
  no_head e h = rw (goes, h) refl

  bad_tag : (h : ℕ × Tag) (after : List ℕ) (e : TlvFault) → head_at bytes ≡ Ok (h, after) → fits o h.1 ≡ Err e → piece_in whole o depth bytes ≡ Err e
  unfolding piece_in
  bad_tag h after e hd f = rw (goes, hd, f) refl

  part_is : (h : ℕ × Tag) (after : List ℕ) → head_at bytes ≡ Ok (h, after) → fits o h.1 ≡ Ok tt → piece_in whole o depth bytes ≡ part_at whole depth h.0 h.1 after
  unfolding piece_in
  part_is h after hd f = rw (goes, hd, f) refl

end_is : (whole : ℕ) (kind : Kind) (depth : ℕ) (bytes : List ℕ) → is_end bytes ≡ true → piece_in whole (Some kind) depth bytes ≡ (piece_at whole 1 bytes >>= λ x. Ok (leave, x.1))
unfolding piece_in
end_is whole kind depth bytes e = rw e refl

-- Behind a head whose tag fits, a cursor follows what is read of the body.
abbrev BodyFollows : ℕ → ℕ → Type 0
BodyFollows whole room = (ks : List Kind) (begun : Bool) (bytes : List ℕ) (type : ℕ) (tag : Tag) (after : List ℕ) → room + length ks ≡ 16
    → next_at (place whole bytes ks begun None) ≡ moved (place whole bytes ks begun None) (part_at whole (length ks) type tag after)
    → Follows whole (length after) ks (place whole bytes ks begun None) (body_at room whole type after)

-- what the tag of a member is, to reading and to a cursor
tags_agree : (kind : Kind) (tags : List Tag) (tag : Tag) → ((allowed kind tags tag ≡ Ok tt) × (fits (Some kind) tag ≡ Ok tt)) ⊎ ((e : TlvFault) × (allowed kind tags tag ≡ Err e) × (e ≢ SameTag → fits (Some kind) tag ≡ Err e))
tags_agree kinds.Struct tags tag = elim (is_it (is_anonymous tag)) [
  | inl a ↦ inr (TagForm, rw a refl, λ ne. rw a refl)
  | inr a ↦ elim (is_it (is_tag_in tag tags)) [
    | inl b ↦ inr (SameTag, rw (a, b) refl, λ ne. absurd (ne refl))
    | inr b ↦ inl (rw (a, b) refl, rw a refl)
  ]
]
tags_agree kinds.Array tags tag = elim (is_it (is_anonymous tag)) [
  | inl a ↦ inl (rw a refl, rw a refl)
  | inr a ↦ inr (TagForm, rw a refl, λ ne. rw a refl)
]
tags_agree kinds.List tags tag = inl (refl, refl)

-- what the element type says
module _ (whole depth room type : ℕ) (tag : Tag) (after : List ℕ) where
  scalar_part : is_scalar_type type ≡ true → part_at whole depth type tag after ≡ (scalar_at whole type after >>= λ x. Ok (scalar tag x.0, x.1))
  unfolding part_at
  scalar_part s = rw s refl

  scalar_body : is_scalar_type type ≡ true → scalar_at whole type after ≡ body_at room whole type after
  unfolding body_with
  scalar_body s = rw s refl

  text_part : is_scalar_type type ≡ false → ltb type 16 ≡ true → part_at whole depth type tag after ≡ (text_at whole type after >>= λ x. Ok (parts.text tag x.0, x.1))
  unfolding part_at
  text_part s t = rw (s, t) refl

  text_body : is_scalar_type type ≡ false → ltb type 16 ≡ true → (text_at whole type after >>= λ x. Ok (text x.0, x.1)) ≡ body_at room whole type after
  unfolding body_with
  text_body s t = rw (s, t) refl

  octets_part : is_scalar_type type ≡ false → ltb type 16 ≡ false → ltb type 20 ≡ true → part_at whole depth type tag after ≡ (string_at whole type after >>= λ x. Ok (parts.octets tag x.0, x.1))
  unfolding part_at
  octets_part s t u = rw (s, t, u) refl

  octets_body : is_scalar_type type ≡ false → ltb type 16 ≡ false → ltb type 20 ≡ true → (string_at whole type after >>= λ x. Ok (octets x.0, x.1)) ≡ body_at room whole type after
  unfolding body_with
  octets_body s t u = rw (s, t, u) refl

  container_part : is_scalar_type type ≡ false → ltb type 16 ≡ false → ltb type 20 ≡ false → part_at whole depth type tag after ≡ enter_at whole depth type tag after
  unfolding part_at
  container_part s t u = rw (s, t, u) refl

  container_body : is_scalar_type type ≡ false → ltb type 16 ≡ false → ltb type 20 ≡ false → (container_at room whole (kind_of type) after >>= λ x. Ok (container_of (kind_of type) x.0, x.1)) ≡ body_at room whole type after
  unfolding body_with
  container_body s t u = rw (s, t, u) refl

-- Inside a container, a cursor follows what is read of the members.
abbrev MembersFollow : ℕ → ℕ → Type 0
MembersFollow whole room = (kind : Kind) (ks : List Kind) (n : ℕ) (tags : List Tag) (bytes : List ℕ) → room + length (kind ∷ ks) ≡ 16 → length bytes ≤ n
    → Follows whole (length bytes) ks (place whole bytes (kind ∷ ks) true None) (members_with (body_at room whole) whole kind n tags bytes)

abbrev DeeperFollow : ℕ → ℕ → Type 0
DeeperFollow whole zero = Unit {0}
DeeperFollow whole (suc room) = MembersFollow whole room

-- into a container
enter_follows : (whole room : ℕ) (ks : List Kind) (p : Place) (type : ℕ) (tag : Tag) (len : ℕ) (r : Result (List ℕ × List ℕ) TlvFault) → p.whole ≡ whole → p.open_kinds ≡ ks → suc room + length ks ≡ 16 → MembersFollow whole room → Within len r
    → next_at p ≡ moved p (r >>= λ x. Ok (enter tag type, x.1)) → Follows whole len ks p (r >>= λ x. members_with (body_at room whole) whole (kind_of type) (length x.1) [] x.1)
enter_follows whole room ks p type tag len (Ok x) same same_kinds deep members w e =
    let m = place whole x.1 (kind_of type ∷ ks) true None in
    let step : next_at p ≡ Ok (Some (enter tag type), m) = rw (← same, ← same_kinds) e in
    follows_after whole (length x.1) len ks p m (enter tag type ∷ []) _ (m, step, refl) w (members (kind_of type) ks (length x.1) [] x.1 (omega (arith, deep)) (omega arith))
enter_follows whole room ks p type tag len (Err d) same same_kinds deep members w e = λ ne. ([], p, refl, e)

may_enter : (whole depth type : ℕ) (tag : Tag) (after : List ℕ) → depth < 16 → enter_at whole depth type tag after ≡ (piece_at whole 0 after >>= λ x. Ok (enter tag type, x.1))
may_enter whole depth type tag after lt = rw (lt-ltb depth 16 lt) refl

too_deep : (whole depth type : ℕ) (tag : Tag) (after : List ℕ) → 16 ≤ depth → enter_at whole depth type tag after ≡ Err TooDeep
too_deep whole depth type tag after le = rw (le-ltb depth 16 le) refl

container_follows : (whole room : ℕ) (ks : List Kind) (begun : Bool) (bytes : List ℕ) (type : ℕ) (tag : Tag) (after : List ℕ) → room + length ks ≡ 16 → DeeperFollow whole room
    → next_at (place whole bytes ks begun None) ≡ moved (place whole bytes ks begun None) (enter_at whole (length ks) type tag after) → Follows whole (length after) ks (place whole bytes ks begun None) (container_at room whole (kind_of type) after)
unfolding container_at
container_follows whole zero ks begun bytes type tag after deep deeper e =
    λ ne. ([], place whole bytes ks begun None, refl, e ∙ ap (moved (place whole bytes ks begun None)) (too_deep whole (length ks) type tag after (omega (arith, deep))))
container_follows whole (suc room) ks begun bytes type tag after deep deeper e =
    enter_follows whole room ks (place whole bytes ks begun None) type tag (length after) (piece_at whole 0 after) refl refl deep deeper (piece_within (length after) whole 0 after (omega arith))
    (e ∙ ap (moved (place whole bytes ks begun None)) (may_enter whole (length ks) type tag after (omega (arith, deep))))

-- by the element type
module _ (whole room : ℕ) (deeper : DeeperFollow whole room) (ks : List Kind) (begun : Bool) (bytes : List ℕ) (type : ℕ) (tag : Tag) (after : List ℕ) (deep : room + length ks ≡ 16)
    (e : next_at (place whole bytes ks begun None) ≡ moved (place whole bytes ks begun None) (part_at whole (length ks) type tag after)) where
  abbrev here : Place
  here = place whole bytes ks begun None

  abbrev So : Result (Tree × List ℕ) TlvFault → Type 0
  So r = Follows whole (length after) ks here r

  by_scalar : is_scalar_type type ≡ true → So (body_at room whole type after)
  by_scalar s =
      subst So (same_read (scalar_at whole type after) ∙ scalar_body whole (length ks) room type tag after s)
      (step_follows whole (length after) bytes ks ks begun (scalar_at whole type after) (scalar tag) (λ (v : Tree). v) (e ∙ ap (moved here) (scalar_part whole (length ks) room type tag after s)) (λ a. refl) (scalar_within (length after) whole type after (omega arith)))

  by_text : is_scalar_type type ≡ false → ltb type 16 ≡ true → So (body_at room whole type after)
  by_text s t =
      subst So (text_body whole (length ks) room type tag after s t)
      (step_follows whole (length after) bytes ks ks begun (text_at whole type after) (parts.text tag) text (e ∙ ap (moved here) (text_part whole (length ks) room type tag after s t)) (λ a. refl) (text_within (length after) whole type after (omega arith)))

  by_octets : is_scalar_type type ≡ false → ltb type 16 ≡ false → ltb type 20 ≡ true → So (body_at room whole type after)
  by_octets s t u =
      subst So (octets_body whole (length ks) room type tag after s t u)
      (step_follows whole (length after) bytes ks ks begun (string_at whole type after) (parts.octets tag) octets (e ∙ ap (moved here) (octets_part whole (length ks) room type tag after s t u)) (λ a. refl) (string_within (length after) whole type after (omega arith)))

  by_container : is_scalar_type type ≡ false → ltb type 16 ≡ false → ltb type 20 ≡ false → So (body_at room whole type after)
  by_container s t u =
      subst So (container_body whole (length ks) room type tag after s t u)
      (follows_map whole (length after) ks here (container_at room whole (kind_of type) after) (container_of (kind_of type))
      (container_follows whole room ks begun bytes type tag after deep deeper (e ∙ ap (moved here) (container_part whole (length ks) room type tag after s t u))))

  by_type : So (body_at room whole type after)
  by_type = elim (is_it (is_scalar_type type)) [
    | inl s ↦ by_scalar s
    | inr s ↦ elim (is_it (ltb type 16)) [
      | inl t ↦ by_text s t
      | inr t ↦ elim (is_it (ltb type 20)) [
        | inl u ↦ by_octets s t u
        | inr u ↦ by_container s t u
      ]
    ]
  ]

pub nothing_in_front : head_at [] ≡ Err Short
unfolding head_at
nothing_in_front = refl

-- a member and those behind it
turn_follows : (whole few len n : ℕ) (kind : Kind) (ks : List Kind) (p : Place) (tag : Tag) (others : Reads Elements) (r : Result (Tree × List ℕ) TlvFault) → few ≤ len → few ≤ n
    → ((rest : List ℕ) → length rest ≤ n → Follows whole (length rest) ks (place whole rest (kind ∷ ks) true None) (others rest)) → Follows whole few (kind ∷ ks) p r
    → Follows whole len ks p (r >>= λ v. others v.1 >>= λ es. Ok (more tag v.0 es.0, es.1))
turn_follows whole few len n kind ks p tag others (Ok v) le le2 all h =
    let short = h.2 in
    follows_map whole len ks p (others v.1) (more tag v.0) (follows_after whole (length v.1) len ks p (place whole v.1 (kind ∷ ks) true None) h.0 (others v.1) h.1 (omega (arith, short, le)) (all v.1 (omega (arith, short, le2))))
turn_follows whole few len n kind ks p tag others (Err d) le le2 all h = h

module _ (whole room : ℕ) (body : BodyFollows whole room) (kind : Kind) (ks : List Kind) (deep : room + length (kind ∷ ks) ≡ 16) where
  abbrev members : ℕ → List Tag → Reads Elements
  members n tags bytes = members_with (body_at room whole) whole kind n tags bytes

  abbrev inside : List ℕ → Place
  inside bytes = place whole bytes (kind ∷ ks) true None

  none_in_front : (n : ℕ) (tags : List Tag) (bytes : List ℕ) → is_end bytes ≡ true → (piece_at whole 1 bytes >>= λ x. Ok (none, x.1)) ≡ members (suc n) tags bytes
  unfolding members_with
  none_in_front n tags bytes e = rw e refl

  one_in_front : (n : ℕ) (tags : List Tag) (bytes : List ℕ) → is_end bytes ≡ false
      → (head_at bytes >>= λ h. allowed kind tags h.0.1 >>= λ _. body_at room whole h.0.0 h.1 >>= λ v. members n (tags ++ h.0.1 ∷ []) v.1 >>= λ es. Ok (more h.0.1 v.0 es.0, es.1)) ≡ members (suc n) tags bytes
  unfolding members_with
  one_in_front n tags bytes e = rw e refl

  short_follows : (tags : List Tag) → Follows whole 0 ks (inside []) (members zero tags [])
  unfolding members_with
  short_follows tags = λ ne. ([], inside [], refl, goes_in whole [] (kind ∷ ks) true refl ∙ ap (moved (inside [])) (no_head whole (Some kind) (length (kind ∷ ks)) [] refl Short nothing_in_front))

  end_follows : (n : ℕ) (tags : List Tag) (bytes : List ℕ) → is_end bytes ≡ true → Follows whole (length bytes) ks (inside bytes) (members (suc n) tags bytes)
  end_follows n tags bytes e =
      subst (λ (r : Result (Elements × List ℕ) TlvFault). Follows whole (length bytes) ks (inside bytes) r) (none_in_front n tags bytes e)
      (step_follows whole (length bytes) bytes (kind ∷ ks) ks true (piece_at whole 1 bytes) (λ (x : List ℕ). leave) (λ (x : List ℕ). none) (goes_in whole bytes (kind ∷ ks) true refl ∙ ap (moved (inside bytes)) (end_is whole kind (length (kind ∷ ks)) bytes e)) (λ a. refl) (piece_within (length bytes) whole 1 bytes (omega arith)))

  head_follows : (n : ℕ) (tags : List Tag) (bytes : List ℕ) (r : Result ((ℕ × Tag) × List ℕ) TlvFault) → is_end bytes ≡ false → head_at bytes ≡ r → Within n r → Within (length bytes) r
      → ((rest : List ℕ) (ts : List Tag) → length rest ≤ n → Follows whole (length rest) ks (inside rest) (members n ts rest))
      → Follows whole (length bytes) ks (inside bytes) (r >>= λ h. allowed kind tags h.0.1 >>= λ _. body_at room whole h.0.0 h.1 >>= λ v. members n (tags ++ h.0.1 ∷ []) v.1 >>= λ es. Ok (more h.0.1 v.0 es.0, es.1))
  head_follows n tags bytes (Err d) goes hd w w2 all = λ ne. ([], inside bytes, refl, goes_in whole bytes (kind ∷ ks) true refl ∙ ap (moved (inside bytes)) (no_head whole (Some kind) (length (kind ∷ ks)) bytes goes d hd))
  head_follows n tags bytes (Ok h) goes hd w w2 all = elim (tags_agree kind tags h.0.1) [
    | inl a ↦ rw a.0 (turn_follows whole (length h.1) (length bytes) n kind ks (inside bytes) h.0.1 (members n (tags ++ h.0.1 ∷ [])) (body_at room whole h.0.0 h.1) w2 w (λ rest le. all rest (tags ++ h.0.1 ∷ []) le)
        (body (kind ∷ ks) true bytes h.0.0 h.0.1 h.1 deep (goes_in whole bytes (kind ∷ ks) true refl ∙ ap (moved (inside bytes)) (part_is whole (Some kind) (length (kind ∷ ks)) bytes goes h.0 h.1 hd a.1))))
    | inr a ↦ rw a.1 (λ ne. ([], inside bytes, refl, goes_in whole bytes (kind ∷ ks) true refl ∙ ap (moved (inside bytes)) (bad_tag whole (Some kind) (length (kind ∷ ks)) bytes goes h.0 h.1 a.0 hd (a.2 ne))))
  ]

  members_follow : (n : ℕ) (tags : List Tag) (bytes : List ℕ) → length bytes ≤ n → Follows whole (length bytes) ks (inside bytes) (members n tags bytes)
  members_follow zero tags [] le = short_follows tags
  members_follow zero tags (b ∷ bytes) le = absurd (omega arith)
  members_follow (suc n) tags bytes le = elim (is_it (is_end bytes)) [
    | inl e ↦ end_follows n tags bytes e
    | inr e ↦ subst (λ (r : Result (Elements × List ℕ) TlvFault). Follows whole (length bytes) ks (inside bytes) r) (one_in_front n tags bytes e)
        (head_follows n tags bytes (head_at bytes) e refl (head_within n bytes le) (head_within (length bytes) bytes (omega arith)) (λ rest ts short. members_follow n ts rest short))
  ]

body_follows : (whole room : ℕ) → BodyFollows whole room
body_follows whole zero = λ ks begun bytes type tag after deep e. by_type whole zero tt ks begun bytes type tag after deep e
body_follows whole (suc room) = λ ks begun bytes type tag after deep e. by_type whole (suc room) (λ kind outer n tags inner d le. members_follow whole room (body_follows whole room) kind outer d n tags inner le) ks begun bytes type tag after deep e

first_follows : (bytes : List ℕ) (r : Result ((ℕ × Tag) × List ℕ) TlvFault) → head_at bytes ≡ r → Within (length bytes) r
    → Follows {A = Tag × Tree} (length bytes) (length bytes) [] (start bytes) (r >>= λ h. body_at 16 (length bytes) h.0.0 h.1 >>= λ v. Ok ((h.0.1, v.0), v.1))
first_follows bytes (Err d) hd w = λ ne. ([], start bytes, refl, goes_in (length bytes) bytes [] false refl ∙ ap (moved (start bytes)) (no_head (length bytes) None 0 bytes refl d hd))
first_follows bytes (Ok h) hd w =
    follows_map {B = Tag × Tree} (length bytes) (length bytes) [] (start bytes) (body_at 16 (length bytes) h.0.0 h.1) (λ (v : Tree). (h.0.1, v))
    (follows_after (length bytes) (length h.1) (length bytes) [] (start bytes) (start bytes) [] (body_at 16 (length bytes) h.0.0 h.1) refl w
    (body_follows (length bytes) 16 [] false bytes h.0.0 h.0.1 h.1 refl (goes_in (length bytes) bytes [] false refl ∙ ap (moved (start bytes)) (part_is (length bytes) None 0 bytes refl h.0 h.1 hd refl))))

read_follows : (bytes : List ℕ) → Follows (length bytes) (length bytes) [] (start bytes) (element_at bytes)
unfolding element_at
read_follows bytes = first_follows bytes (head_at bytes) refl (head_within (length bytes) bytes (omega arith))

pub read_fault_met : (bytes : List ℕ) (e : TlvFault) → e ≢ SameTag → element_at bytes ≡ Err e → Faults (start bytes) e
read_fault_met bytes e ne h = subst (λ (r : Result ((Tag × Tree) × List ℕ) TlvFault). Follows (length bytes) (length bytes) [] (start bytes) r) h (read_follows bytes) ne

-- a place behind which there is no part
abbrev Stops : Place → Type 0
Stops p = (x : Piece) (m : Place) → next_at p ≡ Ok (Some x, m) → ⊥

abbrev answered : Option Piece × Place → Result (Option Piece × Place) TlvFault
answered x = Ok x

abbrev stepped : Piece → Place → Result (Option Piece × Place) TlvFault
stepped x m = Ok (Some x, m)

answers_same : (x y : Option Piece × Place) → answered x ≡ answered y → x ≡ y
answers_same x y e = cc

same_place : (x y : Piece) (m n : Place) → stepped x m ≡ stepped y n → m ≡ n
same_place x y m n e = ap (λ (z : Option Piece × Place). z.1) (answers_same (Some x, m) (Some y, n) e)

-- a cursor comes to one such place
one_stop : (p q r : Place) (xs ys : List Piece) → Comes p xs q → Comes p ys r → Stops q → Stops r → next_at q ≡ next_at r
one_stop p q r [] [] h k s t = ap next_at (sym h ∙ k)
one_stop p q r [] (y ∷ ys) h k s t = absurd (s y k.0 (ap next_at (sym h) ∙ k.1))
one_stop p q r (x ∷ xs) [] h k s t = absurd (t x h.0 (ap next_at (sym k) ∙ h.1))
one_stop p q r (x ∷ xs) (y ∷ ys) h k s t =
    let same : h.0 ≡ k.0 = same_place x y h.0 k.0 (sym h.1 ∙ k.1) in
    one_stop k.0 q r xs ys (subst (λ (m : Place). Comes m xs q) same h.2) k.2 s t

abbrev failed : (A : Type 0) → TlvFault → Result A TlvFault
failed A d = Err d

abbrev ended : Place → Result (Option Piece × Place) TlvFault
ended p = Ok (None, p)

fault_stops : (p : Place) (e : TlvFault) → next_at p ≡ Err e → Stops p
fault_stops p e h = λ x m k. let d : failed (Option Piece × Place) e ≡ stepped x m = sym h ∙ k in cc

end_stops : (whole : ℕ) (rest : List ℕ) → Stops (place whole rest [] true None)
end_stops whole rest = λ x m k.
    let b = place whole rest [] true None in
    let d : ended b ≡ stepped x m = sym (cursor_ends whole rest) ∙ k in
    let o : None ≡ Some x = ap (λ (z : Option Piece × Place). z.0) (answers_same (None, b) (Some x, m) d) in
    cc

same_fault : {A B : Type 0} {d e : TlvFault} → failed A d ≡ failed A e → failed B d ≡ failed B e
same_fault p = cc

is_same_tag_fault : (e : TlvFault) → (e ≡ SameTag) ⊎ (e ≢ SameTag)
is_same_tag_fault Short = inr (λ p. cc)
is_same_tag_fault Reserved = inr (λ p. cc)
is_same_tag_fault NotUtf8 = inr (λ p. cc)
is_same_tag_fault TooDeep = inr (λ p. cc)
is_same_tag_fault SameTag = inl refl
is_same_tag_fault TagForm = inr (λ p. cc)
is_same_tag_fault TooLong = inr (λ p. cc)
is_same_tag_fault Memory = inr (λ p. cc)

met_by : (whole len : ℕ) (p : Place) (r : Result ((Tag × Tree) × List ℕ) TlvFault) (e : TlvFault) → Follows whole len [] p r → Faults p e → (r ≡ Err e) ⊎ (r ≡ Err SameTag)
met_by whole len p (Ok x) e f h =
    let b = place whole x.1 [] true None in
    let same : next_at h.1 ≡ next_at b = one_stop p h.1 b h.0 f.0 h.2 f.1 (fault_stops h.1 e h.3) (end_stops whole x.1) in
    let d : failed (Option Piece × Place) e ≡ ended b = sym h.3 ∙ same ∙ cursor_ends whole x.1 in
    absurd cc
met_by whole len p (Err d) e f h = elim (is_same_tag_fault d) [
  | inl s ↦ inr (ap (failed ((Tag × Tree) × List ℕ)) s)
  | inr s ↦ let g = f s in inl (same_fault {A = Option Piece × Place} (sym g.3 ∙ one_stop p g.1 h.1 g.0 h.0 g.2 h.2 (fault_stops g.1 d g.3) (fault_stops h.1 e h.3) ∙ h.3))
]

pub met_fault_read : (bytes : List ℕ) (e : TlvFault) → Faults (start bytes) e → (element_at bytes ≡ Err e) ⊎ (element_at bytes ≡ Err SameTag)
met_fault_read bytes e h = met_by (length bytes) (length bytes) (start bytes) (element_at bytes) e (read_follows bytes) h

-- What was read, or a fault that a cursor may meet.
abbrev Plain : {A : Type 0} → Result A TlvFault → Type 0
Plain (Ok x) = Unit {0}
Plain (Err e) = (e ≢ SameTag) × (e ≢ Memory)

bind_plain : {A B : Type 0} (r : Result A TlvFault) (f : A → Result B TlvFault) → Plain r → ((x : A) → Plain (f x)) → Plain (r >>= f)
bind_plain (Ok x) f h k = k x
bind_plain (Err e) f h k = h

cond_plain : {A : Type 0} (b : Bool) (r s : Result A TlvFault) → Plain r → Plain s → Plain (cond b r s)
cond_plain true r s h k = h
cond_plain false r s h k = k

short_plain : (Short ≢ SameTag) × (Short ≢ Memory)
short_plain = (λ p. cc, λ p. cc)

reserved_plain : (Reserved ≢ SameTag) × (Reserved ≢ Memory)
reserved_plain = (λ p. cc, λ p. cc)

not_utf8_plain : (NotUtf8 ≢ SameTag) × (NotUtf8 ≢ Memory)
not_utf8_plain = (λ p. cc, λ p. cc)

too_deep_plain : (TooDeep ≢ SameTag) × (TooDeep ≢ Memory)
too_deep_plain = (λ p. cc, λ p. cc)

tag_form_plain : (TagForm ≢ SameTag) × (TagForm ≢ Memory)
tag_form_plain = (λ p. cc, λ p. cc)

too_long_plain : (TooLong ≢ SameTag) × (TooLong ≢ Memory)
too_long_plain = (λ p. cc, λ p. cc)

cut_plain : (k : ℕ) (bytes : List ℕ) → Plain (cut_at k bytes)
cut_plain k bytes = cond_plain (ltb (length bytes) k) (Err Short) (Ok (take k bytes, drop k bytes)) short_plain tt

piece_plain : (whole k : ℕ) (bytes : List ℕ) → Plain (piece_at whole k bytes)
piece_plain whole k bytes = cond_plain (ltb 65535 k || ltb (65535 + length bytes) (whole + k)) (Err TooLong) (cut_at k bytes) too_long_plain (cut_plain k bytes)

number_plain : (k : ℕ) (bytes : List ℕ) → Plain (number_at k bytes)
number_plain k bytes = bind_plain (cut_at k bytes) _ (cut_plain k bytes) (λ x. tt)

context_plain : (bytes : List ℕ) → Plain (context_at bytes)
context_plain [] = short_plain
context_plain (b ∷ bytes) = tt

profile_plain : (control : ℕ) (bytes : List ℕ) → Plain (profile_number_at control bytes)
profile_plain control bytes = number_plain (cond (eqb (control % 2) 0) 2 4) bytes

full_plain : (control : ℕ) (bytes : List ℕ) → Plain (full_at control bytes)
full_plain control bytes =
    bind_plain (number_at 2 bytes) _ (number_plain 2 bytes) (λ v.
    bind_plain (number_at 2 v.1) _ (number_plain 2 v.1) (λ p.
    bind_plain (profile_number_at control p.1) _ (profile_plain control p.1) (λ x. tt)))

tag_plain : (control : ℕ) (bytes : List ℕ) → Plain (tag_at control bytes)
tag_plain control bytes =
    cond_plain (eqb control 0) (Ok (Anonymous, bytes)) _ tt
    (cond_plain (eqb control 1) (context_at bytes) _ (context_plain bytes)
    (cond_plain (ltb control 4) (profile_number_at control bytes >>= λ x. Ok (Common x.0, x.1)) _ (bind_plain (profile_number_at control bytes) _ (profile_plain control bytes) (λ x. tt))
    (cond_plain (ltb control 6) (profile_number_at control bytes >>= λ x. Ok (Implicit x.0, x.1)) (full_at control bytes) (bind_plain (profile_number_at control bytes) _ (profile_plain control bytes) (λ x. tt))
    (full_plain control bytes))))

head_plain : (bytes : List ℕ) → Plain (head_at bytes)
unfolding head_at
head_plain [] = short_plain
head_plain (c ∷ bytes) = cond_plain (ltb (c % 32) 24) (tag_at (c / 32) bytes >>= λ tag. Ok ((c % 32, tag.0), tag.1)) (Err Reserved) (bind_plain (tag_at (c / 32) bytes) _ (tag_plain (c / 32) bytes) (λ x. tt)) reserved_plain

scalar_plain : (whole type : ℕ) (bytes : List ℕ) → Plain (scalar_at whole type bytes)
unfolding scalar_at
scalar_plain whole type bytes = bind_plain (piece_at whole (scalar_length type) bytes) _ (piece_plain whole (scalar_length type) bytes) (λ x. tt)

string_plain : (whole type : ℕ) (bytes : List ℕ) → Plain (string_at whole type bytes)
unfolding string_at
string_plain whole type bytes = bind_plain (number_at (2 ^ (type % 4)) bytes) _ (number_plain (2 ^ (type % 4)) bytes) (λ x. piece_plain whole x.0 x.1)

utf8_plain : (b : Bool) (s : List ℕ) → Plain (cond {A = Result (List ℕ) TlvFault} b (Ok s) (Err NotUtf8))
utf8_plain true s = tt
utf8_plain false s = not_utf8_plain

text_plain : (whole type : ℕ) (bytes : List ℕ) → Plain (text_at whole type bytes)
text_plain whole type bytes = bind_plain (string_at whole type bytes) _ (string_plain whole type bytes) (λ x. bind_plain (text_of x.0) _ (utf8_plain (is_utf8 x.0) x.0) (λ s. tt))

fits_plain : (o : Option Kind) (tag : Tag) → Plain (fits o tag)
fits_plain None tag = tt
fits_plain (Some kinds.Struct) tag = cond_plain (is_anonymous tag) (Err TagForm) (Ok tt) tag_form_plain tt
fits_plain (Some kinds.Array) tag = cond_plain (is_anonymous tag) (Ok tt) (Err TagForm) tt tag_form_plain
fits_plain (Some kinds.List) tag = tt

part_plain : (whole depth type : ℕ) (tag : Tag) (bytes : List ℕ) → Plain (part_at whole depth type tag bytes)
unfolding part_at
part_plain whole depth type tag bytes =
    cond_plain (is_scalar_type type) (scalar_at whole type bytes >>= λ x. Ok (scalar tag x.0, x.1)) _ (bind_plain (scalar_at whole type bytes) _ (scalar_plain whole type bytes) (λ x. tt))
    (cond_plain (ltb type 16) (text_at whole type bytes >>= λ x. Ok (parts.text tag x.0, x.1)) _ (bind_plain (text_at whole type bytes) _ (text_plain whole type bytes) (λ x. tt))
    (cond_plain (ltb type 20) (string_at whole type bytes >>= λ x. Ok (parts.octets tag x.0, x.1)) (enter_at whole depth type tag bytes) (bind_plain (string_at whole type bytes) _ (string_plain whole type bytes) (λ x. tt))
    (cond_plain (ltb depth 16) (piece_at whole 0 bytes >>= λ x. Ok (enter tag type, x.1)) (Err TooDeep) (bind_plain (piece_at whole 0 bytes) _ (piece_plain whole 0 bytes) (λ x. tt)) too_deep_plain)))

piece_in_plain : (whole : ℕ) (o : Option Kind) (depth : ℕ) (bytes : List ℕ) → Plain (piece_in whole o depth bytes)
unfolding piece_in
piece_in_plain whole o depth bytes =
    cond_plain (ends o bytes) (piece_at whole 1 bytes >>= λ x. Ok (leave, x.1)) (head_at bytes >>= λ h. fits o h.0.1 >>= λ u. part_at whole depth h.0.0 h.0.1 h.1) (bind_plain (piece_at whole 1 bytes) _ (piece_plain whole 1 bytes) (λ x. tt))
    (bind_plain (head_at bytes) _ (head_plain bytes) (λ h. bind_plain (fits o h.0.1) _ (fits_plain o h.0.1) (λ u. part_plain whole depth h.0.0 h.0.1 h.1)))

-- An answer that a cursor may give where it met no fault before.
abbrev Good : Result (Option Piece × Place) TlvFault → Type 0
Good (Ok x) = x.1.fault ≡ None
Good (Err e) = (e ≢ SameTag) × (e ≢ Memory)

moved_good : (p : Place) (r : Result (Piece × List ℕ) TlvFault) → Plain r → Good (moved p r)
moved_good p (Ok x) h = refl
moved_good p (Err e) h = h

cond_good : (b : Bool) (r s : Result (Option Piece × Place) TlvFault) → Good r → Good s → Good (cond b r s)
cond_good true r s h k = h
cond_good false r s h k = k

unless_good : (o : Option TlvFault) (r : Result (Option Piece × Place) TlvFault) → o ≡ None → Good r → Good (unless_fault o r)
unless_good None r h k = k
unless_good (Some e) r h k = absurd cc

next_good : (p : Place) → p.fault ≡ None → Good (next_at p)
unfolding next_at
next_good p h =
    unless_good p.fault _ h (cond_good (p.begun && is_none (innermost p.open_kinds)) (Ok (None, p)) (moved p (piece_in p.whole (innermost p.open_kinds) (length p.open_kinds) p.rest)) h
    (moved_good p (piece_in p.whole (innermost p.open_kinds) (length p.open_kinds) p.rest) (piece_in_plain p.whole (innermost p.open_kinds) (length p.open_kinds) p.rest)))

comes_good : (xs : List Piece) (p q : Place) → p.fault ≡ None → Comes p xs q → q.fault ≡ None
comes_good [] p q h c = ap (λ (m : Place). m.fault) (sym c) ∙ h
comes_good (x ∷ xs) p q h c = comes_good xs c.0 q (subst Good c.1 (next_good p h)) c.2

pub met_never : (bytes : List ℕ) (e : TlvFault) → Faults (start bytes) e → (e ≢ SameTag) × (e ≢ Memory)
met_never bytes e h = subst Good h.3 (next_good h.1 (comes_good h.0 (start bytes) h.1 refl h.2))

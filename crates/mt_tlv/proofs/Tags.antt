-- Sets of tags, when a tag is put into them.
use Rattle.std.proofs.Common.{◌≡◌, ℕ, ◌-◌, ◌*◌, ◌/◌, ◌%◌, ◌^◌, ◌<◌, ◌≤◌, Bool, true, false, cond, ◌||◌, List, [], ◌∷◌, ◌++◌, length, get_or, nat_eq, bit_or, ◌⊎◌, inl, inr, refl, sym, ap, ◌∙◌, arith, get_or-set_same, get_or-set_other}
use Rattle.std.proofs.Math.ListN.{set}
use Rattle.std.specs.Int.{bit_at, w64}
use Rattle.std.specs.Ordering.{nat_cmp, eq_by_cmp, is_eq}
use Rattle.std.specs.Cmp.{nat_cmp_is}
use Rattle.std.specs.declared.cmp.Ordering.TheVariants.{Less, Equal, Greater}
use Rattle.std.specs.BTreeSet.{BTreeSet, contains}
use Rattle.std.proofs.lemmas.Nat.Bits.{bit_at_set_same, bit_at_set_other}
use Rattle.std.proofs.lemmas.Bool.{cases_eq, cases_lt, eq-eqb, ne_eqb}
use Rattle.mt_tlv.specs.declared.value.Tag.{Tag}
use Rattle.mt_tlv.specs.declared.value.Tag.TheVariants.{Anonymous, Context, Common, Implicit, Full}
use Rattle.mt_tlv.specs.declared.tag_set.TagSet.{TagSet}
use Rattle.mt_tlv.specs.Limits.{IsTag, is_tag_in, is_same_tag, kind_and_numbers, same_numbers}
use Rattle.mt_tlv.specs.Tags.{HasExactly, has, has_context, key_of, number_of_four}

-- words in which a mark is set
module _ (words : List ℕ) (number : ℕ) (within : number / 64 < length words) where
  abbrev pub with_mark : List ℕ
  with_mark = set words (number / 64) (bit_or (get_or words (number / 64) 0) (1 * 2 ^ (number % 64) % 2 ^ 64))

  mark_here : (n : ℕ) → number ≡ n → has_context with_mark n ≡ true
  mark_here n same =
      ap (has_context with_mark) (sym same)
      ∙ ap (λ w. nat_eq (bit_at w (number % 64)) 1) (get_or-set_same words (number / 64) _ 0 within)
      ∙ ap (λ d. nat_eq d 1) (bit_at_set_same w64 (get_or words (number / 64) 0) (number % 64) (omega arith))

  mark_apart : (n : ℕ) → (number ≡ n → ⊥) → (number / 64 ≡ n / 64) ⊎ (number / 64 ≡ n / 64 → ⊥) → has_context with_mark n ≡ has_context words n
  mark_apart n apart (inl word) =
      ap (λ i. nat_eq (bit_at (get_or with_mark i 0) (n % 64)) 1) (sym word)
      ∙ ap (λ w. nat_eq (bit_at w (n % 64)) 1) (get_or-set_same words (number / 64) _ 0 within)
      ∙ ap (λ d. nat_eq d 1) (bit_at_set_other w64 (get_or words (number / 64) 0) (number % 64) (omega arith) (n % 64) (λ e. apart (omega arith)))
      ∙ ap (λ i. nat_eq (bit_at (get_or words i 0) (n % 64)) 1) word
  mark_apart n apart (inr other) = ap (λ w. nat_eq (bit_at w (n % 64)) 1) (get_or-set_other words (number / 64) (n / 64) _ 0 (λ e. other (sym e)))

  mark_by : (n : ℕ) → (number ≡ n) ⊎ (number ≡ n → ⊥) → has_context with_mark n ≡ (nat_eq number n || has_context words n)
  mark_by n (inl same) = rw (eq-eqb number n same) (mark_here n same)
  mark_by n (inr apart) = rw (ne_eqb number n apart) (mark_apart n apart (cases_eq (number / 64) (n / 64)))

  pub marked : (n : ℕ) → has_context with_mark n ≡ (nat_eq number n || has_context words n)
  marked n = mark_by n (cases_eq number n)

or_swap : (a b c : Bool) → (a || (b || c)) ≡ (b || (a || c))
or_swap true true c = refl
or_swap true false c = refl
or_swap false true c = refl
or_swap false false c = refl

pub is_tag_in-push : (tag t : Tag) (tags : List Tag) → is_tag_in tag (tags ++ t ∷ []) ≡ (is_same_tag t tag || is_tag_in tag tags)
is_tag_in-push tag t [] = refl
is_tag_in-push tag t (x ∷ tags) = ap (λ b. is_same_tag x tag || b) (is_tag_in-push tag t tags) ∙ or_swap (is_same_tag x tag) (is_same_tag t tag) (is_tag_in tag tags)

-- where each number is below its bound, the four numbers are determined by the key
module _ (a b : ℕ × ℕ × ℕ × ℕ) (a0 : a.0 < 8) (a1 : a.1 < 2 ^ 16) (a2 : a.2 < 2 ^ 16) (a3 : a.3 < 2 ^ 32) (b0 : b.0 < 8) (b1 : b.1 < 2 ^ 16) (b2 : b.2 < 2 ^ 16) (b3 : b.3 < 2 ^ 32) where
  same_four : (a.0 ≡ b.0) ⊎ (a.0 ≡ b.0 → ⊥) → (a.1 ≡ b.1) ⊎ (a.1 ≡ b.1 → ⊥) → (a.2 ≡ b.2) ⊎ (a.2 ≡ b.2 → ⊥) → (a.3 ≡ b.3) ⊎ (a.3 ≡ b.3 → ⊥)
      → nat_eq (2 ^ 67 - number_of_four a) (2 ^ 67 - number_of_four b) ≡ same_numbers a b
  same_four (inr d) e1 e2 e3 = rw (ne_eqb a.0 b.0 d) (ne_eqb _ _ (λ e. d (omega arith)))
  same_four (inl e0) (inr d) e2 e3 = rw (eq-eqb a.0 b.0 e0, ne_eqb a.1 b.1 d) (ne_eqb _ _ (λ e. d (omega arith)))
  same_four (inl e0) (inl e1) (inr d) e3 = rw (eq-eqb a.0 b.0 e0, eq-eqb a.1 b.1 e1, ne_eqb a.2 b.2 d) (ne_eqb _ _ (λ e. d (omega arith)))
  same_four (inl e0) (inl e1) (inl e2) (inr d) = rw (eq-eqb a.0 b.0 e0, eq-eqb a.1 b.1 e1, eq-eqb a.2 b.2 e2, ne_eqb a.3 b.3 d) (ne_eqb _ _ (λ e. d (omega arith)))
  same_four (inl e0) (inl e1) (inl e2) (inl e3) = rw (eq-eqb a.0 b.0 e0, eq-eqb a.1 b.1 e1, eq-eqb a.2 b.2 e2, eq-eqb a.3 b.3 e3) (eq-eqb _ _ (omega arith))

  one_key : nat_eq (2 ^ 67 - number_of_four a) (2 ^ 67 - number_of_four b) ≡ same_numbers a b
  one_key = same_four (cases_eq a.0 b.0) (cases_eq a.1 b.1) (cases_eq a.2 b.2) (cases_eq a.3 b.3)

-- what the numbers of a tag are below
abbrev Bounded : ℕ × ℕ × ℕ × ℕ → Type 0
Bounded k = (k.0 < 8) × (k.1 < 2 ^ 16) × (k.2 < 2 ^ 16) × (k.3 < 2 ^ 32)

numbers_bounded : (tag : Tag) → IsTag tag → Bounded (kind_and_numbers tag)
numbers_bounded Anonymous h = (omega arith, omega arith, omega arith, omega arith)
numbers_bounded (Context n) h = (omega arith, omega arith, omega arith, omega arith)
numbers_bounded (Common n) h = (omega arith, omega arith, omega arith, omega arith)
numbers_bounded (Implicit n) h = (omega arith, omega arith, omega arith, omega arith)
numbers_bounded (Full v p n) h = (omega arith, h.0, h.1, h.2)

same_key : (s t : Tag) → IsTag s → IsTag t → nat_eq (key_of s) (key_of t) ≡ is_same_tag s t
same_key s t hs ht =
    let a = numbers_bounded s hs in
    let b = numbers_bounded t ht in
    one_key (kind_and_numbers s) (kind_and_numbers t) a.0 a.1 a.2 a.3 b.0 b.1 b.2 b.3

by_order : (a b : ℕ) → (a ≡ b) ⊎ (a ≡ b → ⊥) → (a < b) ⊎ (b ≤ a) → eq_by_cmp nat_cmp a b ≡ nat_eq a b
by_order a b (inl same) o = ap is_eq (sym (nat_cmp_is a b Equal same)) ∙ sym (eq-eqb a b same)
by_order a b (inr apart) (inl less) = ap is_eq (sym (nat_cmp_is a b Less less)) ∙ sym (ne_eqb a b apart)
by_order a b (inr apart) (inr least) = let more : b < a = omega arith in ap is_eq (sym (nat_cmp_is a b Greater more)) ∙ sym (ne_eqb a b apart)

order_is : (a b : ℕ) → eq_by_cmp nat_cmp a b ≡ nat_eq a b
order_is a b = by_order a b (cases_eq a b) (cases_lt a b)

cond_or : (a b : Bool) → cond a true b ≡ (a || b)
cond_or true b = refl
cond_or false b = refl

-- where a tag is put into a set
module _ (old : TagSet) (tag : Tag) (tags : List Tag) (exact : HasExactly old tags) where
  -- the later set has what the former has, and this tag
  pub gains : (new : TagSet) → ((t : Tag) → IsTag t → has new t ≡ (is_same_tag tag t || has old t)) → HasExactly new (tags ++ tag ∷ [])
  gains new h t ht = h t ht ∙ ap (λ b. is_same_tag tag t || b) (exact t ht) ∙ sym (is_tag_in-push t tag tags)

-- a context tag is put into the set
module _ (old : TagSet) (number : ℕ) (words : List ℕ) (now_marked : (n : ℕ) → n < 256 → has_context words n ≡ (nat_eq number n || has_context old.contexts n)) where
  pub context_gained : (t : Tag) → IsTag t → has (record old { contexts = words }) t ≡ (is_same_tag (Context number) t || has old t)
  context_gained Anonymous h = refl
  context_gained (Context n) h = now_marked n h
  context_gained (Common n) h = refl
  context_gained (Implicit n) h = refl
  context_gained (Full v p n) h = refl

-- another tag is put into the set
module _ (old : TagSet) (tag : Tag) (fits : IsTag tag) (other : (n : ℕ) → tag ≡ Context n → ⊥) where
  is_other : (t : Tag) → ((n : ℕ) → t ≡ Context n → ⊥) → has old t ≡ contains nat_cmp old.others (key_of t)
  is_other Anonymous h = refl
  is_other (Context n) h = absurd (h n refl)
  is_other (Common n) h = refl
  is_other (Implicit n) h = refl
  is_other (Full v p n) h = refl

  -- whether it was there
  pub other_was : (tags : List Tag) → HasExactly old tags → contains nat_cmp old.others (key_of tag) ≡ is_tag_in tag tags
  other_was tags exact = sym (is_other tag other) ∙ exact tag fits

  module _ (others : BTreeSet ℕ) (gained : (q : ℕ) → contains nat_cmp others q ≡ cond (eq_by_cmp nat_cmp (key_of tag) q) true (contains nat_cmp old.others q)) where
    by_key : (t : Tag) → IsTag t → contains nat_cmp others (key_of t) ≡ (is_same_tag tag t || contains nat_cmp old.others (key_of t))
    by_key t h =
        gained (key_of t) ∙ cond_or (eq_by_cmp nat_cmp (key_of tag) (key_of t)) (contains nat_cmp old.others (key_of t))
        ∙ ap (λ b. b || contains nat_cmp old.others (key_of t)) (order_is (key_of tag) (key_of t) ∙ same_key tag t fits h)

    not_context : (n : ℕ) (t : Tag) → ((m : ℕ) → t ≡ Context m → ⊥) → is_same_tag t (Context n) ≡ false
    not_context n Anonymous h = refl
    not_context n (Context m) h = absurd (h m refl)
    not_context n (Common m) h = refl
    not_context n (Implicit m) h = refl
    not_context n (Full v p m) h = refl

    pub other_gained : (t : Tag) → IsTag t → has (record old { others = others }) t ≡ (is_same_tag tag t || has old t)
    other_gained Anonymous h = by_key Anonymous h
    other_gained (Context n) h = rw (not_context n tag other) refl
    other_gained (Common n) h = by_key (Common n) h
    other_gained (Implicit n) h = by_key (Implicit n) h
    other_gained (Full v p n) h = by_key (Full v p n) h

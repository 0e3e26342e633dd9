-- What is not refused makes a table of a table.
use Rattle.std.proofs.Common.{◌≡◌, ℕ, ◌+◌, ◌<◌, ◌≤◌, inl, inr, Bool, true, false, not, ◌&&◌, ◌||◌, ◌==◌, nat_le, nat_lt, bytes_eq, List, [], ◌∷◌, length, map, filter, refl, ap, sym, subst, ◌∙◌, arith, eq-eqb, eqb-true, le-leb, lt-ltb, ltb-false, ltb-true, ne_eqb}
use Rattle.std.proofs.lemmas.Bool.{and_from, and_parts, both_ways, cases_Bool, cond-true, cond-false, eqb-false, false_from_ne_true, false≢true, not-true, not_from_false, or_from, or_parts}
use Rattle.std.proofs.lemmas.Slice.Eq.{bytes_eq-Decides}
use Rattle.std.specs.List.{list_all, list_any}
use Rattle.mt_model.specs.texts.Config.{have_one_identity, have_one_label, none_alike, has_identity}
use Rattle.mt_model.specs.rows.Order.{rise_above}
use Rattle.mt_model.specs.declared.tables.fabric.Credentials.{Credentials}
use Rattle.mt_model.specs.declared.tables.fabric.Fabric.{Fabric}
use Rattle.mt_fabrics.proofs.Gaps.{is_least, unused_from-within}
use Rattle.mt_fabrics.proofs.Places.{head_above, low_changed, tail_rises}
use Rattle.mt_fabrics.specs.Table.{IsTable, added, changed, changed_at, has_index, has_index_up_to, has_label, has_other_index, has_others_identity, has_others_label, is_used, labelled, least_unused, placed, removed, updated, with_credentials, with_index, with_label}

-- Tests on fabrics.

none_of : (p q : Fabric → Bool) → ((f : Fabric) → p f ≡ false → q f ≡ false) → (fs : List Fabric) → list_any p fs ≡ false → list_any q fs ≡ false
none_of p q fails [] none = refl
none_of p q fails (f ∷ fs) none =
    let parts = or_parts (p f) (list_any p fs) none in
    or_from (q f) (list_any q fs) (fails f parts.0) (none_of p q fails fs parts.1)

right_false : (x y : Bool) → x ≡ true → (x && y) ≡ false → y ≡ false
right_false true y e f = f
right_false false y e f = absurd (false≢true e)

same_identity : (a b : Fabric) → have_one_identity b a ≡ true → have_one_identity a b ≡ true
same_identity a b e =
    let keys = bytes_eq-Decides b.credentials.root_key a.credentials.root_key in
    let parts = and_parts (bytes_eq b.credentials.root_key a.credentials.root_key) (b.credentials.fabric_id == a.credentials.fabric_id) e in
    and_from (bytes_eq a.credentials.root_key b.credentials.root_key) (a.credentials.fabric_id == b.credentials.fabric_id)
    ((bytes_eq-Decides a.credentials.root_key b.credentials.root_key).1 (sym (keys.0 parts.0)))
    (eq-eqb a.credentials.fabric_id b.credentials.fabric_id (sym (eqb-true b.credentials.fabric_id a.credentials.fabric_id parts.1)))

pub other_identity : (a b : Fabric) → have_one_identity a b ≡ false → have_one_identity b a ≡ false
other_identity a b fails = false_from_ne_true (have_one_identity b a) (λ e. both_ways (have_one_identity a b) fails (same_identity a b e))

same_label : (a b : Fabric) → have_one_label b a ≡ true → have_one_label a b ≡ true
same_label a b e =
    let parts = and_parts (nat_le 1 (length b.label)) (bytes_eq b.label a.label) e in
    let same : b.label ≡ a.label = (bytes_eq-Decides b.label a.label).0 parts.1 in
    and_from (nat_le 1 (length a.label)) (bytes_eq a.label b.label) (subst (λ (l : List ℕ). nat_le 1 (length l) ≡ true) same parts.0) ((bytes_eq-Decides a.label b.label).1 (sym same))

pub other_label : (a b : Fabric) → have_one_label a b ≡ false → have_one_label b a ≡ false
other_label a b fails = false_from_ne_true (have_one_label b a) (λ e. both_ways (have_one_label a b) fails (same_label a b e))

-- One fabric more.

module _ (x : Fabric) where
  before : (f : Fabric) (fs : List Fabric) → nat_lt f.index x.index ≡ true → placed x (f ∷ fs) ≡ f ∷ placed x fs
  before f fs e = cond-true (nat_lt f.index x.index) (f ∷ placed x fs) (x ∷ f ∷ fs) e

  behind : (f : Fabric) (fs : List Fabric) → nat_lt f.index x.index ≡ false → placed x (f ∷ fs) ≡ x ∷ f ∷ fs
  behind f fs e = cond-false (nat_lt f.index x.index) (f ∷ placed x fs) (x ∷ f ∷ fs) e

  placed-rises : (least : ℕ) (fs : List Fabric) → rise_above least fs ≡ true → least < x.index → is_used x.index fs ≡ false → rise_above least (placed x fs) ≡ true
  placed-rises least [] up lt unused = and_from (nat_lt least x.index) true (lt-ltb least x.index lt) refl
  placed-rises least (f ∷ fs) up lt unused =
      let parts = or_parts (f.index == x.index) (is_used x.index fs) unused in
      let low : least < f.index = head_above least f fs up in
      elim (cases_Bool (nat_lt f.index x.index)) [
        | inl e ↦
            let all : rise_above least (f ∷ placed x fs) ≡ true =
            and_from (nat_lt least f.index) (rise_above f.index (placed x fs)) (lt-ltb least f.index low) (placed-rises f.index fs (tail_rises least f fs up) (ltb-true f.index x.index e) parts.1) in
            subst (λ (l : List Fabric). rise_above least l ≡ true) (sym (before f fs e)) all
        | inr e ↦
            let le : x.index ≤ f.index = ltb-false f.index x.index e in
            let apart : f.index ≡ x.index → ⊥ = eqb-false f.index x.index parts.0 in
            let all : rise_above least (x ∷ f ∷ fs) ≡ true =
            and_from (nat_lt least x.index) (rise_above x.index (f ∷ fs)) (lt-ltb least x.index lt) (and_from (nat_lt x.index f.index) (rise_above f.index fs) (lt-ltb x.index f.index (omega (arith, le, apart))) (tail_rises least f fs up)) in
            subst (λ (l : List Fabric). rise_above least l ≡ true) (sym (behind f fs e)) all
      ]

  placed-all : (test : Fabric → Bool) (fs : List Fabric) → list_all test fs ≡ true → test x ≡ true → list_all test (placed x fs) ≡ true
  placed-all test [] all is = and_from (test x) true is refl
  placed-all test (f ∷ fs) all is =
      let parts = and_parts (test f) (list_all test fs) all in
      elim (cases_Bool (nat_lt f.index x.index)) [
        | inl e ↦ subst (λ (l : List Fabric). list_all test l ≡ true) (sym (before f fs e)) (and_from (test f) (list_all test (placed x fs)) parts.0 (placed-all test fs parts.1 is))
        | inr e ↦ subst (λ (l : List Fabric). list_all test l ≡ true) (sym (behind f fs e)) (and_from (test x) (list_all test (f ∷ fs)) is all)
      ]

  placed-none : (test : Fabric → Bool) (fs : List Fabric) → list_any test fs ≡ false → test x ≡ false → list_any test (placed x fs) ≡ false
  placed-none test [] none is = or_from (test x) false is refl
  placed-none test (f ∷ fs) none is =
      let parts = or_parts (test f) (list_any test fs) none in
      elim (cases_Bool (nat_lt f.index x.index)) [
        | inl e ↦ subst (λ (l : List Fabric). list_any test l ≡ false) (sym (before f fs e)) (or_from (test f) (list_any test (placed x fs)) parts.0 (placed-none test fs parts.1 is))
        | inr e ↦ subst (λ (l : List Fabric). list_any test l ≡ false) (sym (behind f fs e)) (or_from (test x) (list_any test (f ∷ fs)) is none)
      ]

  placed-apart : (alike : Fabric → Fabric → Bool) → ((a b : Fabric) → alike a b ≡ false → alike b a ≡ false) → (fs : List Fabric)
      → none_alike alike fs ≡ true → list_any (alike x) fs ≡ false → none_alike alike (placed x fs) ≡ true
  placed-apart alike turned [] apart none = refl
  placed-apart alike turned (f ∷ fs) apart none =
      let parts = and_parts (not (list_any (alike f) fs)) (none_alike alike fs) apart in
      let nones = or_parts (alike x f) (list_any (alike x) fs) none in
      elim (cases_Bool (nat_lt f.index x.index)) [
        | inl e ↦
            let own : list_any (alike f) (placed x fs) ≡ false = placed-none (alike f) fs (not-true (list_any (alike f) fs) parts.0) (turned x f nones.0) in
            subst (λ (l : List Fabric). none_alike alike l ≡ true) (sym (before f fs e))
            (and_from (not (list_any (alike f) (placed x fs))) (none_alike alike (placed x fs)) (not_from_false _ own) (placed-apart alike turned fs parts.1 nones.1))
        | inr e ↦
            subst (λ (l : List Fabric). none_alike alike l ≡ true) (sym (behind f fs e))
            (and_from (not (list_any (alike x) (f ∷ fs))) (none_alike alike (f ∷ fs)) (not_from_false _ none) apart)
      ]

pub added_table : (fabric : Fabric) (fabrics : List Fabric) → IsTable fabrics
    → list_any (has_identity fabric.credentials.root_key fabric.credentials.fabric_id) fabrics ≡ false
    → list_any (has_label fabric.label) fabrics ≡ false
    → length fabrics < 16
    → IsTable (added fabric fabrics)
added_table fabric fabrics table identity label room =
    let index = least_unused fabrics in
    let x = with_index index fabric in
    let least = is_least fabrics table in
    let within : index ≤ 1 + length fabrics = unused_from-within 1 fabrics in
    record {
      rises = placed-rises x 0 fabrics table.rises (omega (arith, least.from_one)) least.unused;
      within = placed-all x (has_index_up_to 16) fabrics table.within (le-leb index 16 (omega (arith, within, room)));
      identities_differ = placed-apart x have_one_identity other_identity fabrics table.identities_differ
          (none_of (has_identity fabric.credentials.root_key fabric.credentials.fabric_id) (have_one_identity x) (λ f fails. other_identity f x fails) fabrics identity);
      labels_differ = placed-apart x have_one_label other_label fabrics table.labels_differ label;
    }

-- A change that keeps the index of each fabric.

module _ (h : Fabric → Fabric) (keeps : (f : Fabric) → (h f).index ≡ f.index) where
  mapped_rises : (least : ℕ) (fs : List Fabric) → rise_above least fs ≡ true → rise_above least (map h fs) ≡ true
  mapped_rises least [] up = refl
  mapped_rises least (f ∷ fs) up =
      let low : least < f.index = head_above least f fs up in
      and_from (nat_lt least (h f).index) (rise_above (h f).index (map h fs)) (lt-ltb least (h f).index (omega (arith, low, keeps f)))
      (subst (λ (n : ℕ). rise_above n (map h fs) ≡ true) (sym (keeps f)) (mapped_rises f.index fs (tail_rises least f fs up)))

  mapped_within : (most : ℕ) (fs : List Fabric) → list_all (has_index_up_to most) fs ≡ true → list_all (has_index_up_to most) (map h fs) ≡ true
  mapped_within most [] all = refl
  mapped_within most (f ∷ fs) all =
      let parts = and_parts (has_index_up_to most f) (list_all (has_index_up_to most) fs) all in
      and_from (has_index_up_to most (h f)) (list_all (has_index_up_to most) (map h fs))
      (subst (λ (n : ℕ). nat_le n most ≡ true) (sym (keeps f)) parts.0) (mapped_within most fs parts.1)

-- A change that keeps what is asked of each two.

module _ (alike : Fabric → Fabric → Bool) (h : Fabric → Fabric) (same : (a b : Fabric) → alike (h a) (h b) ≡ alike a b) where
  mapped_any : (a : Fabric) (fs : List Fabric) → list_any (alike (h a)) (map h fs) ≡ list_any (alike a) fs
  mapped_any a [] = refl
  mapped_any a (f ∷ fs) = λ i. same a f i || mapped_any a fs i

  mapped_apart : (fs : List Fabric) → none_alike alike (map h fs) ≡ none_alike alike fs
  mapped_apart [] = refl
  mapped_apart (f ∷ fs) = λ i. not (mapped_any f fs i) && mapped_apart fs i

-- A change to the fabric of one index, which is then unlike those that fail a test.

module _ (alike : Fabric → Fabric → Bool) (turned : (a b : Fabric) → alike a b ≡ false → alike b a ≡ false)
    (index : ℕ) (change : Fabric → Fabric) (test : Fabric → Bool) (unlike : (a f : Fabric) → test f ≡ false → alike (change a) f ≡ false) where
  above_unlike : (a : Fabric) (least : ℕ) (fs : List Fabric) → index ≤ least → rise_above least fs ≡ true
      → list_any (λ f. not (has_index index f) && test f) fs ≡ false → list_any (alike (change a)) fs ≡ false
  above_unlike a least [] le up none = refl
  above_unlike a least (f ∷ fs) le up none =
      let low : least < f.index = head_above least f fs up in
      let parts = or_parts (not (has_index index f) && test f) (list_any (λ g. not (has_index index g) && test g) fs) none in
      let apart : has_index index f ≡ false = ne_eqb f.index index (λ e. omega (arith, e, low, le)) in
      or_from (alike (change a) f) (list_any (alike (change a)) fs) (unlike a f (right_false (not (has_index index f)) (test f) (not_from_false _ apart) parts.0))
      (above_unlike a f.index fs (omega (arith, low, le)) (tail_rises least f fs up) parts.1)

  others_unlike : (a : Fabric) (fs : List Fabric) → list_any (alike a) fs ≡ false → test a ≡ false → list_any (alike a) (changed index change fs) ≡ false
  others_unlike a [] none is = refl
  others_unlike a (f ∷ fs) none is =
      let parts = or_parts (alike a f) (list_any (alike a) fs) none in
      or_from (alike a (changed_at index change f)) (list_any (alike a) (changed index change fs)) (one f parts.0) (others_unlike a fs parts.1 is)
    where
      one : (g : Fabric) → alike a g ≡ false → alike a (changed_at index change g) ≡ false
      one g fails = elim (cases_Bool (has_index index g)) [
        | inl e ↦ subst (λ (x : Fabric). alike a x ≡ false) (sym (cond-true (has_index index g) (change g) g e)) (turned (change g) a (unlike g a is))
        | inr e ↦ subst (λ (x : Fabric). alike a x ≡ false) (sym (cond-false (has_index index g) (change g) g e)) fails
      ]

  changed-apart : (least : ℕ) (fs : List Fabric) → rise_above least fs ≡ true → none_alike alike fs ≡ true
      → list_any (λ f. not (has_index index f) && test f) fs ≡ false → none_alike alike (changed index change fs) ≡ true
  changed-apart least [] up apart none = refl
  changed-apart least (f ∷ fs) up apart none =
      let parts = and_parts (not (list_any (alike f) fs)) (none_alike alike fs) apart in
      let nones = or_parts (not (has_index index f) && test f) (list_any (λ g. not (has_index index g) && test g) fs) none in
      elim (cases_Bool (has_index index f)) [
        | inl e ↦
            let same : f.index ≡ index = eqb-true f.index index e in
            let first : changed_at index change f ≡ change f = cond-true (has_index index f) (change f) f e in
            let rest : changed index change fs ≡ fs = low_changed index f.index change fs (omega (arith, same)) (tail_rises least f fs up) in
            let all : changed index change (f ∷ fs) ≡ change f ∷ fs = λ i. first i ∷ rest i in
            let none_like : list_any (alike (change f)) fs ≡ false = above_unlike f f.index fs (omega (arith, same)) (tail_rises least f fs up) nones.1 in
            subst (λ (l : List Fabric). none_alike alike l ≡ true) (sym all)
            (and_from (not (list_any (alike (change f)) fs)) (none_alike alike fs) (not_from_false _ none_like) parts.1)
        | inr e ↦
            let first : changed_at index change f ≡ f = cond-false (has_index index f) (change f) f e in
            let all : changed index change (f ∷ fs) ≡ f ∷ changed index change fs = λ i. first i ∷ changed index change fs in
            let is : test f ≡ false = right_false (not (has_index index f)) (test f) (not_from_false _ e) nones.0 in
            let none_like : list_any (alike f) (changed index change fs) ≡ false = others_unlike f fs (not-true (list_any (alike f) fs) parts.0) is in
            subst (λ (l : List Fabric). none_alike alike l ≡ true) (sym all)
            (and_from (not (list_any (alike f) (changed index change fs))) (none_alike alike (changed index change fs)) (not_from_false _ none_like)
            (changed-apart f.index fs (tail_rises least f fs up) parts.1 nones.1))
      ]

-- a change at an index keeps what the change keeps
changed_keeps : {X : Type 0} (index : ℕ) (change : Fabric → Fabric) (part : Fabric → X) → ((f : Fabric) → part (change f) ≡ part f) → (f : Fabric) → part (changed_at index change f) ≡ part f
changed_keeps index change part keeps f = elim (cases_Bool (has_index index f)) [
  | inl e ↦ ap part (cond-true (has_index index f) (change f) f e) ∙ keeps f
  | inr e ↦ ap part (cond-false (has_index index f) (change f) f e)
]

pub updated_table : (index : ℕ) (given : Credentials) (fabrics : List Fabric) → IsTable fabrics
    → list_any (has_others_identity index given) fabrics ≡ false
    → IsTable (updated index given fabrics)
updated_table index given fabrics table none =
    let change = with_credentials given in
    let h = changed_at index change in
    let label : (f : Fabric) → (h f).label ≡ f.label = changed_keeps index change (λ f. f.label) (λ f. refl) in
    record {
      rises = mapped_rises h (changed_keeps index change (λ f. f.index) (λ f. refl)) 0 fabrics table.rises;
      within = mapped_within h (changed_keeps index change (λ f. f.index) (λ f. refl)) 16 fabrics table.within;
      identities_differ = changed-apart have_one_identity other_identity index change (has_identity given.root_key given.fabric_id)
          (λ a f fails. other_identity f (change a) fails) 0 fabrics table.rises table.identities_differ none;
      labels_differ = mapped_apart have_one_label h (λ a b. λ i. nat_le 1 (length (label a i)) && bytes_eq (label a i) (label b i)) fabrics ∙ table.labels_differ;
    }

pub labelled_table : (index : ℕ) (label : List ℕ) (fabrics : List Fabric) → IsTable fabrics
    → list_any (has_others_label index label) fabrics ≡ false
    → IsTable (labelled index label fabrics)
labelled_table index label fabrics table none =
    let change = with_label label in
    let h = changed_at index change in
    let given : (f : Fabric) → (h f).credentials ≡ f.credentials = changed_keeps index change (λ f. f.credentials) (λ f. refl) in
    record {
      rises = mapped_rises h (changed_keeps index change (λ f. f.index) (λ f. refl)) 0 fabrics table.rises;
      within = mapped_within h (changed_keeps index change (λ f. f.index) (λ f. refl)) 16 fabrics table.within;
      identities_differ = mapped_apart have_one_identity h
          (λ a b. λ i. bytes_eq (given a i).root_key (given b i).root_key && ((given a i).fabric_id == (given b i).fabric_id)) fabrics ∙ table.identities_differ;
      labels_differ = changed-apart have_one_label other_label index change (has_label label) (λ a f fails. fails) 0 fabrics table.rises table.labels_differ none;
    }

-- One fabric less.

module _ (p : Fabric → Bool) where
  taken : (f : Fabric) (fs : List Fabric) → p f ≡ true → filter p (f ∷ fs) ≡ f ∷ filter p fs
  taken f fs e = cond-true (p f) (f ∷ filter p fs) (filter p fs) e

  dropped : (f : Fabric) (fs : List Fabric) → p f ≡ false → filter p (f ∷ fs) ≡ filter p fs
  dropped f fs e = cond-false (p f) (f ∷ filter p fs) (filter p fs) e

  rises_lower : (lower least : ℕ) (fs : List Fabric) → lower ≤ least → rise_above least fs ≡ true → rise_above lower fs ≡ true
  rises_lower lower least [] le up = refl
  rises_lower lower least (f ∷ fs) le up =
      let low : least < f.index = head_above least f fs up in
      and_from (nat_lt lower f.index) (rise_above f.index fs) (lt-ltb lower f.index (omega (arith, low, le))) (tail_rises least f fs up)

  kept_rises : (least : ℕ) (fs : List Fabric) → rise_above least fs ≡ true → rise_above least (filter p fs) ≡ true
  kept_rises least [] up = refl
  kept_rises least (f ∷ fs) up =
      let low : least < f.index = head_above least f fs up in
      let rest : rise_above f.index (filter p fs) ≡ true = kept_rises f.index fs (tail_rises least f fs up) in
      elim (cases_Bool (p f)) [
        | inl e ↦ subst (λ (l : List Fabric). rise_above least l ≡ true) (sym (taken f fs e)) (and_from (nat_lt least f.index) (rise_above f.index (filter p fs)) (lt-ltb least f.index low) rest)
        | inr e ↦ subst (λ (l : List Fabric). rise_above least l ≡ true) (sym (dropped f fs e)) (rises_lower least f.index (filter p fs) (omega (arith, low)) rest)
      ]

  kept_all : (test : Fabric → Bool) (fs : List Fabric) → list_all test fs ≡ true → list_all test (filter p fs) ≡ true
  kept_all test [] all = refl
  kept_all test (f ∷ fs) all =
      let parts = and_parts (test f) (list_all test fs) all in
      elim (cases_Bool (p f)) [
        | inl e ↦ subst (λ (l : List Fabric). list_all test l ≡ true) (sym (taken f fs e)) (and_from (test f) (list_all test (filter p fs)) parts.0 (kept_all test fs parts.1))
        | inr e ↦ subst (λ (l : List Fabric). list_all test l ≡ true) (sym (dropped f fs e)) (kept_all test fs parts.1)
      ]

  kept_none : (test : Fabric → Bool) (fs : List Fabric) → list_any test fs ≡ false → list_any test (filter p fs) ≡ false
  kept_none test [] none = refl
  kept_none test (f ∷ fs) none =
      let parts = or_parts (test f) (list_any test fs) none in
      elim (cases_Bool (p f)) [
        | inl e ↦ subst (λ (l : List Fabric). list_any test l ≡ false) (sym (taken f fs e)) (or_from (test f) (list_any test (filter p fs)) parts.0 (kept_none test fs parts.1))
        | inr e ↦ subst (λ (l : List Fabric). list_any test l ≡ false) (sym (dropped f fs e)) (kept_none test fs parts.1)
      ]

  kept_apart : (alike : Fabric → Fabric → Bool) (fs : List Fabric) → none_alike alike fs ≡ true → none_alike alike (filter p fs) ≡ true
  kept_apart alike [] apart = refl
  kept_apart alike (f ∷ fs) apart =
      let parts = and_parts (not (list_any (alike f) fs)) (none_alike alike fs) apart in
      let none : list_any (alike f) (filter p fs) ≡ false = kept_none (alike f) fs (not-true (list_any (alike f) fs) parts.0) in
      elim (cases_Bool (p f)) [
        | inl e ↦ subst (λ (l : List Fabric). none_alike alike l ≡ true) (sym (taken f fs e))
            (and_from (not (list_any (alike f) (filter p fs))) (none_alike alike (filter p fs)) (not_from_false _ none) (kept_apart alike fs parts.1))
        | inr e ↦ subst (λ (l : List Fabric). none_alike alike l ≡ true) (sym (dropped f fs e)) (kept_apart alike fs parts.1)
      ]

pub removed_table : (index : ℕ) (fabrics : List Fabric) → IsTable fabrics → IsTable (removed index fabrics)
removed_table index fabrics table =
    let p = has_other_index index in
    record {
      rises = kept_rises p 0 fabrics table.rises;
      within = kept_all p (has_index_up_to 16) fabrics table.within;
      identities_differ = kept_apart p have_one_identity fabrics table.identities_differ;
      labels_differ = kept_apart p have_one_label fabrics table.labels_differ;
    }

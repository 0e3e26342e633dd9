-- What holds of lists, how many pass a test, and which places stand before which.
use Rattle.std.proofs.Common.{◌≡◌, ℕ, suc, ◌+◌, ◌<◌, ◌≤◌, inl, inr, Bool, true, false, not, ◌&&◌, ◌||◌, ◌==◌, nat_le, nat_lt, List, [], ◌∷◌, ◌++◌, length, Ok, refl, sym, ap, ◌∙◌, subst, filter, map, length-append, if◌then◌else◌, arith}
use Rattle.std.proofs.lemmas.Bool.{and_from, and_parts, cases_Bool, eqb-true, eq-eqb, leb-true, le-leb, or_cases, or_left, or_right}
use Rattle.std.proofs.lemmas.Grind.{common_steps}
use Rattle.std.proofs.lemmas.List.Elements.{filter-append}
use Rattle.std.proofs.lemmas.List.Folds.{list_all-append}
use Rattle.std.proofs.lemmas.List.Sums.{length-filter}
use Rattle.std.specs.List.{count_by, list_all, list_any}
use Rattle.mt_tlv.specs.declared.value.Value.{Value}
use Rattle.mt_meta.specs.Finding.{find_data_of}
use Rattle.mt_meta.specs.declared.meta.Meta.{Meta}
use Rattle.mt_model.specs.rows.Order.{row_at, stands_before}
use Rattle.mt_model.specs.rows.Setting.{is_above, is_at, is_below, with_rows}
use Rattle.mt_model.specs.rows.Sight.{same_place}
use Rattle.mt_model.specs.declared.rows.place.Place.{Place}
use Rattle.mt_model.specs.declared.rows.place.Row.{Row}
use Rattle.mt_machine.specs.State.{ItemsAreFew}

-- Lists.

pub impossible : {A : Type 0} → false ≡ true → A
impossible h = absurd cc

pub all-filter : {X : Type 0} (p keep : X → Bool) (xs : List X) → list_all p xs ≡ true → list_all p (filter keep xs) ≡ true
all-filter p keep [] all = refl
all-filter p keep (x ∷ xs) all =
    let both = and_parts (p x) (list_all p xs) all in
    elim (cases_Bool (keep x)) [
      | inl kept ↦ rw kept (and_from _ _ both.0 (all-filter p keep xs both.1))
      | inr gone ↦ rw gone (all-filter p keep xs both.1)
    ]

-- those that are kept pass another test, if each that is kept and passes the first does
pub all-kept : {X : Type 0} (p q keep : X → Bool) → ((x : X) → keep x ≡ true → p x ≡ true → q x ≡ true) → (xs : List X) → list_all p (filter keep xs) ≡ true → list_all q (filter keep xs) ≡ true
all-kept p q keep each [] all = refl
all-kept p q keep each (x ∷ xs) all = elim (cases_Bool (keep x)) [
  | inl kept ↦
      let here : (p x && list_all p (filter keep xs)) ≡ true = rw kept at all in
      let both = and_parts (p x) (list_all p (filter keep xs)) here in
      rw kept (and_from _ _ (each x kept both.0) (all-kept p q keep each xs both.1))
  | inr gone ↦
      let rest : list_all p (filter keep xs) ≡ true = rw gone at all in
      rw gone (all-kept p q keep each xs rest)
]

pub all-weaker : {X : Type 0} (p q : X → Bool) → ((x : X) → p x ≡ true → q x ≡ true) → (xs : List X) → list_all p xs ≡ true → list_all q xs ≡ true
all-weaker p q each [] all = refl
all-weaker p q each (x ∷ xs) all = let both = and_parts (p x) (list_all p xs) all in and_from _ _ (each x both.0) (all-weaker p q each xs both.1)

pub any-weaker : {X : Type 0} (p q : X → Bool) → ((x : X) → p x ≡ true → q x ≡ true) → (xs : List X) → list_any p xs ≡ true → list_any q xs ≡ true
any-weaker p q each [] any = impossible any
any-weaker p q each (x ∷ xs) any = elim (or_cases (p x) (list_any p xs) any) [
  | inl here ↦ or_left _ _ (each x here)
  | inr later ↦ or_right _ _ (any-weaker p q each xs later)
]

pub all-three : {X : Type 0} (p : X → Bool) (a b c : List X) → list_all p a ≡ true → list_all p b ≡ true → list_all p c ≡ true → list_all p (a ++ (b ++ c)) ≡ true
all-three p a b c first second third = list_all-append p a (b ++ c) ∙ and_from _ _ first (list_all-append p b c ∙ and_from _ _ second third)

-- How many pass.

abbrev pub count : {X : Type 0} → (X → Bool) → List X → ℕ
count p xs = length (filter p xs)

pub counted : {X : Type 0} (p : X → Bool) (xs : List X) → count_by p xs ≡ count p xs
counted p xs = sym (length-filter p xs)

pub count-three : {X : Type 0} (p : X → Bool) (a b c : List X) → count p (a ++ (b ++ c)) ≡ count p a + (count p b + count p c)
count-three p a b c = ap length (filter-append p a (b ++ c) ∙ ap (λ xs. filter p a ++ xs) (filter-append p b c)) ∙ simp length-append

pub count-none : {X : Type 0} (p good : X → Bool) → ((x : X) → good x ≡ true → p x ≡ false) → (xs : List X) → list_all good xs ≡ true → count p xs ≡ 0
count-none p good each [] all = refl
count-none p good each (x ∷ xs) all =
    let both = and_parts (good x) (list_all good xs) all in
    rw (each x both.0) (count-none p good each xs both.1)

-- none of those that are kept
pub count-gone : {X : Type 0} (p good keep : X → Bool) → ((x : X) → good x ≡ true → p x ≡ true → keep x ≡ false) → (xs : List X) → list_all good xs ≡ true → count p (filter keep xs) ≡ 0
count-gone p good keep each [] all = refl
count-gone p good keep each (x ∷ xs) all =
    let both = and_parts (good x) (list_all good xs) all in
    let rest = count-gone p good keep each xs both.1 in
    elim (cases_Bool (p x)) [
      | inl passes ↦ rw (each x both.0 passes) rest
      | inr fails ↦ elim (cases_Bool (keep x)) [
        | inl kept ↦ rw (kept, fails) rest
        | inr gone ↦ rw gone rest
      ]
    ]

-- of two parts of a list to one of which each belongs that passes
pub count-apart : {X : Type 0} (p low high : X → Bool) → ((x : X) → p x ≡ true → high x ≡ not (low x)) → (xs : List X) → count p (filter low xs) + count p (filter high xs) ≡ count p xs
count-apart p low high each [] = refl
count-apart p low high each (x ∷ xs) =
    let rest = count-apart p low high each xs in
    elim (cases_Bool (p x)) [
      | inl passes ↦ elim (cases_Bool (low x)) [
        | inl is_low ↦
            let not_high : high x ≡ false = each x passes ∙ ap not is_low in
            rw (is_low, not_high, passes) (omega (arith, rest))
        | inr is_not ↦
            let is_high : high x ≡ true = each x passes ∙ ap not is_not in
            rw (is_not, is_high, passes) (omega (arith, rest))
      ]
      | inr fails ↦ elim (cases_Bool (low x)) [
        | inl is_low ↦ elim (cases_Bool (high x)) [ inl is_high ↦ rw (is_low, is_high, fails) rest | inr not_high ↦ rw (is_low, not_high, fails) rest ]
        | inr is_not ↦ elim (cases_Bool (high x)) [ inl is_high ↦ rw (is_not, is_high, fails) rest | inr not_high ↦ rw (is_not, not_high, fails) rest ]
      ]
    ]

pub count-map : {X Y : Type 0} (p : X → Bool) (h : Y → X) (passes : Bool) → ((y : Y) → p (h y) ≡ passes) → (ys : List Y) → count p (map h ys) ≡ (if passes then length ys else 0)
count-map p h true each [] = refl
count-map p h true each (y ∷ ys) = rw (each y) (ap suc (count-map p h true each ys))
count-map p h false each [] = refl
count-map p h false each (y ∷ ys) = rw (each y) (count-map p h false each ys)

-- Places.

pub place-same : (p q : Place) → same_place p q ≡ true → p ≡ q
place-same p q same =
    let outer = and_parts (p.endpoint == q.endpoint) (p.cluster == q.cluster && p.leaf == q.leaf) same in
    let inner = and_parts (p.cluster == q.cluster) (p.leaf == q.leaf) outer.1 in
    let endpoint = eqb-true p.endpoint q.endpoint outer.0 in
    let cluster = eqb-true p.cluster q.cluster inner.0 in
    let leaf = eqb-true p.leaf q.leaf inner.1 in
    λ i. record { endpoint = endpoint i; cluster = cluster i; leaf = leaf i }

pub place-itself : (p : Place) → same_place p p ≡ true
place-itself p = grind (arith, common_steps)

pub before-itself : (p : Place) → stands_before p p ≡ false
before-itself p = grind (arith, common_steps)

pub place-other : (p q : Place) → same_place p q ≡ false → same_place q p ≡ false
place-other p q other = grind (arith, common_steps)

pub one-before : (p q : Place) → same_place p q ≡ false → stands_before p q ≡ not (stands_before q p)
one-before p q other = grind (arith, common_steps)

pub or-apart : (b c d x y : Bool) → x ≡ false → y ≡ false → (not b || (x && c)) ≡ not (b || (y && d))
or-apart true c d x y no_x no_y = rw no_x refl
or-apart false c d x y no_x no_y = rw no_y refl

-- Of a scoped list a fabric has no more items than it may.

-- at most those that pass are left
count-left : {X : Type 0} (p keep : X → Bool) (xs : List X) → count p (filter keep xs) ≤ count p xs
count-left p keep [] = omega arith
count-left p keep (x ∷ xs) =
    let rest = count-left p keep xs in
    elim (cases_Bool (keep x)) [
      | inl kept ↦ elim (cases_Bool (p x)) [ inl passes ↦ rw (kept, passes) (omega (arith, rest)) | inr fails ↦ rw (kept, fails) rest ]
      | inr gone ↦ elim (cases_Bool (p x)) [ inl passes ↦ rw (gone, passes) (omega (arith, rest)) | inr fails ↦ rw (gone, fails) rest ]
    ]

-- so are those of two parts of a list that have nothing in common
count-parts : {X : Type 0} (p low high : X → Bool) → ((x : X) → low x ≡ true → high x ≡ false) → (xs : List X) → count p (filter low xs) + count p (filter high xs) ≤ count p xs
count-parts p low high each [] = omega arith
count-parts p low high each (x ∷ xs) =
    let rest = count-parts p low high each xs in
    elim (cases_Bool (low x)) [
      | inl is_low ↦
          let not_high : high x ≡ false = each x is_low in
          elim (cases_Bool (p x)) [ inl passes ↦ rw (is_low, not_high, passes) (omega (arith, rest)) | inr fails ↦ rw (is_low, not_high, fails) rest ]
      | inr not_low ↦ elim (cases_Bool (high x)) [
        | inl is_high ↦ elim (cases_Bool (p x)) [ inl passes ↦ rw (not_low, is_high, passes) (omega (arith, rest)) | inr fails ↦ rw (not_low, is_high, fails) rest ]
        | inr not_high ↦ elim (cases_Bool (p x)) [ inl passes ↦ rw (not_low, not_high, passes) (omega (arith, rest)) | inr fails ↦ rw (not_low, not_high, fails) rest ]
      ]
    ]

-- none of those that pass is left
pub count-without : {X : Type 0} (p keep : X → Bool) → ((x : X) → p x ≡ true → keep x ≡ false) → (xs : List X) → count p (filter keep xs) ≡ 0
count-without p keep each [] = refl
count-without p keep each (x ∷ xs) =
    let rest = count-without p keep each xs in
    elim (cases_Bool (p x)) [
      | inl passes ↦ rw (each x passes) rest
      | inr fails ↦ elim (cases_Bool (keep x)) [ inl kept ↦ rw (kept, fails) rest | inr gone ↦ rw gone rest ]
    ]

pub few-filter : (keep : Row → Bool) (rows : List Row) → ItemsAreFew rows → ItemsAreFew (filter keep rows)
few-filter keep rows few place meta fabric there scoped =
    let most = leb-true (count_by (is_at place fabric) rows) meta.limit (few place meta fabric there scoped) in
    le-leb _ _ (omega (arith, most, counted (is_at place fabric) rows, counted (is_at place fabric) (filter keep rows), count-left (is_at place fabric) keep rows))

before-not : (p q : Place) → stands_before p q ≡ true → stands_before q p ≡ false
before-not p q before = grind (arith, common_steps)

before-other : (p q : Place) → stands_before p q ≡ true → same_place q p ≡ false
before-other p q before = grind (arith, common_steps)

not-below-itself : (n : ℕ) → nat_lt n n ≡ false
not-below-itself n = grind arith

lower-not : (m n : ℕ) → nat_lt m n ≡ true → nat_lt n m ≡ false
lower-not m n lower = grind (arith, lower)

and-none : (b : Bool) → (b && false) ≡ false
and-none true = refl
and-none false = refl

or-none : (a b : Bool) → a ≡ false → b ≡ false → (a || b) ≡ false
or-none true b first second = impossible (sym first)
or-none false b first second = second

module _ (place : Place) (fabric : ℕ) where
  -- what stands below does not stand above
  not_both : (row : Row) → is_below place fabric row ≡ true → is_above place fabric row ≡ false
  not_both row below = elim (or_cases (stands_before row.place place) (same_place row.place place && nat_lt row.fabric fabric) below) [
    | inl before ↦ or-none (stands_before place row.place) (same_place place row.place && nat_lt fabric row.fabric) (before-not row.place place before) (ap (λ b. b && nat_lt fabric row.fabric) (before-other row.place place before))
    | inr lower ↦
        let both = and_parts (same_place row.place place) (nat_lt row.fabric fabric) lower in
        or-none (stands_before place row.place) (same_place place row.place && nat_lt fabric row.fabric)
        (subst (λ (p : Place). stands_before place p ≡ false) (sym (place-same row.place place both.0)) (before-itself place))
        (ap (λ b. same_place place row.place && b) (lower-not row.fabric fabric both.1) ∙ and-none (same_place place row.place))
  ]

  -- what stands there stands neither below nor above

  pub not_below : (row : Row) → is_at place fabric row ≡ true → is_below place fabric row ≡ false
  not_below row at =
      let both = and_parts (same_place row.place place) (row.fabric == fabric) at in
      or-none (stands_before row.place place) (same_place row.place place && nat_lt row.fabric fabric)
      (subst (λ (p : Place). stands_before p place ≡ false) (sym (place-same row.place place both.0)) (before-itself place))
      (ap (λ b. same_place row.place place && b) (subst (λ n. nat_lt n fabric ≡ false) (sym (eqb-true row.fabric fabric both.1)) (not-below-itself fabric)) ∙ and-none (same_place row.place place))

  pub not_above : (row : Row) → is_at place fabric row ≡ true → is_above place fabric row ≡ false
  not_above row at =
      let both = and_parts (same_place row.place place) (row.fabric == fabric) at in
      or-none (stands_before place row.place) (same_place place row.place && nat_lt fabric row.fabric)
      (subst (λ (p : Place). stands_before place p ≡ false) (sym (place-same row.place place both.0)) (before-itself place))
      (ap (λ b. same_place place row.place && b) (subst (λ n. nat_lt fabric n ≡ false) (sym (eqb-true row.fabric fabric both.1)) (not-below-itself fabric)) ∙ and-none (same_place place row.place))

  module _ (values : List Value) (rows : List Row) where
    abbrev set : List Row
    set = with_rows place fabric values rows

    set-count : (q : Place) (f : ℕ) → count (is_at q f) set
        ≡ count (is_at q f) (filter (is_below place fabric) rows) + (count (is_at q f) (map (row_at place fabric) values) + count (is_at q f) (filter (is_above place fabric) rows))
    set-count q f = count-three (is_at q f) (filter (is_below place fabric) rows) (map (row_at place fabric) values) (filter (is_above place fabric) rows)

    count-here : count (is_at place fabric) set ≡ length values
    count-here =
        let below = count-without (is_at place fabric) (is_below place fabric) not_below rows in
        let above = count-without (is_at place fabric) (is_above place fabric) not_above rows in
        let new = count-map (is_at place fabric) (row_at place fabric) true (λ value. and_from _ _ (place-itself place) (eq-eqb fabric fabric refl)) values in
        omega (arith, set-count place fabric, below, above, new)

    count-there : (q : Place) (f : ℕ) → (same_place place q && fabric == f) ≡ false → count (is_at q f) set ≤ count (is_at q f) rows
    count-there q f other =
        let parts = count-parts (is_at q f) (is_below place fabric) (is_above place fabric) not_both rows in
        let new = count-map (is_at q f) (row_at place fabric) false (λ value. other) values in
        omega (arith, set-count q f, parts, new)

    pub few-set : ItemsAreFew rows → ((meta : Meta) → find_data_of place ≡ Ok meta → meta.scoped ≡ true → nat_le (length values) meta.limit ≡ true) → ItemsAreFew set
    few-set few room q meta f there scoped = elim (cases_Bool (same_place place q && fabric == f)) [
      | inl here ↦
          let both = and_parts (same_place place q) (fabric == f) here in
          let same = place-same place q both.0 in
          let most = leb-true (length values) meta.limit (room meta (ap find_data_of same ∙ there) scoped) in
          let its : nat_le (count_by (is_at place fabric) set) meta.limit ≡ true = le-leb _ _ (omega (arith, most, counted (is_at place fabric) set, count-here)) in
          subst (λ (p : Place). nat_le (count_by (is_at p f) set) meta.limit ≡ true) same (subst (λ n. nat_le (count_by (is_at place n) set) meta.limit ≡ true) (eqb-true fabric f both.1) its)
      | inr other ↦
          let most = leb-true (count_by (is_at q f) rows) meta.limit (few q meta f there scoped) in
          le-leb _ _ (omega (arith, most, counted (is_at q f) rows, counted (is_at q f) set, count-there q f other))
    ]

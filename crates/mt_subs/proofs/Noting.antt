-- Changes stay in their order, each place once, as one is noted.
use Rattle.std.proofs.Common.{◌≡◌, ℕ, zero, suc, ◌+◌, ◌<◌, ◌≤◌, ◌==◌, ◌&&◌, ◌++◌, not, nat_le, nat_lt, Bool, true, false, List, [], ◌∷◌, length, take, drop, get_or, filter, Some, None, refl, ap, sym, ◌∙◌, subst, cond, inl, inr, arith, position, add-one, eqb-true, if◌then◌else◌}
use Rattle.std.proofs.lemmas.Bool.{and_from, and_parts, cases_Bool, cond-true, cond-false, le-leb, leb-true, le-ltb, not_from_false}
use Rattle.std.proofs.lemmas.List.Folds.{list_any_at}
use Rattle.std.proofs.lemmas.List.Quantifiers.{position-Some}
use Rattle.mt_meta.specs.Table.{attributes_of, clusters_of, endpoints, extensions_of, globals}
use Rattle.mt_model.specs.rows.Sight.{same_place}
use Rattle.mt_model.specs.declared.node.state.ChangeNumber.{ChangeNumber}
use Rattle.mt_model.specs.declared.rows.place.Place.{Place}
use Rattle.mt_subs.specs.Changes.{IsChanges, are_newest_first, change_at, fall_from, is_among, is_change_of, is_other_change, later, newest_of, noted, stand_once, unchanged}
use Rattle.mt_subs.proofs.Lists.{any_filter, at_most_once, none_left, position-None, taken_out}

abbrev pub nothing : ChangeNumber
nothing = record { place = record { endpoint = 0; cluster = 0; leaf = 0 }; number = 0 }

-- the places of one that is told to be the same
pub same_is : (p q : Place) → same_place p q ≡ true → p ≡ q
same_is p q same =
    let one = and_parts (p.endpoint == q.endpoint) (p.cluster == q.cluster && p.leaf == q.leaf) same in
    let two = and_parts (p.cluster == q.cluster) (p.leaf == q.leaf) one.1 in
    let endpoint = eqb-true p.endpoint q.endpoint one.0 in
    let cluster = eqb-true p.cluster q.cluster two.0 in
    let leaf = eqb-true p.leaf q.leaf two.1 in
    λ i. record { endpoint = endpoint i; cluster = cluster i; leaf = leaf i }

pub once_at : (place : Place) (cs : List ChangeNumber) → stand_once cs ≡ true → at_most_once (is_change_of place) cs ≡ true
once_at place [] once = refl
once_at place (c ∷ cs) once =
    let parts = and_parts (not (is_among c.place cs)) (stand_once cs) once in
    elim (cases_Bool (is_change_of place c)) [
      | inl holds ↦ cond-true (is_change_of place c) (not (is_among place cs)) (at_most_once (is_change_of place) cs) holds ∙ subst (λ (p : Place). not (is_among p cs) ≡ true) (same_is c.place place holds) parts.0
      | inr fails ↦ cond-false (is_change_of place c) (not (is_among place cs)) (at_most_once (is_change_of place) cs) fails ∙ once_at place cs parts.1
    ]

-- Order.

fall_weaken : (a b : ℕ) (cs : List ChangeNumber) → a ≤ b → fall_from a cs ≡ true → fall_from b cs ≡ true
fall_weaken a b [] le fall = refl
fall_weaken a b (c ∷ cs) le fall =
    let parts = and_parts (nat_le c.number a) (fall_from c.number cs) fall in
    let low : c.number ≤ a = leb-true c.number a parts.0 in
    and_from _ _ (le-leb c.number b (omega (arith, low, le))) parts.1

fall_filter : (p : ChangeNumber → Bool) (n : ℕ) (cs : List ChangeNumber) → fall_from n cs ≡ true → fall_from n (filter p cs) ≡ true
fall_filter p n [] fall = refl
fall_filter p n (c ∷ cs) fall =
    let parts = and_parts (nat_le c.number n) (fall_from c.number cs) fall in
    let low : c.number ≤ n = leb-true c.number n parts.0 in
    elim (p c) as (λ b. fall_from n (cond b (c ∷ filter p cs) (filter p cs)) ≡ true) [
      | true ↦ and_from _ _ parts.0 (fall_filter p c.number cs parts.1)
      | false ↦ fall_weaken c.number n (filter p cs) low (fall_filter p c.number cs parts.1)
    ]

fall_newest : (n : ℕ) (cs : List ChangeNumber) → newest_of cs ≤ n → are_newest_first cs ≡ true → fall_from n cs ≡ true
fall_newest n [] le first = refl
fall_newest n (c ∷ cs) le first = and_from _ _ (le-leb c.number n le) first

once_filter : (p : ChangeNumber → Bool) (cs : List ChangeNumber) → stand_once cs ≡ true → stand_once (filter p cs) ≡ true
once_filter p [] once = refl
once_filter p (c ∷ cs) once =
    let parts = and_parts (not (is_among c.place cs)) (stand_once cs) once in
    elim (p c) as (λ b. stand_once (cond b (c ∷ filter p cs) (filter p cs)) ≡ true) [
      | true ↦ and_from _ _ (not_from_false _ (any_filter (is_change_of c.place) p cs (unused c cs parts.0))) (once_filter p cs parts.1)
      | false ↦ once_filter p cs parts.1
    ]
  where
    unused : (c : ChangeNumber) (cs : List ChangeNumber) → not (is_among c.place cs) ≡ true → is_among c.place cs ≡ false
    unused c cs h = elim (cases_Bool (is_among c.place cs)) [ inl holds ↦ absurd (let e : not (is_among c.place cs) ≡ false = ap not holds in cc (e, h)) | inr fails ↦ fails ]

pub noted_front : (place : Place) (number : ℕ) (cs : List ChangeNumber) → newest_of cs ≤ number → IsChanges cs → IsChanges (change_at place number ∷ filter (is_other_change place) cs)
noted_front place number cs le is = record {
  newest_first = fall_filter (is_other_change place) number cs (fall_newest number cs le is.newest_first);
  once = and_from _ _ (not_from_false _ (none_left (is_change_of place) cs)) (once_filter (is_other_change place) cs is.once);
}

pub noted_stays : (place : Place) (number : ℕ) (cs : List ChangeNumber) → IsChanges cs → newest_of cs ≤ number → IsChanges (noted place number cs)
noted_stays place number cs is le = elim (is_among place cs) as (λ b. IsChanges (if b then change_at place number ∷ filter (is_other_change place) cs else cs)) [ true ↦ noted_front place number cs le is | false ↦ is ]

-- The change at a place of the list comes to its front.
pub moved : (place : Place) (number : ℕ) (cs new : List ChangeNumber) (at : ℕ) → IsChanges cs → position (is_change_of place) cs ≡ Some at
    → ((d : ChangeNumber) → new ≡ change_at (get_or cs at d).place number ∷ (take at cs ++ drop (at + 1) cs))
    → new ≡ noted place number cs
moved place number cs new at is there to_front =
    let found = position-Some (is_change_of place) cs at nothing there in
    let named : (get_or cs at nothing).place ≡ place = same_is (get_or cs at nothing).place place found.1 in
    let out : take at cs ++ drop (suc at) cs ≡ filter (is_other_change place) cs = taken_out (is_change_of place) cs at nothing found.0 found.1 (once_at place cs is.once) in
    let behind : take at cs ++ drop (at + 1) cs ≡ filter (is_other_change place) cs = rw add-one out in
    let among : is_among place cs ≡ true = list_any_at (is_change_of place) cs at nothing found.0 found.1 in
    to_front nothing
    ∙ (λ i. change_at (named i) number ∷ behind i)
    ∙ sym (cond-true (is_among place cs) (change_at place number ∷ filter (is_other_change place) cs) cs among)

pub among_at : (place : Place) (cs : List ChangeNumber) (at : ℕ) → position (is_change_of place) cs ≡ Some at → true ≡ is_among place cs
among_at place cs at there = let found = position-Some (is_change_of place) cs at nothing there in sym (list_any_at (is_change_of place) cs at nothing found.0 found.1)

pub not_among : (place : Place) (cs : List ChangeNumber) → position (is_change_of place) cs ≡ None → is_among place cs ≡ false
not_among place cs = position-None (is_change_of place) cs

pub not_noted : (place : Place) (number : ℕ) (cs : List ChangeNumber) → position (is_change_of place) cs ≡ None → cs ≡ noted place number cs
not_noted place number cs there = sym (cond-false (is_among place cs) (change_at place number ∷ filter (is_other_change place) cs) cs (not_among place cs there))

-- Those that are later stand in front.

none_later : (n m : ℕ) (cs : List ChangeNumber) → m ≤ n → fall_from m cs ≡ true → later n cs ≡ []
none_later n m [] le fall = refl
none_later n m (c ∷ cs) le fall =
    let parts = and_parts (nat_le c.number m) (fall_from c.number cs) fall in
    let low : c.number ≤ m = leb-true c.number m parts.0 in
    let lower : c.number ≤ n = omega (arith, low, le) in
    cond-false (nat_lt n c.number) (c ∷ later n cs) (later n cs) (le-ltb n c.number lower) ∙ none_later n c.number cs lower parts.1

none_later_from : (n m : ℕ) (cs : List ChangeNumber) (i : ℕ) (d : ChangeNumber) → fall_from m cs ≡ true → i < length cs → (get_or cs i d).number ≤ n → later n (drop i cs) ≡ []
none_later_from n m [] i d fall lt low = absurd (omega arith)
none_later_from n m (c ∷ cs) zero d fall lt low =
    let parts = and_parts (nat_le c.number m) (fall_from c.number cs) fall in
    cond-false (nat_lt n c.number) (c ∷ later n cs) (later n cs) (le-ltb n c.number low) ∙ none_later n c.number cs low parts.1
none_later_from n m (c ∷ cs) (suc i) d fall lt low =
    let parts = and_parts (nat_le c.number m) (fall_from c.number cs) fall in
    none_later_from n c.number cs i d parts.1 (omega arith) low

pub stops_at : (n : ℕ) (cs : List ChangeNumber) (i : ℕ) (d : ChangeNumber) → are_newest_first cs ≡ true → i < length cs → (get_or cs i d).number ≤ n → later n (drop i cs) ≡ []
stops_at n [] i d first lt low = absurd (omega arith)
stops_at n (c ∷ cs) i d first lt low = none_later_from n c.number (c ∷ cs) i d (and_from _ _ (le-leb c.number c.number (omega arith)) first) lt low

-- The places of the table ascend, so that each stands once.
pub unchanged_is : IsChanges unchanged
unfolding endpoints clusters_of attributes_of globals extensions_of
unchanged_is = record { newest_first = refl; once = refl }

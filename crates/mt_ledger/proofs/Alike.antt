-- Subscriptions that are alike for a fabric: it has the same ones, and the same next id. What is done to both leaves them alike; what is
-- done for another fabric leaves its own as they were.
use Rattle.std.proofs.Common.{◌≡◌, ℕ, ◌+◌, ◌==◌, ◌&&◌, not, nat_le, if◌then◌else◌, Bool, true, false, List, [], ◌∷◌, ◌++◌, length, get_or, slice_set, count_by, filter, find, map, Option, option_map, refl, ap, sym, ◌∙◌, subst, inl, inr, arith, eqb-true}
use Rattle.std.specs.List.{list_any}
use Rattle.std.proofs.lemmas.Bool.{and_left, and_parts, cases_lt, ne_eqb, not_from_false}
use Rattle.std.proofs.lemmas.List.{append-nil, get_or-set_other, get_or-set_same, get_or_past, length-set}
use Rattle.mt_subs.specs.Leaving.{is_by_another, is_none_of, staying, without_ids, without_node}
use Rattle.mt_subs.specs.Subscriptions.{IsSubs, added, begun, changed, changed_at, first_ids, is_full, is_named, is_of, kept_at, next_id}
use Rattle.mt_subs.specs.declared.subscription.Kept.{Kept}
use Rattle.mt_subs.specs.declared.subscription.Sub.{Sub}
use Rattle.mt_subs.specs.declared.subscription.SubState.{SubState}
use Rattle.mt_subs.specs.declared.subscription.Subscription.{Subscription}
use Rattle.mt_ledger.proofs.Filters.{agree, count_within, dropped, filter-append, filter-map, find_within, swapped, unmoved, within}
use Rattle.mt_ledger.specs.Isolation.{seen_subs}

pub record Alike (fabric : ℕ) (a b : SubState) : Type 0 where
  pub mine : filter (is_of fabric) a.subscriptions ≡ filter (is_of fabric) b.subscriptions
  pub next : next_id fabric a ≡ next_id fabric b
  pub many : length a.next_ids ≡ length b.next_ids

pub same_alike : (fabric : ℕ) (a : SubState) → Alike fabric a a
same_alike fabric a = record { mine = refl; next = refl; many = refl }

pub then_alike : (fabric : ℕ) (a b c : SubState) → Alike fabric a b → Alike fabric b c → Alike fabric a c
then_alike fabric a b c first second = record { mine = first.mine ∙ second.mine; next = first.next ∙ second.next; many = first.many ∙ second.many }

-- where the same is chosen, alike is
pub chosen_alike : (fabric : ℕ) (first second : Bool) (a b c d : SubState) → first ≡ second → Alike fabric a b → Alike fabric c d → Alike fabric (if first then a else c) (if second then b else d)
chosen_alike fabric first second a b c d same one other =
    subst (λ (chosen : Bool). Alike fabric (if first then a else c) (if chosen then b else d)) same
    (elim first as (λ (chosen : Bool). Alike fabric (if chosen then a else c) (if chosen then b else d)) [ true ↦ one | false ↦ other ])

-- What is asked of one fabric's.

its : (x : Bool) → x ≡ true → x ≡ true
its x is = is

named_own : (fabric id : ℕ) (x : Subscription) → is_named fabric id x ≡ true → is_of fabric x ≡ true
named_own fabric id x named = (and_parts (x.fabric == fabric) (x.id == id) named).0

pub kept_of_own : (fabric id : ℕ) (xs : List Subscription) → find (is_named fabric id) (filter (is_of fabric) xs) ≡ find (is_named fabric id) xs
kept_of_own fabric id xs = find_within (is_named fabric id) (is_of fabric) (λ x. named_own fabric id x) xs

pub kept_alike : (fabric id : ℕ) (a b : SubState) → Alike fabric a b → kept_at fabric id a ≡ kept_at fabric id b
kept_alike fabric id a b alike =
    ap (λ (found : Option Subscription). option_map (λ (s : Subscription). s.kept) found)
    (sym (kept_of_own fabric id a.subscriptions) ∙ ap (λ (l : List Subscription). find (is_named fabric id) l) alike.mine ∙ kept_of_own fabric id b.subscriptions)

count_of_own : (fabric : ℕ) (xs : List Subscription) → count_by (is_of fabric) (filter (is_of fabric) xs) ≡ count_by (is_of fabric) xs
count_of_own fabric xs = count_within (is_of fabric) (is_of fabric) (λ x. its (is_of fabric x)) xs

pub full_alike : (fabric : ℕ) (a b : SubState) → Alike fabric a b → is_full fabric a ≡ is_full fabric b
full_alike fabric a b alike =
    ap (λ (n : ℕ). nat_le 3 n)
    (sym (count_of_own fabric a.subscriptions) ∙ ap (λ (l : List Subscription). count_by (is_of fabric) l) alike.mine ∙ count_of_own fabric b.subscriptions)

-- What is done to both.

pub staying_alike : (fabric : ℕ) (stays others : Subscription → Bool) (a b : SubState) → ((x : Subscription) → is_of fabric x ≡ true → stays x ≡ others x) → Alike fabric a b → Alike fabric (staying stays a) (staying others b)
staying_alike fabric stays others a b same alike = record {
  mine =
      swapped (is_of fabric) stays a.subscriptions
      ∙ agree (is_of fabric) stays others same a.subscriptions
      ∙ ap (λ (l : List Subscription). filter others l) alike.mine
      ∙ sym (swapped (is_of fabric) others b.subscriptions);
  next = alike.next;
  many = alike.many;
}

same_fabric : (fabric other id : ℕ) (change : Kept → Kept) (x : Subscription) → is_of fabric (changed_at other id change x) ≡ is_of fabric x
same_fabric fabric other id change x = elim (is_named other id x) as (λ (b : Bool). is_of fabric (if b then record x { kept = change x.kept } else x) ≡ is_of fabric x) [ true ↦ refl | false ↦ refl ]

pub changed_alike : (fabric other id again : ℕ) (change changing : Kept → Kept) (a b : SubState) → id ≡ again → change ≡ changing → Alike fabric a b → Alike fabric (changed other id change a) (changed other again changing b)
changed_alike fabric other id again change changing a b ids changes alike = record {
  mine =
      filter-map (is_of fabric) (changed_at other id change) (same_fabric fabric other id change) a.subscriptions
      ∙ (λ i. map (changed_at other (ids i) (changes i)) (alike.mine i))
      ∙ sym (filter-map (is_of fabric) (changed_at other again changing) (same_fabric fabric other again changing) b.subscriptions);
  next = alike.next;
  many = alike.many;
}

-- the next id, where it is set
next_set : (fabric value : ℕ) (ids others : List ℕ) → length ids ≡ length others → get_or (slice_set ids fabric value) fabric 0 ≡ get_or (slice_set others fabric value) fabric 0
next_set fabric value ids others many = elim (cases_lt fabric (length ids)) [
  | inl in_it ↦ get_or-set_same ids fabric value 0 in_it ∙ sym (get_or-set_same others fabric value 0 (omega (arith, in_it, many)))
  | inr past ↦
      get_or_past (slice_set ids fabric value) fabric 0 (omega (arith, past, length-set ids fabric value))
      ∙ sym (get_or_past (slice_set others fabric value) fabric 0 (omega (arith, past, many, length-set others fabric value)))
]

pub added_alike : (fabric : ℕ) (sub : Sub) (a b : SubState) → Alike fabric a b → Alike fabric (added fabric sub a) (added fabric sub b)
added_alike fabric sub a b alike =
    let one : ℕ → Subscription = λ id. record { fabric = fabric; id = id; kept = begun sub } in
    record {
      mine =
          filter-append (is_of fabric) a.subscriptions (one (next_id fabric a) ∷ [])
          ∙ (λ i. alike.mine i ++ filter (is_of fabric) (one (alike.next i) ∷ []))
          ∙ sym (filter-append (is_of fabric) b.subscriptions (one (next_id fabric b) ∷ []));
      next =
          ap (λ (n : ℕ). get_or (slice_set a.next_ids fabric (n + 1)) fabric 0) alike.next
          ∙ next_set fabric (next_id fabric b + 1) a.next_ids b.next_ids alike.many;
      many = length-set a.next_ids fabric (next_id fabric a + 1) ∙ alike.many ∙ sym (length-set b.next_ids fabric (next_id fabric b + 1));
    }

-- What is done for another fabric.

not_other : (fabric other : ℕ) → (fabric ≡ other → ⊥) → (x : Subscription) → is_of fabric x ≡ true → is_of other x ≡ false
not_other fabric other apart x own = ne_eqb x.fabric other (λ same. apart (sym (eqb-true x.fabric fabric own) ∙ same))

pub staying_apart : (fabric : ℕ) (stays : Subscription → Bool) (a : SubState) → ((x : Subscription) → is_of fabric x ≡ true → stays x ≡ true) → Alike fabric (staying stays a) a
staying_apart fabric stays a all = record { mine = within (is_of fabric) stays all a.subscriptions; next = refl; many = refl }

pub node_apart : (fabric other node : ℕ) (a : SubState) → (fabric ≡ other → ⊥) → Alike fabric (without_node other node a) a
node_apart fabric other node a apart =
    staying_apart fabric (is_by_another other node) a
    (λ x own. not_from_false (is_of other x && x.kept.sub.actor.node == node) (and_left (is_of other x) (x.kept.sub.actor.node == node) (not_other fabric other apart x own)))

pub ids_apart : (fabric other : ℕ) (ids : List ℕ) (a : SubState) → (fabric ≡ other → ⊥) → Alike fabric (without_ids other ids a) a
ids_apart fabric other ids a apart = staying_apart fabric (is_none_of other ids) a (λ x own. ap (λ (b : Bool). not (b && list_any (λ (id : ℕ). id == x.id) ids)) (not_other fabric other apart x own))

pub changed_apart : (fabric other id : ℕ) (change : Kept → Kept) (a : SubState) → (fabric ≡ other → ⊥) → Alike fabric (changed other id change a) a
changed_apart fabric other id change a apart = record {
  mine = filter-map (is_of fabric) (changed_at other id change) (same_fabric fabric other id change) a.subscriptions ∙ unmoved (is_of fabric) (changed_at other id change) still a.subscriptions;
  next = refl;
  many = refl;
}
  where
    still : (x : Subscription) → is_of fabric x ≡ true → changed_at other id change x ≡ x
    still x own = ap (λ (b : Bool). if b && x.id == id then record x { kept = change x.kept } else x) (not_other fabric other apart x own)

pub added_apart : (fabric other : ℕ) (sub : Sub) (a : SubState) → (fabric ≡ other → ⊥) → Alike fabric (added other sub a) a
added_apart fabric other sub a apart =
    let one : Subscription = record { fabric = other; id = next_id other a; kept = begun sub } in
    record {
      mine =
          filter-append (is_of fabric) a.subscriptions (one ∷ [])
          ∙ ap (λ (l : List Subscription). filter (is_of fabric) a.subscriptions ++ l) (dropped (is_of fabric) one [] (ne_eqb other fabric (λ same. apart (sym same))))
          ∙ append-nil (filter (is_of fabric) a.subscriptions);
      next = get_or-set_other a.next_ids other fabric (next_id other a + 1) 0 apart;
      many = length-set a.next_ids other (next_id other a + 1);
    }

-- The veil has the fabric's alike.
pub veiled_alike : (fabric : ℕ) (a : SubState) → length first_ids ≡ 256 → IsSubs a → Alike fabric (seen_subs fabric (filter (is_of fabric) a.subscriptions) (next_id fabric a)) a
veiled_alike fabric a first is = record {
  mine = within (is_of fabric) (is_of fabric) (λ x. its (is_of fabric x)) a.subscriptions;
  next = elim (cases_lt fabric 256) [
    | inl in_it ↦ get_or-set_same first_ids fabric (next_id fabric a) 0 (omega (arith, in_it, first))
    | inr past ↦
        get_or_past (slice_set first_ids fabric (next_id fabric a)) fabric 0 (omega (arith, past, first, length-set first_ids fabric (next_id fabric a)))
        ∙ sym (get_or_past a.next_ids fabric 0 (omega (arith, past, is.indexed)))
  ];
  many = length-set first_ids fabric (next_id fabric a) ∙ first ∙ sym is.indexed;
}

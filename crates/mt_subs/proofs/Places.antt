-- A subscription at its place, where the ids of each fabric ascend.
use Rattle.std.proofs.Common.{◌≡◌, ℕ, ◌<◌, ◌==◌, nat_lt, not, true, false, List, [], ◌∷◌, length, get_or, Option, Some, None, refl, sym, ◌∙◌, inl, inr, arith, position, eq-eqb, eqb-true}
use Rattle.std.specs.List.{list_all, list_any}
use Rattle.std.proofs.lemmas.Bool.{and_parts, cases_Bool, cond-true, cond-false, le-ltb, not_from_false, not_from_true, or_from, true≢false}
use Rattle.std.proofs.lemmas.List.Folds.{list_any_at}
use Rattle.std.proofs.lemmas.List.Quantifiers.{position-Some}
use Rattle.mt_model.specs.declared.tables.access.Auth.TheVariants.{Pase}
use Rattle.mt_subs.specs.declared.subscription.Subscription.{Subscription}
use Rattle.mt_subs.specs.Places.{IsPlace}
use Rattle.mt_subs.specs.Subscriptions.{ids_ascend, is_named, may_come_after}
use Rattle.mt_subs.proofs.Lists.{at_most_once, changed_there, taken_out, position-None}

-- a subscription for reads past the end
pub nobody : Subscription
nobody = record { fabric = 0; id = 0; kept = record { sub = record { actor = record { fabric = 0; auth = Pase; node = 0; cats = []; session = None }; paths = []; events = []; filtered = false; floor = 0; ceiling = 0 }; primed = false; live = false; time = 0; change = 0; event = 0 } }

module _ (fabric id : ℕ) where
  pub names : (s : Subscription) → is_named fabric id s ≡ true → (s.fabric ≡ fabric) × (s.id ≡ id)
  names s holds = let parts = and_parts (s.fabric == fabric) (s.id == id) holds in (eqb-true s.fabric fabric parts.0, eqb-true s.id id parts.1)

  -- two that both are named don't follow one another
  apart : (s t : Subscription) → is_named fabric id s ≡ true → may_come_after s t ≡ true → is_named fabric id t ≡ false
  apart s t holds after = elim (cases_Bool (is_named fabric id t)) [
    | inr fails ↦ fails
    | inl too ↦
        let one = names s holds in
        let two = names t too in
        let same : not (s.fabric == t.fabric) ≡ false = not_from_true _ (eq-eqb s.fabric t.fabric (one.0 ∙ sym two.0)) in
        let low : nat_lt s.id t.id ≡ false = le-ltb s.id t.id (omega (arith, one.1, two.1)) in
        absurd (true≢false (sym after ∙ or_from _ _ same low))
  ]

  none_behind : (s : Subscription) (ss : List Subscription) → is_named fabric id s ≡ true → list_all (may_come_after s) ss ≡ true → list_any (is_named fabric id) ss ≡ false
  none_behind s [] holds after = refl
  none_behind s (t ∷ ts) holds after =
      let parts = and_parts (may_come_after s t) (list_all (may_come_after s) ts) after in
      or_from _ _ (apart s t holds parts.0) (none_behind s ts holds parts.1)

  pub named_once : (ss : List Subscription) → ids_ascend ss ≡ true → at_most_once (is_named fabric id) ss ≡ true
  named_once [] up = refl
  named_once (s ∷ ss) up =
      let parts = and_parts (list_all (may_come_after s) ss) (ids_ascend ss) up in
      elim (cases_Bool (is_named fabric id s)) [
        | inl holds ↦ cond-true (is_named fabric id s) (not (list_any (is_named fabric id) ss)) (at_most_once (is_named fabric id) ss) holds ∙ not_from_false _ (none_behind s ss holds parts.0)
        | inr fails ↦ cond-false (is_named fabric id s) (not (list_any (is_named fabric id) ss)) (at_most_once (is_named fabric id) ss) fails ∙ named_once ss parts.1
      ]

  pub is_place : (ss : List Subscription) (place : Option ℕ) → ids_ascend ss ≡ true → place ≡ position (is_named fabric id) ss → IsPlace fabric id ss place
  is_place ss None up is = position-None (is_named fabric id) ss (sym is)
  is_place ss (Some place) up is = record {
    within = (found nobody).0;
    used = list_any_at (is_named fabric id) ss place nobody (found nobody).0 (found nobody).1;
    changes = λ change d. changed_there (is_named fabric id) (λ (s : Subscription). record s { kept = change s.kept }) ss place d (found d).0 (found d).1 (named_once ss up);
    removes = taken_out (is_named fabric id) ss place nobody (found nobody).0 (found nobody).1 (named_once ss up);
  }
    where
      found : (d : Subscription) → (place < length ss) × (is_named fabric id (get_or ss place d) ≡ true)
      found d = let there = position-Some (is_named fabric id) ss place d (sym is) in (there.0, there.1)

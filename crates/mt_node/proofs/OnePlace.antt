-- What passes a test that no place but one can pass, among places that ascend.
use Rattle.std.proofs.Common.{◌≡◌, ◌==◌, inl, inr, Bool, true, false, List, [], ◌∷◌, refl, ap, ◌∙◌, arith, filter}
use Rattle.std.specs.List.{list_all, list_any}
use Rattle.std.proofs.lemmas.Bool.{and_left, and_parts, and_right, cases_Bool, eqb-true, or_parts}
use Rattle.std.proofs.lemmas.Grind.{common_steps}
use Rattle.mt_model.specs.rows.Order.{stands_before}
use Rattle.mt_model.specs.rows.Sight.{is_acl, same_place}
use Rattle.mt_model.specs.declared.node.action.NodeStep.{NodeStep}
use Rattle.mt_model.specs.declared.node.action.NodeStep.TheVariants.{SetRow, SetEntries, PutNetwork, RemoveNetwork, ConnectNetwork, MoveNetwork, Arm, Renew, Expire, Complete, AddRoot, Csr, AddFabric, UpdateFabric, RemoveFabric, Label, Emit}
use Rattle.mt_model.specs.declared.node.state.NodeState.{NodeState}
use Rattle.mt_model.specs.declared.rows.place.Place.{Place}
use Rattle.mt_model.specs.declared.rows.place.Row.{Row}
use Rattle.mt_meta.specs.Places.{ascend, ascend_from, is_at}
use Rattle.mt_meta.specs.Stored.{is_stored}
use Rattle.mt_node.specs.Differences.{differs_with, sets_none_beside, sets_other_rows}

place_of : (p q : Place) → same_place p q ≡ true → p ≡ q
place_of p q e =
    let one = and_parts (p.endpoint == q.endpoint) _ e in
    let two = and_parts (p.cluster == q.cluster) _ one.1 in
    λ i. record { endpoint = eqb-true _ _ one.0 i; cluster = eqb-true _ _ two.0 i; leaf = eqb-true _ _ two.1 i }

other_too : (at place q : Place) → same_place at place ≡ true → same_place q place ≡ false → same_place at q ≡ false
other_too at place q is other = grind (arith, common_steps)

not_before_itself : (p q : Place) → same_place p q ≡ true → stands_before p q ≡ false
not_before_itself p q same = grind (arith, common_steps)

other_behind : (q p place : Place) → stands_before q place ≡ false → stands_before q p ≡ true → same_place p place ≡ false
other_behind q p place past before = grind (arith, common_steps)

past_behind : (q p place : Place) → stands_before q place ≡ false → stands_before q p ≡ true → stands_before p place ≡ false
past_behind q p place past before = grind (arith, common_steps)

rest_ascends : (p : Place) (places : List Place) → ascend (p ∷ places) ≡ true → ascend places ≡ true
rest_ascends p [] up = refl
rest_ascends p (q ∷ places) up = (and_parts (stands_before p q) (ascend_from q places) up).1

module _ (test : Place → Bool) (place : Place) (elsewhere : (p : Place) → same_place p place ≡ false → test p ≡ false) where
  pub none_passes : test place ≡ false → (places : List Place) → filter test places ≡ []
  none_passes fails [] = refl
  none_passes fails (p ∷ places) = elim (cases_Bool (same_place p place)) [
    | inl same ↦ rw (ap test (place_of p place same) ∙ fails) (none_passes fails places)
    | inr other ↦ rw (elsewhere p other) (none_passes fails places)
  ]

  pub none_is_there : (places : List Place) → list_any (is_at place) places ≡ false → filter test places ≡ []
  none_is_there [] absent = refl
  none_is_there (p ∷ places) absent =
      let both = or_parts (same_place p place) (list_any (is_at place) places) absent in
      rw (elsewhere p both.0) (none_is_there places both.1)

  -- behind a place that does not stand before it
  none_behind : (q : Place) (places : List Place) → stands_before q place ≡ false → ascend_from q places ≡ true → filter test places ≡ []
  none_behind q [] past up = refl
  none_behind q (p ∷ places) past up =
      let both = and_parts (stands_before q p) (ascend_from p places) up in
      rw (elsewhere p (other_behind q p place past both.0)) (none_behind p places (past_behind q p place past both.0) both.1)

  pub one_is_there : test place ≡ true → (places : List Place) → ascend places ≡ true → list_any (is_at place) places ≡ true → filter test places ≡ place ∷ []
  one_is_there passes [] up there = absurd (cc)
  one_is_there passes (p ∷ places) up there = elim (cases_Bool (same_place p place)) [
    | inl same ↦
        rw (ap test (place_of p place same) ∙ passes)
        (λ i. place_of p place same i ∷ none_behind p places (not_before_itself p place same) up i)
    | inr other ↦ rw (elsewhere p other) (one_is_there passes places (rest_ascends p places up) (rw other at there))
  ]

-- Steps that set rows at one place alone set none elsewhere.

sets_none : (rows : List Row) (steps : List NodeStep) (place q : Place) → same_place q place ≡ false → (step : NodeStep) → sets_none_beside place step ≡ true → sets_other_rows rows steps q step ≡ false
sets_none rows steps place q other (SetRow at fabric values) beside = and_left _ _ (other_too at place q beside other)
sets_none rows steps place q other (SetEntries fabric new) beside = refl
sets_none rows steps place q other (PutNetwork id secret) beside = refl
sets_none rows steps place q other (RemoveNetwork id) beside = refl
sets_none rows steps place q other (ConnectNetwork id) beside = refl
sets_none rows steps place q other (MoveNetwork id index) beside = refl
sets_none rows steps place q other (Arm owner seconds) beside = refl
sets_none rows steps place q other (Renew seconds) beside = refl
sets_none rows steps place q other Expire beside = refl
sets_none rows steps place q other Complete beside = refl
sets_none rows steps place q other (AddRoot cert) beside = refl
sets_none rows steps place q other (Csr nonce update) beside = refl
sets_none rows steps place q other (AddFabric fabric) beside = refl
sets_none rows steps place q other (UpdateFabric index credentials) beside = refl
sets_none rows steps place q other (RemoveFabric index) beside = refl
sets_none rows steps place q other (Label index label) beside = refl
sets_none rows steps place q other (Emit at priority fabric value) beside = refl

none_sets : (rows : List Row) (all : List NodeStep) (place q : Place) → same_place q place ≡ false → (steps : List NodeStep) → list_all (sets_none_beside place) steps ≡ true → list_any (sets_other_rows rows all q) steps ≡ false
none_sets rows all place q other [] beside = refl
none_sets rows all place q other (step ∷ steps) beside =
    let both = and_parts (sets_none_beside place step) (list_all (sets_none_beside place) steps) beside in
    rw (sets_none rows all place q other step both.0) (none_sets rows all place q other steps both.1)

pub same_elsewhere : (s : NodeState) (steps : List NodeStep) (place : Place) → list_all (sets_none_beside place) steps ≡ true → (q : Place) → same_place q place ≡ false → differs_with s steps false q ≡ false
same_elsewhere s steps place beside q other = elim (cases_Bool (is_stored q)) [
  | inl stored ↦ rw stored (none_sets s.rows steps place q other steps beside)
  | inr computed ↦ rw computed (and_right (is_acl q) false refl)
]

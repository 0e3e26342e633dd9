-- Rows that are computed of no table are the same whatever the tables are.
use Rattle.std.proofs.Common.{◌≡◌, ℕ, ◌==◌, inl, inr, nat_lt, true, false, not, refl, ap, ◌∙◌, arith}
use Rattle.std.proofs.lemmas.Bool.{cases_Bool, eqb-true}
use Rattle.std.proofs.lemmas.Bool.Decides.{nat_tests}
use Rattle.mt_model.specs.declared.node.state.NodeState.{NodeState}
use Rattle.mt_model.specs.declared.rows.place.Place.{Place}
use Rattle.mt_apps.specs.Computed.{computed_rows}
use Rattle.mt_apps.specs.Parts.{Parts}
use Rattle.mt_meta.specs.Stored.{is_stored}
use Rattle.mt_machine.specs.Changes.{differs}
use Rattle.mt_machine.specs.State.{parts}
use Rattle.mt_node.specs.Differences.{is_of_tables}
use Rattle.mt_node.proofs.Same.{ToldSame, same_rows}

-- it is another number where it is this one
is_not : (n one other : ℕ) → (n == one) ≡ true → (one == other) ≡ false → (n == other) ≡ false
is_not n one other is apart = ap (λ (m : ℕ). m == other) (eqb-true n one is) ∙ apart

is_above : (n k : ℕ) → nat_lt k 5 ≡ true → nat_lt n 5 ≡ false → (n == k) ≡ false
is_above n k low high = grind (arith, nat_tests)

module _ (p q : Parts) (place : Place) where
  abbrev Alike : Type 0
  Alike = computed_rows p place ≡ computed_rows q place

  of_credentials : (place.cluster == 0x1f) ≡ false → (place.cluster == 0x31) ≡ false → (place.cluster == 0x3e) ≡ true → nat_lt place.leaf 5 ≡ false → Alike
  unfolding computed_rows
  of_credentials no_access no_network credentials high =
      rw (no_access, no_network, credentials, is_above place.leaf 0 refl high, is_above place.leaf 1 refl high, is_above place.leaf 3 refl high, is_above place.leaf 4 refl high) refl

  of_others : (place.cluster == 0x1f) ≡ false → (place.cluster == 0x31) ≡ false → (place.cluster == 0x3e) ≡ false → Alike
  unfolding computed_rows
  of_others no_access no_network no_credentials = rw (no_access, no_network, no_credentials) refl

  of_network : (place.cluster == 0x31) ≡ true → (place.leaf == 1) ≡ false → Alike
  unfolding computed_rows
  of_network network other = rw (is_not place.cluster 0x31 0x1f network refl, is_not place.cluster 0x31 0x3e network refl, network, other) refl

  of_access : (place.cluster == 0x1f) ≡ true → (place.leaf == 0) ≡ false → Alike
  unfolding computed_rows
  of_access access other = rw (is_not place.cluster 0x1f 0x3e access refl, access, other) refl

  alike : is_of_tables place ≡ false → Alike
  alike none = elim (cases_Bool (place.cluster == 0x1f)) [
    | inl access ↦ of_access access (rw access at none)
    | inr no_access ↦ elim (cases_Bool (place.cluster == 0x31)) [
      | inl network ↦ of_network network (rw (no_access, network) at none)
      | inr no_network ↦ elim (cases_Bool (place.cluster == 0x3e)) [
        | inl credentials ↦ of_credentials no_access no_network credentials (rw (no_access, no_network, credentials) at none)
        | inr no_credentials ↦ of_others no_access no_network no_credentials
      ]
    ]
  ]

-- such an attribute differs between no two states
pub never_differs : ToldSame → (s t : NodeState) (place : Place) → is_stored place ≡ false → is_of_tables place ≡ false → differs s t place ≡ false
never_differs told s t place computed none =
    rw computed (ap not (same_rows told (computed_rows (parts s) place) (computed_rows (parts t) place) (alike (parts s) (parts t) place none)))

-- What joining makes of a state, as it is made: the table first, then what follows.
use Rattle.std.proofs.Common.{◌≡◌, ℕ, true, false, inl, inr, List, Option, None, Some, is_none, map, option_map, refl, ◌∙◌}
use Rattle.std.proofs.lemmas.Bool.{and_from, cases_Bool}
use Rattle.mt_fabrics.specs.Table.{add_refusal, added, least_unused}
use Rattle.mt_failsafe.specs.Notes.{may_note_added, with_added}
use Rattle.mt_model.specs.declared.node.state.NodeState.{NodeState}
use Rattle.mt_model.specs.declared.tables.access.Actor.{Actor}
use Rattle.mt_model.specs.declared.tables.fabric.Fabric.{Fabric}
use Rattle.mt_machine.specs.Effects.{is_pase, joined, joined_as, may_join, plain_joined, session_joined}
use Rattle.mt_steps.specs.Table.{index_for, with_joined}

joins : (asking : Option Actor) (fabric : Fabric) (s : NodeState) → may_join fabric s ≡ true → joined_as asking (least_unused s.fabrics) fabric s ≡ joined asking fabric s
joins asking fabric s may = rw may refl

joins_not : (asking : Option Actor) (fabric : Fabric) (s : NodeState) → may_join fabric s ≡ false → s ≡ joined asking fabric s
joins_not asking fabric s may = rw may refl

index_there : (fabric : Fabric) (fabrics : List Fabric) → is_none (add_refusal fabric fabrics) ≡ true → index_for fabric fabrics ≡ Some (least_unused fabrics)
index_there fabric fabrics free = rw free refl

index_missing : (fabric : Fabric) (fabrics : List Fabric) → is_none (add_refusal fabric fabrics) ≡ false → index_for fabric fabrics ≡ None
index_missing fabric fabrics refused = rw refused refl

table_there : (fabric : Fabric) (fabrics : List Fabric) → is_none (add_refusal fabric fabrics) ≡ true → with_joined fabric fabrics ≡ added fabric fabrics
table_there fabric fabrics free = rw free refl

-- the table took the fabric under this index
pub joined_under : (asking : Option Actor) (fabric copy : Fabric) (index : ℕ) (fabrics : List Fabric) (s : NodeState)
    → may_note_added s.armed ≡ true → Some index ≡ index_for fabric s.fabrics → fabrics ≡ with_joined fabric s.fabrics → copy ≡ fabric
    → record s { fabrics = fabrics; armed = option_map (with_added index (is_pase asking)) s.armed; sessions = map (session_joined asking index copy) s.sessions; plain = plain_joined asking index s.plain } ≡ joined asking fabric s
joined_under asking fabric copy index fabrics s may under table same = elim (cases_Bool (is_none (add_refusal fabric s.fabrics))) [
  | inl free ↦
      let given : Some index ≡ Some (least_unused s.fabrics) = under ∙ index_there fabric s.fabrics free in
      let at : index ≡ least_unused s.fabrics = cc given in
      let there : fabrics ≡ added fabric s.fabrics = table ∙ table_there fabric s.fabrics free in
      (λ i. record s { fabrics = there i; armed = option_map (with_added (at i) (is_pase asking)) s.armed; sessions = map (session_joined asking (at i) (same i)) s.sessions; plain = plain_joined asking (at i) s.plain })
      ∙ joins asking fabric s (and_from _ _ may free)
  | inr refused ↦ absurd (cc (under ∙ index_missing fabric s.fabrics refused))
]

-- the table refused it
pub joined_not : (asking : Option Actor) (fabric : Fabric) (s : NodeState) → may_note_added s.armed ≡ true → None ≡ index_for fabric s.fabrics → s ≡ joined asking fabric s
joined_not asking fabric s may under = elim (cases_Bool (is_none (add_refusal fabric s.fabrics))) [
  | inl free ↦ absurd (cc (under ∙ index_there fabric s.fabrics free))
  | inr refused ↦ joins_not asking fabric s (rw (may, refused) refl)
]

-- With the map with which a node goes on it goes on again.
use Rattle.std.proofs.Common.{◌≡◌, ◌∙◌, refl, ap, subst, ℕ, ◌^◌, ◌≤◌, inl, inr, Bool, true, false, List, [], ◌∷◌, Option, Some, None, arith, if◌then◌else◌}
use Rattle.std.proofs.lemmas.Bool.{cases_Bool, leb-true}
use Rattle.std.specs.Prelude.{unwrap_or}
use Rattle.std.specs.List.{list_all}
use Rattle.mt_durable.specs.Maps.{have_values, keys_ascend}
use Rattle.mt_durable.specs.declared.durable.Entry.{Entry}
use Rattle.mt_model.specs.declared.node.state.NodeState.{NodeState}
use Rattle.mt_model.specs.texts.Contents.{Contents, contents_of}
use Rattle.mt_grammar.specs.Decoding.{kept_in}
use Rattle.mt_grammar.specs.Facts.{facts_hold}
use Rattle.mt_grammar.specs.declared.kept.MapContents.{MapContents}
use Rattle.mt_machine.specs.Laws.{OpensValid, RollsBackValid}
use Rattle.mt_machine.specs.Opened.{opened_with}
use Rattle.mt_machine.specs.Rollback.{rollback}
use Rattle.mt_machine.specs.State.{IsValid}
use Rattle.mt_lasting.specs.Contents.{durable, kept_of}
use Rattle.mt_regained.specs.Laws.{DurableIsKept, IsKeptIn, KeptAgain, StatesAreValid, is_of_bytes}
use Rattle.mt_regained.specs.Regained.{state_of}
use Rattle.mt_regained.specs.Reopened.{GoesOnAgain, new_map, reopened_map}
use Rattle.mt_regained.specs.Rolled.{ceiling_of, rolled_if, rolled_map_of}
use Rattle.mt_regained.proofs.Again.{numbers}
use Rattle.mt_regained.proofs.DurableAgain.{durable_again}
use Rattle.mt_regained.proofs.Read.{no_value, some_same}
use Rattle.mt_regained.proofs.Regaining.{none_armed, none_regained, unarmed_stays}

-- the ceiling that a map keeps is one that there may be
pub ceiling_fits : (map : List Entry) (kept : MapContents) → IsKeptIn map kept → ceiling_of kept ≤ 2 ^ 62
ceiling_fits map kept is = leb-true (unwrap_or kept.ceiling 0) (2 ^ 62) (numbers map kept is).ceiling

-- a map that is not empty is rolled back

unfoldable pub has_entries : List Entry → Bool
has_entries [] = false
has_entries (entry ∷ entries) = true

rolled_where : (contents : Contents) (map : List Entry) (kept : MapContents) → has_entries map ≡ true → kept_in map ≡ Some kept → facts_hold kept ≡ true → reopened_map contents map ≡ Some (rolled_map_of kept)
unfolding has_entries
rolled_where contents [] kept some read facts = absurd cc
rolled_where contents (entry ∷ entries) kept some read facts = ap rolled_if read ∙ ap (λ (holds : Bool). if holds then Some (rolled_map_of kept) else None) facts

pub durable_some : (s : NodeState) (ceiling : ℕ) → has_entries (durable s ceiling) ≡ true
unfolding has_entries
durable_some s ceiling = refl

abbrev GoesOn : Contents → List Entry → Type 0
GoesOn contents map = reopened_map contents map ≡ Some map

module _ (is_kept : DurableIsKept) (are_valid : StatesAreValid) (again : KeptAgain) where
  -- what is durable of a state in which no fail-safe is armed
  of_durable : (contents : Contents) (s : NodeState) (ceiling : ℕ) → IsValid s → ceiling ≤ 2 ^ 62 → s.armed ≡ None → GoesOn contents (durable s ceiling)
  of_durable contents s ceiling valid fits none =
      let is = is_kept s ceiling valid fits in
      let kept = kept_of s ceiling in
      let same : rolled_map_of kept ≡ durable s ceiling =
      ap (λ (t : NodeState). durable t ceiling) (unarmed_stays (state_of kept) (none_regained s ceiling none))
      ∙ durable_again is_kept are_valid again s ceiling valid fits in
      rolled_where contents (durable s ceiling) kept (durable_some s ceiling) is.read is.facts ∙ ap Some same

  -- what is durable behind the rollback of a map
  of_rolled : RollsBackValid → (contents : Contents) (map : List Entry) (kept : MapContents) → IsKeptIn map kept → GoesOn contents (rolled_map_of kept)
  of_rolled back contents map kept is =
      of_durable contents (rollback (state_of kept)) (ceiling_of kept) (back (state_of kept) (are_valid map kept is)) (ceiling_fits map kept is) (none_armed (state_of kept))

  of_map : RollsBackValid → (contents : Contents) (map reopened : List Entry) → list_all is_of_bytes map ≡ true → keys_ascend map ≡ true → have_values map ≡ true → (read : Option MapContents) → kept_in map ≡ read → rolled_if read ≡ Some reopened
      → GoesOn contents reopened
  of_map back contents map reopened bytes ascend whole None read is = no_value reopened is
  of_map back contents map reopened bytes ascend whole (Some kept) read is = elim (cases_Bool (facts_hold kept)) [
    | inl facts ↦
        let same : Some (rolled_map_of kept) ≡ Some reopened = rw facts at is in
        subst (GoesOn contents) (some_same (rolled_map_of kept) reopened same) (of_rolled back contents map kept (record { bytes = bytes; ascend = ascend; whole = whole; read = read; facts = facts }))
    | inr none ↦
        let wrong : None ≡ Some reopened = rw none at is in
        absurd cc
  ]

  pub goes_on_again : OpensValid → RollsBackValid → GoesOnAgain
  goes_on_again opens back config [] reopened bytes ascend whole is =
      subst (GoesOn (contents_of config)) (some_same (new_map (contents_of config)) reopened is)
      (of_durable (contents_of config) (opened_with 0 config.fabrics config.entries []) 0 (opens 0 config.fabrics config.entries [] refl config.fabrics_are_valid config.entries_are_valid) (omega arith) refl)
  goes_on_again opens back config (entry ∷ entries) reopened bytes ascend whole is = of_map back (contents_of config) (entry ∷ entries) reopened bytes ascend whole (kept_in (entry ∷ entries)) refl is

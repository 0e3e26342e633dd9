-- A node may start with the map with which it goes on, and a new node in its first boot.
use Rattle.std.proofs.Common.{◌≡◌, ◌∙◌, refl, sym, ap, subst, ℕ, ◌^◌, ◌<◌, ◌≤◌, true, List, [], ◌∷◌, Some, arith}
use Rattle.mt_durable.specs.declared.durable.Entry.{Entry}
use Rattle.mt_model.specs.declared.node.state.NodeState.{NodeState}
use Rattle.mt_model.specs.declared.texts.config.Config.{Config}
use Rattle.mt_model.specs.texts.Contents.{Contents, contents_of}
use Rattle.mt_machine.specs.Laws.{OpensValid}
use Rattle.mt_machine.specs.Opened.{opened_with}
use Rattle.mt_regained.specs.Begun.{MayStart, boot_in, boot_of, ceiling_if, ceiling_in}
use Rattle.mt_regained.specs.Laws.{DurableIsKept, FirstBoots, IsKeptIn}
use Rattle.mt_regained.specs.Reopened.{BeginsAsNew, GoesOnAgain, NewNodesBegin, ReopenedMayStart, new_map, reopened_map}
use Rattle.mt_regained.specs.Rolled.{kept_of_new}
use Rattle.mt_regained.proofs.Beginning.{next_of}
use Rattle.mt_regained.proofs.GoesOn.{durable_some, has_entries}
use Rattle.mt_regained.proofs.Read.{some_same}

-- The map with which a node goes on again is not empty, and so it is rolled back.

new_some : (contents : Contents) → has_entries (new_map contents) ≡ true
new_some contents = durable_some (opened_with 0 contents.fabrics contents.entries []) 0

may_start : (contents : Contents) (map : List Entry) → reopened_map contents map ≡ Some map → boot_in map < 2 ^ 31 → ceiling_in map ≤ 2 ^ 61 → MayStart map
unfolding has_entries
may_start contents [] goes boot ceiling =
    let same : has_entries (new_map contents) ≡ has_entries [] = ap has_entries (some_same (new_map contents) [] goes) in
    let wrong : true ≡ has_entries [] = sym (new_some contents) ∙ same in
    absurd cc
may_start contents (entry ∷ entries) goes boot ceiling = record { rolled = goes; boot = boot; ceiling = ceiling }

pub reopened_may : GoesOnAgain → ReopenedMayStart
reopened_may again config map reopened bytes ascend whole is boot ceiling =
    may_start (contents_of config) reopened (again config map reopened bytes ascend whole is) boot ceiling

-- A new node.

module _ (is_kept : DurableIsKept) (opens : OpensValid) (first : FirstBoots) (again : GoesOnAgain) (config : Config) where
  abbrev before : NodeState
  before = opened_with 0 config.fabrics config.entries []

  is_new : IsKeptIn (new_map (contents_of config)) (kept_of_new config)
  is_new = is_kept before 0 (opens 0 config.fabrics config.entries [] refl config.fabrics_are_valid config.entries_are_valid) (omega arith)

  no_boot : boot_in (new_map (contents_of config)) ≡ 0
  no_boot = ap boot_of is_new.read

  no_ceiling : ceiling_in (new_map (contents_of config)) ≡ 0
  no_ceiling = ap ceiling_if is_new.read

  new_may : MayStart (new_map (contents_of config))
  new_may = reopened_may again config [] (new_map (contents_of config)) refl refl refl refl
      (subst (λ (boot : ℕ). boot < 2 ^ 31) (sym no_boot) (omega arith))
      (subst (λ (ceiling : ℕ). ceiling ≤ 2 ^ 61) (sym no_ceiling) (omega arith))

  begins_as_new : BeginsAsNew config
  begins_as_new = record {
    may = new_may;
    state = next_of config before 0 (new_map (contents_of config)) (kept_of_new config) refl is_new.read is_new.facts ∙ ap Some (first config 1 config.sessions);
    ceiling = no_ceiling;
  }

pub new_nodes_begin : DurableIsKept → OpensValid → FirstBoots → GoesOnAgain → NewNodesBegin
new_nodes_begin is_kept opens first again config = begins_as_new is_kept opens first again config

-- Roots, networks and the fail-safe are read back behind all others, and numbers before them.
use Rattle.std.proofs.Common.{◌≡◌, ◌∙◌, refl, ap, ℕ, nat_le, true, List, [], ◌∷◌, ◌++◌, Option, Some, None}
use Rattle.std.specs.Prelude.{option_map}
use Rattle.mt_tlv.specs.Tree.{octets}
use Rattle.mt_tlv.specs.View.{tree}
use Rattle.mt_durable.specs.declared.durable.Entry.{Entry}
use Rattle.mt_model.specs.Trees.{array_of}
use Rattle.mt_model.specs.declared.node.state.NodeState.{NodeState}
use Rattle.mt_model.specs.declared.tables.network.Armed.{Armed}
use Rattle.mt_model.specs.declared.tables.network.Network.{Network}
use Rattle.mt_grammar.specs.Decoding.{kept_after, with_failsafe, with_networks, with_roots}
use Rattle.mt_grammar.specs.Values.{armed_in, greatest_boot, greatest_ceiling}
use Rattle.mt_grammar.specs.declared.kept.MapContents.{MapContents}
use Rattle.mt_grammar.specs.declared.keys.Key.TheVariants as keys
use Rattle.mt_lasting.specs.Contents.{entry_at, entry_if, kept_failsafe}
use Rattle.mt_lasting.specs.Values.{array_if, failsafe_value, network_tree}
use Rattle.mt_lasting.proofs.Folding.{after-append, one_read}
use Rattle.mt_lasting.proofs.ReadLists.{networks_read, roots_read}

-- entries one after the other, where the first are read as this
pub read_on : (kept next : MapContents) (first behind : List Entry) → kept_after (Some kept) first ≡ Some next → kept_after (Some kept) (first ++ behind) ≡ kept_after (Some next) behind
read_on kept next first behind read = after-append (Some kept) first behind ∙ ap (λ (k : Option MapContents). kept_after k behind) read

module _ (s : NodeState) (ceiling : ℕ) (kept : MapContents) where
  pub boot_read : nat_le s.boot greatest_boot ≡ true → kept_after (Some kept) (entry_at s ceiling keys.Boot) ≡ Some (record kept { boot = Some s.boot })
  boot_read fits = rw fits refl

  pub ceiling_read : nat_le ceiling greatest_ceiling ≡ true → kept_after (Some kept) (entry_at s ceiling keys.Ceiling) ≡ Some (record kept { ceiling = Some ceiling })
  ceiling_read fits = rw fits refl

  of_roots : (roots : List (List ℕ)) → kept.roots ≡ [] → kept_after (Some kept) (entry_if keys.Roots (array_if octets roots)) ≡ Some (record kept { roots = roots })
  of_roots [] none = ap Some (λ i. record kept { roots = none i })
  of_roots (root ∷ roots) none = one_read kept (Some (array_of octets (root ∷ roots))) keys.Roots refl ∙ ap (with_roots kept) (roots_read root roots)

  pub roots_last : kept.roots ≡ [] → kept_after (Some kept) (entry_at s ceiling keys.Roots) ≡ Some (record kept { roots = s.roots })
  roots_last none = of_roots s.roots none

  of_networks : (networks : List Network) → kept.networks ≡ [] → kept_after (Some kept) (entry_if keys.Networks (array_if network_tree networks)) ≡ Some (record kept { networks = networks })
  of_networks [] none = ap Some (λ i. record kept { networks = none i })
  of_networks (network ∷ networks) none = one_read kept (Some (array_of network_tree (network ∷ networks))) keys.Networks refl ∙ ap (with_networks kept) (networks_read network networks)

  pub networks_last : kept.networks ≡ [] → kept_after (Some kept) (entry_at s ceiling keys.Networks) ≡ Some (record kept { networks = s.networks })
  networks_last none = of_networks s.networks none

  of_failsafe : (armed : Option Armed) → ((one : Armed) → armed ≡ Some one → armed_in (tree (failsafe_value one)) ≡ Some (kept_failsafe one)) → kept.failsafe ≡ None
      → kept_after (Some kept) (entry_if keys.Failsafe (option_map failsafe_value armed)) ≡ Some (record kept { failsafe = option_map kept_failsafe armed })
  of_failsafe None read none = ap Some (λ i. record kept { failsafe = none i })
  of_failsafe (Some one) read none = one_read kept (Some (failsafe_value one)) keys.Failsafe refl ∙ ap (with_failsafe kept) (read one refl)

  pub failsafe_last : ((one : Armed) → s.armed ≡ Some one → armed_in (tree (failsafe_value one)) ≡ Some (kept_failsafe one)) → kept.failsafe ≡ None
      → kept_after (Some kept) (entry_at s ceiling keys.Failsafe) ≡ Some (record kept { failsafe = option_map kept_failsafe s.armed })
  failsafe_last read none = of_failsafe s.armed read none

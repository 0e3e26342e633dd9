use Rattle.std.proofs.Common.{◌∙◌, sym, ap, List, option_map}
use Rattle.std.specs.List.{find}
use Rattle.mt_grammar.specs.declared.keys.Key.TheVariants.{Fabric as FabricKey}
use Rattle.mt_model.specs.declared.tables.fabric.Fabric.{Fabric}
use Rattle.mt_lasting.specs.Values.{fabric_value, has_index}
use Rattle.mt_lasting.proofs.Staying.{stays}
use Rattle.mt_lasting.proofs.changes.push_fabric.Goals as goal

pub returns-then-have_equal_fabric : goal.returns-then-have_equal_fabric
returns-then-have_equal_fabric c =
    let found = λ (all : List Fabric). find (has_index c.args.index) all in
    let same = sym (ap found c.as_slice.ensures) ∙ c.have_equal_fabric.ensures c.if-have_equal_fabric.true ∙ ap found c.as_slice-2.ensures in
    stays c.args.before.now c.args.behind.now (FabricKey c.args.index) (ap (option_map fabric_value) same) c.args.entries.now.items

use Rattle.std.proofs.Common.{◌∙◌, sym, ap}
use Rattle.mt_grammar.specs.declared.keys.Key.TheVariants.{Networks}
use Rattle.mt_lasting.specs.Values.{array_if, network_tree}
use Rattle.mt_lasting.proofs.Staying.{stays}
use Rattle.mt_lasting.proofs.changes.push_networks.Goals as goal

pub returns-then-are_equal : goal.returns-then-are_equal
returns-then-are_equal c =
    let same = sym c.as_slice.ensures ∙ c.are_equal.ensures c.if-are_equal.true ∙ c.as_slice-2.ensures in
    stays c.args.before.now c.args.behind.now Networks (ap (array_if network_tree) same) c.args.entries.now.items

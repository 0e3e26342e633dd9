use Rattle.std.proofs.Common.{◌∙◌, sym, ap}
use Rattle.mt_tlv.specs.Tree.{octets}
use Rattle.mt_grammar.specs.declared.keys.Key.TheVariants.{Roots}
use Rattle.mt_lasting.specs.Values.{array_if}
use Rattle.mt_lasting.proofs.Staying.{stays}
use Rattle.mt_lasting.proofs.changes.push_roots.Goals as goal

pub returns-then-are_equal : goal.returns-then-are_equal
returns-then-are_equal c =
    let same = sym c.as_slice.ensures ∙ c.are_equal.ensures c.if-are_equal.true ∙ c.as_slice-2.ensures in
    stays c.args.before.now c.args.behind.now Roots (ap (array_if octets) same) c.args.entries.now.items

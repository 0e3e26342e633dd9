use Rattle.std.proofs.Common.{◌∙◌, sym, ap}
use Rattle.mt_grammar.specs.declared.keys.Key.TheVariants.{Single}
use Rattle.mt_lasting.specs.Values.{single_in}
use Rattle.mt_lasting.proofs.Staying.{stays}
use Rattle.mt_lasting.proofs.changes.push_single.Goals as goal

pub returns-then-are_equal : goal.returns-then-are_equal
returns-then-are_equal c =
    let place = c.args.place.now in
    let same = sym c.at.ensures.value ∙ c.are_equal.ensures c.if-are_equal.true ∙ c.at-2.ensures.value in
    stays c.args.before.now c.args.behind.now (Single place) (ap (single_in place) same) c.args.entries.now.items

use Rattle.std.proofs.Common.{◌∙◌, sym}
use Rattle.mt_grammar.specs.declared.keys.Key.TheVariants.{Items}
use Rattle.mt_lasting.proofs.Staying.{same_rows, stays}
use Rattle.mt_lasting.proofs.changes.push_rows_at.Goals as goal

pub returns-then-are_equal : goal.returns-then-are_equal
returns-then-are_equal c =
    let before = c.args.before.now in
    let behind = c.args.behind.now in
    let place = c.args.place.now in
    let same = sym c.of.ensures ∙ c.are_equal.ensures c.if-are_equal.true ∙ c.of-2.ensures in
    stays before behind (Items c.args.fabric place) (same_rows before behind c.args.fabric place c.requires.place same) c.args.entries.now.items

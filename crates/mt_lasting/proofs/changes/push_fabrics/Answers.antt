use Rattle.std.proofs.Common.{◌∙◌, sym}
use Rattle.mt_lasting.specs.Keys.{indexes}
use Rattle.mt_lasting.proofs.Staying.{fabrics_stay}
use Rattle.mt_lasting.proofs.changes.push_fabrics.Goals as goal

pub returns-then-are_equal : goal.returns-then-are_equal
returns-then-are_equal c =
    fabrics_stay c.args.before.now c.args.behind.now (sym c.as_slice.ensures ∙ c.are_equal.ensures c.if-are_equal.true ∙ c.as_slice-2.ensures) indexes c.args.entries.now.items

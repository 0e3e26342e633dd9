use Rattle.std.proofs.Common.{◌∙◌, sym, ap, filter}
use Rattle.mt_grammar.specs.declared.keys.Key.TheVariants.{Items}
use Rattle.mt_model.specs.rows.Setting.{is_entry_of}
use Rattle.mt_lasting.specs.Keys.{acl_place}
use Rattle.mt_lasting.specs.Values.{array_if, entry_tree}
use Rattle.mt_lasting.proofs.Staying.{stays}
use Rattle.mt_lasting.proofs.changes.push_entries_of.Goals as goal

pub returns-then-are_equal : goal.returns-then-are_equal
returns-then-are_equal c =
    let own = filter (is_entry_of c.args.fabric) in
    let mine = c.entries_of-mine.ensures ∙ ap own c.as_slice.ensures in
    let others = c.entries_of-others.ensures ∙ ap own c.as_slice-2.ensures in
    let same = sym mine ∙ c.are_equal.ensures c.if-are_equal.true ∙ others in
    stays c.args.before.now c.args.behind.now (Items c.args.fabric acl_place) (ap (array_if entry_tree) same) c.args.entries.now.items

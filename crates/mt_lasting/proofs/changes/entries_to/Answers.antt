use Rattle.std.proofs.Common.{◌∷◌, [], refl}
use Rattle.mt_grammar.specs.declared.keys.Key.TheVariants as keys
use Rattle.mt_lasting.specs.Changes.{differing_under}
use Rattle.mt_lasting.specs.Keys.{indexes, keys_of, single_places}
use Rattle.mt_lasting.proofs.Staying.{parts_tell}
use Rattle.mt_lasting.proofs.changes.entries_to.Goals as goal

pub returns : goal.returns
returns c =
    parts_tell (differing_under c.args.before.now c.args.behind.now) refl keys_of single_places indexes indexes (keys.Roots ∷ keys.Networks ∷ keys.Failsafe ∷ []) _ _ _ _ _ _
    c.new-entries.ensures.items c.in_ok-push_at.ensures c.in_ok-push_singles.ensures c.in_ok-push_items.ensures c.in_ok-push_fabrics.ensures c.in_ok-push_last.ensures

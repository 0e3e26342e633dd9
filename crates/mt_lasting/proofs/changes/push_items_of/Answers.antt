use Rattle.std.proofs.Common.{◌≡◌, OnOk, List, refl, subst}
use Rattle.mt_durable.specs.declared.durable.Entry.{Entry}
use Rattle.mt_lasting.specs.Changes.{differing_under}
use Rattle.mt_lasting.proofs.SoFar.{one_fabric}
use Rattle.mt_lasting.proofs.changes.push_items_of.Goals as goal

pub returns : goal.returns
returns c =
    subst (λ (l : List Entry). OnOk c.push_rows_of.result (c.push_rows_of.new.entries.items ≡ l))
    (one_fabric (differing_under c.args.before.now c.args.behind.now) c.args.fabric c.args.entries.now.items c.push_entries_of.new.entries.items _ c.in_ok-push_entries_of.ensures refl) c.push_rows_of.ensures

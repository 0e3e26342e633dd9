use Rattle.std.proofs.Common.{◌≡◌, ◌≤◌, ◌++◌, [], List, length, take, drop, sym, ap, ◌∙◌, append_assoc, arith, rules}
use Rattle.std.proofs.lemmas.List.{nil_from_length}
use Rattle.std.specs.Vec.Iter.{into_iter_items}
use Rattle.mt_model.specs.declared.tables.access.AclEntry.{AclEntry}
use Rattle.mt_model.proofs.Replaced.{behind_more, front_more, replaced}
use Rattle.mt_model.proofs.rows.setting.set_entries.Goals as goal

pub loop-entry-preserved : goal.loop-entry-preserved
loop-entry-preserved c =
    let at = c.loop-entry.at in
    let entries = c.loop-entry.entries.items in
    let new = c.put.new.items.items in
    let steps = c.in-Some.ensures.steps in
    let within : at ≤ length entries = omega arith in
    record {
      so_far = front_more entries new (into_iter_items c.next.new.self) _ at _ c.in-Some.entry within c.put.ensures.items (ap (λ (l : List AclEntry). take at entries ++ l) (sym steps.0) ∙ c.loop-entry.invariant.so_far);
      behind = behind_more entries new c.args.entries.now.items at c.entries_within-begin.result.1 c.in-Some.entry within c.put.ensures.items c.loop-entry.invariant.behind;
      counted = search rules;
      turns = search rules;
      from = search rules;
      len = search rules;
      within = search rules;
      capacity = search rules;
    }

pub returns-clause-items : goal.returns-clause-items
returns-clause-items c =
    let at = c.loop-entry in
    let old = c.args.entries.now.items in
    let ends = c.entries_within-begin in
    let below = rw c.as_slice.ensures.value at ends.ensures.below in
    let above = rw c.as_slice.ensures.value at ends.ensures.above in
    let none : into_iter_items at.entry-iterator ≡ [] = nil_from_length _ (sym at.invariant.counted ∙ c.in-None.ensures.steps.0) in
    let front : take at.at at.entries.items ++ [] ≡ take ends.result.0 old ++ c.args.new = ap (λ (l : List AclEntry). take at.at at.entries.items ++ l) (sym none) ∙ at.invariant.so_far in
    replaced at.entries.items c.cut.new.items.items old _ at.at ends.result.1 c.cut.ensures.items at.invariant.behind front
    ∙ append_assoc (take ends.result.0 old) c.args.new (drop ends.result.1 old)
    ∙ (λ i. below i ++ (c.args.new ++ above i))

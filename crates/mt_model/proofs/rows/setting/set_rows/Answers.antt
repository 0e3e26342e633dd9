use Rattle.std.proofs.Common.{◌≡◌, ◌≤◌, ◌++◌, [], List, length, map, take, drop, sym, ap, ◌∙◌, append_assoc, arith, rules}
use Rattle.std.proofs.lemmas.List.{nil_from_length}
use Rattle.std.specs.Vec.Iter.{into_iter_items}
use Rattle.mt_tlv.specs.declared.value.Value.{Value}
use Rattle.mt_model.specs.rows.Order.{row_at}
use Rattle.mt_model.proofs.Replaced.{behind_more, front_more, replaced}
use Rattle.mt_model.proofs.rows.setting.set_rows.Goals as goal

pub loop-value-preserved : goal.loop-value-preserved
loop-value-preserved c =
    let at = c.loop-value.at in
    let rows = c.loop-value.rows.items in
    let new = c.put.new.items.items in
    let made = row_at c.args.place.now c.args.fabric in
    let value = c.in-Some.value in
    let rest = into_iter_items c.next.new.self in
    let steps = c.in-Some.ensures.steps in
    let within : at ≤ length rows = omega arith in
    record {
      so_far = front_more rows new (map made rest) _ at _ (made value) within c.put.ensures.items (ap (λ (values : List Value). take at rows ++ map made values) (sym steps.0) ∙ c.loop-value.invariant.so_far);
      behind = behind_more rows new c.args.rows.now.items at c.rows_within-begin.result.1 (made value) within c.put.ensures.items c.loop-value.invariant.behind;
      counted = search rules;
      turns = search rules;
      from = search rules;
      len = search rules;
      within = search rules;
      capacity = search rules;
    }

pub returns-clause-items : goal.returns-clause-items
returns-clause-items c =
    let at = c.loop-value in
    let old = c.args.rows.now.items in
    let made = row_at c.args.place.now c.args.fabric in
    let ends = c.rows_within-begin in
    let below = rw c.as_slice.ensures.value at ends.ensures.below in
    let above = rw c.as_slice.ensures.value at ends.ensures.above in
    let none : into_iter_items at.value-iterator ≡ [] = nil_from_length _ (sym at.invariant.counted ∙ c.in-None.ensures.steps.0) in
    let front : take at.at at.rows.items ++ [] ≡ take ends.result.0 old ++ map made c.args.values = ap (λ (values : List Value). take at.at at.rows.items ++ map made values) (sym none) ∙ at.invariant.so_far in
    replaced at.rows.items c.cut.new.items.items old _ at.at ends.result.1 c.cut.ensures.items at.invariant.behind front
    ∙ append_assoc (take ends.result.0 old) (map made c.args.values) (drop ends.result.1 old)
    ∙ (λ i. below i ++ (map made c.args.values ++ above i))

use Rattle.std.proofs.Common.{◌≡◌, [], length, rules, sym}
use Rattle.std.proofs.lemmas.List.{nil_from_length}
use Rattle.mt_node.proofs.effects.settle.Goals as goal

pub returns-then-is_empty : goal.returns-then-is_empty
returns-then-is_empty c =
    let zero : length c.args.places.now ≡ 0 = search rules in
    let none : c.args.places.now ≡ [] = nil_from_length c.args.places.now zero in
    rw none (sym (c.actions_set_values.ensures.nowhere c.args.state.now))

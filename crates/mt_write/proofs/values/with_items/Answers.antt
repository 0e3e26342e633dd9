use Rattle.std.proofs.Common.{◌≡◌, ◌++◌, [], sym, ap, ◌∙◌, map, append-nil}
use Rattle.std.specs.Vec.Iter.{into_iter_items}
use Rattle.mt_tlv.specs.View.{elements}
use Rattle.mt_write.proofs.Elements.{elements_with_items, untagged}
use Rattle.std.proofs.lemmas.List.{nil_from_length}
use Rattle.mt_write.proofs.values.with_items.Goals as goal

pub returns : goal.returns
returns c =
    let at = c.loop-item in
    let steps = c.in-None.ensures.steps in
    let none : into_iter_items at.item-iterator ≡ [] = nil_from_length _ (sym at.invariant.counted ∙ steps.0) in
    let all : at.all.items ≡ c.args.there.items ++ map untagged c.args.items = sym (append-nil at.all.items) ∙ ap (λ rest. at.all.items ++ map untagged rest) (sym none) ∙ at.invariant.so_far in
    ap elements all ∙ elements_with_items c.args.there.items c.args.items

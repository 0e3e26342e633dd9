use Rattle.std.proofs.Common.{◌≡◌, ◌++◌, [], sym, ap, ◌∙◌, map, append-nil}
use Rattle.std.proofs.lemmas.List.{nil_from_length}
use Rattle.std.specs.Vec.Iter.{into_iter_items}
use Rattle.mt_node.specs.mt_machine.Lines.{sent_plain}
use Rattle.mt_interactions.proofs.sending.sent_as.Goals as goal

pub returns : goal.returns
returns c =
    let at = c.loop-payload in
    let ms = c.args.ms in
    let fabric = c.args.fabric in
    let steps = c.in-None.ensures.steps in
    let none : into_iter_items at.payload-iterator ≡ [] = nil_from_length _ (sym at.invariant.counted ∙ steps.0) in
    c.from_vec.ensures
    ∙ sym (append-nil at.sent.items)
    ∙ ap (λ rest. at.sent.items ++ map (sent_plain ms fabric) rest) (sym none)
    ∙ at.invariant.so_far

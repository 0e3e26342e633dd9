use Rattle.std.proofs.Common.{◌≡◌, ◌++◌, [], sym, ap, ◌∙◌, append-nil}
use Rattle.std.specs.Vec.Iter.{into_iter_items}
use Rattle.std.proofs.lemmas.List.{nil_from_length}
use Rattle.mt_write.proofs.values.appended.Goals as goal

pub returns : goal.returns
returns g c =
    let at = c.loop-item in
    let steps = c.in-None.ensures.steps in
    let none : into_iter_items at.item-iterator ≡ [] = nil_from_length _ (sym at.invariant.counted ∙ steps.0) in
    sym (append-nil at.all) ∙ ap (λ rest. at.all ++ rest) (sym none) ∙ at.invariant.so_far

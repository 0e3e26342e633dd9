use Rattle.std.proofs.Common.{◌≡◌, ◌++◌, [], sym, ap, ◌∙◌, map, append-nil}
use Rattle.std.specs.Vec.Iter.{into_iter_items}
use Rattle.mt_model.specs.declared.rows.place.Row.{Row}
use Rattle.std.proofs.lemmas.List.{nil_from_length}
use Rattle.mt_write.proofs.values.values_of.Goals as goal

pub returns : goal.returns
returns c =
    let at = c.loop-row in
    let steps = c.in-None.ensures.steps in
    let none : into_iter_items at.row-iterator ≡ [] = nil_from_length _ (sym at.invariant.counted ∙ steps.0) in
    sym (append-nil at.values) ∙ ap (λ rest. at.values ++ map (λ (row : Row). row.value) rest) (sym none) ∙ at.invariant.so_far

use Rattle.std.proofs.Common.{◌≡◌, ◌∙◌, ◌++◌, ◌∷◌, [], List, true, sym, ap, append_assoc, subst}
use Rattle.std.specs.Vec.Iter.{into_iter_items}
use Rattle.mt_model.specs.rows.Order.{are_ascending}
use Rattle.mt_model.specs.declared.rows.place.Row.{Row}
use Rattle.mt_model.proofs.Order.{ascending-front}
use Rattle.mt_model.proofs.rows.stored.StoredRows.from_vec.Goals as goal

pub push-requires-clause-ascending : goal.push-requires-clause-ascending
push-requires-clause-ascending c =
    let so_far = c.loop-row.stored in
    let row = c.in-Some.row in
    let rest = into_iter_items c.next.new.self in
    let all : c.args.rows.items ≡ (so_far ++ row ∷ []) ++ rest =
    sym c.loop-row.invariant
    ∙ ap (λ (l : List Row). so_far ++ l) c.in-Some.ensures.steps.0
    ∙ sym (append_assoc so_far (row ∷ []) rest) in
    ascending-front (so_far ++ row ∷ []) rest (subst (λ (l : List Row). are_ascending l ≡ true) all c.requires.ascending)

use Rattle.std.proofs.Common.{◌≡◌, ◌∙◌, List, true, sym, ap, filter, subst}
use Rattle.mt_model.specs.rows.Order.{are_ascending}
use Rattle.mt_model.specs.rows.Sight.{stands_at}
use Rattle.mt_model.specs.declared.rows.place.Row.{Row}
use Rattle.mt_model.proofs.Setting.{ascending_filter}
use Rattle.mt_model.proofs.Stored.{at_listed, items_of}
use Rattle.mt_model.proofs.rows.stored.StoredRows.at.Goals as goal

pub returns-in-Some-clause-value : goal.returns-in-Some-clause-value
returns-in-Some-clause-value c =
    let place = c.args.place.now in
    c.as_slice.ensures.value
    ∙ ap items_of c.in-Some.ensures.value
    ∙ sym (at_listed place c.self.inside.places.entries c.self.invariant.ordered c.self.invariant.rows_stand)
    ∙ ap (filter (stands_at place)) c.self.view_is

pub returns-in-Some-clause-ascending : goal.returns-in-Some-clause-ascending
returns-in-Some-clause-ascending c =
    let place = c.args.place.now in
    let all : are_ascending c.args.self.now ≡ true = subst (λ (l : List Row). are_ascending l ≡ true) c.self.view_is c.self.invariant.rows_ascend in
    subst (λ (l : List Row). are_ascending l ≡ true) (sym (returns-in-Some-clause-value c)) (ascending_filter (stands_at place) c.args.self.now all)

pub returns-in-None-clause-value : goal.returns-in-None-clause-value
returns-in-None-clause-value c =
    let place = c.args.place.now in
    ap items_of c.in-None.ensures.value
    ∙ sym (at_listed place c.self.inside.places.entries c.self.invariant.ordered c.self.invariant.rows_stand)
    ∙ ap (filter (stands_at place)) c.self.view_is

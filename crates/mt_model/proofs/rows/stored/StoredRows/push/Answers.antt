use Rattle.std.proofs.Common.{◌≡◌, ◌∙◌, ◌++◌, ◌∷◌, [], List, true, refl, sym, ap, subst}
use Rattle.mt_model.specs.rows.Order.{are_ascending}
use Rattle.mt_model.specs.declared.rows.place.Row.{Row}
use Rattle.mt_model.proofs.Stored.{added_through, kept_added, kept_same, stored_found}
use Rattle.mt_model.proofs.rows.stored.StoredRows.push.Goals as goal

pub returns-in_default : goal.returns-in_default
returns-in_default c = absurd (stored_found c.self.inside.places c.args.row.place c.self.invariant c.requires.stored (sym c.in_default.ensures.value))

pub invariant_of-self-in_err-push : goal.invariant_of-self-in_err-push
invariant_of-self-in_err-push c =
    kept_same c.self.inside.places (c.get_mut.follows.lender c.push.new.self) c.args.row.place c.in-Some.rows.now c.push.new.self c.self.invariant (c.get_mut.follows.holds c.push.new.self) (sym c.in-Some.ensures.value) c.in_err-push.ensures.items

pub invariant_of-self-2 : goal.invariant_of-self-2
invariant_of-self-2 c =
    let up = subst (λ (l : List Row). are_ascending (l ++ c.args.row ∷ []) ≡ true) (sym c.self.view_is) c.requires.ascending in
    kept_added c.self.inside.places (c.get_mut.follows.lender c.push.new.self) c.args.row.place c.in-Some.rows.now c.push.new.self c.self.invariant (c.get_mut.follows.holds c.push.new.self) (sym c.in-Some.ensures.value)
    c.args.row refl up c.in_ok-push.ensures.items

pub returns : goal.returns
returns c =
    let up = subst (λ (l : List Row). are_ascending (l ++ c.args.row ∷ []) ≡ true) (sym c.self.view_is) c.requires.ascending in
    added_through c.self.inside.places (c.get_mut.follows.lender c.push.new.self) c.args.row.place c.in-Some.rows.now c.push.new.self c.self.invariant (c.get_mut.follows.holds c.push.new.self) (sym c.in-Some.ensures.value)
    c.args.row refl up c.in_ok-push.ensures.items
    ∙ ap (λ (l : List Row). l ++ c.args.row ∷ []) c.self.view_is

use Rattle.std.proofs.Common.{◌≡◌, ◌==◌, ◌&&◌, ◌∙◌, List, [], ◌∷◌, length, filter, ap, true, arith, refl, eqb-true, rules, sym}
use Rattle.std.proofs.lemmas.Fn.{filter_same}
use Rattle.mt_meta.specs.Places.{all_places, is_named_by}
use Rattle.mt_model.specs.declared.node.state.ChangeNumber.{ChangeNumber}
use Rattle.mt_model.specs.declared.rows.place.Place.{Place}
use Rattle.mt_subs.specs.Changes.{is_among, later}
use Rattle.mt_subs.specs.Owed.{is_owed, may_read}
use Rattle.mt_subs.proofs.Lists.{none_stays}
use Rattle.mt_subs.proofs.owing.owed.Goals as goal

nothing : (xs : List ChangeNumber) → (length xs == 0) ≡ true → xs ≡ []
nothing [] e = refl
nothing (x ∷ xs) e = absurd (let bad = eqb-true (length (x ∷ xs)) 0 e in omega (arith, bad))

pub returns-then-is_empty : goal.returns-then-is_empty
returns-then-is_empty c =
    let none : later c.args.kept.now.change c.args.changes.now ≡ [] = sym c.later-later.ensures ∙ nothing c.later-later.result.now (sym c.is_empty.ensures ∙ c.if-is_empty.true) in
    c.new.ensures
    ∙ sym (none_stays (is_owed c.args.entries.now c.args.kept.now c.args.changes.now) all_places (λ place. ap (λ (l : List ChangeNumber). is_among place l && (is_named_by c.args.kept.now.sub.paths place && may_read c.args.entries.now c.args.kept.now.sub.actor place)) none))

pub returns : goal.returns
returns c =
    let is : c.into_vec-places.result.items ≡ all_places = search rules in
    c.from_vec.ensures
    ∙ filter_same _ (is_owed c.args.entries.now c.args.kept.now c.args.changes.now) _ (λ x b f' k. search rules) _ _ c.retain.ensures.filtered
    ∙ ap (λ (l : List Place). filter (is_owed c.args.entries.now c.args.kept.now c.args.changes.now) l) is

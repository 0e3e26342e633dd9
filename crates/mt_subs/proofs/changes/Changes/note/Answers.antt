use Rattle.std.proofs.Common.{◌≡◌, ◌≤◌, ◌∙◌, ◌∷◌, ◌++◌, ◌+◌, List, Some, None, ap, arith, subst, sym, take, drop, get_or, position, length}
use Rattle.std.proofs.lemmas.Grind.{common_steps}
use Rattle.mt_model.specs.declared.node.state.ChangeNumber.{ChangeNumber}
use Rattle.mt_subs.specs.Changes.{IsChanges, change_at, is_among, is_change_of, newest_of, noted}
use Rattle.mt_subs.proofs.Noting.{among_at, moved, not_among, not_noted, noted_stays}
use Rattle.mt_subs.proofs.changes.Changes.note.Goals as goal

pub invariant_of-self : goal.invariant_of-self
invariant_of-self c =
    let place = c.args.place.now in
    let n = c.args.number in
    let items = c.self.inside.changes.items in
    let at = c.in-Some.at in
    let there : position (is_change_of place) items ≡ Some at = sym (ap (λ (l : List ChangeNumber). position (is_change_of place) l) c.deref.ensures.value) ∙ sym c.place_of.ensures ∙ c.in-Some.is in
    let to_front : (d : ChangeNumber) → c.move_to_front.new.changes ≡ change_at (get_or items at d).place n ∷ (take at items ++ drop (at + 1) items) = subst (λ (l : List ChangeNumber). (d : ChangeNumber) → c.move_to_front.new.changes ≡ change_at (get_or l at d).place n ∷ (take at l ++ drop (at + 1) l)) c.deref_mut.ensures.value c.move_to_front.ensures in
    let is : take c.self.inside.changes.len (c.move_to_front.new.changes ++ drop (length c.move_to_front.new.changes) items) ≡ c.move_to_front.new.changes = grind (arith, common_steps) in
    let low : newest_of items ≤ n = subst (λ (l : List ChangeNumber). newest_of l ≤ n) (sym c.self.view_is) c.requires in
    subst (λ (l : List ChangeNumber). IsChanges l) (sym (is ∙ moved place n items c.move_to_front.new.changes at c.self.invariant there to_front)) (noted_stays place n items c.self.invariant low)

pub returns-in-Some-clause-found : goal.returns-in-Some-clause-found
returns-in-Some-clause-found c =
    let place = c.args.place.now in
    let there : position (is_change_of place) c.self.inside.changes.items ≡ Some c.in-Some.at = sym (ap (λ (l : List ChangeNumber). position (is_change_of place) l) c.deref.ensures.value) ∙ sym c.place_of.ensures ∙ c.in-Some.is in
    among_at place c.self.inside.changes.items c.in-Some.at there ∙ ap (λ (l : List ChangeNumber). is_among place l) c.self.view_is

pub returns-in-Some-clause-noted : goal.returns-in-Some-clause-noted
returns-in-Some-clause-noted c =
    let place = c.args.place.now in
    let n = c.args.number in
    let items = c.self.inside.changes.items in
    let at = c.in-Some.at in
    let there : position (is_change_of place) items ≡ Some at = sym (ap (λ (l : List ChangeNumber). position (is_change_of place) l) c.deref.ensures.value) ∙ sym c.place_of.ensures ∙ c.in-Some.is in
    let to_front : (d : ChangeNumber) → c.move_to_front.new.changes ≡ change_at (get_or items at d).place n ∷ (take at items ++ drop (at + 1) items) = subst (λ (l : List ChangeNumber). (d : ChangeNumber) → c.move_to_front.new.changes ≡ change_at (get_or l at d).place n ∷ (take at l ++ drop (at + 1) l)) c.deref_mut.ensures.value c.move_to_front.ensures in
    let is : take c.self.inside.changes.len (c.move_to_front.new.changes ++ drop (length c.move_to_front.new.changes) items) ≡ c.move_to_front.new.changes = grind (arith, common_steps) in
    is ∙ moved place n items c.move_to_front.new.changes at c.self.invariant there to_front ∙ ap (λ (l : List ChangeNumber). noted place n l) c.self.view_is

pub returns-in-None-clause-found : goal.returns-in-None-clause-found
returns-in-None-clause-found c =
    let place = c.args.place.now in
    let none : position (is_change_of place) c.self.inside.changes.items ≡ None = sym (ap (λ (l : List ChangeNumber). position (is_change_of place) l) c.deref.ensures.value) ∙ sym c.place_of.ensures ∙ c.in-None.is in
    sym (not_among place c.self.inside.changes.items none) ∙ ap (λ (l : List ChangeNumber). is_among place l) c.self.view_is

pub returns-in-None-clause-noted : goal.returns-in-None-clause-noted
returns-in-None-clause-noted c =
    let place = c.args.place.now in
    let none : position (is_change_of place) c.self.inside.changes.items ≡ None = sym (ap (λ (l : List ChangeNumber). position (is_change_of place) l) c.deref.ensures.value) ∙ sym c.place_of.ensures ∙ c.in-None.is in
    subst (λ (l : List ChangeNumber). l ≡ noted place c.args.number l) c.self.view_is (not_noted place c.args.number c.self.inside.changes.items none)

use Rattle.std.proofs.Common.{◌≡◌, ◌≤◌, ◌+◌, ◌∙◌, List, true, sym, ap, filter, length, not, subst, vec_capacity}
use Rattle.mt_model.specs.rows.Order.{are_ascending}
use Rattle.mt_model.specs.rows.Setting.{is_at, is_other_at, with_rows}
use Rattle.mt_model.specs.rows.Sight.{stands_at}
use Rattle.mt_model.specs.declared.rows.place.Row.{Row}
use Rattle.mt_model.proofs.Setting.{ascending_filter}
use Rattle.mt_model.proofs.Stored.{at_listed, items_of, kept_set, others_of_place, set_through, stored_found}
use Rattle.mt_model.proofs.rows.stored.StoredRows.set.Goals as goal

pub returns-in_default : goal.returns-in_default
returns-in_default c = absurd (stored_found c.self.inside.places c.args.place.now c.self.invariant c.requires.stored (sym c.in_default.ensures.value))

pub set_in_room-requires-clause-ascending : goal.set_in_room-requires-clause-ascending
set_in_room-requires-clause-ascending c =
    let place = c.args.place.now in
    let is : c.in-Some.rows.now.items ≡ filter (stands_at place) c.args.self.now =
    ap items_of c.in-Some.ensures.value
    ∙ sym (at_listed place c.self.inside.places.entries c.self.invariant.ordered c.self.invariant.rows_stand)
    ∙ ap (filter (stands_at place)) c.self.view_is in
    let all : are_ascending c.args.self.now ≡ true = subst (λ (l : List Row). are_ascending l ≡ true) c.self.view_is c.self.invariant.rows_ascend in
    subst (λ (l : List Row). are_ascending l ≡ true) (sym is) (ascending_filter (stands_at place) c.args.self.now all)

pub set_in_room-requires-clause-room : goal.set_in_room-requires-clause-room
set_in_room-requires-clause-room c =
    let place = c.args.place.now in
    let fabric = c.args.fabric in
    let is : filter (λ (row : Row). not (is_at place fabric row)) c.in-Some.rows.now.items ≡ filter (is_other_at place fabric) c.args.self.now =
    ap (filter (λ (row : Row). not (is_at place fabric row))) (
    ap items_of c.in-Some.ensures.value
    ∙ sym (at_listed place c.self.inside.places.entries c.self.invariant.ordered c.self.invariant.rows_stand)
    ∙ ap (filter (stands_at place)) c.self.view_is)
    ∙ others_of_place place fabric c.args.self.now in
    subst (λ (l : List Row). length l + length c.args.values ≤ vec_capacity c.args.room) (sym is) c.requires.room

pub invariant_of-self-2 : goal.invariant_of-self-2
invariant_of-self-2 c =
    kept_set c.self.inside.places (c.get_mut.follows.lender c.set_in_room.new.rows) c.args.place.now c.in-Some.rows.now c.set_in_room.new.rows c.self.invariant (c.get_mut.follows.holds c.set_in_room.new.rows) (sym c.in-Some.ensures.value)
    c.args.fabric c.args.values c.set_in_room.ensures

pub returns : goal.returns
returns c =
    set_through c.self.inside.places (c.get_mut.follows.lender c.set_in_room.new.rows) c.args.place.now c.in-Some.rows.now c.set_in_room.new.rows c.self.invariant (c.get_mut.follows.holds c.set_in_room.new.rows) (sym c.in-Some.ensures.value)
    c.args.fabric c.args.values c.set_in_room.ensures
    ∙ ap (with_rows c.args.place.now c.args.fabric c.args.values) c.self.view_is

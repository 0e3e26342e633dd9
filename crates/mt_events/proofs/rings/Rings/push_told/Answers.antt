use Rattle.std.proofs.Common.{◌≡◌, ◌-◌, ◌^◌, ◌∙◌, ◌++◌, [], List, true, ap, filter, min, subst, sym}
use Rattle.std.proofs.lemmas.List.{append-nil}
use Rattle.mt_events.specs.Asked.{asked_by}
use Rattle.mt_events.specs.Reading.{is_told}
use Rattle.mt_events.specs.Telling.{fitting, size_of}
use Rattle.mt_events.specs.Walk.{IsFirst, IsNext, behind}
use Rattle.mt_events.proofs.Sizes.{no_room}
use Rattle.mt_model.specs.declared.messages.message.Happened.{Happened}
use Rattle.mt_model.specs.declared.messages.message.Item.{Item}
use Rattle.mt_model.specs.declared.messages.message.Item.TheVariants.{Event}
use Rattle.mt_events.proofs.rings.Rings.push_told.Goals as goal

pub returns-then-size-room : goal.returns-then-size-room
returns-then-size-room c =
    let asking = asked_by c.args.reader.now in
    let fabric = c.args.reader.now.actor.now.fabric in
    let rings = c.args.self.now in
    let event = c.in-Some.event.now in
    let found : IsNext fabric rings c.events.at c.in-Some.event c.in-Some.next = subst (IsFirst fabric rings c.events.at) c.in-Some.is c.first.ensures in
    let may : is_told asking event ≡ true = sym c.is_told.ensures ∙ c.if-is_told.true in
    let copied : c.in_ok-copy.field-0 ≡ event = c.in_ok-copy.ensures in
    let size : c.item_size-size.result ≡ min (size_of (Event event)) (2 ^ 64 - 1) = c.item_size-size.ensures ∙ ap (λ (e : Happened). min (size_of (Event e)) (2 ^ 64 - 1)) copied in
    let none : fitting c.events.room (filter (is_told asking) (behind fabric rings c.events.at)) ≡ [] =
    no_room asking event (behind fabric rings c.in-Some.next) (behind fabric rings c.events.at) c.events.room c.item_size-size.result found.first may size c.if-size-room.true in
    sym (append-nil c.events.items.items) ∙ ap (λ (l : List Item). c.events.items.items ++ l) (sym none) ∙ c.events.invariant.told

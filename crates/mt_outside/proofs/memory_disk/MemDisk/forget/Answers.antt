use Rattle.std.proofs.Common.{◌≡◌, ◌-◌, length, take, drop, refl, sym, ap, subst, ◌∙◌, arith}
use Rattle.std.proofs.lemmas.Grind.{common_steps}
use Rattle.std.proofs.lemmas.List.{take-map}
use Rattle.mt_outside.specs.DiskInside.{state_of}
use Rattle.mt_outside.specs.MemoryDisk.{held_after, settled}
use Rattle.mt_outside.specs.Replaying.{AreWrites, event_of, events_of, left_after}
use Rattle.mt_outside.specs.declared.fate.Fate.TheVariants.{Kept}
use Rattle.mt_outside.proofs.DiskLogs.{events_left, forgotten_events, forgotten_first, forgotten_held}
use Rattle.mt_outside.proofs.DiskSteps.{synced_fits}
use Rattle.mt_outside.proofs.memory_disk.MemDisk.forget.Goals as goal

pub replay-requires : goal.replay-requires
replay-requires c =
    let first = c.self.inside.first.items in
    let events = events_of c.self.inside.events.items in
    let count = c.self.inside.synced in
    let taken : left_after Kept first (events_of (take count c.deref.result.now)) ≡ left_after Kept first (take count events) =
    ap (λ es. left_after Kept first (events_of (take count es))) c.deref.ensures.value ∙ ap (λ es. left_after Kept first es) (sym (take-map event_of count c.self.inside.events.items)) in
    omega (arith, ap length taken, synced_fits first events count c.self.invariant.at_rest, ap length c.self.invariant.contents, c.self.invariant.room)

pub invariant_of-self : goal.invariant_of-self
invariant_of-self c =
    let first = c.self.inside.first.items in
    let events = events_of c.self.inside.events.items in
    let count = c.self.inside.synced in
    let first_is : c.replay.new.bytes.items ≡ left_after Kept first (take count events) =
    c.replay.ensures.left ∙ ap (λ es. left_after Kept first (events_of (take count es))) c.deref.ensures.value ∙ ap (λ es. left_after Kept first es) (sym (take-map event_of count c.self.inside.events.items)) in
    let size : c.len.result - count ≡ length c.self.inside.events.items - count = grind (arith, common_steps) in
    let events_is : events_of c.truncate.new.self.items ≡ drop count events =
    events_left c.self.inside.events.items c.truncate.new.self.items count (c.len.result - count) (c.truncate.ensures.items ∙ ap (λ es. take (c.len.result - count) es) c.rotate_left.ensures.items) size in
    let same : held_after (settled c.replay.new.bytes.items) (events_of c.truncate.new.self.items) ≡ held_after (settled first) events =
    ap (λ b. held_after (settled b) (events_of c.truncate.new.self.items)) first_is ∙ ap (λ es. held_after (settled (left_after Kept first (take count events))) es) events_is
    ∙ forgotten_held first events count c.self.invariant.at_rest c.self.invariant.writes in
    record {
      contents = c.self.invariant.contents ∙ sym (ap (λ h. h.kept) same);
      within = omega arith;
      at_rest = refl;
      writes = subst AreWrites (sym events_is) c.self.invariant.writes;
      room = omega (arith, c.self.invariant.room, c.replay.ensures.capacity);
    }

pub returns-clause-forgotten : goal.returns-clause-forgotten
returns-clause-forgotten c =
    let first = c.self.inside.first.items in
    let events = events_of c.self.inside.events.items in
    let count = c.self.inside.synced in
    let first_is : c.replay.new.bytes.items ≡ left_after Kept first (take count events) =
    c.replay.ensures.left ∙ ap (λ es. left_after Kept first (events_of (take count es))) c.deref.ensures.value ∙ ap (λ es. left_after Kept first es) (sym (take-map event_of count c.self.inside.events.items)) in
    let size : c.len.result - count ≡ length c.self.inside.events.items - count = grind (arith, common_steps) in
    let events_is : events_of c.truncate.new.self.items ≡ drop count events =
    events_left c.self.inside.events.items c.truncate.new.self.items count (c.len.result - count) (c.truncate.ensures.items ∙ ap (λ es. take (c.len.result - count) es) c.rotate_left.ensures.items) size in
    rw (← c.self.view_is)
    (ap (λ b. record (state_of c.self.inside) { first = b; events = events_of c.truncate.new.self.items }) (first_is ∙ forgotten_first first events count c.self.invariant.at_rest c.self.invariant.writes)
    ∙ ap (λ es. record (state_of c.self.inside) { first = (held_after (settled first) events).lost; events = es }) (events_is ∙ forgotten_events first events count c.self.invariant.at_rest c.self.invariant.writes))

pub returns-clause-held : goal.returns-clause-held
returns-clause-held c =
    let first = c.self.inside.first.items in
    let events = events_of c.self.inside.events.items in
    let count = c.self.inside.synced in
    let first_is : c.replay.new.bytes.items ≡ left_after Kept first (take count events) =
    c.replay.ensures.left ∙ ap (λ es. left_after Kept first (events_of (take count es))) c.deref.ensures.value ∙ ap (λ es. left_after Kept first es) (sym (take-map event_of count c.self.inside.events.items)) in
    let size : c.len.result - count ≡ length c.self.inside.events.items - count = grind (arith, common_steps) in
    let events_is : events_of c.truncate.new.self.items ≡ drop count events =
    events_left c.self.inside.events.items c.truncate.new.self.items count (c.len.result - count) (c.truncate.ensures.items ∙ ap (λ es. take (c.len.result - count) es) c.rotate_left.ensures.items) size in
    let same : held_after (settled c.replay.new.bytes.items) (events_of c.truncate.new.self.items) ≡ held_after (settled first) events =
    ap (λ b. held_after (settled b) (events_of c.truncate.new.self.items)) first_is ∙ ap (λ es. held_after (settled (left_after Kept first (take count events))) es) events_is
    ∙ forgotten_held first events count c.self.invariant.at_rest c.self.invariant.writes in
    rw (← c.self.view_is) same

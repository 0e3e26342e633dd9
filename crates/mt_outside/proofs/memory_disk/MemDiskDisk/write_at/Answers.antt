use Rattle.std.proofs.Common.{◌≡◌, ℕ, ◌≤◌, List, [], ◌∷◌, length, vec_capacity, Some, refl, sym, ap, ◌∙◌, arith, inl, inr}
use Rattle.std.proofs.lemmas.Grind.{common_steps}
use Rattle.mt_outside.specs.Disk.{overwritten}
use Rattle.mt_outside.specs.DiskInside.{state_of}
use Rattle.mt_outside.specs.Logs.{log_of}
use Rattle.mt_outside.specs.MemoryDisk.{contents_of}
use Rattle.mt_outside.specs.MemoryDisk.DiskEvent.{wrote}
use Rattle.mt_outside.specs.Replaying.{events_of}
use Rattle.mt_outside.proofs.DiskLogs.{log_is, logs_done, logs_stopped}
use Rattle.mt_outside.proofs.DiskSound.{pushed_write, sound_wrote}
use Rattle.mt_outside.proofs.DiskSteps.{contents_still, contents_wrote, crash_still, crash_wrote, elapses_still, elapses_to, same_part, wrote_part}
use Rattle.mt_outside.proofs.Overwriting.{length-overwritten}
use Rattle.mt_outside.proofs.memory_disk.MemDiskDisk.write_at.Goals as goal

pub returns-then-listed-clause-crash : goal.returns-then-listed-clause-crash
returns-then-listed-clause-crash c =
    let events = events_of c.self.inside.events.items in
    rw (← c.self.view_is) (crash_still c.self.inside.first.items c.self.inside.first.items events events c.args.at (length c.args.from.now) refl refl)

-- no memory was left

pub returns-in_default-clause-part : goal.returns-in_default-clause-part
returns-in_default-clause-part c =
    let still = contents_still c.self.inside.first.items c.prepare.new.first.items (events_of c.self.inside.events.items) (events_of c.prepare.new.events.items) c.in_default.ensures.first (ap events_of c.in_default.ensures.events) in
    rw (← c.self.view_is) (rw still (same_part c.args.at (length c.args.from.now) (contents_of (state_of c.self.inside))))

pub returns-in_default-clause-crash : goal.returns-in_default-clause-crash
returns-in_default-clause-crash c =
    rw (← c.self.view_is)
    (crash_still c.self.inside.first.items c.prepare.new.first.items (events_of c.self.inside.events.items) (events_of c.prepare.new.events.items) c.args.at (length c.args.from.now) c.in_default.ensures.first (ap events_of c.in_default.ensures.events))

pub returns-in_default-clause-time : goal.returns-in_default-clause-time
returns-in_default-clause-time c =
    rw (← c.self.view_is)
    (elapses_still c.self.inside.first.items c.prepare.new.first.items (events_of c.self.inside.events.items) (events_of c.prepare.new.events.items) c.in_default.ensures.first (ap events_of c.in_default.ensures.events))

-- the disk stops

pub invariant_of-self-then-count_down : goal.invariant_of-self-then-count_down
invariant_of-self-then-count_down c =
    let events = pushed_write c.self.inside.events.items c.prepare.new.events.items c.push_reserved.new.self.items c.args.at c.in-Ok.copy c.args.from.now c.in-Ok.ensures.events c.push_reserved.ensures.items c.in-Ok.ensures.copy in
    let written : c.overwrite.new.bytes.items ≡ overwritten c.args.at c.args.from.now c.self.inside.bytes.items =
    c.overwrite.ensures.written ∙ ap (λ (b : List ℕ). overwritten c.args.at c.args.from.now b) c.in-Ok.ensures.bytes in
    let room : length c.overwrite.new.bytes.items ≤ vec_capacity c.prepare.new.first =
    grind (arith, common_steps, written, length-overwritten c.args.at c.args.from.now c.self.inside.bytes.items, c.in-Ok.ensures.first_room) in
    sound_wrote c.self.inside _ c.args.at c.args.from.now c.self.invariant c.in-Ok.ensures.first events refl written room

pub returns-then-count_down-clause-part : goal.returns-then-count_down-clause-part
returns-then-count_down-clause-part c =
    let events = pushed_write c.self.inside.events.items c.prepare.new.events.items c.push_reserved.new.self.items c.args.at c.in-Ok.copy c.args.from.now c.in-Ok.ensures.events c.push_reserved.ensures.items c.in-Ok.ensures.copy in
    let wrote_it = contents_wrote c.self.inside.first.items c.prepare.new.first.items (events_of c.self.inside.events.items) (events_of c.push_reserved.new.self.items) c.args.at c.args.from.now c.in-Ok.ensures.first events in
    rw (← c.self.view_is) (wrote_part c.args.at c.args.from.now (contents_of (state_of c.self.inside)) _ wrote_it)

pub returns-then-count_down-clause-crash : goal.returns-then-count_down-clause-crash
returns-then-count_down-clause-crash c =
    let events = pushed_write c.self.inside.events.items c.prepare.new.events.items c.push_reserved.new.self.items c.args.at c.in-Ok.copy c.args.from.now c.in-Ok.ensures.events c.push_reserved.ensures.items c.in-Ok.ensures.copy in
    rw (← c.self.view_is) (crash_wrote c.self.inside.first.items c.prepare.new.first.items (events_of c.self.inside.events.items) (events_of c.push_reserved.new.self.items) c.args.at c.args.from.now c.in-Ok.ensures.first events)

pub returns-then-count_down-clause-time : goal.returns-then-count_down-clause-time
returns-then-count_down-clause-time c =
    let events = pushed_write c.self.inside.events.items c.prepare.new.events.items c.push_reserved.new.self.items c.args.at c.in-Ok.copy c.args.from.now c.in-Ok.ensures.events c.push_reserved.ensures.items c.in-Ok.ensures.copy in
    rw (← c.self.view_is) (elapses_to c.self.inside.first.items c.prepare.new.first.items (events_of c.self.inside.events.items) (events_of c.push_reserved.new.self.items) (wrote c.args.at c.args.from.now) c.in-Ok.ensures.first events)

-- the write is done

pub invariant_of-self-else-count_down : goal.invariant_of-self-else-count_down
invariant_of-self-else-count_down c =
    let events = pushed_write c.self.inside.events.items c.prepare.new.events.items c.push_reserved.new.self.items c.args.at c.in-Ok.copy c.args.from.now c.in-Ok.ensures.events c.push_reserved.ensures.items c.in-Ok.ensures.copy in
    let written : c.overwrite.new.bytes.items ≡ overwritten c.args.at c.args.from.now c.self.inside.bytes.items =
    c.overwrite.ensures.written ∙ ap (λ (b : List ℕ). overwritten c.args.at c.args.from.now b) c.in-Ok.ensures.bytes in
    let room : length c.overwrite.new.bytes.items ≤ vec_capacity c.prepare.new.first =
    grind (arith, common_steps, written, length-overwritten c.args.at c.args.from.now c.self.inside.bytes.items, c.in-Ok.ensures.first_room) in
    sound_wrote c.self.inside _ c.args.at c.args.from.now c.self.invariant c.in-Ok.ensures.first events refl written room

pub returns-clause-wrote : goal.returns-clause-wrote
returns-clause-wrote c =
    let events = pushed_write c.self.inside.events.items c.prepare.new.events.items c.push_reserved.new.self.items c.args.at c.in-Ok.copy c.args.from.now c.in-Ok.ensures.events c.push_reserved.ensures.items c.in-Ok.ensures.copy in
    rw (← c.self.view_is) (ap Some (contents_wrote c.self.inside.first.items c.prepare.new.first.items (events_of c.self.inside.events.items) (events_of c.push_reserved.new.self.items) c.args.at c.args.from.now c.in-Ok.ensures.first events))

pub returns-clause-crash : goal.returns-clause-crash
returns-clause-crash c =
    let events = pushed_write c.self.inside.events.items c.prepare.new.events.items c.push_reserved.new.self.items c.args.at c.in-Ok.copy c.args.from.now c.in-Ok.ensures.events c.push_reserved.ensures.items c.in-Ok.ensures.copy in
    rw (← c.self.view_is) (crash_wrote c.self.inside.first.items c.prepare.new.first.items (events_of c.self.inside.events.items) (events_of c.push_reserved.new.self.items) c.args.at c.args.from.now c.in-Ok.ensures.first events)

pub returns-clause-time : goal.returns-clause-time
returns-clause-time c =
    let events = pushed_write c.self.inside.events.items c.prepare.new.events.items c.push_reserved.new.self.items c.args.at c.in-Ok.copy c.args.from.now c.in-Ok.ensures.events c.push_reserved.ensures.items c.in-Ok.ensures.copy in
    rw (← c.self.view_is) (elapses_to c.self.inside.first.items c.prepare.new.first.items (events_of c.self.inside.events.items) (events_of c.push_reserved.new.self.items) (wrote c.args.at c.args.from.now) c.in-Ok.ensures.first events)

pub returns-clause-refused : goal.returns-clause-refused
returns-clause-refused c =
    rw (← c.self.view_is) (elim [ inl refused ↦ elim refused [ inl listed ↦ grind (arith, common_steps) | inr stopped ↦ grind (arith, common_steps) ] | inr far ↦ grind (arith, common_steps) ])

pub returns-then-count_down-clause-logged : goal.returns-then-count_down-clause-logged
returns-then-count_down-clause-logged c =
    let events = pushed_write c.self.inside.events.items c.prepare.new.events.items c.push_reserved.new.self.items c.args.at c.in-Ok.copy c.args.from.now c.in-Ok.ensures.events c.push_reserved.ensures.items c.in-Ok.ensures.copy in
    let logged = log_is c.self.inside.first.items c.prepare.new.first.items (events_of c.self.inside.events.items) (events_of c.push_reserved.new.self.items) (wrote c.args.at c.args.from.now ∷ []) c.in-Ok.ensures.first events in
    rw (← c.self.view_is) (logs_stopped (wrote c.args.at c.args.from.now) (log_of (state_of c.self.inside)) _ c.self.inside.stop c.count_down.new.stop _ logged c.count_down.ensures.fewer (sym c.count_down.ensures.stops ∙ c.if-count_down.true))

pub returns-clause-logged : goal.returns-clause-logged
returns-clause-logged c =
    let events = pushed_write c.self.inside.events.items c.prepare.new.events.items c.push_reserved.new.self.items c.args.at c.in-Ok.copy c.args.from.now c.in-Ok.ensures.events c.push_reserved.ensures.items c.in-Ok.ensures.copy in
    let logged = log_is c.self.inside.first.items c.prepare.new.first.items (events_of c.self.inside.events.items) (events_of c.push_reserved.new.self.items) (wrote c.args.at c.args.from.now ∷ []) c.in-Ok.ensures.first events in
    rw (← c.self.view_is)
    (logs_done (wrote c.args.at c.args.from.now) (log_of (state_of c.self.inside)) _ c.self.inside.stop c.count_down.new.stop tt logged c.count_down.ensures.fewer (sym c.is_stopped.ensures ∙ c.if-is_stopped.false)
    (sym c.count_down.ensures.stops ∙ c.if-count_down.false))

use Rattle.std.proofs.Common.{◌≡◌, length, refl, ap, ◌∙◌, arith}
use Rattle.std.proofs.lemmas.Grind.{common_steps}
use Rattle.mt_outside.specs.MemoryDisk.DiskEvent.{synced}
use Rattle.mt_outside.specs.Replaying.{events_of}
use Rattle.mt_outside.specs.declared.replaying.Event.TheVariants.{Synced}
use Rattle.mt_outside.proofs.DiskSound.{pushed, sound_synced}
use Rattle.mt_outside.proofs.DiskSteps.{contents_synced, crash_synced, elapses_still, elapses_to, only_contents}
use Rattle.mt_outside.proofs.memory_disk.MemDiskDisk.sync.Goals as goal
use Rattle.mt_outside.proofs.memory_disk.MemDiskDisk.sync.Goals.{then-listed-via-then-listed, then-listed-via-else-listed+then-is_stopped, then-listed-via-else-listed+else-is_stopped+then-is_err, then-listed-via-else-listed+else-is_stopped+else-is_err+then-count_down}

pub returns-then-listed-clause-time : goal.returns-then-listed-clause-time
returns-then-listed-clause-time c =
    let first : c.then-listed.self-inside.first.items ≡ c.self.inside.first.items = elim c.then-listed.branch [
      | then-listed-via-then-listed w ↦ ap (λ inside. inside.first.items) w.self-inside-is
      | then-listed-via-else-listed+then-is_stopped w ↦ ap (λ inside. inside.first.items) w.self-inside-is
      | then-listed-via-else-listed+else-is_stopped+then-is_err w ↦ ap (λ inside. inside.first.items) w.self-inside-is
      | then-listed-via-else-listed+else-is_stopped+else-is_err+then-count_down w ↦ ap (λ inside. inside.first.items) w.self-inside-is
    ] in
    let events : c.then-listed.self-inside.events.items ≡ c.self.inside.events.items = elim c.then-listed.branch [
      | then-listed-via-then-listed w ↦ ap (λ inside. inside.events.items) w.self-inside-is
      | then-listed-via-else-listed+then-is_stopped w ↦ ap (λ inside. inside.events.items) w.self-inside-is
      | then-listed-via-else-listed+else-is_stopped+then-is_err w ↦ ap (λ inside. inside.events.items) w.self-inside-is ∙ w.reserve.ensures.items
      | then-listed-via-else-listed+else-is_stopped+else-is_err+then-count_down w ↦ ap (λ inside. inside.events.items) w.self-inside-is ∙ w.reserve.ensures.items
    ] in
    rw (← c.self.view_is) (elapses_still c.self.inside.first.items c.then-listed.self-inside.first.items (events_of c.self.inside.events.items) (events_of c.then-listed.self-inside.events.items) first (ap events_of events))

pub invariant_of-self-2 : goal.invariant_of-self-2
invariant_of-self-2 c =
    let events = pushed c.self.inside.events.items c.reserve.new.self.items c.push_reserved.new.self.items Synced c.reserve.ensures.items c.push_reserved.ensures.items in
    let all : c.len-self-inside.result ≡ length c.push_reserved.new.self.items = grind (arith, common_steps) in
    sound_synced c.self.inside _ c.self.invariant refl events all refl

pub returns-clause-safe : goal.returns-clause-safe
returns-clause-safe c =
    let events = pushed c.self.inside.events.items c.reserve.new.self.items c.push_reserved.new.self.items Synced c.reserve.ensures.items c.push_reserved.ensures.items in
    only_contents c.self.inside.first.items (events_of c.self.inside.events.items) (events_of c.push_reserved.new.self.items) events

pub returns-clause-kept : goal.returns-clause-kept
returns-clause-kept c =
    let events = pushed c.self.inside.events.items c.reserve.new.self.items c.push_reserved.new.self.items Synced c.reserve.ensures.items c.push_reserved.ensures.items in
    rw (← c.self.view_is) (contents_synced c.self.inside.first.items (events_of c.self.inside.events.items) (events_of c.push_reserved.new.self.items) events)

pub returns-clause-crash : goal.returns-clause-crash
returns-clause-crash c =
    let events = pushed c.self.inside.events.items c.reserve.new.self.items c.push_reserved.new.self.items Synced c.reserve.ensures.items c.push_reserved.ensures.items in
    rw (← c.self.view_is) (crash_synced c.self.inside.first.items (events_of c.self.inside.events.items) (events_of c.push_reserved.new.self.items) events)

pub returns-clause-time : goal.returns-clause-time
returns-clause-time c =
    let events = pushed c.self.inside.events.items c.reserve.new.self.items c.push_reserved.new.self.items Synced c.reserve.ensures.items c.push_reserved.ensures.items in
    rw (← c.self.view_is) (elapses_to c.self.inside.first.items c.self.inside.first.items (events_of c.self.inside.events.items) (events_of c.push_reserved.new.self.items) synced refl events)

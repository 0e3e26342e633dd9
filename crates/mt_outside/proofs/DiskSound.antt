-- The disk in memory keeps ready what a read gives, and room for a restart.
use Rattle.std.proofs.Common.{◌≡◌, ℕ, ◌≤◌, List, [], ◌∷◌, ◌++◌, length, take, drop, Vec, Global, vec_capacity, sym, ap, subst, ◌∙◌, arith}
use Rattle.std.proofs.lemmas.List.{take_all, drop_all, take-append-le, drop-append-le, length-map, length_push, map-append}
use Rattle.mt_outside.specs.Disk.{overwritten}
use Rattle.mt_outside.specs.DiskInside.{IsSound}
use Rattle.mt_outside.specs.MemoryDisk.{DiskEvent, Held, held_after, settled}
use Rattle.mt_outside.specs.MemoryDisk.DiskEvent.{wrote, synced}
use Rattle.mt_outside.specs.Replaying.{AreWrites, event_of, events_of}
use Rattle.mt_outside.specs.declared.memory_disk.MemDisk.TheInside.{Inside}
use Rattle.mt_outside.specs.declared.replaying.Event.{Event}
use Rattle.mt_outside.specs.declared.replaying.Event.TheVariants.{Wrote}
use Rattle.mt_outside.proofs.DiskSteps.{contents_wrote, contents_synced, held_synced}

pub pushed : (old mid new : List Event) (event : Event) → mid ≡ old → new ≡ mid ++ event ∷ [] → events_of new ≡ events_of old ++ event_of event ∷ []
pushed old mid new event same is = ap events_of is ∙ map-append event_of mid (event ∷ []) ∙ ap (λ (es : List Event). events_of es ++ event_of event ∷ []) same

pub pushed_write : (old mid new : List Event) (at : ℕ) (copy : Vec ℕ Global) (from : List ℕ) → mid ≡ old → new ≡ mid ++ Wrote at copy ∷ [] → copy.items ≡ from → events_of new ≡ events_of old ++ wrote at from ∷ []
pushed_write old mid new at copy from same is copied = pushed old mid new (Wrote at copy) same is ∙ ap (λ (b : List ℕ). events_of old ++ wrote at b ∷ []) copied

pub writes_push : (events : List DiskEvent) (at : ℕ) (bytes : List ℕ) → AreWrites events → AreWrites (events ++ wrote at bytes ∷ [])
writes_push [] at bytes all = all
writes_push (wrote a b ∷ events) at bytes all = writes_push events at bytes all
writes_push (synced ∷ events) at bytes all = absurd all

pub sound_wrote : (inside after : Inside) (at : ℕ) (bytes : List ℕ) → IsSound inside → after.first.items ≡ inside.first.items
    → events_of after.events.items ≡ events_of inside.events.items ++ wrote at bytes ∷ [] → after.synced ≡ inside.synced
    → after.bytes.items ≡ overwritten at bytes inside.bytes.items → length after.bytes.items ≤ vec_capacity after.first → IsSound after
sound_wrote inside after at bytes sound first events same written room =
    let old = events_of inside.events.items in
    let fits : inside.synced ≤ length old = omega (arith, sound.within, length-map inside.events.items event_of) in
    let longer = ap length events in
    let front : take after.synced (events_of after.events.items) ≡ take inside.synced old =
    ap (λ (n : ℕ). take n (events_of after.events.items)) same ∙ ap (λ (es : List DiskEvent). take inside.synced es) events ∙ take-append-le inside.synced old (wrote at bytes ∷ []) fits in
    let back : drop after.synced (events_of after.events.items) ≡ drop inside.synced old ++ wrote at bytes ∷ [] =
    ap (λ (n : ℕ). drop n (events_of after.events.items)) same ∙ ap (λ (es : List DiskEvent). drop inside.synced es) events ∙ drop-append-le inside.synced old (wrote at bytes ∷ []) fits in
    let Rests : List ℕ → List DiskEvent → Type 0 = λ f es. held_after (settled f) es ≡ settled (held_after (settled f) es).kept in
    record {
      contents = written ∙ ap (λ (b : List ℕ). overwritten at bytes b) sound.contents ∙ sym (contents_wrote inside.first.items after.first.items old (events_of after.events.items) at bytes first events);
      within = omega (arith, sound.within, same, longer, length_push old (wrote at bytes), length-map inside.events.items event_of, length-map after.events.items event_of);
      at_rest = subst (λ (f : List ℕ). Rests f (take after.synced (events_of after.events.items))) (sym first) (subst (λ (es : List DiskEvent). Rests inside.first.items es) (sym front) sound.at_rest);
      writes = subst AreWrites (sym back) (writes_push (drop inside.synced old) at bytes sound.writes);
      room = room;
    }

pub sound_synced : (inside after : Inside) → IsSound inside → after.first ≡ inside.first
    → events_of after.events.items ≡ events_of inside.events.items ++ synced ∷ [] → after.synced ≡ length after.events.items
    → after.bytes ≡ inside.bytes → IsSound after
sound_synced inside after sound first events all bytes =
    let old = events_of inside.events.items in
    let new = events_of after.events.items in
    let enough : length new ≤ after.synced = omega (arith, all, length-map after.events.items event_of) in
    let Rests : List DiskEvent → Type 0 = λ es. held_after (settled after.first.items) es ≡ settled (held_after (settled after.first.items) es).kept in
    let firsts : after.first.items ≡ inside.first.items = ap (λ (v : Vec ℕ Global). v.items) first in
    let here : held_after (settled after.first.items) new ≡ settled (held_after (settled after.first.items) old).kept = held_synced after.first.items old new events in
    let rests : Rests new = here ∙ ap (λ (h : Held). settled h.kept) (sym here) in
    record {
      contents = ap (λ (v : Vec ℕ Global). v.items) bytes ∙ sound.contents ∙ ap (λ (f : List ℕ). (held_after (settled f) old).kept) (sym firsts) ∙ sym (contents_synced after.first.items old new events);
      within = omega (arith, all);
      at_rest = subst Rests (sym (take_all after.synced new enough)) rests;
      writes = subst AreWrites (sym (drop_all after.synced new enough)) tt;
      room = subst (λ (v : Vec ℕ Global). length v.items ≤ vec_capacity after.first) (sym bytes) (subst (λ (v : Vec ℕ Global). length inside.bytes.items ≤ vec_capacity v) (sym first) sound.room);
    }

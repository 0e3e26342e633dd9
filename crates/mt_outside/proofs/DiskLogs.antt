-- The log of the disk in memory, call by call, and what it forgets of it.
use Rattle.std.proofs.Common.{◌≡◌, ℕ, zero, suc, ◌-◌, List, [], ◌∷◌, ◌++◌, length, take, drop, Some, None, refl, sym, ap, ◌∙◌, arith, append_assoc}
use Rattle.std.proofs.lemmas.Bool.Decides.{nat_tests}
use Rattle.std.proofs.lemmas.List.{take-append-drop, take_at, length-drop, length_push, append-nil}
use Rattle.std.specs.Prelude.{Err, Ok, Option, true, false}
use Rattle.mt_outside.specs.Logs.{DiskLog, Logs, StoppedIn, done_until, fewer, log_after}
use Rattle.mt_outside.specs.MemoryDisk.{DiskEvent, Held, held_after, held_after_one, settled, unsynced, unsynced_after}
use Rattle.mt_outside.specs.MemoryDisk.DiskEvent.{wrote, synced}
use Rattle.mt_outside.specs.Replaying.{AreWrites, IsAtRest, events_of, left_after}
use Rattle.mt_outside.specs.Stops.{has_stopped, one_fewer, stops_next}
use Rattle.mt_outside.specs.declared.fate.Fate.TheVariants.{Kept}
use Rattle.mt_outside.specs.declared.replaying.Event.{Event}
use Rattle.mt_outside.specs.declared.stop.Stop.{Stop}
use Rattle.mt_outside.proofs.DiskSteps.{held_append, kept_again}

-- One write or sync more.

log_same : (log : Option DiskLog) → log_after log [] ≡ log
log_same None = refl
log_same (Some log) = ap (λ (es : List DiskEvent). Some (record { first = log.first; events = es })) (append-nil log.events)

one_fewer_is : (stop : Option Stop) → one_fewer stop ≡ fewer 1 stop
one_fewer_is None = refl
one_fewer_is (Some stop) = refl

goes_on_after : (stop : Option Stop) → has_stopped stop ≡ false → stops_next stop ≡ false → has_stopped (one_fewer stop) ≡ false
goes_on_after None a b = refl
goes_on_after (Some stop) a b = grind (arith, nat_tests)

was_refused : (event : DiskEvent) (before after : Option DiskLog) (stop now : Option Stop) → after ≡ before → now ≡ stop → has_stopped now ≡ true → StoppedIn (event ∷ []) before after stop now
was_refused event before after None now same is halts = absurd (grind (arith, is, halts))
was_refused event before after (Some stop) now same is halts =
    let zero_is : stop.calls ≡ 0 = grind (arith, nat_tests, is, halts) in (
      omega (arith, zero_is),
      same ∙ sym (log_same before) ∙ ap (λ (n : ℕ). log_after before (done_until n (event ∷ []))) (sym zero_is),
      is ∙ ap (λ (n : ℕ). Some (record stop { calls = n })) zero_is,
    )

did_stop : (event : DiskEvent) (before after : Option DiskLog) (stop now : Option Stop) → after ≡ log_after before (done_until 1 (event ∷ [])) → now ≡ one_fewer stop → stops_next stop ≡ true → StoppedIn (event ∷ []) before after stop now
did_stop event before after None now logged is next = absurd (grind (arith, next))
did_stop event before after (Some stop) now logged is next =
    let one_is : stop.calls ≡ 1 = grind (arith, nat_tests, next) in (
      omega (arith, one_is),
      logged ∙ ap (λ (n : ℕ). log_after before (done_until n (event ∷ []))) (sym one_is),
      is ∙ ap (λ (n : ℕ). Some (record stop { calls = n - 1 })) one_is,
    )

pub log_is : (first after : List ℕ) (events later more : List DiskEvent) → after ≡ first → later ≡ events ++ more → Some (record { first = after; events = later }) ≡ log_after (Some (record { first = first; events = events })) more
log_is first after events later more same is = ap (λ (b : List ℕ). Some (record { first = b; events = later })) same ∙ ap (λ (es : List DiskEvent). Some (record { first = first; events = es })) is

module _ {T E : Type 0} (event : DiskEvent) (before after : Option DiskLog) (stop now : Option Stop) where
  pub logs_done : (x : T) → after ≡ log_after before (event ∷ []) → now ≡ one_fewer stop → has_stopped stop ≡ false → stops_next stop ≡ false → Logs {T = T} {E = E} (event ∷ []) before after stop now (Ok x)
  logs_done x logged is here next = record {
    done = (logged, is ∙ one_fewer_is stop);
    goes_on = λ halts. absurd (let no : has_stopped now ≡ false = ap has_stopped is ∙ goes_on_after stop here next in grind (arith, halts, no));
    stopped = tt;
  }

  pub logs_refused : (e : E) → after ≡ before → now ≡ stop → Logs {T = T} {E = E} (event ∷ []) before after stop now (Err e)
  logs_refused e same is = record { done = tt; goes_on = tt; stopped = was_refused event before after stop now same is }

  pub logs_stopped : (e : E) → after ≡ log_after before (done_until 1 (event ∷ [])) → now ≡ one_fewer stop → stops_next stop ≡ true → Logs {T = T} {E = E} (event ∷ []) before after stop now (Err e)
  logs_stopped e logged is next = record { done = tt; goes_on = tt; stopped = λ halts. did_stop event before after stop now logged is next }

-- What is forgotten.

unsynced_writes : (so_far events : List DiskEvent) → AreWrites events → unsynced_after so_far events ≡ so_far ++ events
unsynced_writes so_far [] all = sym (append-nil so_far)
unsynced_writes so_far (wrote at bytes ∷ events) all = unsynced_writes (so_far ++ wrote at bytes ∷ []) events all ∙ append_assoc so_far (wrote at bytes ∷ []) events
unsynced_writes so_far (synced ∷ events) all = absurd all

unsynced_append : (so_far one other : List DiskEvent) → unsynced_after so_far (one ++ other) ≡ unsynced_after (unsynced_after so_far one) other
unsynced_append so_far [] other = refl
unsynced_append so_far (wrote at bytes ∷ one) other = unsynced_append (so_far ++ wrote at bytes ∷ []) one other
unsynced_append so_far (synced ∷ one) other = unsynced_append [] one other

-- as many as there are ranges
length-unsynced : (here : Held) (so_far events : List DiskEvent) → length so_far ≡ length here.ranges → length (unsynced_after so_far events) ≡ length (held_after here events).ranges
length-unsynced here so_far [] same = same
length-unsynced here so_far (wrote at bytes ∷ events) same = length-unsynced (held_after_one here (wrote at bytes)) (so_far ++ wrote at bytes ∷ []) events (omega (arith, same, length_push so_far (wrote at bytes)))
length-unsynced here so_far (synced ∷ events) same = length-unsynced (settled here.kept) [] events refl

none_there : (events : List DiskEvent) → length events ≡ 0 → events ≡ []
none_there [] none = refl
none_there (event ∷ events) none = absurd (omega (arith, none))

lost_still : (here : Held) (events : List DiskEvent) → AreWrites events → (held_after here events).lost ≡ here.lost
lost_still here [] all = refl
lost_still here (wrote at bytes ∷ events) all = lost_still (held_after_one here (wrote at bytes)) events all
lost_still here (synced ∷ events) all = absurd all

module _ (first : List ℕ) (events : List DiskEvent) (count : ℕ) (at_rest : IsAtRest (held_after (settled first) (take count events))) (writes : AreWrites (drop count events)) where
  abbrev there : Held
  there = held_after (settled first) (take count events)

  split : held_after (settled first) events ≡ held_after there (drop count events)
  split = ap (λ (es : List DiskEvent). held_after (settled first) es) (sym (take-append-drop count events)) ∙ held_append (settled first) (take count events) (drop count events)

  pub forgotten_first : left_after Kept first (take count events) ≡ (held_after (settled first) events).lost
  forgotten_first =
      kept_again (settled first) (take count events)
      ∙ sym (ap (λ (h : Held). h.lost) at_rest)
      ∙ sym (lost_still there (drop count events) writes)
      ∙ sym (ap (λ (h : Held). h.lost) split)

  pub forgotten_events : drop count events ≡ unsynced events
  forgotten_events =
      let none : unsynced_after [] (take count events) ≡ [] =
      none_there (unsynced_after [] (take count events)) (length-unsynced (settled first) [] (take count events) refl ∙ ap (λ (h : Held). length h.ranges) at_rest) in
      sym (ap unsynced (sym (take-append-drop count events))
      ∙ unsynced_append [] (take count events) (drop count events)
      ∙ ap (λ (es : List DiskEvent). unsynced_after es (drop count events)) none
      ∙ unsynced_writes [] (drop count events) writes)

  -- what is left by each fate is the same
  pub forgotten_held : held_after (settled (left_after Kept first (take count events))) (drop count events) ≡ held_after (settled first) events
  forgotten_held =
      ap (λ (b : List ℕ). held_after (settled b) (drop count events)) (kept_again (settled first) (take count events))
      ∙ ap (λ (h : Held). held_after h (drop count events)) (sym at_rest)
      ∙ sym split

-- the events that are kept are those behind the latest sync
pub events_drop : (count : ℕ) (events : List Event) → events_of (drop count events) ≡ drop count (events_of events)
events_drop zero events = refl
events_drop (suc count) [] = refl
events_drop (suc count) (event ∷ events) = events_drop count events

pub events_left : (events left : List Event) (count size : ℕ) → left ≡ take size (drop count events ++ take count events) → size ≡ length events - count → events_of left ≡ drop count (events_of events)
events_left events left count size is there =
    ap events_of (is ∙ take_at (drop count events) (take count events) size (omega (arith, there, length-drop count events))) ∙ events_drop count events

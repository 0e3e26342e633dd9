-- A turn with the node: the book that is found and the one that is left.
use Rattle.std.proofs.Common.{◌≡◌, ◌∙◌, sym, ap, subst, ℕ, ◌<◌, inl, inr, refl, true, false, List, [], ◌∷◌, ◌++◌, length, Result, Ok, Err, IfOk, IfErr, OnOk, slice_get, Option, Some, None, append_assoc}
use mathlib.Core.List.{IsPrefix}
use Rattle.mt_turn.specs.Counts.{how_often}
use Rattle.mt_turn.specs.Known.{GrowsByOne, entered, left, places_after}
use Rattle.mt_interactions.specs.Configured.{ConfiguredInteractions}
use Rattle.mt_shared.specs.Acts.{IsEntered, Refuses}
use Rattle.mt_shared.specs.Book.{done, failed, first_of, is_full, lines_in, record_size, stop_in, time_for}
use Rattle.mt_shared.specs.Replay.{told}
use Rattle.mt_shared.specs.Shared.{IsAnswered, IsRefused, NodePass}
use Rattle.mt_shared.specs.declared.entry.ActFault.{ActFault}
use Rattle.mt_shared.specs.declared.entry.ActFault.TheVariants.{Stopped, RecordFull, Memory}
use Rattle.mt_shared.specs.declared.entry.Call.{Call}
use Rattle.mt_shared.specs.declared.entry.Entry.{Entry}
use Rattle.mt_shared.specs.declared.entry.Stamped.{Stamped}
use Rattle.mt_shared.specs.declared.entry.Stop.{Stop}

refused_grows : (fault : ActFault) (call : Call) (found book : List Entry) → Refuses fault call found book → GrowsByOne found book
refused_grows (Stopped stop) call found book refuses = elim refuses.grown [ inl same ↦ inl same | inr more ↦ inr (failed call (time_for found call) stop, more) ]
refused_grows (RecordFull entries bytes) call found book refuses = inl refuses.same
refused_grows Memory call found book refuses = inl refuses.same

-- a call adds one entry at most
pub grows : (result : Result Stamped ActFault) (origin : ConfiguredInteractions) (found book : List Entry) (call : Call) → IfOk result (IsEntered origin found book call) → IfErr result (λ fault. Refuses fault call found book) → GrowsByOne found book
grows (Ok stamped) origin found book call enters refuses = inr (done call stamped.ms, enters.grown)
grows (Err fault) origin found book call enters refuses = refused_grows fault call found book refuses

pub answered : (origin : ConfiguredInteractions) (old mid new : NodePass) (found book : List Entry) (call : Call) (stamped : Stamped) → mid ≡ entered old found → IsPrefix old.seen found
    → ((k : ℕ) → 0 < how_often k old.places → k < length found) → IsEntered origin found book call stamped → is_full found call ≡ false → stop_in found ≡ None → new ≡ left mid book
    → ((entry : Entry) → book ≡ mid.found ++ entry ∷ [] → new.places ≡ mid.places ++ length mid.found ∷ []) → IsAnswered origin old new call stamped
answered origin old mid new found book call stamped inside begins above enters room runs outside grown =
    let found_is : mid.found ≡ found = ap (λ (p : NodePass). p.found) inside in
    let places_are : mid.places ≡ old.places = ap (λ (p : NodePass). p.places) inside in
    let more : book ≡ mid.found ++ done call stamped.ms ∷ [] = enters.grown ∙ ap (λ (b : List Entry). b ++ done call stamped.ms ∷ []) (sym found_is) in
    let places : new.places ≡ old.places ++ length found ∷ [] = grown (done call stamped.ms) more ∙ (λ i. places_are i ++ length (found_is i) ∷ []) in
    let seen : new.seen ≡ book = ap (λ (p : NodePass). p.seen) outside in
    record {
      recorded = record { found = found; begins = begins; seen = seen ∙ enters.grown; place = places; above = above };
      time = enters.time;
      runs = runs;
      room = room;
      place = places ∙ ap (λ (n : ℕ). old.places ++ n ∷ []) (sym enters.place);
      told_there = ap (λ (b : List Entry). slice_get (told origin b) stamped.place) seen ∙ enters.told_there;
    }

pub refused : (old mid new : NodePass) (found book : List Entry) (call : Call) (fault : ActFault) → mid ≡ entered old found → IsPrefix old.seen found → Refuses fault call found book → new ≡ left mid book
    → ((stop : Stop) → stop_in found ≡ Some stop → fault ≡ Stopped stop) → (stop_in found ≡ None → is_full found call ≡ true → fault ≡ RecordFull (length (lines_in found)) (record_size found)) → IsRefused old new call fault
refused old mid new found book call fault inside begins refuses outside again full =
    let seen : new.seen ≡ book = ap (λ (p : NodePass). p.seen) outside in
    let back : book ≡ new.seen = sym seen in
    let places : new.places ≡ places_after mid.found book mid.places = ap (λ (p : NodePass). p.places) outside in
    let found_is : mid.found ≡ found = ap (λ (p : NodePass). p.found) inside in
    let places_are : mid.places ≡ old.places = ap (λ (p : NodePass). p.places) inside in
    record {
      found = found;
      begins = begins;
      refuses = subst (Refuses fault call found) (sym seen) refuses;
      places = places ∙ (λ i. places_after (found_is i) (back i) (places_are i));
      again = again;
      full = full;
    }

pub origin_same : (a b : ConfiguredInteractions) → Some a ≡ Some b → a ≡ b
origin_same a b same = cc

prefix_grown : (first found book : List Entry) → IsPrefix first found → GrowsByOne found book → IsPrefix first book
prefix_grown first found book begins grown = elim grown [
  | inl same ↦ (begins.0, begins.1 ∙ sym same)
  | inr more ↦ (begins.0 ++ more.0 ∷ [], sym (append_assoc first begins.0 (more.0 ∷ [])) ∙ ap (λ (b : List Entry). b ++ more.0 ∷ []) begins.1 ∙ sym more.1)
]

pub still_seen : (old : NodePass) (found book : List Entry) (new mid : NodePass) → IsPrefix old.seen found → GrowsByOne found book → new ≡ left mid book → IsPrefix old.seen new.seen
still_seen old found book new mid begins grown outside = subst (IsPrefix old.seen) (sym (ap (λ (p : NodePass). p.seen) outside)) (prefix_grown old.seen found book begins grown)

module _ (found : List Entry) (call : Call) where
  -- what a held node answers on a book with a stop, and on one that is full
  abbrev pub Again : Result Stamped ActFault → Type 0
  Again result = (stop : Stop) → stop_in found ≡ Some stop → result ≡ Err (Stopped stop)

  abbrev pub Full : Result Stamped ActFault → Type 0
  Full result = stop_in found ≡ None → is_full found call ≡ true → result ≡ Err (RecordFull (length (lines_in found)) (record_size found))

none_is_no_stop : (stop : Stop) → None ≡ Some stop → ⊥
none_is_no_stop stop same = cc

err_same : (a b : ActFault) → ◌≡◌ {A = Result Stamped ActFault} (Err a) (Err b) → a ≡ b
err_same a b same = cc

not_refused : (stamped : Stamped) (fault : ActFault) → Ok stamped ≡ Err fault → ⊥
not_refused stamped fault same = cc

-- A call that was answered found a book with no stop.
runs_there : (found : List Entry) (call : Call) (stamped : Stamped) → Again found call (Ok stamped) → stop_in found ≡ None
runs_there found call stamped again =
    let each : (o : Option Stop) → stop_in found ≡ o → stop_in found ≡ None = elim [ None ↦ λ is. is | Some stop ↦ λ is. absurd (not_refused stamped (Stopped stop) (again stop is)) ] in
    each (stop_in found) refl

pub answered_if : (result : Result Stamped ActFault) (origin base : ConfiguredInteractions) (old mid new : NodePass) (found book : List Entry) (call : Call) → origin ≡ base → mid ≡ entered old found → IsPrefix old.seen found
    → ((k : ℕ) → 0 < how_often k old.places → k < length found) → IfOk result (IsEntered origin found book call) → OnOk result (is_full found call ≡ false) → Again found call result → new ≡ left mid book
    → ((entry : Entry) → book ≡ mid.found ++ entry ∷ [] → new.places ≡ mid.places ++ length mid.found ∷ []) → IfOk result (IsAnswered base old new call)
answered_if (Ok stamped) origin base old mid new found book call same inside begins above enters room again outside grown =
    subst (λ (o : ConfiguredInteractions). IsAnswered o old new call stamped) same
    (answered origin old mid new found book call stamped inside begins above enters room (runs_there found call stamped again) outside grown)
answered_if (Err fault) origin base old mid new found book call same inside begins above enters room again outside grown = tt

pub refused_if : (result : Result Stamped ActFault) (old mid new : NodePass) (found book : List Entry) (call : Call) → mid ≡ entered old found → IsPrefix old.seen found → IfErr result (λ fault. Refuses fault call found book)
    → new ≡ left mid book → Again found call result → Full found call result → IfErr result (IsRefused old new call)
refused_if (Ok stamped) old mid new found book call inside begins refuses outside again full = tt
refused_if (Err fault) old mid new found book call inside begins refuses outside again full =
    refused old mid new found book call fault inside begins refuses outside (λ stop is. err_same fault _ (again stop is)) (λ runs is. err_same fault _ (full runs is))

-- The stop of a book is that of each longer one.

first_stays : (o : Option Stop) (stop : Stop) (some more : Option Stop) → (some ≡ Some stop → more ≡ Some stop) → first_of o some ≡ Some stop → first_of o more ≡ Some stop
first_stays None stop some more follows is = follows is
first_stays (Some other) stop some more follows is = is

stop_appended : (book more : List Entry) (stop : Stop) → stop_in book ≡ Some stop → stop_in (book ++ more) ≡ Some stop
stop_appended [] more stop is = absurd (none_is_no_stop stop is)
stop_appended (entry ∷ book) more stop is = first_stays entry.stop stop (stop_in book) (stop_in (book ++ more)) (stop_appended book more stop) is

pub stop_stays : (book longer : List Entry) (stop : Stop) → IsPrefix book longer → stop_in book ≡ Some stop → stop_in longer ≡ Some stop
stop_stays book longer stop begins is = ap stop_in (sym begins.1) ∙ stop_appended book begins.0 stop is

-- A pass goes on: with a call that was answered, with one that was refused, and with one part of a thread's work after another.
use Rattle.std.proofs.Common.{◌≡◌, ◌≢◌, ◌≤◌, ◌∙◌, refl, sym, ap, subst, ℕ, ◌+◌, zero, suc, inl, inr, false, cond, List, [], ◌∷◌, ◌++◌, length, map, Some, None, slice_get, arith, append-nil, append_assoc, length-append, le-ltb, lt-ltb}
use mathlib.Core.List.{IsPrefix}
use Rattle.mt_files.specs.Form.{HasForm}
use Rattle.mt_layer.specs.mt_interactions.Configured.{ConfiguredInteractions}
use Rattle.mt_layer.specs.mt_shared.Book.{failed, is_full, stop_in, time_for}
use Rattle.mt_layer.specs.mt_shared.Replay.{answer_at, next, no_answer, replay, told}
use Rattle.mt_layer.specs.mt_shared.Shared.{IsAnswered, IsRefused, NodePass}
use Rattle.mt_layer.specs.mt_shared.ActFault.{ActFault}
use Rattle.mt_layer.specs.mt_shared.TheVariants.{Stopped, RecordFull, Memory}
use Rattle.mt_layer.specs.mt_shared.Call.{Call}
use Rattle.mt_layer.specs.mt_shared.Entry.{Entry}
use Rattle.mt_layer.specs.mt_shared.Stamped.{Stamped}
use Rattle.mt_layer.specs.mt_shared.Stop.{Stop}
use Rattle.mt_turn.specs.History.{IsOutsideAgain}
use Rattle.mt_turn.specs.Known.{places_after}
use Rattle.mt_worker.specs.Faults.{IsCause, IsDenied, fault_of}
use Rattle.mt_worker.specs.Gots.{AreTold, Goes, Got, Rise, Told, place_of}
use Rattle.mt_worker.specs.Works.{GotNone, got_by}
use Rattle.mt_worker.specs.declared.fault.WorkFault.{WorkFault}
use Rattle.mt_worker.specs.declared.fault.WorkFault.TheVariants as faults

-- WHAT A BOOK TELLS AT A PLACE, a longer one tells there too.

some_is_not_none : {A : Type 0} (a : A) → None ≡ Some a → ⊥
some_is_not_none a same = cc

told_longer : (node : ConfiguredInteractions) (book more : List Entry) (place : ℕ) (t : Told) → slice_get (told node book) place ≡ Some t → slice_get (told node (book ++ more)) place ≡ Some t
told_longer node [] more place t is = absurd (some_is_not_none t is)
told_longer node (entry ∷ book) more zero t is = is
told_longer node (entry ∷ book) more (suc place) t is = told_longer (next node entry) book more place t is

all_longer : (node : ConfiguredInteractions) (book longer : List Entry) (gots : List Got) → IsPrefix book longer → AreTold (told node book) gots → AreTold (told node longer) gots
all_longer node book longer [] begins are = tt
all_longer node book longer (got ∷ gots) begins are =
    (subst (λ (b : List Entry). slice_get (told node b) got.place ≡ Some got.told) begins.1 (told_longer node book begins.0 got.place got.told are.0), all_longer node book longer gots begins are.1)

told_both : (tolds : List Told) (xs ys : List Got) → AreTold tolds xs → AreTold tolds ys → AreTold tolds (xs ++ ys)
told_both tolds [] ys a b = b
told_both tolds (x ∷ xs) ys a b = (a.0, told_both tolds xs ys a.1 b)

told_last : (node : ConfiguredInteractions) (book : List Entry) (entry : Entry) → slice_get (told node (book ++ entry ∷ [])) (length book) ≡ Some (entry, answer_at (replay node book) entry)
told_last node [] entry = refl
told_last node (e ∷ book) entry = told_last (next node e) book entry

-- PLACES.

places_both : (xs ys : List Got) → map place_of (xs ++ ys) ≡ map place_of xs ++ map place_of ys
places_both [] ys = refl
places_both (x ∷ xs) ys = ap (λ (places : List ℕ). x.place ∷ places) (places_both xs ys)

last_same : (xs : List ℕ) (a b : ℕ) → xs ++ a ∷ [] ≡ xs ++ b ∷ [] → a ≡ b
last_same [] a b same = cc
last_same (x ∷ xs) a b same = last_same xs a b cc

rise_from : (k n m : ℕ) (gots : List Got) → k ≤ n → Rise n m gots → Rise k m gots
rise_from k n m [] le rises = omega arith
rise_from k n m (got ∷ gots) le rises = (let first = rises.0 in omega arith, rises.1)

rise_on : (n m q : ℕ) (xs ys : List Got) → Rise n m xs → Rise m q ys → Rise n q (xs ++ ys)
rise_on n m q [] ys first then = rise_from n m q ys first then
rise_on n m q (x ∷ xs) ys first then = (first.0, rise_on (suc x.place) m q xs ys first.1 then)

prefix_length : (xs ys : List Entry) → IsPrefix xs ys → length xs ≤ length ys
prefix_length xs ys begins = omega (arith, sym (ap length begins.1) ∙ length-append xs begins.0)

prefix_trans : (xs ys zs : List Entry) → IsPrefix xs ys → IsPrefix ys zs → IsPrefix xs zs
prefix_trans xs ys zs p q = (p.0 ++ q.0, sym (append_assoc xs p.0 q.0) ∙ ap (λ (w : List Entry). w ++ q.0) p.1 ∙ q.1)

-- THE PASS.

pub goes_none : (v : NodePass) → v.inside ≡ false → Goes v v []
goes_none v outside = record {
  outside = (refl, outside, refl, refl);
  grows = ([], append-nil v.seen);
  places = sym (append-nil v.places);
  told_are = λ origin is. tt;
  rise = omega arith;
}

pub goes_on : (x y z : NodePass) (xs ys : List Got) → Goes x y xs → Goes y z ys → Goes x z (xs ++ ys)
goes_on x y z xs ys first then = record {
  outside = (then.outside.0 ∙ first.outside.0, then.outside.1, then.outside.2 ∙ first.outside.2, then.outside.3 ∙ first.outside.3);
  grows = prefix_trans x.seen y.seen z.seen first.grows then.grows;
  places = then.places ∙ ap (λ (places : List ℕ). places ++ map place_of ys) first.places ∙ append_assoc x.places (map place_of xs) (map place_of ys) ∙ ap (λ (places : List ℕ). x.places ++ places) (sym (places_both xs ys));
  told_are = λ origin is. told_both (told origin z.seen) xs ys (all_longer origin y.seen z.seen xs then.grows (first.told_are origin is)) (then.told_are origin (first.outside.3 ∙ is));
  rise = rise_on (length x.seen) (length y.seen) (length z.seen) xs ys first.rise then.rise;
}

some_same : (a b : ConfiguredInteractions) → Some a ≡ Some b → a ≡ b
some_same a b same = cc

-- A call was answered.
pub goes_answered : (origin : ConfiguredInteractions) (v u : NodePass) (call : Call) (stamped : Stamped) (session : ℕ) → v.origin ≡ Some origin → IsOutsideAgain v u → IsPrefix v.seen u.seen → IsAnswered origin v u call stamped
    → Goes v u (got_by session call stamped ∷ [])
goes_answered origin v u call stamped session from outside grows answered =
    let found = answered.recorded.found in
    let place : stamped.place ≡ length found = last_same v.places stamped.place (length found) (sym answered.place ∙ answered.recorded.place) in
    let low : length v.seen ≤ length found = prefix_length v.seen found answered.recorded.begins in
    let long = ap length answered.recorded.seen ∙ length-append found _ in
    record {
      outside = outside;
      grows = grows;
      places = answered.place;
      told_are = λ other is. (subst (λ (o : ConfiguredInteractions). slice_get (told o u.seen) stamped.place ≡ Some ((got_by session call stamped).told)) (some_same origin other (sym from ∙ is)) answered.told_there, tt);
      rise = (omega (arith, place, low), omega (arith, place, long));
    }

-- A call was refused: nothing was got, or the stop.

after_same : (found book : List Entry) (places : List ℕ) → book ≡ found → places_after found book places ≡ places
after_same found book places same = ap (λ (b : List Entry). places_after found b places) same ∙ ap (λ b. cond b (places ++ length found ∷ []) places) (le-ltb (length found) (length found) (omega arith))

after_longer : (found book : List Entry) (entry : Entry) (places : List ℕ) → book ≡ found ++ entry ∷ [] → places_after found book places ≡ places ++ length found ∷ []
after_longer found book entry places longer =
    let long = ap length longer ∙ length-append found (entry ∷ []) in
    ap (λ b. cond b (places ++ length found ∷ []) places) (lt-ltb (length found) (length book) (omega (arith, long)))

idle : (v u : NodePass) (found : List Entry) (session : ℕ) (call : Call) (fault : WorkFault) → IsOutsideAgain v u → IsPrefix v.seen u.seen → u.places ≡ places_after found u.seen v.places → u.seen ≡ found → fault ≢ faults.Link → IsCause u.seen fault → GotNone session call v u fault
idle v u found session call fault outside grows places same not_link cause = record {
  gots = [];
  goes = record {
    outside = outside;
    grows = grows;
    places = places ∙ after_same found u.seen v.places same ∙ sym (append-nil v.places);
    told_are = λ origin is. tt;
    rise = prefix_length v.seen u.seen grows;
  };
  stops = tt;
  not_link = not_link;
  cause = cause;
}

abbrev stop_got : ℕ → ℕ → Entry → Got
stop_got session place entry = record { place = place; session = session; told = (entry, no_answer) }

stops_here : (v u : NodePass) (found : List Entry) (session : ℕ) (call : Call) (ms : ℕ) (stop : Stop) → IsOutsideAgain v u → IsPrefix v.seen u.seen → IsPrefix v.seen found → u.places ≡ places_after found u.seen v.places → u.seen ≡ found ++ failed call ms stop ∷ []
    → stop_in u.seen ≡ Some stop → length u.seen ≡ stop.place + 1 → GotNone session call v u faults.Stopped
stops_here v u found session call ms stop outside grows begins places longer stands last =
    let low : length v.seen ≤ length found = prefix_length v.seen found begins in
    let long = ap length longer ∙ length-append found (failed call ms stop ∷ []) in
    record {
      gots = stop_got session (length found) (failed call ms stop) ∷ [];
      goes = record {
        outside = outside;
        grows = grows;
        places = places ∙ after_longer found u.seen (failed call ms stop) v.places longer;
        told_are = λ origin is. (subst (λ (b : List Entry). slice_get (told origin b) (length found) ≡ Some (failed call ms stop, no_answer)) (sym longer) (told_last origin found (failed call ms stop)), tt);
        rise = (low, omega (arith, long));
      };
      stops = (record { session_is = refl; call_is = refl; stop = refl }, tt);
      not_link = λ same. cc;
      cause = (stop, stands, last);
    }

got_none : (v u : NodePass) (call : Call) (session : ℕ) (refused : ActFault) → IsOutsideAgain v u → IsPrefix v.seen u.seen → HasForm call.event → IsRefused v u call refused → GotNone session call v u (fault_of refused)
got_none v u call session (Stopped stop) outside grows form is = elim is.refuses.grown [
  | inl same ↦ idle v u is.found session call faults.Stopped outside grows is.places same (λ same. cc) (stop, is.refuses.stands, is.refuses.place)
  | inr more ↦ stops_here v u is.found session call (time_for is.found call) stop outside grows is.begins is.places more is.refuses.stands is.refuses.place
]
got_none v u call session (RecordFull entries bytes) outside grows form is =
    idle v u is.found session call faults.Full outside grows is.places is.refuses.same (λ same. cc) (call, form, is.refuses.typed, ap (λ (b : List Entry). is_full b call) is.refuses.same ∙ is.refuses.full)
got_none v u call session Memory outside grows form is = idle v u is.found session call faults.Memory outside grows is.places is.refuses.same (λ same. cc) tt

pub denied : (v u : NodePass) (call : Call) (session : ℕ) (fault : WorkFault) → IsOutsideAgain v u → IsPrefix v.seen u.seen → IsDenied v u call fault → GotNone session call v u fault
denied v u call session fault outside grows is = subst (GotNone session call v u) (sym is.1) (got_none v u call session is.0 outside grows is.2 is.3)

pub outside_on : (x y z : NodePass) → IsOutsideAgain x y → IsOutsideAgain y z → IsOutsideAgain x z
outside_on x y z first then = (then.0 ∙ first.0, then.1, then.2 ∙ first.2, then.3 ∙ first.3)

-- How the logs of calls follow each other.
use Rattle.std.proofs.Common.{◌≡◌, ℕ, zero, suc, ◌+◌, ◌-◌, ◌≤◌, ◌<◌, Bool, true, false, List, [], ◌∷◌, ◌++◌, length, Some, None, refl, sym, ap, subst, ◌∙◌, arith, append_assoc}
use Rattle.std.specs.Prelude.{Err, Ok, Option, Result, IfSome}
use Rattle.std.proofs.lemmas.Bool.Decides.{nat_tests}
use Rattle.std.proofs.lemmas.List.{length-append}
use Rattle.mt_outside.specs.Logs.{DiskLog, Logs, StoppedIn, done_until, fewer, held_of, log_after}
use Rattle.mt_outside.specs.MemoryDisk.{DiskEvent, Held, held_after, held_after_one, left_by, settled}
use Rattle.mt_outside.specs.MemoryDisk.DiskEvent.{wrote, synced}
use Rattle.mt_outside.specs.Stops.{has_stopped}
use Rattle.mt_outside.specs.declared.fate.Fate.{Fate}
use Rattle.mt_outside.specs.declared.stop.Stop.{Stop}

-- One list of calls, and then another.

log_then : (log : Option DiskLog) (one other : List DiskEvent) → log_after (log_after log one) other ≡ log_after log (one ++ other)
log_then None one other = refl
log_then (Some log) one other = ap (λ (es : List DiskEvent). Some (record { first = log.first; events = es })) (append_assoc log.events one other)

fewer_then : (allowed : Option Stop) (one other : ℕ) → fewer other (fewer one allowed) ≡ fewer (one + other) allowed
fewer_then None one other = refl
fewer_then (Some stop) one other = let same : stop.calls - one - other ≡ stop.calls - (one + other) = omega arith in ap (λ (n : ℕ). Some (record stop { calls = n })) same

fewer_none : (allowed : Option Stop) → fewer 0 allowed ≡ allowed
fewer_none None = refl
fewer_none (Some stop) = let same : stop.calls - 0 ≡ stop.calls = omega arith in ap (λ (n : ℕ). Some (record stop { calls = n })) same

-- the disk stops within the first list
done_within : (count : ℕ) (one other : List DiskEvent) → count ≤ length one → done_until count (one ++ other) ≡ done_until count one
done_within zero one other within = refl
done_within (suc count) [] other within = absurd (omega (arith, within))
done_within (suc zero) (wrote at bytes ∷ one) other within = refl
done_within (suc zero) (synced ∷ one) other within = refl
done_within (suc (suc count)) (event ∷ one) other within = ap (λ (es : List DiskEvent). event ∷ es) (done_within (suc count) one other (omega (arith, within)))

-- nothing is before it
from_none : (count : ℕ) (other : List DiskEvent) → done_until count other ≡ done_until (count - 0) other
from_none count other = let same : count ≡ count - 0 = omega arith in ap (λ (n : ℕ). done_until n other) same

-- or behind it
done_past : (count : ℕ) (one other : List DiskEvent) → length one < count → done_until count (one ++ other) ≡ one ++ done_until (count - length one) other
done_past count [] other past = from_none count other
done_past zero (event ∷ one) other past = absurd (omega (arith, past))
done_past (suc zero) (event ∷ one) other past = absurd (omega (arith, past))
done_past (suc (suc count)) (event ∷ one) other past =
    let same : suc count - length one ≡ suc (suc count) - suc (length one) = omega arith in
    ap (λ (es : List DiskEvent). event ∷ es) (done_past (suc count) one other (omega (arith, past)) ∙ ap (λ (n : ℕ). one ++ done_until n other) same)

none_left : (one other : List DiskEvent) → one ≡ [] → other ≡ [] → one ++ other ≡ []
none_left one other first second = ap (λ (es : List DiskEvent). es ++ other) first ∙ second

module _ (one other : List DiskEvent) (log mid after : Option DiskLog) where
  stopped_first : (allowed now : Option Stop) → StoppedIn one log after allowed now → StoppedIn (one ++ other) log after allowed now
  stopped_first None now stopped = absurd stopped
  stopped_first (Some stop) now stopped = (
    omega (arith, stopped.0, length-append one other),
    stopped.1 ∙ ap (λ (es : List DiskEvent). log_after log es) (sym (done_within stop.calls one other stopped.0)),
    stopped.2,
  )

  -- how many calls were done before, of those that were allowed
  until : (stop : Stop) → (has_stopped (fewer (length one) (Some stop)) ≡ true → one ≡ []) → done_until stop.calls (one ++ other) ≡ one ++ done_until (stop.calls - length one) other
  until stop goes = cases (has_stopped (fewer (length one) (Some stop))) refl
    where
      cases : (b : Bool) → has_stopped (fewer (length one) (Some stop)) ≡ b → done_until stop.calls (one ++ other) ≡ one ++ done_until (stop.calls - length one) other
      cases true is = let none : one ≡ [] = goes is in subst (λ (es : List DiskEvent). done_until stop.calls (es ++ other) ≡ es ++ done_until (stop.calls - length es) other) (sym none) (from_none stop.calls other)
      cases false is = done_past stop.calls one other (grind (arith, nat_tests, is))

  stopped_second : (allowed between now : Option Stop) → between ≡ fewer (length one) allowed → (has_stopped between ≡ true → one ≡ []) → mid ≡ log_after log one → StoppedIn other mid after between now → StoppedIn (one ++ other) log after allowed now
  stopped_second None between now is goes logged stopped = absurd (subst (λ (s : Option Stop). StoppedIn other mid after s now) is stopped)
  stopped_second (Some stop) between now is goes logged stopped =
      let there = subst (λ (s : Option Stop). StoppedIn other mid after s now) is stopped in
      let goes_on : has_stopped (fewer (length one) (Some stop)) ≡ true → one ≡ [] = subst (λ (s : Option Stop). has_stopped s ≡ true → one ≡ []) is goes in (
        omega (arith, there.0, length-append one other),
        there.1 ∙ ap (λ (l : Option DiskLog). log_after l (done_until (stop.calls - length one) other)) logged ∙ log_then log one (done_until (stop.calls - length one) other) ∙ ap (λ (es : List DiskEvent). log_after log es) (sym (until stop goes_on)),
        there.2,
      )

  module _ {T E U F : Type 0} (allowed between now : Option Stop) where
    pub logs_then : (x : T) (result : Result U F) → Logs {T = T} {E = E} one log mid allowed between (Ok x) → Logs {T = U} {E = F} other mid after between now result → Logs {T = U} {E = F} (one ++ other) log after allowed now result
    logs_then x (Ok y) first second =
        let is : now ≡ fewer (length (one ++ other)) allowed =
        second.done.1 ∙ ap (λ (s : Option Stop). fewer (length other) s) first.done.1 ∙ fewer_then allowed (length one) (length other) ∙ ap (λ (n : ℕ). fewer n allowed) (sym (length-append one other)) in
        record {
          done = (second.done.0 ∙ ap (λ (l : Option DiskLog). log_after l other) first.done.0 ∙ log_then log one other, is);
          goes_on = λ halts.
              (let none : other ≡ [] = second.goes_on halts in
              let same : now ≡ between = second.done.1 ∙ ap (λ (es : List DiskEvent). fewer (length es) between) none ∙ fewer_none between in
              none_left one other (first.goes_on (ap has_stopped (sym same) ∙ halts)) none);
          stopped = tt;
        }
    logs_then x (Err e) first second = record {
      done = tt;
      goes_on = tt;
      stopped = λ halts. stopped_second allowed between now first.done.1 first.goes_on first.done.0 (second.stopped halts);
    }

  pub logs_first : {T E U F : Type 0} (allowed now : Option Stop) (e : E) (f : F) → Logs {T = T} {E = E} one log after allowed now (Err e) → Logs {T = U} {E = F} (one ++ other) log after allowed now (Err f)
  logs_first allowed now e f first = record { done = tt; goes_on = tt; stopped = λ halts. stopped_first allowed now (first.stopped halts) }

-- What is held after a log.

held_then : (here : Held) (one other : List DiskEvent) → held_after here (one ++ other) ≡ held_after (held_after here one) other
held_then here [] other = refl
held_then here (event ∷ one) other = held_then (held_after_one here event) one other

pub if_logged : (P : List ℕ → Type 0) (fate : Fate) (done : List DiskEvent) (before after : Option DiskLog) → after ≡ log_after before done → ((log : DiskLog) → before ≡ Some log → P (left_by fate (held_after (held_of log) done))) → IfSome after (λ (l : DiskLog). P (left_by fate (held_of l)))
if_logged P fate done None after is each = subst (λ (l : Option DiskLog). IfSome l (λ (l : DiskLog). P (left_by fate (held_of l)))) (sym is) tt
if_logged P fate done (Some log) after is each =
    subst (λ (l : Option DiskLog). IfSome l (λ (l : DiskLog). P (left_by fate (held_of l)))) (sym is)
    (subst (λ (h : Held). P (left_by fate h)) (sym (held_then (settled log.first) log.events done)) (each log refl))

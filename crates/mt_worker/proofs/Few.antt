-- How many lines a part of the work made: of none, of one call, of a stop, and of one part after another.
use Rattle.std.proofs.Common.{◌≡◌, ◌≤◌, ◌∙◌, refl, sym, ap, append-nil, append_assoc, ℕ, ◌+◌, ◌*◌, arith, cond, Bool, true, false, true≢false, List, [], ◌∷◌, ◌++◌, length, length-append}
use Rattle.std.specs.Prelude.{◌&&◌, filter, not}
use Rattle.std.proofs.lemmas.List.Elements.{filter-append}
use Rattle.std.proofs.lemmas.Nat.{mul-le}
use mathlib.Core.List.{IsPrefix}
use Rattle.mt_queue.specs.declared.job.Job.{Job}
use Rattle.mt_queue.specs.declared.job.Job.TheVariants.{Take, Wake, End}
use Rattle.mt_layer.specs.mt_shared.Call.{Call}
use Rattle.mt_worker.specs.Few.{AreAtMost, AreFew, AreFewTicks, heard_count, heard_for, is_datagram, is_heard, is_line, is_step, step_count, steps_for, take_count, ticks_for, wake_count}
use Rattle.mt_worker.specs.Gots.{Got}
use Rattle.mt_worker.specs.Works.{AreStops}

-- NONE, and more than that.

pub few_none : (heard steps : ℕ) → AreAtMost heard steps []
few_none heard steps = record { heard_lines = omega arith; step_lines = omega arith }

pub few_as : (heard steps more_heard more_steps : ℕ) (gots : List Got) → heard ≤ more_heard → steps ≤ more_steps → AreAtMost heard steps gots → AreAtMost more_heard more_steps gots
few_as heard steps more_heard more_steps gots first second few =
    let a = few.heard_lines in
    let b = few.step_lines in
    record { heard_lines = omega (arith, first, a); step_lines = omega (arith, second, b) }

-- ONE CALL.

at_most_one : (got : Got) (b : Bool) → length (cond b (got ∷ []) []) ≤ 1
at_most_one got true = omega arith
at_most_one got false = omega arith

none_where : (got : Got) (b : Bool) → b ≡ false → length (cond b (got ∷ []) []) ≤ 0
none_where got true is = absurd (true≢false is)
none_where got false is = omega arith

both_false : (b : Bool) → (b && false) ≡ false
both_false true = refl
both_false false = refl

pub few_heard : (got : Got) → is_datagram got.told.0.call.event ≡ true → AreAtMost 1 0 (got ∷ [])
few_heard got is = record {
  heard_lines = at_most_one got (is_heard got);
  step_lines = none_where got (is_step got) (ap (λ (b : Bool). is_line got && not b) is ∙ both_false (is_line got));
}

pub few_step : (got : Got) → is_datagram got.told.0.call.event ≡ false → AreAtMost 0 1 (got ∷ [])
few_step got is = record {
  heard_lines = none_where got (is_heard got) (ap (λ (b : Bool). is_line got && b) is ∙ both_false (is_line got));
  step_lines = at_most_one got (is_step got);
}

-- STOPS are no lines.

kept_not : (test : Got → Bool) (got : Got) (gots : List Got) → test got ≡ false → length (filter test gots) ≤ 0 → length (filter test (got ∷ gots)) ≤ 0
kept_not test got gots is few =
    let each : (b : Bool) → b ≡ false → length (cond b (got ∷ filter test gots) (filter test gots)) ≤ 0 = elim [ true ↦ λ same. absurd (true≢false same) | false ↦ λ same. few ] in
    each (test got) is

pub few_stops : (heard steps session : ℕ) (call : Call) (gots : List Got) → AreStops session call gots → AreAtMost heard steps gots
few_stops heard steps session call gots stops = few_as 0 0 heard steps gots (omega arith) (omega arith) (no_lines session call gots stops)
  where
    no_lines : (session : ℕ) (call : Call) (gots : List Got) → AreStops session call gots → AreAtMost 0 0 gots
    no_lines session call [] stops = few_none 0 0
    no_lines session call (got ∷ gots) stops =
        let rest = no_lines session call gots stops.1 in
        record {
          heard_lines = kept_not is_heard got gots (ap (λ (b : Bool). not b && is_datagram got.told.0.call.event) stops.0.stop) rest.heard_lines;
          step_lines = kept_not is_step got gots (ap (λ (b : Bool). not b && not (is_datagram got.told.0.call.event)) stops.0.stop) rest.step_lines;
        }

-- ONE PART AFTER ANOTHER.

count_both : (test : Got → Bool) (xs ys : List Got) → length (filter test (xs ++ ys)) ≡ length (filter test xs) + length (filter test ys)
count_both test xs ys = ap length (filter-append test xs ys) ∙ length-append (filter test xs) (filter test ys)

pub few_on : (heard steps more_heard more_steps most_heard most_steps : ℕ) (xs ys : List Got) → heard + more_heard ≤ most_heard → steps + more_steps ≤ most_steps → AreAtMost heard steps xs → AreAtMost more_heard more_steps ys → AreAtMost most_heard most_steps (xs ++ ys)
few_on heard steps more_heard more_steps most_heard most_steps xs ys hears goes first then =
    let both_heard : heard_count (xs ++ ys) ≡ heard_count xs + heard_count ys = count_both is_heard xs ys in
    let both_steps : step_count (xs ++ ys) ≡ step_count xs + step_count ys = count_both is_step xs ys in
    let a = first.heard_lines in
    let b = then.heard_lines in
    let c = first.step_lines in
    let d = then.step_lines in
    record { heard_lines = omega (arith, both_heard, hears, a, b); step_lines = omega (arith, both_steps, goes, c, d) }

-- ONE JOB MORE.

pub takes_push : (jobs : List Job) (job : Job) → take_count jobs + heard_for job ≡ take_count (jobs ++ job ∷ [])
takes_push [] (Take now from bytes) = refl
takes_push [] (Wake now) = refl
takes_push [] End = refl
takes_push (Take now from bytes ∷ jobs) job = let is = takes_push jobs job in omega (arith, is)
takes_push (Wake now ∷ jobs) job = takes_push jobs job
takes_push (End ∷ jobs) job = takes_push jobs job

pub wakes_push : (jobs : List Job) (job : Job) → wake_count jobs + ticks_for job ≡ wake_count (jobs ++ job ∷ [])
wakes_push [] (Take now from bytes) = refl
wakes_push [] (Wake now) = refl
wakes_push [] End = refl
wakes_push (Take now from bytes ∷ jobs) job = wakes_push jobs job
wakes_push (Wake now ∷ jobs) job = let is = wakes_push jobs job in omega (arith, is)
wakes_push (End ∷ jobs) job = wakes_push jobs job

steps_of_ticks : (sessions : ℕ) (job : Job) → steps_for sessions job ≡ 4 * sessions * ticks_for job
steps_of_ticks sessions (Take now from bytes) = grind arith
steps_of_ticks sessions (Wake now) = grind arith
steps_of_ticks sessions End = grind arith

pub steps_push : (sessions : ℕ) (jobs : List Job) (job : Job) → 4 * sessions * wake_count jobs + steps_for sessions job ≤ 4 * sessions * wake_count (jobs ++ job ∷ [])
steps_push sessions jobs job =
    let one = steps_of_ticks sessions job in
    let more = ap (λ (n : ℕ). 4 * sessions * n) (wakes_push jobs job) in
    grind (arith, one, more)

-- A LONGER LIST OF JOBS has no fewer.

takes_more : (xs ys : List Job) → take_count xs ≤ take_count (xs ++ ys)
takes_more [] ys = omega arith
takes_more (Take now from bytes ∷ xs) ys = let is = takes_more xs ys in omega (arith, is)
takes_more (Wake now ∷ xs) ys = takes_more xs ys
takes_more (End ∷ xs) ys = takes_more xs ys

wakes_more : (xs ys : List Job) → wake_count xs ≤ wake_count (xs ++ ys)
wakes_more [] ys = omega arith
wakes_more (Take now from bytes ∷ xs) ys = wakes_more xs ys
wakes_more (Wake now ∷ xs) ys = let is = wakes_more xs ys in omega (arith, is)
wakes_more (End ∷ xs) ys = wakes_more xs ys

pub takes_longer : (xs ys : List Job) → IsPrefix xs ys → take_count xs ≤ take_count ys
takes_longer xs ys begins = let more = takes_more xs begins.0 in let is = ap take_count begins.1 in omega (arith, more, is)

pub wakes_longer : (xs ys : List Job) → IsPrefix xs ys → wake_count xs ≤ wake_count ys
wakes_longer xs ys begins = let more = wakes_more xs begins.0 in let is = ap wake_count begins.1 in omega (arith, more, is)

product_more : (n a b : ℕ) → a ≤ b → n * a ≤ n * b
product_more n a b less = mul-le n a n b (omega arith) less

-- THE WHOLE.

pub few_through : (sessions : ℕ) (jobs : List Job) (gots : List Got) → AreAtMost (take_count jobs) (4 * sessions * wake_count jobs) gots → AreFew sessions jobs gots
few_through sessions jobs gots few = record { heard = few.heard_lines; steps = few.step_lines }

pub few_longer : (sessions more : ℕ) (jobs longer : List Job) (gots : List Got) → sessions ≡ more → IsPrefix jobs longer → AreFew sessions jobs gots → AreFew more longer gots
few_longer sessions more jobs longer gots same begins few =
    let takes = takes_longer jobs longer begins in
    let wakes = product_more (4 * sessions) (wake_count jobs) (wake_count longer) (wakes_longer jobs longer begins) in
    let is = ap (λ (n : ℕ). 4 * n * wake_count longer) same in
    let a = few.heard in
    let b = few.steps in
    record { heard = omega (arith, takes, a); steps = omega (arith, wakes, is, b) }

pub few_ticks : (jobs longer : List Job) (gots : List Got) → IsPrefix jobs longer → AreAtMost 0 (wake_count jobs) gots → AreFewTicks longer gots
few_ticks jobs longer gots begins few =
    let wakes = wakes_longer jobs longer begins in
    let b = few.step_lines in
    record { heard = few.heard_lines; steps = omega (arith, wakes, b) }

pub longer_same : (xs ys : List Job) → ys ≡ xs → IsPrefix xs ys
longer_same xs ys is = ([], append-nil xs ∙ sym is)

pub longer_by : (xs ys zs : List Job) (job : Job) → IsPrefix xs ys → zs ≡ ys ++ job ∷ [] → IsPrefix xs zs
longer_by xs ys zs job begins is = (begins.0 ++ job ∷ [], sym (append_assoc xs begins.0 (job ∷ [])) ∙ ap (λ (jobs : List Job). jobs ++ job ∷ []) begins.1 ∙ sym is)

-- The events of a soak, one more at a time.
use Rattle.std.proofs.Common.{◌≡◌, ℕ, zero, suc, ◌+◌, ◌*◌, ◌<◌, Bool, true, false, List, [], ◌∷◌, ◌++◌, length, get_or, Some, refl, ap, sym, ◌∙◌, subst, arith}
use Rattle.std.specs.Prelude.{All, if◌then◌else◌}
use Rattle.std.specs.List.{filter_map}
use Rattle.std.specs.List.Sorted.{IsStrictlyIncreasing}
use Rattle.mt_model.specs.declared.texts.recording.Event.{Event}
use Rattle.mt_model.specs.texts.Events.{event_time}
use Rattle.mt_soak.specs.declared.turn.Turn.{Turn}
use Rattle.mt_soak.specs.declared.turn.Turn.TheVariants as turns
use Rattle.mt_soak.specs.Generated.{State, asks, behind, behind_all, event_at, event_of, events_from, is_played, may_subscribe, next_asked, next_fabric, next_turn, reports, time_of}
use Rattle.mt_soak.specs.Requests.{on_off, subscription_to}

add_one : (n : ℕ) → n + 1 ≡ suc n
add_one n = omega arith

pub first : (state : State) (count : ℕ) → events_from state (count + 1) ≡ event_of state ∷ events_from (behind state) count
first state count = ap (events_from state) (add_one count)

last_suc : (state : State) (count : ℕ) → events_from state (suc count) ≡ events_from state count ++ event_of (behind_all state count) ∷ []
last_suc state zero = refl
last_suc state (suc count) = ap (λ (es : List Event). event_of state ∷ es) (last_suc (behind state) count)

pub last : (state : State) (count : ℕ) → events_from state (count + 1) ≡ events_from state count ++ event_of (behind_all state count) ∷ []
last state count = ap (events_from state) (add_one count) ∙ last_suc state count

pub as_many : (state : State) (count : ℕ) → length (events_from state count) ≡ count
as_many state zero = refl
as_many state (suc count) = ap suc (as_many (behind state) count)

-- a subscription or a report
subscribing : Bool → ℕ → ℕ → Event
subscribing b i fabric = if b then asks i fabric (subscription_to on_off) else reports i fabric

subscribing-played : (b : Bool) (i fabric : ℕ) → is_played (subscribing b i fabric) ≡ true
unfolding subscribing asks
subscribing-played true i fabric = refl
subscribing-played false i fabric = refl

subscribing-timed : (b : Bool) (i fabric : ℕ) → event_time (subscribing b i fabric) ≡ Some (time_of i)
unfolding subscribing asks
subscribing-timed true i fabric = refl
subscribing-timed false i fabric = refl

played_at : (turn : Turn) (i fabric asked : ℕ) → is_played (event_at turn i fabric asked) ≡ true
unfolding subscribing asks
played_at turns.ReadOnOff i fabric asked = refl
played_at turns.Toggle i fabric asked = refl
played_at turns.WriteLabel i fabric asked = refl
played_at turns.ReadEndpoint i fabric asked = refl
played_at turns.ReplaceBench i fabric asked = refl
played_at turns.ReadAccess i fabric asked = refl
played_at turns.Subscribe i fabric asked = subscribing-played (may_subscribe asked) i fabric
played_at turns.Tick i fabric asked = refl

timed_at : (turn : Turn) (i fabric asked : ℕ) → event_time (event_at turn i fabric asked) ≡ Some (time_of i)
unfolding subscribing asks
timed_at turns.ReadOnOff i fabric asked = refl
timed_at turns.Toggle i fabric asked = refl
timed_at turns.WriteLabel i fabric asked = refl
timed_at turns.ReadEndpoint i fabric asked = refl
timed_at turns.ReplaceBench i fabric asked = refl
timed_at turns.ReadAccess i fabric asked = refl
timed_at turns.Subscribe i fabric asked = subscribing-timed (may_subscribe asked) i fabric
timed_at turns.Tick i fabric asked = refl

pub played : (state : State) → is_played (event_of state) ≡ true
unfolding event_of
played state = played_at (next_turn state) (state.answered + 1) (next_fabric state) (next_asked state)

pub timed : (state : State) → event_time (event_of state) ≡ Some (time_of (state.answered + 1))
unfolding event_of
timed state = timed_at (next_turn state) (state.answered + 1) (next_fabric state) (next_asked state)

answered_behind : (state : State) → (behind state).answered ≡ state.answered + 1
unfolding behind
answered_behind state = refl

-- each is played
pub all_played : (state : State) (count : ℕ) → All (λ event. is_played event ≡ true) (events_from state count)
all_played state zero k d h = absurd (omega arith)
all_played state (suc count) zero d h = played state
all_played state (suc count) (suc k) d h = all_played (behind state) count k d (omega arith)

-- times from a number of events on
times : ℕ → ℕ → List ℕ
times answered zero = []
times answered (suc count) = time_of (answered + 1) ∷ times (answered + 1) count

times_are : (state : State) (count : ℕ) → filter_map event_time (events_from state count) ≡ times state.answered count
unfolding times
times_are state zero = refl
times_are state (suc count) = rw (timed state) (ap (λ (ts : List ℕ). time_of (state.answered + 1) ∷ ts) (times_are (behind state) count ∙ ap (λ n. times n count) (answered_behind state)))

length-times : (answered count : ℕ) → length (times answered count) ≡ count
unfolding times
length-times answered zero = refl
length-times answered (suc count) = ap suc (length-times (answered + 1) count)

at-times : (answered count k : ℕ) → k < count → get_or (times answered count) k 0 ≡ 100 * (answered + k + 1)
unfolding times
at-times answered zero k h = absurd (omega arith)
at-times answered (suc count) zero h = omega arith
at-times answered (suc count) (suc k) h = at-times (answered + 1) count k (omega arith) ∙ omega arith

times_rise : (answered count : ℕ) → IsStrictlyIncreasing (times answered count)
times_rise answered count k h =
    let long = length-times answered count in
    let below : k + 1 < count = omega arith in
    let here = at-times answered count k (omega arith) in
    let next = at-times answered count (k + 1) below in
    omega arith

pub rise : (state : State) (count : ℕ) → IsStrictlyIncreasing (filter_map event_time (events_from state count))
rise state count = subst IsStrictlyIncreasing (sym (times_are state count)) (times_rise state.answered count)

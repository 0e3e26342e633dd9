-- Each call was one to be made then: of a datagram, a resend step and a report step, of a stop, and of one part after another.
use Rattle.std.proofs.Common.{◌≡◌, refl, sym, subst, ℕ, true, true≢false, arith, drop, take, List, [], ◌∷◌, ◌++◌, Option, Some, None}
use Rattle.std.specs.Prelude.{Contains, is_some}
use Rattle.std.proofs.lemmas.List.{take-append-drop}
use Rattle.std.proofs.lemmas.List.Elements.{Contains-append_right}
use Rattle.mt_outside.specs.declared.network.Peer.{Peer}
use Rattle.mt_layer.specs.mt_runs.Datagrams.{session_named}
use Rattle.mt_layer.specs.mt_shared.Replay.{unless_stopped}
use Rattle.mt_layer.specs.mt_shared.Call.{Call}
use Rattle.mt_layer.specs.mt_shared.Stop.{Stop}
use Rattle.mt_worker.specs.Accounts.{Account, Accounts, account_behind, account_over, all_behind, behind, standing_behind, talk_in}
use Rattle.mt_worker.specs.Due.{call_again, call_heard, call_report, call_tick}
use Rattle.mt_worker.specs.Gots.{Got, Told}
use Rattle.mt_worker.specs.Made.{AreMade, AreMadeOver, AreTicks, IsMade, Makes}
use Rattle.mt_worker.specs.Works.{AreOverOne, AreStops, IsStopOf}
use Rattle.mt_worker.specs.declared.seat.Subscription.{Subscription}
use Rattle.mt_worker.proofs.Sessions.{here}

-- THE CALLS that a worker makes.

pub heard_made : (a : Account) (now : ℕ) (from : Peer) (bytes : List ℕ) (call : Call) → session_named bytes ≡ Some a.row.session → call ≡ call_heard a now from bytes → Makes a.row.session a call call.event
heard_made a now from bytes call named is = subst (λ (k : Call). Makes a.row.session a k k.event) (sym is) (named, refl)

pub again_made : (a : Account) (now : ℕ) (call : Call) → call ≡ call_again a now → Makes a.row.session a call call.event
again_made a now call is = subst (λ (k : Call). Makes a.row.session a k k.event) (sym is) refl

pub report_made : (a : Account) (now : ℕ) (subscription : Subscription) → Contains a.subscriptions subscription → Makes a.row.session a (call_report now subscription) (call_report now subscription).event
report_made a now subscription there = (there, refl)

-- the first of a rest is among all
first_there : (it : Subscription) (rest : List Subscription) → Contains (it ∷ rest) it
first_there it rest = (0, omega arith, refl)

pub found_there : (all : List Subscription) (at : ℕ) (it : Subscription) (rest : List Subscription) → drop at all ≡ it ∷ rest → Contains all it
found_there all at it rest is =
    let first : Contains (drop at all) it = subst (λ (l : List Subscription). Contains l it) (sym is) (first_there it rest) in
    subst (λ (l : List Subscription). Contains l it) (take-append-drop at all) (Contains-append_right (take at all) (drop at all) it first)

-- A STOP leaves the account. So a call that was refused was one to be made, where it is one.

stop_keeps : (a : Account) (told : Told) → is_some told.0.stop ≡ true → account_behind a told ≡ a
stop_keeps a told =
    let each : (o : Option Stop) → is_some o ≡ true → unless_stopped o (record a {
      talk = talk_in told.0.call.event told.0.ms told.1 a;
      subscriptions = standing_behind told.0.call.event told.0.call.deed told.0.ms told.1 a.subscriptions;
    }) a ≡ a = elim [ None ↦ λ is. absurd (true≢false (sym is)) | Some stop ↦ λ is. refl ] in
    each told.0.stop

made_as : (a : Account) (session : ℕ) (call : Call) (got : Got) → Makes session a call call.event → got.session ≡ session → got.told.0.call ≡ call → IsMade a got
made_as a session call got makes same is =
    subst (λ (i : ℕ). Makes i a got.told.0.call got.told.0.call.event) (sym same) (subst (λ (k : Call). Makes session a k k.event) (sym is) makes)

pub stops_made : (a : Account) (call : Call) (gots : List Got) → Makes a.row.session a call call.event → AreStops a.row.session call gots → AreMadeOver a gots
stops_made a call [] makes stops = tt
stops_made a call (got ∷ gots) makes stops =
    let its : IsStopOf a.row.session call got = stops.0 in
    (made_as a a.row.session call got makes its.session_is its.call_is, subst (λ (b : Account). AreMadeOver b gots) (sym (stop_keeps a got.told its.stop)) (stops_made a call gots makes stops.1))

pub stops_tick : (now : ℕ) (gots : List Got) → AreStops 0 (call_tick now) gots → AreTicks gots
stops_tick now [] stops = tt
stops_tick now (got ∷ gots) stops =
    let its : IsStopOf 0 (call_tick now) got = stops.0 in
    (record { nobody = its.session_is; now = now; call_is = its.call_is }, stops_tick now gots stops.1)

-- ONE PART AFTER ANOTHER.

pub made_on : (a : Account) (xs ys : List Got) → AreMadeOver a xs → AreMadeOver (account_over a xs) ys → AreMadeOver a (xs ++ ys)
made_on a [] ys first then = then
made_on a (x ∷ xs) ys first then = (first.0, made_on (account_behind a x.told) xs ys first.1 then)

pub all_made_on : (accounts : Accounts) (xs ys : List Got) → AreMade accounts xs → AreMade (all_behind accounts xs) ys → AreMade accounts (xs ++ ys)
all_made_on accounts [] ys first then = then
all_made_on accounts (x ∷ xs) ys first then = (first.0, all_made_on (behind accounts x) xs ys first.1 then)

pub ticks_on : (xs ys : List Got) → AreTicks xs → AreTicks ys → AreTicks (xs ++ ys)
ticks_on [] ys first then = then
ticks_on (x ∷ xs) ys first then = (first.0, ticks_on xs ys first.1 then)

-- OVER ONE SESSION, among those of all.
pub one_made : (accounts : Accounts) (id : ℕ) (gots : List Got) → AreOverOne id gots → AreMadeOver (accounts id) gots → AreMade accounts gots
one_made accounts id [] over made = tt
one_made accounts id (got ∷ gots) over made =
    (subst (λ (i : ℕ). IsMade (accounts i) got) (sym over.0) made.0, one_made (behind accounts got) id gots over.1 (subst (λ (a : Account). AreMadeOver a gots) (sym (here accounts got id over.0)) made.1))

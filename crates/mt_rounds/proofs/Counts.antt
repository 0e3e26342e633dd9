-- How many lines there are.
use Rattle.std.proofs.Common.{◌≡◌, ◌≤◌, ◌∙◌, refl, ap, subst, ℕ, suc, ◌+◌, ◌-◌, ◌*◌, Bool, true, false, List, [], ◌∷◌, ◌++◌, Option, Some, None, MatchBool, if◌then◌else◌, length, length-append, length-drop, arith}
use Rattle.mt_outside.specs.Network.{time_of}
use Rattle.mt_outside.specs.declared.network.Arrival.{Arrival}
use Rattle.mt_outside.specs.declared.network.Arrival.TheVariants.{Datagram, Quiet}
use Rattle.mt_outside.specs.declared.network.Peer.{Peer}
use Rattle.mt_queue.specs.declared.job.Job.{Job}
use Rattle.mt_queue.specs.declared.job.Job.TheVariants.{End, Take, Wake}
use Rattle.mt_owners.specs.mt_receiver.Rounds.{datagram_count, is_for, jobs_for, take_jobs, take_named, wake_count, wake_jobs, wakes, woken_behind}
use Rattle.mt_owners.specs.mt_runs.Datagrams.{session_named}
use Rattle.mt_owners.specs.mt_shared.Call.{Call}
use Rattle.mt_owners.specs.mt_worker.Accounts.{Account, account_behind, account_over}
use Rattle.mt_owners.specs.mt_worker.Due.{Hears, IsNone, IsOf, Reports, Then, TicksAll, Wakes, call_heard, call_tick, last_three}
use Rattle.mt_owners.specs.mt_worker.Gots.{Got}
use Rattle.mt_owners.specs.mt_worker.Subscription.{Subscription}
use Rattle.mt_rounds.specs.Following.{Answers, HearsIf, WakesIf, names_it}
use Rattle.mt_rounds.specs.Laws.{LinesAreFew, TicksAreWakes}
use Rattle.mt_rounds.proofs.Parts.{TicksBoth, both_none, in_rounds, ticks_both, ticks_one}

one_long : (session : ℕ) (call : Call) (gots : List Got) → Then (IsOf session call) IsNone gots → length gots ≡ 1
one_long session call gots due = ap length (due.2 ∙ ap (λ (l : List Got). due.0 ∷ l) due.4)

-- THE TIME STEPS.

wake_ticks : (now : ℕ) (gots : List Got) (b : Bool) → TicksAll (if b then Wake now ∷ [] else []) gots → length gots ≡ (if b then 1 else 0)
wake_ticks now gots = elim [ true ↦ λ ticks. one_long 0 (call_tick now) gots (ticks_one (Wake now) gots ticks) | false ↦ λ none. ap length none ]

take_ticks : (now : ℕ) (from : Peer) (bytes : List ℕ) (gots : List Got) (b : Bool) → TicksAll (if b then Take now from bytes ∷ [] else []) gots → length gots ≡ 0
take_ticks now from bytes gots = elim [ true ↦ λ ticks. ap length (ticks_one (Take now from bytes) gots ticks) | false ↦ λ none. ap length none ]

named_ticks : (workers worker : ℕ) (ids : List ℕ) (now : ℕ) (from : Peer) (bytes : List ℕ) (gots : List Got) (o : Option ℕ) → TicksAll (take_named workers worker ids now from bytes o) gots → length gots ≡ 0
named_ticks workers worker ids now from bytes gots None none = ap length none
named_ticks workers worker ids now from bytes gots (Some session) ticks = take_ticks now from bytes gots (is_for workers worker ids session) ticks

datagram_ticks : (workers worker : ℕ) (ids : List ℕ) (arrival : Arrival) (gots : List Got) → TicksAll (take_jobs workers worker ids arrival) gots → length gots ≡ 0
datagram_ticks workers worker ids (Quiet now) gots none = ap length none
datagram_ticks workers worker ids (Datagram now from bytes) gots ticks = named_ticks workers worker ids now from bytes gots (session_named bytes) ticks

in_all : (all woke took rest now later : ℕ) → all ≡ woke + (took + rest) → woke ≡ now → took ≡ 0 → rest ≡ later → all ≡ now + later
in_all all woke took rest now later a b c d = omega arith

pub ticks_are : TicksAreWakes
ticks_are workers woken ids [] gots ticks = ap length (both_none gots ticks.0 ticks.1 ticks.2 ticks.3 ticks.4)
ticks_are workers woken ids (arrival ∷ arrivals) gots ticks =
    let wake : List Job = wake_jobs woken arrival in
    let take : List Job = take_jobs workers workers ids arrival in
    let later : List Job = jobs_for workers workers ids (woken_behind woken arrival) arrivals in
    let one : TicksBoth wake (take ++ (later ++ End ∷ [])) gots = ticks_both wake (take ++ (later ++ End ∷ [])) gots (subst (λ (jobs : List Job). TicksAll jobs gots) (in_rounds wake take later (End ∷ [])) ticks) in
    let two : TicksBoth take (later ++ End ∷ []) one.second = ticks_both take (later ++ End ∷ []) one.second one.later in
    let woke : length one.first ≡ (if wakes woken arrival then 1 else 0) = wake_ticks (time_of arrival) one.first (wakes woken arrival) one.earlier in
    let took : length two.first ≡ 0 = datagram_ticks workers workers ids arrival two.first two.earlier in
    let rest : length two.second ≡ wake_count (woken_behind woken arrival) arrivals = ticks_are workers (woken_behind woken arrival) ids arrivals two.second two.later in
    let all : length gots ≡ length one.first + (length two.first + length two.second) =
    ap length (one.both ∙ ap (λ (l : List Got). one.first ++ l) two.both) ∙ length-append one.first (two.first ++ two.second) ∙ ap (λ (n : ℕ). length one.first + n) (length-append two.first two.second) in
    in_all (length gots) (length one.first) (length two.first) (length two.second) (if wakes woken arrival then 1 else 0) (wake_count (woken_behind woken arrival) arrivals) all woke took rest

-- THE LINES OF A SESSION.

none_most : (n m : ℕ) → n ≡ 0 → n ≤ m
none_most n m none = omega arith

one_most : (n : ℕ) → n ≡ 1 → n ≤ 1
one_most n one = omega arith

four_most : (all rest standing : ℕ) → all ≡ suc rest → rest ≡ standing → standing ≤ 3 → all ≤ 4
four_most all rest standing a b c = omega arith

one_more : (n m : ℕ) → n ≤ 1 → n + m ≤ m + 1
one_more n m few = omega arith

none_more : (n m : ℕ) → n ≡ 0 → n + m ≤ m
none_more n m none = omega arith

reports_long : (session now : ℕ) (subscriptions : List Subscription) (gots : List Got) → Reports session now subscriptions gots → length gots ≡ length subscriptions
reports_long session now [] gots none = ap length none
reports_long session now (subscription ∷ subscriptions) gots due =
    let rest : length due.1 ≡ length subscriptions = reports_long session now subscriptions due.1 due.4 in
    ap length due.2 ∙ ap (λ (n : ℕ). suc n) rest

three_most : (subscriptions : List Subscription) → length (last_three subscriptions) ≤ 3
three_most subscriptions = omega (arith, length-drop (length subscriptions - 3) subscriptions)

wakes_few : (a : Account) (now : ℕ) (gots : List Got) → Wakes a now gots → length gots ≤ 4
wakes_few a now gots due =
    let standing : List Subscription = (account_behind a due.0.told).subscriptions in
    four_most (length gots) (length due.1) (length (last_three standing)) (ap length due.2) (reports_long a.row.session now (last_three standing) due.1 due.4) (three_most standing)

wake_few : (a : Account) (now : ℕ) (gots : List Got) (b : Bool) → WakesIf b a now gots → length gots ≤ 4 * (if b then 1 else 0)
wake_few a now gots = elim [ true ↦ λ due. wakes_few a now gots due | false ↦ λ none. none_most (length gots) 0 (ap length none) ]

heard_few : (a : Account) (now : ℕ) (from : Peer) (bytes : List ℕ) (gots : List Got) (b : Bool) → MatchBool b (Hears a now from bytes gots) (gots ≡ []) → length gots ≤ 1
heard_few a now from bytes gots = elim [
  | true ↦ λ due. one_most (length gots) (one_long a.row.session (call_heard a now from bytes) gots due)
  | false ↦ λ none. none_most (length gots) 1 (ap length none)
]

datagram_few : (a : Account) (arrival : Arrival) (arrivals : List Arrival) (gots : List Got) → HearsIf a arrival gots → length gots + datagram_count arrivals ≤ datagram_count (arrival ∷ arrivals)
datagram_few a (Quiet now) arrivals gots none = none_more (length gots) (datagram_count arrivals) (ap length none)
datagram_few a (Datagram now from bytes) arrivals gots due =
    one_more (length gots) (datagram_count arrivals) (heard_few a now from bytes gots (names_it a.row.session (session_named bytes)) due)

few_in_all : (all mine rest first second woken counted later datagrams both : ℕ) → all ≡ mine + rest → mine ≡ first + second → first ≤ 4 * woken → second + datagrams ≤ both → rest ≤ 4 * later + datagrams → counted ≡ woken + later → all ≤ 4 * counted + both
few_in_all all mine rest first second woken counted later datagrams both a b c d e f = omega arith

pub few : LinesAreFew
few woken a [] gots none = none_most (length gots) (4 * wake_count woken [] + datagram_count []) (ap length none)
few woken a (arrival ∷ arrivals) gots follows =
    let mine : List Got = follows.0 in
    let answers : Answers woken a arrival mine = follows.3 in
    let rest : length follows.1 ≤ 4 * wake_count (woken_behind woken arrival) arrivals + datagram_count arrivals = few (woken_behind woken arrival) (account_over a mine) arrivals follows.1 follows.4 in
    few_in_all (length gots) (length mine) (length follows.1) (length answers.first) (length answers.second) (if wakes woken arrival then 1 else 0) (wake_count woken (arrival ∷ arrivals)) (wake_count (woken_behind woken arrival) arrivals) (datagram_count arrivals) (datagram_count (arrival ∷ arrivals))
    (ap length follows.2 ∙ length-append mine follows.1)
    (ap length answers.both ∙ length-append answers.first answers.second)
    (wake_few a (time_of arrival) answers.first (wakes woken arrival) answers.wake)
    (datagram_few (account_over a answers.first) arrival arrivals answers.second answers.datagram)
    rest
    refl

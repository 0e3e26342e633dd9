use Rattle.std.proofs.Common.{◌≡◌, ℕ, zero, suc, ◌-◌, List, [], ◌∷◌, length, take, drop, refl, sym, ap, ◌∙◌, arith}
use Rattle.std.proofs.lemmas.List.{take-map, take_rest}
use Rattle.mt_outside.specs.Replaying.{event_of, events_of, left_after}
use Rattle.mt_outside.specs.declared.fate.Fate.TheVariants.{Kept}
use Rattle.mt_outside.specs.declared.replaying.Event.{Event}
use Rattle.mt_outside.proofs.DiskSteps.{left_fits, rewound, synced_fits}
use Rattle.mt_outside.proofs.replaying.rewind.Goals as goal

events_drop : (n : ℕ) (events : List Event) → drop n (events_of events) ≡ events_of (drop n events)
events_drop zero events = refl
events_drop (suc n) [] = refl
events_drop (suc n) (event ∷ events) = events_drop n events

events_rest : (n : ℕ) (events : List Event) → events_of (take (length events - n) (drop n events)) ≡ drop n (events_of events)
events_rest n events = ap events_of (take_rest events n) ∙ sym (events_drop n events)

pub replay-requires : goal.replay-requires
replay-requires c =
    let first = c.args.first.now.items in
    let fits = synced_fits first (events_of c.args.events.now) c.args.synced c.requires.at_rest in
    let same = ap (λ es. left_after Kept first es) (take-map event_of c.args.synced c.args.events.now) in
    omega (arith, fits, ap length same, c.requires.room)

pub replay-requires-2 : goal.replay-requires-2
replay-requires-2 c =
    let first = c.args.first.now.items in
    let events = events_of c.args.events.now in
    let start : c.replay.new.bytes.items ≡ left_after Kept first (take c.args.synced events) =
    c.replay.ensures.left ∙ ap (λ es. left_after Kept first es) (sym (take-map event_of c.args.synced c.args.events.now)) in
    let whole = ap (λ b. left_after c.args.fate b (events_of (take (length c.args.events.now - c.args.synced) (drop c.args.synced c.args.events.now)))) start
    ∙ ap (λ es. left_after c.args.fate (left_after Kept first (take c.args.synced events)) es) (events_rest c.args.synced c.args.events.now)
    ∙ rewound first events c.args.synced c.requires.at_rest c.args.fate c.requires.writes in
    omega (arith, ap length whole, left_fits c.args.fate first events, c.requires.room, c.replay.ensures.capacity)

pub returns-clause-left : goal.returns-clause-left
returns-clause-left c =
    let first = c.args.first.now.items in
    let events = events_of c.args.events.now in
    let start : c.replay.new.bytes.items ≡ left_after Kept first (take c.args.synced events) =
    c.replay.ensures.left ∙ ap (λ es. left_after Kept first es) (sym (take-map event_of c.args.synced c.args.events.now)) in
    c.replay-2.ensures.left
    ∙ ap (λ b. left_after c.args.fate b (events_of (take (length c.args.events.now - c.args.synced) (drop c.args.synced c.args.events.now)))) start
    ∙ ap (λ es. left_after c.args.fate (left_after Kept first (take c.args.synced events)) es) (events_rest c.args.synced c.args.events.now)
    ∙ rewound first events c.args.synced c.requires.at_rest c.args.fate c.requires.writes

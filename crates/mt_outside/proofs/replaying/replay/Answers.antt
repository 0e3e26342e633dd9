use Rattle.std.proofs.Common.{◌≡◌, ◌+◌, ◌∷◌, length, drop, ap, ◌∙◌, sym, arith}
use Rattle.std.proofs.lemmas.Grind.{common_steps}
use Rattle.mt_outside.specs.Replaying.{event_of, events_of, left_after, left_after_one}
use Rattle.mt_outside.proofs.Growing.{grows}
use Rattle.mt_outside.proofs.replaying.replay.Goals as goal

pub replay_one-requires : goal.replay_one-requires
replay_one-requires c =
    let here : drop c.events.event-index c.args.events.now ≡ c.event-item.result ∷ drop (c.events.event-index + 1) c.args.events.now = grind (arith, common_steps) in
    let rest = events_of (drop (c.events.event-index + 1) c.args.events.now) in
    let next = left_after_one c.args.fate c.events.bytes.items (event_of c.event-item.result) in
    let whole : left_after c.args.fate next rest ≡ left_after c.args.fate c.args.bytes.now.items (events_of c.args.events.now) =
    sym (ap (λ es. left_after c.args.fate c.events.bytes.items (events_of es)) here) ∙ c.events.invariant.left in
    omega (arith, grows c.args.fate next rest, ap length whole, c.events.invariant.capacity, c.requires)

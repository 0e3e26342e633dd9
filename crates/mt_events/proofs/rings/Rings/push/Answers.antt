use Rattle.std.proofs.Common.{◌≡◌, ◌≤◌, ◌<◌, ◌∙◌, ◌++◌, ◌∷◌, [], List, true, arith, ap, length, rules, subst, sym}
use Rattle.std.proofs.lemmas.List.{length-map}
use Rattle.circular_buffer.specs.Buffer.{Buffer}
use Rattle.mt_events.specs.Kept.{items_of}
use Rattle.mt_events.specs.Rings.{StandFor, is_new, pushed}
use Rattle.mt_events.proofs.Keeping.{pushed_items, pushed_kept}
use Rattle.mt_events.proofs.Standing.{pushed_stand}
use Rattle.mt_model.specs.declared.messages.message.Happened.{Happened}
use Rattle.mt_events.proofs.rings.Rings.push.Goals as goal

pub invariant_of-self : goal.invariant_of-self
invariant_of-self c =
    let buffers = c.self.inside.rings.items in
    let i = c.from-ring.result in
    let event = c.args.event in
    let d = c.index_mut.result.now in
    let its : i ≡ event.fabric = search rules in
    let low : event.fabric ≤ 16 = c.requires.fabric in
    let all : length buffers ≡ 17 = sym (length-map buffers (λ (b : Buffer Happened). b.items)) ∙ c.self.invariant.rings.all in
    let within : i < length buffers = omega (arith, its, low, all) in
    let fresh : is_new event.number (items_of buffers) ≡ true = subst (λ (rings : List (List Happened)). is_new event.number rings ≡ true) (sym c.self.view_is) c.requires.new in
    pushed_kept buffers i d c.push_back.new.self c.self.invariant within c.index_mut.ensures.value event its low fresh c.push_back.ensures.items

pub returns-clause-pushed : goal.returns-clause-pushed
returns-clause-pushed c =
    let buffers = c.self.inside.rings.items in
    let i = c.from-ring.result in
    let event = c.args.event in
    let d = c.index_mut.result.now in
    let its : i ≡ event.fabric = search rules in
    let low : event.fabric ≤ 16 = c.requires.fabric in
    let all : length buffers ≡ 17 = sym (length-map buffers (λ (b : Buffer Happened). b.items)) ∙ c.self.invariant.rings.all in
    let within : i < length buffers = omega (arith, its, low, all) in
    pushed_items buffers i d c.push_back.new.self c.self.invariant within c.index_mut.ensures.value event its c.push_back.ensures.items ∙ ap (λ (rings : List (List Happened)). pushed event rings) c.self.view_is

pub returns-clause-stand : goal.returns-clause-stand
returns-clause-stand c = λ events stand.
    let event = c.args.event in
    let all : length c.args.self.now ≡ 17 = subst (λ (rings : List (List Happened)). length rings ≡ 17) c.self.view_is c.self.invariant.rings.all in
    subst (λ (rings : List (List Happened)). StandFor rings (events ++ event ∷ [])) (sym (returns-clause-pushed c)) (pushed_stand event c.args.self.now events c.requires.fabric all stand)

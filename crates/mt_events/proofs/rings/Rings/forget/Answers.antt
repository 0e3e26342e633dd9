use Rattle.std.proofs.Common.{◌≡◌, ◌<◌, ◌∙◌, ◌==◌, [], List, arith, ap, false, length, rules, slice_set, subst, sym}
use Rattle.std.proofs.lemmas.Bool.{cond-false, ne_eqb}
use Rattle.std.proofs.lemmas.Grind.{common_steps}
use Rattle.std.proofs.lemmas.List.{set_past}
use Rattle.mt_events.specs.Kept.{items_of}
use Rattle.mt_events.specs.Rings.{StandFor, forgotten, remembered}
use Rattle.mt_events.proofs.Keeping.{emptied_items, emptied_kept}
use Rattle.mt_events.proofs.Standing.{forgotten_stand}
use Rattle.mt_model.specs.declared.messages.message.Happened.{Happened}
use Rattle.mt_events.proofs.rings.Rings.forget.Goals as goal

pub invariant_of-self : goal.invariant_of-self
invariant_of-self c =
    let buffers = c.self.inside.rings.items in
    let i = c.from-ring.result in
    let within : i < length buffers = search rules in
    emptied_kept buffers i c.index_mut.result.now c.clear.new.self c.self.invariant within c.index_mut.ensures.value c.clear.ensures

pub returns-then-ring-len-clause-forgotten : goal.returns-then-ring-len-clause-forgotten
returns-then-ring-len-clause-forgotten c =
    let buffers = c.self.inside.rings.items in
    let fabric = c.args.fabric in
    let i = c.from-ring.result in
    let its : i ≡ fabric = search rules in
    let within : i < length buffers = search rules in
    let somebody : (fabric == 0) ≡ false = ne_eqb fabric 0 (λ e. omega (arith, e, its, c.if-ring-gt0.true)) in
    emptied_items buffers i c.index_mut.result.now c.clear.new.self c.self.invariant within c.index_mut.ensures.value c.clear.ensures
    ∙ ap (λ f. slice_set (items_of buffers) f []) its
    ∙ ap (λ (rings : List (List Happened)). slice_set rings fabric []) c.self.view_is
    ∙ sym (cond-false (fabric == 0) c.args.self.now (slice_set c.args.self.now fabric []) somebody)

pub returns-then-ring-len-clause-stand : goal.returns-then-ring-len-clause-stand
returns-then-ring-len-clause-stand c = λ events stand.
    let all : length c.args.self.now ≡ 17 = subst (λ (rings : List (List Happened)). length rings ≡ 17) c.self.view_is c.self.invariant.rings.all in
    subst (λ (rings : List (List Happened)). StandFor rings (remembered c.args.fabric events)) (sym (returns-then-ring-len-clause-forgotten c)) (forgotten_stand c.args.fabric c.args.self.now events all stand)

pub returns-else-ring-gt0-clause-stand : goal.returns-else-ring-gt0-clause-stand
returns-else-ring-gt0-clause-stand c = λ events stand.
    let all : length c.args.self.now ≡ 17 = subst (λ (rings : List (List Happened)). length rings ≡ 17) c.self.view_is c.self.invariant.rings.all in
    let same : forgotten c.args.fabric c.args.self.now ≡ c.args.self.now = first_of (search rules, grind (arith, common_steps, set_past)) in
    subst (λ (rings : List (List Happened)). StandFor rings (remembered c.args.fabric events)) same (forgotten_stand c.args.fabric c.args.self.now events all stand)

use Rattle.std.proofs.Common.{◌≡◌, List, ℕ, length, Some, sym, ap, subst, ◌∙◌, arith}
use Rattle.std.specs.Prelude.{IfSome, Option}
use Rattle.std.proofs.lemmas.Grind.{common_steps}
use Rattle.mt_outside.specs.DiskInside.{state_of}
use Rattle.mt_outside.specs.MemoryDisk.{Leaves, held, held_after, left_by, settled}
use Rattle.mt_outside.specs.Replaying.{events_of}
use Rattle.mt_outside.specs.Stops.{fate_now}
use Rattle.mt_outside.specs.declared.fate.Fate.{Fate}
use Rattle.mt_outside.proofs.DiskSteps.{fate_left, left_fits}
use Rattle.mt_outside.proofs.memory_disk.MemDisk.restart.Goals as goal

pub copy_down-requires : goal.copy_down-requires
copy_down-requires c =
    let same : length c.deref-2.result.now ≡ length (left_by c.in-Some.fate (held (state_of c.self.inside))) = grind (arith, common_steps, c.rewind.ensures.left) in
    grind (arith, common_steps, same, c.self.invariant.contents, left_fits c.in-Some.fate c.self.inside.first.items (events_of c.self.inside.events.items))

pub returns-clause-image : goal.returns-clause-image
returns-clause-image c =
    let state = state_of c.self.inside in
    let same : (held_after (settled c.rewind.new.first.items) (events_of c.clear.new.self.items)).kept ≡ left_by c.in-Some.fate (held state) =
    ap (λ es. (held_after (settled c.rewind.new.first.items) (events_of es)).kept) c.clear.ensures.items
    ∙ c.rewind.ensures.left
    ∙ ap (λ es. left_by c.in-Some.fate (held_after (settled c.self.inside.first.items) (events_of es))) c.deref.ensures.value in
    let stopped : fate_now c.self.inside.stop ≡ Some c.in-Some.fate = grind (arith, common_steps) in
    rw (← c.self.view_is) (subst (λ (f : Option Fate). IfSome f (λ _. Leaves (held state) (held_after (settled c.rewind.new.first.items) (events_of c.clear.new.self.items)).kept)) (sym stopped) (subst (λ (b : List ℕ). Leaves (held state) b) (sym same) (fate_left state c.in-Some.fate)))

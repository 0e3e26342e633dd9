use Rattle.std.proofs.Common.{refl, sym, ap, ◌∙◌, filter}
use Rattle.mt_runs.specs.mt_machine.Isolation.{owns}
use Rattle.mt_marks.proofs.Owning.{at_each, past_last, past_next}
use Rattle.mt_marks.proofs.own.rows.are_rows_same.Goals as goal

pub loop-place-init : goal.loop-place-init
loop-place-init c =
    let own = filter (owns c.args.fabric) in
    rw c.stored_places-place-items.ensures (λ same.
    ap own (sym (c.rows_stand_at_stored_places.ensures.all c.args.one.now c.requires.one_ascends c.requires.one_stored))
    ∙ same
    ∙ ap own (c.rows_stand_at_stored_places.ensures.all c.args.other.now c.requires.other_ascends c.requires.other_stored))

pub returns-then-not-are_own_same : goal.returns-then-not-are_own_same
returns-then-not-are_own_same c =
    let own = filter (owns c.args.fabric) in (
      λ yes. absurd (cc),
      λ same. c.if-not-are_own_same.ensures.1
          (ap own c.at.ensures.value ∙ at_each c.args.fabric c.args.one.now c.args.other.now _ same ∙ ap own (sym c.at-in-loop-place.ensures.value)),
    )

pub loop-place-preserved : goal.loop-place-preserved
loop-place-preserved c =
    let own = filter (owns c.args.fabric) in
    past_next c.args.fabric c.args.one.now c.args.other.now c.stored_places-place-items.result.now c.loop-place.place-index c.loop-place.invariant _ c.loop-place-test.true
    (ap own (sym c.at.ensures.value) ∙ c.if-not-are_own_same.ensures.0 refl ∙ ap own c.at-in-loop-place.ensures.value)

pub returns : goal.returns
returns c = (
  λ yes. past_last c.args.fabric c.args.one.now c.args.other.now c.stored_places-place-items.result.now c.loop-place.place-index c.loop-place.invariant c.loop-place-test.false,
  λ same. refl,
)

use Rattle.std.proofs.Common.{◌≡◌, sym, subst}
use Rattle.std.specs.Prelude.{IfOk}
use Rattle.mt_play.specs.mt_runs.Isolation.{own_part}
use Rattle.mt_play.specs.mt_runs.Marks.{born}
use Rattle.mt_play.specs.mt_marks.Difference.{part_between}
use Rattle.mt_compare.specs.Sides.{mark_in}
use Rattle.mt_compare.specs.declared.side.Here.{Here}
use Rattle.mt_compare.proofs.between.part_between.Goals as goal

pub returns-in-Enters-Enters : goal.returns-in-Enters-Enters
returns-in-Enters-Enters c given sessions g h is its =
    let fabric = c.args.fabric in
    let found = c.born_between.result in
    subst (λ (here : Here). IfOk found (λ part. part ≡ part_between (mark_in fabric g here) (mark_in fabric h c.args.theirs.now.here))) (sym c.in-Enters-Enters.is-0)
    (subst (λ (here : Here). IfOk found (λ part. part ≡ part_between (born (own_part fabric g.whole)) (mark_in fabric h here))) (sym c.in-Enters-Enters.is-1)
    (c.born_between.ensures given sessions g h is its))

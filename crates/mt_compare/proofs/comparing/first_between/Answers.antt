use Rattle.std.proofs.Common.{◌≡◌, Some, None, sym, ap, ◌∙◌, Option, subst}
use Rattle.mt_play.specs.mt_marks.Difference as written
use Rattle.mt_play.specs.mt_marks.Difference.{part_between}
use Rattle.mt_compare.specs.Found.{difference_in}
use Rattle.mt_compare.specs.Sides.{GoesOn, mark_in}
use Rattle.mt_compare.specs.declared.comparing.Difference.{Difference}
use Rattle.mt_compare.proofs.Abreast.{both_end, differ_here, go_abreast, mine_goes, theirs_goes}
use Rattle.mt_compare.proofs.comparing.first_between.Goals as goal

abbrev told : Difference → Option written.Difference
told d = Some (difference_in d)

pub returns-in-Some : goal.returns-in-Some
returns-in-Some c given sessions g h is its =
    let fabric = c.args.fabric in
    let at = c.loop-number in
    let a = at.invariant.abreast given sessions g h is its in
    let mine = c.next.new.self in
    let theirs = c.next-in-loop-number.new.self in
    let goes = subst (GoesOn given sessions fabric a.mine_now at.mine mine) c.in-true-true.is-0 (c.in_ok-next.ensures.next given sessions a.mine_now a.mine_stands) in
    let go_too = subst (GoesOn given sessions fabric a.theirs_now at.theirs theirs) c.in-true-true.is-1 (c.in_ok-next-2.ensures.next given sessions a.theirs_now a.theirs_stands) in
    let found : Some c.in-Some.part ≡ part_between (mark_in fabric goes.now mine.here) (mark_in fabric go_too.now theirs.here) =
    sym c.in-Some.is ∙ c.in_ok-part-in-true-true.ensures given sessions goes.now go_too.now goes.stands go_too.stands in
    ap told c.differs.ensures ∙ differ_here given sessions fabric g h c.args.mine.now c.args.theirs.now at.mine at.theirs at.number a mine theirs goes go_too c.in-Some.part found

pub returns-in-true-false : goal.returns-in-true-false
returns-in-true-false c given sessions g h is its =
    let fabric = c.args.fabric in
    let at = c.loop-number in
    let a = at.invariant.abreast given sessions g h is its in
    let mine = c.next.new.self in
    let theirs = c.next-in-loop-number.new.self in
    let goes = subst (GoesOn given sessions fabric a.mine_now at.mine mine) c.in-true-false.is-0 (c.in_ok-next.ensures.next given sessions a.mine_now a.mine_stands) in
    let end = subst (GoesOn given sessions fabric a.theirs_now at.theirs theirs) c.in-true-false.is-1 (c.in_ok-next-2.ensures.next given sessions a.theirs_now a.theirs_stands) in
    ap told c.differs-in-true-false.ensures ∙ mine_goes given sessions fabric g h c.args.mine.now c.args.theirs.now at.mine at.theirs at.number a mine goes end

pub returns-in-false-true : goal.returns-in-false-true
returns-in-false-true c given sessions g h is its =
    let fabric = c.args.fabric in
    let at = c.loop-number in
    let a = at.invariant.abreast given sessions g h is its in
    let mine = c.next.new.self in
    let theirs = c.next-in-loop-number.new.self in
    let end = subst (GoesOn given sessions fabric a.mine_now at.mine mine) c.in-false-true.is-0 (c.in_ok-next.ensures.next given sessions a.mine_now a.mine_stands) in
    let goes = subst (GoesOn given sessions fabric a.theirs_now at.theirs theirs) c.in-false-true.is-1 (c.in_ok-next-2.ensures.next given sessions a.theirs_now a.theirs_stands) in
    ap told c.differs-in-false-true.ensures ∙ theirs_goes given sessions fabric g h c.args.mine.now c.args.theirs.now at.mine at.theirs at.number a theirs end goes

pub returns-in-false-false : goal.returns-in-false-false
returns-in-false-false c given sessions g h is its =
    let fabric = c.args.fabric in
    let at = c.loop-number in
    let a = at.invariant.abreast given sessions g h is its in
    let end = subst (GoesOn given sessions fabric a.mine_now at.mine c.next.new.self) c.in-false-false.is-0 (c.in_ok-next.ensures.next given sessions a.mine_now a.mine_stands) in
    let end_too = subst (GoesOn given sessions fabric a.theirs_now at.theirs c.next-in-loop-number.new.self) c.in-false-false.is-1 (c.in_ok-next-2.ensures.next given sessions a.theirs_now a.theirs_stands) in
    both_end given sessions fabric g h c.args.mine.now c.args.theirs.now at.mine at.theirs at.number a end end_too

pub loop-number-preserved : goal.loop-number-preserved
loop-number-preserved c = record {
  mine = c.in_ok-next.ensures.journal;
  theirs = c.in_ok-next-2.ensures.journal;
  abreast = λ given sessions g h is its. (
      let fabric = c.args.fabric in
      let at = c.loop-number in
      let a = at.invariant.abreast given sessions g h is its in
      let mine = c.next.new.self in
      let theirs = c.next-in-loop-number.new.self in
      let goes = subst (GoesOn given sessions fabric a.mine_now at.mine mine) c.in-true-true.is-0 (c.in_ok-next.ensures.next given sessions a.mine_now a.mine_stands) in
      let go_too = subst (GoesOn given sessions fabric a.theirs_now at.theirs theirs) c.in-true-true.is-1 (c.in_ok-next-2.ensures.next given sessions a.theirs_now a.theirs_stands) in
      let none : None ≡ part_between (mark_in fabric goes.now mine.here) (mark_in fabric go_too.now theirs.here) =
      sym c.in_default.is ∙ c.in_ok-part-in-true-true.ensures given sessions goes.now go_too.now goes.stands go_too.stands in
      go_abreast given sessions fabric g h c.args.mine.now c.args.theirs.now at.mine at.theirs at.number a mine theirs goes go_too none
      );
}

use Rattle.std.proofs.Common.{◌≡◌, ◌++◌, ◌+◌, List, sym, ap, subst, drop, map, ◌∙◌}
use Rattle.std.proofs.lemmas.Bool.{eq-eqb, ne_eqb}
use Rattle.mt_marks.specs.Remembered.{remembered}
use Rattle.mt_marks.specs.Told.{talks_in}
use Rattle.mt_marks.specs.declared.told.Told.{Told}
use Rattle.mt_runs.specs.Whole.{begun_in}
use Rattle.mt_marks.proofs.Beginning.{no_more_begun, none_begun, one_more_begun}
use Rattle.mt_marks.proofs.told.begun_talks.Goals.{then-row-boot+in_ok-begun_with+in_ok-push, else-row-boot}
use Rattle.mt_marks.proofs.told.begun_talks.Goals as goal

pub loop-row-preserved : goal.loop-row-preserved
loop-row-preserved c =
    let rows = c.args.rows.now in
    let boot = c.args.boot in
    let at = c.loop-row in
    let row = c.row-item.result in
    let Are : List Told → Type 0 = λ talks. talks_in talks ++ map remembered (begun_in boot (drop (at.row-index + 1) rows)) ≡ map remembered (begun_in boot rows) in
    elim c.if-row-boot.branch [
      | then-row-boot+in_ok-begun_with+in_ok-push w ↦
          subst Are (sym (ap (λ v. v.items) w.talks-is ∙ w.in_ok-push.ensures.items))
          (one_more_begun boot rows at.row-index row at.talks.items w.in_ok-begun_with.field-0 c.loop-row-test.true c.row-item.is (eq-eqb _ _ w.if-row-boot.true) w.in_ok-begun_with.ensures at.invariant)
      | else-row-boot w ↦
          subst Are (sym (ap (λ v. v.items) w.talks-is))
          (none_begun boot rows at.row-index row at.talks.items c.loop-row-test.true c.row-item.is (ne_eqb _ _ w.if-row-boot.false) at.invariant)
    ]

pub returns : goal.returns
returns c = no_more_begun c.args.boot c.args.rows.now c.loop-row.row-index c.loop-row.talks.items c.loop-row-test.false c.loop-row.invariant

use Rattle.std.proofs.Common.{◌++◌, List, sym, ap, subst, ◌∙◌}
use Rattle.std.proofs.lemmas.Bool.{eq-eqb, ne_eqb}
use Rattle.mt_whole.specs.declared.talks.SessionTalk as code
use Rattle.mt_whole.specs.Talks.{AreTalks}
use Rattle.mt_interactions.specs.mt_runs.Whole.{begun_in}
use Rattle.mt_whole.proofs.Listed.{no_more_begun, none_begun, one_more_begun}
use Rattle.mt_whole.proofs.talks.begun.Goals.{then-row-boot+in_ok-begun_with+in_ok-push, else-row-boot}
use Rattle.mt_whole.proofs.talks.begun.Goals as goal

pub loop-row-preserved : goal.loop-row-preserved
loop-row-preserved c more are =
    let rows = c.args.rows.now in
    let boot = c.args.boot in
    let at = c.loop-row in
    let row = c.row-item.result in
    let Are = λ (talks : List code.SessionTalk). AreTalks (talks ++ more) (begun_in boot rows) in
    elim c.if-row-boot.branch [
      | then-row-boot+in_ok-begun_with+in_ok-push w ↦
          let new = w.in_ok-begun_with.field-0 in
          subst Are (sym (ap (λ v. v.items) w.talks-is ∙ w.in_ok-push.ensures.items))
          (one_more_begun boot rows at.row-index row at.talks.items more new c.loop-row-test.true c.row-item.is (eq-eqb _ _ w.if-row-boot.true) w.in_ok-begun_with.ensures at.invariant are)
      | else-row-boot w ↦
          subst Are (sym (ap (λ v. v.items) w.talks-is))
          (none_begun boot rows at.row-index row at.talks.items more c.loop-row-test.true c.row-item.is (ne_eqb _ _ w.if-row-boot.false) at.invariant are)
    ]

pub returns : goal.returns
returns c = no_more_begun c.args.boot c.args.rows.now c.loop-row.row-index c.loop-row.talks.items c.loop-row-test.false c.loop-row.invariant

use Rattle.std.proofs.Common.{◌≡◌, ◌++◌, List, subst}
use Rattle.std.specs.Prelude.{IfOk}
use Rattle.std.specs.Option.{option_map}
use Rattle.mt_model.specs.texts.Contents.{contents_of}
use Rattle.mt_play.specs.mt_machine.Environment.{given_by}
use Rattle.mt_play.specs.mt_runs.Course.{going_on}
use Rattle.mt_play.specs.mt_runs.Whole.{opened}
use Rattle.mt_play.specs.mt_marks.Difference.{difference_from}
use Rattle.mt_play.specs.mt_marks.Marked.{Marked}
use Rattle.mt_compare.specs.Found.{difference_in}
use Rattle.mt_compare.specs.Sides.{if_lost_at, left, left_of}
use Rattle.mt_compare.proofs.comparing.compare_with.Goals as goal

pub returns : goal.returns
returns c g is =
    let given = given_by (contents_of c.args.config.now) in
    let sessions = c.args.config.now.sessions in
    let begun = going_on (opened c.args.config.now) in
    let theirs = c.in_ok-theirs.ensures in
    subst (λ (others : List Marked). IfOk c.first_between.result (λ found. option_map difference_in found ≡ difference_from 1 (left_of given sessions c.args.fabric g c.args.mine.now) others))
    (λ i. if_lost_at (theirs.unseen.1 i) ++ left given sessions c.args.fabric begun (theirs.unseen.0 i) (theirs.events i).now)
    (c.first_between.ensures given sessions g begun is theirs.node)

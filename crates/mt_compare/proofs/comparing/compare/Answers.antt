use Rattle.std.proofs.Common.{◌≡◌, ◌++◌, List, subst}
use Rattle.std.specs.Prelude.{IfOk}
use Rattle.std.specs.Option.{option_map}
use Rattle.mt_model.specs.texts.Contents.{contents_of}
use Rattle.mt_play.specs.mt_machine.Environment.{given_by}
use Rattle.mt_play.specs.mt_runs.Course.{going_on}
use Rattle.mt_play.specs.mt_runs.Whole.{opened}
use Rattle.mt_play.specs.mt_marks.Difference.{difference_from}
use Rattle.mt_play.specs.mt_marks.Marked.{Marked, marked}
use Rattle.mt_compare.specs.Found.{difference_in}
use Rattle.mt_compare.specs.Sides.{if_lost_at, left}
use Rattle.mt_compare.proofs.comparing.compare.Goals as goal

pub returns : goal.returns
returns c =
    let given = given_by (contents_of c.args.config.now) in
    let sessions = c.args.config.now.sessions in
    let begun = going_on (opened c.args.config.now) in
    let mine = c.in_ok-mine.ensures in
    subst (λ (ones : List Marked). IfOk c.compare_with.result (λ found. option_map difference_in found ≡ difference_from 1 ones (marked given sessions c.args.fabric begun c.args.second.now)))
    (λ i. if_lost_at (mine.unseen.1 i) ++ left given sessions c.args.fabric begun (mine.unseen.0 i) (mine.events i).now)
    (c.compare_with.ensures begun mine.node)

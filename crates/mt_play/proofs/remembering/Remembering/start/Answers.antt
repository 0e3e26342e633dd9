use Rattle.std.proofs.Common.{map, ◌∙◌}
use Rattle.mt_model.specs.texts.Contents.{contents_of}
use Rattle.mt_whole.specs.mt_machine.Environment.{given_by}
use Rattle.mt_whole.specs.mt_runs.Course.{going_on}
use Rattle.mt_whole.specs.mt_runs.Whole.{begun_in, opened}
use Rattle.mt_whole.specs.mt_marks.Remembered.{remembered}
use Rattle.mt_play.proofs.remembering.Remembering.start.Goals as goal

pub returns-clause-remembers : goal.returns-clause-remembers
returns-clause-remembers c =
    let config = c.args.config.now in
    let plays = c.in_ok-playing.ensures.plays in
    let first = c.boot.ensures (given_by (contents_of config)) config.sessions (going_on (opened config)) plays in
    record { playing = plays; told = c.in_ok-told.ensures ∙ (λ i. map remembered (begun_in (first i) (c.as_slice.ensures i))) }

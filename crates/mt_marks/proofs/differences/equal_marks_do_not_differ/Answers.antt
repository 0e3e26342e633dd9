use Rattle.std.proofs.Common.{sym, ◌∙◌}
use Rattle.mt_marks.specs.differences.Marked.{marked}
use Rattle.mt_marks.proofs.FirstDiffering.{alike_where_equal, differences_are_first}
use Rattle.mt_marks.proofs.differences.equal_marks_do_not_differ.Goals as goal

pub returns-clause-alike : goal.returns-clause-alike
returns-clause-alike c given sessions fabric g first second =
    let are = c.marked_events_have_the_marks.ensures in
    let told = alike_where_equal c.parts_come_in_order.ensures.marks 1 (marked given sessions fabric g first) (marked given sessions fabric g second) in (
      λ none. sym (are given sessions fabric g first) ∙ told.0 none ∙ are given sessions fabric g second,
      λ same. told.1 (are given sessions fabric g first ∙ same ∙ sym (are given sessions fabric g second)),
    )

pub returns-clause-first : goal.returns-clause-first
returns-clause-first c = differences_are_first c.parts_come_in_order.ensures.marks

use Rattle.mt_top.proofs.Isolated.{isolated}
use Rattle.mt_top.proofs.isolation.runs_are_isolated.Goals as goal

pub returns : goal.returns
returns c =
    isolated c.wholes_are_valid.ensures.opens c.runs_are_their_messages.ensures c.equal_marks_have_equal_messages.ensures.messages c.equal_marks_have_equal_messages.ensures.parts c.equal_marks_have_equal_messages.ensures.ends
    c.recordings_are_read.ensures.only

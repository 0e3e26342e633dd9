use Rattle.std.proofs.Common.{sym, ◌∙◌}
use Rattle.mt_runs.specs.Replay.{ends_by, held_after, replayed}
use Rattle.mt_runs.proofs.Holding.{held_same}
use Rattle.mt_runs.proofs.runs.equal_marks_have_equal_messages.Goals as goal

pub returns-clause-messages : goal.returns-clause-messages
returns-clause-messages c = λ given sessions fabric g h events others rules rows some valid_g room_g valid_h room_h own marks.
    c.runs_are_replayed.ensures.sent given sessions fabric g events rules rows valid_g room_g some
    ∙ (λ i. replayed given sessions fabric (held_same fabric g.whole h.whole own i) (marks i))
    ∙ sym (c.runs_are_replayed.ensures.sent given sessions fabric h others rules rows valid_h room_h some)

pub returns-clause-parts : goal.returns-clause-parts
returns-clause-parts c = λ given sessions fabric g h events others rules rows some valid_g room_g valid_h room_h own marks.
    c.runs_are_replayed.ensures.held given sessions fabric g events rules rows valid_g room_g some
    ∙ (λ i. held_after given sessions fabric (held_same fabric g.whole h.whole own i) (marks i))
    ∙ sym (c.runs_are_replayed.ensures.held given sessions fabric h others rules rows valid_h room_h some)

pub returns-clause-ends : goal.returns-clause-ends
returns-clause-ends c = λ given sessions fabric g h events others rules rows some valid_g room_g valid_h room_h own marks.
    c.runs_are_replayed.ensures.ends given sessions fabric g events rules rows valid_g room_g some
    ∙ (λ i. ends_by given sessions fabric (held_same fabric g.whole h.whole own i) (marks i))
    ∙ sym (c.runs_are_replayed.ensures.ends given sessions fabric h others rules rows valid_h room_h some)

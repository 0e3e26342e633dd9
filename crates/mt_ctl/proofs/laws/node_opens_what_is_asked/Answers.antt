use Rattle.std.proofs.Common.{[], ap, ◌∙◌, arith}
use Rattle.mt_session.specs.Datagrams.{mirror}
use Rattle.mt_ctl.specs.Hearing.{answers}
use Rattle.mt_ctl.specs.Steps.{script_headers}
use Rattle.mt_ctl.proofs.Ends.{answers-sealed, counters_left, length-messages_from, told-asked}
use Rattle.mt_ctl.proofs.laws.node_opens_what_is_asked.Goals as goal

pub returns : goal.returns
returns c = λ row steps secured narrow fits left spelled.
    let few = counters_left steps 2 row.counter_in (omega arith) left in
    let long = length-messages_from steps 1 in
    ap (answers row) (told-asked (mirror row) steps row.counter_in 1)
    ∙ answers-sealed (mirror row) (λ start accepted counter near new. (c.fresh_is_new_within_reach.ensures start accepted counter).1 (near, new))
    (λ accepted counter header payload. c.mirror_opens_what_is_sealed.ensures (mirror row) accepted counter header payload) secured narrow
    (script_headers steps) [] row.counter_in (omega arith) (omega arith) tt spelled

use Rattle.std.proofs.Common.{[], ap, ◌∙◌, arith}
use Rattle.mt_session.specs.Datagrams.{mirror}
use Rattle.mt_ctl.specs.Hearing.{answers}
use Rattle.mt_ctl.specs.Showing.{datagrams_in, shown_each}
use Rattle.mt_ctl.proofs.Ends.{answers-sealed, shown-answered}
use Rattle.mt_ctl.proofs.laws.sealed_messages_are_shown.Goals as goal

pub returns : goal.returns
returns c = λ row messages sent secured narrow few spelled is.
    shown-answered (mirror row) [] (datagrams_in sent)
    ∙ ap (λ datagrams. shown_each (datagrams_in sent) (answers (mirror row) datagrams)) is
    ∙ ap (shown_each (datagrams_in sent))
    (answers-sealed row (λ start accepted counter near new. (c.fresh_is_new_within_reach.ensures start accepted counter).1 (near, new))
    (λ accepted counter header payload. c.mirror_opens_what_is_sealed.ensures row accepted counter header payload) secured narrow
    messages [] row.counter_out (omega arith) few tt spelled)

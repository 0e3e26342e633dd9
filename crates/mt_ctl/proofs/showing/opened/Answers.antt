-- What the session answers to the datagram, and what it stands for behind it.
use Rattle.std.proofs.Common.{◌≡◌, Result, Ok, ap, subst, ◌∙◌}
use Rattle.mt_session.specs.declared.opening.Dropped.{Dropped}
use Rattle.mt_session.specs.Opening.{Arrival, arrived, received}
use Rattle.mt_session.specs.Sessions.{StandsFor, arrivals_by, counters}
use Rattle.mt_ctl.proofs.showing.opened.Goals as goal

pub returns-in-Ok-clause-stands : goal.returns-in-Ok-clause-stands
returns-in-Ok-clause-stands c = λ row arrivals messages s.
    let bytes : c.as_mut_slice.result.now ≡ c.args.bytes.now =
    c.as_mut_slice.ensures.value ∙ c.into_vec-datagram.ensures ∙ c.in_ok-copy.ensures in
    let is : arrived (Ok c.in-Ok.opened) ≡ received row (counters arrivals) c.args.bytes.now =
    c.in-Ok.ensures.answer row arrivals messages s ∙ ap (received row (counters arrivals)) bytes in
    let P : Result Arrival Dropped → Type 0 = λ answer. StandsFor c.unseal.new.self row (arrivals_by arrivals answer) messages in
    subst P is (c.in-Ok.ensures.stands row arrivals messages s)

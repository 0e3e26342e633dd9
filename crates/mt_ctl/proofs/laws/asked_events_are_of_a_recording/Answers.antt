use Rattle.std.proofs.Common.{arith}
use Rattle.mt_session.specs.Datagrams.{mirror}
use Rattle.mt_ctl.proofs.Recordings.{forms-asked, length-asked, script-some, text-short, times-asked}
use Rattle.mt_ctl.proofs.laws.asked_events_are_of_a_recording.Goals as goal

pub returns-clause-form : goal.returns-clause-form
returns-clause-form c = λ row bytes steps h.
    let told = script-some bytes steps h in
    forms-asked c.datagram_has_its_length.ensures steps 0 (mirror row) row.counter_in 1 told.climbs

pub returns-clause-times : goal.returns-clause-times
returns-clause-times c = λ row bytes steps h.
    let told = script-some bytes steps h in
    times-asked steps 0 (mirror row) row.counter_in 1 told.climbs

pub returns-clause-few : goal.returns-clause-few
returns-clause-few c = λ row bytes steps h.
    let told = script-some bytes steps h in
    let few = told.few in
    omega (arith, length-asked steps (mirror row) row.counter_in 1)

pub returns-clause-short : goal.returns-clause-short
returns-clause-short c = λ row bytes steps h.
    text-short c.datagram_has_its_length.ensures steps (mirror row) row.counter_in 1 (script-some bytes steps h)

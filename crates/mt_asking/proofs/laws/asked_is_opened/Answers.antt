use Rattle.mt_asking.proofs.Exact.{asked_exactly}
use Rattle.mt_asking.proofs.laws.asked_is_opened.Goals as goal

pub returns : goal.returns
returns c =
    let of_recording = c.asked_events_are_of_a_recording.ensures in
    asked_exactly c.node_opens_what_is_asked.ensures (record { form = of_recording.form; times = of_recording.times; few = of_recording.few; short = of_recording.short }) c.written_recordings_are_read.ensures

use Rattle.mt_files.proofs.EventLines.{recording_text-read}
use Rattle.mt_files.proofs.laws.written_recordings_are_read.Goals as goal

pub returns : goal.returns
returns c = recording_text-read

use Rattle.mt_files.proofs.Recordings.{IsRecording-from_read, read-IsRecording}
use Rattle.mt_files.proofs.laws.recordings_are_read.Goals as goal

pub returns-clause-only : goal.returns-clause-only
returns-clause-only c = IsRecording-from_read

pub returns-clause-all : goal.returns-clause-all
returns-clause-all c = read-IsRecording

use Rattle.mt_files.proofs.EventLines.{event_line-single, output-lines, sent_line-single}
use Rattle.mt_files.proofs.laws.lines_are_single.Goals as goal

pub returns-clause-event : goal.returns-clause-event
returns-clause-event c = event_line-single

pub returns-clause-sent : goal.returns-clause-sent
returns-clause-sent c = sent_line-single

pub returns-clause-output : goal.returns-clause-output
returns-clause-output c = output-lines

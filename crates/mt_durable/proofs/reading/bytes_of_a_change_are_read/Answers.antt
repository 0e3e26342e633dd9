use Rattle.mt_durable.proofs.Said.{said_alone, says_read}
use Rattle.mt_durable.proofs.reading.bytes_of_a_change_are_read.Goals as goal

pub returns : goal.returns
returns c = record { read = says_read c.element_is_read.ensures; alone = said_alone }

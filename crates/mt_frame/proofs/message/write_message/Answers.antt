use Rattle.mt_frame.proofs.Writes.{message_written}
use Rattle.mt_frame.proofs.message.write_message.Goals as goal

pub returns-clause-written : goal.returns-clause-written
returns-clause-written c = message_written c.args.header.now c.put_header.result c.args.out.now c.put_header.new.out c.put_header.ensures.in_range c.put_header.ensures.put

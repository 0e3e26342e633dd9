use Rattle.mt_frame.proofs.Writes.{protocol_written}
use Rattle.mt_frame.proofs.protocol.write_protocol.Goals as goal

pub returns-clause-written : goal.returns-clause-written
returns-clause-written c = protocol_written c.args.header.now c.put_header.result c.args.out.now c.put_header.new.out c.put_header.ensures.in_range c.put_header.ensures.put

use Rattle.std.proofs.Common.{◌∙◌, arith}
use Rattle.mt_frame.proofs.Protocols.{read_stands, is_read}
use Rattle.mt_frame.proofs.protocol.read_protocol.Goals as goal

pub returns-clause-found : goal.returns-clause-found
returns-clause-found c = read_stands c.args.bytes.now c.front_header.result (λ i. omega (arith, c.type_inv.bytes i)) c.front_header.ensures

pub returns-clause-only : goal.returns-clause-only
returns-clause-only c = λ header len le h. c.front_header.ensures ∙ is_read c.args.bytes.now header len le h

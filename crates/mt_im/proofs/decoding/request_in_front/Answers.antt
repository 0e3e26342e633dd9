use Rattle.std.proofs.Common.{sym}
use Rattle.mt_im.proofs.FaultLaws.{kept_request}
use Rattle.mt_im.proofs.RequestLaws.{found_in_front}
use Rattle.mt_im.proofs.decoding.request_in_front.Goals as goal

pub returns-clause-memory_alone : goal.returns-clause-memory_alone
returns-clause-memory_alone c = kept_request c.in_ok-kind.kind _ c.request_of.result c.request_of.ensures

pub returns-clause-found : goal.returns-clause-found
returns-clause-found c = found_in_front c.values_are_trees.ensures.tree c.values_are_trees.ensures.value c.args.opcode c.args.bytes.now c.in_ok-kind.kind _ c.request_of.result (sym c.in_ok-kind.ensures.value) c.in_ok-message.ensures.in_front c.request_of.ensures

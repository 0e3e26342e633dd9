use Rattle.std.proofs.Common.{ap, length}
use Rattle.mt_files.proofs.Sizes.{size-peer}
use Rattle.mt_files.proofs.size.peer_size.Goals as goal

pub returns-clause-size : goal.returns-clause-size
returns-clause-size c = size-peer c.args.peer (length c.as_slice.result.now) (ap length c.as_slice.ensures)

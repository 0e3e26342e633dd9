use Rattle.mt_worker.specs.Gots.{place_of}
use Rattle.mt_shares.proofs.Merging.{are_merged}
use Rattle.mt_shares.proofs.shares_are_merged.Goals as goal

pub returns : goal.returns
returns c = λ thread. are_merged place_of thread

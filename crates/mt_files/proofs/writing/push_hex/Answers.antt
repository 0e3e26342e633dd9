use Rattle.std.proofs.Transfers.{starts_with_trans}
use Rattle.mt_files.proofs.Parts.{part-written}
use Rattle.mt_files.proofs.writing.push_hex.Goals as goal

pub rest-preserved : goal.rest-preserved
rest-preserved c = (
  part-written 512 c.rest.rest.now c.split_at.result.0.now c.split_at.result.1.now c.rest.out.items c.push_part.new.out.items _
      c.split_at.ensures.front c.split_at.ensures.back c.in_ok-push_part.ensures.written c.rest.invariant.0,
  starts_with_trans _ _ _ c.push_part.ensures.kept c.rest.invariant.1,
)

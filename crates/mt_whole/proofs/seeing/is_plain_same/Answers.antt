use Rattle.mt_whole.proofs.Seen.{own_of_parts, parts_of_own}
use Rattle.mt_whole.proofs.seeing.is_plain_same.Goals as goal

pub returns : goal.returns
returns c =
    let one = c.args.one.now in
    let other = c.args.other.now in
    let same = c.are_parts_same.ensures in (
      λ yes. own_of_parts c.args.fabric one.state other.state one.ledger other.ledger (same.0 yes),
      λ own. same.1 (parts_of_own c.args.fabric one.state other.state one.ledger other.ledger own),
    )

use Rattle.std.proofs.Common.{◌≡◌, get_or, arith}
use Rattle.std.proofs.lemmas.Grind.{common_steps}
use Rattle.mt_journal.specs.Layout.{mark, same_front}
use Rattle.mt_journal.proofs.Heads.{begin_head, head_of}
use Rattle.mt_journal.proofs.recovering.read_marked.Goals as goal

pub returns-clause-found : goal.returns-clause-found
returns-clause-found g c = λ file told whole many head_is.
    (let head = c.args.head.now in
    let all : same_front mark head ≡ 8 = grind (arith, common_steps) in
    let gate : get_or head 8 0 ≡ 0x5a = grind (arith, common_steps) in
    c.read_slots.ensures.found file told whole many (omega arith) (begin_head g.F.Form.image g.F.Form.change file (head_of file head head_is all gate (omega (arith, many)))))

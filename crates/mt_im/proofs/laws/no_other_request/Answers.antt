use Rattle.std.proofs.Common.{◌≡◌, Ok}
use Rattle.mt_im.specs.Reading.{request_at}
use Rattle.mt_im.proofs.RequestLaws.{tree_only}
use Rattle.mt_im.proofs.laws.no_other_request.Goals as goal

pub returns : goal.returns
returns c = λ opcode request other v s few t few'.
    let e : request_at opcode v ≡ Ok request = tree_only c.values_are_trees.ensures.tree c.values_are_trees.ensures.value opcode v request s few in
    let f : request_at opcode v ≡ Ok other = tree_only c.values_are_trees.ensures.tree c.values_are_trees.ensures.value opcode v other t few' in
    cc

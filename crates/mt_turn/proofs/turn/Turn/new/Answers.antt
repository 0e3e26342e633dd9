use Rattle.std.proofs.Common.{rules, ◌≡◌, ◌∷◌, [], Some, replicate}
use Rattle.mt_turn.proofs.Sharing.{begins}
use Rattle.mt_turn.proofs.turn.Turn.new.Goals as goal

pub new-requires : goal.new-requires
new-requires g c =
    let items : c.push_reserved.new.self.items ≡ Some c.args.value ∷ [] = search rules in
    let about : c.of-about.result.value ≡ c.args.value = search rules in
    rw (items, about) (begins _ _ _ (replicate 65 0) c.requires.empty)

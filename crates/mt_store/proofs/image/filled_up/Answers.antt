use Rattle.std.proofs.Common.{◌≡◌, ◌-◌, ℕ, List, ◌++◌, length, take, replicate, refl, ap, ◌∙◌, arith}
use Rattle.std.proofs.lemmas.Grind.{common_steps}
use Rattle.std.proofs.lemmas.List.{take_all, take_at}
use Rattle.mt_store.proofs.image.filled_up.Goals as goal

pub returns-clause-front : goal.returns-clause-front
returns-clause-front c =
    let bytes = c.args.bytes.items in
    let more : List ℕ = replicate (65535 - length bytes) 0 in
    let filled : c.resize.new.self.items ≡ take 65535 bytes ++ more = grind (arith, common_steps) in
    ap (λ (l : List ℕ). take (length bytes) l) (filled ∙ ap (λ (l : List ℕ). l ++ more) (take_all 65535 bytes (omega (arith, c.requires)))) ∙ take_at bytes more (length bytes) refl

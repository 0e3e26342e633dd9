use Rattle.std.proofs.Common.{◌≡◌, ◌-◌, ℕ, List, ◌++◌, length, take, ap, sym, ◌∙◌, arith}
use Rattle.std.proofs.lemmas.List.{length-append, take_at}
use Rattle.mt_durable.specs.Fronts.{entries_said, lower_bytes}
use Rattle.mt_durable.proofs.image.split_entry.Goals as goal

pub split_at-requires : goal.split_at-requires
split_at-requires c = omega arith

pub returns-clause-lower : goal.returns-clause-lower
returns-clause-lower c =
    let image = c.args.image.now in
    let behind = c.behind_lower-behind.result.now in
    let lower = lower_bytes c.args.key.now (entries_said image) in
    let parts : image ≡ lower ++ behind = c.behind_lower-behind.ensures.parts in
    let size : length image - length behind ≡ length lower = omega (arith, ap length parts, length-append lower behind) in
    c.split_at.ensures.front ∙ ap (λ (b : List ℕ). take (length image - length behind) b) parts ∙ take_at lower behind (length image - length behind) (sym size)

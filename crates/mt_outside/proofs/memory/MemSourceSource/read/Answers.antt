use Rattle.std.proofs.Common.{◌≡◌, ℕ, ◌+◌, ◌≤◌, List, ◌++◌, Some, length, take, drop, sym, ap, ◌∙◌, arith}
use Rattle.std.proofs.lemmas.Grind.{common_steps}
use Rattle.std.proofs.lemmas.List.{take_at, take-append-drop, length-take, drop-drop}
use Rattle.mt_outside.specs.Stream.{Gave}
use Rattle.mt_outside.proofs.memory.MemSourceSource.read.Goals as goal

-- the bytes that were copied to the front of the buffer are the front of what was left
given : (contents got rest : List ℕ) (at count : ℕ) → count ≤ length (drop at contents) → got ≡ take count (drop at contents) → Gave (Some (drop at contents)) (Some (drop (at + count) contents)) (take count (got ++ rest))
given contents got rest at count fits is =
    let left = drop at contents in
    let front : take count (got ++ rest) ≡ take count left = take_at got rest count (omega (arith, ap length is, length-take count left)) ∙ is in
    (drop count left, sym (take-append-drop count left) ∙ ap (λ (x : List ℕ). x ++ drop count left) (sym front), ap Some (sym (drop-drop count at contents)))

pub returns-clause-gave : goal.returns-clause-gave
returns-clause-gave c =
    let contents = c.self.inside.contents.items in
    let at = c.self.inside.at in
    let count = c.min-count.result in
    let left_is : c.args.self.now.left ≡ drop at contents = grind (arith, common_steps) in
    let fits : count ≤ length (drop at contents) = grind (arith, common_steps) in
    let copied : c.copy_from_slice.new.self ≡ take count (drop at contents) = grind (arith, common_steps) in
    rw left_is (given contents c.copy_from_slice.new.self (drop count c.args.into.now) at count fits copied)

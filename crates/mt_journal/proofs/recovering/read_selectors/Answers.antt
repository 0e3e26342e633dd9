use Rattle.std.proofs.Common.{◌≤◌, ◌<◌, ◌∙◌, refl, ap, length, drop, arith}
use Rattle.std.proofs.lemmas.Grind.{common_steps}
use Rattle.std.proofs.lemmas.List.{length-drop, length-take}
use Rattle.mt_journal.proofs.Lists.{selectors_read}
use Rattle.mt_journal.proofs.recovering.read_selectors.Goals as goal

pub returns-clause-found : goal.returns-clause-found
returns-clause-found g c = λ file told.
    (let two : 2 ≤ length c.as_slice.result.now = grind (arith, common_steps) in
    selectors_read file c.as_slice.result.now c.args.base (c.as_slice.ensures.value ∙ c.in_ok-bytes.ensures.read file told) two)

pub returns-in_default-clause-refused : goal.returns-in_default-clause-refused
returns-in_default-clause-refused g c = λ file told.
    (let few : length c.as_slice.result.now < 2 = grind (arith, common_steps) in
    (refl, omega (arith, few, ap length (c.as_slice.ensures.value ∙ c.in_ok-bytes.ensures.read file told), length-take 2 (drop c.args.base file), length-drop c.args.base file)))

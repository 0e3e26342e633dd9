use Rattle.std.proofs.Common.{◌≡◌, ℕ, ◌+◌, ◌-◌, ◌*◌, ◌/◌, List, length, take, drop, refl, ap, ◌∙◌, arith}
use Rattle.std.proofs.lemmas.List.{length-drop, take_rest}
use Rattle.mt_ccm.specs.Aes.{cipher, xored}
use Rattle.mt_ccm.specs.Steps.{chained_all, filled}
use Rattle.mt_ccm.proofs.ChainFacts.{last_is, none_left, turn_is}
use Rattle.mt_ccm.proofs.chaining.chained.Goals as goal

pub turns-preserved : goal.turns-preserved
turns-preserved c =
    let at : ℕ = 16 * c.turns.i in
    let bytes : List ℕ = c.args.bytes.now in
    let part : List ℕ = take (at + 16 - at) (drop at bytes) in
    let sixteen : at + 16 - at ≡ 16 = omega arith in
    record {
      size = refl;
      rest = λ key held.
          turn_is key c.turns.state bytes part c.enciphered-next.result c.turns.i (omega arith)
          (ap (λ (n : ℕ). take n (drop at bytes)) sixteen)
          (c.enciphered-next.ensures key held ∙ ap (cipher key) c.added.ensures)
          ∙ c.turns.invariant.rest key held;
    }

pub returns-then-rest-eq0 : goal.returns-then-rest-eq0
returns-then-rest-eq0 c = λ key held.
    let bytes : List ℕ = c.args.bytes.now in
    let at : ℕ = length bytes / 16 in
    let place : c.turns.i ≡ at = omega arith in
    let rest : List ℕ = drop (16 * c.turns.i) bytes in
    none_left key c.turns.state rest (omega (arith, length-drop (16 * c.turns.i) bytes)) ∙ c.turns.invariant.rest key held

pub returns : goal.returns
returns c = λ key held.
    let bytes : List ℕ = c.args.bytes.now in
    let at : ℕ = 16 * (length bytes / 16) in
    let rest : List ℕ = drop at bytes in
    let long : length rest ≡ length bytes - at = length-drop at bytes in
    let place : at ≡ 16 * c.turns.i = omega arith in
    last_is key c.turns.state rest c.enciphered.result (omega arith) (omega arith)
    (c.enciphered.ensures key held ∙ ap (cipher key) (c.added-2.ensures ∙ ap (λ (p : List ℕ). xored c.turns.state (filled p)) (take_rest bytes at)))
    ∙ ap (λ (n : ℕ). chained_all key c.turns.state (drop n bytes)) place ∙ c.turns.invariant.rest key held

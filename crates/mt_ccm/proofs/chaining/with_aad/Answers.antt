use Rattle.std.proofs.Common.{◌≡◌, ℕ, ◌-◌, List, length, take, drop, ap, ◌∙◌}
use Rattle.std.proofs.lemmas.List.{take_rest}
use Rattle.mt_ccm.specs.Aes.{cipher}
use Rattle.mt_ccm.proofs.TagFacts.{drop_fourteen, no_aad, some_aad}
use Rattle.mt_ccm.proofs.chaining.with_aad.Goals as goal
use Rattle.mt_ccm.proofs.chaining.with_aad.Goals.{then-aad-lt14, else-aad-lt14}

pub returns-then-aad-eq0 : goal.returns-then-aad-eq0
returns-then-aad-eq0 c = λ key held. no_aad key c.args.begin c.args.aad.now c.if-aad-eq0.true

pub returns : goal.returns
returns c = λ key held.
    let aad : List ℕ = c.args.aad.now in
    let n : ℕ = c.if-aad-lt14.rest in
    let rest : drop n aad ≡ drop 14 aad = elim c.if-aad-lt14.branch [
      | then-aad-lt14 w ↦ drop_fourteen aad n w.if-aad-lt14.true w.rest-is
      | else-aad-lt14 w ↦ ap (λ (m : ℕ). drop m aad) w.rest-is
    ] in
    some_aad key c.args.begin aad c.aad_head-head.result c.enciphered-state.result (take (length aad - n) (drop n aad)) c.chained.result
    c.if-aad-eq0.false c.aad_head-head.ensures
    (c.enciphered-state.ensures key held ∙ ap (cipher key) c.added.ensures) (take_rest aad n ∙ rest) (c.chained.ensures key held)

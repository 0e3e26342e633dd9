use Rattle.std.proofs.Common.{List, ℕ, [], ◌∷◌, refl, arith}
use Rattle.mt_ccm.specs.Words.{block_at}
use Rattle.mt_ccm.proofs.RoundFacts.{first_state_is, last_state_is, next_state_is}
use Rattle.mt_ccm.proofs.block.rounds.Goals as goal

pub returns : goal.returns
returns c = λ key held.
    let words : List ℕ = c.args.words.now in
    let given : List ℕ = c.args.a ∷ c.args.b ∷ c.args.c ∷ c.args.d ∷ [] in
    let block : List ℕ = block_at given 0 in
    let begun = first_state_is key block words given c.first_state-begun.result held refl c.first_state-begun.ensures in
    let first = next_state_is key block words c.first_state-begun.result c.round-first.result 0 (omega arith) held begun c.round-first.ensures in
    let second = next_state_is key block words c.round-first.result c.round-second.result 1 (omega arith) held first c.round-second.ensures in
    let third = next_state_is key block words c.round-second.result c.round-third.result 2 (omega arith) held second c.round-third.ensures in
    let fourth = next_state_is key block words c.round-third.result c.round-fourth.result 3 (omega arith) held third c.round-fourth.ensures in
    let fifth = next_state_is key block words c.round-fourth.result c.round-fifth.result 4 (omega arith) held fourth c.round-fifth.ensures in
    let sixth = next_state_is key block words c.round-fifth.result c.round-sixth.result 5 (omega arith) held fifth c.round-sixth.ensures in
    let seventh = next_state_is key block words c.round-sixth.result c.round-seventh.result 6 (omega arith) held sixth c.round-seventh.ensures in
    let eighth = next_state_is key block words c.round-seventh.result c.round-eighth.result 7 (omega arith) held seventh c.round-eighth.ensures in
    let ninth = next_state_is key block words c.round-eighth.result c.round-ninth.result 8 (omega arith) held eighth c.round-ninth.ensures in
    last_state_is key block words c.round-ninth.result c.last_round.result 9 refl held ninth c.last_round.ensures

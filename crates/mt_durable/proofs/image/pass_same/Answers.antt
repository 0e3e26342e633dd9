use Rattle.std.proofs.Common.{◌≡◌, true, subst, arith}
use Rattle.std.specs.Prelude.{Some, option_map}
use Rattle.std.proofs.lemmas.Grind.{common_steps}
use Rattle.mt_durable.specs.Fronts.{IsKeyInFront, entries_said}
use Rattle.mt_durable.specs.Keys.{is_same}
use Rattle.mt_durable.proofs.Fronts.{entries_split, passed, some_in_front}
use Rattle.mt_durable.proofs.image.pass_same.Goals as goal

pub split_front-requires-clause-some : goal.split_front-requires-clause-some
split_front-requires-clause-some c =
    let entries = entries_said c.args.entries.now in
    let is : IsKeyInFront entries (Some c.in-Some.front.now) = subst (λ r. IsKeyInFront entries (option_map (λ key. key.now) r)) c.in-Some.is c.key_in_front.ensures in
    some_in_front entries c.in-Some.front.now is

pub returns-in-Some-clause-left : goal.returns-in-Some-clause-left
returns-in-Some-clause-left c =
    let entries = entries_said c.args.entries.now in
    let is : IsKeyInFront entries (Some c.in-Some.front.now) = subst (λ r. IsKeyInFront entries (option_map (λ key. key.now) r)) c.in-Some.is c.key_in_front.ensures in
    let same : is_same c.args.key.now c.in-Some.front.now ≡ true = grind (arith, common_steps) in
    passed c.args.key.now entries c.in-Some.front.now c.split_front.result.0.now c.split_front.result.1.now is c.split_front.ensures.front same

pub returns-in-Some-clause-entries : goal.returns-in-Some-clause-entries
returns-in-Some-clause-entries c = entries_split (entries_said c.args.entries.now) c.split_front.result.0.now c.split_front.result.1.now c.split_front.ensures.front

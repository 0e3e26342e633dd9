use Rattle.std.proofs.Common.{◌≡◌, ℕ, List, ◌++◌, length, take, sym, ap, ◌∙◌, arith}
use Rattle.mt_durable.specs.Differences.{gone, set_at}
use Rattle.mt_durable.specs.Fronts.{entries_bytes, entries_said, entry_bytes}
use Rattle.mt_durable.proofs.DifferenceSteps.{left_there, set_gone, set_there}
use Rattle.mt_durable.proofs.Fronts.{entries_behind}
use Rattle.mt_durable.proofs.difference.write_under.Goals as goal

pub returns-in_err-end-in-Some-clause-room : goal.returns-in_err-end-in-Some-clause-room
returns-in_err-end-in-Some-clause-room c = λ stands none.
    (let others = entries_said c.args.others.now in
    let own : c.changed_bytes.result.now ≡ entries_bytes (set_at stands.entry others) =
    c.changed_bytes.ensures ∙ set_there c.args.entry.now stands others c.in-Some.other c.in-Some.ensures.front (sym c.in-Some.ensures.there) in
    omega (arith, c.add_within.ensures.room c.in_err-end-in-Some.was, ap length own))

pub returns-in_err-end-in-None-clause-room : goal.returns-in_err-end-in-None-clause-room
returns-in_err-end-in-None-clause-room c = λ stands none.
    (let others = entries_said c.args.others.now in
    let own : entry_bytes (gone stands.entry) ≡ entries_bytes (set_at stands.entry others) = set_gone c.args.entry.now stands others (sym c.in-None.ensures.there) in
    omega (arith, c.add_gone.ensures.room stands c.in_err-end-in-None.was, ap length own))

pub returns-in_ok-end-in-Some-clause-added : goal.returns-in_ok-end-in-Some-clause-added
returns-in_ok-end-in-Some-clause-added c = λ stands.
    (let others = entries_said c.args.others.now in
    c.in_ok-end-in-Some.ensures.added
    ∙ ap (λ (l : List ℕ). take c.args.at c.args.into.now ++ l) (c.changed_bytes.ensures ∙ set_there c.args.entry.now stands others c.in-Some.other c.in-Some.ensures.front (sym c.in-Some.ensures.there)))

pub returns-in_ok-end-in-Some-clause-entries : goal.returns-in_ok-end-in-Some-clause-entries
returns-in_ok-end-in-Some-clause-entries c = entries_behind (entries_said c.args.others.now) c.in-Some.other c.in-Some.ensures.front

pub returns-in_ok-end-in-Some-clause-left : goal.returns-in_ok-end-in-Some-clause-left
returns-in_ok-end-in-Some-clause-left c = left_there c.args.entry.now.key.now (entries_said c.args.others.now) c.in-Some.other c.in-Some.ensures.front (sym c.in-Some.ensures.there)

pub returns-in_ok-end-in-None-clause-added : goal.returns-in_ok-end-in-None-clause-added
returns-in_ok-end-in-None-clause-added c = λ stands.
    (c.in_ok-end-in-None.ensures.added stands
    ∙ ap (λ (l : List ℕ). take c.args.at c.args.into.now ++ l) (set_gone c.args.entry.now stands (entries_said c.args.others.now) (sym c.in-None.ensures.there)))

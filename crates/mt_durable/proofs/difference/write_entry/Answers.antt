use Rattle.std.proofs.Common.{ℕ, List, ◌++◌, length, take, ap, ◌∙◌, append_assoc, arith}
use Rattle.std.proofs.lemmas.List.{length-append}
use Rattle.std.proofs.lemmas.Option.{IfSome_then}
use Rattle.mt_durable.specs.Differences.{set_at}
use Rattle.mt_durable.specs.Fronts.{entries_bytes, entries_said}
use Rattle.mt_durable.proofs.DifferenceSteps.{set_both}
use Rattle.mt_durable.proofs.difference.write_entry.Goals as goal

pub split_at-requires : goal.split_at-requires
split_at-requires c = omega arith

pub returns-in_err-end-clause-room : goal.returns-in_err-end-clause-room
returns-in_err-end-clause-room c = λ stands none.
    (let left = c.behind_lower-behind.result.now in
    let lower = c.split_at.result.0.now in
    let both = set_both c.args.entry.now stands c.args.others.now left lower c.behind_lower-behind.ensures.parts c.behind_lower-behind.ensures.left c.split_at.ensures.front in
    omega (arith, c.add_within.ensures.room c.in_err-end.was, ap length both, length-append lower (entries_bytes (set_at stands.entry (entries_said left)))))

pub returns-clause-added : goal.returns-clause-added
returns-clause-added c = λ stands.
    (let left = c.behind_lower-behind.result.now in
    let lower = c.split_at.result.0.now in
    let own = entries_bytes (set_at stands.entry (entries_said left)) in
    let written = take c.args.at c.args.into.now in
    let both = set_both c.args.entry.now stands c.args.others.now left lower c.behind_lower-behind.ensures.parts c.behind_lower-behind.ensures.left c.split_at.ensures.front in
    IfSome_then c.write_under.result (c.write_under.ensures.added stands) (λ next is. is ∙ ap (λ (l : List ℕ). l ++ own) c.in_ok-end.ensures.added ∙ append_assoc written lower own ∙ ap (λ (l : List ℕ). written ++ l) both))

pub returns-clause-room : goal.returns-clause-room
returns-clause-room c = λ stands none.
    (let left = c.behind_lower-behind.result.now in
    let lower = c.split_at.result.0.now in
    let both = set_both c.args.entry.now stands c.args.others.now left lower c.behind_lower-behind.ensures.parts c.behind_lower-behind.ensures.left c.split_at.ensures.front in
    omega (
      arith,
      c.write_under.ensures.room stands none,
      c.add_within.ensures.size,
      c.in_ok-end.ensures.end,
      ap length both,
      length-append lower (entries_bytes (set_at stands.entry (entries_said left))),
    ))

use Rattle.std.proofs.Common.{◌≡◌, Bool, true, false, ap, ◌∙◌, arith}
use Rattle.std.proofs.lemmas.Grind.{common_steps}
use Rattle.std.specs.Prelude.{not}
use Rattle.mt_journal.specs.Layout.{names_slot_one, slot_start}
use Rattle.mt_journal.proofs.Steps.{one_step, zero_step}
use Rattle.mt_journal.proofs.planning.later_image.Goals as goal

pub returns-then-is_one-clause-commits : goal.returns-then-is_one-clause-commits
returns-then-is_one-clause-commits c = λ images changes gate list file piece form size stands.
    (let zero : names_slot_one c.args.p0 c.args.p1 ≡ false = grind (arith, common_steps) in
    let at_is = c.slot_start-at.ensures ∙ ap (λ (b : Bool). slot_start c.args.base (not b)) c.names_slot_one-is_one.ensures in
    one_step images changes list file piece c.args.count c.requires.short size c.args.base c.args.p0 c.args.p1 gate stands c.slot_start-at.result c.selector_above-last.result form zero at_is c.selector_above-last.ensures)

pub returns-clause-commits : goal.returns-clause-commits
returns-clause-commits c = λ images changes gate list file piece form size stands.
    (let one : names_slot_one c.args.p0 c.args.p1 ≡ true = grind (arith, common_steps) in
    let at_is = c.slot_start-at.ensures ∙ ap (λ (b : Bool). slot_start c.args.base (not b)) c.names_slot_one-is_one.ensures in
    zero_step images changes list file piece c.args.count c.requires.short size c.args.base c.args.p0 c.args.p1 gate stands c.slot_start-at.result c.selector_above-last-2.result form one at_is c.selector_above-last-2.ensures)

use Rattle.std.proofs.Common.{◌∙◌}
use Rattle.mt_machine.specs.Step.{at_time}
use Rattle.mt_node.proofs.Differ.{differ_by}
use Rattle.mt_node.proofs.Orderly.{entries_up_from_none}
use Rattle.mt_node.proofs.Plans.{if_ok}
use Rattle.mt_node.proofs.differences.differing.Goals as goal

pub returns : goal.returns
returns c = λ asking now settings. if_ok _ _ c.places_by.result (λ places is. is ∙ differ_by c.what_is_told_the_same_is.ensures.rows c.set_rows_stand_in_order.ensures.ascending c.set_rows_stand_in_order.ensures.others
    c.set_entries_stand_in_order.ensures.ascending c.set_entries_stand_in_order.ensures.others c.entries_are_read_again.ensures
    c.rows_of_a_place_are_in_order.ensures c.entries_are_in_order.ensures.in_order asking c.args.steps.now (at_time now c.args.node.now.state) c.places_by.ensures.valid.rows_rise (entries_up_from_none c.args.node.now.state c.places_by.ensures.valid) settings) c.places_by.ensures.places

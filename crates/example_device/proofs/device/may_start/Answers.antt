use Rattle.std.proofs.Common.{◌≡◌, true, List, subst}
use Rattle.std.specs.List.{list_all}
use Rattle.mt_durable.specs.declared.durable.Entry.{Entry}
use Rattle.mt_regained.specs.Laws.{is_of_bytes}
use Rattle.example_device.proofs.device.may_start.Goals as goal

pub returns : goal.returns
returns c counted =
    let fits = c.in_ok-counts.ensures counted in
    let bytes = subst (λ (entries : List Entry). list_all is_of_bytes entries ≡ true) c.as_slice.ensures.value c.keys_are_of_bytes.ensures in
    c.reopened_nodes_may_start.ensures.reopened c.args.config.now c.args.had.now c.args.map.now bytes c.as_slice.ensures.ascend c.as_slice.ensures.whole c.requires fits.0 fits.1

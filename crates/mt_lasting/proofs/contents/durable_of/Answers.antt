use Rattle.std.proofs.Common.{◌∙◌, ap, List, []}
use Rattle.mt_durable.specs.Setting.{with_all}
use Rattle.mt_durable.specs.declared.durable.Entry.{Entry}
use Rattle.mt_lasting.proofs.contents.durable_of.Goals as goal

pub from_vec-requires : goal.from_vec-requires
from_vec-requires c = rw c.in_ok-entries.ensures (c.maps_are_maps.ensures c.args.state.now c.args.ceiling).0

-- merged into the empty map, the entries are the map
pub returns : goal.returns
returns c =
    let is_map = c.maps_are_maps.ensures c.args.state.now c.args.ceiling in
    c.in_ok-merge.ensures.one_by_one
    ∙ (λ i. with_all (c.from_vec.ensures i) (c.new-map.ensures i))
    ∙ ap (λ (entries : List Entry). with_all entries []) c.in_ok-entries.ensures
    ∙ c.changes_lead_on.ensures.from_empty _ is_map.0 is_map.1

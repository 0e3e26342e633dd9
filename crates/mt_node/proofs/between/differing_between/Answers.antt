use Rattle.mt_node.proofs.Orderly.{entries_up_from_none}
use Rattle.mt_node.proofs.between.differing_between.Goals as goal

pub places_between-requires-clause-entries : goal.places_between-requires-clause-entries
places_between-requires-clause-entries c = entries_up_from_none c.node.inside.state c.node.invariant

pub places_between-requires-clause-fabrics : goal.places_between-requires-clause-fabrics
places_between-requires-clause-fabrics c = c.node.invariant.fabrics_rise

pub places_between-requires-clause-entries_behind : goal.places_between-requires-clause-entries_behind
places_between-requires-clause-entries_behind c = entries_up_from_none c.args.behind.now c.requires

pub places_between-requires-clause-fabrics_behind : goal.places_between-requires-clause-fabrics_behind
places_between-requires-clause-fabrics_behind c = c.requires.fabrics_rise

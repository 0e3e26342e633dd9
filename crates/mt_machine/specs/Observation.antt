-- What a fabric observes of a state: all that an answer to it is made of.
use Rattle.std.specs.Prelude.{ℕ}
use Rattle.mt_model.specs.Optional.{is_that}
use Rattle.mt_model.specs.rows.Order.{in_order}
use Rattle.mt_model.specs.rows.Seen.{Observation, seen_as}
use Rattle.mt_model.specs.tables.Known.{known_to}
use Rattle.mt_model.specs.declared.node.state.NodeState.{NodeState}
use Rattle.mt_machine.specs.State.{is_member, rows_of}

abbrev pub observation : ℕ → NodeState → Observation
observation fabric s = record {
  fabric = fabric;
  is_member = is_member fabric s;
  is_plain = is_that fabric s.plain;
  seen = seen_as fabric (λ place. in_order fabric (rows_of s place)) s.versions s.entries;
  known = known_to fabric s.fabrics s.networks s.armed;
  clock = s.clock;
}

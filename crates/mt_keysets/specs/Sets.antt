-- The group key sets of a fabric, as a state has them.
use Rattle.std.specs.Prelude.{ℕ, List, filter}
use Rattle.mt_tlv.specs.declared.value.Value.{Value}
use Rattle.mt_groupkeys.specs.Sets.{values_of}
use Rattle.mt_model.specs.rows.Setting.{is_at}
use Rattle.mt_model.specs.tables.KeySets.{key_sets}
use Rattle.mt_model.specs.declared.node.state.NodeState.{NodeState}

-- the values of the fabric's own rows at the place of key sets, in their order
abbrev pub sets_of : ℕ → NodeState → List Value
sets_of fabric s = values_of (filter (is_at key_sets fabric) s.rows)

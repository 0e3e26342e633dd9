-- Entries that ascend from 1 on ascend from 0 on.
use Rattle.std.proofs.Common.{◌≡◌, nat_le, true, List, [], ◌∷◌, refl, arith}
use Rattle.std.proofs.lemmas.Bool.{and_from, and_parts, le-leb}
use Rattle.mt_model.specs.texts.Config.{ascend_from}
use Rattle.mt_model.specs.declared.node.state.NodeState.{NodeState}
use Rattle.mt_model.specs.declared.tables.access.AclEntry.{AclEntry}
use Rattle.mt_machine.specs.State.{IsValid}

from_none : (es : List AclEntry) → ascend_from 1 es ≡ true → ascend_from 0 es ≡ true
from_none [] up = refl
from_none (e ∷ es) up = and_from (nat_le 0 e.fabric) (ascend_from e.fabric es) (le-leb 0 e.fabric (omega arith)) (and_parts _ _ up).1

pub entries_up_from_none : (s : NodeState) → IsValid s → ascend_from 0 s.entries ≡ true
entries_up_from_none s valid = from_none s.entries valid.entries_rise

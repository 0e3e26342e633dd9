-- The events of written access control lists (Matter Core Specification, section 9.10, event AccessControlEntryChanged).
use Rattle.std.specs.Prelude.{ℕ, List, [], ◌∷◌, ◌++◌, if◌then◌else◌}
use Rattle.mt_tlv.specs.Tree.{Tree, uint, null, none, more}
use Rattle.mt_tlv.specs.View.{tree}
use Rattle.mt_tlv.specs.declared.value.Tag.TheVariants.{Context}
use Rattle.mt_tlv.specs.declared.value.Value.{Value}
use Rattle.mt_tlv.specs.declared.value.Value.TheVariants as values
use Rattle.mt_model.specs.rows.Same.{is_same_entry}
use Rattle.mt_model.specs.tables.Entries.{entry_value}
use Rattle.mt_model.specs.declared.node.action.NodeStep.{NodeStep}
use Rattle.mt_model.specs.declared.node.action.NodeStep.TheVariants.{SetEntries, Emit}
use Rattle.mt_model.specs.declared.rows.place.Place.{Place}
use Rattle.mt_model.specs.declared.tables.access.AclEntry.{AclEntry}
use Rattle.mt_model.specs.declared.tables.access.Actor.{Actor}
use Rattle.mt_model.specs.declared.tables.access.Auth.{Auth}
use Rattle.mt_model.specs.declared.tables.access.Auth.TheVariants.{Pase, Case}

-- Who changed an entry: over CASE the node, over PASE no node but the passcode of the number 0.

abbrev pub node_field : Auth → ℕ → Tree
node_field Case node = uint node
node_field auth node = null

abbrev pub passcode_field : Auth → Tree
passcode_field Pase = uint 0
passcode_field auth = null

-- ChangeTypeEnum
abbrev pub changed : ℕ
changed = 0

abbrev pub added : ℕ
added = 1

abbrev pub removed : ℕ
removed = 2

-- 1 node, 2 passcode id, 3 change, 4 the whole entry, 254 fabric index
abbrev pub entry_changed_value : Actor → ℕ → AclEntry → Value
entry_changed_value actor change entry = values.Struct (more (Context 1) (node_field actor.auth actor.node) (more (Context 2) (passcode_field actor.auth) (more (Context 3) (uint change) (more (Context 4) (tree (entry_value entry)) (more (Context 254) (uint actor.fabric) none)))))

abbrev pub entry_changed : Place
entry_changed = record { endpoint = 0; cluster = 0x1f; leaf = 0 }

-- it is told to the fabric of the actor, and to no other; its priority is that of information
unfoldable pub entry_event : Actor → ℕ → AclEntry → NodeStep
entry_event actor change entry = Emit entry_changed 1 actor.fabric (entry_changed_value actor change entry)

abbrev pub if_changed : Actor → AclEntry → AclEntry → List NodeStep
if_changed actor old new = if is_same_entry old new then [] else entry_event actor changed new ∷ []

-- what the entries of the actor's fabric were and what they are, compared by position
abbrev pub events_between : Actor → List AclEntry → List AclEntry → List NodeStep
events_between actor [] [] = []
events_between actor [] (new ∷ others) = entry_event actor added new ∷ events_between actor [] others
events_between actor (old ∷ entries) [] = entry_event actor removed old ∷ events_between actor entries []
events_between actor (old ∷ entries) (new ∷ others) = if_changed actor old new ++ events_between actor entries others

-- The events of steps that set the entries of the actor's fabric, one after the other, where it has these entries before them.
abbrev pub entry_events : Actor → List AclEntry → List NodeStep → List NodeStep
entry_events actor entries [] = []
entry_events actor entries (SetEntries fabric new ∷ steps) = events_between actor entries new ++ entry_events actor new steps
entry_events actor entries (step ∷ steps) = entry_events actor entries steps

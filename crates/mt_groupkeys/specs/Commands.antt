-- What commands of Group Key Management come to (Matter Core Specification, chapter 11, Group Key Management Cluster).
use Rattle.std.specs.Prelude.{ℕ, ◌==◌, ◌&&◌, nat_le, not, List, [], ◌∷◌, length, Option, Some, None, if◌then◌else◌, option_and_then, unwrap_or}
use Rattle.std.specs.List.{find, list_any}
use Rattle.mt_tlv.specs.Tree.{Elements, structure, none, more}
use Rattle.mt_tlv.specs.View.{tree}
use Rattle.mt_tlv.specs.declared.value.Tag.TheVariants.{Context}
use Rattle.mt_tlv.specs.declared.value.Value.{Value}
use Rattle.mt_tlv.specs.declared.value.Value.TheVariants as values
use Rattle.mt_meta.specs.Given.{field_of, number_of}
use Rattle.mt_model.specs.Trees.{structure_in}
use Rattle.mt_model.specs.messages.Effects.{answered_with, refused_at}
use Rattle.mt_model.specs.tables.KeySets.{is_key_set, key_sets, number_at}
use Rattle.mt_model.specs.declared.limits.TheConstants.{KEY_SETS}
use Rattle.mt_model.specs.declared.messages.message.Reply.TheVariants as replies
use Rattle.mt_model.specs.declared.messages.status.Status.TheVariants.{InvalidCommand, NotFound, ResourceExhausted, Success, UnsupportedAccess, UnsupportedCommand}
use Rattle.mt_model.specs.declared.node.action.Effect.{Effect}
use Rattle.mt_model.specs.declared.node.action.NodeStep.TheVariants.{SetRow}
use Rattle.mt_model.specs.declared.rows.place.Place.{Place}
use Rattle.mt_model.specs.declared.rows.place.Row.{Row}
use Rattle.mt_model.specs.declared.tables.access.Actor.{Actor}
use Rattle.mt_groupkeys.specs.Sets.{has_id, has_starts, ids_of, kept_set, numbers, put_in, set_0, sorted, told_set, values_of, without}

-- GroupKeyMap
abbrev pub key_map : Place
key_map = record { endpoint = 0; cluster = 0x3f; leaf = 0 }

-- the response of this number and of these fields, from the endpoint and the cluster of the command; it makes nothing of the node
abbrev pub responded_with : Place → ℕ → Elements → Effect
responded_with command response fields = record { reply = replies.Invoked (record command { leaf = response }) (values.Struct fields); steps = [] }

-- KeySetWrite: 0 a key set. It is put in the place of the one with its id, or last.

abbrev pub set_in : List Value → ℕ → Place → ℕ → Value → Effect
set_in sets fabric command id set =
    if not (list_any (has_id id) sets) && nat_le KEY_SETS (length sets) then refused_at command ResourceExhausted
    else answered_with command Success (SetRow key_sets fabric (put_in id set sets) ∷ [])

abbrev pub write_set : List Value → ℕ → Place → Option Elements → Effect
write_set sets fabric command None = refused_at command InvalidCommand
write_set sets fabric command (Some es) =
    if is_key_set es && has_starts es then set_in sets fabric command (unwrap_or (number_at 0 es) 0) (kept_set fabric es)
    else refused_at command InvalidCommand

-- KeySetRead: 0 an id. It is answered with the set, whose keys are null.

abbrev pub told_members : Option Elements → Elements
told_members None = none
told_members (Some es) = told_set es

abbrev pub told : Place → Option Value → Effect
told command None = refused_at command NotFound
told command (Some set) = responded_with command 2 (more (Context 0) (structure (told_members (structure_in (tree set)))) none)

abbrev pub read_set : List Value → Place → ℕ → Effect
read_set sets command id =
    if id == 0 then responded_with command 2 (more (Context 0) (structure set_0) none)
    else told command (find (has_id id) sets)

-- KeySetRemove: 0 an id. The set goes, and so do the items of GroupKeyMap that name it.
abbrev pub remove_set : List Value → List Value → ℕ → Place → ℕ → Effect
remove_set sets items fabric command id =
    if id == 0 then refused_at command InvalidCommand
    else if not (list_any (has_id id) sets) then refused_at command NotFound
    else answered_with command Success (SetRow key_sets fabric (without 0 id sets) ∷ SetRow key_map fabric (without 2 id items) ∷ [])

-- KeySetReadAllIndices: it has no fields. It is answered with the ids, ascending, 0 among them.
abbrev pub read_ids : List Value → Place → Effect
read_ids sets command = responded_with command 5 (more (Context 0) (tree (numbers (0 ∷ sorted (ids_of sets)))) none)

abbrev pub of_fabric : (Place → List Row) → ℕ → Place → Value → Effect
of_fabric rows_at fabric command fields =
    if command.leaf == 0 then write_set (values_of (rows_at key_sets)) fabric command (option_and_then structure_in (field_of 0 fields))
    else if command.leaf == 1 then read_set (values_of (rows_at key_sets)) command (number_of 0 fields)
    else if command.leaf == 3 then remove_set (values_of (rows_at key_sets)) (values_of (rows_at key_map)) fabric command (number_of 0 fields)
    else if command.leaf == 4 then read_ids (values_of (rows_at key_sets)) command
    else refused_at command UnsupportedCommand

-- What a command of this actor comes to, by the rows of the actor's fabric that stand at each place. Nobody has key sets. It says nothing of
-- whether the actor may invoke it.
abbrev pub invoked : (Place → List Row) → Actor → Place → Value → Effect
invoked rows_at actor command fields =
    if actor.fabric == 0 then refused_at command UnsupportedAccess
    else of_fabric rows_at actor.fabric command fields

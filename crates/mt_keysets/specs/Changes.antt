-- What a line makes of the group key sets of a fabric: its own commands alone change them, where they get status 0 (Matter Core
-- Specification, chapter 11, Group Key Management Cluster).
use Rattle.std.specs.Prelude.{ℕ, ◌==◌, ◌&&◌, Bool, false, List, Option, Some, None, if◌then◌else◌, option_and_then, unwrap_or}
use Rattle.mt_tlv.specs.Tree.{Elements}
use Rattle.mt_tlv.specs.declared.value.Value.{Value}
use Rattle.mt_meta.specs.Given.{field_of, number_of}
use Rattle.mt_meta.specs.clusters.GroupKeyManagement.{cluster}
use Rattle.mt_groupkeys.specs.Sets.{kept_set, put_in, without}
use Rattle.mt_model.specs.Trees.{structure_in}
use Rattle.mt_model.specs.messages.Status.{code_of}
use Rattle.mt_model.specs.rows.Sight.{same_place}
use Rattle.mt_model.specs.tables.KeySets.{number_at}
use Rattle.mt_model.specs.declared.messages.message.Reply.{Reply}
use Rattle.mt_model.specs.declared.messages.message.Reply.TheVariants.{InvokeStatus}
use Rattle.mt_model.specs.declared.messages.message.Request.{Request}
use Rattle.mt_model.specs.declared.messages.message.Request.TheVariants.{Invoke}
use Rattle.mt_model.specs.declared.messages.status.Status.TheVariants.{Success}
use Rattle.mt_model.specs.declared.node.action.Action.{Action}
use Rattle.mt_model.specs.declared.node.action.Action.TheVariants.{Ask, Expire, Nothing}
use Rattle.mt_model.specs.declared.node.state.NodeState.{NodeState}
use Rattle.mt_model.specs.declared.rows.place.Place.{Place}
use Rattle.mt_model.specs.declared.tables.access.Actor.{Actor}
use Rattle.mt_model.specs.declared.texts.recording.Event.{Event}
use Rattle.mt_machine.specs.Environment.{Environment}
use Rattle.mt_machine.specs.Step.{asker, reply_of}
use Rattle.mt_runs.specs.Expiries.{action_at, time_of}
use Rattle.mt_runs.specs.Whole.{Whole}

-- Commands. They stand on endpoint 0.

abbrev pub key_set_write : Place
key_set_write = record { endpoint = 0; cluster = cluster; leaf = 0 }

abbrev pub key_set_remove : Place
key_set_remove = record { endpoint = 0; cluster = cluster; leaf = 3 }

-- KeySetWrite: 0 a key set. It takes the place of the one with its id, or stands last.

abbrev pub with_given : ℕ → Option Elements → List Value → List Value
with_given fabric None sets = sets
with_given fabric (Some es) sets = put_in (unwrap_or (number_at 0 es) 0) (kept_set fabric es) sets

abbrev pub with_written : ℕ → Value → List Value → List Value
with_written fabric fields sets = with_given fabric (option_and_then structure_in (field_of 0 fields)) sets

-- KeySetRemove: 0 an id. The set of that id goes.
abbrev pub without_removed : Value → List Value → List Value
without_removed fields sets = without 0 (number_of 0 fields) sets

-- what a command of the fabric makes of its sets; any other makes nothing of them
abbrev pub behind_command : ℕ → Place → Value → List Value → List Value
behind_command fabric command fields sets =
    if same_place command key_set_write then with_written fabric fields sets
    else if same_place command key_set_remove then without_removed fields sets
    else sets

abbrev pub behind_request : ℕ → Request → List Value → List Value
behind_request fabric (Invoke suppress timed command fields) sets = behind_command fabric command fields sets
behind_request fabric request sets = sets

-- Whether a request gets status 0, sent or suppressed: what is held back is what would answer a request that wants an answer.

abbrev pub wanting_an_answer : Request → Request
wanting_an_answer (Invoke suppress timed command fields) = Invoke false timed command fields
wanting_an_answer request = request

abbrev pub is_success : Reply → Bool
is_success (InvokeStatus command code) = code == code_of Success
is_success reply = false

abbrev pub succeeds : Environment → NodeState → Actor → Request → Option ℕ → ℕ → Bool
succeeds given s actor request deadline now = is_success (reply_of given s (Ask actor (wanting_an_answer request) deadline) now)

-- Actions. Who is taken as asking is of the fabric.

abbrev pub is_its_own : ℕ → Option Actor → Bool
is_its_own fabric None = false
is_its_own fabric (Some asker) = asker.fabric == fabric

abbrev pub behind_action : Environment → ℕ → NodeState → Action → ℕ → List Value → List Value
behind_action given fabric s (Ask actor request deadline) now sets =
    if is_its_own fabric (asker s actor) && succeeds given s actor request deadline now then behind_request fabric request sets
    else sets
behind_action given fabric s Expire now sets = sets
behind_action given fabric s Nothing now sets = sets

-- WHAT A LINE MAKES OF THE SETS OF A FABRIC, where it neither enters the table nor leaves it
abbrev pub behind_line : Environment → ℕ → Whole → Event → List Value → List Value
behind_line given fabric w event sets = behind_action given fabric w.state.node (action_at w event) (time_of event) sets

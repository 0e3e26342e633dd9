-- What holds of the deadlines of plain actors beside a state.
use Rattle.std.specs.Prelude.{◌≡◌, ℕ, ◌==◌, ◌&&◌, ◌||◌, nat_le, Bool, true, List, bytes_eq, filter, length}
use Rattle.std.specs.List.{list_all}
use Rattle.mt_model.specs.declared.limits.TheConstants.{PLAIN_DEADLINES}
use Rattle.mt_model.specs.declared.node.action.Action.{Action}
use Rattle.mt_model.specs.declared.node.action.PlainDeadline.{PlainDeadline}
use Rattle.mt_model.specs.declared.tables.fabric.Fabric.{Fabric}
use Rattle.mt_model.specs.declared.texts.recording.Event.{Event}
use Rattle.mt_model.specs.texts.Config.{none_alike}
use Rattle.mt_machine.specs.Environment.{Environment}
use Rattle.mt_machine.specs.Isolation.{is_deadline_in}
use Rattle.mt_machine.specs.Lines.{behind_action, plain_next}
use Rattle.mt_machine.specs.State.{IsValid, State, is_among}

abbrev pub have_one_actor : PlainDeadline → PlainDeadline → Bool
have_one_actor a b = a.fabric == b.fabric && (a.node == b.node && bytes_eq a.cats b.cats)

-- of a fabric of the table, or of none
abbrev pub is_known_deadline : List Fabric → PlainDeadline → Bool
is_known_deadline fabrics deadline = deadline.fabric == 0 || is_among fabrics deadline.fabric

pub record AreDeadlines (s : State) : Type 0 where
  -- no more actors of a fabric have one than may, and each actor has one
  pub few : (fabric : ℕ) → nat_le (length (filter (is_deadline_in fabric) s.deadlines)) PLAIN_DEADLINES ≡ true
  pub differ : none_alike have_one_actor s.deadlines ≡ true
  pub known : list_all (is_known_deadline s.node.fabrics) s.deadlines ≡ true

-- Lines of plain actors and time steps leave them so, and so does what another line does.

abbrev pub PlainLinesKeepDeadlines : Type 0
PlainLinesKeepDeadlines = (given : Environment) (s : State) (e : Event) → IsValid s.node → AreDeadlines s → AreDeadlines (plain_next given s e)

abbrev pub ActionsKeepDeadlines : Type 0
ActionsKeepDeadlines = (given : Environment) (s : State) (action : Action) (ms : ℕ) → AreDeadlines s → AreDeadlines (behind_action given s action ms)

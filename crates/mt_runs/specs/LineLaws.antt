-- Laws of every line.
use Rattle.std.specs.Prelude.{◌≡◌, ◌≢◌, ℕ, ◌^◌, nat_le, List, false, true}
use Rattle.mt_failsafe.specs.Notes.{was_added, was_updated}
use Rattle.mt_model.specs.texts.Config.{are_entries, are_fabrics, are_sessions}
use Rattle.mt_model.specs.declared.tables.access.AclEntry.{AclEntry}
use Rattle.mt_model.specs.declared.tables.fabric.Fabric.{Fabric}
use Rattle.mt_model.specs.declared.texts.config.SessionRow.{SessionRow}
use Rattle.mt_model.specs.declared.texts.recording.Event.{Event}
use Rattle.mt_model.specs.declared.texts.recording.Event.TheVariants.{Tick}
use Rattle.mt_opcreds.specs.Laws.{KeepsRules}
use Rattle.mt_machine.specs.Environment.{Environment}
use Rattle.mt_machine.specs.Lines.{is_tick}
use Rattle.mt_machine.specs.Touching.{StaysThere}
use Rattle.mt_runs.specs.Isolation.{IsValidWhole, own_part, public_part, veil}
use Rattle.mt_runs.specs.Lines.{fabric_of, next, sent}
use Rattle.mt_runs.specs.Whole.{Whole, whole_with}

-- What a configuration begins is valid, in whatever boot there may be, and at whatever ceiling.
abbrev pub WholeOpensValid : Type 0
WholeOpensValid = (boot ceiling : ℕ) (fabrics : List Fabric) (entries : List AclEntry) (sessions : List SessionRow) → nat_le boot (2 ^ 31) ≡ true → are_fabrics fabrics ≡ true → are_entries fabrics entries ≡ true → are_sessions sessions ≡ true
    → IsValidWhole (whole_with boot ceiling fabrics entries sessions)

-- A line leaves it so.
abbrev pub WholeStaysValid : Type 0
WholeStaysValid = (given : Environment) (w : Whole) (e : Event) → KeepsRules given.judged → IsValidWhole w → IsValidWhole (next given w e)

-- The veil has the own part of its fabric, and shows it the same public view.
abbrev pub WholeKeepsItsOwnPart : Type 0
WholeKeepsItsOwnPart = (fabric : ℕ) (w : Whole) → IsValidWhole w → own_part fabric (veil fabric w) ≡ own_part fabric w

abbrev pub WholeKeepsItsPublicPart : Type 0
WholeKeepsItsPublicPart = (fabric : ℕ) (w : Whole) → IsValidWhole w → public_part fabric (veil fabric w) ≡ public_part fabric w

-- What an event sends on the veil of its fabric is what it sends on the whole.
abbrev pub WholeSendsOnTheVeil : Type 0
WholeSendsOnTheVeil = (given : Environment) (w : Whole) (e : Event) → IsValidWhole w → sent given (veil (fabric_of w.state.node e) w) e ≡ sent given w e

-- What an event sends is determined by the own part of its fabric and by what is public to it.
abbrev pub WholeSeesItsViewAlone : Type 0
WholeSeesItsViewAlone = (given : Environment) (w v : Whole) (e : Event) → IsValidWhole w → IsValidWhole v
    → fabric_of w.state.node e ≡ fabric_of v.state.node e
    → own_part (fabric_of w.state.node e) w ≡ own_part (fabric_of v.state.node e) v
    → public_part (fabric_of w.state.node e) w ≡ public_part (fabric_of v.state.node e) v
    → sent given w e ≡ sent given v e

-- On the veil of its fabric an event leaves the same own part as on the whole.
abbrev pub WholeLeavesTheOwnOnTheVeil : Type 0
WholeLeavesTheOwnOnTheVeil = (given : Environment) (w : Whole) (e : Event) → KeepsRules given.judged → IsValidWhole w
    → own_part (fabric_of w.state.node e) (next given (veil (fabric_of w.state.node e) w) e) ≡ own_part (fabric_of w.state.node e) (next given w e)

-- And so it is determined by that part and by what is public to it.
abbrev pub WholeLeavesItsOwnByItsView : Type 0
WholeLeavesItsOwnByItsView = (given : Environment) (w v : Whole) (e : Event) → KeepsRules given.judged → IsValidWhole w → IsValidWhole v
    → fabric_of w.state.node e ≡ fabric_of v.state.node e
    → own_part (fabric_of w.state.node e) w ≡ own_part (fabric_of v.state.node e) v
    → public_part (fabric_of w.state.node e) w ≡ public_part (fabric_of v.state.node e) v
    → own_part (fabric_of w.state.node e) (next given w e) ≡ own_part (fabric_of v.state.node e) (next given v e)

-- An event changes nothing that is the own of another fabric, unless that enters the table or leaves it: another's datagrams, what is sent
-- again and sessions that end leave its exchanges as they are.
abbrev pub WholeKeepsTheOwn : Type 0
WholeKeepsTheOwn = (given : Environment) (fabric : ℕ) (w : Whole) (e : Event) → KeepsRules given.judged → IsValidWhole w → is_tick e ≡ false → fabric ≢ fabric_of w.state.node e
    → StaysThere fabric w.state.node (next given w e).state.node
    → own_part fabric (next given w e) ≡ own_part fabric w

-- A time step leaves a fabric that was neither added nor updated under the fail-safe its own part.
abbrev pub WholeTicksSpareOthers : Type 0
WholeTicksSpareOthers = (given : Environment) (fabric : ℕ) (w : Whole) (ms : ℕ) → IsValidWhole w → fabric ≢ 0 → was_added fabric w.state.node.armed ≡ false → was_updated fabric w.state.node.armed ≡ false
    → own_part fabric (next given w (Tick ms)) ≡ own_part fabric w

-- The own part that a time step leaves to any fabric is what it leaves on the veil of that fabric, and so it is determined by that part and
-- by what is public to it, as both were before.
abbrev pub WholeTicksOnTheVeil : Type 0
WholeTicksOnTheVeil = (given : Environment) (fabric : ℕ) (w : Whole) (ms : ℕ) → IsValidWhole w → own_part fabric (next given (veil fabric w) (Tick ms)) ≡ own_part fabric (next given w (Tick ms))

abbrev pub WholeTicksSeeTheMarkAlone : Type 0
WholeTicksSeeTheMarkAlone = (given : Environment) (fabric : ℕ) (w v : Whole) (ms : ℕ) → IsValidWhole w → IsValidWhole v
    → own_part fabric w ≡ own_part fabric v → public_part fabric w ≡ public_part fabric v
    → own_part fabric (next given w (Tick ms)) ≡ own_part fabric (next given v (Tick ms))

-- Which steps of commissioning may change what is a fabric's own, which a fabric makes, and which fabrics stay where they are.
use Rattle.std.specs.Prelude.{◌≡◌, ℕ, ◌==◌, ◌&&◌, ◌||◌, not, is_some, Bool, true, false}
use Rattle.mt_failsafe.specs.Notes.{was_added, was_updated}
use Rattle.mt_failsafe.specs.Calls.{is_context}
use Rattle.mt_fabrics.specs.Table.{least_unused}
use Rattle.mt_model.specs.declared.node.action.NodeStep.{NodeStep}
use Rattle.mt_model.specs.declared.node.action.NodeStep.TheVariants.{SetRow, SetEntries, Expire, Complete, AddFabric, UpdateFabric, RemoveFabric, Label}
use Rattle.mt_model.specs.declared.node.state.NodeState.{NodeState}
use Rattle.mt_machine.specs.State.{is_member}

-- Rows and entries that are set are those of the fabric that the step names. An expiry ends what is of nobody, which is PASE, and takes back what
-- was done for the fabric that was added or updated; completing ends PASE that has the fabric for which commissioning went on. A fabric that
-- joins is the first one without a fabric, and takes over PASE. Credentials, labels and leaving are of the fabric that the step names.
abbrev pub may_touch : NodeState → NodeStep → ℕ → Bool
may_touch s (SetRow place whose values) fabric = whose == fabric && not (whose == 0)
may_touch s (SetEntries whose entries) fabric = whose == fabric
may_touch s Expire fabric = is_some s.armed && (fabric == 0 || (was_added fabric s.armed || was_updated fabric s.armed))
may_touch s Complete fabric = is_context fabric s.armed
may_touch s (AddFabric joins) fabric = fabric == 0 || fabric == least_unused s.fabrics
may_touch s (UpdateFabric index given) fabric = index == fabric
may_touch s (RemoveFabric index) fabric = index == fabric
may_touch s (Label index label) fabric = index == fabric
may_touch s step fabric = false

-- A fabric stays where it neither enters the table nor leaves it. What is of nobody (PASE without a fabric) stays while the fail-safe is as
-- it was: who joins takes it over, and an expiry ends it.
pub record StaysThere (fabric : ℕ) (before now : NodeState) : Type 0 where
  pub member : is_member fabric now ≡ is_member fabric before
  pub nobody : fabric ≡ 0 → now.armed ≡ before.armed

-- Which steps a fabric makes: new credentials and labels are its own, and a fabric that joins is another than the one that asks.
abbrev pub is_its_step : NodeState → NodeStep → ℕ → Bool
is_its_step s (AddFabric joins) fabric = not (fabric == least_unused s.fabrics)
is_its_step s (UpdateFabric index given) fabric = index == fabric
is_its_step s (Label index label) fabric = index == fabric
is_its_step s step fabric = true

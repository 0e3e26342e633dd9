-- Samples of what steps of commissioning and an expiry make of the bench node, by which the definitions were checked against what was
-- worked out by hand.
use Rattle.std.specs.Prelude.{ℕ, List, [], ◌∷◌, Option, Some, None, codes, false, true, filter, map, option_map, replicate}
use Rattle.mt_tlv.specs.declared.value.Value.TheVariants as values
use Rattle.mt_model.specs.rows.Sight.{stands_at}
use Rattle.mt_model.specs.declared.node.action.NodeStep.{NodeStep}
use Rattle.mt_model.specs.declared.node.action.NodeStep.TheVariants.{SetRow, SetEntries, Arm, Renew, AddRoot, Csr, AddFabric, UpdateFabric, RemoveFabric, Label}
use Rattle.mt_model.specs.declared.node.state.NodeSession.{NodeSession}
use Rattle.mt_model.specs.declared.node.state.NodeState.{NodeState}
use Rattle.mt_model.specs.declared.node.state.Standing.{Standing}
use Rattle.mt_model.specs.declared.rows.place.Place.{Place}
use Rattle.mt_model.specs.declared.rows.place.Row.{Row}
use Rattle.mt_model.specs.declared.tables.access.Actor.{Actor}
use Rattle.mt_model.specs.declared.tables.fabric.Credentials.{Credentials}
use Rattle.mt_model.specs.declared.tables.fabric.Fabric.{Fabric}
use Rattle.mt_model.specs.declared.tables.network.Armed.{Armed}
use Rattle.mt_model.specs.declared.texts.recording.Event.TheVariants.{Tick}
use Rattle.mt_machine.specs.Bench.{administrator_of, bench_fabric, bench_of, public_key, bench_given}
use Rattle.mt_machine.specs.Effects.{after_all}
use Rattle.mt_machine.specs.Lines.{plain_next}
use Rattle.mt_machine.specs.Opened.{opened}
use Rattle.mt_machine.specs.Rollback.{breadcrumb}
use Rattle.mt_machine.specs.Step.{at_time, case_actor, pase_actor}

-- What is told of a state.

abbrev pub indexes : NodeState → List ℕ
indexes s = map (λ (f : Fabric). f.index) s.fabrics

abbrev pub owner_and_context : NodeState → Option (ℕ × ℕ)
owner_and_context s = option_map (λ (armed : Armed). (armed.owner, armed.context)) s.armed

abbrev pub end_of : NodeState → Option ℕ
end_of s = option_map (λ (armed : Armed). armed.until) s.armed

abbrev pub rows_at : Place → NodeState → List Row
rows_at place s = filter (stands_at place) s.rows

abbrev pub standings : NodeState → List Standing
standings s = map (λ (session : NodeSession). session.standing) s.sessions

abbrev pub number_row : Place → ℕ → Row
number_row place n = record { place = place; fabric = 0; value = values.Uint n }

-- The node behind a time step.
abbrev pub ticked : ℕ → NodeState → NodeState
ticked ms s = (plain_next bench_given (record { node = s; deadlines = [] }) (Tick ms)).node

-- Commissioning over PASE, on its session or as the plain one: armed at 5 ms for 60 s, with Breadcrumb 1; a root, a signing request and a
-- third fabric with its entry; then fabric 1 names the node.

abbrev pub third_fabric : Fabric
third_fabric = record {
  index = 0;
  credentials = record { root = 0xa3 ∷ []; root_key = public_key 0x33; fabric_id = 3; node_id = 30; noc = 0xb3 ∷ []; icac = []; ipk = replicate 16 0xc3 };
  vendor = 0xfff1;
  label = [];
}

abbrev pub node_label : Place
node_label = record { endpoint = 0; cluster = 0x28; leaf = 5 }

abbrev pub a_nonce : List ℕ
a_nonce = replicate 32 0x0e

abbrev pub joining_steps : ℕ → List NodeStep
joining_steps owner =
    Arm owner 60
    ∷ SetRow breadcrumb 0 (values.Uint 1 ∷ [])
    ∷ AddRoot (0xa3 ∷ [])
    ∷ Csr a_nonce false
    ∷ AddFabric third_fabric
    ∷ SetEntries 3 (administrator_of 3 ∷ [])
    ∷ SetRow node_label 0 (values.Text (codes "lamp") ∷ [])
    ∷ []

abbrev pub new_node : NodeState
new_node = at_time 5 (opened bench_of)

abbrev pub joined_by : ℕ → Actor → NodeState
joined_by owner asker = after_all (Some asker) (joining_steps owner) new_node

abbrev pub plain_pase : Actor
plain_pase = pase_actor 0

abbrev pub session_pase : Actor
session_pase = record (pase_actor 0) { session = Some 3 }

abbrev pub first_administrator : Actor
first_administrator = case_actor 1 1 (replicate 3 0)

-- over CASE a step further: the fabric that armed leaves
abbrev pub left_by_owner : NodeState
left_by_owner = after_all (Some first_administrator) (RemoveFabric 1 ∷ []) (joined_by 1 first_administrator)

-- an expiry, and then the same again
abbrev pub joined_again : NodeState
joined_again = after_all (Some first_administrator) (joining_steps 1) (ticked 60005 (joined_by 0 plain_pase))

-- New credentials for fabric 1, which then takes another label.

abbrev pub new_credentials : Credentials
new_credentials = record (bench_fabric 1 (codes "one")).credentials { noc = 0xb9 ∷ []; node_id = 11 }

abbrev pub updating_steps : List NodeStep
updating_steps = Arm 1 60 ∷ Csr a_nonce true ∷ UpdateFabric 1 new_credentials ∷ Label 1 (codes "uno") ∷ []

abbrev pub updated_node : NodeState
updated_node = after_all (Some first_administrator) updating_steps new_node

abbrev pub nocs : NodeState → List (List ℕ)
nocs s = map (λ (f : Fabric). f.credentials.noc) s.fabrics

abbrev pub labels : NodeState → List (List ℕ)
labels s = map (λ (f : Fabric). f.label) s.fabrics

-- Renewed at 890 s for 600 s, which is past the limit of 900 s.
abbrev pub renewed_late : NodeState
renewed_late = after_all None (Renew 600 ∷ []) (at_time 890000 (after_all None (Arm 0 60 ∷ []) new_node))

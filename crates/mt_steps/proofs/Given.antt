-- What is given back as the fail-safe hands it out is what the definition gives back.
use Rattle.std.proofs.Common.{◌≡◌, ℕ, List, [], ◌∷◌, ◌∙◌, Option, Some, None, ap, refl, filter, map}
use Rattle.mt_tlv.specs.declared.value.Value.TheVariants as values
use Rattle.mt_failsafe.specs.Calls.{put_back, undo_of}
use Rattle.mt_failsafe.specs.declared.undo.Undo.{Undo}
use Rattle.mt_model.specs.rows.Setting.{with_rows}
use Rattle.mt_model.specs.tables.Leaving.{stays}
use Rattle.mt_model.specs.declared.node.state.ChangeNumber.{ChangeNumber}
use Rattle.mt_model.specs.declared.node.state.NodeSession.{NodeSession}
use Rattle.mt_model.specs.declared.node.state.NodeState.{NodeState}
use Rattle.mt_model.specs.declared.node.state.Version.{Version}
use Rattle.mt_model.specs.declared.rows.place.Row.{Row}
use Rattle.mt_model.specs.declared.tables.access.AclEntry.{AclEntry}
use Rattle.mt_model.specs.declared.tables.fabric.Credentials.{Credentials}
use Rattle.mt_model.specs.declared.tables.fabric.Fabric.{Fabric}
use Rattle.mt_model.specs.declared.tables.network.Armed.{Armed}
use Rattle.mt_machine.specs.Rollback.{breadcrumb, fabrics_behind, given_back, roots_behind, session_behind, undone, without_breadcrumb}
use Rattle.mt_steps.specs.Expired.{given_by}

given_alike : (updated : Option ℕ) (saved : Option Credentials) (f : Fabric) → given_by (put_back updated saved) f ≡ given_back updated saved f
given_alike None saved f = refl
given_alike (Some u) None f = refl
given_alike (Some u) (Some c) f = refl

all_given : (updated : Option ℕ) (saved : Option Credentials) (fs : List Fabric) → map (given_by (put_back updated saved)) fs ≡ map (given_back updated saved) fs
all_given updated saved [] = refl
all_given updated saved (f ∷ fs) = λ i. given_alike updated saved f i ∷ all_given updated saved fs i

-- the state without what an undo takes back, part by part
pub taken_back : (armed : Armed) (undo : Undo) (s : NodeState) (rows : List Row) (entries : List AclEntry) (fabrics : List Fabric) (roots : List (List ℕ)) (sessions : List NodeSession) (versions : List Version) (changes : List ChangeNumber)
    → undo ≡ undo_of armed
    → rows ≡ with_rows breadcrumb 0 (values.Uint 0 ∷ []) (filter (λ (row : Row). stays undo.added row.fabric) s.rows)
    → entries ≡ filter (λ (entry : AclEntry). stays undo.added entry.fabric) s.entries
    → fabrics ≡ map (given_by undo.updated) (filter (λ (fabric : Fabric). stays undo.added fabric.index) s.fabrics)
    → roots ≡ roots_behind fabrics s.roots
    → sessions ≡ map (session_behind armed) s.sessions
    → versions ≡ s.versions
    → changes ≡ s.changes
    → record { rows = rows; entries = entries; fabrics = fabrics; roots = roots; networks = undo.networks; armed = None; versions = versions; changes = changes; changed = s.changed; sessions = sessions; plain = None; boot = s.boot; clock = s.clock }
    ≡ without_breadcrumb (undone armed s)
taken_back armed undo s rows entries fabrics roots sessions versions changes is are_rows are_entries are_fabrics are_roots are_sessions are_versions are_changes =
    let rows_is : rows ≡ with_rows breadcrumb 0 (values.Uint 0 ∷ []) (filter (λ (row : Row). stays armed.added row.fabric) s.rows) =
    are_rows ∙ ap (λ (u : Undo). with_rows breadcrumb 0 (values.Uint 0 ∷ []) (filter (λ (row : Row). stays u.added row.fabric) s.rows)) is in
    let entries_is : entries ≡ filter (λ (entry : AclEntry). stays armed.added entry.fabric) s.entries = are_entries ∙ ap (λ (u : Undo). filter (λ (entry : AclEntry). stays u.added entry.fabric) s.entries) is in
    let fabrics_is : fabrics ≡ fabrics_behind armed s.fabrics =
    are_fabrics
    ∙ ap (λ (u : Undo). map (given_by u.updated) (filter (λ (fabric : Fabric). stays u.added fabric.index) s.fabrics)) is
    ∙ all_given armed.updated armed.saved_credentials (filter (λ (fabric : Fabric). stays armed.added fabric.index) s.fabrics) in
    let roots_is : roots ≡ roots_behind (fabrics_behind armed s.fabrics) s.roots = are_roots ∙ ap (λ (fs : List Fabric). roots_behind fs s.roots) fabrics_is in
    λ i. record {
      rows = rows_is i;
      entries = entries_is i;
      fabrics = fabrics_is i;
      roots = roots_is i;
      networks = ap (λ (u : Undo). u.networks) is i;
      armed = None;
      versions = are_versions i;
      changes = are_changes i;
      changed = s.changed;
      sessions = are_sessions i;
      plain = None;
      boot = s.boot;
      clock = s.clock;
    }

use Rattle.std.proofs.Common.{List, ap, filter, map, ◌∙◌}
use Rattle.mt_model.specs.tables.Leaving.{stays}
use Rattle.mt_model.specs.declared.tables.access.AclEntry.{AclEntry}
use Rattle.mt_model.specs.declared.tables.fabric.Fabric.{Fabric}
use Rattle.mt_machine.specs.Rollback.{roots_behind, session_behind}
use Rattle.mt_steps.specs.Expired.{given_by}
use Rattle.mt_steps.proofs.Given.{taken_back}
use Rattle.mt_steps.proofs.expiry.taken_back.Goals as goal

pub returns : goal.returns
returns c =
    let undo = c.args.undo in
    taken_back c.args.armed.now undo c.args.state.now c.in_ok-rows.rows c.in_ok-entries.entries c.in_ok-fabrics.fabrics c.in_ok-roots.roots c.in_ok-sessions.sessions c.in_ok-versions.versions c.in_ok-changes.changes
    c.requires
    c.in_ok-rows.ensures
    (c.in_ok-entries.ensures ∙ ap (filter (λ (entry : AclEntry). stays undo.added entry.fabric)) c.as_slice.ensures)
    (c.in_ok-fabrics.ensures ∙ ap (λ (fs : List Fabric). map (given_by undo.updated) (filter (λ (fabric : Fabric). stays undo.added fabric.index) fs)) c.as_slice-2.ensures)
    (c.in_ok-roots.ensures ∙ (λ i. roots_behind (c.as_slice-3.ensures i) (c.as_slice-4.ensures i)))
    (c.in_ok-sessions.ensures ∙ ap (map (session_behind c.args.armed.now)) c.as_slice-5.ensures)
    c.in_ok-versions.ensures
    c.in_ok-changes.ensures

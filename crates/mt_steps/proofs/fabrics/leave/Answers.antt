use Rattle.std.proofs.Common.{◌≡◌, Some, ap, filter, map, ◌∙◌}
use Rattle.mt_model.specs.tables.Leaving.{stays}
use Rattle.mt_model.specs.declared.tables.access.AclEntry.{AclEntry}
use Rattle.mt_machine.specs.Effects.{session_without}
use Rattle.mt_machine.specs.State.{is_used}
use Rattle.mt_steps.proofs.fabrics.leave.Goals as goal

pub returns-clause-made : goal.returns-clause-made
returns-clause-made c =
    let s = c.args.state.now in
    let index = c.args.index in
    let entries : c.in_ok-entries.entries ≡ filter (λ (entry : AclEntry). stays (Some index) entry.fabric) s.entries = c.in_ok-entries.ensures ∙ ap (filter (λ (entry : AclEntry). stays (Some index) entry.fabric)) c.as_slice.ensures in
    let roots : c.in_ok-roots.roots ≡ filter (is_used c.args.fabrics s.armed) s.roots = c.in_ok-roots.ensures ∙ (λ i. filter (is_used (c.as_slice-2.ensures i) s.armed) (c.as_slice-3.ensures i)) in
    let sessions : c.in_ok-sessions.sessions ≡ map (session_without index) s.sessions = c.in_ok-sessions.ensures ∙ ap (map (session_without index)) c.as_slice-4.ensures in
    λ i. record s { rows = c.in_ok-rows.ensures i; entries = entries i; fabrics = c.args.fabrics; roots = roots i; sessions = sessions i; plain = c.plain_without-state.ensures i }

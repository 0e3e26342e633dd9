use Rattle.std.proofs.Common.{◌≡◌, false, sym, subst, ◌∙◌, IfOk, refl}
use Rattle.mt_model.specs.rows.Seen.{seen_as}
use Rattle.mt_write.proofs.OwnValues.{rows_step_seen}
use Rattle.mt_write.specs.Writing.{is_entry_list}
use Rattle.mt_write.proofs.writing.write_at.Goals as goal

pub returns : goal.returns
returns g c =
    let sight = g.S.Sight in
    let actor = c.args.actor.now in
    let place = c.args.place.now in
    let meta = c.args.meta.now in
    let rows = sight.rows_of c.args.sight.now place in
    let seen = seen_as actor.fabric (sight.rows_of c.args.sight.now) (sight.versions c.args.sight.now) (sight.all_entries c.args.sight.now) in
    let other : is_entry_list meta.kind ≡ false = sym c.is_entry_list.ensures ∙ c.if-is_entry_list.false in
    subst (λ wanted. IfOk c.write_rows.result (λ step. step ≡ wanted)) (rows_step_seen seen actor c.args.steps.now c.args.item.now place meta rows c.fabric_of-fabric.result other c.fabric_of-fabric.ensures refl) c.write_rows.ensures

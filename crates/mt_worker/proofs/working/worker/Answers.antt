use Rattle.std.proofs.Common.{◌≡◌, ◌∙◌, List, OnOk, ap, map, rules, subst, sym, true}
use Rattle.std.specs.Prelude.{is_err}
use mathlib.Core.List.{IsPrefix}
use Rattle.mt_model.specs.declared.texts.config.SessionRow.{SessionRow}
use Rattle.mt_queue.specs.Ends.{Taken}
use Rattle.mt_worker.specs.Due.{HaveBegun, id_of}
use Rattle.mt_worker.specs.Works.{WentThrough}
use Rattle.mt_worker.specs.declared.hand.Hand.{Hand}
use Rattle.mt_worker.proofs.Ended.{ok_always, ok_unless_failed, worked_as}
use Rattle.mt_worker.proofs.Few.{longer_same}
use Rattle.mt_worker.proofs.working.worker.Goals.{then-is_err, else-is_err}
use Rattle.mt_worker.proofs.working.worker.Goals as goal

pub returns-clause-worked : goal.returns-clause-worked
returns-clause-worked g c accounts begun =
    let x : Hand g.row.O.Denot = record { pass = c.args.pass; outlet = c.args.outlet } in
    let y = c.work-ended.new.self in
    let jobs = c.work-ended.new.jobs.taken in
    let rows : c.as_slice.result.now ≡ c.args.rows.now = search rules in
    let went = subst (λ (rs : List SessionRow). HaveBegun rs accounts → WentThrough g.O.Outlet.given g.O.Outlet.faults (map id_of rs) jobs x y c.work-ended.result accounts) rows (c.work-ended.ensures.worked accounts) in
    let pass : c.into_parts-pass.result.0 ≡ y.pass = search rules in
    let outlet : c.into_parts-pass.result.1 ≡ y.outlet = search rules in
    let taken : OnOk c.work-ended.result (c.into_pass.result.taken ≡ jobs) = elim c.if-is_err.branch [
      | then-is_err w ↦ let failed : is_err c.work-ended.result ≡ true = search rules in ok_unless_failed c.work-ended.result _ failed
      | else-is_err w ↦ ok_always c.work-ended.result _ (ap (λ (j : Taken). j.taken) (c.into_pass.ensures.same ∙ w.jobs-is))
    ] in
    let longer : IsPrefix jobs c.into_pass.result.taken = elim c.if-is_err.branch [
      | then-is_err w ↦ subst (λ (j : Taken). IsPrefix jobs j.taken) (sym (c.into_pass.ensures.same ∙ w.jobs-is)) w.take_to_end.ensures.longer
      | else-is_err w ↦ longer_same jobs c.into_pass.result.taken (ap (λ (j : Taken). j.taken) (c.into_pass.ensures.same ∙ w.jobs-is))
    ] in
    worked_as g.O.Outlet.given g.O.Outlet.faults c.args.rows.now accounts x y jobs c.work-ended.result (record { outlet = c.into_parts-pass.result.1; pass = c.into_parts-pass.result.0; queue = c.into_pass.result; status = c.status_of.result }) (went begun) c.status_of.ensures pass outlet taken longer

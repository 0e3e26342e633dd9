use Rattle.std.proofs.Common.{ap, arith, length, ℕ, List}
use Rattle.std.proofs.lemmas.List.{length_push}
use Rattle.mt_model.specs.declared.texts.config.SessionRow.{SessionRow}
use Rattle.mt_owners.specs.Rows.{AreRowsOf}
use Rattle.mt_crew.specs.Members.{MayHave}
use Rattle.mt_crew.proofs.Lists.{all_more, each_push}
use Rattle.mt_crew.proofs.seating.all_rows.Goals as goal

pub loop-worker-preserved : goal.loop-worker-preserved
loop-worker-preserved c =
    let own = c.in_ok-rows_of.ensures in
    let may : MayHave c.in_ok-rows_of.field-0 = record { served = own.served; rising = own.rising } in
    record {
      served = all_more MayHave _ _ c.in_ok-rows_of.field-0 c.in_ok-push.ensures.items c.loop-worker.invariant.served may;
      rows = each_push (λ (worker : ℕ) (rows : List SessionRow). AreRowsOf c.args.boot c.args.workers worker c.args.sessions.now rows) _ _ c.in_ok-rows_of.field-0 c.loop-worker.worker c.in_ok-push.ensures.items c.loop-worker.invariant.length c.loop-worker.invariant.rows own;
      length = (let len = c.loop-worker.invariant.length in let push = ap length c.in_ok-push.ensures.items in let more = length_push c.loop-worker.all.items c.in_ok-rows_of.field-0 in omega arith);
    }

use Rattle.std.proofs.Common.{◌≡◌, ◌<◌, ℕ, List, All, get_or, length}
use Rattle.mt_model.specs.declared.texts.config.SessionRow.{SessionRow}
use Rattle.mt_owners.specs.Rows.{AreRowsOf}
use Rattle.mt_crew.specs.Members.{MayHave}
use Rattle.mt_crew.proofs.seating.all_rows.Given as goal

abbrev pub invariant-loop-worker : goal.invariant-loop-worker
invariant-loop-worker l = record {
  served : All MayHave l.all.items;
  rows : (worker : ℕ) (d : List SessionRow) → worker < l.worker → AreRowsOf l.boot l.workers worker l.sessions (get_or l.all.items worker d);
  length : length l.all.items ≡ l.worker;
}

use Rattle.std.proofs.Common.{◌≡◌, ◌≤◌, ◌+◌, ◌-◌, ℕ, List, Some, false, length}
use Rattle.mt_journal.specs.Layout.{Reads, Records, is_past}
use Rattle.mt_journal.specs.Recovering.{OnlyRead}
use Rattle.mt_journal.specs.Standing.{HasUpTo}
use Rattle.mt_journal.proofs.recovering.read_records.Given as goal

abbrev pub invariant-records : goal.invariant-records
invariant-records g l = record {
  has : (file : List ℕ) (reads : List ℕ → Reads Records) (start : ℕ) → g.D.Disk.contents l.fn.disk ≡ Some file → l.whole ≡ length file → start ≤ l.first
      → HasUpTo reads g.F.Form.change l.limit start l.first l.fn.list.items file → HasUpTo reads g.F.Form.change l.limit start l.gate l.list.items file;
  told : g.F.Form.was_told l.form l.list.items;
  only : OnlyRead g.D.Disk.contents g.D.Disk.images g.D.Disk.moment g.D.Disk.images_since l.fn.disk l.disk;
  calm : g.D.Disk.faults l.disk ≡ g.D.Disk.faults l.fn.disk;
  behind : l.first ≤ l.gate;
  before : is_past l.limit (l.gate + 1) ≡ false;
}

abbrev pub decreases-records : goal.decreases-records
decreases-records g l = l.whole - l.gate

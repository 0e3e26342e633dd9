use Rattle.std.proofs.Common.{◌≡◌, [], ◌∷◌, Err, rules}
use Rattle.mt_outside.specs.MemoryDisk.DiskEvent.{wrote, synced}
use Rattle.mt_journal.proofs.Logging.{logs_first, logs_then}
use Rattle.mt_journal.proofs.writing.put_both.Goals as goal

pub returns-in_err-put-clause-logged : goal.returns-in_err-put-clause-logged
returns-in_err-put-clause-logged g c =
    let same : c.from_residual.result ≡ Err c.in_err-put.field-0.0 = search rules in
    rw same
    (logs_first (wrote c.args.at c.args.bytes.now ∷ synced ∷ []) (wrote c.args.last_at (c.args.last ∷ []) ∷ synced ∷ []) (g.D.Disk.log c.args.disk.now) (g.D.Disk.log c.args.disk.now) (g.D.Disk.log c.put.new.disk) (g.D.Disk.allowed c.args.disk.now) (g.D.Disk.allowed c.put.new.disk)
    c.in_err-put.field-0.0 c.in_err-put.field-0.0 c.in_err-put.ensures.logged)

pub returns-clause-logged : goal.returns-clause-logged
returns-clause-logged g c =
    logs_then (wrote c.args.at c.args.bytes.now ∷ synced ∷ []) (wrote c.args.last_at (c.args.last ∷ []) ∷ synced ∷ []) (g.D.Disk.log c.args.disk.now) (g.D.Disk.log c.put.new.disk) (g.D.Disk.log c.put-2.new.disk)
    (g.D.Disk.allowed c.args.disk.now) (g.D.Disk.allowed c.put.new.disk) (g.D.Disk.allowed c.put-2.new.disk) c.in_ok-put.field-0 c.put-2.result c.in_ok-put.ensures.logged c.put-2.ensures.logged

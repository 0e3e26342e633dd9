use Rattle.std.proofs.Common.{◌≡◌, ℕ, List, [], ◌∷◌, length, Err, rules, subst, sym}
use Rattle.mt_outside.specs.Disk.{CutShort}
use Rattle.mt_outside.specs.MemoryDisk.DiskEvent.{wrote, synced}
use Rattle.mt_journal.proofs.Logging.{logs_first}
use Rattle.mt_journal.proofs.Moments.{nothing_cut, two_calls}
use Rattle.mt_journal.proofs.writing.put.Goals as goal

pub returns-in_err-write_at-clause-logged : goal.returns-in_err-write_at-clause-logged
returns-in_err-write_at-clause-logged g c =
    let same : c.from_residual.result ≡ Err c.in_err-write_at.field-0.0 = search rules in
    rw same
    (logs_first (wrote c.args.at c.args.bytes.now ∷ []) (synced ∷ []) (g.D.Disk.log c.args.disk.now) (g.D.Disk.log c.args.disk.now) (g.D.Disk.log c.write_at.new.self) (g.D.Disk.allowed c.args.disk.now) (g.D.Disk.allowed c.write_at.new.self) c.in_err-write_at.field-0.0 c.in_err-write_at.field-0.0
    c.in_err-write_at.ensures.logged)

pub returns-clause-moments : goal.returns-clause-moments
returns-clause-moments g c = λ file told safe.
    (let at = c.args.at in
    let n = length c.args.bytes.now in
    let itself : (image : List ℕ) → image ≡ file → CutShort at n file image = λ image is. subst (λ (i : List ℕ). CutShort at n file i) (sym is) (nothing_cut at n file) in
    let between : (image : List ℕ) → g.D.Disk.images c.write_at.new.self image → CutShort at n file image = λ image left.
    (let came = c.write_at.ensures.crash image left in subst (λ (f : List ℕ). CutShort at n f image) (safe came.0 came.1) came.2) in
    two_calls {D = g.row.D.Denot} g.D.Disk.moment g.D.Disk.images_since (CutShort at n file) g.D.Disk.images c.args.disk.now c.write_at.new.self c.sync.new.self c.write_at.ensures.time c.sync.ensures.time
    (λ image left. itself image (safe image (g.met.D.Disk.only_now c.args.disk.now image left))) between (λ image left. between image (c.sync.ensures.crash image left)))

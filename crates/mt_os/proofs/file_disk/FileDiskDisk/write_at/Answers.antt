use Rattle.std.proofs.Common.{ℕ, List, length, refl, arith}
use Rattle.std.proofs.lemmas.List.{take_min}
use Rattle.mt_outside.specs.Disk.{CutShort}
use Rattle.mt_os.proofs.file_disk.FileDiskDisk.write_at.Goals as goal

-- a write that is cut short may leave all as it was
nothing_written : (at n : ℕ) (image : List ℕ) → CutShort at n image image
nothing_written at n image = record {
  before = take_min at image;
  after = refl;
  no_shorter = omega arith;
  no_longer = omega arith;
}

pub returns-clause-crash : goal.returns-clause-crash
returns-clause-crash c = λ image left. (image, tt, nothing_written c.args.at (length c.args.from.now) image)

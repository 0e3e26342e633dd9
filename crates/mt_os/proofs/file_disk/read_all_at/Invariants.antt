use Rattle.std.proofs.Common.{◌≡◌, ◌≤◌, ◌^◌, length}
use Rattle.mt_os.proofs.file_disk.read_all_at.Given as goal

abbrev pub invariant-loop : goal.invariant-loop
invariant-loop l = record {
  within : l.at ≤ 2 ^ 62;
  read : l.count ≤ length l.into;
  into : length l.into ≡ length l.fn.into;
}

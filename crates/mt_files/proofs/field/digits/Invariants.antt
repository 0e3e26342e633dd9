use Rattle.std.proofs.Common.{◌≡◌, ◌≤◌, drop}
use Rattle.mt_files.specs.Field.{digits_from, up_to}
use Rattle.mt_files.proofs.field.digits.Given as goal

abbrev pub invariant-loop-digit : goal.invariant-loop-digit
invariant-loop-digit l = record {
  told : up_to l.most (digits_from 0 l.text) ≡ up_to l.most (digits_from l.number (drop l.digit-index l.text));
  within : l.number ≤ l.most;
}

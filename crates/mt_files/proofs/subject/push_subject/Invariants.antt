use Rattle.std.proofs.Common.{◌≡◌, ◌++◌, drop}
use Rattle.std.specs.Io.{StartsWith}
use Rattle.std.specs.List.{flat_map}
use Rattle.mt_files.specs.Subject.{cat_text}
use Rattle.mt_files.proofs.subject.push_subject.Given as goal

-- what was written so far, and the texts of the CATs to come
abbrev pub invariant-loop-cat : goal.invariant-loop-cat
invariant-loop-cat l = record {
  written : l.out.items ++ flat_map cat_text (drop l.cat-index l.cat-items) ≡ l.initial.out.items ++ flat_map cat_text l.cat-items;
  kept : StartsWith l.out.items l.fn.out.items;
}

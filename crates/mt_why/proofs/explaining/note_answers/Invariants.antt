-- what holds of the causes, and that each code so far is accounted for
use Rattle.std.proofs.Common.{All, ◌≤◌, ◌<◌, ℕ}
use Rattle.mt_why.specs.Causes.{Holds, IsAccounted}
use Rattle.mt_why.proofs.explaining.note_answers.Given as goal

abbrev pub invariant-loop-code : goal.invariant-loop-code
invariant-loop-code l = record {
  all : All (Holds l.scene) l.causes.items;
  told : (code : ℕ) → 1 ≤ code → code < l.code → IsAccounted l.scene l.causes.items code;
}

use Rattle.std.proofs.Common.{◌≡◌, ◌+◌, drop}
use Rattle.mt_words.specs.Sorting.{comes_to, start}
use Rattle.mt_words.specs.Words.{words_of}
use Rattle.mt_words.proofs.sorting.served.Given as goal

-- what comes of all words is what comes of those behind the ones that were gone over
abbrev pub invariant-loop-i : goal.invariant-loop-i
invariant-loop-i l = record {
  comes : comes_to start 1 (words_of l.words) ≡ comes_to l.found (l.i + 1) (words_of (drop l.i l.words));
}

use Rattle.std.proofs.Common.{◌≡◌, ◌+◌, ◌≤◌, length, take, drop}
use Rattle.mt_words.specs.Words.{exactly, positional_from, words_of}
use Rattle.mt_words.proofs.Places.{behind, left}
use Rattle.mt_words.proofs.command.places.Given as goal

-- the places so far, and those of the words to come
abbrev pub invariant-loop-i : goal.invariant-loop-i
invariant-loop-i g l = record {
  found : exactly g.row.N (positional_from 1 (words_of l.words)) ≡ exactly g.row.N (behind (take l.count l.places) (left l.is_behind (l.i + 1) (words_of (drop l.i l.words))));
  room : l.count ≤ g.row.N;
  len : length l.places ≡ g.row.N;
}

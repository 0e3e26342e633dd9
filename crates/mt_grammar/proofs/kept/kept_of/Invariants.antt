use Rattle.std.proofs.Common.{◌≡◌, Some, drop}
use Rattle.mt_grammar.specs.Decoding.{kept_after, kept_in}
use Rattle.mt_grammar.proofs.kept.kept_of.Given as goal

-- what is kept so far, with the entries from here on, is what all of them keep
abbrev pub invariant-loop-entry : goal.invariant-loop-entry
invariant-loop-entry l = kept_after (Some l.kept) (drop l.entry-index l.entries) ≡ kept_in l.entries

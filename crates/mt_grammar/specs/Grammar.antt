-- The grammar of states: which maps are those of a valid state of a node.
use Rattle.std.specs.Prelude.{Bool, false, List, Option, Some, None}
use Rattle.mt_durable.specs.declared.durable.Entry.{Entry}
use Rattle.mt_grammar.specs.Decoding.{kept_in}
use Rattle.mt_grammar.specs.Facts.{facts_hold}
use Rattle.mt_grammar.specs.declared.kept.MapContents.{MapContents}

abbrev pub is_state : Option MapContents → Bool
is_state None = false
is_state (Some kept) = facts_hold kept

-- each key has its form, so has what stands under it, and what holds between keys does
abbrev pub is_in_grammar : List Entry → Bool
is_in_grammar entries = is_state (kept_in entries)

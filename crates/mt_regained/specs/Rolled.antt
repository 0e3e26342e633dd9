-- What is kept, rolled back: without what was done under a fail-safe that was armed. A node that has never started keeps the fabrics and entries
-- of its configuration.
use Rattle.std.specs.Prelude.{ℕ, List, [], Option, Some, None, unwrap_or, if◌then◌else◌}
use Rattle.mt_durable.specs.declared.durable.Entry.{Entry}
use Rattle.mt_model.specs.declared.texts.config.Config.{Config}
use Rattle.mt_grammar.specs.Decoding.{kept_in}
use Rattle.mt_grammar.specs.Facts.{facts_hold}
use Rattle.mt_grammar.specs.declared.kept.MapContents.{MapContents}
use Rattle.mt_machine.specs.Opened.{opened_with}
use Rattle.mt_machine.specs.Rollback.{rollback}
use Rattle.mt_lasting.specs.Contents.{durable, kept_of}
use Rattle.mt_regained.specs.Regained.{state_of}

abbrev pub ceiling_of : MapContents → ℕ
ceiling_of kept = unwrap_or kept.ceiling 0

abbrev pub rolled : MapContents → MapContents
rolled kept = kept_of (rollback (state_of kept)) (ceiling_of kept)

-- what a node keeps before its first boot
abbrev pub kept_of_new : Config → MapContents
kept_of_new config = kept_of (opened_with 0 config.fabrics config.entries []) 0

-- the map behind the rollback, of what is kept
abbrev pub rolled_map_of : MapContents → List Entry
rolled_map_of kept = durable (rollback (state_of kept)) (ceiling_of kept)

abbrev pub rolled_if : Option MapContents → Option (List Entry)
rolled_if None = None
rolled_if (Some kept) = if facts_hold kept then Some (rolled_map_of kept) else None

-- the map of a state, rolled back; None where it is not in the grammar of states
abbrev pub rolled_map : List Entry → Option (List Entry)
rolled_map map = rolled_if (kept_in map)

-- the items so far and the refusals of the paths to come are those of all paths, behind what was there
use Rattle.std.proofs.Common.{◌≡◌, ◌++◌, drop}
use Rattle.std.specs.List.{flat_map}
use Rattle.mt_model.specs.messages.Blocks.{place_named}
use Rattle.mt_model.specs.declared.messages.message.Path.{Path}
use Rattle.mt_events.specs.Asked.{asked_by}
use Rattle.mt_events.specs.Reading.{refusal_of}
use Rattle.mt_events.proofs.reading.Reader.push_refusals.Given as goal

abbrev pub invariant-loop-path : goal.invariant-loop-path
invariant-loop-path l =
    let refused = λ (path : Path). refusal_of (asked_by l.self) (place_named path) in
    l.items.items ++ flat_map refused (drop l.path-index l.path-items) ≡ l.initial.items.items ++ flat_map refused l.path-items

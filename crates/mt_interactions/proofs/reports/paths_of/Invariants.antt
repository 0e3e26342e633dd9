use Rattle.std.proofs.Common.{◌≡◌, ◌++◌, drop, map}
use Rattle.mt_model.specs.messages.Blocks.{path_of}
use Rattle.mt_interactions.proofs.reports.paths_of.Given as goal

abbrev pub invariant-loop-place : goal.invariant-loop-place
invariant-loop-place l = l.paths.items ++ map path_of (drop l.place-index l.places) ≡ map path_of l.places

-- the rings so far are empty, each with its places
use Rattle.std.proofs.Common.{◌≡◌, ◌<◌, ℕ, [], get_or, length}
use Rattle.circular_buffer.specs.Buffer.{buffer}
use Rattle.mt_events.specs.Rings.{capacity_of}
use Rattle.mt_events.proofs.rings.Rings.new.Given as goal

abbrev pub invariant-loop-fabric : goal.invariant-loop-fabric
invariant-loop-fabric l = record {
  long : length l.rings.items ≡ l.fabric;
  made : (k : ℕ) → k < l.fabric → get_or l.rings.items k (buffer [] 0) ≡ buffer [] (capacity_of k);
}

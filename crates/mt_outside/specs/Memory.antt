-- What a contract sees of the source and the sink in memory.
use Rattle.std.specs.Prelude.{ℕ, List}

-- a source: what is left of its contents, the numbers of the calls that are to fail, from 1, and how many calls and faults there were
pub record SourceState : Type 0 where
  pub left : List ℕ
  pub fail : List ℕ
  pub calls : ℕ
  pub faults : ℕ

-- a sink: what was written, and the same of its calls
pub record SinkState : Type 0 where
  pub written : List ℕ
  pub fail : List ℕ
  pub calls : ℕ
  pub faults : ℕ

-- What stands outside of a node and never changes: what was judged of certificates, and which networks are within reach.
use Rattle.std.specs.Prelude.{ℕ, List}
use Rattle.mt_model.specs.texts.Contents.{Contents}
use Rattle.mt_opcreds.specs.Judged.{Judged, judged_by}

pub record Environment : Type 0 where
  pub judged : Judged
  -- the ids of the networks
  pub reachable : List (List ℕ)

-- as a configuration gives it
abbrev pub given_by : Contents → Environment
given_by contents = record { judged = judged_by contents.roots contents.csrs contents.joins; reachable = contents.reachable }

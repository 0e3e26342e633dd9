use Rattle.std.proofs.Common.{◌≡◌, Some}
use Rattle.mt_whole.specs.Talks.{put}
use Rattle.mt_whole.proofs.Listed.{put_from}
use Rattle.mt_whole.proofs.talks.put.Given as goal

-- put behind those so far, it is put in its place
abbrev pub invariant-loop-talk : goal.invariant-loop-talk
invariant-loop-talk l = put_from l.talk-index l.new l.talks ≡ put (Some l.new) l.fn.talks

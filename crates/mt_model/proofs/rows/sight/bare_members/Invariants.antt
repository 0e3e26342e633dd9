use Rattle.std.proofs.Common.{◌≡◌, ◌++◌, filter, drop}
use Rattle.mt_model.proofs.Bare.{is_kept}
use Rattle.mt_model.proofs.rows.sight.bare_members.Given as goal

-- what was kept so far, and what is kept of the rest
abbrev pub invariant-loop-tag : goal.invariant-loop-tag
invariant-loop-tag l = l.kept.items ++ filter (is_kept l.place) (drop l.tag-index l.all) ≡ filter (is_kept l.place) l.all

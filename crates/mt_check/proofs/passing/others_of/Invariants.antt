use Rattle.std.proofs.Common.{◌≡◌, ◌++◌, filter, map, string_bytes}
use Rattle.serde_json.specs.View.{members_view}
use Rattle.mt_check.specs.Passing.{is_other, names_of}
use Rattle.mt_check.proofs.passing.others_of.Given as goal

abbrev pub invariant-loop-name : goal.invariant-loop-name
invariant-loop-name l = map string_bytes l.names.items ++ filter (is_other l.fields) (names_of (members_view l.name-iterator)) ≡ filter (is_other l.fields) (names_of (members_view l.members.entries))

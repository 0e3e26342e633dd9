use Rattle.std.proofs.Common.{◌≡◌, ℕ, ◌+◌, ◌*◌, ◌≤◌, List, [], length}
use Rattle.mt_tlv.specs.declared.value.Tag.{Tag}
use Rattle.mt_tlv.specs.declared.value.Value.{Value}
use Rattle.mt_tlv.specs.Reading.{body_at, members_with}
use Rattle.mt_tlv.specs.Tags.{Remembers}
use Rattle.mt_tlv.proofs.Loop.{tags_of, in_front}
use Rattle.mt_tlv.proofs.outline.+passing.Given as goal

abbrev pub decreases-test_body : goal.decreases-test_body
decreases-test_body l = 3 * l.room + 1

abbrev pub decreases-test_container : goal.decreases-test_container
decreases-test_container l = 3 * l.room

abbrev pub decreases-test_members : goal.decreases-test_members
decreases-test_members l = 3 * l.room + 2

-- some members stood before, with these tags, and the others are still read
abbrev pub invariant-test_members-members : goal.invariant-test_members-members
invariant-test_members-members l =
    (ms : List (Tag × Value)) × (n : ℕ) × (length l.rest ≤ n) × (length l.rest ≤ length l.bytes)
    × Remembers l.kind l.seen (tags_of ms)
    × (members_with (body_at l.room l.whole) l.whole l.kind (length l.bytes) [] l.bytes ≡ in_front ms (members_with (body_at l.room l.whole) l.whole l.kind n (tags_of ms) l.rest))

abbrev pub decreases-test_members-members : goal.decreases-test_members-members
decreases-test_members-members l = length l.rest

use Rattle.std.proofs.Common.{◌≡◌, ℕ, ◌+◌, ◌*◌, ◌≤◌, [], length}
use Rattle.mt_tlv.specs.Reading.{body_at, members_with}
use Rattle.mt_tlv.specs.Tags.{Remembers}
use Rattle.mt_tlv.proofs.Loop.{tags_of, in_front}
use Rattle.mt_tlv.proofs.reading.+read.Given as goal

abbrev pub decreases-read_body : goal.decreases-read_body
decreases-read_body l = 3 * l.room + 1

abbrev pub decreases-read_container : goal.decreases-read_container
decreases-read_container l = 3 * l.room

abbrev pub decreases-read_members : goal.decreases-read_members
decreases-read_members l = 3 * l.room + 2

-- what was read before and what is still read, and the tags so far
abbrev pub invariant-read_members-members : goal.invariant-read_members-members
invariant-read_members-members l =
    (n : ℕ) × (length l.rest ≤ n) × (length l.rest ≤ length l.bytes)
    × Remembers l.kind l.seen (tags_of l.items.items)
    × (members_with (body_at l.room l.whole) l.whole l.kind (length l.bytes) [] l.bytes ≡ in_front l.items.items (members_with (body_at l.room l.whole) l.whole l.kind n (tags_of l.items.items) l.rest))

abbrev pub decreases-read_members-members : goal.decreases-read_members-members
decreases-read_members-members l = length l.rest

use Rattle.std.proofs.Common.{◌≡◌, ℕ, ◌≤◌, List, [], length}
use Rattle.mt_tlv.specs.declared.value.Tag.{Tag}
use Rattle.mt_tlv.specs.declared.value.Value.{Value}
use Rattle.mt_tlv.specs.declared.reading.Kind.TheVariants.{Struct}
use Rattle.mt_tlv.specs.View.{elements}
use Rattle.mt_tlv.specs.Reading.{body_at, members_with}
use Rattle.mt_tlv.specs.Tags.{Remembers}
use Rattle.mt_tlv.specs.Outline.{outlines}
use Rattle.mt_tlv.proofs.Loop.{tags_of, in_front}
use Rattle.mt_tlv.proofs.outline.outlined_fields.Given as goal

-- some fields stood before, with these tags and outlines, and the others are still read
abbrev pub invariant-fields : goal.invariant-fields
invariant-fields l =
    (ms : List (Tag × Value)) × (n : ℕ) × (length l.rest ≤ n) × (elements l.items.items ≡ outlines (elements ms))
    × Remembers Struct l.seen (tags_of ms)
    × (members_with (body_at 15 l.whole) l.whole Struct (length l.bytes) [] l.bytes ≡ in_front ms (members_with (body_at 15 l.whole) l.whole Struct n (tags_of ms) l.rest))

abbrev pub decreases-fields : goal.decreases-fields
decreases-fields l = length l.rest

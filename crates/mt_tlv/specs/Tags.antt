-- Which tags a set of tags has.
use Rattle.std.specs.Prelude.{◌≡◌, ℕ, ◌+◌, ◌-◌, ◌*◌, ◌/◌, ◌%◌, ◌^◌, Bool, List, nat_eq, slice_index}
use Rattle.std.specs.Int.{bit_at}
use Rattle.std.specs.Ordering.{nat_cmp}
use Rattle.std.specs.BTreeSet.{contains}
use Rattle.mt_tlv.specs.declared.value.Tag.{Tag}
use Rattle.mt_tlv.specs.declared.value.Tag.TheVariants.{Anonymous, Context, Common, Implicit, Full}
use Rattle.mt_tlv.specs.declared.tag_set.TagSet.{TagSet}
use Rattle.mt_tlv.specs.declared.reading.Kind.{Kind}
use Rattle.mt_tlv.specs.declared.reading.Kind.TheVariants as kinds
use Rattle.mt_tlv.specs.Limits.{IsTag, is_tag_in, kind_and_numbers}

-- whether the words have a mark for the context tag
abbrev pub has_context : List ℕ → ℕ → Bool
has_context words n = nat_eq (bit_at (slice_index words (n / 64)) (n % 64)) 1

-- kind and numbers in one number
abbrev pub number_of_four : ℕ × ℕ × ℕ × ℕ → ℕ
number_of_four k = k.0 * 2 ^ 64 + k.1 * 2 ^ 48 + k.2 * 2 ^ 32 + k.3

-- the key of a tag, which falls as its number rises
abbrev pub key_of : Tag → ℕ
key_of tag = 2 ^ 67 - number_of_four (kind_and_numbers tag)

abbrev pub has : TagSet → Tag → Bool
has set Anonymous = contains nat_cmp set.others (key_of Anonymous)
has set (Context n) = has_context set.contexts n
has set (Common n) = contains nat_cmp set.others (key_of (Common n))
has set (Implicit n) = contains nat_cmp set.others (key_of (Implicit n))
has set (Full v p n) = contains nat_cmp set.others (key_of (Full v p n))

-- The set has the tags of this list, and no other.
abbrev pub HasExactly : TagSet → List Tag → Type 0
HasExactly set tags = (tag : Tag) → IsTag tag → has set tag ≡ is_tag_in tag tags

-- What is remembered behind members of these tags: a structure's tags, and nothing of other containers.
abbrev pub Remembers : Kind → TagSet → List Tag → Type 0
Remembers kinds.Struct set tags = HasExactly set tags
Remembers kinds.Array set tags = Unit {0}
Remembers kinds.List set tags = Unit {0}

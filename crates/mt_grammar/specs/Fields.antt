-- Structures and arrays as durable state has them: nothing is missing, nothing stands beside, and fields stand in their order.
use Rattle.std.specs.Prelude.{ℕ, ◌==◌, ◌&&◌, nat_le, Bool, true, false, List, [], ◌∷◌, length, Option, Some, None, option_and_then, if◌then◌else◌}
use Rattle.mt_tlv.specs.Limits.{is_anonymous}
use Rattle.mt_tlv.specs.Scalars.{octets_in, text_in, truth_in}
use Rattle.mt_tlv.specs.Tree.{Tree, uint, null, structure, array, Elements, none, more}
use Rattle.mt_model.specs.tables.Entries.{each_in}
use Rattle.mt_model.specs.Trees.{field_in, is_context}
use Rattle.mt_meta.specs.Forms.{count_in}

-- Structures.

-- whether the members have these numbers as their context tags, in this order
abbrev pub have_tags : List ℕ → Elements → Bool
have_tags [] es = count_in es == 0
have_tags (number ∷ numbers) none = false
have_tags (number ∷ numbers) (more tag v es) = is_context number tag && have_tags numbers es

-- the members of a structure of these fields
abbrev pub fields_in : List ℕ → Tree → Option Elements
fields_in numbers (structure es) = if have_tags numbers es then Some es else None
fields_in numbers tree = None

-- a number of at most this size
abbrev pub number_in : ℕ → Tree → Option ℕ
number_in greatest (uint n) = if nat_le n greatest then Some n else None
number_in greatest tree = None

abbrev pub is_null : Tree → Bool
is_null null = true
is_null tree = false

-- What a field of this number is.

abbrev pub number_at : ℕ → ℕ → Elements → Option ℕ
number_at greatest number es = option_and_then (number_in greatest) (field_in number es)

abbrev pub octets_at : ℕ → Elements → Option (List ℕ)
octets_at number es = option_and_then octets_in (field_in number es)

abbrev pub text_at : ℕ → Elements → Option (List ℕ)
text_at number es = option_and_then text_in (field_in number es)

abbrev pub truth_at : ℕ → Elements → Option Bool
truth_at number es = option_and_then truth_in (field_in number es)

-- Arrays.

-- whether no member has a tag
abbrev pub are_untagged : Elements → Bool
are_untagged none = true
are_untagged (more tag v es) = is_anonymous tag && are_untagged es

-- the members of an array
abbrev pub array_in : Tree → Option Elements
array_in (array es) = if are_untagged es then Some es else None
array_in tree = None

-- what each element of an array is, None where one is none
abbrev pub all_in : {X : Type 0} → (Tree → Option X) → Tree → Option (List X)
all_in of tree = option_and_then (each_in of) (array_in tree)

abbrev pub if_some : {X : Type 0} → Option (List X) → Option (List X)
if_some None = None
if_some (Some xs) = if nat_le 1 (length xs) then Some xs else None

-- the same of an array that is not empty, as each is that has a key
abbrev pub some_in : {X : Type 0} → (Tree → Option X) → Tree → Option (List X)
some_in of tree = if_some (all_in of tree)

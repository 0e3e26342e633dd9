-- What stands in the fields of a command. Their form is asked before; here what is missing or has another form is read as 0, as
-- no bytes, as false, or as what is not given.
use Rattle.std.specs.Prelude.{ℕ, Bool, false, List, [], Option, option_and_then, unwrap_or}
use Rattle.mt_tlv.specs.Scalars.{octets_in, text_in, truth_in, unsigned_in}
use Rattle.mt_tlv.specs.Tree.{Tree}
use Rattle.mt_tlv.specs.View.{tree}
use Rattle.mt_tlv.specs.declared.value.Value.{Value}
use Rattle.mt_model.specs.Trees.{field_in, structure_in}

-- the first field of this number
abbrev pub field_of : ℕ → Value → Option Tree
field_of number fields = option_and_then (field_in number) (structure_in (tree fields))

-- Numbers.

-- a number that may be missing
abbrev pub given_number : ℕ → Value → Option ℕ
given_number number fields = option_and_then unsigned_in (field_of number fields)

abbrev pub number_of : ℕ → Value → ℕ
number_of number fields = unwrap_or (given_number number fields) 0

-- Bytes.

abbrev pub octets_of : ℕ → Value → List ℕ
octets_of number fields = unwrap_or (option_and_then octets_in (field_of number fields)) []

abbrev pub text_of : ℕ → Value → List ℕ
text_of number fields = unwrap_or (option_and_then text_in (field_of number fields)) []

-- Truth values.

abbrev pub flag_of : ℕ → Value → Bool
flag_of number fields = unwrap_or (option_and_then truth_in (field_of number fields)) false

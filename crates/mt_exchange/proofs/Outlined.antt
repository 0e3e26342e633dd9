-- The outlines of fields tell the numbers and truth values among them.
use Rattle.std.proofs.Common.{◌≡◌, ℕ, Bool, true, false, List, Option, Some, None, Result, Ok, Err, refl, sym, ap, ◌∙◌, if◌then◌else◌}
use Rattle.mt_tlv.specs.declared.value.Tag.{Tag}
use Rattle.mt_tlv.specs.declared.fault.TlvFault.{TlvFault}
use Rattle.mt_tlv.specs.Tree.{Tree, int, uint, bool, text, octets, null, bits32, bits64, structure, array, list, Elements, none, more}
use Rattle.mt_tlv.specs.Outline.{emptied, fields_of, outlines, outlines_of}
use Rattle.mt_im.specs.Blocks.{number_in}
use Rattle.mt_model.specs.Trees.{field_in, is_context, structure_in}
use Rattle.mt_exchange.specs.Payloads.{is_true_field, members_in, members_of, number_of_field}

number_is : (v : Tree) → number_in 32 (emptied v) ≡ number_in 32 v
number_is (int z) = refl
number_is (uint n) = refl
number_is (bool b) = refl
number_is (text s) = refl
number_is (octets s) = refl
number_is null = refl
number_is (bits32 n) = refl
number_is (bits64 n) = refl
number_is (structure es) = refl
number_is (array es) = refl
number_is (list es) = refl

truth_is : (v : Tree) → is_true_field (Some (emptied v)) ≡ is_true_field (Some v)
truth_is (int z) = refl
truth_is (uint n) = refl
truth_is (bool b) = refl
truth_is (text s) = refl
truth_is (octets s) = refl
truth_is null = refl
truth_is (bits32 n) = refl
truth_is (bits64 n) = refl
truth_is (structure es) = refl
truth_is (array es) = refl
truth_is (list es) = refl

number_here : (here : Bool) (v : Tree) (seen there : Option Tree) → number_of_field seen ≡ number_of_field there → number_of_field (if here then Some (emptied v) else seen) ≡ number_of_field (if here then Some v else there)
number_here true v seen there e = number_is v
number_here false v seen there e = e

truth_here : (here : Bool) (v : Tree) (seen there : Option Tree) → is_true_field seen ≡ is_true_field there → is_true_field (if here then Some (emptied v) else seen) ≡ is_true_field (if here then Some v else there)
truth_here true v seen there e = truth_is v
truth_here false v seen there e = e

-- the number under a tag
pub number_stands : (n : ℕ) (es : Elements) → number_of_field (field_in n (outlines es)) ≡ number_of_field (field_in n es)
number_stands n none = refl
number_stands n (more tag v es) = number_here (is_context n tag) v (field_in n (outlines es)) (field_in n es) (number_stands n es)

-- the truth value under a tag
pub truth_stands : (n : ℕ) (es : Elements) → is_true_field (field_in n (outlines es)) ≡ is_true_field (field_in n es)
truth_stands n none = refl
truth_stands n (more tag v es) = truth_here (is_context n tag) v (field_in n (outlines es)) (field_in n es) (truth_stands n es)

fields_are : (v : Tree) → fields_of v ≡ members_in (structure_in v)
fields_are (int z) = refl
fields_are (uint n) = refl
fields_are (bool b) = refl
fields_are (text s) = refl
fields_are (octets s) = refl
fields_are null = refl
fields_are (bits32 n) = refl
fields_are (bits64 n) = refl
fields_are (structure es) = refl
fields_are (array es) = refl
fields_are (list es) = refl

-- what is answered are the outlines of the fields
pub outlines_told : (r : Result ((Tag × Tree) × List ℕ) TlvFault) (es : Elements) → outlines_of r ≡ Ok es → es ≡ outlines (members_of r)
outlines_told (Ok x) es e = let same : outlines (fields_of x.0.1) ≡ es = cc in sym same ∙ ap outlines (fields_are x.0.1)
outlines_told (Err d) es e = absurd cc

-- a fault is that of no fields
pub outlines_lack : (r : Result ((Tag × Tree) × List ℕ) TlvFault) (d : TlvFault) → outlines_of r ≡ Err d → none ≡ outlines (members_of r)
outlines_lack (Ok x) d e = absurd cc
outlines_lack (Err b) d e = refl

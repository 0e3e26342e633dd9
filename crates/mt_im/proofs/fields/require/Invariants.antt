-- whether a field is missing is decided from here on
use Rattle.std.proofs.Common.{◌≡◌, drop}
use Rattle.mt_tlv.specs.View.{elements}
use Rattle.mt_im.specs.Reading.{require}
use Rattle.mt_im.proofs.fields.require.Given as goal

abbrev pub invariant-loop-number : goal.invariant-loop-number
invariant-loop-number l = require (drop l.number-index l.numbers) (elements l.members) ≡ require l.numbers (elements l.members)

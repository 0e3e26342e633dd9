-- What a function that is passed in reads.
use Rattle.std.specs.Prelude.{◌≡◌, IfOk, Option, Result}
use Rattle.mt_tlv.specs.Tree.{Tree}
use Rattle.mt_tlv.specs.View.{tree}
use Rattle.mt_tlv.specs.declared.value.Value.{Value}
use denote.Ref.{Bor}

-- what is answered of a value, unless it is a failure, is what item is of its tree
abbrev pub Reads : {X : Type 0} {E : Type 0} → (Bor Value → Result (Option X) E → Type 0) → (Tree → Option X) → Type 0
Reads answers item = (value : _) (result : _) → answers value result → IfOk result (λ read. read ≡ item (tree value.now))

-- What is one of two, and what no refusal says.
use Rattle.std.proofs.Common.{◌≡◌, Bool, true, false, not, Option, Some, None, is_none, is_some, cond, refl, ap, if◌then◌else◌}
use Rattle.std.proofs.lemmas.Bool.{true≢false}
use Rattle.mt_model.specs.declared.node.action.Effect.{Effect}

-- whichever of two it is
pub either : (P : Effect → Type 0) (test : Bool) (effect other : Effect) → (test ≡ true → P effect) → (test ≡ false → P other) → P (if test then effect else other)
either P true effect other first second = first refl
either P false effect other first second = second refl

pub not_true : (test : Bool) → not test ≡ false → test ≡ true
not_true true e = refl
not_true false e = absurd (true≢false e)

-- the first fault of a chain does not apply, and the rest has none
pub not_first : {X : Type 0} (test : Bool) (fault : X) (rest : Option X) → cond test (Some fault) rest ≡ None → (test ≡ false) × (rest ≡ None)
not_first true fault rest e = absurd (true≢false (ap is_some e))
not_first false fault rest e = (refl, e)

pub none_there : {X : Type 0} (o : Option X) → is_some o ≡ false → is_none o ≡ true
none_there None e = refl
none_there (Some x) e = absurd (true≢false e)

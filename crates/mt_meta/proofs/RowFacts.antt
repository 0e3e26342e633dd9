-- What is looked for in one list after the other is looked for in all of them.
use Rattle.std.proofs.Common.{◌≡◌, ◌++◌, Bool, List, Option, Some, None, sym, ◌∙◌, ap}
use Rattle.std.specs.List.{find}
use Rattle.std.specs.Option.{option_or}
use Rattle.std.proofs.lemmas.List.Folds.{find-append}

pub found-first : {X : Type 0} (p : X → Bool) (xs ys : List X) (x : X) → Some x ≡ find p xs → Some x ≡ find p (xs ++ ys)
found-first p xs ys x found = ap (λ o. option_or o (find p ys)) found ∙ sym (find-append p xs ys)

pub found-later : {X : Type 0} (p : X → Bool) (xs ys : List X) (o : Option X) → None ≡ find p xs → o ≡ find p ys → o ≡ find p (xs ++ ys)
found-later p xs ys o none later = later ∙ ap (λ first. option_or first (find p ys)) none ∙ sym (find-append p xs ys)

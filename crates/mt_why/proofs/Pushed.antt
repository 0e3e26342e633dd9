-- What is so of all items of a list is so with one more that it is so of.
use Rattle.std.proofs.Common.{All, List, [], ◌∷◌, ◌++◌}
use Rattle.std.proofs.lemmas.List.Elements.{All-push}

pub all_pushed : {X : Type 0} (P : X → Type 0) → (xs : List X) (x : X) → All P xs → P x → All P (xs ++ x ∷ [])
all_pushed P xs x all here = All-push P xs x all here

-- What is left where a fabric leaves the node: what is its own goes, and what is of others or of nobody stays.
use Rattle.std.specs.Prelude.{ℕ, not, Bool, Option}
use Rattle.mt_model.specs.Optional.{is_that}

-- whether what is of a fabric stays where this one leaves, if one does
abbrev pub stays : Option ℕ → ℕ → Bool
stays gone fabric = not (is_that fabric gone)

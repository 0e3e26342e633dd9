use Rattle.std.proofs.Common.{List, [], sym, subst}
use Rattle.std.proofs.lemmas.List.Elements.{All-nil}
use Rattle.mt_shared.specs.Book.{AreFormed}
use Rattle.mt_shared.specs.declared.entry.Entry.{Entry}
use Rattle.mt_shared.proofs.held.Held.new.Goals as goal

pub invariant_of-result-clause-formed : goal.invariant_of-result-clause-formed
invariant_of-result-clause-formed g c = ∣ subst AreFormed (sym c.new.ensures.items) (All-nil _) ∣₁

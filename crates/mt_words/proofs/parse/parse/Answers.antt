use Rattle.std.proofs.lemmas.Bool.{and_parts}
use Rattle.mt_words.proofs.parse.parse.Goals as goal

pub returns-in-Ok-clause-found : goal.returns-in-Ok-clause-found
returns-in-Ok-clause-found c = (c.in-Ok.ensures.matches (and_parts _ _ c.requires).0).0

-- How writings follow each other.
use Rattle.std.specs.Prelude.{ℕ, List, [], ◌++◌, Option}
use Rattle.mt_outside.specs.Stream.{Took, TookLess}

pub record StreamLaws : Type 0 where
  -- nothing was written
  pub nothing : (a : Option (List ℕ)) → Took a a []
  -- one text and then another
  pub then : (a b c : Option (List ℕ)) (x y : List ℕ) → Took a b x → Took b c y → Took a c (x ++ y)
  -- less than a text is less than a longer one
  pub less_of_more : (a b : Option (List ℕ)) (x y : List ℕ) → TookLess a b x → TookLess a b (x ++ y)
  -- a text and then less than another
  pub then_less : (a b c : Option (List ℕ)) (x y : List ℕ) → Took a b x → TookLess b c y → TookLess a c (x ++ y)

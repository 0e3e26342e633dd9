-- Rows that are told to be the same, by the law of the model.
use Rattle.std.proofs.Common.{◌≡◌, ◌↔◌, false, true, List, IsTrue}
use Rattle.std.proofs.lemmas.Bool.{both_ways, false_from_ne_true}
use Rattle.mt_model.specs.rows.Same.{are_same_rows}
use Rattle.mt_model.specs.declared.rows.place.Row.{Row}

abbrev pub ToldSame : Type 0
ToldSame = (rows others : List Row) → IsTrue (are_same_rows rows others) ↔ (rows ≡ others)

module _ (told : ToldSame) (rows others : List Row) where
  pub rows_same : are_same_rows rows others ≡ true → rows ≡ others
  rows_same = (told rows others).0

  pub same_rows : rows ≡ others → are_same_rows rows others ≡ true
  same_rows = (told rows others).1

  pub rows_differ : (rows ≡ others → ⊥) → are_same_rows rows others ≡ false
  rows_differ apart = false_from_ne_true _ (λ e. apart (rows_same e))

  pub differ_rows : are_same_rows rows others ≡ false → rows ≡ others → ⊥
  differ_rows e same = both_ways _ e (same_rows same)

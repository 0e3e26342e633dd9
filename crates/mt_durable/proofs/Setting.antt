-- Where an entry is placed.
use Rattle.std.proofs.Common.{◌≡◌, ◌≤◌, ⊎_elim, ℕ, Bool, true, false, List, [], ◌∷◌, ◌++◌, length, take, drop, refl, sym, ap, ◌∙◌, arith}
use Rattle.std.specs.Prelude.{if◌then◌else◌}
use Rattle.std.proofs.lemmas.List.{drop_at, length-take, take_at}
use Rattle.mt_durable.specs.Maps.{has_value}
use Rattle.std.proofs.lemmas.Bool.{cases_Bool}
use Rattle.mt_durable.specs.Keys.{is_before}
use Rattle.mt_durable.specs.Setting.{count_before, placed, with_entry, without}
use Rattle.mt_durable.specs.declared.durable.Entry.{Entry}

pub set_at : (entry : Entry) (map : List Entry) → with_entry entry map ≡ take (count_before entry.key map) map ++ placed entry (drop (count_before entry.key map) map)
set_at entry [] = refl
set_at entry (one ∷ rest) = ⊎_elim
    (λ (is : is_before one.key entry.key ≡ true). rw is (ap (λ (l : List Entry). one ∷ l) (set_at entry rest)))
    (λ (is : is_before one.key entry.key ≡ false). rw is refl)
    (cases_Bool (is_before one.key entry.key))

module _ (entry : Entry) (old items : List Entry) (at : ℕ) (at_is : at ≡ count_before entry.key old) (within : at ≤ length old) (is : items ≡ take at old ++ without entry.key (drop at old)) where
  whole : take at old ++ placed entry (drop at old) ≡ with_entry entry old
  whole = ap (λ (n : ℕ). take n old ++ placed entry (drop n old)) at_is ∙ sym (set_at entry old)

  size : length (take at old) ≡ at
  size = omega (arith, length-take at old, within)

  pub inserted : has_value entry.value ≡ true → take at items ++ entry ∷ drop at items ≡ with_entry entry old
  inserted has =
      ap (λ (l : List Entry). take at l ++ entry ∷ drop at l) is
      ∙ ap (λ (l : List Entry). l ++ entry ∷ drop at (take at old ++ without entry.key (drop at old))) (take_at (take at old) (without entry.key (drop at old)) at size)
      ∙ ap (λ (l : List Entry). take at old ++ entry ∷ l) (drop_at (take at old) (without entry.key (drop at old)) at size)
      ∙ ap (λ (b : Bool). take at old ++ (if b then entry ∷ without entry.key (drop at old) else without entry.key (drop at old))) (sym has)
      ∙ whole

  pub left_out : has_value entry.value ≡ false → items ≡ with_entry entry old
  left_out has = is ∙ ap (λ (b : Bool). take at old ++ (if b then entry ∷ without entry.key (drop at old) else without entry.key (drop at old))) (sym has) ∙ whole

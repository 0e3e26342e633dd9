-- What is remembered of talks that are begun, row by row.
use Rattle.std.proofs.Common.{◌≡◌, ℕ, ◌+◌, ◌<◌, ◌≤◌, ◌==◌, Bool, true, false, List, [], ◌∷◌, ◌++◌, length, drop, get_or, refl, sym, ap, ◌∙◌, append_assoc, append-nil, filter, map}
use Rattle.std.proofs.lemmas.List.{drop_all, drop_more, map-append}
use Rattle.mt_model.specs.declared.texts.config.SessionRow.{SessionRow}
use Rattle.mt_runs.specs.Whole.{SessionTalk, begun, begun_in, is_of_boot}
use Rattle.mt_marks.specs.Remembered.{ToldTalk, remembered}
use Rattle.mt_marks.specs.Told.{talk_in, talks_in}
use Rattle.mt_marks.specs.declared.told.Told.{Told}

dropped : (rows : List SessionRow) (i : ℕ) (row : SessionRow) → i < length rows → row ≡ get_or rows i row → drop i rows ≡ row ∷ drop (i + 1) rows
dropped rows i row lt is = drop_more rows i row lt ∙ ap (λ r. r ∷ drop (i + 1) rows) (sym is)

begun_first : (boot : ℕ) (row : SessionRow) (rows : List SessionRow) → is_of_boot boot row ≡ true → begun_in boot (row ∷ rows) ≡ begun row ∷ begun_in boot rows
begun_first boot row rows first = rw first refl

begun_other : (boot : ℕ) (row : SessionRow) (rows : List SessionRow) → is_of_boot boot row ≡ false → begun_in boot (row ∷ rows) ≡ begun_in boot rows
begun_other boot row rows other = rw other refl

-- one more row is of this boot, and its talk is begun; or it is of another
pub one_more_begun : (boot : ℕ) (rows : List SessionRow) (i : ℕ) (row : SessionRow) (talks : List Told) (new : Told) → i < length rows → row ≡ get_or rows i row → is_of_boot boot row ≡ true → talk_in new ≡ remembered (begun row)
    → talks_in talks ++ map remembered (begun_in boot (drop i rows)) ≡ map remembered (begun_in boot rows) → talks_in (talks ++ new ∷ []) ++ map remembered (begun_in boot (drop (i + 1) rows)) ≡ map remembered (begun_in boot rows)
one_more_begun boot rows i row talks new lt is first at so_far =
    let more = map remembered (begun_in boot (drop (i + 1) rows)) in
    ap (λ (l : List ToldTalk). l ++ more) (map-append talk_in talks (new ∷ []))
    ∙ append_assoc (talks_in talks) (talk_in new ∷ []) more
    ∙ ap (λ (t : ToldTalk). talks_in talks ++ (t ∷ more)) at
    ∙ ap (λ (l : List SessionTalk). talks_in talks ++ map remembered l) (sym (ap (begun_in boot) (dropped rows i row lt is) ∙ begun_first boot row (drop (i + 1) rows) first))
    ∙ so_far

pub none_begun : (boot : ℕ) (rows : List SessionRow) (i : ℕ) (row : SessionRow) (talks : List Told) → i < length rows → row ≡ get_or rows i row → is_of_boot boot row ≡ false
    → talks_in talks ++ map remembered (begun_in boot (drop i rows)) ≡ map remembered (begun_in boot rows) → talks_in talks ++ map remembered (begun_in boot (drop (i + 1) rows)) ≡ map remembered (begun_in boot rows)
none_begun boot rows i row talks lt is other so_far =
    ap (λ (l : List SessionTalk). talks_in talks ++ map remembered l) (sym (ap (begun_in boot) (dropped rows i row lt is) ∙ begun_other boot row (drop (i + 1) rows) other)) ∙ so_far

pub no_more_begun : (boot : ℕ) (rows : List SessionRow) (i : ℕ) (talks : List Told) → length rows ≤ i → talks_in talks ++ map remembered (begun_in boot (drop i rows)) ≡ map remembered (begun_in boot rows) → talks_in talks ≡ map remembered (begun_in boot rows)
no_more_begun boot rows i talks le so_far =
    sym (append-nil (talks_in talks)) ∙ ap (λ (l : List SessionRow). talks_in talks ++ map remembered (begun_in boot l)) (sym (drop_all i rows le)) ∙ so_far

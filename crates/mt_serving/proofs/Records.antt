-- The lines of a book, entry by entry.
use Rattle.std.proofs.Common.{◌≡◌, ◌∙◌, refl, sym, ap, subst, ℕ, ◌+◌, ◌<◌, ◌≤◌, List, [], ◌∷◌, ◌++◌, length, drop, get_or, Option, Some, None, Result, Ok, Err, append_assoc}
use Rattle.std.proofs.lemmas.List.{append-nil, drop_all, drop_more}
use Rattle.mt_files.specs.Event.{at_time, event_line}
use Rattle.mt_files.specs.Lines.{ended}
use Rattle.mt_model.specs.declared.texts.recording.Event.{Event}
use Rattle.mt_outside.specs.Laws.{StreamLaws}
use Rattle.mt_outside.specs.Stream.{Took, TookLess, one_more}
use Rattle.mt_starting.specs.mt_shared.Book.{lines_in, onto_lines}
use Rattle.mt_starting.specs.mt_shared.Entry.{Entry}
use Rattle.mt_starting.specs.mt_shared.Stop.{Stop}
use Rattle.mt_serving.specs.Record.{TookFront, Writes, event_lines}
use Rattle.mt_serving.specs.declared.recording.RecordFault.{RecordFault}
use Rattle.mt_serving.specs.declared.recording.RecordFault.TheVariants.{Memory, Write}

-- the lines of a book
abbrev pub book_lines : List Entry → List ℕ
book_lines book = event_lines (lines_in book)

one_entry : (stop : Option Stop) (event : Event) (events : List Event) → event_lines (onto_lines stop event events) ≡ event_lines (onto_lines stop event []) ++ event_lines events
one_entry None event events = ap (λ (w : List ℕ). w ++ event_lines events) (sym (append-nil (ended (event_line event))))
one_entry (Some stop) event events = refl

-- an entry, and those behind it
pub book_lines-more : (entry : Entry) (book : List Entry) → book_lines (entry ∷ book) ≡ book_lines (entry ∷ []) ++ book_lines book
book_lines-more entry book = one_entry entry.stop (at_time entry.ms entry.call.event) (lines_in book)

-- the entry at this place, and those behind it
pub book_lines-at : (book : List Entry) (i : ℕ) (entry : Entry) → i < length book → entry ≡ get_or book i entry → book_lines (drop i book) ≡ book_lines (entry ∷ []) ++ book_lines (drop (i + 1) book)
book_lines-at book i entry lt is =
    ap book_lines (drop_more book i entry lt ∙ ap (λ (e : Entry). e ∷ drop (i + 1) book) (sym is))
    ∙ book_lines-more entry (drop (i + 1) book)

-- What was written so far of the lines of a book.
pub record SoFar (whole rest : List ℕ) (before now : Option (List ℕ)) : Type 0 where
  pub told : List ℕ
  pub is : told ++ rest ≡ whole
  pub took : Took before now told

pub so_far-more : StreamLaws → (whole line rest next : List ℕ) (a b c : Option (List ℕ)) → SoFar whole rest a b → rest ≡ line ++ next → Took b c line → SoFar whole next a c
so_far-more laws whole line rest next a b c so is took = record {
  told = so.told ++ line;
  is = append_assoc so.told line next ∙ ap (λ (w : List ℕ). so.told ++ w) (sym is) ∙ so.is;
  took = laws.then a b c so.told line so.took took;
}

pub so_far-less : StreamLaws → (whole line rest next : List ℕ) (a b c : Option (List ℕ)) → SoFar whole rest a b → rest ≡ line ++ next → TookLess b c line → TookLess a c whole
so_far-less laws whole line rest next a b c so is less =
    subst (TookLess a c) (ap (λ (w : List ℕ). so.told ++ w) (sym is) ∙ so.is) (laws.then_less a b c so.told (line ++ next) so.took (laws.less_of_more b c line next less))

pub so_far-front : (whole rest : List ℕ) (a b : Option (List ℕ)) → SoFar whole rest a b → TookFront a b whole
so_far-front whole rest a b so = (so.told, rest, so.is, so.took)

pub so_far-all : (book : List Entry) (i : ℕ) (whole : List ℕ) (a b : Option (List ℕ)) → length book ≤ i → SoFar whole (book_lines (drop i book)) a b → Took a b whole
so_far-all book i whole a b le so =
    subst (Took a b) (sym (append-nil so.told) ∙ ap (λ (w : List ℕ). so.told ++ w) (sym (ap book_lines (drop_all i book le))) ∙ so.is) so.took

-- a front behind a head
front-behind : StreamLaws → (head text : List ℕ) (a b c : Option (List ℕ)) → Took a b head → TookFront b c text → TookFront a c (head ++ text)
front-behind laws head text a b c took f =
    (head ++ f.0, f.1, append_assoc head f.0 f.1 ∙ ap (λ (w : List ℕ). head ++ w) f.2, laws.then a b c head f.0 took f.3)

writes-fault : (T : Type 0) → StreamLaws → (head text : List ℕ) (a b c : Option (List ℕ)) (old mid new : ℕ) → Took a b head → mid ≡ old → (fault : RecordFault) → Writes {T = T} (Err fault) text b c mid new → Writes {T = T} (Err fault) (head ++ text) a c old new
writes-fault T laws head text a b c old mid new took calm = elim [
  | Write ↦ λ w. (laws.then_less a b c head text took w.0, w.1 ∙ ap one_more calm)
  | Memory ↦ λ w. (front-behind laws head text a b c took w.0, w.1 ∙ calm)
]

-- what is written behind a head
pub writes-behind : {T : Type 0} → StreamLaws → (head text : List ℕ) (a b c : Option (List ℕ)) (old mid new : ℕ) → Took a b head → mid ≡ old → (result : Result T RecordFault) → Writes result text b c mid new → Writes result (head ++ text) a c old new
writes-behind {T} laws head text a b c old mid new took calm = elim [
  | Ok x ↦ λ w. (laws.then a b c head text took w.0, w.1 ∙ calm)
  | Err fault ↦ writes-fault T laws head text a b c old mid new took calm fault
]

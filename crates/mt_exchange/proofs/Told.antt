-- What is told behind one thing more that is shown.
use Rattle.std.proofs.Common.{◌≡◌, Bool, true, false, List, [], ◌∷◌, ◌++◌, fold, refl, ap, sym, ◌∙◌, append-nil, append_assoc}
use Rattle.mt_model.specs.declared.texts.config.SessionRow.{SessionRow}
use Rattle.mt_session.specs.Sessions.{Message}
use Rattle.mt_exchange.specs.Retold.{IsRetold, retell, retell_sent, retold_so_far}
use Rattle.mt_exchange.specs.Runs.{Run, begun}
use Rattle.mt_exchange.specs.Shown.{Shown, again, closed, heard, messages_in, sent, told}

fold_behind : (row : SessionRow) (r : Run) (items : List Shown) (item : Shown) → fold (retell row) r (items ++ item ∷ []) ≡ retell row (fold (retell row) r items) item
fold_behind row r [] item = refl
fold_behind row r (i ∷ items) item = fold_behind row (retell row r i) items item

pub so_far_behind : (row : SessionRow) (items : List Shown) (item : Shown) → retold_so_far row (items ++ item ∷ []) ≡ retell row (retold_so_far row items) item
so_far_behind row items item = fold_behind row begun items item

-- the messages that are told are those that are shown

fold_messages : (row : SessionRow) (r : Run) (items : List Shown) → (fold (retell row) r items).messages ≡ r.messages ++ messages_in items
fold_messages row r [] = sym (append-nil r.messages)
fold_messages row r (heard true a ∷ items) = fold_messages row (retell row r (heard true a)) items
fold_messages row r (heard false a ∷ items) = fold_messages row (retell row r (heard false a)) items
fold_messages row r (sent out now ∷ items) =
    fold_messages row (retell row r (sent out now)) items
    ∙ ap (λ (l : List Message). l ++ messages_in items) (one_more out.message.header.reliable)
    ∙ append_assoc r.messages (out.message ∷ []) (messages_in items)
  where
    one_more : (reliable : Bool) → (retell_sent reliable row out now r).messages ≡ r.messages ++ out.message ∷ []
    one_more true = refl
    one_more false = refl
fold_messages row r (told subscription out now ∷ items) =
    fold_messages row (retell row r (told subscription out now)) items ∙ append_assoc r.messages (out.message ∷ []) (messages_in items)
fold_messages row r (again now ∷ items) = fold_messages row (retell row r (again now)) items
fold_messages row r (closed ∷ items) = fold_messages row (retell row r closed) items

pub messages_told : (row : SessionRow) (items : List Shown) → (retold_so_far row items).messages ≡ messages_in items
messages_told row items = fold_messages row begun items

pub sealed_told : (row : SessionRow) (r : Run) (items : List Shown) → IsRetold row r items → r.messages ≡ (retold_so_far row items).messages
sealed_told row r items is = is.messages ∙ sym (messages_told row items)

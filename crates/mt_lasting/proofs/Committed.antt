-- What is committed of a change: nothing where it says nothing, and else its bytes.
use Rattle.std.proofs.Common.{◌≡◌, refl, ap, ℕ, List, [], ◌∷◌}
use Rattle.mt_durable.specs.Changes.{change_bytes}
use Rattle.mt_durable.specs.Reading.{Says}
use Rattle.mt_durable.specs.declared.durable.Entry.{Entry}
use Rattle.mt_lasting.specs.Changes.{bytes_to_commit, change_between}
use Rattle.mt_lasting.specs.Laws.{ChangesAreSaid, CommittedBytesSayIt, EmptyWhereEqual, NothingToCommit}

not_empty : (byte : ℕ) (bytes : List ℕ) → byte ∷ bytes ≡ [] → ⊥
not_empty byte bytes e = cc

no_bytes : (change : List Entry) → bytes_to_commit change ≡ [] → change ≡ []
no_bytes [] none = refl
no_bytes (entry ∷ entries) none = absurd (not_empty _ _ none)

said_committed : (change : List Entry) → (change ≡ [] → ⊥) → Says change (change_bytes change) → Says change (bytes_to_commit change)
said_committed [] some said = absurd (some refl)
said_committed (entry ∷ entries) some said = said

pub nothing_committed : EmptyWhereEqual → NothingToCommit
nothing_committed empty s t ceiling next = (
  λ none. (empty s t ceiling next).0 (no_bytes (change_between s ceiling t next) none),
  λ same. ap bytes_to_commit ((empty s t ceiling next).1 same),
)

pub committed_say : EmptyWhereEqual → ChangesAreSaid → CommittedBytesSayIt
committed_say empty said s t ceiling next valid few differ =
    said_committed (change_between s ceiling t next) (λ none. differ ((empty s t ceiling next).0 none)) (said s t ceiling next valid few)

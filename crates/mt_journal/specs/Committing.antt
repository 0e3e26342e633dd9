-- What a commit writes, and why a crash at any moment leaves what was there before it or after it.
use Rattle.std.specs.Prelude.{◌≡◌, ◌⊎◌, ℕ, Bool, true, false, List, [], ◌∷◌, ◌++◌, length, Ok}
use Rattle.mt_outside.specs.Disk.{CutShort, overwritten}
use Rattle.mt_outside.specs.MemoryDisk.{DiskEvent}
use Rattle.mt_outside.specs.MemoryDisk.DiskEvent.{wrote, synced}
use Rattle.mt_journal.specs.Layout.{MayFollow, journal_at}
use Rattle.mt_journal.specs.Standing.{HasEither, Stands, fits_at, length_field}
use Rattle.mt_journal.specs.declared.position.Position.{Position}
use Rattle.mt_journal.specs.declared.position.Position.TheVariants.{Fresh, Begun, Log, InUse}
use Rattle.mt_journal.specs.declared.planning.Kind.{Kind}
use Rattle.mt_journal.specs.declared.planning.Kind.TheVariants.{Change, Image}
use Rattle.mt_journal.specs.declared.planning.Front.{Front}
use Rattle.mt_journal.specs.declared.planning.Front.TheVariants.{Nothing, Selectors, Move}
use Rattle.mt_journal.specs.declared.planning.Step.{Step}

-- the list with a piece: a change comes behind all others, an image stands for all of them
abbrev pub list_with : Kind → List ℕ → List (List ℕ) → List (List ℕ)
list_with Change piece list = list ++ piece ∷ []
list_with Image piece list = piece ∷ []

-- the piece is of the form that its kind asks for, behind this list
abbrev pub has_form : (List ℕ → Bool) → MayFollow → Kind → List (List ℕ) → List ℕ → Bool
has_form is_image may_follow Change list piece = may_follow list piece
has_form is_image may_follow Image list piece = is_image piece

-- an image always finds room
abbrev pub has_room : Kind → Position → ℕ → Bool
has_room Change place count = fits_at place count
has_room Image place count = true

-- a file has its mark and a begin gate
abbrev pub has_begun : Position → Bool
has_begun Fresh = false
has_begun Begun = true
has_begun (Log gate) = true
has_begun (InUse base p0 p1 gate) = true

-- what stands between a gate and a length
abbrev pub front_bytes : Front → List ℕ
front_bytes Nothing = []
front_bytes Selectors = 0 ∷ 0 ∷ []
front_bytes Move = 0xff ∷ 0xff ∷ 0xff ∷ 0xff ∷ 0 ∷ 0 ∷ []

-- what is written of a piece at once: what stands in front of its length, the length, the piece, and a closed gate
abbrev pub laid_out : Front → List ℕ → List ℕ
laid_out front piece = front_bytes front ++ length_field (length piece) ++ piece ++ 0 ∷ []

-- the file after a step: the piece is written, and then one byte
abbrev pub piece_written : Step → List ℕ → List ℕ → List ℕ
piece_written step piece file = overwritten step.at (laid_out step.front piece) file

abbrev pub written_by : Step → List ℕ → List ℕ → List ℕ
written_by step piece file = overwritten step.last_at (step.last ∷ []) (piece_written step piece file)

-- the writes and syncs of a step
abbrev pub calls_of : Step → List ℕ → List DiskEvent
calls_of step piece = wrote step.at (laid_out step.front piece) ∷ synced ∷ wrote step.last_at (step.last ∷ []) ∷ synced ∷ []

-- what a crash may leave meanwhile: the first write is cut short, or the second
abbrev pub CutIn : Step → List ℕ → List ℕ → List ℕ → Type 0
CutIn step piece file image = CutShort step.at (length (laid_out step.front piece)) file image ⊎ CutShort step.last_at 1 (piece_written step piece file) image

-- Bytes are written at a place and, once they are safe, one byte, which makes them count. A crash leaves the one list while they are written, and the one or the other later; in the end the file has the other, and this place stands for it.
pub record Commits (is_image : List ℕ → Bool) (may_follow : MayFollow) (list other : List (List ℕ)) (at : ℕ) (bytes : List ℕ) (last_at last : ℕ) (next : Position) (file : List ℕ) : Type 0 where
  pub first : (image : List ℕ) → CutShort at (length bytes) file image → journal_at is_image may_follow image ≡ Ok list
  pub second : (image : List ℕ) → CutShort last_at 1 (overwritten at bytes file) image → HasEither is_image may_follow list other image
  -- where the last byte is torn the file still has the one list
  pub torn : journal_at is_image may_follow (overwritten last_at (0xa5 ∷ []) (overwritten at bytes file)) ≡ Ok list
  pub stands : Stands is_image may_follow next other (overwritten last_at (last ∷ []) (overwritten at bytes file))
  pub has : journal_at is_image may_follow (overwritten last_at (last ∷ []) (overwritten at bytes file)) ≡ Ok other

-- the same of a step, with this piece
abbrev pub StepCommits : (List ℕ → Bool) → MayFollow → Kind → List ℕ → List (List ℕ) → Step → List ℕ → Type 0
StepCommits is_image may_follow kind piece list step file = Commits is_image may_follow list (list_with kind piece list) step.at (laid_out step.front piece) step.last_at step.last step.next file

-- What is recovered of a file whose journal leads to a map.
use Rattle.std.proofs.Common.{◌≡◌, ℕ, List, ⊎_elim, inl, inr, ap, subst, sym, ◌∙◌}
use Rattle.std.specs.Prelude.{Option, Some, Result, Ok, Err, OnErr, OnOk}
use Rattle.std.specs.Option.{option_and_then}
use Rattle.mt_durable.specs.declared.durable.Entry.{Entry}
use Rattle.mt_journal.specs.Recovering.{HasPlace}
use Rattle.mt_journal.specs.declared.position.Position.{Position}
use Rattle.mt_journal.specs.declared.reading.JournalFault.{JournalFault}
use Rattle.mt_journal.specs.declared.reading.JournalFault.TheVariants.{Disk, NotAJournal, Memory}
use Rattle.mt_model.specs.texts.Contents.{Contents}
use Rattle.mt_outside.specs.Disk.{LeavesOnly}
use Rattle.mt_regained.specs.Reopened.{reopened_map}
use Rattle.mt_store.specs.Leading.{Holds, HoldsEither}
use Rattle.mt_keeping.specs.Recovered.{KeepsMap, RecoversEither, RecoversFrom, is_state_image, may_follow, recovered, reopened_if, states_at}

-- a journal that leads to a map is recovered to what a node goes on with behind it
pub recovers : (contents : Contents) (map : List Entry) (file : List ℕ) → Holds is_state_image may_follow map file → RecoversFrom contents map file
recovers contents map file holds =
    ap (reopened_if contents) holds.has
    ∙ ap (λ (found : Option (List Entry)). Ok (option_and_then (reopened_map contents) found)) holds.leads

pub recovers_map : (contents : Contents) (map found : List Entry) (file : List ℕ) → Holds is_state_image may_follow map file → reopened_map contents map ≡ Some found → recovered contents file ≡ Ok (Some found)
recovers_map contents map found file holds is = recovers contents map file holds ∙ ap Ok is

-- a file that is no journal from a place on is not recovered, and that place is told
pub no_journal : (contents : Contents) (file : List ℕ) (at : ℕ) → states_at file ≡ Err at → recovered contents file ≡ Err at
no_journal contents file at is = ap (reopened_if contents) is

pub place_told : (contents : Contents) (file : List ℕ) (fault : JournalFault) → HasPlace fault (λ at. states_at file ≡ Err at) → HasPlace fault (λ at. recovered contents file ≡ Err at)
place_told contents file Disk has = has
place_told contents file (NotAJournal at) has = no_journal contents file at has
place_told contents file Memory has = has

pub either_recovers : (contents : Contents) (one other : List Entry) (file : List ℕ) → HoldsEither is_state_image may_follow one other file → RecoversEither contents one other file
either_recovers contents one other file has = ⊎_elim
    (λ (holds : Holds is_state_image may_follow one file). inl (recovers contents one file holds))
    (λ (holds : Holds is_state_image may_follow other file). inr (recovers contents other file holds))
    has

-- what a crash leaves has what follows of it
pub leaves_then : {D : Type 0} (moment : D → ℕ) (images_since : D → ℕ → List ℕ → Type 0) (old new : D) (P Q : List ℕ → Type 0) → ((image : List ℕ) → P image → Q image)
    → LeavesOnly moment images_since old new P → LeavesOnly moment images_since old new Q
leaves_then moment images_since old new P Q then leaves = record {
  later = leaves.later;
  each = λ image left. then image (leaves.each image left);
  before = λ from image earlier left. ⊎_elim (λ (b : images_since old from image). inl b) (λ (p : P image). inr (then image p)) (leaves.before from image earlier left);
}

-- of all that a crash leaves of a journal in use the same is recovered
pub safe_recovers : {D : Type 0} (contents : Contents) (told : D → Option (List ℕ)) (images : D → List ℕ → Type 0) (disk : D) (place : Position) (map : List Entry) → KeepsMap told images disk place map
    → (file : List ℕ) → images disk file → RecoversFrom contents map file
safe_recovers contents told images disk place map keeps file left =
    subst (RecoversFrom contents map) (sym (keeps.stands.safe file left))
    (recovers contents map keeps.stands.file (record { list = keeps.list; has = keeps.stands.has; leads = keeps.leads }))

pub on_ok : {T E : Type 0} (result : Result T E) (P Q : Type 0) → (P → Q) → OnOk result P → OnOk result Q
on_ok (Ok x) P Q then p = then p
on_ok (Err e) P Q then p = p

-- what holds, holds of an error too
pub of_err : {T E : Type 0} (result : Result T E) (P : Type 0) → P → OnErr result P
of_err (Ok x) P p = tt
of_err (Err e) P p = p

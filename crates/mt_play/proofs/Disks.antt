-- What becomes of a journal in use where its disk forgets, is told to stop, or was restarted.
use Rattle.std.proofs.Common.{◌≡◌, ◌∙◌, refl, sym, ap, subst, ℕ, ◌-◌, Bool, true, false, List, arith}
use Rattle.std.specs.Prelude.{◌==◌, Option, Some, None, if◌then◌else◌}
use Rattle.std.proofs.lemmas.Bool.Decides.{nat_tests}
use Rattle.mt_durable.specs.Reading.{Says, change_at, entries_or_none, said}
use Rattle.mt_durable.specs.declared.durable.Entry.{Entry}
use Rattle.mt_journal.specs.declared.position.Position.{Position}
use Rattle.mt_journal.specs.Stopping.{Outlasts}
use Rattle.mt_model.specs.texts.Contents.{Contents}
use Rattle.mt_outside.specs.Disk.{LeavesContents}
use Rattle.mt_outside.specs.Logs.{fewer, log_of}
use Rattle.mt_outside.specs.MemoryDisk as disks
use Rattle.mt_outside.specs.MemoryDisk.{DiskState, Held, Leaves, held, restarted, restarted_by}
use Rattle.mt_outside.specs.Stops.{fate_now, has_stopped}
use Rattle.mt_outside.specs.declared.fate.Fate.{Fate}
use Rattle.mt_outside.specs.declared.stop.Stop.{Stop}
use Rattle.mt_store.specs.Leading.{map_left}
use Rattle.mt_keeping.specs.Laws.{KeepsInMemory, StopsAreRecovered}
use Rattle.mt_keeping.specs.Recovered.{RecoversFrom, StopHoldsMap}

-- what stands under Some
pub some_same : {X : Type 0} (a b : X) → Some a ≡ Some b → a ≡ b
some_same a b same = cc

-- A disk that holds the same keeps the same map.
pub kept_held : (old new : DiskState) (place : Position) (map : List Entry) → held new ≡ held old → KeepsInMemory old place map → KeepsInMemory new place map
kept_held old new place map same keeps = record {
  list = keeps.list;
  stands = record {
    file = keeps.stands.file;
    told = ap (λ (h : Held). Some h.kept) same ∙ keeps.stands.told;
    safe = subst (λ (h : Held). LeavesContents (Some keeps.stands.file) (Leaves h)) (sym same) keeps.stands.safe;
    stands = keeps.stands.stands;
    has = keeps.stands.has;
  };
  leads = keeps.leads;
}

-- A disk with no stop to come stops where it is told to.
pub set_to_stop : (disk lent now : DiskState) (stop : Stop) → lent ≡ disk → disk.stop ≡ None → (has_stopped lent.stop ≡ false → now ≡ record lent { stop = Some stop }) → now ≡ record disk { stop = Some stop }
set_to_stop disk lent now stop is runs sets =
    sets (ap (λ (d : DiskState). has_stopped d.stop) is ∙ ap has_stopped runs) ∙ ap (λ (d : DiskState). record d { stop = Some stop }) is

-- What a change says, as it is read.
pub said_is : ((entries : List Entry) (bytes : List ℕ) → Says entries bytes → change_at bytes ≡ Some entries) → (entries : List Entry) (bytes : List ℕ) → Says entries bytes → said bytes ≡ entries
said_is read entries bytes says = ap entries_or_none (read entries bytes says)

-- A disk that was restarted has no stop to come.
runs_by : (fate : Option Fate) (disk : DiskState) → (restarted_by fate disk).stop ≡ None
runs_by None disk = refl
runs_by (Some fate) disk = refl

pub runs_again : (disk now : DiskState) → now ≡ restarted disk → now.stop ≡ None
runs_again disk now is = ap (λ (d : DiskState). d.stop) is ∙ runs_by (fate_now disk.stop) disk

-- One that lasts so many calls and one more has not stopped, and only forgets where it was to stop.

lasts : (count : ℕ) (allowed : Option Stop) → Outlasts count allowed → fate_now (fewer count allowed) ≡ None
lasts count None outlasts = refl
lasts count (Some stop) outlasts =
    let more : (stop.calls - count == 0) ≡ false = grind (arith, nat_tests) in
    ap (λ (b : Bool). if b then Some stop.fate else None) more

pub goes_on : (count : ℕ) (allowed : Option Stop) (disk now : DiskState) → Outlasts count allowed → disk.stop ≡ fewer count allowed → now ≡ restarted disk → now ≡ record disk { stop = None }
goes_on count allowed disk now outlasts is restarts = restarts ∙ ap (λ (fate : Option Fate). restarted_by fate disk) (ap fate_now is ∙ lasts count allowed outlasts)

-- It holds what the stop has left.
pub holds_left : StopsAreRecovered → (calls : ℕ) (one other map changed : List Entry) (allowed : Option Stop) (stop : Stop) (disk now : DiskState)
    → StopHoldsMap calls one other allowed disk.stop (log_of disk) → calls ≡ 4 → one ≡ map → other ≡ changed → allowed ≡ Some stop → has_stopped disk.stop ≡ true → now ≡ restarted disk
    → (contents : Contents) → RecoversFrom contents (map_left 4 stop map changed) (disks.contents_of now)
holds_left law calls one other map changed allowed stop disk now holds four before behind was stopped is contents =
    let at_four = subst (λ (n : ℕ). StopHoldsMap n one other allowed disk.stop (log_of disk)) four holds in
    let from_map = subst (λ (m : List Entry). StopHoldsMap 4 m other allowed disk.stop (log_of disk)) before at_four in
    let to_changed = subst (λ (m : List Entry). StopHoldsMap 4 map m allowed disk.stop (log_of disk)) behind from_map in
    let by_stop = subst (λ (a : Option Stop). StopHoldsMap 4 map changed a disk.stop (log_of disk)) was to_changed in
    subst (λ (d : DiskState). RecoversFrom contents (map_left 4 stop map changed) (disks.contents_of d)) (sym is) (law contents 4 map changed stop disk by_stop stopped)

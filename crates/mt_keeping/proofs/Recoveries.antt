-- What is recovered of a journal in use and of what a stop has left, and how many calls a commit makes.
use Rattle.std.proofs.Common.{◌∙◌, refl, sym, ap, subst, []}
use Rattle.mt_journal.specs.declared.position.Position.TheVariants.{Fresh, Begun, Log, InUse}
use Rattle.mt_outside.specs.MemoryDisk.{contents_of, restarted}
use Rattle.mt_store.specs.Leading.{RestartsHold, map_left, map_of}
use Rattle.mt_keeping.specs.Laws.{KeptMapsAreRecovered, KeptMapsTakeFourCalls, StopsAreRecovered}
use Rattle.mt_keeping.specs.Recovered.{RecoversFrom, is_state_image, may_follow}
use Rattle.mt_keeping.proofs.Options.{some_same}
use Rattle.mt_keeping.proofs.Recovering.{recovers}

pub kept_recovered : KeptMapsAreRecovered
kept_recovered contents disk place map keeps =
    subst (RecoversFrom contents map) (some_same keeps.stands.file (contents_of disk) (sym keeps.stands.told))
    (recovers contents map keeps.stands.file (record { list = keeps.list; has = keeps.stands.has; leads = keeps.leads }))

pub stops_recovered : RestartsHold → StopsAreRecovered
stops_recovered hold contents calls one other stop disk holds stopped =
    recovers contents (map_left calls stop one other) (contents_of (restarted disk)) (hold is_state_image may_follow calls one other stop disk holds stopped)

-- Only a file that has no head yet leads to nothing, and takes more calls.
pub four_calls : KeptMapsTakeFourCalls
four_calls disk Fresh map keeps some = absurd (some (some_same map [] (sym keeps.leads ∙ ap map_of keeps.stands.stands.1)))
four_calls disk Begun map keeps some = refl
four_calls disk (Log gate) map keeps some = refl
four_calls disk (InUse base p0 p1 gate) map keeps some = refl

use Rattle.std.proofs.Common.{◌≡◌, ◌++◌, List, drop}
use Rattle.mt_outside.specs.declared.network.Parcel.{Parcel}
use Rattle.mt_worker.specs.Giving.{Gave, parcels_in}
use Rattle.mt_worker.proofs.sending.send_all.Given as goal

-- what was given, and then the parcels to come, are those of all
abbrev pub invariant-loop-message : goal.invariant-loop-message
invariant-loop-message g l = record {
  given : (given : List Parcel) × Gave (g.O.Outlet.given l.fn.outlet) (g.O.Outlet.given l.outlet) given × (given ++ parcels_in (drop l.message-index l.messages) ≡ parcels_in l.messages);
  faults : g.O.Outlet.faults l.outlet ≡ g.O.Outlet.faults l.fn.outlet;
}

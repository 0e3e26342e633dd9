-- What serving has come to: what came, what each thread did with it, and what each has left.
use Rattle.std.specs.Prelude.{◌≡◌, ◌⊎◌, ℕ, List, [], ◌∷◌, ◌++◌, Option, Result, Ok, Err, OnOk, map, ⊤}
use Rattle.mt_model.specs.declared.texts.config.SessionRow.{SessionRow}
use Rattle.mt_outside.specs.Network.{AreInOrder}
use Rattle.mt_outside.specs.declared.network.Arrival.{Arrival}
use Rattle.mt_outside.specs.declared.network.Parcel.{Parcel}
use Rattle.mt_owners.specs.Rows.{rows_in}
use Rattle.mt_owners.specs.mt_receiver.ReceiveFault.{ReceiveFault}
use Rattle.mt_owners.specs.mt_receiver.TheVariants.{Memory, Link}
use Rattle.mt_owners.specs.mt_receiver.Received as of_receiver
use Rattle.mt_owners.specs.mt_receiver.Receives.{AreSame, Came, Counts, IsSpent, Received}
use Rattle.mt_owners.specs.mt_receiver.Rounds.{datagram_count}
use Rattle.mt_owners.specs.mt_shared.Entry.{Entry}
use Rattle.mt_owners.specs.mt_shared.Shared.{SharedView}
use Rattle.mt_owners.specs.mt_worker.Done.{Done}
use Rattle.mt_owners.specs.mt_worker.Due.{id_of}
use Rattle.mt_served.specs.Crews.{IsCrew, Service, TookTheirJobs, lent_of, returned_of}
use Rattle.mt_crew.specs.Gathering.{first_fault}
use Rattle.mt_crew.specs.declared.threads.Reception.{Reception}

-- the status of how the receiver ended
abbrev pub status_of : Result ⊤ ReceiveFault → ℕ
status_of (Ok x) = 0
status_of (Err Memory) = 7
status_of (Err Link) = 12

abbrev pub status_in : {O : Type 0} → Service O → ℕ
status_in service = service.left.status

module _ {I : Type 0} (held : I → Option (List Arrival)) (clock faults : I → ℕ) where
  -- WHAT THE RECEIVER DID with its reception: it has the same queues, and without a fault put into each what is its own of all that came.
  pub record HasReceived {P : Type 0} (before after : Reception I P) (received : of_receiver.Received) : Type 0 where
    pub same : AreSame before.senders.items after.senders.items
    pub put : OnOk received.ended (Received before.ids.items before.limit before.senders.items after.senders.items (held before.intake) (held after.intake) (clock before.intake))
    pub counts : Counts received.ended (faults before.intake) (faults after.intake)

  -- What came, and that each thread took its jobs of it.
  pub record TookWhatCame {O : Type 0} (ids : List ℕ) (limit : ℕ) (intake left : I) (services : List (Service O)) (clerk : Done ⊤) : Type 0 where
    pub arrivals : List Arrival
    pub came : Came (held intake) arrivals (held left)
    pub in_order : AreInOrder (clock intake) arrivals
    pub ended : (datagram_count arrivals ≡ limit) ⊎ IsSpent (held intake) (held left)
    pub took : TookTheirJobs ids arrivals services clerk

  module _ {O : Type 0} (given : O → Option (List Parcel)) (failed : O → ℕ) where
    -- ALL THAT WAS SERVED. The workers' outlets are those that were lent, and come back in their order; the workers and the reporter are a crew, whose book
    -- this is; where the receiver met no fault, each took its jobs of what came. The status is the first that is not 0: of the receiver, of the
    -- workers by rising number, of the reporter.
    pub record HasServed (node : SharedView) (boot : ℕ) (sessions : List SessionRow) (limit : ℕ) (lent returned : List O) (intake left : I) (received : of_receiver.Received) (book : List Entry) (status : ℕ) : Type 0 where
      pub services : List (Service O)
      pub clerk : Done ⊤
      pub lent_are : map lent_of services ≡ lent
      pub returned_are : map returned_of services ≡ returned
      pub crew : IsCrew given failed node.lock node.origin boot sessions book services clerk
      pub took : OnOk received.ended (TookWhatCame (map id_of (rows_in boot sessions)) limit intake left services clerk)
      pub counts : Counts received.ended (faults intake) (faults left)
      pub status_is : status ≡ first_fault (status_of received.ended ∷ map status_in services ++ clerk.status ∷ [])

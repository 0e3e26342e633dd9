-- What a call's fault says of its result.
use Rattle.std.proofs.Common.{◌≡◌, ◌≢◌, false, Result, Ok, Err, subst}
use Rattle.mt_endings.specs.declared.fault.Fault.{Fault}
use Rattle.mt_endings.specs.declared.fault.Fault.TheVariants.{ReadFault, WriteFault}
use Rattle.mt_endings.specs.Parts.{is_read_fault, is_write_fault}

no_write_fault : (fault : Fault) → is_write_fault fault ≡ false → fault ≢ WriteFault
no_write_fault fault quiet is = let h : is_write_fault WriteFault ≡ false = subst (λ f. is_write_fault f ≡ false) is quiet in absurd (cc)

no_read_fault : (fault : Fault) → is_read_fault fault ≡ false → fault ≢ ReadFault
no_read_fault fault quiet is = let h : is_read_fault ReadFault ≡ false = subst (λ f. is_read_fault f ≡ false) is quiet in absurd (cc)

-- the output is not the cause, or a source is not
pub not_written : {T : Type 0} (r : Result T Fault) (fault : Fault) → r ≡ Err fault → is_write_fault fault ≡ false → r ≢ Err WriteFault
not_written r fault is quiet same = no_write_fault fault quiet (cc)

pub not_read : {T : Type 0} (r : Result T Fault) (fault : Fault) → r ≡ Err fault → is_read_fault fault ≡ false → r ≢ Err ReadFault
not_read r fault is quiet same = no_read_fault fault quiet (cc)

-- what went well is no fault
pub is_no_fault : {T E : Type 0} {value : T} {fault : E} (r : Result T E) → r ≡ Ok value → r ≢ Err fault
is_no_fault r is same = absurd (cc)

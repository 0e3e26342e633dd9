-- The faults of a header: their numbers, and which of several is the first.
use Rattle.std.specs.Prelude.{◌≡◌, ℕ, ◌/◌, ◌==◌, nat_lt, Bool, true, false, List, [], ◌∷◌, ◌++◌, All, length, drop, slice_index}
use Rattle.byteorder.specs.Endian.{little_number}
use Rattle.mt_frame.specs.declared.fault.FrameFault.{FrameFault}
use Rattle.mt_frame.specs.declared.fault.FrameFault.TheVariants.{Short, Version, Reserved, Group, Private, Extended, Unsecured, NoRoom, Control}
use Rattle.mt_frame.specs.Fields.{is_set}
use Rattle.mt_frame.specs.Reading.{has_reserved, is_group, message_length, protocol_length}

-- the number of each fault
abbrev pub number_of : FrameFault → ℕ
number_of Short = 1
number_of Version = 2
number_of Reserved = 3
number_of Group = 4
number_of Private = 5
number_of Extended = 6
number_of Unsecured = 7
number_of NoRoom = 8
number_of Control = 9

-- A fault, and whether bytes have it, whatever else is wrong with them.
pub record Test : Type 0 where
  pub fault : FrameFault
  pub stands : Bool

-- the tests of a message header, in the order of the format (section 4.4)
unfoldable pub message_tests : List ℕ → List Test
message_tests bytes =
    let flags = slice_index bytes 0 in
    let security = slice_index bytes 3 in
    let session = little_number 2 (drop 1 bytes) in
    record { fault = Short; stands = nat_lt (length bytes) 8 }
    ∷ record { fault = Version; stands = nat_lt 0 (flags / 16) }
    ∷ record { fault = Reserved; stands = has_reserved flags security }
    ∷ record { fault = Group; stands = is_group flags security }
    ∷ record { fault = Private; stands = is_set security 7 }
    ∷ record { fault = Control; stands = is_set security 6 }
    ∷ record { fault = Extended; stands = is_set security 5 }
    ∷ record { fault = Unsecured; stands = session == 0 }
    ∷ record { fault = Short; stands = nat_lt (length bytes) (message_length flags) } ∷ []

-- the tests of a protocol header, in the order of the format
unfoldable pub protocol_tests : List ℕ → List Test
protocol_tests bytes =
    let flags = slice_index bytes 0 in
    record { fault = Short; stands = nat_lt (length bytes) 6 }
    ∷ record { fault = Reserved; stands = nat_lt 0 (flags / 32) }
    ∷ record { fault = Extended; stands = is_set flags 3 }
    ∷ record { fault = Short; stands = nat_lt (length bytes) (protocol_length flags) } ∷ []

-- None of these faults stands.
abbrev pub AreClear : List Test → Type 0
AreClear tests = All (λ test. test.stands ≡ false) tests

-- IsFirst fault tests: this fault stands, and none before it does.
pub record IsFirst (fault : FrameFault) (tests : List Test) : Type 0 where
  pub before : List Test
  pub after : List Test
  pub order : tests ≡ before ++ (record { fault = fault; stands = true } ∷ after)
  pub none_before : AreClear before

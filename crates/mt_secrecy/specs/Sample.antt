-- A sample of lines that are alike: two KeySetWrites that give other keys.
use Rattle.std.specs.Prelude.{◌≡◌, ℕ, is_ok, true, List, [], ◌∷◌, ◌++◌, replicate}
use Rattle.mt_im.specs.Reading.{request_in}
use Rattle.mt_model.specs.declared.texts.recording.Event.TheVariants.{Ask}
use Rattle.mt_secrecy.specs.Alike.{AreAlike}

-- an InvokeRequest for KeySetWrite: set 1, policy 0, a key of 16 bytes that are all this one, used from time 1 on, and no other key
abbrev pub write_of_key : ℕ → List ℕ
write_of_key byte =
    (0x15 ∷ 0x28 ∷ 0x00 ∷ 0x28 ∷ 0x01 ∷ 0x36 ∷ 0x02 ∷ 0x15 ∷ 0x37 ∷ 0x00 ∷ 0x24 ∷ 0x00 ∷ 0x00 ∷ 0x24 ∷ 0x01 ∷ 0x3f ∷ 0x24 ∷ 0x02 ∷ 0x00 ∷ 0x18 ∷ 0x35 ∷ 0x01 ∷ 0x35 ∷ 0x00 ∷ 0x24 ∷ 0x00 ∷ 0x01 ∷ 0x24 ∷ 0x01 ∷ 0x00 ∷ 0x30 ∷ 0x02 ∷ 0x10 ∷ [])
    ++ (replicate 16 byte
    ++ (0x24 ∷ 0x03 ∷ 0x01 ∷ 0x34 ∷ 0x04 ∷ 0x34 ∷ 0x05 ∷ 0x34 ∷ 0x06 ∷ 0x34 ∷ 0x07 ∷ 0x18 ∷ 0x18 ∷ 0x18 ∷ 0x18 ∷ 0x24 ∷ 0xff ∷ 0x01 ∷ 0x18 ∷ []))

-- whatever the keys are
abbrev pub OtherKeysAreAlike : Type 0
OtherKeysAreAlike = (ms fabric node : ℕ) (cats : List ℕ) (byte other : ℕ) → AreAlike (Ask ms fabric node cats 8 (write_of_key byte)) (Ask ms fabric node cats 8 (write_of_key other))

-- each of which is read
abbrev pub KeyWritesAreRead : Type 0
KeyWritesAreRead = (byte : ℕ) → is_ok (request_in 8 (write_of_key byte)) ≡ true

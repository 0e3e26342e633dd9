-- Who asks: a node id, then up to three CATs, each behind a `+`.
use Rattle.std.specs.Prelude.{ℕ, ◌==◌, ◌%◌, List, [], ◌∷◌, ◌++◌, Option, Some, None, if◌then◌else◌}
use Rattle.std.specs.Int.{w32, w64, from_be_bytes, to_be_bytes}
use Rattle.std.specs.List.{flat_map}
use Rattle.std.specs.Option.{option_and_then, option_map}
use Rattle.hex.specs.Hex.{encode_lower}
use Rattle.mt_files.specs.declared.subject.Subject.{Subject}
use Rattle.mt_files.specs.Field.{bytes_in}
use Rattle.mt_files.specs.Lines.{parts_of}

abbrev pub node_in : List ℕ → Option ℕ
node_in text = option_map (from_be_bytes w64) (bytes_in 8 text)

-- a CAT has a version in its lower 16 bits, which is not 0
abbrev pub with_version : ℕ → Option ℕ
with_version cat = if cat % 65536 == 0 then None else Some cat

abbrev pub cat_in : List ℕ → Option ℕ
cat_in text = option_and_then with_version (option_map (from_be_bytes w32) (bytes_in 4 text))

abbrev pub three_of : Option ℕ → Option ℕ → Option ℕ → Option (List ℕ)
three_of (Some a) (Some b) (Some c) = Some (a ∷ b ∷ c ∷ [])
three_of _ _ _ = None

-- up to three CATs, 0 standing for each that is not there
abbrev pub cats_in : List (List ℕ) → Option (List ℕ)
cats_in [] = three_of (Some 0) (Some 0) (Some 0)
cats_in (a ∷ []) = three_of (cat_in a) (Some 0) (Some 0)
cats_in (a ∷ b ∷ []) = three_of (cat_in a) (cat_in b) (Some 0)
cats_in (a ∷ b ∷ c ∷ []) = three_of (cat_in a) (cat_in b) (cat_in c)
cats_in parts = None

abbrev pub subject_of : Option ℕ → Option (List ℕ) → Option Subject
subject_of (Some node) (Some cats) = Some (record { node = node; cats = cats })
subject_of _ _ = None

abbrev pub subject_parts : List (List ℕ) → Option Subject
subject_parts [] = None
subject_parts (node ∷ cats) = subject_of (node_in node) (cats_in cats)

abbrev pub subject_in : List ℕ → Option Subject
subject_in text = subject_parts (parts_of 43 text)

-- a CAT behind its `+`, and nothing for 0
abbrev pub cat_text : ℕ → List ℕ
cat_text cat = if cat == 0 then [] else 43 ∷ encode_lower (to_be_bytes w32 cat)

abbrev pub subject_text : ℕ → List ℕ → List ℕ
subject_text node cats = encode_lower (to_be_bytes w64 node) ++ flat_map cat_text cats

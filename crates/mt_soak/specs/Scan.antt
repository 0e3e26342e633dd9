-- How a scan goes over the parts of an element.
use Rattle.std.specs.Prelude.{ℕ, ◌+◌, ◌-◌, Bool, true, false, ◌==◌, ◌&&◌, List, [], ◌∷◌, ◌++◌, Option, Some, None, is_none, option_to_list, slice_get, if◌then◌else◌}
use Rattle.mt_tlv.specs.declared.value.Tag.{Tag}
use Rattle.mt_tlv.specs.Tree.{int, uint, bool, text, octets, null, bits32, bits64, structure, array, list}
use Rattle.mt_tlv.specs.Parts.{Piece, scalar, enter, leave}
use Rattle.mt_tlv.specs.Parts as parts
use Rattle.mt_soak.specs.declared.codes.paths.Step.{Step}
use Rattle.mt_soak.specs.declared.codes.place.At.{At}
use Rattle.mt_soak.specs.Codes.{picks, is_of_structure}

abbrev pub picks_next : Option Step → Tag → Bool
picks_next None tag = false
picks_next (Some step) tag = picks step tag

-- whether the path goes on to an element under this tag, where this many containers on it are open
abbrev pub is_on_path : List Step → ℕ → Tag → Bool
is_on_path path open_count tag = if open_count == 0 then true else picks_next (slice_get path (open_count - 1)) tag

-- whether a step goes to members of a container of this element type
abbrev pub goes_into : Step → ℕ → Bool
goes_into step type = if is_of_structure step then type == 21 else type == 22

abbrev pub goes_next_into : Option Step → ℕ → Bool
goes_next_into None type = false
goes_next_into (Some step) type = goes_into step type

-- the number of a part that stands where the whole path leads
abbrev pub told : List Step → At → Piece → Option ℕ
told path at (scalar tag (uint n)) = if at.passed_over == 0 && (is_none (slice_get path at.on_path) && is_on_path path at.on_path tag) then Some n else None
told path at (scalar tag (int z)) = None
told path at (scalar tag (bool b)) = None
told path at (scalar tag (text s)) = None
told path at (scalar tag (octets s)) = None
told path at (scalar tag null) = None
told path at (scalar tag (bits32 n)) = None
told path at (scalar tag (bits64 n)) = None
told path at (scalar tag (structure es)) = None
told path at (scalar tag (array es)) = None
told path at (scalar tag (list es)) = None
told path at (parts.text tag s) = None
told path at (parts.octets tag s) = None
told path at (enter tag type) = None
told path at leave = None

abbrev pub inside : List Step → At → Tag → ℕ → At
inside path at tag type =
    if at.passed_over == 0 && (goes_next_into (slice_get path at.on_path) type && is_on_path path at.on_path tag)
    then record { on_path = at.on_path + 1; passed_over = 0 }
    else record { on_path = at.on_path; passed_over = at.passed_over + 1 }

abbrev pub outside : At → At
outside at =
    if at.passed_over == 0
    then record { on_path = at.on_path - 1; passed_over = 0 }
    else record { on_path = at.on_path; passed_over = at.passed_over - 1 }

-- where the scan is behind a part
abbrev pub after : List Step → At → Piece → At
after path at (scalar tag v) = at
after path at (parts.text tag s) = at
after path at (parts.octets tag s) = at
after path at (enter tag type) = inside path at tag type
after path at leave = outside at

-- the numbers that a scan tells of over these parts
abbrev pub all_told : List Step → At → List Piece → List ℕ
all_told path at [] = []
all_told path at (x ∷ xs) = option_to_list (told path at x) ++ all_told path (after path at x) xs

-- in front of an element
abbrev pub outermost : At
outermost = record { on_path = 0; passed_over = 0 }

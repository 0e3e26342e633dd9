-- The status codes of a message, as a TLV tree.
use Rattle.std.specs.Prelude.{◌≡◌, ℕ, ◌+◌, ◌-◌, ◌^◌, ◌<◌, min, Bool, true, false, ◌==◌, ◌||◌, List, [], ◌∷◌, ◌++◌, Option, Some, None, count_by, slice_index, if◌then◌else◌}
use Rattle.mt_tlv.specs.declared.value.Tag.{Tag}
use Rattle.mt_tlv.specs.Tree.{Tree, int, uint, bool, text, octets, null, bits32, bits64, structure, array, list, Elements, none, more}
use Rattle.mt_model.specs.Trees.{is_context}
use Rattle.mt_soak.specs.declared.codes.paths.Step.{Step}
use Rattle.mt_soak.specs.declared.codes.paths.Step.TheVariants.{Field, Either, Member}
use Rattle.mt_soak.specs.Paths.{path_of}

-- whether a step goes from a container to its member under this tag
abbrev pub picks : Step → Tag → Bool
picks (Field n) tag = is_context n tag
picks (Either m n) tag = is_context m tag || is_context n tag
picks Member tag = true

-- whether a step goes to members of structures, and not to those of arrays
abbrev pub is_of_structure : Step → Bool
is_of_structure (Field n) = true
is_of_structure (Either m n) = true
is_of_structure Member = false

abbrev pub number_behind : ℕ → List Step → List ℕ
number_behind n [] = n ∷ []
number_behind n (step ∷ steps) = []

abbrev mutual
  -- the numbers to which these steps lead from a tree, in their order
  pub codes_at : Tree → List Step → List ℕ
  codes_at (int z) steps = []
  codes_at (uint n) steps = number_behind n steps
  codes_at (bool b) steps = []
  codes_at (text s) steps = []
  codes_at (octets s) steps = []
  codes_at null steps = []
  codes_at (bits32 n) steps = []
  codes_at (bits64 n) steps = []
  codes_at (structure es) [] = []
  codes_at (structure es) (step ∷ steps) = if is_of_structure step then codes_among es step steps else []
  codes_at (array es) [] = []
  codes_at (array es) (step ∷ steps) = if is_of_structure step then [] else codes_among es step steps
  codes_at (list es) steps = []

  -- from the members of a container, by the first step
  pub codes_among : Elements → Step → List Step → List ℕ
  codes_among none step steps = []
  codes_among (more tag v es) step steps = (if picks step tag then codes_at v steps else []) ++ codes_among es step steps

abbrev pub codes_on : Option (List Step) → Tree → List ℕ
codes_on None v = []
codes_on (Some path) v = codes_at v path

-- the status codes of a message of this opcode, in their order
abbrev pub codes_of : ℕ → Tree → List ℕ
codes_of opcode v = codes_on (path_of opcode) v

-- how often a code stands among codes
abbrev pub occurrences : ℕ → List ℕ → ℕ
occurrences code codes = count_by (λ n. n == code) codes

-- the most that a count can hold
abbrev pub most : ℕ
most = 2 ^ 64 - 1

-- Each code's count, from the old to the new, has risen by how often the code stands among these, as far as it can hold.
abbrev pub AreCounted : List ℕ → List ℕ → List ℕ → Type 0
AreCounted codes old new = (code : ℕ) → code < 256 → slice_index new code ≡ min (slice_index old code + occurrences code codes) most

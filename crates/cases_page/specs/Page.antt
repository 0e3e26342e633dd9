-- What a contract sees of a page.
use Rattle.std.specs.Prelude.{ℕ, Bool, false, List, ◌≡◌, ◌++◌}

-- a page: the bytes of its text, and whether there was no memory for a part of it
pub record PageState : Type 0 where
  pub text : List ℕ
  pub has_gap : Bool

-- unless the page has a gap afterwards, it had none before, and its text is the text before followed by these bytes
abbrev pub Adds : PageState → List ℕ → PageState → Type 0
Adds before bytes after = after.has_gap ≡ false → (before.has_gap ≡ false) × (after.text ≡ before.text ++ bytes)

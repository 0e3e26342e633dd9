-- Each string of bytes is an image and a change.
use Rattle.std.specs.Prelude.{ℕ, Bool, true, List}

abbrev pub is_any : List ℕ → Bool
is_any bytes = true

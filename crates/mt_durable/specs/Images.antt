-- The image of a map: the bytes of the change that leads to it from the empty map.
use Rattle.std.specs.Prelude.{◌≡◌, ℕ, true, List}
use Rattle.mt_durable.specs.Changes.{change_bytes}
use Rattle.mt_durable.specs.Maps.{have_values}
use Rattle.mt_durable.specs.Reading.{Says, said}
use Rattle.mt_durable.specs.Setting.{with_all}

-- the image after a change
abbrev pub image_after : List ℕ → List ℕ → List ℕ
image_after change image = change_bytes (with_all (said change) (said image))

-- the bytes are the image of a map
abbrev pub IsImage : List ℕ → Type 0
IsImage bytes = Says (said bytes) bytes × (have_values (said bytes) ≡ true)

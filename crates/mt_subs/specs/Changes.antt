-- When each attribute changed last, as the count of the node's changes: a list with the newest change first.
use Rattle.std.specs.Prelude.{ℕ, ◌≡◌, ◌&&◌, nat_le, nat_lt, not, Bool, true, List, [], ◌∷◌, filter, map, if◌then◌else◌}
use Rattle.std.specs.List.{list_any}
use Rattle.mt_meta.specs.Places.{all_places}
use Rattle.mt_model.specs.rows.Sight.{same_place}
use Rattle.mt_model.specs.declared.rows.place.Place.{Place}
use Rattle.mt_model.specs.declared.node.state.ChangeNumber.{ChangeNumber}

abbrev pub is_change_of : Place → ChangeNumber → Bool
is_change_of place change = same_place change.place place

abbrev pub is_other_change : Place → ChangeNumber → Bool
is_other_change place change = not (is_change_of place change)

abbrev pub is_among : Place → List ChangeNumber → Bool
is_among place changes = list_any (is_change_of place) changes

-- What holds of them.

-- the numbers don't rise, from this one on
abbrev pub fall_from : ℕ → List ChangeNumber → Bool
fall_from number [] = true
fall_from number (c ∷ cs) = nat_le c.number number && fall_from c.number cs

abbrev pub are_newest_first : List ChangeNumber → Bool
are_newest_first [] = true
are_newest_first (c ∷ cs) = fall_from c.number cs

-- each place stands once
abbrev pub stand_once : List ChangeNumber → Bool
stand_once [] = true
stand_once (c ∷ cs) = not (is_among c.place cs) && stand_once cs

pub record IsChanges (changes : List ChangeNumber) : Type 0 where
  pub newest_first : are_newest_first changes ≡ true
  pub once : stand_once changes ≡ true

-- What is asked and done.

-- the number of the newest change, 0 where there is none
abbrev pub newest_of : List ChangeNumber → ℕ
newest_of [] = 0
newest_of (c ∷ cs) = c.number

abbrev pub change_at : Place → ℕ → ChangeNumber
change_at place number = record { place = place; number = number }

-- nothing has changed since the start
abbrev pub unchanged : List ChangeNumber
unchanged = map (λ place. change_at place 0) all_places

-- those that are later than this number
abbrev pub is_later : ℕ → ChangeNumber → Bool
is_later number change = nat_lt number change.number

abbrev pub later : ℕ → List ChangeNumber → List ChangeNumber
later number changes = filter (is_later number) changes

-- the place has changed: it stands first, with this number, and the others stay in their order
abbrev pub noted : Place → ℕ → List ChangeNumber → List ChangeNumber
noted place number changes = if is_among place changes then change_at place number ∷ filter (is_other_change place) changes else changes

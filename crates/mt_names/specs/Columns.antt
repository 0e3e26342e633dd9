-- Columns of names.
use Rattle.std.specs.Prelude.{ℕ, ◌==◌, List, Option}
use Rattle.std.specs.List.{find}
use Rattle.std.specs.Option.{option_map}
use Rattle.mt_names.specs.declared.columns.Named.{Named}

-- a number, and the text of its name
abbrev pub Name : Type 0
Name = ℕ × List ℕ

abbrev pub number_of : Named → ℕ
number_of named = named.number

abbrev pub entry : Named → Name
entry named = (named.number, named.name.now)

-- the name of a number in a column
abbrev pub name_in : ℕ → List Name → Option (List ℕ)
name_in number column = option_map (λ (name : Name). name.1) (find (λ (name : Name). name.0 == number) column)

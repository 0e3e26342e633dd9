-- The name of a number, and whether there is one.
use Rattle.std.proofs.Common.{ℕ, ◌≡◌, ◌==◌, ◌||◌, ◌++◌, Bool, true, false, List, [], ◌∷◌, Option, Some, None, if◌then◌else◌, is_some, map, refl, sym, ◌∙◌, ap}
use Rattle.std.specs.List.{find, list_any}
use Rattle.std.specs.Option.{option_map}
use Rattle.std.proofs.lemmas.List.Folds.{list_any-append}
use Rattle.mt_names.specs.declared.columns.Named.{Named}
use Rattle.mt_names.specs.Columns.{Name, entry, name_in, number_of}

-- among the entries of a column
pub name_entries : (number : ℕ) (names : List Named) → name_in number (map entry names) ≡ option_map (λ (named : Named). named.name.now) (find (λ (named : Named). named.number == number) names)
name_entries number [] = refl
name_entries number (named ∷ names) = elim (named.number == number) as (λ b. option_map (λ (name : Name). name.1) (if b then Some (entry named) else find (λ (name : Name). name.0 == number) (map entry names)) ≡ option_map (λ (named : Named). named.name.now) (if b then Some named else find (λ (named : Named). named.number == number) names)) [ true ↦ refl | false ↦ name_entries number names ]

-- whether there is one

is_some-map : {X Y : Type 0} (f : X → Y) (o : Option X) → is_some (option_map f o) ≡ is_some o
is_some-map f None = refl
is_some-map f (Some x) = refl

any-map : {X Y : Type 0} (p : Y → Bool) (f : X → Y) (xs : List X) → list_any p (map f xs) ≡ list_any (λ x. p (f x)) xs
any-map p f [] = refl
any-map p f (x ∷ xs) = ap (λ rest. p (f x) || rest) (any-map p f xs)

pub named_any : (number : ℕ) (column : List Name) → is_some (name_in number column) ≡ list_any (λ (name : Name). name.0 == number) column
named_any number [] = refl
named_any number (name ∷ names) = elim (name.0 == number) as (λ b. is_some (option_map (λ (name : Name). name.1) (if b then Some name else find (λ (name : Name). name.0 == number) names)) ≡ (b || list_any (λ (name : Name). name.0 == number) names)) [ true ↦ refl | false ↦ named_any number names ]

-- where the numbers of a column are those of rows, it names what has a row
pub named_rows : {R : Type 0} (number : ℕ) (names : List Named) (column : List Name) (number_in : R → ℕ) (rows : List R) → map entry names ≡ column → map number_of names ≡ map number_in rows
    → list_any (λ (name : Name). name.0 == number) column ≡ list_any (λ row. number_in row == number) rows
named_rows number names column number_in rows entries numbers =
    ap (list_any (λ (name : Name). name.0 == number)) (sym entries)
    ∙ any-map (λ (name : Name). name.0 == number) entry names
    ∙ sym (any-map (λ other. other == number) number_of names)
    ∙ ap (list_any (λ other. other == number)) numbers
    ∙ any-map (λ other. other == number) number_in rows

pub there : {R T : Type 0} (read : T → List ℕ) (result : Option T) (number : ℕ) (names : List Named) (column : List Name) (number_in : R → ℕ) (rows : List R)
    → option_map read result ≡ name_in number column → map entry names ≡ column → map number_of names ≡ map number_in rows
    → is_some result ≡ list_any (λ row. number_in row == number) rows
there read result number names column number_in rows is entries numbers =
    sym (is_some-map read result) ∙ ap is_some is ∙ named_any number column ∙ named_rows number names column number_in rows entries numbers

-- in two columns, one behind the other

pub named_first : (number : ℕ) (text : List ℕ) (column others : List Name) → name_in number column ≡ Some text → name_in number (column ++ others) ≡ Some text
named_first number text [] others is = absurd cc
named_first number text (name ∷ names) others is = elim (name.0 == number) as (λ b. option_map (λ (name : Name). name.1) (if b then Some name else find (λ (name : Name). name.0 == number) names) ≡ Some text → option_map (λ (name : Name). name.1) (if b then Some name else find (λ (name : Name). name.0 == number) (names ++ others)) ≡ Some text) [ true ↦ λ is. is | false ↦ named_first number text names others ] is

pub named_second : (number : ℕ) (column others : List Name) → name_in number column ≡ None → name_in number (column ++ others) ≡ name_in number others
named_second number [] others is = refl
named_second number (name ∷ names) others is = elim (name.0 == number) as (λ b. option_map (λ (name : Name). name.1) (if b then Some name else find (λ (name : Name). name.0 == number) names) ≡ None → option_map (λ (name : Name). name.1) (if b then Some name else find (λ (name : Name). name.0 == number) (names ++ others)) ≡ name_in number others) [ true ↦ λ is. absurd cc | false ↦ named_second number names others ] is

pub there_two : {R T : Type 0} (read : T → List ℕ) (result : Option T) (number : ℕ) (first second : List Named) (column others : List Name) (number_in : R → ℕ) (rows more : List R)
    → option_map read result ≡ name_in number (column ++ others) → map entry first ≡ column → map number_of first ≡ map number_in rows
    → map entry second ≡ others → map number_of second ≡ map number_in more
    → is_some result ≡ list_any (λ row. number_in row == number) (rows ++ more)
there_two read result number first second column others number_in rows more is first_entries first_numbers second_entries second_numbers =
    sym (is_some-map read result) ∙ ap is_some is ∙ named_any number (column ++ others)
    ∙ list_any-append (λ (name : Name). name.0 == number) column others
    ∙ ap (λ here. here || list_any (λ (name : Name). name.0 == number) others) (named_rows number first column number_in rows first_entries first_numbers)
    ∙ ap (λ there. list_any (λ row. number_in row == number) rows || there) (named_rows number second others number_in more second_entries second_numbers)
    ∙ sym (list_any-append (λ row. number_in row == number) rows more)

-- a list of numbers is that of its own numbers
pub map_same : (numbers : List ℕ) → map (λ (number : ℕ). number) numbers ≡ numbers
map_same [] = refl
map_same (number ∷ numbers) = ap (λ rest. number ∷ rest) (map_same numbers)

-- How many events the words may ask for.
use Rattle.std.specs.Prelude.{⊤}
use Rattle.std.proofs.Common.{◌≡◌, ℕ, Bool, true, false, cond, nat_le, List, [], ◌∷◌, Option, Some, None, refl, subst}
use Rattle.std.specs.Option.{option_and_then, option_map}
use Rattle.mt_files.specs.Field.{at_least, number_of, up_to}
use Rattle.mt_words.specs.Words.{asked, asked_by, begin_of, command_of, count_of, fabric_of, names_of, session_of, soak_of}
use Rattle.mt_words.specs.declared.asked.Asked.{Asked}
use Rattle.mt_words.specs.declared.asked.Asked.TheVariants as asks
use Rattle.mt_words.specs.declared.command.Command.{Command}
use Rattle.mt_words.specs.declared.command.Command.TheVariants.{Ask, Compare, Replay, Settle, Show, Soak, Serve}
use Rattle.mt_top.specs.Asked.{is_within}

-- whatever is wanted is within
Within : Option Asked → Type 0
Within None = ⊤
Within (Some wanted) = is_within wanted ≡ true

if_within : (t : Bool) (number begin : ℕ) → (t ≡ true → nat_le number 100000 ≡ true) → Within (soak_of (Some begin) (cond t (Some number) None))
unfolding Within
if_within true number begin le = le refl
if_within false number begin le = tt

count_some : (begin number : ℕ) (t : Bool) → nat_le number 100000 ≡ t → Within (soak_of (Some begin) (at_least 1 (cond t (Some number) None)))
unfolding Within
count_some begin number true is = if_within (nat_le 1 number) number begin (λ some. is)
count_some begin number false is = tt

count_found : (begin : ℕ) (found : Option ℕ) → Within (soak_of (Some begin) (at_least 1 (up_to 100000 found)))
unfolding Within
count_found begin None = tt
count_found begin (Some number) = count_some begin number (nat_le number 100000) refl

count_within : (begin : ℕ) (word : List ℕ) → Within (soak_of (Some begin) (count_of word))
count_within begin word = count_found begin (number_of word)

soak_within : (begin : Option ℕ) (word : List ℕ) → Within (soak_of begin (count_of word))
unfolding Within
soak_within None word = tt
soak_within (Some begin) word = count_within begin word

fabric_within : (fabric : Option ℕ) → Within (option_map asks.Compare fabric)
unfolding Within
fabric_within None = tt
fabric_within (Some fabric) = refl

ask_within : (session : Option ℕ) → Within (option_map asks.Ask session)
unfolding Within
ask_within None = tt
ask_within (Some session) = refl

show_within : (session : Option ℕ) → Within (option_map asks.Show session)
unfolding Within
show_within None = tt
show_within (Some session) = refl

by_within : (command : Command) (words : List (List ℕ)) → Within (asked_by command words)
unfolding Within
by_within Serve words = tt
by_within Replay [] = tt
by_within Replay (a ∷ []) = tt
by_within Replay (a ∷ b ∷ []) = refl
by_within Replay (a ∷ b ∷ c ∷ others) = tt
by_within Compare [] = tt
by_within Compare (a ∷ []) = tt
by_within Compare (a ∷ b ∷ []) = tt
by_within Compare (a ∷ b ∷ c ∷ []) = tt
by_within Compare (a ∷ b ∷ c ∷ d ∷ []) = fabric_within (fabric_of a)
by_within Compare (a ∷ b ∷ c ∷ d ∷ e ∷ others) = tt
by_within Soak [] = tt
by_within Soak (a ∷ []) = tt
by_within Soak (a ∷ b ∷ []) = tt
by_within Soak (a ∷ b ∷ c ∷ []) = soak_within (begin_of a) b
by_within Soak (a ∷ b ∷ c ∷ d ∷ others) = tt
by_within Settle [] = tt
by_within Settle (a ∷ []) = tt
by_within Settle (a ∷ b ∷ []) = refl
by_within Settle (a ∷ b ∷ c ∷ others) = tt
by_within Ask [] = tt
by_within Ask (a ∷ []) = tt
by_within Ask (a ∷ b ∷ []) = tt
by_within Ask (a ∷ b ∷ c ∷ []) = ask_within (session_of a)
by_within Ask (a ∷ b ∷ c ∷ d ∷ others) = tt
by_within Show [] = tt
by_within Show (a ∷ []) = tt
by_within Show (a ∷ b ∷ []) = tt
by_within Show (a ∷ b ∷ c ∷ []) = show_within (session_of a)
by_within Show (a ∷ b ∷ c ∷ d ∷ others) = tt

then_within : {X : Type 0} (found : X → Option Asked) (o : Option X) → ((x : X) → Within (found x)) → Within (option_and_then found o)
unfolding Within
then_within found None all = tt
then_within found (Some x) all = all x

any_within : (words : List (List ℕ)) → Within (asked words)
unfolding Within
any_within [] = tt
any_within (command ∷ words) = then_within (λ found. option_and_then (asked_by found) (names_of (command ∷ words))) (command_of command) (λ found. then_within (asked_by found) (names_of (command ∷ words)) (by_within found))

pub wanted_within : (words : List (List ℕ)) (wanted : Asked) → asked words ≡ Some wanted → is_within wanted ≡ true
unfolding Within
wanted_within words wanted is = subst Within is (any_within words)

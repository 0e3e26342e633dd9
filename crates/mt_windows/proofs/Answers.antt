-- What a command makes of the window, by what it is answered.
use Rattle.std.proofs.Common.{◌≡◌, ℕ, ◌==◌, ◌&&◌, ◌||◌, ◌∙◌, inl, inr, not, nat_lt, Bool, true, false, List, Option, Some, None, Result, Ok, Err, refl, sym, ap, subst, unwrap_or, if◌then◌else◌}
use Rattle.std.proofs.lemmas.Bool.{cases_Bool, cond_both, eqb-true, not-true, or_cases}
use Rattle.std.specs.List.{list_all}
use Rattle.mt_tlv.specs.Scalars.{unsigned_in}
use Rattle.mt_tlv.specs.View.{tree}
use Rattle.mt_tlv.specs.declared.value.Value.{Value}
use Rattle.mt_admin.specs.Commands as admin
use Rattle.mt_admin.specs.Windows as windows
use Rattle.mt_admin.specs.Windows.{window_at, window_end}
use Rattle.mt_admin.specs.declared.windows.Window.TheVariants.{Basic, Enhanced}
use Rattle.mt_admin.specs.declared.windows.WindowFault.TheVariants as faults
use Rattle.mt_apps.specs.Commands as apps
use Rattle.mt_commission.specs.Commands as commission
use Rattle.mt_groupkeys.specs.Commands as group_keys
use Rattle.mt_invoke.specs.Checking.{checked, has_form, if_found, may_invoke}
use Rattle.mt_meta.specs.Finding.{command_of, find_command_of, found, has_cluster, is_endpoint}
use Rattle.mt_meta.specs.Given.{number_of}
use Rattle.mt_meta.specs.Table.{clusters_of}
use Rattle.mt_meta.specs.clusters.AdministratorCommissioning as administrator_commissioning
use Rattle.mt_meta.specs.clusters.GeneralCommissioning as general_commissioning
use Rattle.mt_meta.specs.clusters.GroupKeyManagement as group_key_management
use Rattle.mt_meta.specs.clusters.NetworkCommissioning as network_commissioning
use Rattle.mt_meta.specs.clusters.OperationalCredentials as operational_credentials
use Rattle.mt_meta.specs.declared.meta.CommandMeta.{CommandMeta}
use Rattle.mt_model.specs.messages.Effects.{answered_with, refused_at}
use Rattle.mt_model.specs.messages.Status.{code_of}
use Rattle.mt_model.specs.rows.Seen.{Observation, Seen}
use Rattle.mt_model.specs.rows.Shown.{first_value}
use Rattle.mt_model.specs.rows.Sight.{same_place}
use Rattle.mt_model.specs.tables.Known.{Known}
use Rattle.mt_model.specs.declared.limits.TheConstants.{LAST_DISCRIMINATOR}
use Rattle.mt_model.specs.declared.messages.status.Status.{Status}
use Rattle.mt_model.specs.declared.messages.status.Status.TheVariants.{InvalidCommand, NeedsTimedInteraction, Success, UnsupportedAccess, UnsupportedCluster, UnsupportedCommand, UnsupportedEndpoint}
use Rattle.mt_model.specs.declared.node.action.Effect.{Effect}
use Rattle.mt_model.specs.declared.node.action.NodeStep.{NodeStep}
use Rattle.mt_model.specs.declared.rows.place.Place.{Place}
use Rattle.mt_model.specs.declared.rows.place.Row.{Row}
use Rattle.mt_model.specs.declared.tables.access.Actor.{Actor}
use Rattle.mt_opcreds.specs.Commands as credentials
use Rattle.mt_opcreds.specs.Moves.{StepsAreMoves}
use Rattle.mt_machine.specs.Commands.{carried_out, command_effect, is_commissioning, nobodys_rows, of_others, own_rows, unless_refused}
use Rattle.mt_machine.specs.Environment.{Environment}
use Rattle.mt_windows.specs.Window.{Window, behind_command, closed, command_at, is_success, opened, timeout_in}
use Rattle.mt_windows.proofs.Commands.{EffectSpares, commission_spares, credentials_spare}
use Rattle.mt_windows.proofs.Others.{apps_spare, keys_spare}
use Rattle.mt_windows.proofs.Told.{all_spared, spares, told_all}

-- the window that these rows of WindowStatus and these of WindowEnd tell
abbrev pub window_of : List Row → List Row → Window
window_of first last = record { status = unwrap_or (unsigned_in (tree (first_value first))) 0; until = unsigned_in (tree (first_value last)) }

-- and so behind steps
abbrev pub window_told : List NodeStep → List Row → List Row → Window
window_told steps first last = window_of (told_all (window_at 0) steps first) (told_all (window_at window_end) steps last)

pub window_spared : (steps : List NodeStep) (first last : List Row) → list_all (spares (window_at 0)) steps ≡ true → list_all (spares (window_at window_end)) steps ≡ true → window_told steps first last ≡ window_of first last
window_spared steps first last one two = λ i. window_of (all_spared (window_at 0) steps first one i) (all_spared (window_at window_end) steps last two i)

module _ (command : Place) (fields : Value) (now : ℕ) (first last : List Row) where
  -- what is told of it, by whether it succeeds
  abbrev by_success : Bool → Window
  by_success success = if success then behind_command command fields now (window_of first last) else window_of first last

  -- the steps make of the window what the answer tells
  abbrev pub Follows : Effect → Type 0
  Follows effect = window_told effect.steps first last ≡ by_success (is_success effect.reply)

  -- Commands of other clusters.

  not_its : (endpoint same : Bool) → (endpoint && (false && same)) ≡ false
  not_its true same = refl
  not_its false same = refl

  other_place : (number : ℕ) → (command.cluster == 0x3c) ≡ false → same_place command (command_at number) ≡ false
  other_place number other = ap (λ (b : Bool). command.endpoint == 0 && (b && command.leaf == number)) other ∙ not_its (command.endpoint == 0) (command.leaf == number)

  unchanged : (command.cluster == 0x3c) ≡ false → (window : Window) → behind_command command fields now window ≡ window
  unchanged other window = rw (other_place 0 other, other_place 1 other, other_place 2 other) refl

  either_way : (success : Bool) → (command.cluster == 0x3c) ≡ false → window_of first last ≡ by_success success
  either_way true other = sym (unchanged other (window_of first last))
  either_way false other = refl

  of_other : (effect : Effect) → (command.cluster == 0x3c) ≡ false → ((leaf : ℕ) → EffectSpares leaf effect) → Follows effect
  of_other effect other spare = window_spared effect.steps first last (spare 0) (spare window_end) ∙ either_way (is_success effect.reply) other

  -- Commands of Administrator Commissioning.

  -- what such a command makes of it, by its number
  abbrev by_number : Bool → Bool → Bool → Window
  by_number zero one two = if zero then opened 1 (timeout_in fields) now else if one then opened 2 (timeout_in fields) now else if two then closed else window_of first last

  abbrev FollowsAs : Window → Effect → Type 0
  FollowsAs window effect = window_told effect.steps first last ≡ (if is_success effect.reply then window else window_of first last)

  module _ (known : Known) (actor : Actor) (rows_at : Place → List Row) where
    opens : (invalid busy unverified : Bool) → FollowsAs (opened 1 (timeout_in fields) now) (if invalid then refused_at command InvalidCommand
        else if busy then admin.failed command faults.Busy
        else if unverified then admin.failed command faults.PakeParameterError
        else answered_with command Success (windows.opened Enhanced known.fabrics actor.fabric (number_of 0 fields) now))
    opens true busy unverified = refl
    opens false true unverified = refl
    opens false false true = refl
    opens false false false = refl

    opens_basic : (invalid busy : Bool) → FollowsAs (opened 2 (timeout_in fields) now) (if invalid then refused_at command InvalidCommand
        else if busy then admin.failed command faults.Busy
        else answered_with command Success (windows.opened Basic known.fabrics actor.fabric (number_of 0 fields) now))
    opens_basic true busy = refl
    opens_basic false true = refl
    opens_basic false false = refl

    revokes : (there : Bool) → FollowsAs closed (if there then answered_with command Success windows.closed else admin.failed command faults.WindowNotOpen)
    revokes true = refl
    revokes false = refl

    numbered : (zero one two : Bool) (x y z : Effect) → FollowsAs (opened 1 (timeout_in fields) now) x → FollowsAs (opened 2 (timeout_in fields) now) y → FollowsAs closed z
        → FollowsAs (by_number zero one two) (if zero then x else if one then y else if two then z else refused_at command UnsupportedCommand)
    numbered true one two x y z opening opening_basic revoking = opening
    numbered false true two x y z opening opening_basic revoking = opening_basic
    numbered false false true x y z opening opening_basic revoking = revoking
    numbered false false false x y z opening opening_basic revoking = refl

    its_place : (number : ℕ) → (command.endpoint == 0) ≡ true → (command.cluster == 0x3c) ≡ true → same_place command (command_at number) ≡ (command.leaf == number)
    its_place number endpoint cluster = rw (endpoint, cluster) refl

    of_admin : (command.endpoint == 0) ≡ true → (command.cluster == 0x3c) ≡ true → Follows (admin.invoked rows_at known actor command fields now)
    of_admin endpoint cluster =
        rw (its_place 0 endpoint cluster, its_place 1 endpoint cluster, its_place 2 endpoint cluster)
        (numbered (command.leaf == 0) (command.leaf == 1) (command.leaf == 2)
        (admin.open_window rows_at known actor command fields now) (admin.open_basic_window rows_at known actor command fields now) (admin.revoke rows_at command)
        (opens (not (admin.is_timeout (number_of 0 fields)) || nat_lt LAST_DISCRIMINATOR (number_of 2 fields)) (admin.is_busy rows_at known) (not (admin.is_verified fields)))
        (opens_basic (not (admin.is_timeout (number_of 0 fields))) (admin.is_busy rows_at known))
        (revokes (windows.is_open rows_at)))

-- What is refused before a command is carried out gets no success.

abbrev pub fails : Result CommandMeta Status → Bool
fails (Ok meta) = true
fails (Err status) = not (code_of status == 0)

missing_fails : (no_endpoint no_cluster timed : Bool) (row : Option CommandMeta)
    → fails (if_found timed (found (if no_endpoint then Some UnsupportedEndpoint else if no_cluster then Some UnsupportedCluster else None) row UnsupportedCommand)) ≡ true
missing_fails true no_cluster timed row = refl
missing_fails false true timed row = refl
missing_fails false false timed None = refl
missing_fails false false timed (Some meta) = late_fails (meta.timed && not timed) meta
  where
    late_fails : (late : Bool) (its : CommandMeta) → fails (if late then Err NeedsTimedInteraction else Ok its) ≡ true
    late_fails true its = refl
    late_fails false its = refl

pub checks_fail : (seen : Seen) (actor : Actor) (command : Place) (timed : Bool) → fails (checked seen actor command timed) ≡ true
checks_fail seen actor command timed = by_access (may_invoke seen actor command)
  where
    by_access : (may : Bool) → fails (if may then if_found timed (find_command_of command) else Err UnsupportedAccess) ≡ true
    by_access true = missing_fails (not (is_endpoint command.endpoint)) (not (has_cluster command.endpoint command.cluster)) timed (command_of command)
    by_access false = refl

-- A command of Administrator Commissioning that is there is on endpoint 0.

timely_is : (late : Bool) (its : Result CommandMeta Status) (meta : CommandMeta) → (if late then Err NeedsTimedInteraction else its) ≡ Ok meta → its ≡ Ok meta
timely_is true its meta is = absurd cc
timely_is false its meta is = is

there_is : (may timed : Bool) (there : Result CommandMeta Status) (meta : CommandMeta) → (if may then if_found timed there else Err UnsupportedAccess) ≡ Ok meta → there ≡ Ok meta
there_is false timed there meta is = absurd cc
there_is true timed (Err status) meta is = absurd cc
there_is true timed (Ok its) meta is = timely_is (its.timed && not timed) (Ok its) meta is

cluster_there : (no_endpoint there : Bool) (row : Option CommandMeta) (meta : CommandMeta)
    → found (if no_endpoint then Some UnsupportedEndpoint else if not there then Some UnsupportedCluster else None) row UnsupportedCommand ≡ Ok meta → there ≡ true
cluster_there true there row meta is = absurd cc
cluster_there false true row meta is = refl
cluster_there false false row meta is = absurd cc

on_endpoint : (endpoint : ℕ) → has_cluster endpoint 0x3c ≡ true → (endpoint == 0) ≡ true
unfolding clusters_of
on_endpoint endpoint there = elim (cases_Bool (endpoint == 0)) [
  | inl is ↦ is
  | inr other ↦ elim (cases_Bool (endpoint == 1)) [
    | inl one ↦ let none : false ≡ true = rw (other, one) at there in absurd cc
    | inr neither ↦ let none : false ≡ true = rw (other, neither) at there in absurd cc
  ]
]

-- a number that is another's is not a third one
apart : (n m : ℕ) → (n == m) ≡ true → (m == 0x3c) ≡ false → (n == 0x3c) ≡ false
apart n m is other = subst (λ (k : ℕ). (k == 0x3c) ≡ false) (sym (eqb-true n m is)) other

commissioning_apart : (n : ℕ) → is_commissioning n ≡ true → (n == 0x3c) ≡ false
commissioning_apart n is = elim (or_cases (n == general_commissioning.cluster) (n == network_commissioning.cluster || n == operational_credentials.cluster) is) [
  | inl one ↦ apart n general_commissioning.cluster one refl
  | inr later ↦ elim (or_cases (n == network_commissioning.cluster) (n == operational_credentials.cluster) later) [
    | inl two ↦ apart n network_commissioning.cluster two refl
    | inr three ↦ apart n operational_credentials.cluster three refl
  ]
]

-- Every command.

module _ (moves : StepsAreMoves) (given : Environment) (o : Observation) (actor : Actor) (command : Place) (fields : Value) (first last : List Row) where
  abbrev Its : Effect → Type 0
  Its effect = Follows command fields o.clock first last effect

  others_follow : has_cluster command.endpoint command.cluster ≡ true → Its (of_others o actor command fields)
  others_follow there =
      cond_both (command.cluster == administrator_commissioning.cluster) (admin.invoked (nobodys_rows o) o.known actor command fields o.clock)
      (if command.cluster == group_key_management.cluster then group_keys.invoked (own_rows o) actor command fields else apps.invoked (nobodys_rows o) actor command) Its
      (λ is. of_admin command fields o.clock first last o.known actor (nobodys_rows o) (on_endpoint command.endpoint (subst (λ (n : ℕ). has_cluster command.endpoint n ≡ true) (eqb-true command.cluster 0x3c is) there)) is)
      (λ other.
      cond_both (command.cluster == group_key_management.cluster) (group_keys.invoked (own_rows o) actor command fields) (apps.invoked (nobodys_rows o) actor command) Its
      (λ keys. of_other command fields o.clock first last (group_keys.invoked (own_rows o) actor command fields) other (λ leaf. keys_spare leaf (own_rows o) actor command fields))
      (λ neither. of_other command fields o.clock first last (apps.invoked (nobodys_rows o) actor command) other (λ leaf. apps_spare leaf (nobodys_rows o) actor command)))

  carried_follow : has_cluster command.endpoint command.cluster ≡ true → Its (carried_out given o actor command fields)
  carried_follow there =
      cond_both (command.cluster == operational_credentials.cluster) (credentials.invoked given.judged o.known actor command fields)
      (if is_commissioning command.cluster then commission.invoked o.known given.reachable actor command fields else of_others o actor command fields) Its
      (λ is. of_other command fields o.clock first last (credentials.invoked given.judged o.known actor command fields) (apart command.cluster operational_credentials.cluster is refl)
      (λ leaf. credentials_spare leaf moves given.judged o.known actor command fields))
      (λ is_not.
      cond_both (is_commissioning command.cluster) (commission.invoked o.known given.reachable actor command fields) (of_others o actor command fields) Its
      (λ joins. of_other command fields o.clock first last (commission.invoked o.known given.reachable actor command fields) (commissioning_apart command.cluster joins)
      (λ leaf. commission_spares leaf o.known given.reachable actor command fields))
      (λ neither. others_follow there))

  refused_follow : (status : Status) → not (code_of status == 0) ≡ true → Its (refused_at command status)
  refused_follow status failing = rw (not-true (code_of status == 0) failing) refl

  by_check : (timed : Bool) (may : Result CommandMeta Status) → checked o.seen actor command timed ≡ may → Its (unless_refused given o actor command fields may)
  by_check timed (Err status) is = refused_follow status (sym (ap fails is) ∙ checks_fail o.seen actor command timed)
  by_check timed (Ok meta) is =
      cond_both (has_form command fields) (carried_out given o actor command fields) (refused_at command InvalidCommand) Its
      (λ has. carried_follow (cluster_there (not (is_endpoint command.endpoint)) (has_cluster command.endpoint command.cluster) (command_of command) meta
      (there_is (may_invoke o.seen actor command) timed (find_command_of command) meta is)))
      (λ has_not. refused_follow InvalidCommand refl)

  pub command_follows : (timed : Bool) → Its (command_effect given o actor timed command fields)
  command_follows timed = by_check timed (checked o.seen actor command timed) refl

-- What holds of the steps of a command: by the crate that carries it out, where nothing stands in its way.
use Rattle.std.proofs.Common.{◌≡◌, ℕ, ◌==◌, ◌&&◌, not, Bool, true, false, List, [], Result, Ok, Err, refl, sym, subst, if◌then◌else◌}
use Rattle.std.proofs.lemmas.Bool.{cond_both, eqb-true}
use Rattle.mt_tlv.specs.View.{tree}
use Rattle.mt_tlv.specs.declared.value.Value.{Value}
use Rattle.mt_meta.specs.Fields.{has_fields}
use Rattle.mt_meta.specs.Finding.{find_command_of}
use Rattle.mt_meta.specs.Table.{command_fields}
use Rattle.mt_meta.specs.clusters.OperationalCredentials as operational_credentials
use Rattle.mt_meta.specs.declared.meta.CommandMeta.{CommandMeta}
use Rattle.mt_model.specs.messages.Effects.{refused_at}
use Rattle.mt_model.specs.rows.Seen.{Observation}
use Rattle.mt_model.specs.declared.messages.status.Status.{Status}
use Rattle.mt_model.specs.declared.messages.status.Status.TheVariants.{InvalidCommand, NeedsTimedInteraction, UnsupportedAccess}
use Rattle.mt_model.specs.declared.node.action.Effect.{Effect}
use Rattle.mt_model.specs.declared.node.action.NodeStep.{NodeStep}
use Rattle.mt_model.specs.declared.rows.place.Place.{Place}
use Rattle.mt_model.specs.declared.tables.access.Actor.{Actor}
use Rattle.mt_commission.specs.Commands as commission
use Rattle.mt_invoke.specs.Checking.{checked, has_form, if_found, may_invoke}
use Rattle.mt_opcreds.specs.Commands as credentials
use Rattle.mt_machine.specs.Commands.{carried_out, command_effect, is_commissioning, of_others, unless_refused}
use Rattle.mt_machine.specs.Environment.{Environment}

-- A command that may be carried out is there.

timely_is : (late : Bool) (its : Result CommandMeta Status) (meta : CommandMeta) → (if late then Err NeedsTimedInteraction else its) ≡ Ok meta → its ≡ Ok meta
timely_is true its meta is = absurd (cc)
timely_is false its meta is = is

there_is : (may timed : Bool) (there : Result CommandMeta Status) (meta : CommandMeta) → (if may then if_found timed there else Err UnsupportedAccess) ≡ Ok meta → there ≡ Ok meta
there_is false timed there meta is = absurd (cc)
there_is true timed (Err status) meta is = absurd (cc)
there_is true timed (Ok its) meta is = timely_is (its.timed && not timed) (Ok its) meta is

-- the fields of a command of Operational Credentials have the form of that cluster's table
form_at : (fields : Value) (leaf cluster : ℕ) → 0x3e ≡ cluster → has_fields (command_fields cluster leaf) (tree fields) ≡ true → has_fields (operational_credentials.command_fields leaf) (tree fields) ≡ true
unfolding command_fields
form_at fields leaf cluster is form = subst (λ n. has_fields (command_fields n leaf) (tree fields) ≡ true) (sym is) form

module _ (given : Environment) (o : Observation) (actor : Actor) (command : Place) (fields : Value) (P : List NodeStep → Type 0) (none : P [])
    (of_credentials : has_fields (operational_credentials.command_fields command.leaf) (tree fields) ≡ true → P (credentials.invoked given.judged o.known actor command fields).steps)
    (of_commission : has_fields (command_fields command.cluster command.leaf) (tree fields) ≡ true → P (commission.invoked o.known given.reachable actor command fields).steps)
    (by_others : (meta : CommandMeta) → find_command_of command ≡ Ok meta → P (of_others o actor command fields).steps)
  where
    carried : (meta : CommandMeta) → find_command_of command ≡ Ok meta → has_form command fields ≡ true → P (carried_out given o actor command fields).steps
    carried meta there form =
        cond_both (command.cluster == operational_credentials.cluster) (credentials.invoked given.judged o.known actor command fields)
        (if is_commissioning command.cluster then commission.invoked o.known given.reachable actor command fields else of_others o actor command fields) (λ (effect : Effect). P effect.steps)
        (λ is. of_credentials (form_at fields command.leaf command.cluster (sym (eqb-true command.cluster operational_credentials.cluster is)) form))
        (λ other.
        cond_both (is_commissioning command.cluster) (commission.invoked o.known given.reachable actor command fields) (of_others o actor command fields) (λ (effect : Effect). P effect.steps)
        (λ is. of_commission form) (λ is_not. by_others meta there))

    by_check : (timed : Bool) (may : Result CommandMeta Status) → checked o.seen actor command timed ≡ may → P (unless_refused given o actor command fields may).steps
    by_check timed (Err status) is = none
    by_check timed (Ok meta) is =
        cond_both (has_form command fields) (carried_out given o actor command fields) (refused_at command InvalidCommand) (λ (effect : Effect). P effect.steps)
        (λ has. carried meta (there_is (may_invoke o.seen actor command) timed (find_command_of command) meta is) has) (λ has_not. none)

    pub command_by : (timed : Bool) → P (command_effect given o actor timed command fields).steps
    command_by timed = by_check timed (checked o.seen actor command timed) refl

-- Why the commands of Administrator Commissioning are refused: each by its cause, and by no other.
use Rattle.std.proofs.Common.{◌≡◌, ◌↔◌, ℕ, ◌==◌, ◌&&◌, ◌||◌, ◌∙◌, inl, inr, is_some, not, nat_le, nat_lt, Bool, true, false, List, [], ◌∷◌, Option, Some, None, length, option_map, refl, sym, ap, arith, filter, map, subst, unwrap_or, if◌then◌else◌}
use Rattle.std.proofs.lemmas.Bool.{cases_Bool, eqb-true}
use Rattle.std.proofs.lemmas.Bool.Decides.{nat_tests}
use Rattle.mt_tlv.specs.Scalars.{unsigned_in}
use Rattle.mt_tlv.specs.View.{tree}
use Rattle.mt_tlv.specs.declared.value.Value.{Value}
use Rattle.mt_tlv.specs.declared.value.Value.TheVariants as values
use Rattle.mt_admin.specs.Commands as admin
use Rattle.mt_admin.specs.Windows as windows
use Rattle.mt_admin.specs.Windows.{window_at}
use Rattle.mt_admin.specs.declared.windows.Window.TheVariants.{Basic, Enhanced}
use Rattle.mt_admin.specs.declared.windows.WindowFault.TheVariants as faults
use Rattle.mt_meta.specs.Given.{number_of, octets_of}
use Rattle.mt_model.specs.messages.Effects.{answered_with, refused_at}
use Rattle.mt_model.specs.rows.Order.{in_order, row_at}
use Rattle.mt_model.specs.rows.Shown.{first_value}
use Rattle.mt_model.specs.rows.Sight.{seen_by}
use Rattle.mt_model.specs.tables.Known.{bare_armed}
use Rattle.mt_model.specs.declared.limits.TheConstants.{LEAST_ITERATIONS, LEAST_SALT_BYTES, LONGEST_WINDOW, MOST_ITERATIONS, MOST_SALT_BYTES, SHORTEST_WINDOW, VERIFIER_BYTES}
use Rattle.mt_model.specs.declared.messages.message.Reply.{Reply}
use Rattle.mt_model.specs.declared.messages.message.Reply.TheVariants.{InvokeClusterStatus, InvokeStatus}
use Rattle.mt_model.specs.declared.messages.status.Status.TheVariants.{InvalidCommand, Success}
use Rattle.mt_model.specs.declared.node.action.NodeStep.{NodeStep}
use Rattle.mt_model.specs.declared.node.state.NodeState.{NodeState}
use Rattle.mt_model.specs.declared.rows.place.Place.{Place}
use Rattle.mt_model.specs.declared.rows.place.Row.{Row}
use Rattle.mt_model.specs.declared.tables.network.Armed.{Armed}
use Rattle.mt_machine.specs.Commands.{nobodys_rows}
use Rattle.mt_machine.specs.Observation.{observation}
use Rattle.mt_machine.specs.State.{IsValid}
use Rattle.mt_windows.specs.Laws.{BasicOpensAreExact, OpensAreExact, RevokesAreExact}
use Rattle.mt_windows.specs.Refusals.{IsOpenAnswered, IsRevokeAnswered, has_no_verifier, is_busy, is_no_discriminator, is_no_timeout}
use Rattle.mt_windows.specs.Window.{is_open, open_basic_commissioning_window, open_commissioning_window, revoke_commissioning, window_in}
use Rattle.mt_windows.proofs.Shown.{valid_shows}

-- By cases.

-- the status of a command, and the code of its cluster
abbrev codes_in : Reply → ℕ
codes_in (InvokeStatus command status) = status
codes_in (InvokeClusterStatus command status code) = code
codes_in reply = 0

abbrev pub open_reply : Place → List NodeStep → Bool → Bool → Bool → Reply
open_reply command steps breaks_limits stands unverified =
    (if breaks_limits then refused_at command InvalidCommand
    else if stands then admin.failed command faults.Busy
    else if unverified then admin.failed command faults.PakeParameterError
    else answered_with command Success steps).reply

module _ (command : Place) (steps : List NodeStep) where
  -- none of two that differ, where it can't be
  neither : {A : Type 0} → (A → ⊥) → A ↔ (false ≡ true)
  neither not_so = (λ is. absurd (not_so is), λ is. absurd cc)

  both : {A : Type 0} → A → A ↔ (true ≡ true)
  both is = (λ its. refl, λ its. is)

  open_answered : (breaks_limits stands unverified : Bool) → IsOpenAnswered command breaks_limits stands unverified (open_reply command steps breaks_limits stands unverified)
  open_answered true stands unverified = record { invalid_command = both refl; busy = neither (λ is. absurd cc); pake_parameter_error = neither (λ is. absurd cc); success = neither (λ is. absurd (omega (arith, ap codes_in is))) }
  open_answered false true unverified = record { invalid_command = neither (λ is. absurd cc); busy = both refl; pake_parameter_error = neither (λ is. absurd (omega (arith, ap codes_in is))); success = neither (λ is. absurd cc) }
  open_answered false false true = record { invalid_command = neither (λ is. absurd cc); busy = neither (λ is. absurd (omega (arith, ap codes_in is))); pake_parameter_error = both refl; success = neither (λ is. absurd cc) }
  open_answered false false false = record { invalid_command = neither (λ is. absurd (omega (arith, ap codes_in is))); busy = neither (λ is. absurd cc); pake_parameter_error = neither (λ is. absurd cc); success = both refl }

  revoke_answered : (there : Bool) → IsRevokeAnswered command there (if there then answered_with command Success windows.closed else admin.failed command faults.WindowNotOpen).reply
  revoke_answered true = record { window_not_open = (λ is. absurd cc, λ is. absurd cc); success = both refl }
  revoke_answered false = record { window_not_open = (λ is. refl, λ is. refl); success = neither (λ is. absurd cc) }

-- Limits.

not_within : (least most n : ℕ) → not (nat_le least n && nat_le n most) ≡ (nat_lt n least || nat_lt most n)
not_within least most n = grind (arith, nat_tests)

not_and : (a b : Bool) → not (a && b) ≡ (not a || not b)
not_and true b = refl
not_and false b = refl

no_timeout : (fields : Value) → not (admin.is_timeout (number_of 0 fields)) ≡ is_no_timeout fields
no_timeout fields = not_within SHORTEST_WINDOW LONGEST_WINDOW (number_of 0 fields)

no_verifier : (fields : Value) → not (admin.is_verified fields) ≡ has_no_verifier fields
no_verifier fields =
    let verifier = length (octets_of 1 fields) == VERIFIER_BYTES in
    let iterations = nat_le LEAST_ITERATIONS (number_of 3 fields) && nat_le (number_of 3 fields) MOST_ITERATIONS in
    let salt = nat_le LEAST_SALT_BYTES (length (octets_of 4 fields)) && nat_le (length (octets_of 4 fields)) MOST_SALT_BYTES in
    not_and verifier (iterations && salt)
    ∙ ap (λ (b : Bool). not verifier || b) (not_and iterations salt
    ∙ (λ i. not_within LEAST_ITERATIONS MOST_ITERATIONS (number_of 3 fields) i || not_within LEAST_SALT_BYTES MOST_SALT_BYTES (length (octets_of 4 fields)) i))

-- What the asker's fabric sees of the window is what stands there.

abbrev seen_rows : ℕ → List Row → List Row
seen_rows fabric rows = filter (λ (row : Row). row.fabric == 0) (map (seen_by fabric) (in_order fabric rows))

seen_alone : (fabric : ℕ) (place : Place) (value : Value) → seen_rows fabric (row_at place 0 value ∷ []) ≡ row_at place 0 value ∷ []
seen_alone fabric place value = elim (cases_Bool (fabric == 0)) [
  | inl nobody ↦ subst (λ (n : ℕ). seen_rows n (row_at place 0 value ∷ []) ≡ row_at place 0 value ∷ []) (sym (eqb-true fabric 0 nobody)) refl
  | inr some ↦
      let lower : nat_lt 0 fabric ≡ true = grind (arith, nat_tests, some) in
      let own : (0 == fabric) ≡ false = grind (arith, some) in
      let higher : nat_lt fabric 0 ≡ false = grind (arith, nat_tests) in
      rw (lower, own, higher) refl
]

module _ (s : NodeState) (valid : IsValid s) (fabric : ℕ) where
  seen_status : nobodys_rows (observation fabric s) (window_at 0) ≡ row_at (window_at 0) 0 (values.Uint (window_in s).status) ∷ []
  seen_status = ap (seen_rows fabric) (valid_shows s valid).status ∙ seen_alone fabric (window_at 0) (values.Uint (window_in s).status)

  pub seen_open : windows.is_open (nobodys_rows (observation fabric s)) ≡ is_open (window_in s)
  seen_open = ap (λ (rows : List Row). not (unwrap_or (unsigned_in (tree (first_value rows))) 0 == 0)) seen_status

  known_armed : (armed : Option Armed) → is_some (option_map bare_armed armed) ≡ is_some armed
  known_armed None = refl
  known_armed (Some armed) = refl

  seen_busy : admin.is_busy (nobodys_rows (observation fabric s)) (observation fabric s).known ≡ is_busy s
  seen_busy = λ i. seen_open i || known_armed s.armed i

-- The laws.

pub opens_exact : OpensAreExact
opens_exact given s actor fields valid =
    let o = observation actor.fabric s in
    let steps = windows.opened Enhanced o.known.fabrics actor.fabric (number_of 0 fields) o.clock in
    subst (λ (b : Bool). IsOpenAnswered open_commissioning_window (is_no_timeout fields || is_no_discriminator fields) (is_busy s) (has_no_verifier fields) (open_reply open_commissioning_window steps (b || is_no_discriminator fields) (admin.is_busy (nobodys_rows o) o.known) (not (admin.is_verified fields))))
    (sym (no_timeout fields))
    (subst (λ (b : Bool). IsOpenAnswered open_commissioning_window (is_no_timeout fields || is_no_discriminator fields) (is_busy s) (has_no_verifier fields) (open_reply open_commissioning_window steps (is_no_timeout fields || is_no_discriminator fields) b (not (admin.is_verified fields))))
    (sym (seen_busy s valid actor.fabric))
    (subst (λ (b : Bool). IsOpenAnswered open_commissioning_window (is_no_timeout fields || is_no_discriminator fields) (is_busy s) (has_no_verifier fields) (open_reply open_commissioning_window steps (is_no_timeout fields || is_no_discriminator fields) (is_busy s) b))
    (sym (no_verifier fields))
    (open_answered open_commissioning_window steps (is_no_timeout fields || is_no_discriminator fields) (is_busy s) (has_no_verifier fields))))

pub basic_opens_exact : BasicOpensAreExact
basic_opens_exact given s actor fields valid =
    let o = observation actor.fabric s in
    let steps = windows.opened Basic o.known.fabrics actor.fabric (number_of 0 fields) o.clock in
    subst (λ (b : Bool). IsOpenAnswered open_basic_commissioning_window (is_no_timeout fields) (is_busy s) false (open_reply open_basic_commissioning_window steps b (admin.is_busy (nobodys_rows o) o.known) false))
    (sym (no_timeout fields))
    (subst (λ (b : Bool). IsOpenAnswered open_basic_commissioning_window (is_no_timeout fields) (is_busy s) false (open_reply open_basic_commissioning_window steps (is_no_timeout fields) b false))
    (sym (seen_busy s valid actor.fabric))
    (open_answered open_basic_commissioning_window steps (is_no_timeout fields) (is_busy s) false))

pub revokes_exact : RevokesAreExact
revokes_exact given s actor fields valid =
    subst (λ (b : Bool). IsRevokeAnswered revoke_commissioning (is_open (window_in s)) (if b then answered_with revoke_commissioning Success windows.closed else admin.failed revoke_commissioning faults.WindowNotOpen).reply)
    (sym (seen_open s valid actor.fabric))
    (revoke_answered revoke_commissioning [] (is_open (window_in s)))

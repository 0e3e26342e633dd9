-- What a time step leaves of a fabric's own part is made of that part and of what is public.
use Rattle.std.proofs.Common.{◌≡◌, ℕ, ◌==◌, ◌++◌, inl, inr, Bool, true, false, List, [], ◌∷◌, Option, Some, None, refl, sym, ap, ◌∙◌, filter, map, subst, arith, if◌then◌else◌}
use Rattle.std.specs.Option.{option_map}
use Rattle.std.proofs.lemmas.Bool.{cases_Bool, eqb-true}
use Rattle.mt_fabrics.specs.Table.{has_index}
use Rattle.mt_tlv.specs.declared.value.Value.TheVariants as values
use Rattle.mt_model.specs.Optional.{is_that}
use Rattle.mt_model.specs.rows.Seen.{own_entries}
use Rattle.mt_model.specs.tables.Known.{bare_armed}
use Rattle.mt_model.specs.tables.Leaving.{stays}
use Rattle.mt_model.specs.declared.node.action.Action.TheVariants.{Expire}
use Rattle.mt_model.specs.declared.node.action.NodeStep.TheVariants.{SetRow}
use Rattle.mt_model.specs.declared.node.action.NodeStep.TheVariants as steps
use Rattle.mt_model.specs.declared.node.action.PlainDeadline.{PlainDeadline}
use Rattle.mt_model.specs.declared.node.state.NodeSession.{NodeSession}
use Rattle.mt_model.specs.declared.node.state.NodeState.{NodeState}
use Rattle.mt_model.specs.declared.rows.place.Row.{Row}
use Rattle.mt_model.specs.declared.tables.access.AclEntry.{AclEntry}
use Rattle.mt_model.specs.declared.tables.fabric.Credentials.{Credentials}
use Rattle.mt_model.specs.declared.tables.fabric.Fabric.{Fabric}
use Rattle.mt_model.specs.declared.tables.network.Armed.{Armed}
use Rattle.mt_machine.specs.Environment.{Environment}
use Rattle.mt_subs.specs.Leaving.{is_live_as}
use Rattle.mt_machine.specs.Isolation.{Own, is_deadline_in, own, own_of_whole, owns, saved_for, veil, veil_of_whole, with_saved}
use Rattle.mt_machine.specs.Lines.{next_tick}
use Rattle.mt_machine.specs.Effects.{is_setting_step}
use Rattle.mt_machine.specs.Rollback.{breadcrumb, deadlines_left, ends, given_back, is_due, rollback, rolled_back, session_behind, undone}
use Rattle.mt_machine.specs.State.{IsValid, State}
use Rattle.mt_machine.specs.Step.{after_action, after_steps, at_time, window_steps}
use Rattle.std.specs.List.{list_all}
use Rattle.mt_model.specs.declared.node.action.NodeStep.{NodeStep}
use Rattle.mt_machine.proofs.Windows.{windows_set, windows_veiled}
use Rattle.mt_machine.proofs.Again.{own-again}
use Rattle.mt_machine.proofs.Rolled.{given-index}
use Rattle.mt_machine.proofs.Steps.{own-alike}

-- two filters give the same in either order
pub swap : {X : Type 0} (p q : X → Bool) (xs : List X) → filter p (filter q xs) ≡ filter q (filter p xs)
swap p q [] = refl
swap p q (x ∷ xs) = grind (arith, swap p q xs)

twice : {X : Type 0} (p : X → Bool) (xs : List X) → filter p (filter p xs) ≡ filter p xs
twice p [] = refl
twice p (x ∷ xs) = elim (cases_Bool (p x)) [ inl its ↦ rw (its, its) (ap (λ (rest : List _). x ∷ rest) (twice p xs)) | inr not_its ↦ rw not_its (twice p xs) ]

module _ (fabric : ℕ) where
  abbrev is_mine : NodeSession → Bool
  is_mine session = is_live_as fabric session.standing

  -- the own part without what was done under the fail-safe
  abbrev own_undone : Armed → Own → Own
  own_undone armed o = record {
    rows = filter (λ (row : Row). stays armed.added row.fabric) o.rows;
    entries = filter (λ (entry : AclEntry). stays armed.added entry.fabric) o.entries;
    fabrics = map (given_back armed.updated armed.saved_credentials) (filter (λ (f : Fabric). stays armed.added f.index) o.fabrics);
    saved = None;
    sessions = filter is_mine (map (session_behind armed) o.sessions);
    is_plain = false;
  }

  given_mine : (updated : Option ℕ) (saved : Option Credentials) (fs : List Fabric) → filter (has_index fabric) (map (given_back updated saved) fs) ≡ map (given_back updated saved) (filter (has_index fabric) fs)
  given_mine updated saved [] = refl
  given_mine updated saved (f ∷ fs) =
      let same : ((given_back updated saved f).index == fabric) ≡ (f.index == fabric) = ap (λ n. n == fabric) (given-index updated saved f) in
      elim (cases_Bool (f.index == fabric)) [
        | inl mine ↦ rw (same, mine) (ap (λ (rest : List Fabric). given_back updated saved f ∷ rest) (given_mine updated saved fs))
        | inr other ↦ rw (same, other) (given_mine updated saved fs)
      ]

  -- A session that is not its own does not become so.

  mine_behind : (armed : Armed) (session : NodeSession) (rest others : List NodeSession) (over mine : Bool) → ends armed session.auth session.standing ≡ over → is_live_as fabric session.standing ≡ mine
      → filter is_mine rest ≡ filter is_mine others
      → filter is_mine (session_behind armed session ∷ rest) ≡ filter is_mine (if mine then session_behind armed session ∷ others else others)
  mine_behind armed session rest others true true over mine same = rw over same
  mine_behind armed session rest others true false over mine same = rw over same
  mine_behind armed session rest others false true over mine same = rw (over, mine) (ap (λ (l : List NodeSession). session ∷ l) same)
  mine_behind armed session rest others false false over mine same = rw (over, mine) same

  behind_if : (armed : Armed) (session : NodeSession) (sessions : List NodeSession) (mine : Bool)
      → map (session_behind armed) (if mine then session ∷ sessions else sessions) ≡ (if mine then session_behind armed session ∷ map (session_behind armed) sessions else map (session_behind armed) sessions)
  behind_if armed session sessions true = refl
  behind_if armed session sessions false = refl

  behind_mine : (armed : Armed) (sessions : List NodeSession) → filter is_mine (map (session_behind armed) sessions) ≡ filter is_mine (map (session_behind armed) (filter is_mine sessions))
  behind_mine armed [] = refl
  behind_mine armed (session ∷ sessions) =
      mine_behind armed session (map (session_behind armed) sessions) (map (session_behind armed) (filter is_mine sessions)) (ends armed session.auth session.standing) (is_live_as fabric session.standing) refl refl (behind_mine armed sessions)
      ∙ ap (filter is_mine) (sym (behind_if armed session (filter is_mine sessions) (is_live_as fabric session.standing)))

  undone_own : (armed : Armed) (s : NodeState) → own fabric (undone armed s) ≡ own_undone armed (own fabric s)
  undone_own armed s = λ i. record {
    rows = swap (owns fabric) (λ (row : Row). stays armed.added row.fabric) s.rows i;
    entries = swap (λ (entry : AclEntry). entry.fabric == fabric) (λ (entry : AclEntry). stays armed.added entry.fabric) s.entries i;
    fabrics = (given_mine armed.updated armed.saved_credentials (filter (λ (f : Fabric). stays armed.added f.index) s.fabrics)
        ∙ ap (map (given_back armed.updated armed.saved_credentials)) (swap (has_index fabric) (λ (f : Fabric). stays armed.added f.index) s.fabrics)) i;
    saved = None;
    sessions = behind_mine armed s.sessions i;
    is_plain = false;
  }

  -- What is given back to it is its own, and nothing is given back to it where another was updated.

  abbrev its_saved : Armed → Option Credentials
  its_saved armed = if is_that fabric armed.updated then armed.saved_credentials else None

  given_alike : (updated : Option ℕ) (saved : Option Credentials) (f : Fabric) → (f.index == fabric) ≡ true → given_back updated (if is_that fabric updated then saved else None) f ≡ given_back updated saved f
  given_alike None saved f mine = refl
  given_alike (Some u) None f mine = elim (cases_Bool (u == fabric)) [ inl its ↦ rw its refl | inr other ↦ rw other refl ]
  given_alike (Some u) (Some c) f mine = elim (cases_Bool (u == fabric)) [
    | inl its ↦ rw its refl
    | inr other ↦
        let apart : (f.index == u) ≡ false = subst (λ n. (n == u) ≡ false) (sym (eqb-true f.index fabric mine)) (grind (arith, other)) in
        rw (other, apart) refl
  ]

  all_given_alike : (updated : Option ℕ) (saved : Option Credentials) (keep : Fabric → Bool) (fs : List Fabric)
      → map (given_back updated (if is_that fabric updated then saved else None)) (filter keep (filter (has_index fabric) fs)) ≡ map (given_back updated saved) (filter keep (filter (has_index fabric) fs))
  all_given_alike updated saved keep [] = refl
  all_given_alike updated saved keep (f ∷ fs) =
      let rest = all_given_alike updated saved keep fs in
      elim (cases_Bool (f.index == fabric)) [
        | inl mine ↦ elim (cases_Bool (keep f)) [
          | inl kept ↦ rw (mine, kept) (λ i. given_alike updated saved f mine i ∷ rest i)
          | inr gone ↦ rw (mine, gone) rest
        ]
        | inr other ↦ rw other rest
      ]

  abbrev veiled_armed : Armed → Armed
  veiled_armed armed = with_saved (its_saved armed) (bare_armed armed)

  undone_alike : (armed : Armed) (s : NodeState) → own_undone (veiled_armed armed) (own fabric s) ≡ own_undone armed (own fabric s)
  undone_alike armed s = λ i. record {
    rows = filter (λ (row : Row). stays armed.added row.fabric) (filter (owns fabric) s.rows);
    entries = filter (λ (entry : AclEntry). stays armed.added entry.fabric) (own_entries fabric s.entries);
    fabrics = all_given_alike armed.updated armed.saved_credentials (λ (f : Fabric). stays armed.added f.index) s.fabrics i;
    saved = None;
    sessions = filter is_mine (map (session_behind armed) (filter is_mine s.sessions));
    is_plain = false;
  }

  -- The whole rollback, which sets Breadcrumb besides.
  pub rolled_alike : (armed : Option Armed) (s t : NodeState) → own fabric t ≡ own fabric s → own fabric (rolled_back (option_map (with_saved (saved_for fabric armed)) (option_map bare_armed armed)) t) ≡ own fabric (rolled_back armed s)
  rolled_alike None s t same = same
  rolled_alike (Some armed) s t same =
      own-alike fabric None None (SetRow breadcrumb 0 (values.Uint 0 ∷ []) ∷ []) (undone (veiled_armed armed) t) (undone armed s) refl
      (undone_own (veiled_armed armed) t ∙ ap (own_undone (veiled_armed armed)) same ∙ undone_alike armed s ∙ sym (undone_own armed s))

  due_alike : (armed : Option Armed) (saved : Option Credentials) (now : ℕ) → is_due (option_map (with_saved saved) (option_map bare_armed armed)) now ≡ is_due armed now
  due_alike None saved now = refl
  due_alike (Some armed) saved now = refl

  abbrev expiring : Bool → List NodeStep
  expiring due = if due then steps.Expire ∷ [] else []

  expired_alike : (s : NodeState) (ms : ℕ) → IsValid s → (windows : List NodeStep) → list_all is_setting_step windows ≡ true → (due : Bool)
      → own fabric (after_steps None (expiring due ++ windows) (at_time ms (veil fabric s))) ≡ own fabric (after_steps None (expiring due ++ windows) (at_time ms s))
  expired_alike s ms valid windows sets true =
      own-alike fabric None None windows (rollback (at_time ms (veil fabric s))) (rollback (at_time ms s)) sets (rolled_alike s.armed (at_time ms s) (at_time ms (veil fabric s)) (own-again fabric s valid.fabrics_rise))
  expired_alike s ms valid windows sets false = own-alike fabric None None windows (at_time ms (veil fabric s)) (at_time ms s) sets (own-again fabric s valid.fabrics_rise)

  node_alike : (given : Environment) (s : NodeState) (ms : ℕ) → IsValid s → own fabric (after_action given (veil fabric s) Expire ms) ≡ own fabric (after_action given s Expire ms)
  node_alike given s ms valid =
      ap (λ (due : Bool). own fabric (after_steps None (expiring due ++ window_steps (veil fabric s) ms) (at_time ms (veil fabric s)))) (due_alike s.armed (saved_for fabric s.armed) ms)
      ∙ ap (λ (windows : List NodeStep). own fabric (after_steps None (expiring (is_due s.armed ms) ++ windows) (at_time ms (veil fabric s)))) (windows_veiled fabric s ms)
      ∙ expired_alike s ms valid (window_steps s ms) (windows_set s ms) (is_due s.armed ms)

  -- Deadlines.

  abbrev mine_of : List PlainDeadline → List PlainDeadline
  mine_of ds = filter (is_deadline_in fabric) ds

  left_alike : (armed : Option Armed) (saved : Option Credentials) (ds : List PlainDeadline) → mine_of (deadlines_left (option_map (with_saved saved) (option_map bare_armed armed)) (mine_of ds)) ≡ mine_of (deadlines_left armed ds)
  left_alike None saved ds = twice (is_deadline_in fabric) ds
  left_alike (Some armed) saved ds =
      ap mine_of (sym (swap (is_deadline_in fabric) (λ (d : PlainDeadline). stays armed.added d.fabric) ds)) ∙ twice (is_deadline_in fabric) (filter (λ (d : PlainDeadline). stays armed.added d.fabric) ds)

  deadlines_alike : (due : Bool) (armed : Option Armed) (saved : Option Credentials) (ds : List PlainDeadline)
      → mine_of (if due then deadlines_left (option_map (with_saved saved) (option_map bare_armed armed)) (mine_of ds) else mine_of ds) ≡ mine_of (if due then deadlines_left armed ds else ds)
  deadlines_alike true armed saved ds = left_alike armed saved ds
  deadlines_alike false armed saved ds = twice (is_deadline_in fabric) ds

  pub ticks_on_veil : (given : Environment) (s : State) (ms : ℕ) → IsValid s.node → own_of_whole fabric (next_tick given (veil_of_whole fabric s) ms) ≡ own_of_whole fabric (next_tick given s ms)
  ticks_on_veil given s ms valid = λ i. record {
    node = node_alike given s.node ms valid i;
    deadlines = (ap (λ (due : Bool). mine_of (if due then deadlines_left (veil fabric s.node).armed (mine_of s.deadlines) else mine_of s.deadlines)) (due_alike s.node.armed (saved_for fabric s.node.armed) ms)
        ∙ deadlines_alike (is_due s.node.armed ms) s.node.armed (saved_for fabric s.node.armed) s.deadlines) i;
  }

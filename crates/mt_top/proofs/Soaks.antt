-- Events made from a number, one after the other.
use Rattle.std.proofs.Common.{◌≡◌, ◌≤◌, ℕ, ◌+◌, true, leb-true, length, List, ◌∷◌, ◌++◌, sym, ap, append_assoc, ◌∙◌}
use Rattle.std.proofs.lemmas.Bool.{and_parts}
use Rattle.std.proofs.lemmas.List.{append-nil}
use Rattle.mt_model.specs.declared.tables.fabric.Fabric.{Fabric}
use Rattle.mt_model.specs.texts.Config.{are_fabrics}
use Rattle.mt_model.specs.declared.texts.recording.Event.{Event}
use Rattle.mt_model.specs.declared.texts.recording.Sent.{Sent}
use Rattle.mt_soak.specs.Generated.{State, event_of, events_from}
use Rattle.mt_soak.specs.Generated as generated
use Rattle.mt_soak.specs.Summary.{IsTallyOf}
use Rattle.mt_soak.specs.declared.tally.Tally.{Tally}
use Rattle.mt_top.specs.Begun.{Begun, behind, Plays, sent_by, Tells}
use Rattle.mt_compare.specs.mt_play.Playing.{Playing}
use Rattle.mt_top.proofs.Plays.{sent_of}

-- What was told so far of all events, for which node the code stands, and what is left: so many events from a state on.
pub record Soaking (begun : Begun) (all : List Event) (player : Playing) (tally : Tally) (state : State) (left : ℕ) : Type 0 where
  pub told : List Sent
  pub at : Begun
  pub stands : Plays player at
  pub tallied : IsTallyOf tally told
  pub sent : sent_of begun all ≡ told ++ sent_of at (events_from state left)

-- one event more was told
pub soak_on : (begun : Begun) (all : List Event) (old new : Playing) (tally after : Tally) (state : State) (left : ℕ) → events_from state (left + 1) ≡ event_of state ∷ events_from (generated.behind state) left
    → (h : Soaking begun all old tally state (left + 1)) → Tells h.at h.told new after (event_of state) → Soaking begun all new after (generated.behind state) left
soak_on begun all old new tally after state left first h tells = record {
  told = h.told ++ sent_by h.at (event_of state);
  at = behind h.at (event_of state);
  stands = tells.1;
  tallied = tells.0;
  sent = h.sent ∙ ap (λ (events : List Event). h.told ++ sent_of h.at events) first
      ∙ sym (append_assoc h.told (sent_by h.at (event_of state)) (sent_of (behind h.at (event_of state)) (events_from (generated.behind state) left)));
}

-- no event is left
pub soak_end : (begun : Begun) (all : List Event) (player : Playing) (tally : Tally) (state : State) (h : Soaking begun all player tally state 0) → sent_of begun all ≡ h.told
soak_end begun all player tally state h = h.sent ∙ append-nil h.told

-- a configuration has few fabrics
pub few_fabrics : (fabrics : List Fabric) → are_fabrics fabrics ≡ true → length fabrics ≤ 16
unfolding are_fabrics
few_fabrics fabrics are = leb-true (length fabrics) 16 (and_parts _ _ (and_parts _ _ (and_parts _ _ (and_parts _ _ are).0).0).0).0

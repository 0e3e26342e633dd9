-- The accounts of the sessions stand beside the node, and so they do behind a line.
use Rattle.std.proofs.Common.{◌≡◌, ◌≢◌, ◌∙◌, sym, subst, inl, inr, ℕ, ◌==◌, ◌<◌, Bool, true, false, true≢false, List, eq-eqb, if◌then◌else◌}
use Rattle.std.proofs.lemmas.Bool.{cases_Bool, eqb-true}
use Rattle.mt_model.specs.declared.texts.config.SessionRow.{SessionRow}
use Rattle.mt_talk.specs.Talks.{Talk}
use Rattle.mt_shares.specs.mt_runs.Isolation.{IsValidWhole}
use Rattle.mt_shares.specs.mt_runs.Whole.{SessionTalk, Whole}
use Rattle.mt_shares.specs.mt_interactions.Configured.{ConfiguredInteractions}
use Rattle.mt_shares.specs.mt_layer.Agreeing.{Serves}
use Rattle.mt_shares.specs.mt_layer.Lines.{whole_of}
use Rattle.mt_subscribers.specs.Over.{IsOver}
use Rattle.mt_shares.specs.mt_worker.Accounts.{Account, Accounts, account_behind, behind}
use Rattle.mt_shares.specs.mt_worker.Due.{is_in}
use Rattle.mt_shares.specs.mt_worker.Gots.{Each, Got}
use Rattle.mt_shares.specs.mt_worker.Subscription.{Subscription}
use Rattle.mt_legal.proofs.Told.{IsTold, told_on}

-- The account of this session: its talk serves, and its subscriptions are told over the session.
pub record StandsFor (node : ConfiguredInteractions) (talks : List SessionTalk) (id : ℕ) (a : Account) : Type 0 where
  pub id_is : a.row.session ≡ id
  pub serves : Serves (whole_of node talks) a.row a.talk
  pub told : Each (IsTold a.row.session node.ledger.subs) a.subscriptions

-- THE ACCOUNTS of these sessions
pub record Stands (node : ConfiguredInteractions) (talks : List SessionTalk) (ids : List ℕ) (accounts : Accounts) : Type 0 where
  pub valid : IsValidWhole (whole_of node talks)
  pub each : (id : ℕ) → is_in ids id ≡ true → StandsFor node talks id (accounts id)

-- what an entry leaves as it is
pub unmoved : (accounts : Accounts) (got : Got) → ((a : Account) → account_behind a got.told ≡ a) → behind accounts got ≡ accounts
unmoved accounts got same = λ i id. by_test (accounts id) (id == got.session) i
  where
    by_test : (a : Account) (b : Bool) → (if b then account_behind a got.told else a) ≡ a
    by_test a true = same a
    by_test a false = λ i. a

-- a whole with the state and the ledger of a node
pub whole_is : (now : ConfiguredInteractions) (w : Whole) → w.state ≡ now.state → w.ledger ≡ now.ledger → w ≡ whole_of now w.talks
whole_is now w state ledger = λ i. record { state = state i; ledger = ledger i; talks = w.talks }

-- BEHIND A LINE, where the whole has the node's state and ledger, and each subscription is told over its session still
module _ (node now : ConfiguredInteractions) (talks : List SessionTalk) (w : Whole) (state : w.state ≡ now.state) (ledger : w.ledger ≡ now.ledger) (valid : IsValidWhole w) (stays : (fabric id session : ℕ) → fabric < 256 → IsOver fabric id session node.ledger.subs → IsOver fabric id session now.ledger.subs) where
  still_valid : IsValidWhole (whole_of now w.talks)
  still_valid = subst IsValidWhole (whole_is now w state ledger) valid

  serves_so : (row : SessionRow) (u : Talk) → Serves w row u → Serves (whole_of now w.talks) row u
  serves_so row u = subst (λ (v : Whole). Serves v row u) (whole_is now w state ledger)

  told_so : (session : ℕ) (subscriptions : List Subscription) → Each (IsTold session node.ledger.subs) subscriptions → Each (IsTold session now.ledger.subs) subscriptions
  told_so session subscriptions each = told_on session node.ledger.subs now.ledger.subs (λ fabric id. stays fabric id session) subscriptions each

  -- one that is as it was
  stands_on : (id : ℕ) (a : Account) → StandsFor node talks id a → (Serves (whole_of node talks) a.row a.talk → Serves w a.row a.talk) → StandsFor now w.talks id a
  stands_on id a it serves = record { id_is = it.id_is; serves = serves_so a.row a.talk (serves it.serves); told = told_so a.row.session a.subscriptions it.told }

  -- the one of which the line is
  pub stands_anew : (id : ℕ) (a : Account) (u : Talk) (subscriptions : List Subscription) → a.row.session ≡ id → Serves w a.row u → Each (IsTold a.row.session now.ledger.subs) subscriptions
      → StandsFor now w.talks id (record a { talk = u; subscriptions = subscriptions })
  stands_anew id a u subscriptions is serves told = record { id_is = is; serves = serves_so a.row u serves; told = told }

  module _ (ids : List ℕ) (accounts : Accounts) (stands : Stands node talks ids accounts) where
    -- where it is nobody's
    pub all_stand : ((other : SessionRow) (v : Talk) → Serves (whole_of node talks) other v → Serves w other v) → Stands now w.talks ids accounts
    all_stand others = record {
      valid = still_valid;
      each = λ id mine. stands_on id (accounts id) (stands.each id mine) (others (accounts id).row (accounts id).talk);
    }

    -- where it is of one of these sessions
    module _ (got : Got) (mine : is_in ids got.session ≡ true) (own : StandsFor now w.talks got.session (account_behind (accounts got.session) got.told)) (others : (other : SessionRow) (v : Talk) → other.session ≢ (accounts got.session).row.session → Serves (whole_of node talks) other v → Serves w other v) where
      each_stands : (id : ℕ) → is_in ids id ≡ true → StandsFor now w.talks id (behind accounts got id)
      each_stands id its =
          let Either : Bool → Type 0 = λ b. StandsFor now w.talks id (if b then account_behind (accounts id) got.told else accounts id) in
          elim (cases_Bool (id == got.session)) [
            | inl same ↦
                let is : got.session ≡ id = sym (eqb-true id got.session same) in
                subst Either (sym same) (subst (λ (n : ℕ). StandsFor now w.talks n (account_behind (accounts n) got.told)) is own)
            | inr differs ↦
                let it : StandsFor node talks id (accounts id) = stands.each id its in
                let here : StandsFor node talks got.session (accounts got.session) = stands.each got.session mine in
                let apart : (accounts id).row.session ≢ (accounts got.session).row.session =
                λ same. true≢false (sym (eq-eqb id got.session (sym it.id_is ∙ same ∙ here.id_is)) ∙ differs) in
                subst Either (sym differs) (stands_on id (accounts id) it (others (accounts id).row (accounts id).talk apart))
          ]

      pub one_stands : Stands now w.talks ids (behind accounts got)
      one_stands = record { valid = still_valid; each = each_stands }

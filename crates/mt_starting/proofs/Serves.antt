-- A node that starts may be served.
use Rattle.std.proofs.Common.{◌≡◌, ◌∙◌, refl, sym, ap, subst, ℕ, ◌+◌, ◌==◌, ◌&&◌, ◌||◌, not, Bool, true, List, [], ◌∷◌, Option, Some, None, filter, map, length, nat_le}
use Rattle.std.proofs.lemmas.Bool.{and_from, and_parts, or_right}
use Rattle.std.specs.List.{list_all, list_any}
use Rattle.std.specs.Option.{option_map}
use Rattle.mt_durable.specs.declared.durable.Entry.{Entry}
use Rattle.mt_model.specs.declared.node.action.PlainDeadline.{PlainDeadline}
use Rattle.mt_model.specs.declared.node.state.NodeSession.{NodeSession}
use Rattle.mt_model.specs.declared.node.state.NodeState.{NodeState}
use Rattle.mt_model.specs.declared.texts.config.Config.{Config}
use Rattle.mt_model.specs.declared.texts.config.CsrRow.{CsrRow}
use Rattle.mt_model.specs.declared.texts.config.JoinRow.{JoinRow}
use Rattle.mt_model.specs.declared.texts.config.RootRow.{RootRow}
use Rattle.mt_model.specs.declared.texts.config.SessionRow.{SessionRow}
use Rattle.mt_model.specs.texts.Config.{are_csrs, are_joins, are_roots, is_csr, is_join, is_root, none_alike}
use Rattle.mt_model.specs.texts.Contents.{Contents, contents_of}
use Rattle.mt_opcreds.specs.Laws.{KeepsRules}
use Rattle.mt_shared.specs.mt_interactions.Configured.{ConfiguredInteractions, IsStarted}
use Rattle.mt_shared.specs.mt_ledger.Ledger.{Ledger, opened_at}
use Rattle.mt_shared.specs.mt_machine.Environment.{given_by}
use Rattle.mt_shared.specs.mt_machine.State.{IsValid}
use Rattle.mt_shared.specs.mt_regained.Begun.{ceiling_in, next_boot}
use Rattle.mt_shared.specs.mt_regained.Regained.{state_in}
use Rattle.mt_shared.specs.mt_runs.Isolation.{IsValidWhole, have_one_id, is_quiet, session_id, talk_id}
use Rattle.mt_shared.specs.mt_runs.LineLaws.{WholeOpensValid}
use Rattle.mt_shared.specs.mt_runs.Whole.{Whole, begun, begun_in, is_live, is_of_boot, whole_with}
use Rattle.mt_starting.specs.Starts.{MayServe}
use Rattle.mt_starting.proofs.Begins.{some_same}

-- The verdicts of a configuration keep their rules.

roots_keep : (rows : List RootRow) → are_roots rows ≡ true → list_all is_root rows ≡ true
unfolding are_roots
roots_keep rows are = (and_parts (nat_le (length rows) 16) (list_all is_root rows) are).1

csrs_keep : (rows : List CsrRow) → are_csrs rows ≡ true → list_all is_csr rows ≡ true
unfolding are_csrs
csrs_keep rows are = (and_parts (nat_le (length rows) 16) (list_all is_csr rows) are).1

joins_keep : (rows : List JoinRow) → are_joins rows ≡ true → list_all is_join rows ≡ true
unfolding are_joins
joins_keep rows are = (and_parts (nat_le (length rows) 16) (list_all is_join rows) are).1

keeps_rules : (config : Config) → KeepsRules (given_by (contents_of config)).judged
keeps_rules config = record {
  roots = roots_keep config.roots config.roots_are_valid;
  csrs = csrs_keep config.csrs config.csrs_are_valid;
  joins = joins_keep config.joins config.joins_are_valid;
}

-- Each session has its talk, since a boot begins with sessions that have the ids of its rows.

names_stand : (made : SessionRow → NodeSession) → ((row : SessionRow) → row.session ≡ (made row).session) → (rows : List SessionRow) → map talk_id (map begun rows) ≡ map session_id (map made rows)
names_stand made same [] = refl
names_stand made same (row ∷ rows) = λ i. same row i ∷ names_stand made same rows i

abbrev HaveTalks : List SessionRow → NodeState → Type 0
HaveTalks rows s = map talk_id (begun_in s.boot rows) ≡ map session_id s.sessions

-- What holds of all that is made holds of what is made where something was found.
mapped : {A B : Type 0} (made : A → B) (P : B → Type 0) → ((a : A) → P (made a)) → (found : Option A) (b : B) → option_map made found ≡ Some b → P b
mapped made P each None b is = absurd cc
mapped made P each (Some a) b is = subst P (some_same (made a) b is) (each a)

have_talks : (config : Config) (found : List Entry) (s : NodeState) → next_boot config found ≡ Some s → HaveTalks config.sessions s
have_talks config [] s next = subst (HaveTalks config.sessions) (some_same _ s next) (names_stand _ (λ row. refl) (filter (is_of_boot 1) config.sessions))
have_talks config (entry ∷ entries) s next = mapped _ (HaveTalks config.sessions) (λ (kept : NodeState). names_stand _ (λ row. refl) (filter (is_of_boot (kept.boot + 1)) config.sessions)) (state_in (entry ∷ entries)) s next

-- Over a session of which nothing was said nothing is open.
begun_quiet : (s : NodeState) (rows : List SessionRow) → list_all (is_quiet s) (map begun rows) ≡ true
begun_quiet s [] = refl
begun_quiet s (row ∷ rows) = and_from _ _ (or_right (is_live s row.session) true refl) (begun_quiet s rows)

-- Whether the ids of sessions differ, the ids alone say.

abbrev is_same : ℕ → ℕ → Bool
is_same a b = a == b

any_by_ids : (id : ℕ) (sessions : List NodeSession) → list_any (λ (other : NodeSession). id == other.session) sessions ≡ list_any (is_same id) (map session_id sessions)
any_by_ids id [] = refl
any_by_ids id (session ∷ sessions) = ap (λ (b : Bool). (id == session.session) || b) (any_by_ids id sessions)

differ_by_ids : (sessions : List NodeSession) → none_alike have_one_id sessions ≡ none_alike is_same (map session_id sessions)
differ_by_ids [] = refl
differ_by_ids (session ∷ sessions) = λ i. not (any_by_ids session.session sessions i) && differ_by_ids sessions i

module _ (opens : WholeOpensValid) (config : Config) (found : List Entry) (one : ConfiguredInteractions) (started : IsStarted found config one) (valid : IsValid one.state.node) where
  -- this boot, with the configuration's own fabrics and entries

  abbrev whole_opened : Whole
  whole_opened = whole_with one.state.node.boot (ceiling_in found) config.fabrics config.entries config.sessions

  opened : IsValidWhole whole_opened
  opened = opens one.state.node.boot (ceiling_in found) config.fabrics config.entries config.sessions valid.boot_fits config.fabrics_are_valid config.entries_are_valid config.sessions_are_valid

  -- and what begins

  abbrev whole_at : List PlainDeadline → Ledger → Contents → Whole
  whole_at deadlines ledger contents = record {
    state = record { node = one.state.node; deadlines = deadlines };
    ledger = ledger;
    talks = begun_in one.state.node.boot contents.sessions;
  }

  stand : HaveTalks config.sessions one.state.node
  stand = have_talks config found one.state.node started.node.state

  begins_valid : IsValidWhole (whole_at [] (opened_at (ceiling_in found)) (contents_of config))
  begins_valid = record {
    node = valid;
    deadlines = record { few = λ fabric. refl; differ = refl; known = refl };
    ledger = record { history = opened.ledger.history; subs = opened.ledger.subs; there = refl; owners = refl };
    sessions_differ = differ_by_ids one.state.node.sessions ∙ ap (none_alike is_same) (sym stand ∙ opened.talks_stand) ∙ sym (differ_by_ids whole_opened.state.node.sessions) ∙ opened.sessions_differ;
    talks_stand = stand;
    quiet = begun_quiet one.state.node (filter (is_of_boot one.state.node.boot) config.sessions);
  }

  pub may_serve : MayServe one
  may_serve = record {
    rules = subst (λ (contents : Contents). KeepsRules (given_by contents).judged) (sym started.node.configured) (keeps_rules config);
    valid = subst IsValidWhole (λ i. whole_at (sym started.deadlines i) (sym started.ledger i) (sym started.node.configured i)) begins_valid;
  }

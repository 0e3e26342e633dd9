-- Steps on the fail-safe leave a valid state valid: arming, renewing, completing, a root certificate, a signing request.
use Rattle.std.proofs.Common.{◌≡◌, ℕ, ◌==◌, ◌||◌, inl, inr, is_none, nat_le, bytes_eq, Bool, true, false, List, length, Option, Some, None, option_map, refl, subst, sym, ◌∙◌, map}
use Rattle.std.proofs.lemmas.Bool.{and_from, and_parts, both_ways, cond_both, eqb-true, eq-eqb, or_cases, or_left, or_right}
use Rattle.std.proofs.lemmas.List.Folds.{list_all-map}
use Rattle.std.specs.List.{list_any}
use Rattle.mt_failsafe.specs.Notes.{was_added}
use Rattle.mt_failsafe.specs.Calls.{armed_by, renewed}
use Rattle.mt_failsafe.specs.Notes as notes
use Rattle.mt_model.specs.Optional.{is_that}
use Rattle.mt_model.specs.texts.Config.{is_certificate}
use Rattle.mt_model.specs.declared.node.state.NodeSession.{NodeSession}
use Rattle.mt_model.specs.declared.node.state.NodeState.{NodeState}
use Rattle.mt_model.specs.declared.node.state.Standing.{Standing}
use Rattle.mt_model.specs.declared.node.state.Standing.TheVariants.{Waits, Live, Ended}
use Rattle.mt_model.specs.declared.tables.access.Auth.{Auth}
use Rattle.mt_model.specs.declared.tables.access.Auth.TheVariants.{Pase, Case, Group}
use Rattle.mt_model.specs.declared.tables.fabric.Fabric.{Fabric}
use Rattle.mt_model.specs.declared.tables.network.Armed.{Armed}
use Rattle.mt_machine.specs.Effects.{armed_behind, completed, plain_without, session_completed, standing_completed, trusting, with_request, with_root}
use Rattle.mt_machine.specs.Rollback.{roots_behind}
use Rattle.mt_machine.specs.State.{IsValid, is_certificate_if, is_nonce_if, follows, is_added, is_among, is_given_root, is_plain_of, is_session, is_updated, is_used, keeps_facts, plain_follows, stands_rightly}
use Rattle.mt_model.specs.tables.Holding.{is_root_of}
use Rattle.mt_machine.proofs.Opening.{same_bytes, with_root_differ, with_root_used}
use Rattle.mt_machine.proofs.Rolled.{all-passed, none-filter}
use Rattle.mt_machine.proofs.ValidParts.{ArmedHolds, PlainHolds, RootsHold, SessionsHold, its_armed, its_entries, its_fabrics, its_networks, its_plain, its_roots, its_rows, its_sessions, with-parts}
use Rattle.mt_machine.proofs.Counting.{all-filter, all-weaker, impossible}
use Rattle.mt_machine.proofs.Writes.{passes_among}

-- What holds under a fail-safe.
record Under (s : NodeState) (armed : Option Armed) (roots : List (List ℕ)) (sessions : List NodeSession) (plain : Option ℕ) : Type 0 where
  trusted : RootsHold s.fabrics armed roots
  open_ones : SessionsHold s.fabrics armed sessions
  plain_one : PlainHolds s.fabrics armed plain
  itself : ArmedHolds s.fabrics armed

under : (s : NodeState) → IsValid s → Under s s.armed s.roots s.sessions s.plain
under s valid = record { trusted = its_roots s valid; open_ones = its_sessions s valid; plain_one = its_plain s valid; itself = its_armed s valid }

valid-under : (s : NodeState) → IsValid s → (armed : Option Armed) (roots : List (List ℕ)) (sessions : List NodeSession) (plain : Option ℕ) → Under s armed roots sessions plain
    → IsValid (record s { roots = roots; armed = armed; sessions = sessions; plain = plain })
valid-under s valid armed roots sessions plain u =
    with-parts s valid s.fabrics s.entries s.rows roots s.networks armed sessions plain
    (its_fabrics s valid) (its_entries s valid) (its_rows s valid) u.trusted (its_networks s valid) u.open_ones u.plain_one u.itself

-- Arming and renewing.

module _ (s : NodeState) (valid : IsValid s) where
  -- who has no fabric, or one of the table, has an index that fits
  index_fits : (owner : ℕ) → (owner == 0 || is_among s.fabrics owner) ≡ true → nat_le owner 16 ≡ true
  index_fits owner known = elim (or_cases (owner == 0) (is_among s.fabrics owner) known) [
    | inl none ↦ subst (λ n. nat_le n 16 ≡ true) (sym (eqb-true owner 0 none)) refl
    | inr among ↦ passes_among (λ n. nat_le n 16) owner s.fabrics valid.indexes among
  ]

  armed_under : (owner now seconds : ℕ) → (owner == 0 || is_among s.fabrics owner) ≡ true → (armed : Option Armed) → Under s armed s.roots s.sessions s.plain → Under s (armed_behind owner now seconds s.networks armed) s.roots s.sessions s.plain
  armed_under owner now seconds known None u = record {
    trusted = record { differ = u.trusted.differ; forms = u.trusted.forms; used = u.trusted.used };
    open_ones = record { stand = u.open_ones.stand; follow = u.open_ones.follow };
    plain_one = record { stands = u.plain_one.stands; follows = plain s.plain u.plain_one.follows };
    itself = record { facts = and_from _ _ (eq-eqb owner owner refl) refl; names = and_from _ _ (index_fits owner known) known; saved = and_from _ _ (its_networks s valid) refl; given = refl };
  }
    where
      plain : (p : Option ℕ) → plain_follows None p ≡ true → plain_follows (Some (armed_by owner now seconds s.networks)) p ≡ true
      plain None follow = refl
      plain (Some fabric) follow = follow
  armed_under owner now seconds known (Some armed) u = u

  pub arm-valid : (owner seconds : ℕ) → (owner == 0 || is_among s.fabrics owner) ≡ true → IsValid (record s { armed = armed_behind owner s.clock seconds s.networks s.armed })
  arm-valid owner seconds known = valid-under s valid (armed_behind owner s.clock seconds s.networks s.armed) s.roots s.sessions s.plain (armed_under owner s.clock seconds known s.armed (under s valid))

  renewed_under : (now seconds : ℕ) (armed : Option Armed) → Under s armed s.roots s.sessions s.plain → Under s (option_map (renewed now seconds) armed) s.roots s.sessions s.plain
  renewed_under now seconds None u = u
  renewed_under now seconds (Some armed) u = record {
    trusted = record { differ = u.trusted.differ; forms = u.trusted.forms; used = u.trusted.used };
    open_ones = record { stand = u.open_ones.stand; follow = u.open_ones.follow };
    plain_one = record { stands = u.plain_one.stands; follows = u.plain_one.follows };
    itself = record { facts = u.itself.facts; names = u.itself.names; saved = u.itself.saved; given = u.itself.given };
  }

  pub renew-valid : (seconds : ℕ) → IsValid (record s { armed = option_map (renewed s.clock seconds) s.armed })
  renew-valid seconds = valid-under s valid (option_map (renewed s.clock seconds) s.armed) s.roots s.sessions s.plain (renewed_under s.clock seconds s.armed (under s valid))

  -- A signing request.

  request_under : (nonce : List ℕ) (update : Bool) → (length nonce == 32) ≡ true → (armed : Option Armed) → Under s armed s.roots s.sessions s.plain → Under s (option_map (notes.with_csr nonce update) armed) s.roots s.sessions s.plain
  request_under nonce update form None u = u
  request_under nonce update form (Some armed) u = record {
    trusted = record { differ = u.trusted.differ; forms = u.trusted.forms; used = u.trusted.used };
    open_ones = record { stand = u.open_ones.stand; follow = u.open_ones.follow };
    plain_one = record { stands = u.plain_one.stands; follows = u.plain_one.follows };
    itself = record { facts = u.itself.facts; names = u.itself.names; saved = u.itself.saved; given = and_from _ _ (and_parts (is_certificate_if armed.root) (is_nonce_if armed.csr) u.itself.given).0 form };
  }

  pub request-valid : (nonce : List ℕ) (update : Bool) → (length nonce == 32) ≡ true → IsValid (with_request nonce update s)
  request-valid nonce update form =
      cond_both (notes.may_note_csr update s.armed) (record s { armed = option_map (notes.with_csr nonce update) s.armed }) s IsValid
      (λ may. valid-under s valid (option_map (notes.with_csr nonce update) s.armed) s.roots s.sessions s.plain (request_under nonce update form s.armed (under s valid)))
      (λ may_not. valid)

  -- A root certificate.

  -- where none was given, a fabric uses each
  by_fabric : (fabrics : List Fabric) (root : List ℕ) (given : Option (List ℕ)) → is_none given ≡ true → (list_any (is_root_of root) fabrics || is_given_root root given) ≡ true → list_any (is_root_of root) fabrics ≡ true
  by_fabric fabrics root None none used = elim (or_cases (list_any (is_root_of root) fabrics) false used) [ inl by ↦ by | inr not ↦ impossible not ]
  by_fabric fabrics root (Some given) none used = impossible none

  root_under : (cert : List ℕ) → is_certificate cert ≡ true → (armed : Option Armed) → notes.may_note_root armed ≡ true → Under s armed s.roots s.sessions s.plain
      → Under s (option_map (notes.with_root cert) armed) (with_root s.roots cert) s.sessions s.plain
  root_under cert form None may u = impossible may
  root_under cert form (Some armed) may u = record {
    trusted = record {
      differ = with_root_differ s.roots cert u.trusted.differ;
      forms = with_root_used is_certificate s.roots cert u.trusted.forms form;
      used = with_root_used (is_used s.fabrics (Some (notes.with_root cert armed))) s.roots cert
          (all-weaker (is_used s.fabrics (Some armed)) (is_used s.fabrics (Some (notes.with_root cert armed)))
          (λ root used. or_left _ _ (by_fabric s.fabrics root armed.root none used)) s.roots u.trusted.used)
          (or_right (list_any (is_root_of cert) s.fabrics) _ (same_bytes cert));
    };
    open_ones = record { stand = u.open_ones.stand; follow = u.open_ones.follow };
    plain_one = record { stands = u.plain_one.stands; follows = u.plain_one.follows };
    itself = record { facts = u.itself.facts; names = u.itself.names; saved = u.itself.saved; given = and_from _ _ form (and_parts (is_certificate_if armed.root) (is_nonce_if armed.csr) u.itself.given).1 };
  }
    where
      none : is_none armed.root ≡ true
      none = (and_parts (notes.is_unused armed) (is_none armed.root) may).1

  pub root-valid : (cert : List ℕ) → is_certificate cert ≡ true → IsValid (trusting cert s)
  root-valid cert form =
      cond_both (notes.may_note_root s.armed) (record s { roots = with_root s.roots cert; armed = option_map (notes.with_root cert) s.armed }) s IsValid
      (λ may. valid-under s valid (option_map (notes.with_root cert) s.armed) (with_root s.roots cert) s.sessions s.plain (root_under cert form s.armed may (under s valid)))
      (λ may_not. valid)

-- Completing.

module _ (fabrics : List Fabric) (armed : Armed) (facts : keeps_facts fabrics (Some armed) ≡ true) where
  abbrev context : ℕ
  context = armed.context

  -- the fabric that was added is the context
  added_context : (fabric : ℕ) (added : Option ℕ) → is_added fabrics armed added ≡ true → is_that fabric added ≡ true → (fabric == context) ≡ true
  added_context fabric None is that = impossible that
  added_context fabric (Some other) is that =
      eq-eqb fabric context (sym (eqb-true other fabric that) ∙ sym (eqb-true armed.context other (and_parts (armed.context == other) (is_among fabrics other) is).0))

  others_have_none : (fabric : ℕ) → (fabric == 0 || was_added fabric (Some armed)) ≡ true → (fabric == context) ≡ false → (fabric == 0 || was_added fabric None) ≡ true
  others_have_none fabric follow other = elim (or_cases (fabric == 0) (is_that fabric armed.added) follow) [
    | inl none ↦ or_left _ _ none
    | inr that ↦ absurd (both_ways (fabric == context) other (added_context fabric armed.added (and_parts (is_added fabrics armed armed.added) (is_updated fabrics armed armed.added armed.updated) facts).0 that))
  ]

  session_stands : (session : NodeSession) (auth : Auth) (standing : Standing) → stands_rightly fabrics session auth standing ≡ true
      → stands_rightly fabrics (session_completed context session) auth (standing_completed context auth standing) ≡ true
  session_stands session Pase Waits stands = impossible stands
  session_stands session Pase (Live fabric) stands =
      cond_both (fabric == context) Ended (Live fabric) (λ (standing : Standing). stands_rightly fabrics (session_completed context session) Pase standing ≡ true) (λ this. refl) (λ other. stands)
  session_stands session Pase Ended stands = refl
  session_stands session Case Waits stands = stands
  session_stands session Case (Live fabric) stands = stands
  session_stands session Case Ended stands = refl
  session_stands session Group Waits stands = stands
  session_stands session Group (Live fabric) stands = stands
  session_stands session Group Ended stands = refl

  session_follows : (auth : Auth) (standing : Standing) → follows (Some armed) auth standing ≡ true → follows None auth (standing_completed context auth standing) ≡ true
  session_follows Pase Waits follow = refl
  session_follows Pase (Live fabric) follow =
      cond_both (fabric == context) Ended (Live fabric) (λ (standing : Standing). follows None Pase standing ≡ true) (λ this. refl) (λ other. others_have_none fabric follow other)
  session_follows Pase Ended follow = refl
  session_follows Case standing follow = refl
  session_follows Group standing follow = refl

  plain_stands : (plain : Option ℕ) → is_plain_of fabrics plain ≡ true → is_plain_of fabrics (plain_without context plain) ≡ true
  plain_stands None stands = refl
  plain_stands (Some fabric) stands = cond_both (fabric == context) None (Some fabric) (λ (plain : Option ℕ). is_plain_of fabrics plain ≡ true) (λ this. refl) (λ other. stands)

  plain_none : (plain : Option ℕ) → plain_follows (Some armed) plain ≡ true → plain_follows None (plain_without context plain) ≡ true
  plain_none None follow = refl
  plain_none (Some fabric) follow = cond_both (fabric == context) None (Some fabric) (λ (plain : Option ℕ). plain_follows None plain ≡ true) (λ this. refl) (λ other. others_have_none fabric follow other)

complete-valid : (s : NodeState) → IsValid s → (armed : Option Armed) → Under s armed s.roots s.sessions s.plain → IsValid (completed armed s)
complete-valid s valid None u = valid
complete-valid s valid (Some armed) u =
    let facts = u.itself.facts in
    valid-under s valid None (roots_behind s.fabrics s.roots) (map (session_completed armed.context) s.sessions) (plain_without armed.context s.plain) (record {
      trusted = record {
        differ = none-filter bytes_eq (λ (root : List ℕ). list_any (is_root_of root) s.fabrics) s.roots u.trusted.differ;
        forms = all-filter is_certificate (λ (root : List ℕ). list_any (is_root_of root) s.fabrics) s.roots u.trusted.forms;
        used = all-passed (λ (root : List ℕ). list_any (is_root_of root) s.fabrics) (is_used s.fabrics None) (λ root used. or_left _ _ used) s.roots;
      };
      open_ones = record {
        stand = list_all-map (is_session s.fabrics) (session_completed armed.context) s.sessions
            ∙ all-weaker (is_session s.fabrics) (λ session. is_session s.fabrics (session_completed armed.context session))
            (λ session stands. session_stands s.fabrics armed facts session session.auth session.standing stands) s.sessions u.open_ones.stand;
        follow = list_all-map (λ (session : NodeSession). follows None session.auth session.standing) (session_completed armed.context) s.sessions
            ∙ all-weaker (λ (session : NodeSession). follows (Some armed) session.auth session.standing)
            (λ (session : NodeSession). follows None session.auth (standing_completed armed.context session.auth session.standing))
            (λ session follow. session_follows s.fabrics armed facts session.auth session.standing follow) s.sessions u.open_ones.follow;
      };
      plain_one = record {
        stands = plain_stands s.fabrics armed facts s.plain u.plain_one.stands;
        follows = plain_none s.fabrics armed facts s.plain u.plain_one.follows;
      };
      itself = record { facts = refl; names = refl; saved = refl; given = refl };
    })

pub completes-valid : (s : NodeState) → IsValid s → IsValid (completed s.armed s)
completes-valid s valid = complete-valid s valid s.armed (under s valid)

-- What a fabric knows of the table of fabrics is as the table says, wherever no certificate is asked for.
use Rattle.std.proofs.Common.{◌≡◌, ℕ, ◌+◌, ◌==◌, ◌||◌, inl, inr, nat_le, Bool, true, false, suc, List, [], ◌∷◌, length, Option, Some, None, refl, ap, map, if◌then◌else◌}
use Rattle.std.proofs.lemmas.Bool.{cases_Bool}
use Rattle.std.specs.List.{list_any}
use Rattle.mt_fabrics.specs.Table.{add_refusal, credentials_at, has_index, has_label, is_used, least_unused, unused_from}
use Rattle.mt_fabrics.specs.declared.fault.FabricFault.TheVariants.{Conflict, LabelConflict, TableFull}
use Rattle.mt_failsafe.specs.Notes as notes
use Rattle.mt_model.specs.tables.Known.{bare_armed, bare_credentials, fabric_known_to}
use Rattle.mt_model.specs.texts.Config.{has_identity}
use Rattle.mt_model.specs.declared.tables.fabric.Fabric.{Fabric}
use Rattle.mt_model.specs.declared.tables.network.Armed.{Armed}
use Rattle.std.specs.Option.{option_map}

module _ (fabric : ℕ) where
  abbrev k : Fabric → Fabric
  k = fabric_known_to fabric

  same : {X : Type 0} (part : Fabric → X) → ((f : Fabric) → part (record f { credentials = bare_credentials f.credentials }) ≡ part f) → (f : Fabric) → part (k f) ≡ part f
  same part each f = by_test (f.index == fabric)
    where
      by_test : (mine : Bool) → part (if mine then f else record f { credentials = bare_credentials f.credentials }) ≡ part f
      by_test true = refl
      by_test false = each f

  any-known : (q : Fabric → Bool) → ((f : Fabric) → q (k f) ≡ q f) → (fs : List Fabric) → list_any q (map k fs) ≡ list_any q fs
  any-known q each [] = refl
  any-known q each (f ∷ fs) = λ i. each f i || any-known q each fs i

  known_count : (fs : List Fabric) → length (map k fs) ≡ length fs
  known_count [] = refl
  known_count (f ∷ fs) = ap suc (known_count fs)

  pub refusal-known : (new : Fabric) (fs : List Fabric) → add_refusal new (map k fs) ≡ add_refusal new fs
  refusal-known new fs = λ i.
      if any-known (has_identity new.credentials.root_key new.credentials.fabric_id) (same (has_identity new.credentials.root_key new.credentials.fabric_id) (λ f. refl)) fs i then Some Conflict
      else if any-known (has_label new.label) (same (has_label new.label) (λ f. refl)) fs i then Some LabelConflict
      else if nat_le 16 (known_count fs i) then Some TableFull
      else None

  unused-known : (n : ℕ) (fs : List Fabric) → unused_from n (map k fs) ≡ unused_from n fs
  unused-known n [] = refl
  unused-known n (f ∷ fs) = λ i. if same (λ g. g.index) (λ g. refl) f i == n then unused-known (n + 1) fs i else n

  pub least-known : (fs : List Fabric) → least_unused (map k fs) ≡ least_unused fs
  least-known fs = unused-known 1 fs

  pub used-known : (n : ℕ) (fs : List Fabric) → is_used n (map k fs) ≡ is_used n fs
  used-known n = any-known (has_index n) (same (has_index n) (λ f. refl))

  pub credentials-known : (fs : List Fabric) → credentials_at fabric (map k fs) ≡ credentials_at fabric fs
  credentials-known [] = refl
  credentials-known (f ∷ fs) = elim (cases_Bool (f.index == fabric)) [
    | inl mine ↦ rw (mine, mine) refl
    | inr other ↦ rw (other, other) (credentials-known fs)
  ]

-- the fail-safe may note what it may

pub noted-known : (armed : Option Armed) → notes.may_note_added (option_map bare_armed armed) ≡ notes.may_note_added armed
noted-known None = refl
noted-known (Some armed) = refl

-- What a crash leaves behind a commit.
use Rattle.std.proofs.Common.{◌≡◌, ◌∙◌, sym, ap, subst, ℕ, ◌≤◌, true, false, IsTrue, List, Option, Some, None, inl, inr}
use Rattle.std.proofs.lemmas.Bool.{cases_Bool}
use Rattle.std.specs.Prelude.{Result, Ok, Err, OnErr, OnOk, is_err, unwrap_or}
use Rattle.mt_durable.specs.Keeping.{IsChange, LeadsTo}
use Rattle.mt_durable.specs.Maps.{have_values, keys_ascend}
use Rattle.mt_durable.specs.Reading.{Says, change_at, entries_or_none, said}
use Rattle.mt_durable.specs.Setting.{with_all}
use Rattle.mt_durable.specs.declared.durable.Entry.{Entry}
use Rattle.mt_model.specs.texts.Contents.{Contents}
use Rattle.mt_outside.specs.Disk.{LeavesOnly}
use Rattle.mt_shared.specs.mt_keeping.Laws.{ChangesLeadToOne}
use Rattle.mt_shared.specs.mt_keeping.Recovered.{KeepsMap, RecoversEither, RecoversFrom}
use Rattle.mt_shared.specs.mt_keeping.States.{KeepingState, told_map}
use Rattle.mt_starting.specs.Crashes.{AlwaysTells, IsBetween, IsSafe, KeepsSafe}
use Rattle.mt_starting.proofs.Begins.{some_same}

of_ok : {T E : Type 0} (result : Result T E) (P : Type 0) → is_err result ≡ false → OnOk result P → P
of_ok (Ok x) P runs p = p
of_ok (Err e) P runs p = absurd cc

-- what holds whatever the result
pub on_err : {T E : Type 0} (result : Result T E) (P : Type 0) → P → OnErr result P
on_err (Ok x) P p = tt
on_err (Err e) P p = p

-- what the bytes of a change say
says_said : (bytes : List ℕ) → ((entries : List Entry) (bytes : List ℕ) → Says entries bytes → change_at bytes ≡ Some entries) → IsChange bytes → Says (said bytes) bytes
says_said bytes read form = subst (λ (entries : List Entry). Says entries bytes) (sym (ap entries_or_none (read form.0 bytes form.1))) form.1

module _ {D : Type 0} (contents : D → Option (List ℕ)) (images : D → List ℕ → Type 0) where
  told_is : (state : KeepingState D) → state.rolled ≡ None → told_map state ≡ state.store.image
  told_is state is = ap (λ (rolled : Option (List Entry)). unwrap_or rolled state.store.image) is

  -- A store whose journal is in use is safe.
  pub is_safe : (state : KeepingState D) → state.rolled ≡ None → KeepsMap contents images state.store.journal.disk state.store.journal.place state.store.image
      → ((config : Contents) (file : List ℕ) → images state.store.journal.disk file → RecoversFrom config (told_map state) file)
      → IsSafe contents images state.store.journal.disk state.store.journal.place (told_map state)
  is_safe state is keeps recovers = record {
    keeps = subst (KeepsMap contents images state.store.journal.disk state.store.journal.place) (sym (told_is state is)) keeps;
    recovers = recovers;
  }

  -- A store that has just been committed to keeps what is safe.
  pub keeps_new : (state : KeepingState D) → state.rolled ≡ None → state.store.journal.failed ≡ false
      → (AlwaysTells contents → IsSafe contents images state.store.journal.disk state.store.journal.place (told_map state)) → KeepsSafe contents images state
  keeps_new state is runs safe = record {
    in_use = λ ran. is;
    safe = λ always ran. safe always;
  }

  module _ (moment : D → ℕ) (images_since : D → ℕ → List ℕ → Type 0) (counts_now : (disk : D) (from : ℕ) (image : List ℕ) → from ≤ moment disk → images disk image → images_since disk from image) where
    -- what is left now is left since the commit began
    left_now : (old new : D) (P : List ℕ → Type 0) → LeavesOnly moment images_since old new P → (file : List ℕ) → images new file → P file
    left_now old new P leaves file left = leaves.each file (counts_now new (moment old) file leaves.later left)

    module _ {T E : Type 0} (old new : KeepingState D) (keeps : KeepsSafe contents images old) (bytes : List ℕ) (result : Result T E) where
      abbrev Kept : KeepingState D → Type 0
      Kept state = KeepsMap contents images state.store.journal.disk state.store.journal.place state.store.image

      kept_before : AlwaysTells contents → old.store.journal.failed ≡ false → Kept old
      kept_before always ran = subst (KeepsMap contents images old.store.journal.disk old.store.journal.place) (told_is old (keeps.in_use ran)) (keeps.safe always ran).keeps

      -- Where the commit fails, a crash leaves one of the two maps between which it stands.
      pub between : IsChange bytes
          → ((config : Contents) → Kept old → LeavesOnly moment images_since old.store.journal.disk new.store.journal.disk (RecoversEither config old.store.image (with_all (said bytes) (told_map old))))
          → ((entries : List Entry) (bytes : List ℕ) → Says entries bytes → change_at bytes ≡ Some entries)
          → ChangesLeadToOne → keys_ascend (told_map old) ≡ true → have_values (told_map old) ≡ true
          → (before after : List Entry) → old.store.journal.failed ≡ false → Some (told_map old) ≡ Some before → LeadsTo bytes before after → AlwaysTells contents → IsBetween images new.store.journal.disk before after
      between form moments read one ascend whole before after ran is leads always =
          let with_change : List Entry = with_all (said bytes) (told_map old) in
          let from : told_map old ≡ before = some_same (told_map old) before is in
          let to : after ≡ with_change = one (said bytes) (told_map old) after bytes ascend whole (says_said bytes read form) (subst (λ (map : List Entry). LeadsTo bytes map after) (sym from) leads) in
          λ config file left.
          subst (λ (map : List Entry). RecoversEither config map after file) (sym (told_is old (keeps.in_use ran)) ∙ from)
          (subst (λ (map : List Entry). RecoversEither config old.store.image map file) (sym to)
          (left_now old.store.journal.disk new.store.journal.disk (RecoversEither config old.store.image with_change) (moments config (kept_before always ran)) file left))

      -- So what is kept stays kept behind a commit.
      pub keeps_on : (IsTrue old.store.journal.failed → new ≡ old)
          → new.store.journal.failed ≡ is_err result
          → OnOk result (new.rolled ≡ None)
          → (Kept old → OnOk result (Kept new))
          → ((config : Contents) (file : List ℕ) → Kept old → OnOk result (images new.store.journal.disk file → RecoversFrom config (told_map new) file))
          → KeepsSafe contents images new
      keeps_on still failed in_use kept acknowledged =
          elim (cases_Bool old.store.journal.failed) [
            | inl was ↦ subst (KeepsSafe contents images) (sym (still was)) keeps
            | inr ran ↦ record {
              in_use = λ runs. of_ok result (new.rolled ≡ None) (sym failed ∙ runs) in_use;
              safe = λ always runs.
                  is_safe new (of_ok result (new.rolled ≡ None) (sym failed ∙ runs) in_use) (of_ok result (Kept new) (sym failed ∙ runs) (kept (kept_before always ran)))
                  (λ config file. of_ok result (images new.store.journal.disk file → RecoversFrom config (told_map new) file) (sym failed ∙ runs) (acknowledged config file (kept_before always ran)));
            }
          ]

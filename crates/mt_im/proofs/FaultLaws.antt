-- A fault of the encoding comes from no field.
use Rattle.std.proofs.Common.{◌≡◌, ◌≢◌, subst, ℕ, ◌+◌, nat_le, Bool, true, false, List, [], ◌∷◌, Option, Some, None, is_some, Result, Ok, Err, IfErr, if◌then◌else◌}
use Rattle.mt_tlv.specs.Scalars.{truth_in}
use Rattle.mt_tlv.specs.declared.fault.TlvFault.TheVariants as tlv
use Rattle.mt_tlv.specs.Tree.{Elements}
use Rattle.mt_model.specs.declared.messages.message.Request.{Request}
use Rattle.mt_im.specs.declared.fault.ImFault.{ImFault}
use Rattle.mt_im.specs.declared.fault.ImFault.TheVariants.{Tlv, Missing, TooManyPaths, Memory}
use Rattle.mt_im.specs.declared.messages.Kind.{Kind}
use Rattle.mt_im.specs.declared.messages.Kind.TheVariants as kinds
use Rattle.mt_im.specs.Blocks.{number_in, optional_truth_at, not_true, blocks_in, attribute_path_in, event_path_in, event_filter_in, version_filter_in, write_item_in, command_in}
use Rattle.mt_model.specs.Trees.{field_in}
use Rattle.mt_im.specs.Reading.{◌>>=◌, Gives, form, require, field_at, revision_at, within, blocks_at, minimum_at, selection_at, status_at, read_at, subscribe_at, write_at, invoke_at, timed_at, fields_at}

-- The fault is not that the encoding was short of memory.
abbrev pub IsKept : {A : Type 0} → Result A ImFault → Type 0
IsKept r = IfErr r (λ e. e ≢ Tlv tlv.Memory)

kept_bind : {A B : Type 0} (r : Result A ImFault) (f : A → Result B ImFault) → IsKept r → ((x : A) → IsKept (f x)) → IsKept (r >>= f)
kept_bind (Ok x) f h k = k x
kept_bind (Err e) f h k = h

kept_form : {A : Type 0} (n : ℕ) (o : Option A) → IsKept (form n o)
kept_form n None = λ e. cc
kept_form n (Some x) = tt

kept_if : {A : Type 0} (b : Bool) (r s : Result A ImFault) → IsKept r → IsKept s → IsKept (if b then r else s)
kept_if true r s h k = h
kept_if false r s h k = k

kept_missing : (n : ℕ) → IsKept {A = Unit {0}} (Err (Missing n))
kept_missing n = λ e. cc

kept_require : (ns : List ℕ) (es : Elements) → IsKept (require ns es)
unfolding require
kept_require [] es = tt
kept_require (n ∷ ns) es = kept_if (is_some (field_in n es)) (require ns es) (Err (Missing n)) (kept_require ns es) (kept_missing n)

kept_within : (count most : ℕ) (request : Request) → IsKept (within count most request)
kept_within count most request = kept_if (nat_le count most) (Ok request) (Err TooManyPaths) tt (λ e. cc)

kept_selection : (first filtered_tag : ℕ) (es : Elements) → IsKept (selection_at first filtered_tag es)
unfolding selection_at
kept_selection first filtered_tag es =
    kept_bind (blocks_at attribute_path_in first es) _ (kept_form first _) (λ paths.
    kept_bind (blocks_at event_path_in (first + 1) es) _ (kept_form (first + 1) _) (λ events.
    kept_bind (minimum_at (first + 2) es) _ (kept_bind (blocks_at event_filter_in (first + 2) es) _ (kept_form (first + 2) _) (λ ns. tt)) (λ minimum.
    kept_bind (field_at truth_in filtered_tag es) _ (kept_form filtered_tag _) (λ filtered.
    kept_bind (blocks_at version_filter_in (filtered_tag + 1) es) _ (kept_form (filtered_tag + 1) _) (λ versions. tt)))))

kept_fields : (kind : Kind) (es : Elements) → IsKept (fields_at kind es)
unfolding status_at read_at subscribe_at write_at invoke_at timed_at
kept_fields kinds.Status es =
    kept_bind (require (0 ∷ 255 ∷ []) es) _ (kept_require _ es) (λ _.
    kept_bind (field_at (number_in 8) 0 es) _ (kept_form 0 _) (λ code.
    kept_bind (revision_at es) _ (kept_form 255 _) (λ number. tt)))
kept_fields kinds.Read es =
    kept_bind (require (3 ∷ 255 ∷ []) es) _ (kept_require _ es) (λ _.
    kept_bind (selection_at 0 3 es) _ (kept_selection 0 3 es) (λ s.
    kept_bind (revision_at es) _ (kept_form 255 _) (λ number. kept_within _ _ _)))
kept_fields kinds.Subscribe es =
    kept_bind (require (0 ∷ 1 ∷ 2 ∷ 7 ∷ 255 ∷ []) es) _ (kept_require _ es) (λ _.
    kept_bind (field_at truth_in 0 es) _ (kept_form 0 _) (λ keep.
    kept_bind (field_at (number_in 16) 1 es) _ (kept_form 1 _) (λ floor.
    kept_bind (field_at (number_in 16) 2 es) _ (kept_form 2 _) (λ ceiling.
    kept_bind (selection_at 3 7 es) _ (kept_selection 3 7 es) (λ s.
    kept_bind (revision_at es) _ (kept_form 255 _) (λ number. kept_within _ _ _))))))
kept_fields kinds.Write es =
    kept_bind (require (1 ∷ 2 ∷ 255 ∷ []) es) _ (kept_require _ es) (λ _.
    kept_bind (form 0 (optional_truth_at 0 es)) _ (kept_form 0 _) (λ suppress.
    kept_bind (field_at truth_in 1 es) _ (kept_form 1 _) (λ timed.
    kept_bind (field_at (blocks_in write_item_in) 2 es) _ (kept_form 2 _) (λ items.
    kept_bind (form 3 (not_true (optional_truth_at 3 es))) _ (kept_form 3 _) (λ _.
    kept_bind (revision_at es) _ (kept_form 255 _) (λ number. kept_within _ _ _))))))
kept_fields kinds.Invoke es =
    kept_bind (require (0 ∷ 1 ∷ 2 ∷ 255 ∷ []) es) _ (kept_require _ es) (λ _.
    kept_bind (field_at truth_in 0 es) _ (kept_form 0 _) (λ suppress.
    kept_bind (field_at truth_in 1 es) _ (kept_form 1 _) (λ timed.
    kept_bind (field_at command_in 2 es) _ (kept_form 2 _) (λ command.
    kept_bind (revision_at es) _ (kept_form 255 _) (λ number. tt)))))
kept_fields kinds.Timed es =
    kept_bind (require (0 ∷ 255 ∷ []) es) _ (kept_require _ es) (λ _.
    kept_bind (field_at (number_in 16) 0 es) _ (kept_form 0 _) (λ ms.
    kept_bind (revision_at es) _ (kept_form 255 _) (λ number. tt)))

kept_gives : (result read : Result Request ImFault) → Gives (λ x. x) result read → IsKept read → IsKept result
kept_gives (Ok x) read h k = tt
kept_gives (Err e) read h k = λ same.
    let other : e ≢ Memory = λ m. cc in
    let r : read ≡ Err e = h other in
    let fault : e ≢ Tlv tlv.Memory = subst (λ (x : Result Request ImFault). IsKept x) r k in
    fault same

-- what the fields of a message give is no fault of the encoding
pub kept_request : (kind : Kind) (es : Elements) (result : Result Request ImFault) → Gives (λ x. x) result (fields_at kind es) → IsKept result
kept_request kind es result h = kept_gives result (fields_at kind es) h (kept_fields kind es)

-- Which fault is told of a message: the lowest field that is missing, and then the lowest that is malformed.
use Rattle.std.proofs.Common.{◌≡◌, ◌≢◌, ◌↔◌, ℕ, zero, suc, ◌+◌, ◌<◌, ◌≤◌, Bool, true, false, List, [], ◌∷◌, Option, Some, None, is_some, is_none, filter, length, get_or, nat_le, Result, Ok, Err, refl, subst, if◌then◌else◌, arith}
use Rattle.std.specs.Prelude.{All, ⊤}
use Rattle.std.proofs.lemmas.List.Elements.{All-nil, All-cons}
use Rattle.mt_tlv.specs.Scalars.{truth_in, unsigned_in}
use Rattle.mt_tlv.specs.Tree.{Elements}
use Rattle.mt_model.specs.declared.limits.TheConstants.{PATHS, WRITE_ITEMS}
use Rattle.mt_model.specs.declared.messages.message.Request.{Request}
use Rattle.mt_model.specs.declared.messages.message.Request.TheVariants as requests
use Rattle.mt_im.specs.declared.fault.ImFault.{ImFault}
use Rattle.mt_im.specs.declared.fault.ImFault.TheVariants.{Missing, Form, TooManyPaths}
use Rattle.mt_im.specs.declared.messages.Kind.{Kind}
use Rattle.mt_im.specs.declared.messages.Kind.TheVariants as kinds
use Rattle.mt_im.specs.Fields.{greatest}
use Rattle.mt_im.specs.Blocks.{number_in, required_at, optional_truth_at, not_true, blocks_in, optional_blocks_at, attribute_path_in, event_path_in, event_filter_in, version_filter_in, write_item_in, command_in}
use Rattle.mt_model.specs.Trees.{field_in}
use Rattle.mt_im.specs.Faults.{required, missing, if_malformed, malformed, IsLowest}
use Rattle.mt_im.specs.Reading.{◌>>=◌, form, require, within, selection_at, status_at, read_at, subscribe_at, write_at, invoke_at, timed_at, fields_at}

-- what is read where these fields are malformed, and none is missing
abbrev IsRead : Result Request ImFault → List ℕ → Type 0
IsRead read [] = (n : ℕ) → (read ≢ Err (Missing n)) × (read ≢ Err (Form n))
IsRead read (n ∷ ns) = read ≡ Err (Form n)

-- The same, as a record, from which its two parts are inferred.
record EndsWith (read : Result Request ImFault) (bad : List ℕ) : Type 0 where
  pub is : IsRead read bad

-- What is read where these fields are missing, and those malformed.
abbrev Tells : Result Request ImFault → List ℕ → List ℕ → Type 0
Tells read [] bad = IsRead read bad
Tells read (n ∷ ns) bad = read ≡ Err (Missing n)

-- one field after the other, also inside a reading that goes on

step : {X : Type 0} (n : ℕ) (o : Option X) (next : X → Result Request ImFault) (others : List ℕ) → ((x : X) → EndsWith (next x) others)
    → EndsWith (form n o >>= next) (if_malformed n o others)
step n None next others h = record { is = refl }
step n (Some x) next others h = h x

step_inside : {X Y : Type 0} (n : ℕ) (o : Option X) (f : X → Result Y ImFault) (next : Y → Result Request ImFault) (others : List ℕ) → ((x : X) → EndsWith (f x >>= next) others)
    → EndsWith ((form n o >>= f) >>= next) (if_malformed n o others)
step_inside n None f next others h = record { is = refl }
step_inside n (Some x) f next others h = h x

step_deeper : {X Y Z : Type 0} (n : ℕ) (o : Option X) (f : X → Result Y ImFault) (g : Y → Result Z ImFault) (next : Z → Result Request ImFault) (others : List ℕ)
    → ((x : X) → EndsWith ((f x >>= g) >>= next) others) → EndsWith (((form n o >>= f) >>= g) >>= next) (if_malformed n o others)
step_deeper n None f g next others h = record { is = refl }
step_deeper n (Some x) f g next others h = h x

-- the end, where no field is malformed

end_ok : (request : Request) → EndsWith (Ok request) []
end_ok request = record { is = λ n. (λ e. absurd cc, λ e. absurd cc) }

end_within : (count most : ℕ) (request : Request) → EndsWith (within count most request) []
end_within count most request = record {
  is = elim (nat_le count most) as (λ b. IsRead (if b then Ok request else Err TooManyPaths) []) [
    | true ↦ λ n. (λ e. absurd cc, λ e. absurd cc)
    | false ↦ λ n. (λ e. absurd cc, λ e. absurd cc)
  ];
}

-- the fields that must be there come first

abbrev fault_of : List ℕ → Result (Unit {0}) ImFault
fault_of [] = Ok tt
fault_of (n ∷ ns) = Err (Missing n)

abbrev lacking_of : List ℕ → Elements → List ℕ
lacking_of ns es = filter (λ n. is_none (field_in n es)) ns

require_is : (ns : List ℕ) (es : Elements) → require ns es ≡ fault_of (lacking_of ns es)
unfolding require
require_is [] es = refl
require_is (n ∷ ns) es =
    elim (field_in n es) as (λ o. (if is_some o then require ns es else Err (Missing n)) ≡ fault_of (if is_none o then n ∷ lacking_of ns es else lacking_of ns es)) [
      | None ↦ refl
      | Some v ↦ require_is ns es
    ]

tells_from : (lacking bad : List ℕ) (rest : Result Request ImFault) → EndsWith rest bad → Tells (fault_of lacking >>= λ _. rest) lacking bad
tells_from [] bad rest h = h.is
tells_from (n ∷ ns) bad rest h = refl

after_require : (ns : List ℕ) (es : Elements) (bad : List ℕ) (rest : Result Request ImFault) → EndsWith rest bad → Tells (require ns es >>= λ _. rest) (lacking_of ns es) bad
after_require ns es bad rest h = rw (require_is ns es) (tells_from (lacking_of ns es) bad rest h)

-- each message

status_tells : (es : Elements) → Tells (status_at es) (missing kinds.Status es) (malformed kinds.Status es)
unfolding status_at
status_tells es = after_require (required kinds.Status) es (malformed kinds.Status es) _
    (step 0 (required_at (number_in 8) 0 es) _ _ (λ code.
    (step 255 (required_at unsigned_in 255 es) _ _ (λ revision. end_ok (requests.Status code)))))

timed_tells : (es : Elements) → Tells (timed_at es) (missing kinds.Timed es) (malformed kinds.Timed es)
unfolding timed_at
timed_tells es = after_require (required kinds.Timed) es (malformed kinds.Timed es) _
    (step 0 (required_at (number_in 16) 0 es) _ _ (λ ms.
    (step 255 (required_at unsigned_in 255 es) _ _ (λ revision. end_ok (requests.Timed ms)))))

invoke_tells : (es : Elements) → Tells (invoke_at es) (missing kinds.Invoke es) (malformed kinds.Invoke es)
unfolding invoke_at
invoke_tells es = after_require (required kinds.Invoke) es (malformed kinds.Invoke es) _
    (step 0 (required_at truth_in 0 es) _ _ (λ suppress.
    (step 1 (required_at truth_in 1 es) _ _ (λ timed.
    (step 2 (required_at command_in 2 es) _ _ (λ command.
    (step 255 (required_at unsigned_in 255 es) _ _ (λ revision. end_ok (requests.Invoke suppress timed command.0 command.1)))))))))

write_tells : (es : Elements) → Tells (write_at es) (missing kinds.Write es) (malformed kinds.Write es)
unfolding write_at
write_tells es = after_require (required kinds.Write) es (malformed kinds.Write es) _
    (step 0 (optional_truth_at 0 es) _ _ (λ suppress.
    (step 1 (required_at truth_in 1 es) _ _ (λ timed.
    (step 2 (required_at (blocks_in write_item_in) 2 es) _ _ (λ items.
    (step 3 (not_true (optional_truth_at 3 es)) _ _ (λ more_chunks.
    (step 255 (required_at unsigned_in 255 es) _ _ (λ revision. end_within (length items) WRITE_ITEMS (requests.Write suppress timed items)))))))))))

read_tells : (es : Elements) → Tells (read_at es) (missing kinds.Read es) (malformed kinds.Read es)
unfolding read_at selection_at
read_tells es = after_require (required kinds.Read) es (malformed kinds.Read es) _
    (step_inside 0 (optional_blocks_at attribute_path_in 0 es) _ _ _ (λ paths.
    (step_inside 1 (optional_blocks_at event_path_in 1 es) _ _ _ (λ events.
    (step_deeper 2 (optional_blocks_at event_filter_in 2 es) _ _ _ _ (λ minimums.
    (step_inside 3 (required_at truth_in 3 es) _ _ _ (λ filtered.
    (step_inside 4 (optional_blocks_at version_filter_in 4 es) _ _ _ (λ versions.
    (step 255 (required_at unsigned_in 255 es) _ _ (λ revision. end_within (length paths + length events) PATHS (requests.Read paths events (greatest minimums) filtered versions)))))))))))))

subscribe_tells : (es : Elements) → Tells (subscribe_at es) (missing kinds.Subscribe es) (malformed kinds.Subscribe es)
unfolding subscribe_at selection_at
subscribe_tells es = after_require (required kinds.Subscribe) es (malformed kinds.Subscribe es) _
    (step 0 (required_at truth_in 0 es) _ _ (λ keep.
    (step 1 (required_at (number_in 16) 1 es) _ _ (λ floor.
    (step 2 (required_at (number_in 16) 2 es) _ _ (λ ceiling.
    (step_inside 3 (optional_blocks_at attribute_path_in 3 es) _ _ _ (λ paths.
    (step_inside 4 (optional_blocks_at event_path_in 4 es) _ _ _ (λ events.
    (step_deeper 5 (optional_blocks_at event_filter_in 5 es) _ _ _ _ (λ minimums.
    (step_inside 7 (required_at truth_in 7 es) _ _ _ (λ filtered.
    (step_inside 8 (optional_blocks_at version_filter_in 8 es) _ _ _ (λ versions.
    (step 255 (required_at unsigned_in 255 es) _ _ (λ revision. end_within (length paths + length events) PATHS (requests.Subscribe keep floor ceiling paths events (greatest minimums) filtered versions)))))))))))))))))))

fields_tell : (kind : Kind) (es : Elements) → Tells (fields_at kind es) (missing kind es) (malformed kind es)
fields_tell kinds.Status es = status_tells es
fields_tell kinds.Read es = read_tells es
fields_tell kinds.Subscribe es = subscribe_tells es
fields_tell kinds.Write es = write_tells es
fields_tell kinds.Invoke es = invoke_tells es
fields_tell kinds.Timed es = timed_tells es

-- lists that rise

-- The numbers rise, from this one on.
abbrev Rises : ℕ → List ℕ → Type 0
Rises a [] = ⊤
Rises a (n ∷ ns) = (a ≤ n) × Rises (n + 1) ns

rises_from : (a b : ℕ) (ns : List ℕ) → a ≤ b → Rises b ns → Rises a ns
rises_from a b [] le h = tt
rises_from a b (n ∷ ns) le h = (omega (arith, le, h.0), h.1)

all_from : (a : ℕ) (ns : List ℕ) → Rises a ns → All (λ m. a ≤ m) ns
all_from a [] h = All-nil (λ m. a ≤ m)
all_from a (n ∷ ns) h = All-cons (λ m. a ≤ m) n ns h.0 (all_from a ns (rises_from a (n + 1) ns (omega (arith, h.0)) h.1))

rises_filter : (p : ℕ → Bool) (a : ℕ) (ns : List ℕ) → Rises a ns → Rises a (filter p ns)
rises_filter p a [] h = tt
rises_filter p a (n ∷ ns) h =
    elim (p n) as (λ b. Rises a (if b then n ∷ filter p ns else filter p ns)) [
      | true ↦ (h.0, rises_filter p (n + 1) ns h.1)
      | false ↦ rises_filter p a ns (rises_from a (n + 1) ns (omega (arith, h.0)) h.1)
    ]

rises_if : {X : Type 0} (a n : ℕ) (o : Option X) (others : List ℕ) → a ≤ n → Rises (n + 1) others → Rises a (if_malformed n o others)
rises_if a n None others le h = (le, h)
rises_if a n (Some x) others le h = rises_from a (n + 1) others (omega (arith, le)) h

-- where the numbers rise, the first is the lowest

abbrev IsFirst : ℕ → List ℕ → Type 0
IsFirst n [] = ⊥
IsFirst n (m ∷ ms) = m ≡ n

first_is_lowest : (a n : ℕ) (ns : List ℕ) → Rises a ns → IsFirst n ns → IsLowest n ns
first_is_lowest a n [] h first = absurd first
first_is_lowest a n (m ∷ ms) h first = subst (λ (k : ℕ). IsLowest k (m ∷ ms)) first (record {
  among = (0, omega arith, refl);
  least = All-cons (λ k. m ≤ k) m ms (omega arith) (all_from m ms (rises_from m (m + 1) ms (omega arith) h.1));
})

lowest_is_first : (a n : ℕ) (ns : List ℕ) → Rises a ns → IsLowest n ns → IsFirst n ns
lowest_is_first a n [] h lowest = absurd (omega (arith, lowest.among.1))
lowest_is_first a n (m ∷ ms) h lowest = at_place a n m ms h lowest.least lowest.among.0 lowest.among.1 lowest.among.2
  where
    at_place : (a n m : ℕ) (ms : List ℕ) → Rises a (m ∷ ms) → All (λ k. n ≤ k) (m ∷ ms) → (k : ℕ) → k < length (m ∷ ms) → get_or (m ∷ ms) k n ≡ n → m ≡ n
    at_place a n m ms h least zero lt e = e
    at_place a n m ms h least (suc k) lt e = absurd (omega (arith, e, least 0 n (omega arith), all_from (m + 1) ms h.1 k n (omega (arith, lt))))

required_rises : (kind : Kind) → Rises 0 (required kind)
required_rises kinds.Status = (omega arith, (omega arith, tt))
required_rises kinds.Read = (omega arith, (omega arith, tt))
required_rises kinds.Subscribe = (omega arith, (omega arith, (omega arith, (omega arith, (omega arith, tt)))))
required_rises kinds.Write = (omega arith, (omega arith, (omega arith, tt)))
required_rises kinds.Invoke = (omega arith, (omega arith, (omega arith, (omega arith, tt))))
required_rises kinds.Timed = (omega arith, (omega arith, tt))

malformed_rises : (kind : Kind) (es : Elements) → Rises 0 (malformed kind es)
malformed_rises kinds.Status es =
    (rises_if 0 0 (required_at (number_in 8) 0 es) _ (omega arith)
    (rises_if 1 255 (required_at unsigned_in 255 es) _ (omega arith) tt))
malformed_rises kinds.Read es =
    (rises_if 0 0 (optional_blocks_at attribute_path_in 0 es) _ (omega arith)
    (rises_if 1 1 (optional_blocks_at event_path_in 1 es) _ (omega arith)
    (rises_if 2 2 (optional_blocks_at event_filter_in 2 es) _ (omega arith)
    (rises_if 3 3 (required_at truth_in 3 es) _ (omega arith)
    (rises_if 4 4 (optional_blocks_at version_filter_in 4 es) _ (omega arith)
    (rises_if 5 255 (required_at unsigned_in 255 es) _ (omega arith) tt))))))
malformed_rises kinds.Subscribe es =
    (rises_if 0 0 (required_at truth_in 0 es) _ (omega arith)
    (rises_if 1 1 (required_at (number_in 16) 1 es) _ (omega arith)
    (rises_if 2 2 (required_at (number_in 16) 2 es) _ (omega arith)
    (rises_if 3 3 (optional_blocks_at attribute_path_in 3 es) _ (omega arith)
    (rises_if 4 4 (optional_blocks_at event_path_in 4 es) _ (omega arith)
    (rises_if 5 5 (optional_blocks_at event_filter_in 5 es) _ (omega arith)
    (rises_if 6 7 (required_at truth_in 7 es) _ (omega arith)
    (rises_if 8 8 (optional_blocks_at version_filter_in 8 es) _ (omega arith)
    (rises_if 9 255 (required_at unsigned_in 255 es) _ (omega arith) tt)))))))))
malformed_rises kinds.Write es =
    (rises_if 0 0 (optional_truth_at 0 es) _ (omega arith)
    (rises_if 1 1 (required_at truth_in 1 es) _ (omega arith)
    (rises_if 2 2 (required_at (blocks_in write_item_in) 2 es) _ (omega arith)
    (rises_if 3 3 (not_true (optional_truth_at 3 es)) _ (omega arith)
    (rises_if 4 255 (required_at unsigned_in 255 es) _ (omega arith) tt)))))
malformed_rises kinds.Invoke es =
    (rises_if 0 0 (required_at truth_in 0 es) _ (omega arith)
    (rises_if 1 1 (required_at truth_in 1 es) _ (omega arith)
    (rises_if 2 2 (required_at command_in 2 es) _ (omega arith)
    (rises_if 3 255 (required_at unsigned_in 255 es) _ (omega arith) tt))))
malformed_rises kinds.Timed es =
    (rises_if 0 0 (required_at (number_in 16) 0 es) _ (omega arith)
    (rises_if 1 255 (required_at unsigned_in 255 es) _ (omega arith) tt))

-- what is told, the other way round

missing_only : (read : Result Request ImFault) (lacking bad : List ℕ) (n : ℕ) → Tells read lacking bad → read ≡ Err (Missing n) → IsFirst n lacking
missing_only read [] [] n h e = absurd ((h n).0 e)
missing_only read [] (m ∷ ms) n h e = absurd cc
missing_only read (m ∷ ms) bad n h e = cc

missing_told : (read : Result Request ImFault) (lacking bad : List ℕ) (n : ℕ) → Tells read lacking bad → IsFirst n lacking → read ≡ Err (Missing n)
missing_told read [] bad n h first = absurd first
missing_told read (m ∷ ms) bad n h first = cc

form_only : (read : Result Request ImFault) (lacking bad : List ℕ) (n : ℕ) → Tells read lacking bad → read ≡ Err (Form n) → (lacking ≡ []) × IsFirst n bad
form_only read [] [] n h e = absurd ((h n).1 e)
form_only read [] (m ∷ ms) n h e = (refl, cc)
form_only read (m ∷ ms) bad n h e = absurd cc

form_told : (read : Result Request ImFault) (lacking bad : List ℕ) (n : ℕ) → Tells read lacking bad → (lacking ≡ []) × IsFirst n bad → read ≡ Err (Form n)
form_told read [] [] n h first = absurd first.1
form_told read [] (m ∷ ms) n h first = cc
form_told read (m ∷ ms) bad n h first = absurd cc

pub lowest_missing : (kind : Kind) (es : Elements) (n : ℕ) → (fields_at kind es ≡ Err (Missing n)) ↔ IsLowest n (missing kind es)
lowest_missing kind es n =
    let rises = rises_filter (λ m. is_none (field_in m es)) 0 (required kind) (required_rises kind) in (
      λ e. first_is_lowest 0 n (missing kind es) rises (missing_only (fields_at kind es) (missing kind es) (malformed kind es) n (fields_tell kind es) e),
      λ lowest. missing_told (fields_at kind es) (missing kind es) (malformed kind es) n (fields_tell kind es) (lowest_is_first 0 n (missing kind es) rises lowest),
    )

pub lowest_malformed : (kind : Kind) (es : Elements) (n : ℕ) → (fields_at kind es ≡ Err (Form n)) ↔ ((missing kind es ≡ []) × IsLowest n (malformed kind es))
lowest_malformed kind es n = (
  λ e.
      let told = form_only (fields_at kind es) (missing kind es) (malformed kind es) n (fields_tell kind es) e in
      (told.0, first_is_lowest 0 n (malformed kind es) (malformed_rises kind es) told.1),
  λ lowest. form_told (fields_at kind es) (missing kind es) (malformed kind es) n (fields_tell kind es) (lowest.0, lowest_is_first 0 n (malformed kind es) (malformed_rises kind es) lowest.1),
)

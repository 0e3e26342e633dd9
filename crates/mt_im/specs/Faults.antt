-- Which fields of a message are missing, and which are malformed.
use Rattle.std.specs.Prelude.{ℕ, ◌≤◌, List, [], ◌∷◌, Option, Some, None, is_none, filter, All, Contains}
use Rattle.mt_tlv.specs.Scalars.{truth_in, unsigned_in}
use Rattle.mt_tlv.specs.Tree.{Elements}
use Rattle.mt_im.specs.declared.messages.Kind.{Kind}
use Rattle.mt_im.specs.declared.messages.Kind.TheVariants as kinds
use Rattle.mt_im.specs.Blocks.{number_in, required_at, optional_truth_at, not_true, blocks_in, optional_blocks_at, attribute_path_in, event_path_in, event_filter_in, version_filter_in, write_item_in, command_in}
use Rattle.mt_model.specs.Trees.{field_in}

-- the fields that a message must have
abbrev pub required : Kind → List ℕ
required kinds.Status = 0 ∷ 255 ∷ []
required kinds.Read = 3 ∷ 255 ∷ []
required kinds.Subscribe = 0 ∷ 1 ∷ 2 ∷ 7 ∷ 255 ∷ []
required kinds.Write = 1 ∷ 2 ∷ 255 ∷ []
required kinds.Invoke = 0 ∷ 1 ∷ 2 ∷ 255 ∷ []
required kinds.Timed = 0 ∷ 255 ∷ []

-- those of them that it lacks
abbrev pub missing : Kind → Elements → List ℕ
missing kind es = filter (λ n. is_none (field_in n es)) (required kind)

-- a tag, in front of others, where what is read under it has another form
abbrev pub if_malformed : {X : Type 0} → ℕ → Option X → List ℕ → List ℕ
if_malformed n None others = n ∷ others
if_malformed n (Some x) others = others

-- the fields that have another form than the table of the message says
abbrev pub malformed : Kind → Elements → List ℕ
malformed kinds.Status es =
    if_malformed 0 (required_at (number_in 8) 0 es)
    (if_malformed 255 (required_at unsigned_in 255 es) [])
malformed kinds.Read es =
    if_malformed 0 (optional_blocks_at attribute_path_in 0 es)
    (if_malformed 1 (optional_blocks_at event_path_in 1 es)
    (if_malformed 2 (optional_blocks_at event_filter_in 2 es)
    (if_malformed 3 (required_at truth_in 3 es)
    (if_malformed 4 (optional_blocks_at version_filter_in 4 es)
    (if_malformed 255 (required_at unsigned_in 255 es) [])))))
malformed kinds.Subscribe es =
    if_malformed 0 (required_at truth_in 0 es)
    (if_malformed 1 (required_at (number_in 16) 1 es)
    (if_malformed 2 (required_at (number_in 16) 2 es)
    (if_malformed 3 (optional_blocks_at attribute_path_in 3 es)
    (if_malformed 4 (optional_blocks_at event_path_in 4 es)
    (if_malformed 5 (optional_blocks_at event_filter_in 5 es)
    (if_malformed 7 (required_at truth_in 7 es)
    (if_malformed 8 (optional_blocks_at version_filter_in 8 es)
    (if_malformed 255 (required_at unsigned_in 255 es) []))))))))
malformed kinds.Write es =
    if_malformed 0 (optional_truth_at 0 es)
    (if_malformed 1 (required_at truth_in 1 es)
    (if_malformed 2 (required_at (blocks_in write_item_in) 2 es)
    (if_malformed 3 (not_true (optional_truth_at 3 es))
    (if_malformed 255 (required_at unsigned_in 255 es) []))))
malformed kinds.Invoke es =
    if_malformed 0 (required_at truth_in 0 es)
    (if_malformed 1 (required_at truth_in 1 es)
    (if_malformed 2 (required_at command_in 2 es)
    (if_malformed 255 (required_at unsigned_in 255 es) [])))
malformed kinds.Timed es =
    if_malformed 0 (required_at (number_in 16) 0 es)
    (if_malformed 255 (required_at unsigned_in 255 es) [])

-- The number is the lowest of these.
pub record IsLowest (n : ℕ) (ns : List ℕ) : Type 0 where
  pub among : Contains ns n
  pub least : All (λ m. n ≤ m) ns

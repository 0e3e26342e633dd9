-- What is read as a message is spelled by its fields, and what they spell is read.
use Rattle.std.proofs.Common.{◌≡◌, ◌∙◌, sym, subst, ap, ℕ, ◌+◌, ◌≤◌, nat_le, Bool, true, false, List, [], ◌∷◌, length, Option, Some, None, Result, Ok, Err, refl, if◌then◌else◌}
use Rattle.std.proofs.lemmas.Bool.{leb-true, le-leb}
use Rattle.mt_tlv.specs.Scalars.{truth_in}
use Rattle.mt_tlv.specs.Tree.{Tree, uint, bool, array, Elements, none, more}
use Rattle.mt_tlv.specs.View.{tree, value_of}
use Rattle.mt_tlv.specs.declared.value.Value.{Value}
use Rattle.mt_model.specs.declared.limits.TheConstants.{PATHS, WRITE_ITEMS}
use Rattle.mt_model.specs.declared.messages.message.Path.{Path}
use Rattle.mt_model.specs.declared.messages.message.Request.{Request}
use Rattle.mt_model.specs.declared.messages.message.Request.TheVariants as requests
use Rattle.mt_model.specs.declared.messages.message.WriteItem.{WriteItem}
use Rattle.mt_model.specs.declared.rows.place.Place.{Place}
use Rattle.mt_model.specs.declared.node.state.Version.{Version}
use Rattle.mt_model.specs.declared.messages.opcode.TheConstants.{STATUS_RESPONSE, READ_REQUEST, SUBSCRIBE_REQUEST, WRITE_REQUEST, INVOKE_REQUEST, TIMED_REQUEST}
use Rattle.mt_im.specs.declared.fault.ImFault.{ImFault}
use Rattle.mt_im.specs.declared.fault.ImFault.TheVariants.{TooManyPaths}
use Rattle.mt_im.specs.declared.messages.Selection.{Selection}
use Rattle.mt_im.specs.Fields.{greatest, HasField, HasTruth, AreBlocks, HasBlocks, MayHaveBlocks}
use Rattle.mt_im.specs.Blocks.{number_in, array_in, required_at, optional_truth_at, not_true, blocks_of, blocks_in, attribute_path_in, event_path_in, event_filter_in, version_filter_in, write_item_in, command_data_in, command_among, command_in}
use Rattle.mt_im.specs.Spelling.{AttributePathSpells, EventPathSpells, EventFilterSpells, VersionFilterSpells, AttributeDataSpells, CommandDataSpells, FieldsSpell}
use Rattle.mt_im.specs.Limits.{IsWithinLimits}
use Rattle.mt_im.specs.Requests.{opcode_of}
use Rattle.mt_im.specs.Reading.{◌>>=◌, form, require, field_at, revision_at, within, blocks_at, minimum_at, selection_at, status_at, read_at, subscribe_at, write_at, invoke_at, timed_at}
use Rattle.mt_im.proofs.FieldLaws.{bind_some, are_blocks, field_only, array_found, required_found, required_only, has_number, number_read, has_unsigned, has_truth, may_have_truth, optional_truth_read, must_be_false, has_blocks, required_blocks_read, may_have_blocks, optional_blocks_read}
use Rattle.mt_im.proofs.BlockLaws.{attribute_path_ties, event_path_ties, event_filter_ties, version_filter_ties, write_item_ties, command_data_ties}

-- what a chain that gives something has read on the way
pub bind_ok : {A B : Type 0} (r : Result A ImFault) (f : A → Result B ImFault) (y : B) → (r >>= f) ≡ Ok y → (x : A) × (r ≡ Ok x) × (f x ≡ Ok y)
bind_ok (Ok x) f y h = (x, refl, h)
bind_ok (Err e) f y h = absurd cc

pub form_ok : {A : Type 0} (n : ℕ) (o : Option A) (x : A) → form n o ≡ Ok x → o ≡ Some x
form_ok n None x h = absurd cc
form_ok n (Some y) x h = cc

form_is : {A : Type 0} (n : ℕ) (o : Option A) (x : A) → o ≡ Some x → form n o ≡ Ok x
form_is n o x h = ap (form n) h

within_step : (count most : ℕ) (made request : Request) (b : Bool) → nat_le count most ≡ b → (if b then Ok made else Err TooManyPaths) ≡ Ok request → (count ≤ most) × (made ≡ request)
within_step count most made request true e h = (leb-true count most e, cc)
within_step count most made request false e h = absurd cc

within_found : (count most : ℕ) (made request : Request) → within count most made ≡ Ok request → (count ≤ most) × (made ≡ request)
within_found count most made request h = within_step count most made request (nat_le count most) refl h

within_only : (count most : ℕ) (request : Request) → count ≤ most → within count most request ≡ Ok request
within_only count most request h = rw (le-leb count most h) refl

-- ---- fields that must be there

require_none : (es : Elements) → require [] es ≡ Ok tt
unfolding require
require_none es = refl

require_more : (n : ℕ) (ns : List ℕ) (es : Elements) (v : Tree) → HasField n v es → require ns es ≡ Ok tt → require (n ∷ ns) es ≡ Ok tt
unfolding require
require_more n ns es v h rest = rw (field_only n es v h) rest

-- ---- what is asked for

-- The fields of a selection.
pub record Selects (first filtered_tag : ℕ) (s : Selection) (es : Elements) : Type 0 where
  pub minimums : List ℕ
  pub paths : MayHaveBlocks first AttributePathSpells s.paths es
  pub events : MayHaveBlocks (first + 1) EventPathSpells s.events es
  pub filters : MayHaveBlocks (first + 2) EventFilterSpells minimums es
  pub is_greatest : s.minimum ≡ greatest minimums
  pub filtered : HasTruth filtered_tag s.filtered es
  pub versions : MayHaveBlocks (filtered_tag + 1) VersionFilterSpells s.versions es

selection_found : (first filtered_tag : ℕ) (es : Elements) (s : Selection) → selection_at first filtered_tag es ≡ Ok s → Selects first filtered_tag s es
unfolding selection_at
selection_found first filtered_tag es s h =
    let paths = bind_ok (blocks_at attribute_path_in first es) _ s h in
    let events = bind_ok (blocks_at event_path_in (first + 1) es) _ s paths.2 in
    let minimum = bind_ok (minimum_at (first + 2) es) _ s events.2 in
    let filters = bind_ok (blocks_at event_filter_in (first + 2) es) (λ ns. Ok (greatest ns)) minimum.0 minimum.1 in
    let filtered = bind_ok (field_at truth_in filtered_tag es) _ s minimum.2 in
    let versions = bind_ok (blocks_at version_filter_in (filtered_tag + 1) es) _ s filtered.2 in
    let made : Selection = record { paths = paths.0; events = events.0; minimum = minimum.0; filtered = filtered.0; versions = versions.0 } in
    let same : made ≡ s = cc in
    let is_greatest : minimum.0 ≡ greatest filters.0 = cc in
    subst (λ (x : Selection). Selects first filtered_tag x es) same (record {
      minimums = filters.0;
      paths = may_have_blocks attribute_path_in AttributePathSpells attribute_path_ties first es paths.0 (form_ok first _ paths.0 paths.1);
      events = may_have_blocks event_path_in EventPathSpells event_path_ties (first + 1) es events.0 (form_ok (first + 1) _ events.0 events.1);
      filters = may_have_blocks event_filter_in EventFilterSpells event_filter_ties (first + 2) es filters.0 (form_ok (first + 2) _ filters.0 filters.1);
      is_greatest = is_greatest;
      filtered = has_truth filtered_tag es filtered.0 (form_ok filtered_tag _ filtered.0 filtered.1);
      versions = may_have_blocks version_filter_in VersionFilterSpells version_filter_ties (filtered_tag + 1) es versions.0 (form_ok (filtered_tag + 1) _ versions.0 versions.1);
    })

selection_only : (first filtered_tag : ℕ) (es : Elements) (s : Selection) → Selects first filtered_tag s es → selection_at first filtered_tag es ≡ Ok s
unfolding selection_at
selection_only first filtered_tag es s h =
    rw (
      optional_blocks_read attribute_path_in AttributePathSpells attribute_path_ties first es s.paths h.paths,
      optional_blocks_read event_path_in EventPathSpells event_path_ties (first + 1) es s.events h.events,
      optional_blocks_read event_filter_in EventFilterSpells event_filter_ties (first + 2) es h.minimums h.filters,
      field_only filtered_tag es (bool s.filtered) h.filtered,
      optional_blocks_read version_filter_in VersionFilterSpells version_filter_ties (filtered_tag + 1) es s.versions h.versions,
    )
    (ap (λ (n : ℕ). Ok (record s { minimum = n })) (sym h.is_greatest))

-- ---- messages

-- What is known of a request that was read from fields.
pub record IsReadFrom (opcode : ℕ) (request : Request) (es : Elements) : Type 0 where
  pub number : ℕ
  pub revision : HasField 255 (uint number) es
  pub code : opcode ≡ opcode_of request
  pub table : FieldsSpell request es
  pub in_limits : IsWithinLimits request

revision_found : (es : Elements) (number : ℕ) → revision_at es ≡ Ok number → HasField 255 (uint number) es
revision_found es number h = has_unsigned 255 es number (form_ok 255 _ number h)

-- the revision is there
require_revision : (es : Elements) (number : ℕ) → HasField 255 (uint number) es → require (255 ∷ []) es ≡ Ok tt
require_revision es number h = require_more 255 [] es (uint number) h (require_none es)

pub status_found : (es : Elements) (request : Request) → status_at es ≡ Ok request → IsReadFrom STATUS_RESPONSE request es
unfolding status_at
status_found es request h =
    let needed = bind_ok (require (0 ∷ 255 ∷ []) es) _ request h in
    let code = bind_ok (field_at (number_in 8) 0 es) _ request needed.2 in
    let number = bind_ok (revision_at es) _ request code.2 in
    let same : requests.Status code.0 ≡ request = cc in
    subst (λ (r : Request). IsReadFrom STATUS_RESPONSE r es) same (record {
      number = number.0;
      revision = revision_found es number.0 number.1;
      code = refl;
      table = record { status = has_number 8 0 es code.0 (form_ok 0 _ code.0 code.1) };
      in_limits = tt;
    })

pub status_only : (es : Elements) (code number : ℕ) → FieldsSpell (requests.Status code) es → HasField 255 (uint number) es → status_at es ≡ Ok (requests.Status code)
unfolding status_at
status_only es code number t revision =
    rw (require_more 0 (255 ∷ []) es (uint code) t.status.0 (require_revision es number revision), number_read 8 0 es code t.status, field_only 255 es (uint number) revision) refl

pub read_found : (es : Elements) (request : Request) → read_at es ≡ Ok request → IsReadFrom READ_REQUEST request es
unfolding read_at
read_found es request h =
    let needed = bind_ok (require (3 ∷ 255 ∷ []) es) _ request h in
    let s = bind_ok (selection_at 0 3 es) _ request needed.2 in
    let number = bind_ok (revision_at es) _ request s.2 in
    let t = selection_found 0 3 es s.0 s.1 in
    let made : Request = requests.Read s.0.paths s.0.events s.0.minimum s.0.filtered s.0.versions in
    let few = within_found (length s.0.paths + length s.0.events) PATHS made request number.2 in
    subst (λ (r : Request). IsReadFrom READ_REQUEST r es) few.1 (record {
      number = number.0;
      revision = revision_found es number.0 number.1;
      code = refl;
      table = record {
        minimums = t.minimums;
        attribute_paths = t.paths;
        event_paths = t.events;
        event_filters = t.filters;
        is_greatest = t.is_greatest;
        fabric_filtered = t.filtered;
        version_filters = t.versions;
      };
      in_limits = few.0;
    })

pub read_only : (es : Elements) (paths events : List Path) (minimum : ℕ) (filtered : Bool) (versions : List Version) (number : ℕ) → FieldsSpell (requests.Read paths events minimum filtered versions) es
    → HasField 255 (uint number) es → length paths + length events ≤ PATHS → read_at es ≡ Ok (requests.Read paths events minimum filtered versions)
unfolding read_at
read_only es paths events minimum filtered versions number t revision few =
    let s : Selection = record { paths = paths; events = events; minimum = minimum; filtered = filtered; versions = versions } in
    rw (
      require_more 3 (255 ∷ []) es (bool filtered) t.fabric_filtered (require_revision es number revision),
      selection_only 0 3 es s (record {
        minimums = t.minimums;
        paths = t.attribute_paths;
        events = t.event_paths;
        filters = t.event_filters;
        is_greatest = t.is_greatest;
        filtered = t.fabric_filtered;
        versions = t.version_filters;
      }),
      field_only 255 es (uint number) revision,
    ) (within_only (length paths + length events) PATHS _ few)

pub subscribe_found : (es : Elements) (request : Request) → subscribe_at es ≡ Ok request → IsReadFrom SUBSCRIBE_REQUEST request es
unfolding subscribe_at
subscribe_found es request h =
    let needed = bind_ok (require (0 ∷ 1 ∷ 2 ∷ 7 ∷ 255 ∷ []) es) _ request h in
    let keep = bind_ok (field_at truth_in 0 es) _ request needed.2 in
    let floor = bind_ok (field_at (number_in 16) 1 es) _ request keep.2 in
    let ceiling = bind_ok (field_at (number_in 16) 2 es) _ request floor.2 in
    let s = bind_ok (selection_at 3 7 es) _ request ceiling.2 in
    let number = bind_ok (revision_at es) _ request s.2 in
    let t = selection_found 3 7 es s.0 s.1 in
    let made : Request = requests.Subscribe keep.0 floor.0 ceiling.0 s.0.paths s.0.events s.0.minimum s.0.filtered s.0.versions in
    let few = within_found (length s.0.paths + length s.0.events) PATHS made request number.2 in
    subst (λ (r : Request). IsReadFrom SUBSCRIBE_REQUEST r es) few.1 (record {
      number = number.0;
      revision = revision_found es number.0 number.1;
      code = refl;
      table = record {
        minimums = t.minimums;
        keep_subscriptions = has_truth 0 es keep.0 (form_ok 0 _ keep.0 keep.1);
        min_interval_floor = has_number 16 1 es floor.0 (form_ok 1 _ floor.0 floor.1);
        max_interval_ceiling = has_number 16 2 es ceiling.0 (form_ok 2 _ ceiling.0 ceiling.1);
        attribute_paths = t.paths;
        event_paths = t.events;
        event_filters = t.filters;
        is_greatest = t.is_greatest;
        fabric_filtered = t.filtered;
        version_filters = t.versions;
      };
      in_limits = few.0;
    })

pub subscribe_only : (es : Elements) (keep : Bool) (floor ceiling : ℕ) (paths events : List Path) (minimum : ℕ) (filtered : Bool) (versions : List Version) (number : ℕ)
    → FieldsSpell (requests.Subscribe keep floor ceiling paths events minimum filtered versions) es
    → HasField 255 (uint number) es → length paths + length events ≤ PATHS → subscribe_at es ≡ Ok (requests.Subscribe keep floor ceiling paths events minimum filtered versions)
unfolding subscribe_at
subscribe_only es keep floor ceiling paths events minimum filtered versions number t revision few =
    let s : Selection = record { paths = paths; events = events; minimum = minimum; filtered = filtered; versions = versions } in
    rw (
      require_more 0 (1 ∷ 2 ∷ 7 ∷ 255 ∷ []) es (bool keep) t.keep_subscriptions
          (require_more 1 (2 ∷ 7 ∷ 255 ∷ []) es (uint floor) t.min_interval_floor.0
          (require_more 2 (7 ∷ 255 ∷ []) es (uint ceiling) t.max_interval_ceiling.0
          (require_more 7 (255 ∷ []) es (bool filtered) t.fabric_filtered (require_revision es number revision)))),
      field_only 0 es (bool keep) t.keep_subscriptions,
      number_read 16 1 es floor t.min_interval_floor,
      number_read 16 2 es ceiling t.max_interval_ceiling,
      selection_only 3 7 es s (record {
        minimums = t.minimums;
        paths = t.attribute_paths;
        events = t.event_paths;
        filters = t.event_filters;
        is_greatest = t.is_greatest;
        filtered = t.fabric_filtered;
        versions = t.version_filters;
      }),
      field_only 255 es (uint number) revision,
    ) (within_only (length paths + length events) PATHS _ few)

-- By the law of values and their trees.
module _ (tree_value : (t : Tree) → tree (value_of t) ≡ t) (value_tree : (v : Value) → value_of (tree v) ≡ v) where
  pub write_found : (es : Elements) (request : Request) → write_at es ≡ Ok request → IsReadFrom WRITE_REQUEST request es
  unfolding write_at
  write_found es request h =
      let needed = bind_ok (require (1 ∷ 2 ∷ 255 ∷ []) es) _ request h in
      let suppress = bind_ok (form 0 (optional_truth_at 0 es)) _ request needed.2 in
      let timed = bind_ok (field_at truth_in 1 es) _ request suppress.2 in
      let items = bind_ok (field_at (blocks_in write_item_in) 2 es) _ request timed.2 in
      let chunks = bind_ok (form 3 (not_true (optional_truth_at 3 es))) _ request items.2 in
      let number = bind_ok (revision_at es) _ request chunks.2 in
      let few = within_found (length items.0) WRITE_ITEMS (requests.Write suppress.0 timed.0 items.0) request number.2 in
      subst (λ (r : Request). IsReadFrom WRITE_REQUEST r es) few.1 (record {
        number = number.0;
        revision = revision_found es number.0 number.1;
        code = refl;
        table = record {
          suppress_response = may_have_truth 0 es suppress.0 (form_ok 0 _ suppress.0 suppress.1);
          timed_request = has_truth 1 es timed.0 (form_ok 1 _ timed.0 timed.1);
          writes = has_blocks write_item_in AttributeDataSpells (write_item_ties tree_value value_tree) 2 es items.0 (form_ok 2 _ items.0 items.1);
          more_chunks = must_be_false 3 es chunks.0 (form_ok 3 _ chunks.0 chunks.1);
        };
        in_limits = few.0;
      })

  pub write_only : (es : Elements) (suppress timed : Bool) (items : List WriteItem) (number : ℕ) → FieldsSpell (requests.Write suppress timed items) es
      → HasField 255 (uint number) es → length items ≤ WRITE_ITEMS → write_at es ≡ Ok (requests.Write suppress timed items)
  unfolding write_at
  write_only es suppress timed items number t revision few =
      rw (
        require_more 1 (2 ∷ 255 ∷ []) es (bool timed) t.timed_request (require_more 2 (255 ∷ []) es (array t.writes.0) t.writes.1 (require_revision es number revision)),
        optional_truth_read 0 es suppress t.suppress_response,
        field_only 1 es (bool timed) t.timed_request,
        required_blocks_read write_item_in AttributeDataSpells (write_item_ties tree_value value_tree) 2 es items t.writes,
        optional_truth_read 3 es false t.more_chunks,
        field_only 255 es (uint number) revision,
      ) (within_only (length items) WRITE_ITEMS _ few)

  -- the one command among members
  one_command : (es : Elements) (command : Place × Value) → command_among es ≡ Some command → blocks_of command_data_in es ≡ Some (command ∷ [])
  unfolding blocks_of
  one_command none command h = absurd cc
  one_command (more tag v none) command h = rw h refl
  one_command (more tag v (more other w es)) command h = absurd cc

  command_found : (es : Elements) (command : Place × Value) → required_at command_in 2 es ≡ Some command → HasBlocks 2 CommandDataSpells (command ∷ []) es
  command_found es command h =
      let v = required_found command_in 2 es command h in
      let inner = bind_some (array_in v.0) command_among command v.2 in (
        inner.0,
        subst (λ (x : Tree). HasField 2 x es) (array_found v.0 inner.0 inner.1) v.1,
        are_blocks command_data_in CommandDataSpells (command_data_ties tree_value value_tree) inner.0 (command ∷ []) (one_command inner.0 command inner.2),
      )

  command_among_only : (inner : Elements) (command : Place × Value) → AreBlocks CommandDataSpells (command ∷ []) inner → command_among inner ≡ Some command
  command_among_only none command h = absurd h
  command_among_only (more tag v none) command h = (command_data_ties tree_value value_tree).only v command h.0
  command_among_only (more tag v (more other w es)) command h = absurd h.1

  command_only : (es : Elements) (command : Place × Value) → HasBlocks 2 CommandDataSpells (command ∷ []) es → required_at command_in 2 es ≡ Some command
  command_only es command h = required_only command_in 2 es (array h.0) h.1 ∙ command_among_only h.0 command h.2

  pub invoke_found : (es : Elements) (request : Request) → invoke_at es ≡ Ok request → IsReadFrom INVOKE_REQUEST request es
  unfolding invoke_at
  invoke_found es request h =
      let needed = bind_ok (require (0 ∷ 1 ∷ 2 ∷ 255 ∷ []) es) _ request h in
      let suppress = bind_ok (field_at truth_in 0 es) _ request needed.2 in
      let timed = bind_ok (field_at truth_in 1 es) _ request suppress.2 in
      let command = bind_ok (field_at command_in 2 es) _ request timed.2 in
      let number = bind_ok (revision_at es) _ request command.2 in
      let same : requests.Invoke suppress.0 timed.0 command.0.0 command.0.1 ≡ request = cc in
      subst (λ (r : Request). IsReadFrom INVOKE_REQUEST r es) same (record {
        number = number.0;
        revision = revision_found es number.0 number.1;
        code = refl;
        table = record {
          suppress_response = has_truth 0 es suppress.0 (form_ok 0 _ suppress.0 suppress.1);
          timed_request = has_truth 1 es timed.0 (form_ok 1 _ timed.0 timed.1);
          invokes = command_found es command.0 (form_ok 2 _ command.0 command.1);
        };
        in_limits = tt;
      })

  pub invoke_only : (es : Elements) (suppress timed : Bool) (command : Place) (fields : Value) (number : ℕ) → FieldsSpell (requests.Invoke suppress timed command fields) es
      → HasField 255 (uint number) es → invoke_at es ≡ Ok (requests.Invoke suppress timed command fields)
  unfolding invoke_at
  invoke_only es suppress timed command fields number t revision =
      rw (
        require_more 0 (1 ∷ 2 ∷ 255 ∷ []) es (bool suppress) t.suppress_response
            (require_more 1 (2 ∷ 255 ∷ []) es (bool timed) t.timed_request
            (require_more 2 (255 ∷ []) es (array t.invokes.0) t.invokes.1 (require_revision es number revision))),
        field_only 0 es (bool suppress) t.suppress_response,
        field_only 1 es (bool timed) t.timed_request,
        command_only es (command, fields) t.invokes,
        field_only 255 es (uint number) revision,
      ) refl

pub timed_found : (es : Elements) (request : Request) → timed_at es ≡ Ok request → IsReadFrom TIMED_REQUEST request es
unfolding timed_at
timed_found es request h =
    let needed = bind_ok (require (0 ∷ 255 ∷ []) es) _ request h in
    let ms = bind_ok (field_at (number_in 16) 0 es) _ request needed.2 in
    let number = bind_ok (revision_at es) _ request ms.2 in
    let same : requests.Timed ms.0 ≡ request = cc in
    subst (λ (r : Request). IsReadFrom TIMED_REQUEST r es) same (record {
      number = number.0;
      revision = revision_found es number.0 number.1;
      code = refl;
      table = record { timeout = has_number 16 0 es ms.0 (form_ok 0 _ ms.0 ms.1) };
      in_limits = tt;
    })

pub timed_only : (es : Elements) (ms number : ℕ) → FieldsSpell (requests.Timed ms) es → HasField 255 (uint number) es → timed_at es ≡ Ok (requests.Timed ms)
unfolding timed_at
timed_only es ms number t revision =
    rw (require_more 0 (255 ∷ []) es (uint ms) t.timeout.0 (require_revision es number revision), number_read 16 0 es ms t.timeout, field_only 255 es (uint number) revision) refl

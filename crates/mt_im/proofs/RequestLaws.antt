-- What is read as a request is spelled so, and what is spelled so is read.
use Rattle.std.proofs.Common.{◌≡◌, ◌∙◌, sym, subst, ap, ℕ, ◌≤◌, ◌==◌, Bool, true, false, List, ◌++◌, length, take, drop, take-append-drop, Result, Ok, Err, IfOk, refl, if◌then◌else◌}
use Rattle.std.proofs.lemmas.Bool.{eqb-true}
use Rattle.mt_tlv.specs.declared.value.Tag.{Tag}
use Rattle.mt_tlv.specs.declared.value.Tag.TheVariants.{Anonymous}
use Rattle.mt_tlv.specs.Limits.{IsElement}
use Rattle.mt_tlv.specs.Reading.{element_at}
use Rattle.mt_tlv.specs.Tree.{Tree, uint, structure, Elements}
use Rattle.mt_tlv.specs.View.{tree, value_of}
use Rattle.mt_tlv.specs.declared.value.Value.{Value}
use Rattle.mt_model.specs.declared.messages.message.Request.{Request}
use Rattle.mt_model.specs.declared.messages.message.Request.TheVariants as requests
use Rattle.mt_model.specs.declared.messages.opcode.TheConstants.{STATUS_RESPONSE, READ_REQUEST, SUBSCRIBE_REQUEST, WRITE_REQUEST, INVOKE_REQUEST, TIMED_REQUEST}
use Rattle.mt_im.specs.declared.fault.ImFault.{ImFault}
use Rattle.mt_im.specs.declared.messages.Kind.{Kind}
use Rattle.mt_im.specs.declared.messages.Kind.TheVariants as kinds
use Rattle.mt_im.specs.Fields.{HasField}
use Rattle.mt_model.specs.Trees.{structure_in}
use Rattle.mt_im.specs.Spelling.{FieldsSpell, RequestSpells}
use Rattle.mt_im.specs.Limits.{IsWithinLimits, IsRequestIn}
use Rattle.mt_im.specs.Requests.{opcode_of}
use Rattle.mt_im.specs.Reading.{◌>>=◌, Gives, form, kind_of, fields_at, request_at, request_in}
use Rattle.mt_im.proofs.FieldLaws.{structure_found}
use Rattle.mt_im.proofs.MessageLaws.{bind_ok, form_ok, IsReadFrom, status_found, status_only, read_found, read_only, subscribe_found, subscribe_only, write_found, write_only, invoke_found, invoke_only, timed_found, timed_only}

-- the opcode of a kind of requests
abbrev code_of_kind : Kind → ℕ
code_of_kind kinds.Status = STATUS_RESPONSE
code_of_kind kinds.Read = READ_REQUEST
code_of_kind kinds.Subscribe = SUBSCRIBE_REQUEST
code_of_kind kinds.Write = WRITE_REQUEST
code_of_kind kinds.Invoke = INVOKE_REQUEST
code_of_kind kinds.Timed = TIMED_REQUEST

choice : (opcode : ℕ) (made kind : Kind) (rest : Result Kind ImFault) (b : Bool) → opcode == code_of_kind made ≡ b → (if b then Ok made else rest) ≡ Ok kind
    → (rest ≡ Ok kind → opcode ≡ code_of_kind kind) → opcode ≡ code_of_kind kind
choice opcode made kind rest true e h others = let same : made ≡ kind = cc in eqb-true opcode (code_of_kind made) e ∙ ap code_of_kind same
choice opcode made kind rest false e h others = others h

kind_found : (opcode : ℕ) (kind : Kind) → kind_of opcode ≡ Ok kind → opcode ≡ code_of_kind kind
unfolding kind_of
kind_found opcode kind h =
    choice opcode kinds.Status kind _ (opcode == STATUS_RESPONSE) refl h (λ h1.
    choice opcode kinds.Read kind _ (opcode == READ_REQUEST) refl h1 (λ h2.
    choice opcode kinds.Subscribe kind _ (opcode == SUBSCRIBE_REQUEST) refl h2 (λ h3.
    choice opcode kinds.Write kind _ (opcode == WRITE_REQUEST) refl h3 (λ h4.
    choice opcode kinds.Invoke kind _ (opcode == INVOKE_REQUEST) refl h4 (λ h5.
    choice opcode kinds.Timed kind _ (opcode == TIMED_REQUEST) refl h5 (λ h6. absurd cc))))))

-- The law of the encoding that an element is read, whatever follows it.
abbrev pub ElementIsRead : Type 0
ElementIsRead = (tag : Tag) (v : Tree) (bytes rest : List ℕ) → IsElement tag v bytes → element_at (bytes ++ rest) ≡ Ok ((tag, v), rest)

-- By the law of values and their trees.
module _ (tree_value : (t : Tree) → tree (value_of t) ≡ t) (value_tree : (v : Value) → value_of (tree v) ≡ v) where
  -- what is read from the fields of a message of this kind
  pub fields_found : (opcode : ℕ) (kind : Kind) (es : Elements) (request : Request) → kind_of opcode ≡ Ok kind → fields_at kind es ≡ Ok request → IsReadFrom opcode request es
  fields_found opcode kinds.Status es request k h = subst (λ (o : ℕ). IsReadFrom o request es) (sym (kind_found opcode kinds.Status k)) (status_found es request h)
  fields_found opcode kinds.Read es request k h = subst (λ (o : ℕ). IsReadFrom o request es) (sym (kind_found opcode kinds.Read k)) (read_found es request h)
  fields_found opcode kinds.Subscribe es request k h = subst (λ (o : ℕ). IsReadFrom o request es) (sym (kind_found opcode kinds.Subscribe k)) (subscribe_found es request h)
  fields_found opcode kinds.Write es request k h = subst (λ (o : ℕ). IsReadFrom o request es) (sym (kind_found opcode kinds.Write k)) (write_found tree_value value_tree es request h)
  fields_found opcode kinds.Invoke es request k h = subst (λ (o : ℕ). IsReadFrom o request es) (sym (kind_found opcode kinds.Invoke k)) (invoke_found tree_value value_tree es request h)
  fields_found opcode kinds.Timed es request k h = subst (λ (o : ℕ). IsReadFrom o request es) (sym (kind_found opcode kinds.Timed k)) (timed_found es request h)

  -- what is spelled by fields is read from them
  pub fields_only : (request : Request) (es : Elements) (number : ℕ) → FieldsSpell request es → HasField 255 (uint number) es → IsWithinLimits request
      → (kind_of (opcode_of request) >>= λ kind. fields_at kind es) ≡ Ok request
  unfolding kind_of
  fields_only (requests.Status code) es number t revision few = status_only es code number t revision
  fields_only (requests.Read paths events minimum filtered versions) es number t revision few = read_only es paths events minimum filtered versions number t revision few
  fields_only (requests.Subscribe keep floor ceiling paths events minimum filtered versions) es number t revision few = subscribe_only es keep floor ceiling paths events minimum filtered versions number t revision few
  fields_only (requests.Write suppress timed items) es number t revision few = write_only tree_value value_tree es suppress timed items number t revision few
  fields_only (requests.Invoke suppress timed command fields) es number t revision few = invoke_only tree_value value_tree es suppress timed command fields number t revision
  fields_only (requests.Timed ms) es number t revision few = timed_only es ms number t revision

  -- ---- trees

  pub tree_found : (opcode : ℕ) (v : Tree) (request : Request) → request_at opcode v ≡ Ok request → RequestSpells opcode request v × IsWithinLimits request
  unfolding request_at
  tree_found opcode v request h =
      let kind = bind_ok (kind_of opcode) _ request h in
      let fields = bind_ok (form 255 (structure_in v)) (fields_at kind.0) request kind.2 in
      let r = fields_found opcode kind.0 fields.0 request kind.1 fields.2 in (
        record {
          fields = fields.0;
          number = r.number;
          form = structure_found v fields.0 (form_ok 255 _ fields.0 fields.1);
          code = r.code;
          table = r.table;
          revision = r.revision;
        },
        r.in_limits,
      )

  pub tree_only : (opcode : ℕ) (v : Tree) (request : Request) → RequestSpells opcode request v → IsWithinLimits request → request_at opcode v ≡ Ok request
  unfolding request_at
  tree_only opcode v request s few = rw (s.form, s.code) (fields_only request s.fields s.number s.table s.revision few)

  -- ---- bytes

  -- a request that the first element spells is read
  pub element_only : (opcode : ℕ) (bytes rest : List ℕ) (v : Tree) (request : Request) → element_at bytes ≡ Ok ((Anonymous, v), rest) → RequestSpells opcode request v → IsWithinLimits request
      → request_in opcode bytes ≡ Ok request
  element_only opcode bytes rest v request e s few = rw (e, s.form, s.code) (fields_only request s.fields s.number s.table s.revision few)

  -- what stands in front of bytes is read from them
  pub bytes_only : ElementIsRead → (opcode : ℕ) (bytes : List ℕ) (request : Request) → IsRequestIn opcode request bytes → request_in opcode bytes ≡ Ok request
  bytes_only law opcode bytes request r =
      let e : element_at bytes ≡ Ok ((Anonymous, r.tree_in_front), drop r.len bytes) =
      subst (λ (bs : List ℕ). element_at bs ≡ Ok ((Anonymous, r.tree_in_front), drop r.len bytes)) (take-append-drop r.len bytes) (law Anonymous r.tree_in_front (take r.len bytes) (drop r.len bytes) r.element) in
      element_only opcode bytes (drop r.len bytes) r.tree_in_front request e r.spelled r.within

  -- what stands in front of bytes is read from the element there
  pub found_in_front : (opcode : ℕ) (bytes : List ℕ) (kind : Kind) (es : Elements) (result : Result Request ImFault) → kind_of opcode ≡ Ok kind
      → (len : ℕ) × (len ≤ length bytes) × IsElement Anonymous (structure es) (take len bytes) → Gives (λ x. x) result (fields_at kind es) → IfOk result (λ request. IsRequestIn opcode request bytes)
  found_in_front opcode bytes kind es (Err e) k front h = tt
  found_in_front opcode bytes kind es (Ok request) k front h =
      let r = fields_found opcode kind es request k h in
      record {
        len = front.0;
        tree_in_front = structure es;
        whole = front.1;
        element = front.2;
        spelled = record { fields = es; number = r.number; form = refl; code = r.code; table = r.table; revision = r.revision };
        within = r.in_limits;
      }

  -- what is spelled in front of bytes is what a call gave that gives what is read
  pub only_in_front : ElementIsRead → (opcode : ℕ) (bytes : List ℕ) (result : Result Request ImFault) → Gives (λ x. x) result (request_in opcode bytes)
      → (request : Request) → IsRequestIn opcode request bytes → Gives (λ x. x) result (Ok request)
  only_in_front law opcode bytes result h request r = subst (λ (read : Result Request ImFault). Gives (λ x. x) result read) (bytes_only law opcode bytes request r) h

-- What is kept while the items of a report are put into payloads, and what each block makes of it.
use Rattle.std.specs.Prelude.{ℕ, ◌+◌, Bool, true, false, ◌||◌, Option, None, List, [], ◌∷◌, ◌++◌, length, nat_le, if◌then◌else◌}
use Rattle.mt_tlv.specs.declared.value.Tag.TheVariants.{Anonymous, Context}
use Rattle.mt_tlv.specs.Narrow.{narrow_elements, opening, end_of_container}
use Rattle.mt_tlv.specs.Tree.{none}
use Rattle.mt_model.specs.messages.Blocks.{optional_number, item_block}
use Rattle.mt_model.specs.declared.limits.TheConstants.{ITEM_BYTES}
use Rattle.mt_model.specs.declared.messages.message.Item.{Item}
use Rattle.mt_model.specs.declared.messages.message.Payload.{Payload}
use Rattle.mt_model.specs.declared.messages.opcode.TheConstants.{REPORT_DATA}
use Rattle.mt_im.specs.Requests.{revision}
use Rattle.mt_im_out.specs.declared.reports.Packing.{Packing}
use Rattle.mt_im_out.specs.Messages.{optional_truth}
use Rattle.mt_im_out.specs.Chunks.{is_event, split_item}

-- blocks as an array under a context tag, left out where there are none
abbrev pub optional_bytes : ℕ → List ℕ → List ℕ
optional_bytes tag [] = []
optional_bytes tag (byte ∷ bytes) = opening (Context tag) 22 ++ ((byte ∷ bytes) ++ end_of_container ∷ [])

-- a report from the bytes of its blocks
abbrev pub report_bytes : Option ℕ → List ℕ → List ℕ → Bool → Bool → List ℕ
report_bytes subscription attributes events follows suppress = opening Anonymous 21
    ++ (narrow_elements (optional_number 0 subscription none)
    ++ (optional_bytes 1 attributes
    ++ (optional_bytes 2 events
    ++ (narrow_elements (optional_truth 3 follows none)
    ++ (narrow_elements (optional_truth 4 suppress none)
    ++ (narrow_elements revision ++ end_of_container ∷ []))))))

abbrev pub blocks_payload : Option ℕ → List ℕ → List ℕ → Bool → Bool → Payload
blocks_payload subscription attributes events follows suppress = record { opcode = REPORT_DATA; bytes = report_bytes subscription attributes events follows suppress; deadline = None }

-- the payloads that are whole, of which each says that more follows, and the blocks of the one that is begun
pub record Packed : Type 0 where
  pub subscription : Option ℕ
  pub done : List Payload
  pub begun : List ℕ

abbrev pub packed : Packing → Packed
packed p = record { subscription = p.subscription; done = p.payloads.items; begun = p.begun.items }

abbrev pub is_empty : List ℕ → Bool
is_empty [] = true
is_empty (byte ∷ bytes) = false

-- whether a block joins those of the payload that is begun
abbrev pub joins : List ℕ → List ℕ → Bool
joins begun block = is_empty begun || nat_le (length begun + length block) ITEM_BYTES

-- a block is put behind the others
abbrev pub put : Packed → List ℕ → Packed
put p block =
    if joins p.begun block then record p { begun = p.begun ++ block }
    else record p { done = p.done ++ blocks_payload p.subscription p.begun [] true false ∷ []; begun = block }

abbrev pub put_all : Packed → List Item → Packed
put_all p [] = p
put_all p (item ∷ items) = put_all (put p (item_block item)) items

-- an item of an attribute is put as what stands for it
abbrev pub put_attribute : Packed → Item → Packed
put_attribute p item = if is_event item then p else put_all p (split_item item)

abbrev pub put_attributes : Packed → List Item → Packed
put_attributes p [] = p
put_attributes p (item ∷ items) = put_attributes (put_attribute p item) items

-- the payloads, with the blocks of events in one of their own
abbrev pub finished : Packed → List ℕ → Bool → List Payload
finished p events suppress =
    if is_empty p.begun then p.done ++ blocks_payload p.subscription [] events false suppress ∷ []
    else if is_empty events then p.done ++ blocks_payload p.subscription p.begun [] false suppress ∷ []
    else (p.done ++ blocks_payload p.subscription p.begun [] true false ∷ []) ++ blocks_payload p.subscription [] events false suppress ∷ []

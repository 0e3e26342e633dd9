-- The parts of an element together take as many bytes as its narrow encoding.
use Rattle.std.proofs.Common.{◌≡◌, ℕ, zero, suc, ◌+◌, ◌≤◌, ◌/◌, ◌^◌, List, [], ◌∷◌, ◌++◌, length, refl, sym, ap, ◌∙◌, subst, arith, true≢false}
use Rattle.std.specs.Prelude.{Bool, true, false, Option, Some, None, Result, Ok, Err}
use Rattle.std.specs.Int.{w64, cast_unsigned}
use Rattle.std.proofs.lemmas.List.{length-append}
use Rattle.mt_tlv.specs.Limits.{IsElement}
use Rattle.mt_tlv.specs.Narrow.{little_endian, narrow, narrow_elements, narrow_signed, narrow_string, narrow_unsigned, signed_width_of, tag_field, width_of}
use Rattle.mt_tlv.specs.Parts.{Piece, Place, enter, leave, next_at, scalar, start}
use Rattle.mt_tlv.specs.Parts as parts
use Rattle.mt_tlv.specs.Runs.{Comes, behind, parts_inside, parts_of}
use Rattle.mt_tlv.specs.Tree.{Tree, int, uint, bool, text, octets, null, bits32, bits64, structure, array, list, Elements, none, more}
use Rattle.mt_tlv.specs.declared.fault.TlvFault.{TlvFault}
use Rattle.mt_tlv.specs.declared.value.Tag.{Tag}
use Rattle.mt_durable.specs.Lengths.{Begins, piece_length, pieces_length}

length_little : (k n : ℕ) → length (little_endian k n) ≡ k
length_little zero n = refl
length_little (suc k) n = ap suc (length_little k (n / 256))

pieces_append : (xs ys : List Piece) → pieces_length (xs ++ ys) ≡ pieces_length xs + pieces_length ys
pieces_append [] ys = omega arith
pieces_append (x ∷ xs) ys = omega (arith, pieces_append xs ys)

pub string_bytes : (s : List ℕ) → length (narrow_string s) ≡ 2 ^ width_of (length s) + length s
string_bytes s = omega (arith, length-append (narrow_unsigned (length s)) s, length_little (2 ^ width_of (length s)) (length s))

container_bytes : (tag : Tag) (es : Elements) → pieces_length (parts_inside es) ≡ length (narrow_elements es)
    → suc (length (tag_field tag)) + pieces_length (parts_inside es ++ leave ∷ []) ≡ suc (length (tag_field tag ++ (narrow_elements es ++ 24 ∷ [])))
container_bytes tag es inside =
    omega (arith, inside, pieces_append (parts_inside es) (leave ∷ []), length-append (narrow_elements es) (24 ∷ []), length-append (tag_field tag) (narrow_elements es ++ 24 ∷ []))

mutual
  pub element_pieces : (tag : Tag) (v : Tree) → pieces_length (parts_of tag v) ≡ length (narrow tag v)
  element_pieces tag (int z) = omega (arith, length-append (tag_field tag) (narrow_signed z), length_little (2 ^ signed_width_of z) (cast_unsigned w64 z))
  element_pieces tag (uint n) = omega (arith, length-append (tag_field tag) (narrow_unsigned n), length_little (2 ^ width_of n) n)
  element_pieces tag (bool b) = omega (arith, length-append (tag_field tag) [])
  element_pieces tag (text s) = omega (arith, length-append (tag_field tag) (narrow_string s), string_bytes s)
  element_pieces tag (octets s) = omega (arith, length-append (tag_field tag) (narrow_string s), string_bytes s)
  element_pieces tag null = omega (arith, length-append (tag_field tag) [])
  element_pieces tag (bits32 n) = omega (arith, length-append (tag_field tag) (little_endian 4 n))
  element_pieces tag (bits64 n) = omega (arith, length-append (tag_field tag) (little_endian 8 n))
  element_pieces tag (structure es) = container_bytes tag es (inside_pieces es)
  element_pieces tag (array es) = container_bytes tag es (inside_pieces es)
  element_pieces tag (list es) = container_bytes tag es (inside_pieces es)

  inside_pieces : (es : Elements) → pieces_length (parts_inside es) ≡ length (narrow_elements es)
  inside_pieces none = refl
  inside_pieces (more tag v es) = omega (arith, pieces_append (parts_of tag v) (parts_inside es), element_pieces tag v, inside_pieces es, length-append (narrow tag v) (narrow_elements es))

pub some_bytes : (piece : Piece) → 1 ≤ piece_length piece
some_bytes (scalar tag v) = omega arith
some_bytes (parts.text tag s) = omega arith
some_bytes (parts.octets tag s) = omega arith
some_bytes (enter tag type) = omega arith
some_bytes leave = omega arith

-- Of an element that begins some bytes, so many bytes were counted, and these parts are left.
pub record Counted (bytes : List ℕ) (begins : Begins bytes) (place : Place) (count : ℕ) : Type 0 where
  pub pieces : List Piece
  pub comes : Comes place pieces (behind (length bytes) begins.rest)
  pub sum : count + pieces_length pieces ≡ length (narrow begins.tag begins.tree)

abbrev Next : Type 0
Next = Result (Option Piece × Place) TlvFault

abbrev place_in : Place → Next → Place
place_in p (Ok x) = x.1
place_in p (Err f) = p

abbrev piece_or : Piece → Option Piece → Piece
piece_or x (Some y) = y
piece_or x None = x

-- the part that a step gives, and otherwise this one
abbrev piece_in : Piece → Next → Piece
piece_in x (Ok y) = piece_or x y.0
piece_in x (Err f) = x

-- whether a step gives a part
abbrev is_part : Option Piece → Bool
is_part (Some y) = true
is_part None = false

abbrev pub gives_part : Next → Bool
gives_part (Ok y) = is_part y.0
gives_part (Err f) = false

module _ (bytes : List ℕ) (begins : Begins bytes) where
  pub at_start : ((tag : Tag) (v : Tree) (bytes rest : List ℕ) → IsElement tag v bytes → Comes (start (bytes ++ rest)) (parts_of tag v) (behind (length (bytes ++ rest)) rest)) → Counted bytes begins (start bytes) 0
  at_start over = record {
    pieces = parts_of begins.tag begins.tree;
    comes = subst (λ (b : List ℕ). Comes (start b) (parts_of begins.tag begins.tree) (behind (length b) begins.rest)) (sym begins.is) (over begins.tag begins.tree (narrow begins.tag begins.tree) begins.rest begins.element);
    sum = omega (arith, element_pieces begins.tag begins.tree);
  }

  one_more : (place : Place) (count : ℕ) (x : Piece) (next : Place) (pieces : List Piece) → ((whole : ℕ) (rest : List ℕ) → next_at (behind whole rest) ≡ Ok (None, behind whole rest))
      → next_at place ≡ Ok (Some x, next) → Comes place pieces (behind (length bytes) begins.rest) → count + pieces_length pieces ≡ length (narrow begins.tag begins.tree) → Counted bytes begins next (count + piece_length x)
  one_more place count x next [] ended is comes sum = absurd (true≢false (sym (ap gives_part (sym (ended (length bytes) begins.rest) ∙ ap next_at (sym comes) ∙ is))))
  one_more place count x next (y ∷ ys) ended is comes sum =
      let same = sym comes.1 ∙ is in
      let piece : y ≡ x = ap (piece_in y) same in
      let stands : comes.0 ≡ next = ap (place_in comes.0) same in
      record {
        pieces = ys;
        comes = subst (λ (p : Place). Comes p ys (behind (length bytes) begins.rest)) stands comes.2;
        sum = omega (arith, sum, ap piece_length piece);
      }

  pub counted_more : ((whole : ℕ) (rest : List ℕ) → next_at (behind whole rest) ≡ Ok (None, behind whole rest)) → (place : Place) (count : ℕ) (x : Piece) (next : Place) → next_at place ≡ Ok (Some x, next) → Counted bytes begins place count → Counted bytes begins next (count + piece_length x)
  counted_more ended place count x next is counted = one_more place count x next counted.pieces ended is counted.comes counted.sum

  none_left : (place : Place) (count : ℕ) (pieces : List Piece) → gives_part (next_at place) ≡ false → Comes place pieces (behind (length bytes) begins.rest) → count + pieces_length pieces ≡ length (narrow begins.tag begins.tree) → count ≡ length (narrow begins.tag begins.tree)
  none_left place count [] is comes sum = omega (arith, sum)
  none_left place count (y ∷ ys) is comes sum = absurd (true≢false (sym (sym is ∙ ap gives_part comes.1)))

  pub all_counted : (place : Place) (count : ℕ) → gives_part (next_at place) ≡ false → Counted bytes begins place count → count ≡ length (narrow begins.tag begins.tree)
  all_counted place count is counted = none_left place count counted.pieces is counted.comes counted.sum

  -- no more than there are
  pub within : (place : Place) (count : ℕ) → Counted bytes begins place count → count ≤ length bytes
  within place count counted = omega (arith, counted.sum, ap length begins.is, length-append (narrow begins.tag begins.tree) begins.rest)

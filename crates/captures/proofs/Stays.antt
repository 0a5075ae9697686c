-- What a capture is by its first octets, whatever follows them.
use Rattle.std.proofs.Common.{◌≡◌, ◌≤◌, ◌+◌, ◌==◌, inl, inr, ℕ, List, ◌++◌, length, take, drop, Some, None, Result, Ok, Err, arith, refl, ◌∙◌, sym, ap, ap₂, length-drop, length-append, if◌then◌else◌}
use Rattle.std.proofs.lemmas.Bool.{cases_lt}
use Rattle.std.proofs.lemmas.List.{drop-append-le, take-append-le}
use Rattle.byteorder.specs.Endian.{big_number}
use Rattle.byteorder.specs.Numbers.{big_from-append, little_from-append}
use Rattle.captures.specs.Blocks.{block_order, even_block, most_block, order_of_magic}
use Rattle.captures.specs.Frames.{Frame, first_frame, frame_of_size, frame_size, frame_held, head_length, held_frame}
use Rattle.captures.specs.Framing.{number_in_order, or_fault, sized}
use Rattle.captures.specs.Record.{record_length}
use Rattle.captures.specs.declared.block.Section.{Section}
use Rattle.captures.specs.declared.fault.RecordFault.{RecordFault}
use Rattle.captures.specs.declared.format.Format.{Format}
use Rattle.captures.specs.declared.format.Format.TheVariants.{Erf, Pcap, PcapNg}
use Rattle.captures.specs.declared.format.Order.{Order}
use Rattle.captures.specs.declared.format.Order.TheVariants.{HighestFirst, LowestFirst}
use Rattle.captures.proofs.First.{has_head, lacks_head, when_above, when_below}

-- The length of a record is known once its first header is.
record_length-append : (xs ys : List ℕ) → 16 ≤ length xs → record_length (xs ++ ys) ≡ record_length xs
unfolding record_length
record_length-append xs ys long =
    ap (big_number 2) (drop-append-le 10 xs ys (omega arith))
    ∙ big_from-append 2 (drop 10 xs) ys (omega (arith, length-drop 10 xs))

-- So is a number of four octets once they are.
pub number-append : (order : Order) (xs ys : List ℕ) → 4 ≤ length xs → number_in_order order (xs ++ ys) ≡ number_in_order order xs
number-append HighestFirst xs ys long = big_from-append 4 xs ys long
number-append LowestFirst xs ys long = little_from-append 4 xs ys long

pub number_at-append : (order : Order) (n : ℕ) (xs ys : List ℕ) → n + 4 ≤ length xs
    → number_in_order order (drop n (xs ++ ys)) ≡ number_in_order order (drop n xs)
number_at-append order n xs ys long =
    ap (number_in_order order) (drop-append-le n xs ys (omega arith))
    ∙ number-append order (drop n xs) ys (omega (arith, length-drop n xs))

-- So is the order of a block.
order_from : Section → ℕ → ℕ → Result Order RecordFault
order_from section kind magic = if kind == 0x0a0d0d0a then order_of_magic magic else Ok section.order

is_order_from : (section : Section) (xs : List ℕ)
    → block_order section xs ≡ order_from section (big_number 4 xs) (big_number 4 (drop 8 xs))
unfolding order_from
is_order_from section xs = refl

block_order-append : (section : Section) (xs ys : List ℕ) → 12 ≤ length xs → block_order section (xs ++ ys) ≡ block_order section xs
block_order-append section xs ys long =
    is_order_from section (xs ++ ys)
    ∙ ap₂ (order_from section) (number-append HighestFirst xs ys (omega arith)) (number_at-append HighestFirst 8 xs ys (omega arith))
    ∙ sym (is_order_from section xs)

or_fault-alike : {A B : Type 0} (r : Result A RecordFault) (f g : A → Result B RecordFault) → ((a : A) → f a ≡ g a)
    → or_fault r f ≡ or_fault r g
or_fault-alike (Ok a) f g alike = alike a
or_fault-alike (Err reason) f g alike = refl

-- And the length field of a frame.
pub frame_size-append : (format : Format) (xs ys : List ℕ) → head_length format ≤ length xs
    → frame_size format (xs ++ ys) ≡ frame_size format xs
unfolding frame_size
frame_size-append Erf xs ys long = ap (sized 0 16 65535) (record_length-append xs ys long)
frame_size-append (Pcap order times) xs ys long = ap (sized 16 16 65535) (number_at-append order 8 xs ys (omega arith))
frame_size-append (PcapNg section) xs ys long =
    ap (λ r. or_fault r (λ order. or_fault (sized 0 12 most_block (number_in_order order (drop 4 (xs ++ ys)))) even_block))
    (block_order-append section xs ys long)
    ∙ or_fault-alike (block_order section xs) _ _
    (λ order. ap (λ n. or_fault (sized 0 12 most_block n) even_block) (number_at-append order 4 xs ys (omega arith)))

of_size-append : (format : Format) (at : ℕ) (xs ys : List ℕ) (size : Result ℕ RecordFault) (answer : Result Frame RecordFault)
    → frame_of_size format at xs size ≡ Some answer → frame_of_size format at (xs ++ ys) size ≡ Some answer
of_size-append format at xs ys (Err reason) answer is = is
of_size-append format at xs ys (Ok size) answer is =
    elim (cases_lt (length xs) size) [
      | inl short ↦ let bad : None ≡ Some answer = sym (when_below (length xs) size None (Some (held_frame at size (frame_held format (take size xs)))) short) ∙ is in cc
      | inr long ↦
          when_above (length (xs ++ ys)) size None (Some (held_frame at size (frame_held format (take size (xs ++ ys))))) (omega (arith, length-append xs ys))
          ∙ ap (λ frame. Some (held_frame at size (frame_held format frame))) (take-append-le size xs ys long)
          ∙ sym (when_above (length xs) size None (Some (held_frame at size (frame_held format (take size xs)))) long) ∙ is
    ]

-- What octets begin with stays if more follow.
pub first_frame-append : (format : Format) (at : ℕ) (xs ys : List ℕ) (answer : Result Frame RecordFault)
    → first_frame format at xs ≡ Some answer → first_frame format at (xs ++ ys) ≡ Some answer
first_frame-append format at xs ys answer is =
    elim (cases_lt (length xs) (head_length format)) [
      | inl short ↦ let bad : None ≡ Some answer = sym (lacks_head format at xs short) ∙ is in cc
      | inr long ↦
          has_head format at (xs ++ ys) (omega (arith, length-append xs ys))
          ∙ ap (frame_of_size format at (xs ++ ys)) (frame_size-append format xs ys long)
          ∙ of_size-append format at xs ys (frame_size format xs) answer (sym (has_head format at xs long) ∙ is)
    ]

-- The frame with which octets begin, step by step.
use Rattle.std.proofs.Common.{◌≡◌, ◌≤◌, ◌<◌, ◌+◌, ◌^◌, ℕ, List, length, take, Some, None, Result, Ok, Err, arith, ◌∙◌, refl, ap, nat_lt, if◌then◌else◌}
use Rattle.std.proofs.lemmas.Bool.Decides.{nat_tests}
use Rattle.captures.specs.Frames.{first_frame, frame_held, frame_of_size, frame_size, head_length, held_frame}
use Rattle.captures.specs.Framing.{Framed}
use Rattle.captures.specs.Reading.{TakesFrame, IsGiven, count_after}
use Rattle.captures.specs.declared.block.SkippedKind.{SkippedKind}
use Rattle.captures.specs.declared.fault.RecordFault.{RecordFault}
use Rattle.captures.specs.declared.fault.RecordFault.TheVariants.{TooFar}
use Rattle.captures.specs.declared.format.Format.{Format}
use Rattle.captures.specs.declared.format.Format.TheVariants.{Erf, Pcap, PcapNg}
use Rattle.captures.specs.declared.reader.SkippedBlock.{SkippedBlock}
use Rattle.captures.specs.declared.reader.Reader.{Reader}
use Rattle.captures.specs.declared.reader.Record.{Record}

pub when_below : {X : Type 0} (a b : ℕ) (x y : X) → a < b → (if nat_lt a b then x else y) ≡ x
when_below a b x y below = grind (arith, nat_tests)

pub when_above : {X : Type 0} (a b : ℕ) (x y : X) → b ≤ a → (if nat_lt a b then x else y) ≡ y
when_above a b x y above = grind (arith, nat_tests)

-- Octets without a whole head end inside a frame.
pub lacks_head : (format : Format) (at : ℕ) (octets : List ℕ) → length octets < head_length format
    → first_frame format at octets ≡ None
lacks_head format at octets short = when_below (length octets) (head_length format) _ _ short

pub has_head : (format : Format) (at : ℕ) (octets : List ℕ) → head_length format ≤ length octets
    → first_frame format at octets ≡ frame_of_size format at octets (frame_size format octets)
has_head format at octets headed = when_above (length octets) (head_length format) _ _ headed

-- A head may give no size.
pub lacks_size : (format : Format) (at : ℕ) (octets : List ℕ) (reason : RecordFault) → head_length format ≤ length octets
    → frame_size format octets ≡ Err reason → first_frame format at octets ≡ Some (Err reason)
lacks_size format at octets reason headed size =
    has_head format at octets headed ∙ ap (frame_of_size format at octets) size

pub has_size : (format : Format) (at : ℕ) (octets : List ℕ) (size : ℕ) → head_length format ≤ length octets
    → frame_size format octets ≡ Ok size → first_frame format at octets ≡ frame_of_size format at octets (Ok size)
has_size format at octets size headed is =
    has_head format at octets headed ∙ ap (frame_of_size format at octets) is

-- Octets may end before the frame does.
pub lacks_end : (format : Format) (at : ℕ) (octets : List ℕ) (size : ℕ) → head_length format ≤ length octets
    → frame_size format octets ≡ Ok size → length octets < size → first_frame format at octets ≡ None
lacks_end format at octets size headed is short =
    has_size format at octets size headed is ∙ when_below (length octets) size _ _ short

pub has_end : (format : Format) (at : ℕ) (octets : List ℕ) (size : ℕ) → head_length format ≤ length octets
    → frame_size format octets ≡ Ok size → size ≤ length octets
    → first_frame format at octets ≡ Some (held_frame at size (frame_held format (take size octets)))
has_end format at octets size headed is within =
    has_size format at octets size headed is ∙ when_above (length octets) size _ _ within

-- A whole frame may hold a fault.
pub lacks_content : (format : Format) (at : ℕ) (octets : List ℕ) (size : ℕ) (reason : RecordFault) → head_length format ≤ length octets
    → frame_size format octets ≡ Ok size → size ≤ length octets → frame_held format (take size octets) ≡ Err reason
    → first_frame format at octets ≡ Some (Err reason)
lacks_content format at octets size reason headed is within fault =
    has_end format at octets size headed is within ∙ ap (λ held. Some (held_frame at size held)) fault

pub has_content : (format : Format) (at : ℕ) (octets : List ℕ) (size : ℕ) (after : Format) (held : Result Framed SkippedKind) → head_length format ≤ length octets
    → frame_size format octets ≡ Ok size → size ≤ length octets → frame_held format (take size octets) ≡ Ok (after, held)
    → first_frame format at octets ≡ Some (held_frame at size (Ok (after, held)))
has_content format at octets size after held headed is within whole =
    has_end format at octets size headed is within ∙ ap (λ held. Some (held_frame at size held)) whole

-- It may end too far on.
pub ends_far : (format : Format) (at : ℕ) (octets : List ℕ) (size : ℕ) (after : Format) (held : Result Framed SkippedKind) → head_length format ≤ length octets
    → frame_size format octets ≡ Ok size → size ≤ length octets → frame_held format (take size octets) ≡ Ok (after, held)
    → 2 ^ 64 ≤ at + size → first_frame format at octets ≡ Some (Err TooFar)
ends_far format at octets size after held headed is within whole far =
    has_content format at octets size after held headed is within whole
    ∙ ap Some (when_above (at + size) (2 ^ 64) _ _ far)

pub is_frame : (format : Format) (at : ℕ) (octets : List ℕ) (size : ℕ) (after : Format) (held : Result Framed SkippedKind) → head_length format ≤ length octets
    → frame_size format octets ≡ Ok size → size ≤ length octets → frame_held format (take size octets) ≡ Ok (after, held)
    → at + size < 2 ^ 64
    → first_frame format at octets ≡ Some (Ok (record { size = size; after = after; held = held }))
is_frame format at octets size after held headed is within whole near =
    has_content format at octets size after held headed is within whole
    ∙ ap Some (when_below (at + size) (2 ^ 64) _ _ near)

pub head_some : (format : Format) → 0 < head_length format
head_some Erf = omega arith
head_some (Pcap order times) = omega arith
head_some (PcapNg section) = omega arith

-- A reader goes on by a whole frame.
pub takes_frame : (before after : Reader) (octets : List ℕ) (size : ℕ) (next : Format) (held : Result Framed SkippedKind) (given : Result Record SkippedBlock)
    → head_length before.format ≤ length octets → frame_size before.format octets ≡ Ok size → 0 < size → size ≤ length octets
    → frame_held before.format (take size octets) ≡ Ok (next, held) → before.at + size < 2 ^ 64 → IsGiven before.count before.at held given
    → after.format ≡ next → after.count ≡ count_after before.count given → after.at ≡ before.at + size
    → TakesFrame before octets given size after
takes_frame before after octets size next held given headed is some within whole near gives format count at =
    record {
      frame = record { size = size; after = next; held = held };
      first = is_frame before.format before.at octets size next held headed is within whole near;
      given_of = gives;
      size = refl;
      some = some;
      within = within;
      near = near;
      format = format;
      count = count;
      at = at;
    }

-- What a file is by its first octets, whatever follows them.
use Rattle.std.proofs.Common.{◌≡◌, ◌≢◌, ◌≤◌, ◌<◌, ◌%◌, ◌==◌, inl, inr, ℕ, Bool, true, false, List, [], ◌∷◌, Option, None, Some, ◌++◌, length, arith, refl, ◌∙◌, sym, ap, subst, append-nil, length-append, if◌then◌else◌}
use Rattle.std.specs.List.{list_all}
use Rattle.std.proofs.lemmas.Bool.{cases_lt}
use Rattle.std.proofs.lemmas.List.{take-append-le}
use Rattle.captures.specs.Blocks.{section_begun}
use Rattle.captures.specs.PacketTimes.{times_begun, times_in}
use Rattle.captures.specs.Frames.{format_start}
use Rattle.captures.specs.Opening.{OpeningsStay, begins_as_text, fault_by, file_magic, file_number, file_opening, is_pcap_magic, is_pcapng_magic, is_text_octet, opening_by, opening_of, pcap_link, pcap_opening, pcap_resolution, refused_or}
use Rattle.captures.specs.declared.block.Section.{Section}
use Rattle.captures.specs.declared.format.Format.{Format}
use Rattle.captures.specs.declared.format.Format.TheVariants.{Erf, Pcap, PcapNg}
use Rattle.captures.specs.declared.format.Order.{Order}
use Rattle.captures.specs.declared.format.Order.TheVariants.{HighestFirst, LowestFirst}
use Rattle.captures.specs.declared.opening.FileFault.{FileFault}
use Rattle.captures.specs.declared.opening.FileFault.TheVariants.{OtherLink, Text}
use Rattle.captures.specs.declared.opening.Opening.{Opening}
use Rattle.captures.specs.declared.opening.Opening.TheVariants.{Opened, Undecided, Refused}
use Rattle.captures.proofs.First.{when_above, when_below}
use Rattle.captures.proofs.Stays.{number_at-append, number-append}

-- The section before the first.
unread_section : Section
unread_section = section_begun LowestFirst 0 (times_begun (times_in 6))

-- The cases of a file, by its tests.
by_tests : Bool → Bool → Bool → Option FileFault → Bool → Opening → Opening → Opening
by_tests high low blocks fault text p q =
    if high then p
    else if low then q
    else if blocks then Opened (PcapNg unread_section)
    else refused_or fault (if text then Refused Text else Opened Erf)

is_by_tests : (magic : ℕ) (xs : List ℕ) → opening_by magic xs
    ≡ by_tests (is_pcap_magic HighestFirst magic) (is_pcap_magic LowestFirst magic) (is_pcapng_magic magic) (fault_by magic (file_number xs)) (begins_as_text xs)
    (pcap_opening HighestFirst (pcap_resolution magic) xs) (pcap_opening LowestFirst (pcap_resolution magic) xs)
unfolding by_tests unread_section
is_by_tests magic xs = refl

tests_stay : (high low blocks : Bool) (fault : Option FileFault) (text : Bool) (p p' q q' : Opening) → (p ≢ Undecided → p' ≡ p) → (q ≢ Undecided → q' ≡ q)
    → by_tests high low blocks fault text p q ≢ Undecided → by_tests high low blocks fault text p' q' ≡ by_tests high low blocks fault text p q
unfolding by_tests
tests_stay true low blocks fault text p p' q q' first second decided = first decided
tests_stay false true blocks fault text p p' q q' first second decided = second decided
tests_stay false false true fault text p p' q q' first second decided = refl
tests_stay false false false (Some fault) text p p' q q' first second decided = refl
tests_stay false false false None true p p' q q' first second decided = refl
tests_stay false false false None false p p' q q' first second decided = refl

pcap_opening_by : Order → ℕ → ℕ → Opening
pcap_opening_by order unit link = if link == 197 then Opened (Pcap order (times_in unit)) else Refused (OtherLink link)

has_pcap_header : (order : Order) (unit : ℕ) (xs : List ℕ) → 24 ≤ length xs → pcap_opening order unit xs ≡ pcap_opening_by order unit (pcap_link order xs)
unfolding pcap_opening_by
has_pcap_header order unit xs long = when_above (length xs) 24 _ _ long

lacks_pcap_header : (order : Order) (unit : ℕ) (xs : List ℕ) → length xs < 24 → pcap_opening order unit xs ≡ Undecided
lacks_pcap_header order unit xs short = when_below (length xs) 24 _ _ short

pcap_stays : (order : Order) (unit : ℕ) (xs ys : List ℕ) → pcap_opening order unit xs ≢ Undecided → pcap_opening order unit (xs ++ ys) ≡ pcap_opening order unit xs
pcap_stays order unit xs ys decided =
    elim (cases_lt (length xs) 24) [
      | inl short ↦ absurd (decided (lacks_pcap_header order unit xs short))
      | inr long ↦
          has_pcap_header order unit (xs ++ ys) (omega (arith, length-append xs ys))
          ∙ ap (λ n. pcap_opening_by order unit (n % 65536)) (number_at-append order 20 xs ys (omega arith))
          ∙ sym (has_pcap_header order unit xs long)
    ]

by_magic_stays : (magic : ℕ) (xs ys : List ℕ) → 16 ≤ length xs → opening_by magic xs ≢ Undecided → opening_by magic (xs ++ ys) ≡ opening_by magic xs
by_magic_stays magic xs ys long decided =
    let text : begins_as_text (xs ++ ys) ≡ begins_as_text xs = ap (list_all is_text_octet) (take-append-le 16 xs ys long) in
    let unit = pcap_resolution magic in
    let high = is_pcap_magic HighestFirst magic in
    let low = is_pcap_magic LowestFirst magic in
    let blocks = is_pcapng_magic magic in
    let number : file_number (xs ++ ys) ≡ file_number xs = number_at-append HighestFirst 4 xs ys (omega (arith, long)) in
    let fault = fault_by magic (file_number xs) in
    is_by_tests magic (xs ++ ys)
    ∙ ap (λ n. by_tests high low blocks (fault_by magic n) (begins_as_text (xs ++ ys)) (pcap_opening HighestFirst unit (xs ++ ys)) (pcap_opening LowestFirst unit (xs ++ ys))) number
    ∙ ap (λ t. by_tests high low blocks fault t (pcap_opening HighestFirst unit (xs ++ ys)) (pcap_opening LowestFirst unit (xs ++ ys))) text
    ∙ tests_stay high low blocks fault (begins_as_text xs) (pcap_opening HighestFirst unit xs) (pcap_opening HighestFirst unit (xs ++ ys))
    (pcap_opening LowestFirst unit xs) (pcap_opening LowestFirst unit (xs ++ ys))
    (pcap_stays HighestFirst unit xs ys) (pcap_stays LowestFirst unit xs ys)
    (λ none. decided (is_by_tests magic xs ∙ none))
    ∙ sym (is_by_tests magic xs)

pub openings_stay : OpeningsStay
openings_stay xs ys decided =
    elim (cases_lt (length xs) 16) [
      | inl short ↦ absurd (decided (when_below (length xs) 16 _ _ short))
      | inr long ↦
          let here : opening_of xs ≡ opening_by (file_magic xs) xs = when_above (length xs) 16 _ _ long in
          when_above (length (xs ++ ys)) 16 _ _ (omega (arith, length-append xs ys))
          ∙ ap (λ magic. opening_by magic (xs ++ ys)) (number-append HighestFirst xs ys (omega arith))
          ∙ by_magic_stays (file_magic xs) xs ys long (λ none. decided (here ∙ none)) ∙ sym here
    ]

by_test : (P : Opening → Type 0) (test : Bool) (x y : Opening) → P x → P y → P (if test then x else y)
by_test P true x y at_x at_y = at_x
by_test P false x y at_x at_y = at_y

by_link : (P : Opening → Type 0) (order : Order) (unit link : ℕ) → P (Opened (Pcap order (times_in unit))) → P (Refused (OtherLink link))
    → P (pcap_opening_by order unit link)
unfolding pcap_opening_by
by_link P order unit link opened refused = by_test P (link == 197) (Opened (Pcap order (times_in unit))) (Refused (OtherLink link)) opened refused

-- What holds of each case holds of a file.
tests_all : (P : Opening → Type 0) (high low blocks : Bool) (fault : Option FileFault) (text : Bool) (p q : Opening) → P p → P q → P (Opened (PcapNg unread_section))
    → ((why : FileFault) → P (Refused why)) → P (Opened Erf) → P (by_tests high low blocks fault text p q)
unfolding by_tests
tests_all P true low blocks fault text p q at_p at_q ng refused erf = at_p
tests_all P false true blocks fault text p q at_p at_q ng refused erf = at_q
tests_all P false false true fault text p q at_p at_q ng refused erf = ng
tests_all P false false false (Some fault) text p q at_p at_q ng refused erf = refused fault
tests_all P false false false None true p q at_p at_q ng refused erf = refused Text
tests_all P false false false None false p q at_p at_q ng refused erf = erf

pcap_all : (P : Opening → Type 0) (order : Order) (unit : ℕ) (xs : List ℕ) → (length xs < 24 → P Undecided)
    → (24 ≤ length xs → P (Opened (Pcap order (times_in unit)))) → ((link : ℕ) → P (Refused (OtherLink link))) → P (pcap_opening order unit xs)
pcap_all P order unit xs none opened refused =
    elim (cases_lt (length xs) 24) [
      | inl short ↦ subst P (sym (lacks_pcap_header order unit xs short)) (none short)
      | inr long ↦ subst P (sym (has_pcap_header order unit xs long)) (by_link P order unit (pcap_link order xs) (opened long) (refused (pcap_link order xs)))
    ]

opening_all : (P : Opening → Type 0) (xs : List ℕ) → (length xs < 24 → P Undecided)
    → (24 ≤ length xs → (order : Order) (unit : ℕ) → P (Opened (Pcap order (times_in unit)))) → P (Opened (PcapNg unread_section))
    → ((why : FileFault) → P (Refused why)) → P (Opened Erf) → P (opening_of xs)
opening_all P xs none pcap ng refused erf =
    elim (cases_lt (length xs) 16) [
      | inl short ↦ subst P (sym (when_below (length xs) 16 Undecided (opening_by (file_magic xs) xs) short)) (none (omega arith))
      | inr long ↦
          subst P (sym (when_above (length xs) 16 Undecided (opening_by (file_magic xs) xs) long ∙ is_by_tests (file_magic xs) xs))
          (tests_all P (is_pcap_magic HighestFirst (file_magic xs)) (is_pcap_magic LowestFirst (file_magic xs)) (is_pcapng_magic (file_magic xs)) (fault_by (file_magic xs) (file_number xs)) (begins_as_text xs)
          (pcap_opening HighestFirst (pcap_resolution (file_magic xs)) xs) (pcap_opening LowestFirst (pcap_resolution (file_magic xs)) xs)
          (pcap_all P HighestFirst (pcap_resolution (file_magic xs)) xs none (λ long. pcap long HighestFirst (pcap_resolution (file_magic xs))) (λ link. refused (OtherLink link)))
          (pcap_all P LowestFirst (pcap_resolution (file_magic xs)) xs none (λ long. pcap long LowestFirst (pcap_resolution (file_magic xs))) (λ link. refused (OtherLink link)))
          ng refused erf)
    ]

-- 24 octets decide.
pub undecided_short : (xs : List ℕ) → opening_of xs ≡ Undecided → length xs < 24
undecided_short xs is =
    opening_all (λ o. o ≡ Undecided → length xs < 24) xs (λ short same. short) (λ long order unit same. cc) (λ same. cc) (λ why same. cc) (λ same. cc) is

-- The header of a file that was opened is among its octets.
pub header_within : (xs : List ℕ) (format : Format) → opening_of xs ≡ Opened format → format_start format ≤ length xs
header_within xs format is =
    opening_all (λ o. o ≡ Opened format → format_start format ≤ length xs) xs
    (λ short same. cc)
    (λ long order unit same. let equal : Pcap order (times_in unit) ≡ format = cc in subst (λ (f : Format). format_start f ≤ length xs) equal long)
    (λ same. let equal : PcapNg unread_section ≡ format = cc in subst (λ (f : Format). format_start f ≤ length xs) equal (omega arith))
    (λ why same. cc)
    (λ same. let equal : Erf ≡ format = cc in subst (λ (f : Format). format_start f ≤ length xs) equal (omega arith))
    is

-- What a file is whose first octets are these, of which all were read if they decide nothing.
stays_or_ends : (xs ys : List ℕ) (opening : Opening) → opening_of xs ≡ opening → (opening_of xs ≡ Undecided → ys ≡ []) → opening_of (xs ++ ys) ≡ opening
stays_or_ends xs ys Undecided is none = subst (λ (zs : List ℕ). opening_of (xs ++ zs) ≡ Undecided) (sym (none is)) (ap opening_of (append-nil xs) ∙ is)
stays_or_ends xs ys (Opened format) is none =
    let decided : opening_of xs ≢ Undecided = λ same. let bad : Opened format ≡ Undecided = sym is ∙ same in cc in openings_stay xs ys decided ∙ is
stays_or_ends xs ys (Refused fault) is none =
    let decided : opening_of xs ≢ Undecided = λ same. let bad : Refused fault ≡ Undecided = sym is ∙ same in cc in openings_stay xs ys decided ∙ is

pub file_decided : (xs ys : List ℕ) (opening : Opening) → file_opening xs ≡ opening → (opening_of xs ≡ Undecided → ys ≡ []) → file_opening (xs ++ ys) ≡ opening
file_decided [] ys opening is none = subst (λ (zs : List ℕ). file_opening zs ≡ opening) (sym (none refl)) is
file_decided (x ∷ xs) ys opening is none = stays_or_ends (x ∷ xs) ys opening is none

-- A file that was opened is no empty one, and nor is one that its octets don't decide.
pub file_opened : (xs : List ℕ) (format : Format) → file_opening xs ≡ Opened format → opening_of xs ≡ Opened format
file_opened [] format is = cc
file_opened (x ∷ xs) format is = is

pub file_undecided : (xs : List ℕ) → file_opening xs ≡ Undecided → opening_of xs ≡ Undecided
file_undecided [] is = refl
file_undecided (x ∷ xs) is = is

-- A link is read as its word is printed.
use Rattle.std.proofs.Common.{◌≡◌, ◌∙◌, ℕ, ◌+◌, ◌-◌, ◌*◌, ◌^◌, ◌<◌, ◌≤◌, ◌==◌, nat_le, if◌then◌else◌, true, false, List, [], ◌∷◌, ◌++◌, Option, None, Some, codes, decimal, length, option_map, refl, ap, arith, ◌⊎◌, inl, inr, append_assoc, append-nil}
use Rattle.std.proofs.lemmas.Bool.Decides.{nat_tests}
use Rattle.std.proofs.lemmas.Fmt.{decimal_is_IsNumeral}
use Rattle.std.proofs.lemmas.Str.{digit_value_digit}
use Rattle.std.proofs.lemmas.Str.Parse.{digit_from_value}
use Rattle.std.specs.Char.{digit_value}
use Rattle.std.specs.Option.{option_and_then}
use Rattle.std.specs.Str.Parse.{AllDigits, digits_value, digits_value_after}
use Rattle.captures.specs.declared.link.Channel.{Channel}
use Rattle.captures_text.specs.LinkWords.{channel_part, packet_part}
use Rattle.text_io.specs.Words.{is_digit}
use Rattle.text_script.specs.ScriptWords.{cut_at, most_number, number_of_digits, number_up_to, spelled_after, up_to, with_both}
use Rattle.cmd_options.specs.LinkOption.{HasChannelWithin, HasPacketWithin, LinksAreSpelled, channel_in_parts, channel_link, channel_with, link_in_halves, link_in_parts, link_in_word, plain_link}

-- ---- numbers

spelled_digits : (high : ℕ) (digits : List ℕ) → AllDigits 10 digits → spelled_after high digits ≡ Some (digits_value_after 10 high digits)
unfolding spelled_after
spelled_digits high [] all = refl
spelled_digits high (octet ∷ octets) all =
    let range = digit_from_value octet all.0 in
    let test : is_digit octet ≡ true = grind (arith, nat_tests, range) in
    let value : octet - 48 ≡ digit_value octet = omega (arith, digit_value_digit octet range) in
    ap (λ b. if b then spelled_after (high * 10 + (octet - 48)) octets else None) test
    ∙ ap (λ d. spelled_after (high * 10 + d) octets) value ∙ spelled_digits (high * 10 + digit_value octet) octets all.1

is_up_to : (most number : ℕ) → number ≤ most → up_to most number ≡ Some number
is_up_to most number within =
    let test : nat_le number most ≡ true = grind (arith, nat_tests) in ap (λ b. if b then Some number else None) test

of_digits : (digits : List ℕ) (number : ℕ) → 0 < length digits → AllDigits 10 digits → digits_value 10 digits ≡ number → number ≤ most_number
    → number_of_digits digits ≡ Some number
of_digits [] number some all is within = absurd (omega arith)
of_digits (octet ∷ octets) number some all is within =
    ap (λ found. option_and_then (up_to most_number) found) (spelled_digits 0 (octet ∷ octets) all)
    ∙ ap (up_to most_number) is ∙ is_up_to most_number number within

of_decimal : (number : ℕ) → number < 2 ^ 64 → number_of_digits (decimal number) ≡ Some number
of_decimal number within =
    let is = decimal_is_IsNumeral number (omega arith) in
    of_digits (decimal number) number is.0.0 is.0.1 is.1 (omega arith)

decimal_up_to : (most number : ℕ) → number ≤ most → most ≤ 2047 → number_up_to most (decimal number) ≡ Some number
decimal_up_to most number within small =
    ap (λ found. option_and_then (up_to most) found) (of_decimal number (omega arith)) ∙ is_up_to most number within

-- ---- marks

-- No octet is the mark.
abbrev LacksMark : ℕ → List ℕ → Type 0
LacksMark mark [] = Unit {0}
LacksMark mark (octet ∷ octets) = ((octet == mark) ≡ false) × LacksMark mark octets

digits_lack : (mark : ℕ) (digits : List ℕ) → (mark < 48) ⊎ (57 < mark) → AllDigits 10 digits → LacksMark mark digits
digits_lack mark [] other all = tt
digits_lack mark (octet ∷ octets) other all =
    let range = digit_from_value octet all.0 in
    let apart : (octet == mark) ≡ false = elim other [ inl low ↦ grind (arith, nat_tests, range) | inr high ↦ grind (arith, nat_tests, range) ] in
    (apart, digits_lack mark octets other all.1)

decimal_lacks : (mark number : ℕ) → (mark < 48) ⊎ (57 < mark) → number < 2 ^ 64 → LacksMark mark (decimal number)
decimal_lacks mark number other within =
    let is = decimal_is_IsNumeral number (omega arith) in digits_lack mark (decimal number) other is.0.1

lacks-append : (mark : ℕ) (front rest : List ℕ) → LacksMark mark front → LacksMark mark rest → LacksMark mark (front ++ rest)
lacks-append mark [] rest none more = more
lacks-append mark (octet ∷ octets) rest none more = (none.0, lacks-append mark octets rest none.1 more)

abbrev Cut : Type 0
Cut = List ℕ × List ℕ

not_cut : (mark : ℕ) (text : List ℕ) → LacksMark mark text → cut_at mark text ≡ None
unfolding cut_at
not_cut mark [] none = refl
not_cut mark (octet ∷ octets) none =
    ap (λ b. if b then Some ([], octets) else option_map (λ (c : Cut). (octet ∷ c.0, c.1)) (cut_at mark octets)) none.0
    ∙ ap (λ o. option_map (λ (c : Cut). (octet ∷ c.0, c.1)) o) (not_cut mark octets none.1)

cut_there : (mark : ℕ) (front rest : List ℕ) → (mark == mark) ≡ true → LacksMark mark front → cut_at mark (front ++ mark ∷ rest) ≡ Some (front, rest)
unfolding cut_at
cut_there mark [] rest same none = ap (λ b. if b then Some ([], rest) else option_map (λ (c : Cut). (mark ∷ c.0, c.1)) (cut_at mark rest)) same
cut_there mark (octet ∷ octets) rest same none =
    ap (λ b. if b then Some ([], octets ++ mark ∷ rest) else option_map (λ (c : Cut). (octet ∷ c.0, c.1)) (cut_at mark (octets ++ mark ∷ rest))) none.0
    ∙ ap (λ o. option_map (λ (c : Cut). (octet ∷ c.0, c.1)) o) (cut_there mark octets rest same none.1)

-- ---- links

-- A port and a connection.
channel_read : (port connection : ℕ) → port ≤ 15 → connection ≤ 2047
    → channel_in_parts (cut_at 47 (decimal port ++ 47 ∷ decimal connection)) ≡ Some (channel_with port connection)
channel_read port connection few within =
    ap channel_in_parts (cut_there 47 (decimal port) (decimal connection) refl (decimal_lacks 47 port (inl (omega arith)) (omega arith)))
    ∙ ap (λ found. with_both channel_with found (number_up_to 2047 (decimal connection))) (decimal_up_to 15 port few (omega arith))
    ∙ ap (λ found. with_both channel_with (Some port) found) (decimal_up_to 2047 connection within (omega arith))

slashes : (port connection : List ℕ) → (codes "/" ++ port) ++ (codes "/" ++ connection) ≡ 47 ∷ (port ++ 47 ∷ connection)
slashes port connection = refl

-- The interface of a card and a channel.
card_read : (packet : Option ℕ) (interface : ℕ) (channel : Option Channel) → interface ≤ 7 → HasChannelWithin channel
    → link_in_parts packet (decimal interface ++ channel_part channel) (cut_at 47 (decimal interface ++ channel_part channel))
    ≡ Some (record { packet_interface = packet; interface = interface; channel = channel })
card_read packet interface None few within =
    ap (λ word. link_in_parts packet word (cut_at 47 word)) (append-nil (decimal interface))
    ∙ ap (link_in_parts packet (decimal interface)) (not_cut 47 (decimal interface) (decimal_lacks 47 interface (inl (omega arith)) (omega arith)))
    ∙ ap (option_map (plain_link packet)) (decimal_up_to 7 interface few (omega arith))
card_read packet interface (Some channel) few within =
    let rest = decimal channel.port ++ 47 ∷ decimal channel.connection in
    ap (λ last. link_in_parts packet (decimal interface ++ last) (cut_at 47 (decimal interface ++ last))) (slashes (decimal channel.port) (decimal channel.connection))
    ∙ ap (link_in_parts packet (decimal interface ++ 47 ∷ rest)) (cut_there 47 (decimal interface) rest refl (decimal_lacks 47 interface (inl (omega arith)) (omega arith)))
    ∙ ap (λ found. with_both (channel_link packet) found (channel_in_parts (cut_at 47 rest))) (decimal_up_to 7 interface few (omega arith))
    ∙ ap (λ found. with_both (channel_link packet) (Some interface) found) (channel_read channel.port channel.connection within.0 within.1)

channel_lacks : (channel : Option Channel) → HasChannelWithin channel → LacksMark 58 (channel_part channel)
channel_lacks None within = tt
channel_lacks (Some channel) within =
    let port = decimal_lacks 58 channel.port (inr (omega arith)) (omega arith) in
    let connection = decimal_lacks 58 channel.connection (inr (omega arith)) (omega arith) in
    (refl, lacks-append 58 (decimal channel.port) (47 ∷ decimal channel.connection) port (refl, connection))

colon : (packet interface channel : List ℕ) → ((packet ++ codes ":") ++ interface) ++ channel ≡ packet ++ 58 ∷ (interface ++ channel)
colon packet interface channel =
    append_assoc (packet ++ codes ":") interface channel ∙ append_assoc packet (codes ":") (interface ++ channel)

link_read : (packet : Option ℕ) (interface : ℕ) (channel : Option Channel) → HasPacketWithin packet → interface ≤ 7 → HasChannelWithin channel
    → link_in_word ((packet_part packet ++ decimal interface) ++ channel_part channel)
    ≡ Some (record { packet_interface = packet; interface = interface; channel = channel })
link_read None interface channel near few within =
    let word = decimal interface ++ channel_part channel in
    ap (link_in_halves word)
    (not_cut 58 word (lacks-append 58 (decimal interface) (channel_part channel) (decimal_lacks 58 interface (inr (omega arith)) (omega arith)) (channel_lacks channel within)))
    ∙ card_read None interface channel few within
link_read (Some packet) interface channel near few within =
    let rest = decimal interface ++ channel_part channel in
    ap link_in_word (colon (decimal packet) (decimal interface) (channel_part channel))
    ∙ ap (link_in_halves (decimal packet ++ 58 ∷ rest)) (cut_there 58 (decimal packet) rest refl (decimal_lacks 58 packet (inr (omega arith)) near))
    ∙ ap (λ found. option_and_then (λ it. link_in_parts (Some it) rest (cut_at 47 rest)) found) (of_decimal packet near)
    ∙ card_read (Some packet) interface channel few within

pub links-spelled : LinksAreSpelled
links-spelled link near few within = link_read link.packet_interface link.interface link.channel near few within

-- The assembler's map of labels.
use Rattle.std.specs.Prelude.{ℕ, ◌+◌, ◌*◌, ◌%◌, ◌^◌, List, [], ◌∷◌, Option}
use Rattle.std.specs.BTreeMap.{get_by}
use Rattle.std.specs.declared.cmp.Ordering.{Ordering}
use Rattle.std.specs.Ordering.{nat_cmp, ordering_then}
use Rattle.std.specs.Cmp.Lexicographic.{slice_cmp}
use Rattle.bpf_asm.specs.declared.labels.Labels.{Labels}

-- These octets come after others, the last eight of which make `number`. The result is what the last eight of all of them
-- make, big-endian.
unfoldable pub number_after : ℕ → List ℕ → ℕ
number_after number [] = number
number_after number (octet ∷ rest) = number_after (number % 2 ^ 56 * 256 + octet) rest

-- The last eight octets of a name as one number.
abbrev pub tail_number : List ℕ → ℕ
tail_number name = number_after 0 name

-- The order of a name and a key: by their numbers, then by their octets.
abbrev pub compared : ℕ → List ℕ → ℕ → List ℕ → Ordering
compared number name key_number key = ordering_then (nat_cmp number key_number) (slice_cmp nat_cmp name key)

-- The place of a name, if it has one.
abbrev pub label_place : Labels → List ℕ → Option ℕ
label_place labels name = get_by (λ key. compared (tail_number name) name key.0 key.1.now) labels.places

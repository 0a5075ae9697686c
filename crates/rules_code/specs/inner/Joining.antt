-- How spans are put in order: they are sorted by their highest numbers, and joined from the last to the first.
use Rattle.std.specs.Prelude.{◌-◌, min, nat_le, nat_lt, if◌then◌else◌, List, [], ◌∷◌}
use Rattle.rules_code.specs.declared.packet_part.Span.{Span}

-- A span that isn't empty, in front of spans of which none ends before it.
abbrev pub joined_to : Span → List Span → List Span
joined_to span [] = span ∷ []
joined_to span (next ∷ more) =
    if nat_le (next.low - 1) span.high then record { low = min next.low span.low; high = next.high } ∷ more else span ∷ next ∷ more

-- A span in front of spans of which none ends before it.
abbrev pub with_span : Span → List Span → List Span
with_span span spans = if nat_lt span.high span.low then spans else joined_to span spans

-- Spans, none of which ends before those in front of it, as few as there can be.
unfoldable pub joined_spans : List Span → List Span
joined_spans [] = []
joined_spans (span ∷ more) = with_span span (joined_spans more)

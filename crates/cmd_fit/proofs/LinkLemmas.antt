-- The rows of links, by whole lists of records.
use Rattle.std.proofs.Common.{◌≡◌, ◌≤◌, ◌<◌, ◌+◌, ℕ, Bool, true, false, List, [], ◌∷◌, ◌++◌, length, cond, Option, Some, None, Result, Ok, Err, refl, ap, sym, ◌∙◌, subst, arith, inl, inr, append-nil, append_assoc, length-append}
use Rattle.std.specs.Prelude.{filter, flat_map}
use Rattle.std.proofs.lemmas.Bool.{lt-ltb, le-ltb, cases_lt}
use Rattle.std.proofs.lemmas.Option.{same_Some}
use Rattle.std.proofs.lemmas.Grind.{flat_map-append}
use Rattle.std.proofs.lemmas.List.Elements.{filter-append}
use Rattle.std.proofs.lemmas.List.Sums.{sum_by-append}
use Rattle.captures.specs.Links.{same_channel, same_link, same_packet_interface}
use Rattle.captures.specs.declared.content.NoCell.{NoCell}
use Rattle.captures.specs.declared.link.Channel.{Channel}
use Rattle.captures.specs.declared.link.Link.{Link}
use Rattle.captures.specs.declared.reader.SkippedBlock.{SkippedBlock}
use Rattle.captures.specs.declared.reader.Record.{Record}
use Rattle.captures_text.specs.ReadingSummaries.{with_marked}
use Rattle.cmd_fit.specs.LinkLaws.{HasRow, IsTallyOf, LinksAreCounted, RowsAreFew, cell_record, if_cell, records_of, rows_of}
use Rattle.cmd_fit.specs.LinkTallies.{LinksState, links_after, links_cell_with, links_content, links_given, most_links, no_links, one_more_cell, opening_tally, tally_after, link_tally_of, with_row}
use Rattle.cmd_fit.specs.declared.link_tally.LinkTally.{LinkTally}

-- A cell more, and the first.
more-tally : (records : List Record) (tally : LinkTally) (record_read : Record) → IsTallyOf records tally
    → IsTallyOf (records ++ record_read ∷ []) (one_more_cell tally record_read)
more-tally records tally record_read is = record {
  cells = omega (arith, is.cells, length-append records (record_read ∷ []));
  losses = omega (arith, is.losses, sum_by-append (λ (it : Record). it.marks.losses) records (record_read ∷ []));
  oldest = is.oldest;
  later = is.later ++ record_read ∷ [];
  begins = ap (λ xs. xs ++ record_read ∷ []) is.begins;
  first = is.first;
  earlier = records;
  newest = record_read;
  ends = refl;
  last = refl;
}

first-tally : (record_read : Record) → IsTallyOf (record_read ∷ []) (opening_tally record_read)
first-tally record_read = record {
  cells = refl;
  losses = omega arith;
  oldest = record_read;
  later = [];
  begins = refl;
  first = refl;
  earlier = [];
  newest = record_read;
  ends = refl;
  last = refl;
}

-- The rows after one is put in. `same` tells whether the link that is asked for is the row's.
abbrev first_of : List (Link × LinkTally) → Option LinkTally
first_of [] = None
first_of (row ∷ rows) = Some row.1

abbrev put_first : Link → LinkTally → List (Link × LinkTally) → List (Link × LinkTally)
put_first link tally [] = (link, tally) ∷ []
put_first link tally (row ∷ rows) = (row.0, tally) ∷ rows

tally-first : (link : Link) (rows : List (Link × LinkTally)) → link_tally_of link rows ≡ first_of (rows_of link rows)
tally-first link [] = refl
tally-first link (row ∷ rows) =
    let choice : (b : Bool) → cond b (Some row.1) (link_tally_of link rows) ≡ first_of (cond b (row ∷ rows_of link rows) (rows_of link rows)) = elim [
      | true ↦ refl
      | false ↦ tally-first link rows
    ] in
    choice (same_link link row.0)

length-with : (link : Link) (tally : LinkTally) (rows : List (Link × LinkTally)) → length (with_row link tally rows) ≤ length rows + 1
length-with link tally [] = omega arith
length-with link tally (row ∷ rows) =
    let choice : (b : Bool) → length (cond b ((row.0, tally) ∷ rows) (row ∷ with_row link tally rows)) ≤ length (row ∷ rows) + 1 = elim [
      | true ↦ omega arith
      | false ↦ omega (arith, length-with link tally rows)
    ] in
    choice (same_link link row.0)

length-kept : (link : Link) (tally old : LinkTally) (rows : List (Link × LinkTally)) → link_tally_of link rows ≡ Some old
    → length (with_row link tally rows) ≡ length rows
length-kept link tally old [] has = cc
length-kept link tally old (row ∷ rows) has =
    let choice : (b : Bool) → cond b (Some row.1) (link_tally_of link rows) ≡ Some old
    → length (cond b ((row.0, tally) ∷ rows) (row ∷ with_row link tally rows)) ≡ length (row ∷ rows) = elim [
      | true ↦ λ here. refl
      | false ↦ λ here. omega (arith, length-kept link tally old rows here)
    ] in
    choice (same_link link row.0) has

length-grown : (link : Link) (tally : LinkTally) (rows : List (Link × LinkTally)) → length rows ≤ length (with_row link tally rows)
length-grown link tally [] = omega arith
length-grown link tally (row ∷ rows) =
    let choice : (b : Bool) → length (row ∷ rows) ≤ length (cond b ((row.0, tally) ∷ rows) (row ∷ with_row link tally rows)) = elim [
      | true ↦ omega arith
      | false ↦ omega (arith, length-grown link tally rows)
    ] in
    choice (same_link link row.0)

-- The same link is an equal one.
same-packet : (one other : Option ℕ) → same_packet_interface one other ≡ true → one ≡ other
same-packet None None is = refl
same-packet None (Some other) is = cc
same-packet (Some one) None is = cc
same-packet (Some one) (Some other) is = grind arith

same-channels : (one other : Option Channel) → same_channel one other ≡ true → one ≡ other
same-channels None None is = refl
same-channels None (Some other) is = cc
same-channels (Some one) None is = cc
same-channels (Some one) (Some other) is = grind arith

pub same-links : (one other : Link) → same_link one other ≡ true → one ≡ other
same-links one other is = grind (arith, same-packet, same-channels)

packet-self : (one : Option ℕ) → same_packet_interface one one ≡ true
packet-self None = refl
packet-self (Some one) = grind arith

channel-self : (one : Option Channel) → same_channel one one ≡ true
channel-self None = refl
channel-self (Some one) = grind arith

pub link-self : (one : Link) → same_link one one ≡ true
link-self one = grind (arith, packet-self, channel-self)

-- The rows of another link stay.
others-kept : (asked link : Link) (tally : LinkTally) (rows : List (Link × LinkTally)) → same_link asked link ≡ false
    → rows_of asked (with_row link tally rows) ≡ rows_of asked rows
others-kept asked link tally [] away = ap (λ b. cond b ((link, tally) ∷ []) []) away
others-kept asked link tally (row ∷ rows) away =
    let choice : (b : Bool) → same_link link row.0 ≡ b
    → rows_of asked (cond b ((row.0, tally) ∷ rows) (row ∷ with_row link tally rows)) ≡ rows_of asked (row ∷ rows) = elim [
      | true ↦ λ here.
          let other : same_link asked row.0 ≡ false = ap (same_link asked) (sym (same-links link row.0 here)) ∙ away in
          ap (λ b. cond b ((row.0, tally) ∷ rows_of asked rows) (rows_of asked rows)) other
          ∙ sym (ap (λ b. cond b (row ∷ rows_of asked rows) (rows_of asked rows)) other)
      | false ↦ λ there.
          ap (λ xs. cond (same_link asked row.0) (row ∷ xs) xs) (others-kept asked link tally rows away)
    ] in
    choice (same_link link row.0) refl

-- The rows of the link itself.
own-put : (link : Link) (tally : LinkTally) (rows : List (Link × LinkTally))
    → rows_of link (with_row link tally rows) ≡ put_first link tally (rows_of link rows)
own-put link tally [] = ap (λ b. cond b ((link, tally) ∷ []) []) (link-self link)
own-put link tally (row ∷ rows) =
    let choice : (b : Bool) → same_link link row.0 ≡ b
    → rows_of link (cond b ((row.0, tally) ∷ rows) (row ∷ with_row link tally rows))
    ≡ put_first link tally (cond b (row ∷ rows_of link rows) (rows_of link rows)) = elim [
      | true ↦ λ here. ap (λ b. cond b ((row.0, tally) ∷ rows_of link rows) (rows_of link rows)) here
      | false ↦ λ there.
          ap (λ b. cond b (row ∷ rows_of link (with_row link tally rows)) (rows_of link (with_row link tally rows))) there
          ∙ own-put link tally rows
    ] in
    choice (same_link link row.0) refl

-- What the rows say after these frames.
record Counts (frames : List (Result Record SkippedBlock)) (rows : List (Link × LinkTally)) : Type 0 where
  few : length rows ≤ most_links
  row : (link : Link) → HasRow (records_of link frames) (length rows) (rows_of link rows)

-- A link whose records and rows stay has the row that it had, whatever others came.
still-has : (records : List Record) (before after : ℕ) (rows : List (Link × LinkTally)) → before ≤ after → after ≤ most_links
    → HasRow records before rows → HasRow records after rows
still-has records before after [] more few (inl none) = inl none
still-has records before after [] more few (inr full) = inr (omega (arith, full, more, few))
still-has records before after (row ∷ []) more few has = has
still-has records before after (row ∷ other ∷ rows) more few has = has

-- The row of a link with a cell more, which had a row.
one-more : (records : List Record) (before after : ℕ) (rows : List (Link × LinkTally)) (link : Link) (tally : LinkTally) (record_read : Record)
    → first_of rows ≡ Some tally → HasRow records before rows
    → HasRow (records ++ record_read ∷ []) after (put_first link (one_more_cell tally record_read) rows)
one-more records before after [] link tally record_read has is = absurd (let no : None ≡ Some tally = has in cc)
one-more records before after (row ∷ []) link tally record_read has is =
    more-tally records tally record_read (subst (IsTallyOf records) (same_Some row.1 tally has) is)
one-more records before after (row ∷ other ∷ rows) link tally record_read has is = absurd is

-- The row of a link with its first cell.
one-new : (records : List Record) (before after : ℕ) (rows : List (Link × LinkTally)) (link : Link) (record_read : Record)
    → first_of rows ≡ None → before < most_links → HasRow records before rows
    → HasRow (records ++ record_read ∷ []) after (put_first link (opening_tally record_read) rows)
one-new records before after [] link record_read none room (inl empty) =
    subst (λ (xs : List Record). IsTallyOf (xs ++ record_read ∷ []) (opening_tally record_read)) (sym empty) (first-tally record_read)
one-new records before after [] link record_read none room (inr full) = absurd (omega (arith, full, room))
one-new records before after (row ∷ rows) link record_read none room is = absurd (let no : Some row.1 ≡ None = none in cc)

-- A link without a row, where there is no room.
one-left : (more : List Record) (count : ℕ) (rows : List (Link × LinkTally)) → first_of rows ≡ None → count ≡ most_links
    → HasRow more count rows
one-left more count [] none full = inr full
one-left more count (row ∷ rows) none full = absurd (let no : Some row.1 ≡ None = none in cc)

-- The records of a link after a frame.
records-after : (link : Link) (frames : List (Result Record SkippedBlock)) (given : Result Record SkippedBlock)
    → records_of link (frames ++ given ∷ []) ≡ records_of link frames ++ filter (λ record_read. same_link link record_read.link) (cell_record given ++ [])
records-after link frames given =
    ap (filter (λ record_read. same_link link record_read.link)) (flat_map-append cell_record frames (given ∷ []))
    ∙ filter-append (λ record_read. same_link link record_read.link) (flat_map cell_record frames) (cell_record given ++ [])

without-cell : (link : Link) (frames : List (Result Record SkippedBlock)) (given : Result Record SkippedBlock) → cell_record given ≡ []
    → records_of link (frames ++ given ∷ []) ≡ records_of link frames
without-cell link frames given none =
    records-after link frames given
    ∙ ap (λ (xs : List Record). records_of link frames ++ filter (λ record_read. same_link link record_read.link) (xs ++ [])) none
    ∙ append-nil (records_of link frames)

with-cell : (link : Link) (frames : List (Result Record SkippedBlock)) (given : Result Record SkippedBlock) (record_read : Record) (b : Bool)
    → cell_record given ≡ record_read ∷ [] → same_link link record_read.link ≡ b
    → records_of link (frames ++ given ∷ []) ≡ records_of link frames ++ cond b (record_read ∷ []) []
with-cell link frames given record_read b one is =
    records-after link frames given
    ∙ ap (λ (xs : List Record). records_of link frames ++ filter (λ it. same_link link it.link) (xs ++ [])) one
    ∙ ap (λ b. records_of link frames ++ cond b (record_read ∷ []) []) is

-- A row that is put in, where that of the record's own link is right.
put-in : (frames : List (Result Record SkippedBlock)) (given : Result Record SkippedBlock) (rows : List (Link × LinkTally)) (record_read : Record) (tally : LinkTally)
    → cell_record given ≡ record_read ∷ [] → Counts frames rows → length (with_row record_read.link tally rows) ≤ most_links
    → HasRow (records_of record_read.link frames ++ record_read ∷ []) (length (with_row record_read.link tally rows))
    (put_first record_read.link tally (rows_of record_read.link rows))
    → Counts (frames ++ given ∷ []) (with_row record_read.link tally rows)
put-in frames given rows record_read tally one counts few own =
    let count = length (with_row record_read.link tally rows) in
    record {
      few = few;
      row = λ link.
          let choice : (b : Bool) → same_link link record_read.link ≡ b
          → HasRow (records_of link (frames ++ given ∷ [])) count (rows_of link (with_row record_read.link tally rows)) = elim [
            | true ↦ λ here.
                let same : record_read.link ≡ link = sym (same-links link record_read.link here) in
                subst (λ (asked : Link). HasRow (records_of asked (frames ++ given ∷ [])) count (rows_of asked (with_row record_read.link tally rows))) same
                (subst (λ (xs : List Record). HasRow xs count (rows_of record_read.link (with_row record_read.link tally rows)))
                (sym (with-cell record_read.link frames given record_read true one (link-self record_read.link)))
                (subst (λ (its : List (Link × LinkTally)). HasRow (records_of record_read.link frames ++ record_read ∷ []) count its)
                (sym (own-put record_read.link tally rows)) own))
            | false ↦ λ away.
                subst (λ (xs : List Record). HasRow xs count (rows_of link (with_row record_read.link tally rows)))
                (sym (with-cell link frames given record_read false one away ∙ append-nil (records_of link frames)))
                (subst (λ (its : List (Link × LinkTally)). HasRow (records_of link frames) count its)
                (sym (others-kept link record_read.link tally rows away))
                (still-has (records_of link frames) (length rows) count (rows_of link rows) (length-grown record_read.link tally rows) few (counts.row link)))
          ] in
          choice (same_link link record_read.link) refl;
    }

-- A cell for whose link there is no room.
left-out : (frames : List (Result Record SkippedBlock)) (given : Result Record SkippedBlock) (rows : List (Link × LinkTally)) (record_read : Record)
    → cell_record given ≡ record_read ∷ [] → Counts frames rows → link_tally_of record_read.link rows ≡ None → most_links ≤ length rows
    → Counts (frames ++ given ∷ []) rows
left-out frames given rows record_read one counts none full =
    let count : length rows ≡ most_links = omega (arith, full, counts.few) in
    record {
      few = counts.few;
      row = λ link.
          let choice : (b : Bool) → same_link link record_read.link ≡ b → HasRow (records_of link (frames ++ given ∷ [])) (length rows) (rows_of link rows) = elim [
            | true ↦ λ here.
                one-left (records_of link (frames ++ given ∷ [])) (length rows) (rows_of link rows)
                (sym (tally-first link rows) ∙ ap (λ asked. link_tally_of asked rows) (same-links link record_read.link here) ∙ none) count
            | false ↦ λ away.
                subst (λ (xs : List Record). HasRow xs (length rows) (rows_of link rows))
                (sym (with-cell link frames given record_read false one away ∙ append-nil (records_of link frames))) (counts.row link)
          ] in
          choice (same_link link record_read.link) refl;
    }

-- A cell.
counts-cell : (frames : List (Result Record SkippedBlock)) (given : Result Record SkippedBlock) (state : LinksState) (record_read : Record)
    → cell_record given ≡ record_read ∷ [] → Counts frames state.rows
    → (known : Option LinkTally) → link_tally_of record_read.link state.rows ≡ known
    → Counts (frames ++ given ∷ []) (links_cell_with state record_read (tally_after state.rows record_read known)).rows
counts-cell frames given state record_read one counts (Some tally) has =
    let link = record_read.link in
    let kept = length-kept link (one_more_cell tally record_read) tally state.rows has in
    put-in frames given state.rows record_read (one_more_cell tally record_read) one counts (omega (arith, kept, counts.few))
    (one-more (records_of link frames) (length state.rows) (length (with_row link (one_more_cell tally record_read) state.rows)) (rows_of link state.rows)
    link tally record_read (sym (tally-first link state.rows) ∙ has) (counts.row link))
counts-cell frames given state record_read one counts None none =
    let link = record_read.link in
    let opened = opening_tally record_read in
    elim (cases_lt (length state.rows) most_links) [
      | inl room ↦
          subst (λ b. Counts (frames ++ given ∷ []) (links_cell_with state record_read (cond b (Some opened) None)).rows) (sym (lt-ltb (length state.rows) most_links room))
          (put-in frames given state.rows record_read opened one counts (omega (arith, room, length-with link opened state.rows))
          (one-new (records_of link frames) (length state.rows) (length (with_row link opened state.rows)) (rows_of link state.rows)
          link record_read (sym (tally-first link state.rows) ∙ none) room (counts.row link)))
      | inr full ↦
          subst (λ b. Counts (frames ++ given ∷ []) (links_cell_with state record_read (cond b (Some opened) None)).rows) (sym (le-ltb (length state.rows) most_links full))
          (left-out frames given state.rows record_read one counts none full)
    ]

-- A frame without a cell.
counts-none : (frames : List (Result Record SkippedBlock)) (given : Result Record SkippedBlock) (rows : List (Link × LinkTally)) → cell_record given ≡ []
    → Counts frames rows → Counts (frames ++ given ∷ []) rows
counts-none frames given rows none counts = record {
  few = counts.few;
  row = λ link. subst (λ (xs : List Record). HasRow xs (length rows) (rows_of link rows)) (sym (without-cell link frames given none)) (counts.row link);
}

counts-content : (frames : List (Result Record SkippedBlock)) (state : LinksState) (record_read : Record) (content : Result (List ℕ) NoCell)
    → record_read.content ≡ content → Counts frames state.rows → Counts (frames ++ Ok record_read ∷ []) (links_content state record_read content).rows
counts-content frames state record_read (Ok cell) is counts =
    counts-cell frames (Ok record_read) state record_read (ap (if_cell record_read) is) counts (link_tally_of record_read.link state.rows) refl
counts-content frames state record_read (Err why) is counts =
    counts-none frames (Ok record_read) state.rows (ap (if_cell record_read) is) counts

counts-given : (frames : List (Result Record SkippedBlock)) (state : LinksState) (given : Result Record SkippedBlock) → Counts frames state.rows
    → Counts (frames ++ given ∷ []) (links_given state given).rows
counts-given frames state (Ok record_read) counts =
    counts-content frames (record state { summary = with_marked state.summary record_read.marks record_read.number }) record_read record_read.content refl counts
counts-given frames state (Err block) counts = counts-none frames (Err block) state.rows refl counts

counts-after : (before : List (Result Record SkippedBlock)) (state : LinksState) (frames : List (Result Record SkippedBlock)) → Counts before state.rows
    → Counts (before ++ frames) (links_after state frames).rows
counts-after before state [] counts = subst (λ (xs : List (Result Record SkippedBlock)). Counts xs state.rows) (sym (append-nil before)) counts
counts-after before state (given ∷ frames) counts =
    subst (λ (xs : List (Result Record SkippedBlock)). Counts xs (links_after (links_given state given) frames).rows) (append_assoc before (given ∷ []) frames)
    (counts-after (before ++ given ∷ []) (links_given state given) frames (counts-given before state given counts))

counts-all : (frames : List (Result Record SkippedBlock)) → Counts frames (links_after no_links frames).rows
counts-all frames = counts-after [] no_links frames (record { few = omega arith; row = λ link. inl refl })

pub links-counted : LinksAreCounted
links-counted frames link = (counts-all frames).row link

pub rows-few : RowsAreFew
rows-few frames = (counts-all frames).few

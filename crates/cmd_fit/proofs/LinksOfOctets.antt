-- The links of octets: each frame leads from the text of what follows to that of the whole. A file has one text.
use Rattle.std.proofs.Common.{◌≡◌, ◌≤◌, ◌<◌, ◌^◌, ℕ, List, [], ◌∷◌, ◌++◌, length, drop, Option, Some, None, Result, refl, ap, ap₂, sym, ◌∙◌, subst, arith}
use Rattle.std.proofs.lemmas.List.{drop-append-le, length-drop}
use Rattle.captures.proofs.Public.{faults_end, file_decided, file_opened, frames_in_order, header_within, one_reading, some_reading}
use Rattle.captures.specs.Frames.{first_frame, format_start}
use Rattle.captures.specs.Opening.{file_opening, opening_of}
use Rattle.captures.specs.Reading.{ComesNext, EndsReading, TakesFrame}
use Rattle.captures.specs.declared.fault.Fault.{Fault}
use Rattle.captures.specs.declared.format.Format.{Format}
use Rattle.captures.specs.declared.opening.FileFault.{FileFault}
use Rattle.captures.specs.declared.opening.Opening.{Opening}
use Rattle.captures.specs.declared.opening.Opening.TheVariants.{Opened, Undecided, Refused}
use Rattle.captures.specs.declared.reader.Next.TheVariants.{Broken}
use Rattle.captures.specs.declared.reader.SkippedBlock.{SkippedBlock}
use Rattle.captures.specs.declared.reader.Reader.{Reader}
use Rattle.captures.specs.declared.reader.Record.{Record}
use Rattle.captures_text.specs.CaptureFaults.{file_fault_line}
use Rattle.captures_text.specs.CaptureText.{done_at, short_fault}
use Rattle.text_io.specs.declared.ending.Done.{Done}
use Rattle.text_io.specs.declared.ending.Done.TheVariants.{Ended}
use Rattle.cmd_fit.specs.LinkTallies.{LinksState, links_after, links_given, no_links}
use Rattle.cmd_fit.specs.inner.LinkStates.{links_state}
use Rattle.cmd_fit.specs.LinksText.{IsLinksFrom, IsLinksOpened, IsLinksText, links_lines}
use Rattle.cmd_fit.specs.declared.link_table.LinkTable.{LinkTable}
use Rattle.cmd_fit.specs.declared.links_reading.LinksReading.{LinksReading}
use Rattle.cmd_fit.specs.inner.LinksSteps.{ReadsFrame, LinksHere, WantsMore}

-- A frame more.
pub frame_before : (state : LinksState) (before after : Reader) (given : Result Record SkippedBlock) (octets more text : List ℕ) (own : ℕ) (done : Done)
    → TakesFrame before octets given own after
    → IsLinksFrom (links_given state given) after.format after.count after.at (drop own octets ++ more) text done
    → IsLinksFrom state before.format before.count before.at (octets ++ more) text done
frame_before state before after given octets more text own done takes has =
    (given ∷ has.0, has.1, frames_in_order before after octets more given own has.0 has.1 takes has.2, has.3, has.4)

-- A fault.
pub fault_before : (state : LinksState) (before after : Reader) (fault : Fault) (octets more : List ℕ) → ComesNext before octets (Broken fault) after
    → IsLinksFrom state before.format before.count before.at (octets ++ more) (links_lines state (Some fault)) Ended
fault_before state before after fault octets more next = ([], Some fault, faults_end before after octets more fault next, refl, refl)

-- The end of the octets.
pub end_before : (state : LinksState) (format : Format) (count at : ℕ) (octets : List ℕ) (ending : Option Fault) → EndsReading format at octets ending
    → IsLinksFrom state format count at octets (links_lines state ending) (done_at ending)
end_before state format count at octets ending ends = ([], ending, ends, refl, refl)

-- Any octets have a text.
pub some_from : (state : LinksState) (format : Format) (count at : ℕ) (octets : List ℕ) → (text : List ℕ) × (done : Done) × IsLinksFrom state format count at octets text done
some_from state format count at octets =
    let read = some_reading format count at octets in
    (links_lines (links_after state read.0) read.1, done_at read.1, (read.0, read.1, read.2, refl, refl))

-- They have no other.
pub one_from : (state : LinksState) (format : Format) (count at : ℕ) (octets one other : List ℕ) (ends other_ends : Done)
    → IsLinksFrom state format count at octets one ends → IsLinksFrom state format count at octets other other_ends → (one ≡ other) × (ends ≡ other_ends)
one_from state format count at octets one other ends other_ends first second =
    let same = one_reading format count at octets first.0 second.0 first.1 second.1 first.2 second.2 in (
      first.3 ∙ ap₂ (λ (frames : List (Result Record SkippedBlock)) (ending : Option Fault). links_lines (links_after state frames) ending) same.0 same.1 ∙ sym second.3,
      first.4 ∙ ap done_at same.1 ∙ sym second.4,
    )

opened_some : (octets : List ℕ) (opening : Opening) → (text : List ℕ) × (done : Done) × IsLinksOpened octets opening text done
opened_some octets (Opened format) = some_from no_links format 0 (format_start format) (drop (format_start format) octets)
opened_some octets Undecided = (links_lines no_links (Some (short_fault octets)), Ended, (refl, refl))
opened_some octets (Refused fault) = (file_fault_line fault, Ended, (refl, refl))

opened_one : (octets : List ℕ) (opening : Opening) (one other : List ℕ) (ends other_ends : Done) → IsLinksOpened octets opening one ends
    → IsLinksOpened octets opening other other_ends → (one ≡ other) × (ends ≡ other_ends)
opened_one octets (Opened format) one other ends other_ends first second =
    one_from no_links format 0 (format_start format) (drop (format_start format) octets) one other ends other_ends first second
opened_one octets Undecided one other ends other_ends first second = (first.0 ∙ sym second.0, first.1 ∙ sym second.1)
opened_one octets (Refused fault) one other ends other_ends first second = (first.0 ∙ sym second.0, first.1 ∙ sym second.1)

pub some_links : (octets : List ℕ) → (text : List ℕ) × (done : Done) × IsLinksText octets text done
some_links octets = opened_some octets (file_opening octets)

pub one_links : (octets one other : List ℕ) (ends other_ends : Done) → IsLinksText octets one ends → IsLinksText octets other other_ends
    → (one ≡ other) × (ends ≡ other_ends)
one_links octets one other ends other_ends first second = opened_one octets (file_opening octets) one other ends other_ends first second

-- A file that is this has the text of it.
by_opening : (octets text : List ℕ) (opening : Opening) (done : Done) → file_opening octets ≡ opening → IsLinksOpened octets opening text done → IsLinksText octets text done
by_opening octets text opening done is printed = subst (λ (o : Opening). IsLinksOpened octets o text done) (sym is) printed

-- A file that isn't read.
pub refused_links : (octets more : List ℕ) (fault : FileFault) → file_opening octets ≡ Refused fault → (opening_of octets ≡ Undecided → more ≡ [])
    → IsLinksText (octets ++ more) (file_fault_line fault) Ended
refused_links octets more fault is none =
    by_opening (octets ++ more) (file_fault_line fault) (Refused fault) Ended (file_decided octets more (Refused fault) is none) (refl, refl)

-- A file that is too short.
pub short_links : (octets : List ℕ) → file_opening octets ≡ Undecided → IsLinksText octets (links_lines no_links (Some (short_fault octets))) Ended
short_links octets is = by_opening octets (links_lines no_links (Some (short_fault octets))) Undecided Ended is (refl, refl)

-- A capture.
pub opened_links : (reading : LinksReading) (format : Format) (near : List ℕ) → file_opening near ≡ Opened format
    → reading.reader.format ≡ format → reading.reader.count ≡ 0 → reading.reader.at ≡ format_start format → links_state reading.table ≡ no_links
    → reading.window ≡ drop (format_start format) near → (more text : List ℕ) (done : Done)
    → LinksHere reading (reading.window ++ more) text done → IsLinksText (near ++ more) text done
opened_links reading format near is formats counts places empty dropped more text done printed =
    let opened : opening_of near ≡ Opened format = file_opened near format is in
    let decided : opening_of near ≡ Undecided → more ≡ [] = λ none. let bad : Opened format ≡ Undecided = sym opened ∙ none in cc in
    let within : format_start format ≤ length near = header_within near format opened in
    let later = reading.window in
    let octets : later ++ more ≡ drop (format_start format) (near ++ more) =
    ap (λ xs. xs ++ more) dropped ∙ sym (drop-append-le (format_start format) near more within)
    in
    by_opening (near ++ more) text (Opened format) done (file_decided near more (Opened format) is decided)
    (subst (λ (xs : List ℕ). IsLinksFrom no_links format 0 (format_start format) xs text done) octets
    (subst (λ (n : ℕ). IsLinksFrom no_links format 0 n (later ++ more) text done) places
    (subst (λ (n : ℕ). IsLinksFrom no_links format n reading.reader.at (later ++ more) text done) counts
    (subst (λ (f : Format). IsLinksFrom no_links f reading.reader.count reading.reader.at (later ++ more) text done) formats
    (subst (λ (s : LinksState). IsLinksFrom s reading.reader.format reading.reader.count reading.reader.at (later ++ more) text done) empty printed)))))

-- A step of the reading: what follows is said as before it.
pub step_leads : (before after : LinksReading) → ReadsFrame before after → (more text : List ℕ) (done : Done)
    → LinksHere after (after.window ++ more) text done → LinksHere before (before.window ++ more) text done
step_leads before after on more text done has =
    frame_before (links_state before.table) before.reader after.reader on.given before.window more text on.own done on.takes
    (subst (λ (s : LinksState). IsLinksFrom s after.reader.format after.reader.count after.reader.at (drop on.own before.window ++ more) text done) on.counted
    (subst (λ (xs : List ℕ). LinksHere after (xs ++ more) text done) on.window has))

-- A frame makes what waits shorter, and no place of a frame is past 64 bits.
pub goes_shorter : (before after : LinksReading) (most : ℕ) → ReadsFrame before after → length before.window ≤ most → length after.window ≤ most
goes_shorter before after most on few = omega (arith, few, ap length on.window, length-drop on.own before.window)

pub goes_near : (before after : LinksReading) → ReadsFrame before after → after.reader.at < 2 ^ 64
goes_near before after on = omega (arith, on.takes.at, on.takes.near)

-- Where more octets are wanted, what follows is said as before.
pub wants_leads : (before after : LinksReading) → WantsMore before after → (more text : List ℕ) (done : Done)
    → LinksHere after (after.window ++ more) text done → LinksHere before (before.window ++ more) text done
wants_leads before after wants more text done has =
    subst (λ (xs : List ℕ). LinksHere before (xs ++ more) text done) wants.window
    (subst (λ (n : ℕ). IsLinksFrom (links_state before.table) before.reader.format before.reader.count n (after.window ++ more) text done) wants.place.at
    (subst (λ (n : ℕ). IsLinksFrom (links_state before.table) before.reader.format n after.reader.at (after.window ++ more) text done) wants.place.count
    (subst (λ (f : Format). IsLinksFrom (links_state before.table) f after.reader.count after.reader.at (after.window ++ more) text done) wants.place.format
    (subst (λ (t : LinkTable). IsLinksFrom (links_state t) after.reader.format after.reader.count after.reader.at (after.window ++ more) text done) wants.table has))))

-- There, the octets that wait begin with no frame.
pub wants_none : (before after : LinksReading) (near : List ℕ) → WantsMore before after → near ≡ after.window
    → first_frame after.reader.format after.reader.at near ≡ None
wants_none before after near wants same =
    subst (λ (xs : List ℕ). first_frame after.reader.format after.reader.at xs ≡ None) (sym (same ∙ wants.window))
    (subst (λ (n : ℕ). first_frame after.reader.format n before.window ≡ None) (sym wants.place.at)
    (subst (λ (f : Format). first_frame f before.reader.at before.window ≡ None) (sym wants.place.format) wants.none))

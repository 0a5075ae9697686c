-- Sentences about fault lines of captures, of links, of ticks and of sizes, which have no text with the faulty place.
use Rattle.std.specs.Prelude.{◌≡◌, ◌==◌, if◌then◌else◌, ℕ, List, [], ◌∷◌, ◌++◌, codes, flat_map, get_or, Option, Some, None}
use Rattle.std.specs.Str.{bytes_eq}
use Rattle.bpf_asm.specs.SourceLines.{source_lines}
use Rattle.cmd_explain_script.specs.Tables.{value_among}
use Rattle.text_io.specs.Gathered.{AnswersGathered, gathered}
use Rattle.text_io.specs.Words.{words_of}
use Rattle.text_io.specs.declared.ending.Done.{Done}
use Rattle.text_io.specs.declared.ending.Done.TheVariants.{Ended}
use Rattle.text_words.specs.FaultLines.{line, too_long}

-- The family, the number and the name of each fault, and its sentence. In a sentence `%` stands for the first number of the fault line, and
-- `@` for the second.
abbrev pub fault_sentences : List (List ℕ × List ℕ)
fault_sentences =
    (codes "file 1 Gzip", codes "gzip compressed this file: pass it through gunzip first")
    ∷ (codes "file 2 OtherLink", codes "the packets of this pcap file have link type %, and only 197, ERF, is read")
    ∷ (codes "file 3 Text", codes "this file is a text, and no capture")
    ∷ (codes "file 4 Xz", codes "xz compressed this file: pass it through unxz first")
    ∷ (codes "file 5 Bzip2", codes "bzip2 compressed this file: pass it through bunzip2 first")
    ∷ (codes "file 6 Zstd", codes "zstd compressed this file: pass it through unzstd first")
    ∷ (codes "file 7 Empty", codes "the input has no octets: perhaps the program before it in a pipe wrote nothing")
    ∷ (codes "link 1 Several", codes "the cells are of link % and of link @, perhaps two lines: choose one by --link; upc-lab links lists all")
    ∷ (codes "capture 1 CutOff", codes "the file ends inside what begins at octet %: perhaps the recording or a copy of it was cut off")
    ∷ (codes "capture 2 ShortLength", codes "what begins at octet @ has length %: a record has 16 octets or more, and a block 12; perhaps octets before it are lost")
    ∷ (codes "capture 3 LongLength", codes "what begins at octet @ has length %: a record has at most 65535 octets, and a block 131072; perhaps octets before it are lost")
    ∷ (codes "capture 4 ShortRecord", codes "the packet at octet % has no whole header of an ERF record")
    ∷ (codes "capture 5 TooFar", codes "what begins at octet % would end after 2^64 - 1 octets")
    ∷ (codes "capture 6 OddLength", codes "the block at octet @ has length %, which is no multiple of 4")
    ∷ (codes "capture 7 LengthsDiffer", codes "the block at octet @ has one length at its beginning, and % at its end")
    ∷ (codes "capture 8 OtherMagic", codes "the section header at octet @ has the byte-order magic %, which is that of no order")
    ∷ (codes "capture 9 OtherVersion", codes "the section header at octet @ has version %, and only version 1 is read")
    ∷ (codes "capture 10 ShortBlock", codes "the block at octet @ has % octets, too few for its type")
    ∷ (codes "capture 11 OtherLink", codes "the interface described at octet @ has link type %; after 64 interfaces of a section only 197, ERF, is read")
    ∷ (codes "capture 12 NoInterface", codes "the packet at octet @ names interface %, which its section lacks")
    ∷ (codes "capture 13 LongPacket", codes "the packet at octet @ has length %, and its block is shorter")
    ∷ (codes "capture 14 ShortText", codes "the file has fewer than 16 octets, and they are text")
    ∷ (codes "capture 15 OtherResolution", codes "the interface described at octet @ has times of resolution %, in units too short for 64 bits: leave --time packet out")
    ∷ (codes "capture 16 OtherUnit", codes "the interface described at octet @ has times of resolution %, or with other seconds to add than interfaces before it: editcap -F nsecpcap gives all one unit")
    ∷ (codes "fit 1 TooManyConnections", codes "the cell of record % is of a 65,536th connection, and there is room for 65,535")
    ∷ (codes "fit 2 TooLarge", codes "after the cell of record % a number has more than 64 bits: the increment is far too large")
    ∷ (codes "tick 1 Differs", codes "the setup says that a tick has % ns, and --tick says @: leave one out")
    ∷ (codes "size 1 BadLine", codes "a contract is cbr1 pcr RATE cdvt TIME tick TIME; of vbr1, vbr2 and vbr3, scr RATE mbs NUMBER come before cdvt")
    ∷ (codes "size 2 BadNumber", codes "a RATE is as 10000 or 149.76Mbit/s, a TIME as 250us, and a tick has 1ns to 1s")
    ∷ (codes "size 3 ZeroRate", codes "a rate is 0")
    ∷ (codes "size 4 TooFast", codes "a rate is above one cell in a tick: name a shorter tick")
    ∷ (codes "size 5 ZeroMbs", codes "mbs is 0, and a burst has one cell at least")
    ∷ (codes "size 6 PeakSlower", codes "in ticks of this length, scr is above pcr")
    ∷ (codes "size 7 TooLarge", codes "a limit is above 2^48 ticks: name a longer tick") ∷ []

-- What an octet of a sentence stands for, where these are the two numbers.
abbrev pub meant_octet : List ℕ → List ℕ → ℕ → List ℕ
meant_octet first second octet = if octet == 37 then first else if octet == 64 then second else octet ∷ []

-- A sentence with these numbers in place of its marks.
abbrev pub with_numbers : List ℕ → List ℕ → List ℕ → List ℕ
with_numbers first second sentence = flat_map (meant_octet first second) sentence

-- The sentence with its numbers. If there is none, it is said which inputs of `explain` have one for the fault.
abbrev pub sentence_text : Option (List ℕ) → List ℕ → List ℕ → List ℕ
sentence_text None first second = codes "the script, the source or the rules themselves have a sentence for it: explain them"
sentence_text (Some sentence) first second = with_numbers first second sentence

-- The family, the number and the name, with spaces between them.
abbrev pub fault_key : List ℕ → List ℕ → List ℕ → List ℕ
fault_key family number name = family ++ (32 ∷ (number ++ (32 ∷ name)))

-- The answer to a line of this content and these words: a fault line and its sentence. Another line has none.
abbrev pub explained_words : List ℕ → List (List ℕ) → List ℕ
explained_words content [] = []
explained_words content (word ∷ []) = []
explained_words content (word ∷ family ∷ []) = []
explained_words content (word ∷ family ∷ number ∷ []) = []
explained_words content (word ∷ family ∷ number ∷ name ∷ numbers) =
    if bytes_eq word (codes "fault")
    then line content ++ line (sentence_text (value_among (fault_key family number name) fault_sentences) (get_or numbers 0 []) (get_or numbers 1 []))
    else []

-- The answer to a line of this content.
unfoldable pub explained_line : List ℕ → List ℕ
explained_line content = explained_words content (words_of content)

-- The answer to a text of fault lines. Other lines are passed over.
abbrev pub faults_text : List ℕ → List ℕ
faults_text octets = flat_map explained_line (source_lines octets)

-- The answer, and how the run ends: a fault line tells of a fault.
abbrev pub PrintsFaults : List ℕ → List ℕ → Done → Type 0
PrintsFaults octets text done = (text ≡ faults_text octets) × (done ≡ Ended)

-- The most octets of fault lines: 2^20.
abbrev pub most_fault_octets : ℕ
most_fault_octets = 1048576

-- The output for a text of fault lines, and how the run ends.
abbrev pub IsFaultsText : List ℕ → List ℕ → Done → Type 0
IsFaultsText octets text done = AnswersGathered too_long PrintsFaults (gathered most_fault_octets octets) text done

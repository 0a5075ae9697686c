-- What a file is, by its first octets.
use Rattle.std.specs.Prelude.{◌≡◌, ◌≢◌, ◌++◌, ◌/◌, ◌%◌, ◌==◌, ◌&&◌, ◌||◌, nat_le, nat_lt, if◌then◌else◌, Bool, ℕ, List, [], ◌∷◌, Option, None, Some, length, take, drop}
use Rattle.std.specs.List.{list_all}
use Rattle.byteorder.specs.Endian.{big_number}
use Rattle.captures.specs.Blocks.{section_begun}
use Rattle.captures.specs.Framing.{number_in_order}
use Rattle.captures.specs.PacketTimes.{times_begun, times_in}
use Rattle.captures.specs.declared.format.Format.TheVariants.{Erf, Pcap, PcapNg}
use Rattle.captures.specs.declared.format.Order.{Order}
use Rattle.captures.specs.declared.format.Order.TheVariants.{HighestFirst, LowestFirst}
use Rattle.captures.specs.declared.opening.FileFault.{FileFault}
use Rattle.captures.specs.declared.opening.FileFault.TheVariants.{Bzip2, Empty, Gzip, OtherLink, Text, Xz, Zstd}
use Rattle.captures.specs.declared.opening.Opening.{Opening}
use Rattle.captures.specs.declared.opening.Opening.TheVariants.{Opened, Undecided, Refused}

-- The first four octets of a file as a number, the highest first.
abbrev pub file_magic : List ℕ → ℕ
file_magic octets = big_number 4 octets

-- A pcap file with numbers in this order begins so. Its packets have times in microseconds or in nanoseconds.
abbrev pub is_pcap_magic : Order → ℕ → Bool
is_pcap_magic HighestFirst magic = magic == 0xa1b2c3d4 || magic == 0xa1b23c4d
is_pcap_magic LowestFirst magic = magic == 0xd4c3b2a1 || magic == 0x4d3cb2a1

-- The resolution of the times of packets of a pcap file that begins with this number: nanoseconds (9) or microseconds (6).
abbrev pub pcap_resolution : ℕ → ℕ
pcap_resolution magic = if magic == 0xa1b23c4d || magic == 0x4d3cb2a1 then 9 else 6

-- A pcapng file begins so.
abbrev pub is_pcapng_magic : ℕ → Bool
is_pcapng_magic magic = magic == 0x0a0d0d0a

-- The next four octets, in the same order.
abbrev pub file_number : List ℕ → ℕ
file_number octets = number_in_order HighestFirst (drop 4 octets)

-- A file that gzip compressed begins so (RFC 1952: its two octets, and the method).
abbrev pub is_gzip_magic : ℕ → Bool
is_gzip_magic magic = magic / 256 == 0x1f8b08

-- One that xz compressed: its six octets (The .xz File Format, 2.1.1.1).
abbrev pub is_xz_magic : ℕ → ℕ → Bool
is_xz_magic magic number = magic == 0xfd377a58 && number / 65536 == 0x5a00

-- One that bzip2 compressed: `BZh`, the size of its blocks, and the first octets of a block, or of the end if there is none.
abbrev pub is_bzip2_magic : ℕ → ℕ → Bool
is_bzip2_magic magic number = magic / 256 == 0x425a68 && (number == 0x31415926 || number == 0x17724538)

-- One that zstd compressed (RFC 8878, 3.1.1: its four octets).
abbrev pub is_zstd_magic : ℕ → Bool
is_zstd_magic magic = magic == 0x28b52ffd

-- A text that begins with the byte order mark of UTF-8, or with that of UTF-16 and two characters of Latin-1.
abbrev pub is_marked_text : ℕ → ℕ → Bool
is_marked_text magic number =
    magic / 256 == 0xefbbbf
    || (magic / 65536 == 0xfffe && magic % 256 == 0 && number / 65536 % 256 == 0)
    || (magic / 256 == 0xfeff00 && number / 16777216 == 0)

-- Why a file isn't read that begins with these two numbers and isn't one of the captures above, if the numbers show it.
abbrev pub fault_by : ℕ → ℕ → Option FileFault
fault_by magic number =
    if is_gzip_magic magic then Some Gzip
    else if is_xz_magic magic number then Some Xz
    else if is_bzip2_magic magic number then Some Bzip2
    else if is_zstd_magic magic then Some Zstd
    else if is_marked_text magic number then Some Text
    else None

-- A file that isn't read, or what it is otherwise.
abbrev pub refused_or : Option FileFault → Opening → Opening
refused_or None otherwise = otherwise
refused_or (Some fault) otherwise = Refused fault

-- The link type of a pcap file: the lower 16 bits of the number in octets 20 to 23.
abbrev pub pcap_link : Order → List ℕ → ℕ
pcap_link order octets = number_in_order order (drop 20 octets) % 65536

-- An octet of a text: a printable ASCII character, or one that ends a line or parts words.
abbrev pub is_text_octet : ℕ → Bool
is_text_octet octet = (nat_le 32 octet && nat_lt octet 127) || (nat_le 9 octet && nat_lt octet 14)

-- Octets of a text.
abbrev pub is_text : List ℕ → Bool
is_text = list_all is_text_octet

-- A text begins with 16 such octets. A record with a cell doesn't begin so: the lower seven bits of its octet 8 are 3 or 7.
abbrev pub begins_as_text : List ℕ → Bool
begins_as_text octets = is_text (take 16 octets)

-- What a pcap file with numbers in this order and times of this resolution is: its header has 24 octets.
abbrev pub pcap_opening : Order → ℕ → List ℕ → Opening
pcap_opening order resolution octets =
    if nat_lt (length octets) 24 then Undecided
    else if pcap_link order octets == 197 then Opened (Pcap order (times_in resolution))
    else Refused (OtherLink (pcap_link order octets))

-- What a file is that begins with this number of four octets. The first block of a pcapng file is a section header, which has the
-- order of the numbers, so that the order here is not read.
abbrev pub opening_by : ℕ → List ℕ → Opening
opening_by magic octets =
    if is_pcap_magic HighestFirst magic then pcap_opening HighestFirst (pcap_resolution magic) octets
    else if is_pcap_magic LowestFirst magic then pcap_opening LowestFirst (pcap_resolution magic) octets
    else if is_pcapng_magic magic then Opened (PcapNg (section_begun LowestFirst 0 (times_begun (times_in 6))))
    else refused_or (fault_by magic (file_number octets)) (if begins_as_text octets then Refused Text else Opened Erf)

-- What a file is that begins with these octets. The first 16 octets decide, or the first 24 of a pcap file.
abbrev pub opening_of : List ℕ → Opening
opening_of octets = if nat_lt (length octets) 16 then Undecided else opening_by (file_magic octets) octets

-- What a whole file with these octets is. One without octets has no header of any format, and no record.
abbrev pub file_opening : List ℕ → Opening
file_opening [] = Refused Empty
file_opening (octet ∷ octets) = opening_of (octet ∷ octets)

-- What a file is stays once its first octets decided it, whatever follows them.
abbrev pub OpeningsStay : Type 0
OpeningsStay = (octets more : List ℕ) → opening_of octets ≢ Undecided → opening_of (octets ++ more) ≡ opening_of octets

-- What is wrong with a token of a line of rules, in words.
use Rattle.std.specs.Prelude.{ℕ, Bool, true, false, if◌then◌else◌, List, [], ◌++◌, codes}
use Rattle.std.specs.Str.{bytes_eq}
use Rattle.bpf_code.specs.declared.instr.Size.TheVariants as size
use Rattle.cmd_explain_rules.specs.declared.token_parts.Part.{Part}
use Rattle.cmd_explain_rules.specs.declared.token_parts.Part.TheVariants as part
use Rattle.cmd_explain_rules.specs.declared.token_parts.Subject.{Subject}
use Rattle.cmd_explain_rules.specs.declared.token_parts.Subject.TheVariants as about
use Rattle.cmd_explain_rules.specs.declared.spots.Place.{Place}
use Rattle.cmd_explain_rules.specs.declared.spots.Place.TheVariants as here
use Rattle.cmd_explain_rules.specs.declared.spots.Spot.{Spot}

-- What may come at a place. `defines` says whether the line begins with `define`.
abbrev pub expected : Bool → Place → List ℕ
expected defines here.Start = codes "a line begins with a test, `}`, `otherwise`, `side`, `contract` or `define`"
expected defines here.Unit = codes "a test comes here, as `vpi 1`, `1/32`, `oam` or a name"
expected false here.Operator = codes "`and`, `or`, `->` or `{` comes next"
expected true here.Operator = codes "`and`, `or` or the end of the line comes next"
expected defines here.Offset = codes "the offset of the octets comes next, a number"
expected defines here.Relation = codes "a number, a list, a sign or `&` comes after a field, as in `vci 5, 32..127`"
expected defines here.Mask = codes "a mask comes after `&`, a number"
expected defines here.Sign = codes "a number, a list or a sign comes after a mask, as in `& 0xf0 = 0x30`"
expected defines here.Constant = codes "a number comes after this sign"
expected false here.Dots = codes "`..`, `,`, `and`, `or`, `->` or `{` comes next"
expected true here.Dots = codes "`..`, `,` or the end of the line comes next, and in a test also `and` or `or`"
expected defines here.High = codes "the last number of a range comes after `..`"
expected false here.Comma = codes "`,`, `and`, `or`, `->` or `{` comes next"
expected true here.Comma = codes "`,` or the end of the line comes next, and in a test also `and` or `or`"
expected defines here.Low = codes "a number of a list comes next"
expected defines here.Slash = codes "a number that begins a test is a path, and `/` comes after it, as in `1/32`"
expected defines here.Channel = codes "the channels of the path come after `/`: a list, or `*` for all of them"
expected defines here.Arrow = codes "`->` comes after `otherwise`"
expected defines here.Value = codes "a value comes next: a number, the name of a contract, or `refuse`"
expected defines here.Side = codes "`uni` or `nni` comes after `side`"
expected defines here.End = codes "nothing more comes in this line"
expected defines here.NewName = codes "a new name comes next, which begins with a letter or `_`"
expected defines here.Equal = codes "`=` comes after a new name"
expected defines here.Body = codes "a test or a list of numbers comes after `=`"

-- Why a token begins no unit of a test.
abbrev pub unit_reason : Part → List ℕ
unit_reason (part.Field about.Gfc) = codes "between nodes (`side nni`) the header has no gfc"
unit_reason _ = expected false here.Unit

-- Why a token begins no line.
abbrev pub start_reason : Part → List ℕ
start_reason part.Otherwise = codes "`otherwise` comes outside of blocks, and a `}` ends a block"
start_reason part.Side = codes "`side` comes in the first line that has words"
start_reason part.Contract = codes "names are given before the first rule or block"
start_reason part.Define = codes "names are given before the first rule or block"
start_reason (part.Field about.Gfc) = unit_reason (part.Field about.Gfc)
start_reason _ = expected false here.Start

-- Why a token doesn't come after a unit of a test or a number of a list, or `other`.
abbrev pub joining_reason : List ℕ → List ℕ → List ℕ
joining_reason octets other =
    if bytes_eq octets (codes "-") then codes "a range is written with `..`, as in `32..127`" else (
    if bytes_eq octets (codes "&") then codes "tests are joined by `and` or `&&`; a mask comes right after a field" else (
    if bytes_eq octets (codes "|") then codes "tests are joined by `or` or `||`" else other))

-- Why a token isn't in a list, or `other`.
abbrev pub listing_reason : Part → List ℕ → List ℕ
listing_reason part.LeftBrace other = codes "a list has no braces, as in `vci 1, 2`"
listing_reason _ other = other

-- Why a token doesn't come at a place.
abbrev pub reason : Bool → Place → Part → List ℕ → List ℕ
reason defines here.Start token octets = start_reason token
reason defines here.Unit token octets = unit_reason token
reason defines here.Operator token octets = joining_reason octets (expected defines here.Operator)
reason defines here.Dots token octets = joining_reason octets (expected defines here.Dots)
reason defines here.Comma token octets = joining_reason octets (expected defines here.Comma)
reason defines here.Relation token octets = listing_reason token (expected defines here.Relation)
reason defines here.Sign token octets = listing_reason token (expected defines here.Sign)
reason defines here.Low token octets = listing_reason token (expected defines here.Low)
reason defines here.Channel token octets = listing_reason token (expected defines here.Channel)
reason defines here.Body token octets = listing_reason token (expected defines here.Body)
reason defines place token octets = expected defines place

-- The greatest number that may come after a field.
abbrev pub greatest : Subject → List ℕ
greatest about.Gfc = codes "gfc is at most 15"
greatest about.Vpi = codes "vpi is at most 255, and between nodes (`side nni`) at most 4095"
greatest about.Vci = codes "vci is at most 65535"
greatest about.Pti = codes "pti is at most 7"
greatest about.Clp = codes "clp is at most 1"
greatest (about.Octets size.Octet) = codes "one octet is at most 255"
greatest (about.Octets size.Half) = codes "two octets are at most 65535"
greatest (about.Octets size.Word) = codes "four octets are at most 4294967295"

-- What is said of the last number of a range.
abbrev pub range_words : Place → List ℕ
range_words here.High = codes "the last number of a range is at least its first, and "
range_words _ = []

-- What numbers at a place are compared with. A number where a new name gets its meaning is a path.
abbrev pub compared_at : Spot → Place → Subject
compared_at spot here.Body = about.Vpi
compared_at spot _ = spot.subject

-- The rule that a number at a place breaks.
abbrev pub number_reason : Spot → List ℕ
number_reason spot = range_words spot.place ++ greatest (compared_at spot spot.place)

-- What is said of a token whose number is too large: it is the number, or a name that means it.
abbrev pub too_large_words : Part → List ℕ
too_large_words part.Name = codes " means a number that doesn't fit here; "
too_large_words _ = codes " doesn't fit here; "

-- Which offsets may come after `octet`, `half` or `word`.
abbrev pub offsets : Subject → List ℕ
offsets (about.Octets size.Octet) = codes "`octet` takes an offset of 0 to 51"
offsets (about.Octets size.Half) = codes "`half` takes an offset of 0 to 50"
offsets (about.Octets size.Word) = codes "`word` takes an offset of 0 to 48"
offsets _ = codes "an offset is at most 51"

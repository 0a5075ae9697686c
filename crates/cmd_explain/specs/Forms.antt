-- The mnemonics and the forms of their operands.
use Rattle.std.specs.Prelude.{ℕ, ◌+◌, ◌==◌, Bool, false, if◌then◌else◌, List, [], ◌∷◌, codes, max, Option, Some, None}
use Rattle.std.specs.Option.{is_some}
use Rattle.std.specs.Str.{bytes_eq}
use Rattle.bpf_asm.specs.Numbers.{number_of_word}
use Rattle.cmd_explain_script.specs.FoundWords.{word_octets}
use Rattle.cmd_explain.specs.FoundTokens.{is_name}
use Rattle.cmd_explain.specs.declared.forms.Form.{Form}
use Rattle.cmd_explain.specs.declared.forms.Form.TheVariants as form
use Rattle.cmd_explain.specs.declared.forms.Shape.{Shape}
use Rattle.cmd_explain.specs.declared.forms.Shape.TheVariants as shape
use Rattle.cmd_explain.specs.declared.forms.Slot.{Slot}
use Rattle.cmd_explain.specs.declared.forms.Slot.TheVariants as slot
use Rattle.cmd_explain_script.specs.declared.found_words.FoundWord.{FoundWord}

-- Each mnemonic, and what it takes.
abbrev pub known_mnemonics : List (List ℕ × Form)
known_mnemonics =
    (codes "ld", form.Word) ∷ (codes "ldh", form.Packet) ∷ (codes "ldb", form.Packet) ∷ (codes "ldx", form.Index)
    ∷ (codes "ldxb", form.Header) ∷ (codes "st", form.Store) ∷ (codes "stx", form.Store)
    ∷ (codes "add", form.Operation) ∷ (codes "sub", form.Operation) ∷ (codes "mul", form.Operation) ∷ (codes "div", form.Operation)
    ∷ (codes "mod", form.Operation) ∷ (codes "and", form.Operation) ∷ (codes "or", form.Operation) ∷ (codes "xor", form.Operation)
    ∷ (codes "lsh", form.Operation) ∷ (codes "rsh", form.Operation)
    ∷ (codes "neg", form.Alone) ∷ (codes "tax", form.Alone) ∷ (codes "txa", form.Alone) ∷ (codes "ret", form.Return)
    ∷ (codes "ja", form.Jump) ∷ (codes "jmp", form.Jump)
    ∷ (codes "jeq", form.Branch) ∷ (codes "jgt", form.Branch) ∷ (codes "jge", form.Branch) ∷ (codes "jset", form.Branch)
    ∷ (codes "jne", form.Inverse) ∷ (codes "jneq", form.Inverse) ∷ (codes "jlt", form.Inverse) ∷ (codes "jle", form.Inverse) ∷ []

-- Whether a number is this one.
abbrev pub spells_number : ℕ → Option ℕ → Bool
spells_number value None = false
spells_number value (Some number) = number == value

-- What may come after each mnemonic.
abbrev pub shapes_of : Form → List Shape
shapes_of form.Word = shape.Packet ∷ shape.Indexed ∷ shape.Constant ∷ shape.Negative ∷ shape.Scratch ∷ shape.Length ∷ []
shapes_of form.Packet = shape.Packet ∷ shape.Indexed ∷ []
shapes_of form.Index = shape.Constant ∷ shape.Negative ∷ shape.Scratch ∷ shape.Length ∷ shape.Header ∷ []
shapes_of form.Header = shape.Header ∷ []
shapes_of form.Store = shape.Scratch ∷ []
shapes_of form.Operation = shape.Constant ∷ shape.Negative ∷ shape.X ∷ []
shapes_of form.Alone = []
shapes_of form.Return = shape.Constant ∷ shape.Negative ∷ shape.A ∷ []
shapes_of form.Jump = shape.Label ∷ []
shapes_of form.Branch = shape.ConstantLabels ∷ shape.NegativeLabels ∷ shape.XLabels ∷ []
shapes_of form.Inverse = shape.ConstantLabel ∷ shape.NegativeLabel ∷ shape.XLabel ∷ []

-- The tokens of each shape. With two labels, the second and its comma may be left out.
abbrev pub slots_of : Shape → List Slot
slots_of shape.Packet = slot.Mark 91 ∷ slot.Number ∷ slot.Mark 93 ∷ []
slots_of shape.Indexed = slot.Mark 91 ∷ slot.X ∷ slot.Mark 43 ∷ slot.Number ∷ slot.Mark 93 ∷ []
slots_of shape.Constant = slot.Mark 35 ∷ slot.Number ∷ []
slots_of shape.Negative = slot.Mark 35 ∷ slot.Mark 45 ∷ slot.Number ∷ []
slots_of shape.Scratch = slot.M ∷ slot.Mark 91 ∷ slot.Number ∷ slot.Mark 93 ∷ []
slots_of shape.Length = slot.Mark 35 ∷ slot.Len ∷ []
slots_of shape.Header =
    slot.Four ∷ slot.Mark 42 ∷ slot.Mark 40 ∷ slot.Mark 91 ∷ slot.Number ∷ slot.Mark 93 ∷ slot.Mark 38 ∷ slot.Fifteen ∷ slot.Mark 41 ∷ []
slots_of shape.X = slot.X ∷ []
slots_of shape.A = slot.A ∷ []
slots_of shape.Label = slot.Name ∷ []
slots_of shape.ConstantLabel = slot.Mark 35 ∷ slot.Number ∷ slot.Mark 44 ∷ slot.Name ∷ []
slots_of shape.NegativeLabel = slot.Mark 35 ∷ slot.Mark 45 ∷ slot.Number ∷ slot.Mark 44 ∷ slot.Name ∷ []
slots_of shape.XLabel = slot.X ∷ slot.Mark 44 ∷ slot.Name ∷ []
slots_of shape.ConstantLabels = slot.Mark 35 ∷ slot.Number ∷ slot.Mark 44 ∷ slot.Name ∷ slot.Mark 44 ∷ slot.Name ∷ []
slots_of shape.NegativeLabels =
    slot.Mark 35 ∷ slot.Mark 45 ∷ slot.Number ∷ slot.Mark 44 ∷ slot.Name ∷ slot.Mark 44 ∷ slot.Name ∷ []
slots_of shape.XLabels = slot.X ∷ slot.Mark 44 ∷ slot.Name ∷ slot.Mark 44 ∷ slot.Name ∷ []

-- Whether the octets of a token may be in a slot.
abbrev pub fits_slot : Slot → List ℕ → Bool
fits_slot (slot.Mark octet) token = bytes_eq token (octet ∷ [])
fits_slot slot.X token = bytes_eq token (codes "x")
fits_slot slot.A token = bytes_eq token (codes "a")
fits_slot slot.M token = bytes_eq token (codes "M")
fits_slot slot.Len token = bytes_eq token (codes "len")
fits_slot slot.Four token = spells_number 4 (number_of_word token)
fits_slot slot.Fifteen token = spells_number 15 (number_of_word token)
fits_slot slot.Number token = is_some (number_of_word token)
fits_slot slot.Name token = is_name token

-- How many of the first tokens fit these slots.
abbrev pub fitting : List ℕ → List Slot → List FoundWord → ℕ
fitting text [] tokens = 0
fitting text (one ∷ slots) [] = 0
fitting text (one ∷ slots) (token ∷ tokens) = if fits_slot one (word_octets text token) then 1 + fitting text slots tokens else 0

-- The length of the longest prefix of the tokens that fits one of these shapes.
abbrev pub most_fitting : List ℕ → List Shape → List FoundWord → ℕ
most_fitting text [] tokens = 0
most_fitting text (one ∷ shapes) tokens = max (fitting text (slots_of one) tokens) (most_fitting text shapes tokens)

-- What a mnemonic takes, in words.
abbrev pub operands_text : Form → List ℕ
operands_text form.Word = codes "`[number]`, `[x+number]`, `#number`, `M[number]` or `#len`"
operands_text form.Packet = codes "`[number]` or `[x+number]`"
operands_text form.Index = codes "`#number`, `M[number]`, `#len` or `4*([number]&0xf)`"
operands_text form.Header = codes "`4*([number]&0xf)`"
operands_text form.Store = codes "`M[number]`"
operands_text form.Operation = codes "`#number` or `x`"
operands_text form.Alone = codes "no operand"
operands_text form.Return = codes "`#number` or `a`"
operands_text form.Jump = codes "a label"
operands_text form.Branch = codes "`#number` or `x`, and then `, label` or `, label, label`"
operands_text form.Inverse = codes "`#number` or `x`, and then `, label`"

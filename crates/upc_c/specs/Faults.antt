-- The errors that calls return.
use Rattle.std.specs.Prelude.{◌≡◌, ◌+◌, ◌*◌, ℕ}
use Rattle.upc_c.specs.declared.fault.UpcFault.{UpcFault}

-- An error with a kind, a number and a place, and nothing else.
abbrev pub plain_fault : ℕ → ℕ → ℕ → UpcFault
plain_fault kind number place = record { kind = kind; number = number; place = place; word = 0; code = 0; column = 0 }

-- The result of a call with this error: 256 times its kind, plus its number. It is 0 if there is no error.
abbrev pub call_result : UpcFault → ℕ
call_result fault = fault.kind * 256 + fault.number

-- No error.
abbrev pub no_fault : UpcFault
no_fault = plain_fault 0 0 0

-- What each call returns: the result of the error that it writes. If that is 0, the error is all zeros.
pub record AnswersCall (result : ℕ) (fault : UpcFault) : Type 0 where
  pub number : result ≡ call_result fault
  pub success : result ≡ 0 → fault ≡ no_fault

-- The kind of contract is none of the four: UPC_UNKNOWN_KIND.
abbrev pub unknown_kind : UpcFault
unknown_kind = plain_fault 1 3 0

-- A theoretical arrival time is above 2^62 + 2^49: UPC_LATE_LEVELS.
abbrev pub levels_too_late : UpcFault
levels_too_late = plain_fault 1 4 0

-- The moment is above 2^62: arrive 5 MomentTooLate.
abbrev pub moment_too_late : UpcFault
moment_too_late = plain_fault 8 5 0

-- The side is none of 0 to 3: UPC_UNKNOWN_SIDE.
abbrev pub unknown_side : UpcFault
unknown_side = plain_fault 1 5 0

-- An allocation failed: UPC_NO_MEMORY.
abbrev pub out_of_memory : UpcFault
out_of_memory = plain_fault 1 1 0

-- The buffer is too small: UPC_NO_ROOM. The place is the number of octets or entries that are needed.
abbrev pub no_room : ℕ → UpcFault
no_room needed = plain_fault 1 2 needed

-- The number of octets isn't a multiple of 8: decode 1 Ragged.
abbrev pub ragged : UpcFault
ragged = plain_fault 3 1 0

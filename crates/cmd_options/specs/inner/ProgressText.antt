-- What a terminal shows of how much of a capture was read.
use Rattle.std.specs.Prelude.{ℕ, List, ◌++◌, codes, decimal}

-- The text that takes the place of the one before it: this number of MiB was read. A MiB is 2^20 octets.
abbrev pub progress_text : ℕ → List ℕ
progress_text mebibytes = codes "\rupc-lab: " ++ (decimal mebibytes ++ codes " MiB read")

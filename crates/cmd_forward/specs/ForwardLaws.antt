-- What is proved of the cells that go on.
use Rattle.std.specs.Prelude.{◌≡◌, ℕ, true, List, [], ◌∷◌, ◌++◌, Option}
use Rattle.captures.specs.declared.link.Link.{Link}
use Rattle.leaky.specs.Arrivals.{Arrival}
use Rattle.leaky.specs.Contract.{Buckets, buckets_after, opening_buckets, verdict_of}
use Rattle.leaky.specs.declared.contract.Contract.{Contract}
use Rattle.leaky.specs.declared.verdict.Verdict.{Verdict}
use Rattle.leaky.specs.declared.verdict.Verdict.TheVariants.{Pass, Tag, Discard, Refuse}
use Rattle.text_io.specs.declared.ending.Done.{Done}
use Rattle.cmd_forward.specs.ForwardText.{IsForwarded}
use Rattle.cmd_forward.specs.declared.others.Others.{Others}

-- What a cell with this verdict is to the next policer: a passed cell arrives as it came, a tagged one with cell loss
-- priority 1, any other not.
abbrev pub leaving : Verdict → Arrival → List Arrival
leaving Pass arrival = arrival ∷ []
leaving Tag arrival = record arrival { clp = true } ∷ []
leaving Discard arrival = []
leaving Refuse arrival = []

-- What cells under one contract are to the next policer, at the same moments.
abbrev pub all_leaving : Contract → Buckets → List Arrival → List Arrival
all_leaving contract buckets [] = []
all_leaving contract buckets (arrival ∷ later) =
    leaving (verdict_of contract buckets arrival.clp arrival.moment) arrival
    ++ all_leaving contract (buckets_after contract buckets arrival.clp arrival.moment) later

-- Each of these cells passes.
abbrev pub AllPass : Contract → Buckets → List Arrival → Type 0
AllPass contract buckets [] = Unit {0}
AllPass contract buckets (arrival ∷ later) =
    (verdict_of contract buckets arrival.clp arrival.moment ≡ Pass)
    × AllPass contract (buckets_after contract buckets arrival.clp arrival.moment) later

-- What goes on conforms: under each contract, from empty buckets, the cells that go on all pass if they are judged once
-- more by the same contract, from empty buckets, at the same moments.
abbrev pub WhatWasForwardedConforms : Type 0
WhatWasForwardedConforms = (contract : Contract) (arrivals : List Arrival)
    → AllPass contract opening_buckets (all_leaving contract opening_buckets arrivals)

-- A setup script, times of its lines and a capture have one output and one report, although a card chooses the slots of programs and the
-- lines of connections, and drops the journal of a connection before any cell.
abbrev pub ForwardedOnce : Type 0
ForwardedOnce = (others : Others) (tick : ℕ) (link : Option Link) (script : List ℕ) (times : List (Option ℕ)) (octets one other report other_report : List ℕ) (ends other_ends : Done)
    → IsForwarded others tick link script times octets one report ends → IsForwarded others tick link script times octets other other_report other_ends
    → (one ≡ other) × (report ≡ other_report) × (ends ≡ other_ends)

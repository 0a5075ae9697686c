-- The invariant of a card's world after this number of lines of a script.
use Rattle.std.proofs.Common.{◌≡◌, ℕ, ◌+◌, ◌≤◌, ◌⊎◌, List, [], ◌++◌, length, Option, Some, None, option_map, sym, ap, ◌∙◌, subst, inl, inr, arith, append-nil}
use Rattle.std.specs.Option.{MatchOption}
use Rattle.leaky.specs.declared.verdict.Verdict.{Verdict}
use Rattle.upc_cell.specs.declared.side.Side.{Side}
use Rattle.upc_cell.specs.declared.vc.Vc.{Vc}
use Rattle.card_core.specs.Steps.{FindsNoMemory, IsRefused, Succeeds}
use Rattle.card_core.specs.World.{Connection, Loading, World, opening_world, times_given}
use Rattle.card_core.specs.declared.fault.DeskFault.{DeskFault}
use Rattle.card_core.specs.declared.reply.Reply.{Reply}
use Rattle.card_core.specs.declared.shape.Shape.{Shape}
use Rattle.card_core.specs.declared.step.Step.{Step}
use Rattle.text_card.specs.CardFaults.{desk_fault}
use Rattle.text_card.specs.Replies.{reply_text}
use Rattle.cmd_run.specs.RunText.{id_loaded}
use Rattle.text_script.specs.ScriptCommands.{Command}
use Rattle.cmd_run.proofs.one_script.Numbers.{AreOnce, names_of}
use Rattle.cmd_run.proofs.one_script.OpenPlaces.{AreApart, AreBelow}
use Rattle.cmd_run.proofs.one_script.Seen.{Seen, seen}
use Rattle.cmd_run.proofs.one_script.SeenConnections.{AreSetUpOnce, line_of}
use Rattle.cmd_run.proofs.one_script.SeenPrograms.{AreKnown, NameKnown}

-- The slot of a program.
abbrev pub slot_of : Loading → ℕ
slot_of loading = loading.id.slot

-- No id was given twice. Live programs have names, and each has a slot of its own. No slot was given more often than
-- there were lines.
pub record ProgramsHold (met bound : ℕ) (given live : List Loading) : Type 0 where
  pub once : AreOnce given
  pub known : AreKnown given live
  pub apart : AreApart slot_of live
  pub below : AreBelow slot_of bound live
  pub worn : (slot : ℕ) → times_given given slot ≤ met

-- Connections' programs have names, each virtual connection has one connection at most, and each connection has a line of its own.
pub record ConnectionsHold (bound : ℕ) (given : List Loading) (connections : List (Vc × Connection)) : Type 0 where
  pub known : NameKnown given connections
  pub once : AreSetUpOnce connections
  pub apart : AreApart line_of connections
  pub below : AreBelow line_of bound connections

-- The invariants of programs and connections hold after this number of lines.
pub record HoldsAfter (met : ℕ) (world : World) : Type 0 where
  pub programs : ProgramsHold met world.shape.programs world.loaded world.live
  pub connections : ConnectionsHold world.shape.lines world.loaded world.connections

pub opening-holds : (met : ℕ) (shape : Shape) → HoldsAfter met (opening_world shape)
opening-holds met shape = record {
  programs = record { once = tt; known = tt; apart = tt; below = tt; worn = λ slot. omega arith };
  connections = record { known = tt; once = tt; apart = tt; below = tt };
}

-- The invariant holds after a step that loads no program and counts as no line, if it holds after one more line.
pub holds-kept : (met : ℕ) (before after : World) → HoldsAfter met before → HoldsAfter (met + 1) after → after.loaded ≡ before.loaded → HoldsAfter met after
holds-kept met before after invariant later same = record {
  programs = record {
    once = later.programs.once;
    known = later.programs.known;
    apart = later.programs.apart;
    below = later.programs.below;
    worn = subst (λ (given : List Loading). (slot : ℕ) → times_given given slot ≤ met) (sym same) invariant.programs.worn;
  };
  connections = later.connections;
}

-- No line has more verdicts than this.
abbrev pub JudgedAtMost : ℕ → World → Type 0
JudgedAtMost most world = (line : ℕ) → length (world.verdicts line) ≤ most

pub programs-later : (met bound : ℕ) (given live : List Loading) → ProgramsHold met bound given live → ProgramsHold (met + 1) bound given live
programs-later met bound given live invariant = record {
  once = invariant.once;
  known = invariant.known;
  apart = invariant.apart;
  below = invariant.below;
  worn = λ slot. let worn = invariant.worn slot in omega arith;
}

-- The invariant holds after one more line.
pub holds-later : (met : ℕ) (world : World) → HoldsAfter met world → HoldsAfter (met + 1) world
holds-later met world invariant = record {
  programs = programs-later met world.shape.programs world.loaded world.live invariant.programs;
  connections = invariant.connections;
}

-- No line has more verdicts after a step that gives none.
pub judged-later : (most : ℕ) (before after : World) → JudgedAtMost most before → after.verdicts ≡ before.verdicts → JudgedAtMost (most + 1) after
judged-later most before after counted same line =
    let here : length (after.verdicts line) ≤ most = subst (λ (verdicts : ℕ → List Verdict). length (verdicts line) ≤ most) (sym same) (counted line) in
    omega arith

-- A line led from one world to another with this reply: its text is the given one, the view after it is the given one,
-- the invariant holds after one more line, and no cell is judged.
pub record Comes (met : ℕ) (before after : World) (reply : Reply) (found : Option (List ℕ)) (text : List ℕ) (to : Seen) : Type 0 where
  pub printed : found ≡ Some text
  pub shown : seen after ≡ to
  pub holds : HoldsAfter (met + 1) after
  pub named : names_of after.loaded ≡ names_of before.loaded ++ id_loaded reply
  pub judged : after.verdicts ≡ before.verdicts

-- The text for a command of the desk: that of its error, or this text if it has none.
abbrev pub answered : Option DeskFault → Option (List ℕ) → Option (List ℕ)
answered None found = found
answered (Some fault) found = desk_fault fault

-- The view after a command of the desk, with and without an error.
abbrev pub left : Option DeskFault → Seen → Seen → Seen
left None before after = after
left (Some fault) before after = before

-- The text of a reply that is known.
pub reprinted : (side : Side) (command : Command) (programs : ℕ) (reply known : Reply) (text : List ℕ) → reply ≡ known
    → reply_text side command programs reply ≡ Some text → reply_text side command programs known ≡ Some text
reprinted side command programs reply known text same printed = ap (reply_text side command programs) (sym same) ∙ printed

-- No name is given.
pub unnamed : (before after : World) (reply : Reply) → after.loaded ≡ before.loaded → id_loaded reply ≡ []
    → names_of after.loaded ≡ names_of before.loaded ++ id_loaded reply
unnamed before after reply same none =
    ap names_of same ∙ sym (ap (λ ids. names_of before.loaded ++ ids) none ∙ append-nil (names_of before.loaded))

-- The desk refuses with an error.
pub refused-comes : (met : ℕ) (before after : World) (reply : Reply) (fault : DeskFault) (text : List ℕ) → HoldsAfter met before
    → after ≡ before → id_loaded reply ≡ [] → desk_fault fault ≡ Some text → Comes met before after reply (desk_fault fault) text (seen before)
refused-comes met before after reply fault text invariant same none printed = record {
  printed = printed;
  shown = ap seen same;
  holds = subst (λ (world : World). HoldsAfter (met + 1) world) (sym same) (holds-later met before invariant);
  named = unnamed before after reply (ap (λ (world : World). world.loaded) same) none;
  judged = ap (λ (world : World). world.verdicts) same;
}

-- A step of the desk succeeds, fails to allocate, or is refused with the given error.
pub desk-split : (P : Option DeskFault → Type 0) (wrap : DeskFault → Reply) (found : Option DeskFault) (before after : World) (step : Step) (reply : Reply)
    → (Succeeds before step reply after → P None) → (FindsNoMemory before step reply after → P None)
    → ((fault : DeskFault) → IsRefused before step (wrap fault) reply after → P (Some fault))
    → MatchOption (option_map wrap found) (Succeeds before step reply after ⊎ FindsNoMemory before step reply after)
    (λ refused. IsRefused before step refused reply after) → P found
desk-split P wrap None before after step reply succeeds lacks refused (inl goes) = succeeds goes
desk-split P wrap None before after step reply succeeds lacks refused (inr none) = lacks none
desk-split P wrap (Some fault) before after step reply succeeds lacks refused is = refused fault is

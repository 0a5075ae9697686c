-- Lemmas for other crates.
use Rattle.std.proofs.Common.{ℕ, List, Option}
use Rattle.cmd_fit.specs.FitAsked.{IsFitAsked}
use Rattle.cmd_fit.specs.LinksText.{IsLinksText}
use Rattle.captures_text.specs.declared.fit_choice.FitChoice.{FitChoice}
use Rattle.cmd_fit.proofs.AskedTexts as asked
use Rattle.cmd_fit.proofs.LinksOfOctets as links
use Rattle.text_io.specs.declared.ending.Done.{Done}

-- A file has a text of `links`.
pub some_links_text : (octets : List ℕ) → (text : List ℕ) × (done : Done) × IsLinksText octets text done
some_links_text = links.some_links

-- A file has a text of `fit`, with or without a text of rules.
pub some_fit_text : (choice : FitChoice) (rules : Option (List ℕ)) (octets : List ℕ) → (text : List ℕ) × (done : Done) × IsFitAsked choice rules octets text done
some_fit_text = asked.some_asked
